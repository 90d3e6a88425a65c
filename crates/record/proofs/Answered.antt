-- an answer, and whether it is a refusal
use Rattle.std.proofs.Common.{◌≡◌, Some, None, Ok, Err, Option, refl}
use Rattle.record.specs.Answers.{answer}

-- what is answered by Ok was not refused
pub not_refused : {E X : Type 0} (o : Option E) (x y : X) → Ok x ≡ answer o y → o ≡ None
not_refused None x y h = refl
not_refused (Some e) x y h = cc

-- and is what there was to answer
pub answered : {E X : Type 0} (o : Option E) (x y : X) → Ok x ≡ answer o y → x ≡ y
answered None x y h = cc
answered (Some e) x y h = cc

-- what is answered by Err was refused for that reason
pub refused : {E X : Type 0} (o : Option E) (y : X) (e : E) → Err e ≡ answer o y → o ≡ Some e
refused None y e h = cc
refused (Some f) y e h = cc
