-- an answer that is a refusal or a value
use Rattle.std.specs.Prelude.{Some, None, Ok, Err, Option, Result}

-- refused for a reason, or else x
abbrev pub answer : {E X : Type 0} → Option E → X → Result X E
answer None x = Ok x
answer (Some e) x = Err e
