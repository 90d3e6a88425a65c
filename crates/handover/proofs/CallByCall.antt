-- a list of calls read one after another
use Rattle.std.proofs.Common.{◌≡◌, ℕ, suc, ◌+◌, ◌-◌, ◌<◌, ◌≤◌, List, [], ◌∷◌, ◌++◌, map, Some, None}
use Rattle.std.proofs.Common.{append_assoc, sym, ap, ◌∙◌, arith}
use Rattle.std.proofs.lemmas.List.{append-nil, map_push}
use Rattle.relay.specs.declared.call.Call.{Call}
use Rattle.relay.specs.Asked.{Asked, asked}
use Rattle.handover.specs.CallLists.{call_of, onto, calls_from}

-- the calls that are done, and at most n calls that are still to be read of the rest, are the whole
pub record Reads (done : List Asked) (n : ℕ) (rest : List ℕ)
    (whole : List Asked × List ℕ) : Type 0 where
  pub is : (done ++ (calls_from n rest).0, (calls_from n rest).1) ≡ whole

open_reads : (n i : ℕ) (rest : List ℕ) → i < n
    → calls_from (n - i) rest ≡ onto (call_of rest) (calls_from (n - (i + 1)))
unfolding calls_from
open_reads n i rest l = let e : n - i ≡ suc (n - (i + 1)) = omega arith in
    ap (λ (f : ℕ). calls_from f rest) e

-- one call more
pub reads_more : (calls more : List Call) (n i : ℕ) (rest next : List ℕ)
    (whole : List Asked × List ℕ) (x : Call) → i < n → Reads (map asked calls) (n - i) rest whole
    → call_of rest ≡ Some (asked x, next) → more ≡ calls ++ (x ∷ [])
    → Reads (map asked more) (n - (i + 1)) next whole
reads_more calls more n i rest next whole x l h e f =
    let r : calls_from (n - i) rest
    ≡ (asked x ∷ (calls_from (n - (i + 1)) next).0, (calls_from (n - (i + 1)) next).1) =
    open_reads n i rest l ∙ ap (λ o. onto o (calls_from (n - (i + 1)))) e in
    record {
      is = ap (λ (xs : List Asked).
          (xs ++ (calls_from (n - (i + 1)) next).0, (calls_from (n - (i + 1)) next).1))
          (ap (map asked) f ∙ map_push asked calls x)
          ∙ ap (λ (xs : List Asked). (xs, (calls_from (n - (i + 1)) next).1))
          (append_assoc (map asked calls) (asked x ∷ []) (calls_from (n - (i + 1)) next).0)
          ∙ ap (λ (p : List Asked × List ℕ). (map asked calls ++ p.0, p.1)) (sym r) ∙ h.is;
    }

-- a call that is cut off or unknown
pub reads_cut : (done : List Asked) (n i : ℕ) (rest : List ℕ) (whole : List Asked × List ℕ) → i < n
    → Reads done (n - i) rest whole → call_of rest ≡ None → (done, []) ≡ whole
reads_cut done n i rest whole l h e =
    let r : calls_from (n - i) rest ≡ ([], []) =
    open_reads n i rest l ∙ ap (λ o. onto o (calls_from (n - (i + 1)))) e in
    ap (λ (xs : List Asked). (xs, [])) (sym (append-nil done))
    ∙ ap (λ (p : List Asked × List ℕ). (done ++ p.0, p.1)) (sym r) ∙ h.is

-- all are read
pub reads_all : (done : List Asked) (n i : ℕ) (rest : List ℕ) (whole : List Asked × List ℕ) → n ≤ i
    → Reads done (n - i) rest whole → (done, rest) ≡ whole
unfolding calls_from
reads_all done n i rest whole l h =
    let e : 0 ≡ n - i = omega arith in
    ap (λ (xs : List Asked). (xs, rest)) (sym (append-nil done))
    ∙ ap (λ (f : ℕ). (done ++ (calls_from f rest).0, (calls_from f rest).1)) e ∙ h.is
