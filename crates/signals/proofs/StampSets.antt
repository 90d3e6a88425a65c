-- The set of a row of stamps.
use Rattle.std.specs.Prelude.{◌≡◌, ℕ, ◌+◌, ◌<◌, ◌≤◌, Bool, false, ◌≢◌, List, length, replicate}
use Rattle.std.specs.Prelude.{◌==◌, nat_eq, slice_index, slice_index_or, slice_set}
use Rattle.std.proofs.Common.{sym, ◌∙◌, ap, ⊎_elim, arith}
use Rattle.std.proofs.lemmas.List.FromFn.{get_or-map-range_with_len}
use Rattle.std.proofs.lemmas.List.{get_or-set_same, get_or-set_other, get_or-replicate}
use Rattle.std.proofs.lemmas.Bool.{ne_eqb, cases_eq}
use Rattle.signals.specs.Sets.{empty, stamp_set}
use Rattle.signals.proofs.Sets.{map-empty, map-set}

-- no stamp of the row is ahead of c
abbrev pub Bounded : List ℕ → ℕ → Type 0
Bounded xs c = (k : ℕ) → k < 64 → slice_index xs k ≤ c

-- a signal is in the set where its stamp is the current one
pub get_or-stamp_set : (xs : List ℕ) (c s : ℕ) → s < 64
    → slice_index_or (stamp_set xs c) s false ≡ (slice_index xs s == c)
unfolding stamp_set
get_or-stamp_set xs c s h =
    get_or-map-range_with_len (λ k. nat_eq (slice_index xs k) c) 0 64 s s false h (omega arith)

-- a stamp that no signal has makes the empty set
pub stamp_set-unused : (xs : List ℕ) (c : ℕ) → ((k : ℕ) → k < 64 → slice_index xs k ≢ c)
    → stamp_set xs c ≡ empty
unfolding stamp_set
stamp_set-unused xs c h =
    map-empty (λ k. nat_eq (slice_index xs k) c) (λ k l. ne_eqb (slice_index xs k) c (h k l))

-- the stamp after the current one makes the empty set
pub stamp_set-next : (xs : List ℕ) (c : ℕ) → Bounded xs c → stamp_set xs (c + 1) ≡ empty
stamp_set-next xs c b = stamp_set-unused xs (c + 1) (λ k l e. omega (arith, b k l))

-- a row that has one stamp throughout, and another is current
pub stamp_set-replicate : (x c : ℕ) → x ≢ c → stamp_set (replicate 64 x) c ≡ empty
stamp_set-replicate x c ne =
    stamp_set-unused (replicate 64 x) c (λ k l e. ne (sym (get_or-replicate 64 k x 0 l) ∙ e))

-- to give a signal the current stamp raises it, and to give it another lowers it
pub stamp_set-set : (xs : List ℕ) (c s x : ℕ) (v : Bool) → length xs ≡ 64 → s < 64 → (x == c) ≡ v
    → stamp_set (slice_set xs s x) c ≡ slice_set (stamp_set xs c) s v
unfolding stamp_set
stamp_set-set xs c s x v e h q =
    map-set (λ k. nat_eq (slice_index xs k) c)
    (λ k. nat_eq (slice_index (slice_set xs s x) k) c) s v h
    (ap (λ n. nat_eq n c) (get_or-set_same xs s x 0 (omega arith)) ∙ q)
    (λ k l ne. ap (λ n. nat_eq n c) (get_or-set_other xs s k x 0 ne))

-- a row of one stamp is bounded by what bounds that stamp
pub bounded_replicate : (x c : ℕ) → x ≤ c → Bounded (replicate 64 x) c
bounded_replicate x c h k l = omega (arith, get_or-replicate {A = ℕ} 64 k x 0 l)

-- a row stays bounded where a signal gets a stamp that is
pub bounded_set : (xs : List ℕ) (c s x : ℕ) → length xs ≡ 64 → s < 64 → x ≤ c → Bounded xs c
    → Bounded (slice_set xs s x) c
bounded_set xs c s x e h l b k m =
    ⊎_elim
    (λ q. omega (
      arith,
      ap (λ j. slice_index (slice_set xs s x) j) q,
      get_or-set_same xs s x 0 (omega arith),
    ))
    (λ ne. omega (arith, get_or-set_other xs s k x 0 ne, b k m))
    (cases_eq k s)
