-- from the entries to the whole table
use Rattle.std.proofs.Common.{◌≡◌, ℕ, ◌+◌, ◌-◌, ◌*◌, ◌<◌, true, cond, List, length, take, drop}
use Rattle.std.proofs.Common.{drop-drop, Ok, Err, Result, sym, ap, ◌∙◌, subst, arith}
use Rattle.std.proofs.lemmas.List.{take_rest, length-take, length-drop, length-map}
use Rattle.routine.specs.declared.kinds.SignalKind.{SignalKind}
use Rattle.routine.specs.declared.kinds.Statement.{Statement}
use Rattle.routine.specs.declared.refusals.Refusal.{Refusal}
use Rattle.routine.specs.declared.refusals.Refusal.TheVariants.{TableForm}
use Rattle.routine.specs.Kinds.{kinds, kind_at}
use Rattle.routine.specs.Layout.{headed, signal_count, statement_count, signal_bytes, record_bytes}
use Rattle.routine.specs.Layout.{signals_from, records_from, with_statements, with_signals, read_of}
use Rattle.routine.specs.Layout.{fits, Formed}
use Rattle.routine.proofs.Entries.{signals_length, records_length, records_fit}

-- xs and ys: the bytes of the signals and of the statements, as they are split off after the eighth
-- byte
module _
    (bytes xs ys : List ℕ) (g n : ℕ) (h : headed bytes ≡ true) (e : g ≡ signal_count bytes)
    (f : n ≡ statement_count bytes)
    (p : xs ≡ take g (take (length bytes - 8) (drop 8 bytes)))
    (q : ys ≡ drop g (take (length bytes - 8) (drop 8 bytes))) where
  first_part : xs ≡ signal_bytes bytes
  first_part = p ∙ ap (take g) (take_rest bytes 8) ∙ ap (λ (k : ℕ). take k (drop 8 bytes)) e

  last_part : ys ≡ record_bytes bytes
  last_part = q ∙ ap (drop g) (take_rest bytes 8) ∙ drop-drop g 8 bytes
      ∙ ap (λ (k : ℕ). drop (8 + k) bytes) e

  -- what is read, once the contents are right
  opened : (r : Result (List SignalKind) Refusal) → signals_from 0 xs ≡ r
      → read_of bytes ≡ with_signals bytes r
  opened r s =
      ap (λ b. cond b (with_signals bytes (signals_from 0 (signal_bytes bytes))) (Err TableForm)) h
      ∙ ap (with_signals bytes) (ap (signals_from 0) (sym first_part) ∙ s)

  stated : (r : Result (List Statement) Refusal) → records_from g n 0 ys ≡ r
      → records_from (signal_count bytes) (statement_count bytes) 0 (record_bytes bytes) ≡ r
  stated r s =
      subst (λ (k : ℕ). records_from k (statement_count bytes) 0 (record_bytes bytes) ≡ r) e
      (subst (λ (k : ℕ). records_from g k 0 (record_bytes bytes) ≡ r) f
      (ap (records_from g n 0) (sym last_part) ∙ s))

  module _ (gs : List SignalKind) (s : signals_from 0 xs ≡ Ok gs) where
    -- a bad record refuses the table
    pub bad_record : (x : Refusal) → records_from g n 0 ys ≡ Err x → read_of bytes ≡ Err x
    bad_record x t = opened (Ok gs) s ∙ ap (with_statements gs) (stated (Err x) t)

    module _ (ss : List Statement) (t : records_from g n 0 ys ≡ Ok ss) where
      -- good signals and statements are the table
      pub good : read_of bytes ≡ Ok (gs, ss)
      good = opened (Ok gs) s ∙ ap (with_statements gs) (stated (Ok ss) t)

      -- its form
      module _ (l : length bytes ≡ 8 + g + 4 * n) where
        pub signals_many : length gs ≡ g
        signals_many = signals_length xs 0 gs s ∙ ap length p
            ∙ simp (length-take, length-drop) (omega arith)

        pub statements_many : length ss ≡ n
        statements_many = records_length g n ys 0 n ss t
            (ap length q ∙ simp (length-take, length-drop) (omega arith))

        pub formed : (m : ℕ) → m ≡ g → Formed m (kinds ss)
        formed m o i k =
            let d : length (kinds ss) ≡ n =
            length-map ss (λ (x : Statement). x.kind) ∙ statements_many in
            let c : i < length ss = omega (arith, statements_many) in
            let b = records_fit g n ys 0 ss t i c in
            subst (λ (k : ℕ). fits k (length (kinds ss)) i (kind_at (kinds ss) i) ≡ true) (sym o)
            (subst (λ (k : ℕ). fits g k i (kind_at (kinds ss) i) ≡ true) (sym d)
            (subst (λ (k : ℕ). fits g n k (kind_at (kinds ss) i) ≡ true) (omega arith) b))
