-- the theorem MarksStayLegal: legal marks stay legal, from the start on
use Rattle.std.proofs.Common.{Bool, ◌≡◌, true, not, ◌||◌, ◌&&◌, arith, false, List, length, ℕ, ◌<◌}
use Rattle.std.proofs.Common.{eqb, sym, ◌∙◌, replicate, subst, ap}
use Rattle.std.proofs.lemmas.Bool.{both_ways}
use Rattle.std.proofs.lemmas.List.{length-replicate}
use Rattle.routine.specs.declared.kinds.Kind.{Kind}
use Rattle.routine.specs.declared.kinds.SignalKind.{SignalKind}
use Rattle.routine.specs.Kinds.{shape_at}
use Rattle.routine.specs.Tree.{tree_at}
use Rattle.rules.specs.Legal.{Legal, row_legal}
use Rattle.rules.specs.Model.{first_marks, Config, Ready, stepped}
use Rattle.rules.specs.Rules.{Mark, is_live, at, reached, Idle, begun, ended}
use Rattle.rules.specs.Theorems.{Checked, MarksStayLegal}
use Rattle.rules.proofs.MarkedTrees.{live, LegalTree, rest, begin, after}
use Rattle.rules.proofs.LegalTrees.{rest_legal, begin_legal, after_legal}
use Rattle.rules.proofs.MarksIntoTrees.{marked}
use Rattle.rules.proofs.Frames.{begun_same, begun_kept}
use Rattle.rules.proofs.ClosedTrees.{close, ended_same, close_legal, ended_kept}
use Rattle.rules.proofs.IdleTrees.{rest_idle, all_idle}
use Rattle.rules.proofs.TableTests.{Table}
use Rattle.rules.proofs.SoundTrees.{Sound, sound}
use Rattle.rules.proofs.LegalByStatement.{root_live, from_legal, to_legal, rows}
use Rattle.rules.proofs.TestsPassed.{table}
use Rattle.rules.proofs.StepsOnTrees.{placed_step}
use Rattle.rules.proofs.OpenLocals.{no_open, nested, rest_closed, begin_closed, after_nested}
use Rattle.rules.proofs.OpenLocals.{close_closed}
use Rattle.rules.proofs.OpenStatements.{open_at, none_open, all_nested, open_reached}

put_together : (z l r o w : Bool) → l ≡ true → r ≡ true → (o ≡ true → w ≡ true)
    → ((not z || l) && (r && (not o || w))) ≡ true
put_together z l r o w a b c = grind arith

taken_apart : (z l r o w : Bool) → ((not z || l) && (r && (not o || w))) ≡ true → o ≡ true
    → w ≡ true
taken_apart z l r o w h e = grind arith

at_root : (l r : Bool) → ((not true || l) && r) ≡ true → l ≡ true
at_root l r h = grind arith

weaker : (z l r o w : Bool) → ((not z || l) && (r && (not o || (false && w)))) ≡ true
    → ((not z || l) && (r && (not o || (true && w)))) ≡ true
weaker z l r o w h = grind arith

module _ (gs : List SignalKind) (ks : List Kind) (C : Checked gs ks) where
  T : Table ks gs
  T = table gs ks C

  S : Sound (length ks) (tree_at ks 0)
  S = sound ks gs T

  live_root : (ms : List Mark) → live (marked (tree_at ks 0) ms) ≡ is_live (at ms 0)
  live_root ms = root_live ks T.shaped ms 0 T.some_row

  -- legal marks from what is known of the tree
  make : (in_instant : Bool) (ms : List Mark) → length ms ≡ length ks
      → LegalTree (marked (tree_at ks 0) ms) → live (marked (tree_at ks 0) ms) ≡ true
      → ((i : ℕ) → i < length ks → open_at ks ms i ≡ true
      → (in_instant && reached (tree_at ks 0) ms i) ≡ true) → Legal in_instant ks ms
  make in_instant ms l g v o =
      record {
        many = l;
        each = λ i m. put_together (eqb i 0) (is_live (at ms 0)) (row_legal ms i (shape_at ks i))
            (open_at ks ms i) (in_instant && reached (tree_at ks 0) ms i)
            (sym (live_root ms) ∙ v) (from_legal ks gs T ms g i m) (o i m);
      }

  -- where no local is open, there is nothing to show of open locals
  none_to_show : (ms : List Mark) → no_open (marked (tree_at ks 0) ms) ≡ true → (i : ℕ)
      → i < length ks → open_at ks ms i ≡ true
      → (false && reached (tree_at ks 0) ms i) ≡ true
  none_to_show ms h i m o =
      absurd (both_ways _ (none_open ks T.shaped T.once ms i 0 T.some_row (S.whole i m) h) o)

  nests : (ms : List Mark) → Legal true ks ms → nested (marked (tree_at ks 0) ms) ≡ true
  nests ms L =
      all_nested ks T.shaped T.once ms 0 T.some_row
      (λ i u o. taken_apart (eqb i 0) (is_live (at ms 0)) (row_legal ms i (shape_at ks i))
      (open_at ks ms i) (reached (tree_at ks 0) ms i) (L.each i (S.below i u)) o)

  starts : Legal false ks (first_marks ks)
  starts =
      let t = tree_at ks 0 in
      let os = replicate (length ks) Idle in
      let l = length-replicate (length ks) Idle in
      let i : rest (marked t os) ≡ marked t os = rest_idle t os (λ j u. all_idle (length ks) j) in
      let r = rest_legal (marked t os) in
      let n : no_open (marked t os) ≡ true =
      subst (λ u. no_open u ≡ true) i (rest_closed (marked t os)) in
      let e : marked t (begun t os) ≡ begin (marked t os) =
      begun_same (length ks) t os S.distinct S.below l in
      let b = begin_legal (marked t os) (subst LegalTree i r.0) (sym (ap live i) ∙ r.1) in
      make false (begun t os) ((begun_kept t os).length ∙ l) (subst LegalTree (sym e) b.0)
      (ap live e ∙ b.1)
      (none_to_show (begun t os) (ap no_open e ∙ begin_closed (marked t os) n))

  after_step : (c : Config) (i : ℕ) → Legal true ks c.0 → Ready ks c i
      → Legal true ks (stepped ks c i).0
  after_step c i L r =
      let t = tree_at ks 0 in
      let ms = (stepped ks c i).0 in
      let g = to_legal ks gs T c.0 (rows true ks c.0 L) in
      let x = placed_step gs ks C c i L r in
      let e : marked t ms ≡ after (marked t c.0) x.place = x.step.marks in
      let u = after_legal c.1 (marked t c.0) g x.place x.is_ready in
      let v = after_nested c.1 (marked t c.0) g (nests c.0 L) x.place x.is_ready in
      make true ms x.step.many (subst LegalTree (sym e) u.0) (ap live e ∙ u.1)
      (λ j m o. open_reached ks T.shaped T.once ms j 0 T.some_row (S.whole j m) (ap nested e ∙ v) o)

  after_end : (c : Config) → Legal true ks c.0 → Legal false ks (ended (tree_at ks 0) c.0 c.1)
  after_end c L =
      let t = tree_at ks 0 in
      let ms = ended t c.0 c.1 in
      let g = to_legal ks gs T c.0 (rows true ks c.0 L) in
      let e : marked t ms ≡ close c.1 (marked t c.0) =
      ended_same (length ks) c.1 t c.0 S.distinct S.below L.many in
      let u = close_legal c.1 (marked t c.0) g in
      let v : is_live (at c.0 0) ≡ true = at_root (is_live (at c.0 0)) _ (L.each 0 T.some_row) in
      make false ms ((ended_kept t c.0 c.1).length ∙ L.many) (subst LegalTree (sym e) u.0)
      (ap live e ∙ u.1 ∙ live_root c.0 ∙ v)
      (none_to_show ms (ap no_open e ∙ close_closed c.1 (marked t c.0) g))

  -- the theorem
  pub marks_stay_legal : MarksStayLegal gs ks
  marks_stay_legal =
      record {
        starts = starts;
        begins = λ ms L. record {
          many = L.many;
          each = λ i l. weaker (eqb i 0) (is_live (at ms 0)) (row_legal ms i (shape_at ks i))
              (open_at ks ms i) (reached (tree_at ks 0) ms i) (L.each i l);
        };
        steps = after_step;
        ends = after_end;
      }
