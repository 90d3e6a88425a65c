use Rattle.std.proofs.Common.{◌<◌, ◌+◌, List, Bool, false, sym, ap, ◌∙◌, subst, get_or, ext_get_or}
use Rattle.std.proofs.Common.{arith}
use Rattle.signals.specs.declared.board.TheConstants.{SIGNALS}
use Rattle.signals.specs.Sizes.{length-word_set}
use Rattle.signals.proofs.Sets.{get_or-empty}
use Rattle.signals.proofs.WordSets.{get_or-word_set}
use Rattle.count.specs.Calls.{bit}
use native.Mathlib.Decide.{dec_lt}
use Rattle.count.proofs.Shown.{Shown, shown_keep, shown_set, no_bit}
use Rattle.count.proofs.words.show.Goals as goal
use Rattle.count.proofs.words.show.Goals.{then-has_bit, else-has_bit}

pub loop-s-init : goal.loop-s-init
loop-s-init g c = record {
  done = λ k l. absurd (omega arith);
  ahead = λ k l. ap (λ (p : List Bool). get_or p k false) c.wipe.ensures ∙ get_or-empty k;
}

pub loop-s-preserved : goal.loop-s-preserved
loop-s-preserved g c =
    let s = c.loop-s in
    let P = g.B.Board.present in
    let f = bit c.args.word in
    elim c.if-has_bit.branch [
      | then-has_bit w ↦
          subst (Shown f (s.s + 1)) (sym (ap P w.board-is ∙ w.raise.ensures))
          (shown_set f s.s (P s.board) (g.met.B.Board.size s.board) (omega arith)
          (sym w.if-has_bit.ensures) s.invariant)
      | else-has_bit w ↦ subst (Shown f (s.s + 1)) (sym (ap P w.board-is))
          (shown_keep f s.s (P s.board) (sym w.if-has_bit.ensures) s.invariant)
    ]

pub returns : goal.returns
returns g c =
    let w = c.args.word in
    let e = g.met.B.Board.size c.loop-s.board in
    let i = c.loop-s.invariant in
    let n = c.width-s-end.ensures in
    ext_get_or false _ _ (e ∙ sym (length-word_set w)) (λ k l. let m : k < SIGNALS = omega arith in
    elim (dec_lt k c.loop-s.s) [
      | yes u ↦ i.done k u
      | no d ↦ i.ahead k (omega arith)
          ∙ sym (no_bit w c.width-s-end.result k n.within (omega arith))
    ] ∙ sym (get_or-word_set w k m))
