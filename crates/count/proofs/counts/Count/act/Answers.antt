use Rattle.std.proofs.Common.{ℕ, length, sym, ap, ◌∙◌, subst}
use Rattle.count.proofs.Sound.{checked, ready_applies, step_sound}
use Rattle.record.specs.Sound.{Within}
use Rattle.routine.specs.Layout.{fits}
use Rattle.count.specs.CountView.{kinds_of, signals_of}
use Rattle.count.proofs.Presence.{within_step, fits_at}
use Rattle.count.proofs.counts.Count.act.Goals as goal

pub fire-requires : goal.fire-requires
fire-requires g c =
    ready_applies c.args.self.now.rows _ c.args.k _ c.requires.ready
    c.own_signal_present-own_signal_present.ensures

pub invariant_of-self-clause-legal : goal.invariant_of-self-clause-legal
invariant_of-self-clause-legal g c =
    let s = c.args.self.now in
    step_sound s.phase s.rows _ _ c.args.k c.requires.live s.legal c.requires.ready c.fire.ensures

pub invariant_of-self-clause-within : goal.invariant_of-self-clause-within
invariant_of-self-clause-within g c =
    let s = c.args.self.now in
    let ks = kinds_of s in
    let f = fits_at (length (signals_of s)) ks c.args.k (checked s.rows).formed in
    subst (λ (n : ℕ). Within n (g.B.Board.present c.take_effect.new.board))
    (sym (ap length c.fire.ensures.signals))
    (subst (Within (length (signals_of s))) (sym c.take_effect.ensures)
    (within_step (length (signals_of s)) (length ks) c.args.k c.kind-kind.result
    (g.B.Board.present s.board)
    (ap (fits (length (signals_of s)) (length ks) c.args.k) c.kind-kind.ensures.value
    ∙ f) s.within))
