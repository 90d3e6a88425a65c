use Rattle.std.proofs.Common.{◌≡◌, ℕ, ◌+◌, ◌*◌, ◌-◌, ◌^◌, ◌<◌, ◌≤◌, sym, subst, arith}
use Rattle.std.proofs.lemmas.Nat.{leading_length}
use lib.Count.{count_leading_zeros}
use Rattle.count.proofs.words.width.Goals as goal

pub returns : goal.returns
returns c =
    let w = c.args.word in
    let h = leading_length 64 w (omega arith) in
    let e : 64 - count_leading_zeros 64 w ≡ h.0 = omega (arith, h.1) in
    record {
      short = omega arith;
      within = subst (λ (n : ℕ). w < 2 ^ n) (sym e) h.2;
      highest = subst (λ (n : ℕ). 2 ^ n ≤ 2 * w + 1) (sym e) h.3;
    }
