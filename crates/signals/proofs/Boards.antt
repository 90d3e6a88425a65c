-- what the boards' functions need to know of sets
use Rattle.std.proofs.lemmas.Bool.{le-ltb}
use Rattle.std.proofs.lemmas.List.{set_past}
use Rattle.signals.specs.Sizes.{length-word_set, length-stamp_set}
use Rattle.signals.proofs.Sets.{get_or-above, set-above}
use Rattle.signals.proofs.WordSets.{word_set-zero, word_set-tested, word_set-lowered}
use Rattle.signals.proofs.WordSets.{word_set-raised}
use Rattle.signals.proofs.StampSets.{stamp_set-replicate, stamp_set-next, stamp_set-set}
use Rattle.signals.proofs.StampSets.{get_or-stamp_set, bounded_replicate, bounded_set}

pub ruleset boards = (
  word_set-zero,
  word_set-tested,
  word_set-lowered,
  word_set-raised,
  length-word_set,
  stamp_set-replicate,
  stamp_set-next,
  stamp_set-set,
  get_or-stamp_set,
  length-stamp_set,
  bounded_replicate,
  bounded_set,
  get_or-above,
  set-above,
  set_past,
  le-ltb,
)
