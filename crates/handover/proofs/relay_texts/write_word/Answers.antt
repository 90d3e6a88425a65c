use Rattle.std.proofs.Common.{rules}
use Rattle.rules.proofs.Hexadecimal.{written_hex}
use Rattle.handover.proofs.relay_texts.write_word.Goals as goal

pub returns : goal.returns
returns c = search (rules, written_hex)
