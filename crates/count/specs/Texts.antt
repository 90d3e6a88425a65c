-- what is written of a closed instant
use Rattle.std.specs.Prelude.{ℕ, List}
use Rattle.rules.specs.Texts.{instant_text}
use Rattle.count.specs.declared.answers.Closing.{Closing}

abbrev pub closing_text : Closing → List ℕ
closing_text c = instant_text c.instant c.outputs c.status c.steps
