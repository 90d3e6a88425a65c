-- what is said of an argument that no program knows
use Rattle.std.specs.Prelude.{ℕ, List, ◌++◌, codes, string_bytes}
use Rattle.input.specs.declared.arguments.UnknownArgument.{UnknownArgument}

abbrev pub argument_text : UnknownArgument → List ℕ
argument_text e =
    codes "no arguments are taken, input comes from standard input: " ++ string_bytes e.argument
