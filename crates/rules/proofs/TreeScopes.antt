-- what a tree binds, what it names, and that what is local is named in its scope alone
use Rattle.std.proofs.Common.{ℕ, ◌≡◌, ◌⊎◌}
use Rattle.rules.specs.Rules.{One, loop, kill, local, Tree, leaf, one, two, Leaf, nothing, stop}
use Rattle.rules.specs.Rules.{emit, wait, Two, sequence, parallel, when}

-- a statement inside is local to s
abbrev pub BindsOne : One → ℕ → Type 0
BindsOne loop s = ⊥
BindsOne (kill a) s = ⊥
BindsOne (local a) s = a ≡ s

abbrev pub Binds : Tree → ℕ → Type 0
Binds (leaf n k) s = ⊥
Binds (one n k p) s = BindsOne k s ⊎ Binds p s
Binds (two n k p q) s = Binds p s ⊎ Binds q s

-- a statement inside names s
abbrev pub NamesLeaf : Leaf → ℕ → Type 0
NamesLeaf nothing s = ⊥
NamesLeaf stop s = ⊥
NamesLeaf (emit a) s = a ≡ s
NamesLeaf (wait a) s = a ≡ s

abbrev pub NamesOne : One → ℕ → Type 0
NamesOne loop s = ⊥
NamesOne (kill a) s = a ≡ s
NamesOne (local a) s = a ≡ s

abbrev pub NamesTwo : Two → ℕ → Type 0
NamesTwo sequence s = ⊥
NamesTwo parallel s = ⊥
NamesTwo (when a) s = a ≡ s

abbrev pub Names : Tree → ℕ → Type 0
Names (leaf n k) s = NamesLeaf k s
Names (one n k p) s = NamesOne k s ⊎ Names p s
Names (two n k p q) s = NamesTwo k s ⊎ (Names p s ⊎ Names q s)

-- what is local to a part is named neither beside that part nor above it
abbrev pub Scoped : Tree → Type 0
Scoped (leaf n k) = Unit {0}
Scoped (one n k p) = ((s : ℕ) → Binds p s → ¬ (NamesOne k s)) × Scoped p
Scoped (two n k p q) =
    ((s : ℕ) → Binds p s → ¬ (NamesTwo k s ⊎ Names q s))
    × ((s : ℕ) → Binds q s → ¬ (NamesTwo k s ⊎ Names p s)) × Scoped p × Scoped q
