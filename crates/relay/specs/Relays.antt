-- what a relay gives back, and what its listeners hear
use Rattle.std.specs.Prelude.{◌≡◌, Bool, List, ◌∷◌, length, vec_items}
use Rattle.routine.specs.declared.kinds.Kind.{Kind}
use Rattle.routine.specs.declared.kinds.Mark.{Mark}
use Rattle.routine.specs.declared.kinds.SignalKind.{SignalKind}
use Rattle.routine.specs.declared.checked.Routine.{Routine}
use Rattle.routine.specs.Kinds.{marks}
use Rattle.routine.specs.View.{table_kinds, table_signals}
use Rattle.record.specs.State.{State}
use Rattle.record.specs.Record.{record_of}
use Rattle.count.specs.Calls.{new_state}
use Rattle.relay.specs.Asked.{Asked}
use Rattle.relay.specs.History.{takes_over, trace, after_calls}
use Rattle.relay.specs.Heard.{Ear, Grows}
use Rattle.relay.specs.declared.two_boards.Relayed.{Relayed}

-- (of a routine) boards that show their signals by `first` and `second`
module _ {A B : Type 0} (first : A → List Bool) (second : B → List Bool) (gs : List SignalKind)
    (ks : List Kind) where
  -- a count is handed over in state s, and the calls ds follow on the second board: what its
  -- listener hears, both records, and both boards as they are left
  pub record HandsOn (s : State) (ds : List Asked) (old new : Ear) (r : Relayed A B) : Type 0 where
    pub handed : r.handed ≡ record_of (length gs) (length ks) s
    pub later : Grows old new (takes_over ∷ trace gs ks s ds)
    pub left : r.left ≡ record_of (length gs) (length ks) (after_calls gs ks s ds)
    pub first_board : first r.first ≡ s.present
    pub second_board : second r.second ≡ (after_calls gs ks s ds).present

  -- a new count carries out the calls cs on the first board, and is handed on
  pub record Relays (cs ds : List Asked) (old new old' new' : Ear) (r : Relayed A B) : Type 0 where
    pub before : Grows old new (trace gs ks (new_state ks) cs)
    pub hands_on : HandsOn (after_calls gs ks (new_state ks) cs) ds old' new' r

-- the state in which a relay leaves its count
abbrev pub at_last : List SignalKind → List Kind → List Asked → List Asked → State
at_last gs ks cs ds = after_calls gs ks (after_calls gs ks (new_state ks) cs) ds

-- a routine as a count left it
pub record LeftAs (gs : List SignalKind) (ks : List Kind) (ms : List Mark)
    (r : Routine) : Type 0 where
  pub signals : table_signals r.table ≡ gs
  pub kinds : table_kinds r.table ≡ ks
  pub marks : marks (vec_items r.table.statements) ≡ ms
