-- events as transitions, and what a keeper has heard
use Rattle.std.specs.Prelude.{map, vec_items}
use Rattle.relay.specs.declared.events.Event.{Event}
use Rattle.relay.specs.declared.events.Event.TheVariants.{Begun, Stepped, Closed, Reacted}
use Rattle.relay.specs.declared.events.Event.TheVariants.{TakenOver, Refused}
use Rattle.relay.specs.declared.keepers.Keeper.{Keeper}
use Rattle.relay.specs.Heard.{Ear}
use Rattle.relay.specs.History.{Transition, begins, steps, closes, reacts, takes_over, refuses}

-- the transition that an event tells of
abbrev pub tells : Event → Transition
tells (Begun word) = begins word
tells (Stepped k) = steps k
tells (Closed c ms) = closes c (vec_items ms)
tells (Reacted word c ms v) = reacts word c (vec_items ms) (vec_items v)
tells TakenOver = takes_over
tells (Refused r) = refuses r

-- all that was kept is what was heard
abbrev pub ear_of : Keeper → Ear
ear_of k = record { heard = map tells (vec_items k.events); lost = k.lost }
