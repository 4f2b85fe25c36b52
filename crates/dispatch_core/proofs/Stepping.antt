-- Every step keeps the core sound.
use Rattle.std.proofs.Common.{sym, subst}
use Rattle.dispatch_core.specs.declared.event.CoreEvent.{CoreEvent}
use Rattle.dispatch_core.specs.declared.event.CoreEvent.TheVariants as event
use Rattle.dispatch_core.specs.declared.event.CoreReply.{CoreReply}
use Rattle.dispatch_core.specs.Asked.{MayStep}
use Rattle.dispatch_core.specs.Replies.{Steps}
use Rattle.dispatch_core.specs.States.{Core, IsSound}
use Rattle.dispatch_core.proofs.Asking.{asks_sound, unread_sound, shows_sound, ends_sound, leaves_sound}
use Rattle.dispatch_core.proofs.Taking.{takes_sound, back_sound}
use Rattle.dispatch_core.proofs.Growing.{grow_sound}
use Rattle.dispatch_core.proofs.Publishing.{publishes_sound}
use Rattle.dispatch_core.proofs.Settled.{settles_sound}
use Rattle.dispatch_core.proofs.Stopping.{stops_sound}

pub steps_sound : (core : Core) (event : CoreEvent) (told : CoreReply) (after : Core) → IsSound core → MayStep core event → Steps core event told after → IsSound after
steps_sound core (event.Ask feed line change) told after sound may is = asks_sound core feed line change told after sound is
steps_sound core (event.Unread feed line why) told after sound may is = subst IsSound (sym is.1) (unread_sound core feed line why sound)
steps_sound core (event.Show feed line) told after sound may is = shows_sound core feed line told after sound is
steps_sound core (event.FeedEnd feed) told after sound may is = subst IsSound (sym is.1) (ends_sound core feed sound)
steps_sound core (event.Leave searcher) told after sound may is = subst IsSound (sym is.1) (leaves_sound core searcher sound)
steps_sound core event.Next told after sound may is = subst IsSound (sym is.1) sound
steps_sound core (event.Take searcher edition want) told after sound may is = takes_sound core sound edition want told after is
steps_sound core (event.Grow searcher fragment) told after sound may is = grow_sound core sound searcher fragment may told after is
steps_sound core (event.GiveBack work examined) told after sound may is = back_sound core sound work examined told after may is
steps_sound core (event.Publish edition plan) told after sound may is = publishes_sound core edition plan told after sound may is
steps_sound core (event.Settle edition) told after sound may is = settles_sound core edition told after sound is
steps_sound core (event.Stop edition) told after sound may is = stops_sound core edition told after sound is
