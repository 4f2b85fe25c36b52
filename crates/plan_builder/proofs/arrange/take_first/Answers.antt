use Rattle.plan_builder.proofs.Blocking.{first_free}
use Rattle.plan_builder.proofs.Leaving.{left_after}
use Rattle.plan_builder.proofs.arrange.take_first.Goals as goal

pub returns-clause-left : goal.returns-clause-left
returns-clause-left c =
    let within = rw c.deref.ensures.value at c.in-Some.ensures.within in
    rw c.remove-stop.ensures.items (left_after c.args.paths.now c.args.rest.now.items c.args.waiting.now c.in-Some.place c.remove-stop.result within c.remove-stop.ensures.value c.requires.left)

pub returns-clause-first : goal.returns-clause-first
returns-clause-first c =
    let within = rw c.deref.ensures.value at c.in-Some.ensures.within in
    let free = rw c.deref.ensures.value at c.in-Some.ensures.free in
    let blocked = rw c.deref.ensures.value at c.in-Some.ensures.blocked in
    first_free c.args.paths.now.arcs c.args.rest.now.items c.in-Some.place c.remove-stop.result within c.remove-stop.ensures.value free blocked c.requires.left.falling
