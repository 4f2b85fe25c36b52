use Rattle.std.proofs.Common.{◌≡◌, ◌∙◌, ◌+◌, sym}
use Rattle.disp_model.specs.Trees.{children_of}
use Rattle.open_nodes.proofs.Grafting.{none_from, one_built, all_built}
use Rattle.open_nodes.proofs.graft.children_at.Goals as goal

pub returns-in_default : goal.returns-in_default
returns-in_default c =
    let cs = children_of c.args.problem.now c.args.choice in
    all_built cs c.args.parent c.args.first c.args.behind c.loop-k.k c.loop-k.number c.loop-k.places.items c.loop-k.invariant (none_from cs c.loop-k.k (sym c.child.ensures ∙ c.in_default.is))

pub loop-k-preserved : goal.loop-k-preserved
loop-k-preserved c =
    let cs = children_of c.args.problem.now c.args.choice in
    let after : c.in-Some-checked_add.after ≡ c.loop-k.number + 1 = c.in-Some-checked_add.ensures.1 in
    rw (after, c.in_ok-push.ensures.items, c.new_place.ensures)
    (one_built cs c.args.parent c.args.first c.args.behind c.loop-k.k c.loop-k.number c.loop-k.places.items c.in-Some.decision c.next_given-next.result c.loop-k.invariant (sym c.child.ensures ∙ c.in-Some.is)
    (rw (after, c.child-in-loop-k.ensures) at c.next_given-next.ensures))
