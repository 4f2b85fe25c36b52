use Rattle.std.proofs.Common.{◌<◌, None, length, sym, ◌∙◌, arith}
use Rattle.disp_model.specs.declared.fixing.Change.TheVariants.{Fix}
use Rattle.disp_model.specs.declared.fixing.Fixing.TheVariants.{Started}
use Rattle.fixing_editions.proofs.Standing.{has_room, order_some, order_none}
use Rattle.fixing_editions.proofs.kept.put_in_order.Goals as goal
use Rattle.fixing_editions.proofs.kept.put_in_order.Goals.{in-Some, in_default}

pub index_mut-requires : goal.index_mut-requires
index_mut-requires c =
    let room : c.loop-place.count < length c.loop-place.standing.items =
    has_room c.args.changes.now c.args.withdrawn.now c.loop-place.place c.loop-place.count c.loop-place.standing.items (Fix (Started 0 0 0)) None c.in-Some.fixing
    c.requires.withdrawn c.loop-place-test.true (sym c.left_standing.ensures ∙ c.in-Some.is) c.loop-place.invariant in
    omega (arith, room, c.loop-place.standing.ok.0)

pub loop-place-preserved : goal.loop-place-preserved
loop-place-preserved c =
    elim c.match-left_standing.branch [
      | in-Some w ↦ rw (w.standing-is, w.count-is)
          (order_some c.args.changes.now c.args.withdrawn.now c.loop-place.place c.loop-place.count c.loop-place.standing.items (Fix (Started 0 0 0)) None w.in-Some.fixing
          c.requires.withdrawn c.loop-place-test.true (sym c.left_standing.ensures ∙ w.in-Some.is) c.loop-place.invariant)
      | in_default w ↦ rw (w.standing-is, w.count-is)
          (order_none c.args.changes.now c.args.withdrawn.now c.loop-place.place c.loop-place.count c.loop-place.standing.items (Fix (Started 0 0 0)) None
          c.requires.withdrawn c.loop-place-test.true (sym c.left_standing.ensures ∙ w.in_default.is) c.loop-place.invariant)
    ]
