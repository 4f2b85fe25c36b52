use Rattle.std.proofs.Common.{get_or, arith}
use Rattle.std.proofs.lemmas.List.Elements.{Contains-get_or}
use Rattle.route_marks.proofs.Relaxing.{places_more, places_all}
use Rattle.route_marks.proofs.marks.places_of.Goals as goal

pub index_mut-requires : goal.index_mut-requires
index_mut-requires c = omega (arith, c.loop-place.invariant.long, c.requires.is_behind.within (get_or c.args.order.now c.loop-place.place 0) (Contains-get_or c.args.order.now c.loop-place.place 0 c.loop-place-test.true))

pub loop-place-preserved : goal.loop-place-preserved
loop-place-preserved c = places_more c.args.train.now c.args.order.now c.loop-place.places.items c.loop-place.place c.requires c.loop-place-test.true c.loop-place.invariant

pub returns : goal.returns
returns c = places_all c.args.train.now c.args.order.now c.loop-place.places.items c.loop-place.place c.loop-place-test.false c.loop-place.invariant
