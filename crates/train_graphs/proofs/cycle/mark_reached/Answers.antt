use Rattle.std.proofs.Common.{◌∙◌, ap, sym}
use Rattle.train_graphs.proofs.Reached.{first_visited, more_visited, waiting_within, next_inside}
use Rattle.train_graphs.proofs.cycle.mark_reached.Goals as goal

pub loop-o-init : goal.loop-o-init
loop-o-init c =
    first_visited c.args.train.now c.args.start c.index-train-start.result c.as_slice.result.now c.args.marks.now c.visit.new.marks c.new-ahead.result.items c.visit.new.ahead.items c.requires.there c.index-train-start.is (c.as_slice.ensures ∙ ap (λ q. q.next) (sym c.index-train-start.is))
    c.requires.clear c.new-ahead.ensures.items c.in_ok-visit.ensures.ok

pub bounds-train-o : goal.bounds-train-o
bounds-train-o c = waiting_within c.args.train.now c.args.start c.in-Some.o c.loop-o.marks c.loop-o.ahead.items c.pop.new.self.items c.loop-o.invariant c.in-Some.ensures.items

pub visit-requires-in-Some : goal.visit-requires-in-Some
visit-requires-in-Some c =
    let lt = waiting_within c.args.train.now c.args.start c.in-Some.o c.loop-o.marks c.loop-o.ahead.items c.pop.new.self.items c.loop-o.invariant c.in-Some.ensures.items in
    record { inside = next_inside c.args.train.now c.in-Some.o c.index-train-o.result c.as_slice-in-Some.result.now c.loop-o.marks c.requires.inside lt c.index-train-o.is (c.as_slice-in-Some.ensures ∙ ap (λ q. q.next) (sym c.index-train-o.is)) c.loop-o.invariant.long }

pub loop-o-preserved : goal.loop-o-preserved
loop-o-preserved c =
    more_visited c.args.train.now c.args.start c.in-Some.o c.index-train-o.result c.as_slice-in-Some.result.now c.loop-o.marks c.visit-in-Some.new.marks c.loop-o.ahead.items c.pop.new.self.items c.visit-in-Some.new.ahead.items c.loop-o.invariant
    c.in-Some.ensures.items c.index-train-o.is (c.as_slice-in-Some.ensures ∙ ap (λ q. q.next) (sym c.index-train-o.is)) c.in_ok-visit-2.ensures.ok
