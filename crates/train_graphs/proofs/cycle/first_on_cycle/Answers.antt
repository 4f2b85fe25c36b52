use Rattle.std.proofs.Common.{◌≡◌, ◌∙◌, sym, subst}
use Rattle.train_graphs.specs.Ranks.{NeverFalls}
use Rattle.train_graphs.proofs.Reached.{rises_has_no_cycle, none_before}
use Rattle.train_graphs.proofs.cycle.first_on_cycle.Goals as goal

pub returns-in_default-clause-none : goal.returns-in_default-clause-none
returns-in_default-clause-none c = rises_has_no_cycle c.args.train.now c.deref.result.now c.in_default.ensures.none

pub returns-then-branch-clause-found : goal.returns-then-branch-clause-found
returns-then-branch-clause-found c =
    let same : c.deref-2.result.now ≡ c.deref.result.now = c.deref-2.ensures.value ∙ sym c.deref.ensures.value in
    let keeps : NeverFalls c.args.train.now c.deref.result.now = subst (λ ranks. NeverFalls c.args.train.now ranks) same (c.never_falls.ensures c.if-never_falls.true) in
    record { on = c.in_ok-is_on_cycle.ensures.0 c.if-branch.true; least = none_before c.args.train.now c.deref.result.now c.in-Some.o keeps c.in-Some.ensures.found.1 }
