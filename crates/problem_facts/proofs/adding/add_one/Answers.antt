use Rattle.std.proofs.Common.{◌∙◌, Some, sym, ap, arith}
use Rattle.std.proofs.lemmas.Option.{slice_get-get_or}
use Rattle.problem_facts.proofs.Added.{of_another, of_none, of_one}
use Rattle.problem_facts.proofs.adding.add_one.Goals as goal

pub returns-then-component-train : goal.returns-then-component-train
returns-then-component-train g c = of_another _ c.args.train c.args.component c.args.kept.now.items c.if-component-train.true

pub returns-then-at-len : goal.returns-then-at-len
returns-then-at-len g c = of_one _ c.args.train c.args.component c.args.kept.now.items _ c.more-sum.result c.if-component-train.false
    (slice_get-get_or c.args.kept.now.items c.args.component.operation c.index.result.now (omega (arith, c.if-at-len.true, c.len.ensures)) ∙ ap Some (sym c.index.ensures)) c.more-sum.ensures

pub returns-else-at-len : goal.returns-else-at-len
returns-else-at-len g c = of_none _ c.args.train c.args.component c.args.kept.now.items (omega (arith, c.if-at-len.false))
