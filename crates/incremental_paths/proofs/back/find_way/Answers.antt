use Rattle.std.proofs.Common.{sym, ◌∙◌, arith}
use Rattle.incremental_paths.proofs.Tracing.{no_way}
use Rattle.incremental_paths.proofs.back.find_way.Goals as goal

pub returns-then-not-has-clause-none : goal.returns-then-not-has-clause-none
returns-then-not-has-clause-none g c =
    no_way c.args.arcs.now c.args.order.now c.requires.rising c.args.from c.place.result c.mark_from.new.marks c.mark_from.ensures.marks c.args.to (sym c.has.ensures ∙ c.if-not-has.true) (omega (arith, c.place.ensures.is))
