use Rattle.std.proofs.Common.{◌∙◌, sym}
use Rattle.event_graph.proofs.Staying.{not_forced_stays, same_next_stays, same_if}
use Rattle.event_graph.proofs.touched.is_touched.Goals as goal

pub returns-else-forced : goal.returns-else-forced
returns-else-forced c before node t old new is = not_forced_stays before node t c.args.op c.forced.result (c.forced.ensures node t new) is

pub returns-else-not-forced : goal.returns-else-not-forced
returns-else-not-forced c before node t old new is = same_next_stays before node t c.args.op c.forced-then-forced.result c.only_next.result c.only_next-else-not-forced.result (c.forced-then-forced.ensures before t old) c.if-not-forced.false (c.only_next.ensures before t old) (c.only_next-else-not-forced.ensures node t new) (same_if c.only_next.result c.only_next-else-not-forced.result (sym c.ne.ensures ∙ is))
