use Rattle.std.proofs.Common.{◌∙◌, sym}
use Rattle.route_sets.proofs.Answering.{next_is}
use Rattle.route_sets.proofs.routes.Routes.only_next.Goals as goal

pub returns : goal.returns
returns c node t are s = next_is node t c.args.op c.args.self.now c.in_ok-mark.field-0 s are (sym c.mark.ensures ∙ c.in_ok-mark.was)
