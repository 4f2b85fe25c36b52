use Rattle.std.proofs.Common.{◌∙◌, sym, ap, subst, arith}
use Rattle.std.proofs.lemmas.Bool.{false≢true}
use Rattle.disp_model.specs.Routes.{IsForced}
use Rattle.disp_model.specs.Numbers.{number_of}
use Rattle.disp_model.specs.Nodes.{component_op}
use Rattle.event_windows.specs.Operations.{HasOperation}
use Rattle.event_arcs.proofs.Numbering.{forced_is_op}
use Rattle.cost_bound.proofs.Arriving.{AreListed, is_node, listed_longest, costs_most, arrives}
use Rattle.cost_bound.proofs.arrival.arrival_of.Goals as goal

pub returns-then-not-forced : goal.returns-then-not-forced
returns-then-not-forced c forced =
    false≢true (sym c.if-not-forced.true ∙ (c.forced.ensures c.args.graph.now c.args.component.now.train c.routes.ensures.routes).1 forced)

pub number-number-requires : goal.number-number-requires
number-number-requires c =
    let node = c.args.graph.now in
    let op = component_op c.args.component.now in
    let forced : IsForced node op = (c.forced.ensures node op.train c.routes.ensures.routes).0 c.if-not-forced.false in
    subst (HasOperation node.problem) (sym c.op_of.ensures) (forced_is_op node op forced)

pub length-length-requires : goal.length-length-requires
length-length-requires c =
    let node = c.args.graph.now in
    let op = component_op c.args.component.now in
    let forced : IsForced node op = (c.forced.ensures node op.train c.routes.ensures.routes).0 c.if-not-forced.false in
    is_node node c.paths.result.now.lowers op c.number-number.result c.paths.ensures.lowers forced (c.number-number.ensures ∙ ap (number_of node.problem) c.op_of.ensures)

pub cost_at-cost-requires : goal.cost_at-cost-requires
cost_at-cost-requires c =
    let node = c.args.graph.now in
    let op = component_op c.args.component.now in
    let forced : IsForced node op = (c.forced.ensures node op.train c.routes.ensures.routes).0 c.if-not-forced.false in
    let network = c.paths.result.now in
    let are : AreListed node network.arcs network.lowers = record { arcs_are = c.paths.ensures.arcs; lowers_are = c.paths.ensures.lowers; no_cycle = c.paths.ensures.no_cycle; edition = c.paths.ensures.edition } in
    let longest = listed_longest node network.arcs network.lowers op c.number-number.result c.length-length.result are forced (c.number-number.ensures ∙ ap (number_of node.problem) c.op_of.ensures) c.length-length.ensures.longest in
    omega (arith, costs_most node c.args.component.now c.length-length.result are.no_cycle are.edition longest, c.requires.fits)

pub returns : goal.returns
returns c =
    let node = c.args.graph.now in
    let op = component_op c.args.component.now in
    let forced : IsForced node op = (c.forced.ensures node op.train c.routes.ensures.routes).0 c.if-not-forced.false in
    let network = c.paths.result.now in
    let are : AreListed node network.arcs network.lowers = record { arcs_are = c.paths.ensures.arcs; lowers_are = c.paths.ensures.lowers; no_cycle = c.paths.ensures.no_cycle; edition = c.paths.ensures.edition } in
    arrives node network.arcs network.lowers c.args.component.now c.number-number.result c.length-length.result c.cost_at-cost.result are forced (c.number-number.ensures ∙ ap (number_of node.problem) c.op_of.ensures) c.length-length.ensures.longest c.cost_at-cost.ensures
