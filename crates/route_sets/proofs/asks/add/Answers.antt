use Rattle.std.proofs.Common.{◌≡◌, ◌<◌, length, refl, rules, arith}
use Rattle.std.proofs.lemmas.List.{get_or_read}
use Rattle.route_sets.specs.Asks.{ask_at, free}
use Rattle.route_sets.proofs.Asking.{adds, adds_past, adds_nothing}
use Rattle.route_sets.proofs.asks.add.Goals as goal

pub returns-then-at-len : goal.returns-then-at-len
returns-then-at-len c =
    let asks = c.args.asks.now.items in
    let len : length asks ≡ c.len.result = search rules in
    let within : c.args.demand.op < length asks = omega (arith, len, c.if-at-len.true) in
    let read : c.index.result.now ≡ ask_at asks c.args.demand.op = get_or_read asks c.args.demand.op c.index.result.now within c.index.ensures free in
    rw (c.joined.ensures, read) (adds asks c.args.demand.op c.args.demand.ask within)

pub returns-then-demand : goal.returns-then-demand
returns-then-demand c =
    let asks = c.args.asks.now.items in
    let len : length asks ≡ c.len.result = search rules in
    adds_past asks c.args.demand.op c.args.demand.ask _ (omega (arith, len, c.if-at-len.false)) c.requires c.if-demand.true refl refl

pub returns-else-demand : goal.returns-else-demand
returns-else-demand c =
    let asks = c.args.asks.now.items in
    let len : length asks ≡ c.len.result = search rules in
    adds_nothing asks c.args.demand.op c.args.demand.ask (omega (arith, len, c.if-at-len.false)) c.if-demand.false
