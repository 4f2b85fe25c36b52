use Rattle.std.proofs.Common.{◌∙◌, sym}
use Rattle.std.proofs.lemmas.Bool.{false≢true}
use Rattle.disp_model.specs.Routes.{IsForced}
use Rattle.share_bound.proofs.Showing.{shows_same, shows_more}
use Rattle.share_bound.proofs.shown.add_walk.Goals as goal

pub returns-then-not-forced : goal.returns-then-not-forced
returns-then-not-forced c =
    let node = c.args.graph.now in
    shows_same node c.args.op c.args.walks.now
    (λ forced. false≢true (sym c.if-not-forced.true
    ∙ (c.forced.ensures node c.args.op.train c.routes.ensures.routes).1 forced))
    c.requires.before

pub longest_walk-requires : goal.longest_walk-requires
longest_walk-requires c =
    (c.forced.ensures c.args.graph.now c.args.op.train c.routes.ensures.routes).0
    c.if-not-forced.false

pub returns : goal.returns
returns c =
    let node = c.args.graph.now in
    let forced : IsForced node c.args.op =
    (c.forced.ensures node c.args.op.train c.routes.ensures.routes).0 c.if-not-forced.false in
    shows_more node c.args.op c.args.walks.now c.push.new.self c.in_ok-walk.walk forced
    c.in_ok-walk.ensures.walk c.in_ok-push.ensures.ok c.requires.before
