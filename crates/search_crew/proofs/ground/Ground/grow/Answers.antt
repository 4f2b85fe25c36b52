use Rattle.std.proofs.Common.{◌≡◌, [], rules, subst}
use Rattle.std.proofs.lemmas.Result.{IfOk-weaker}
use Rattle.disp_model.specs.Node.{node_at}
use Rattle.node_leaves.specs.Shown.{IsDeadLeaf}
use Rattle.search_workers.proofs.Growths.{alone_grows}
use Rattle.search_workers.proofs.Moving.{dead_below}
use Rattle.search_crew.specs.declared.ground.Ground.TheVariants as ground
use Rattle.search_crew.specs.Grounds.{IsGround}
use Rattle.search_crew.proofs.ground.Ground.grow.Goals as goal

pub returns-in_ok-copy-in-Dead-clause-grown : goal.returns-in_ok-copy-in-Dead-clause-grown
returns-in_ok-copy-in-Dead-clause-grown c = λ fixings on.
    let problem = c.args.problem.now in let work = c.args.work.now in let leaf = c.in_ok-copy-in-Dead.field-0 in
    let same : c.args.self.now ≡ ground.Dead leaf = search rules in
    let dead : IsDeadLeaf (node_at problem fixings []) leaf = subst (IsGround problem fixings) same on in
    let below = dead_below problem fixings [] work.decisions leaf dead in
    IfOk-weaker c.leaf_alone.result _ _
    (λ grown is. alone_grows c.args.reckoning.now.rule (node_at problem fixings work.decisions) c.args.best work.allowance work.bound leaf below grown is) c.leaf_alone.ensures
