use Rattle.std.proofs.Common.{[], ◌∙◌, ap}
use Rattle.std.proofs.lemmas.Result.{IfOk-weaker}
use Rattle.disp_model.specs.Node.{node_at}
use Rattle.timed_paths.specs.Timed.{Timed}
use Rattle.event_arcs.specs.Listed.{AreLowersOf}
use Rattle.event_graph.specs.Late.{AreUppersOf}
use Rattle.event_graph.proofs.Windowed.{lowers_are, uppers_are}
use Rattle.event_graph.proofs.opening.paths_without_arcs.Goals as goal

pub returns-clause-lowers : goal.returns-clause-lowers
returns-clause-lowers c =
    IfOk-weaker c.new.result _ (λ (paths : Timed). AreLowersOf (node_at c.args.problem.now c.args.fixings.now []) paths.lowers)
    (λ paths is. lowers_are c.args.problem.now c.args.fixings.now c.args.windows.now c.requires paths.lowers (ap (λ (t : Timed). t.lowers) is ∙ c.deref.ensures.value ∙ c.in_ok-lowers.ensures)) c.new.ensures

pub returns-clause-uppers : goal.returns-clause-uppers
returns-clause-uppers c =
    IfOk-weaker c.new.result _ (λ (paths : Timed). AreUppersOf c.args.problem.now c.args.fixings.now paths.uppers)
    (λ paths is. uppers_are c.args.problem.now c.args.fixings.now c.args.windows.now c.requires paths.uppers (rw is c.in_ok-uppers.ensures)) c.new.ensures
