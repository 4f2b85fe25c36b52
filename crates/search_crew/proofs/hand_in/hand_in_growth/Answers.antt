use Rattle.std.proofs.Common.{subst}
use Rattle.disp_model.specs.History.{fixings_after}
use Rattle.disp_model.specs.Node.{node_at}
use Rattle.shared_board.specs.Board.{problem_of, known}
use Rattle.search_crew.specs.Grounds.{IsGrownFor}
use Rattle.search_crew.proofs.Handing.{examined_of, growth_of, plan_with}
use Rattle.search_crew.proofs.hand_in.hand_in_growth.Goals as goal

pub give_back_examined-requires-clause-examined : goal.give_back_examined-requires-clause-examined
give_back_examined-requires-clause-examined g c =
    let (rule, at, grown) = c.requires.at in let work = c.args.work in
    let node = node_at (problem_of c.args.board.now) (fixings_after work.edition (known c.args.pass.now).seen) work.decisions in
    examined_of c.args.board.now rule c.args.pass.now work at (subst (IsGrownFor rule node work) c.in-Examined.is grown)

pub hand_in_subtree-requires-clause-growth : goal.hand_in_subtree-requires-clause-growth
hand_in_subtree-requires-clause-growth g c =
    let (rule, at, grown) = c.requires.at in let work = c.args.work in
    let node = node_at (problem_of c.args.board.now) (fixings_after work.edition (known c.args.pass.now).seen) work.decisions in
    growth_of c.args.board.now rule c.args.pass.now work at c.in-Subtree.nodes c.in-Subtree.bounds c.in-Subtree.plan (subst (IsGrownFor rule node work) c.in-Subtree.is grown)

pub hand_in_subtree-requires-clause-plan : goal.hand_in_subtree-requires-clause-plan
hand_in_subtree-requires-clause-plan g c =
    let (rule, at, grown) = c.requires.at in let work = c.args.work in
    let node = node_at (problem_of c.args.board.now) (fixings_after work.edition (known c.args.pass.now).seen) work.decisions in
    plan_with c.args.board.now rule c.args.pass.now work at c.in-Subtree.nodes c.in-Subtree.bounds c.in-Subtree.plan (subst (IsGrownFor rule node work) c.in-Subtree.is grown)
