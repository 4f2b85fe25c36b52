-- the pass is at work, on the ground of its edition
use Rattle.disp_model.specs.History.{fixings_after}
use Rattle.shared_board.specs.Board.{problem_of, known}
use Rattle.search_crew.specs.Crews.{IsHandOf, IsSameHand}
use Rattle.search_crew.specs.Grounds.{IsGround}
use Rattle.search_crew.specs.Working.{IsAtWork, KeepsOn}
use Rattle.search_crew.proofs.searching.rounds.Given as goal

abbrev pub invariant-loop : goal.invariant-loop
invariant-loop g l = record {
  at : IsAtWork l.board l.reckoning.rule l.edition l.pass;
  hand_of : IsHandOf l.crew l.hand;
  ground : IsGround (problem_of l.board) (fixings_after l.edition (known l.pass).seen) l.ground;
  on : KeepsOn l.initial.pass l.pass;
  hand : IsSameHand l.initial.hand l.hand;
}
