-- the pass is at work for the crew
use Rattle.search_crew.specs.Crews.{IsHandOf, IsSameHand}
use Rattle.search_crew.specs.Working.{IsAtWork, KeepsOn}
use Rattle.crew_runs.proofs.searcher.search_on.Given as goal

abbrev pub invariant-loop : goal.invariant-loop
invariant-loop g l = record {
  at : IsAtWork l.board l.rule 0 l.pass;
  hand_of : IsHandOf l.crew l.hand;
  on : KeepsOn l.initial.pass l.pass;
  hand : IsSameHand l.initial.hand l.hand;
}
