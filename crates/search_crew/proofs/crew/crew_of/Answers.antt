use Rattle.std.proofs.Common.{◌≡◌, rules, sym, subst, List, [], ◌∷◌, ◌++◌}
use Rattle.std.specs.Prelude.{All}
use Rattle.std.proofs.lemmas.List.Elements.{All-push}
use Rattle.incumbent_cell.specs.Cell.{cell_of, own_cell}
use Rattle.search_crew.specs.declared.crew.Hand.{Hand}
use Rattle.search_crew.proofs.crew.crew_of.Goals as goal

pub loop-place-preserved : goal.loop-place-preserved
loop-place-preserved c =
    let own = λ (hand : Hand). own_cell hand.cell ≡ cell_of c.in_ok-least.least in
    let is : c.push-in-loop-place.new.self.items ≡ c.loop-place.hands.items ++ c.in_ok-hand.hand ∷ [] = search rules in
    record {
      cell = c.hand_at.ensures.first;
      count = search rules;
      hands = subst (λ (hands : List Hand). All own hands) (sym is) (All-push own c.loop-place.hands.items c.in_ok-hand.hand c.loop-place.invariant.hands c.in_ok-hand.ensures.hand);
    }
