-- There are problems with the trains of the examples: each is well formed.
use Rattle.std.proofs.Common.{◌≡◌, ◌≢◌, ℕ, zero, suc, ◌<◌, List, [], ◌∷◌, length, Some, refl, sym, ◌∙◌, arith, rules}
use Rattle.std.specs.Prelude.{Contains, slice_get}
use Rattle.std.proofs.lemmas.List.Elements.{All-from_recursion}
use Rattle.disp_model.specs.declared.train.Operation.{Operation}
use Rattle.disp_model.specs.declared.problem.Problem.{Problem}
use Rattle.disp_model.specs.Train.{IsSuccessor, IsEntry, IsExit}
use Rattle.disp_model.specs.WellFormed.{IsWellFormed, IsAcyclic, LeadsTo}
use Rattle.definition_examples.specs.Trains.{HasBranchCosts, branch_costs, HasTwoTrains, HasSwapTrains, HasForkedTrain, HasWindowedTrain, two_trains, two_costs, lasting, listing, swap_trains, forked, windowed}
use Rattle.definition_examples.proofs.Pairs.{PairPlaces, at_pair}
use Rattle.definition_examples.proofs.Contained.{in_one, in_two}
use Rattle.definition_examples.proofs.Made.{made}

named_once : {X : Type 0} (xs : List X) → PairPlaces (λ i x j y. x ≢ y) 0 xs → (i j : ℕ) (x : X) → i < j → slice_get xs i ≡ Some x → slice_get xs j ≢ Some x
named_once xs h i j x lt at_i at_j = at_pair (λ k y l z. y ≢ z) 0 xs h i j x x lt at_i at_j refl

none_in : (s : ℕ) → Contains [] s → ⊥
none_in s (k, lt, at) = omega (arith, lt)

-- where each operation goes on to later ones, none leads back to itself
ascends : (train : List Operation) → ((o s : ℕ) → IsSuccessor train o s → o < s) → (n o s : ℕ) → LeadsTo train n o s → o < s
ascends train up zero o s h = up o s h
ascends train up (suc n) o s (p, step, more) =
    let first : o < p = up o p step in
    let later : p < s = ascends train up n p s more in
    omega (arith, first, later)

-- one entry and one exit, and each operation goes on to later ones
acyclic : (train : List Operation) (entry exit : ℕ) → 0 < length train → ((o : ℕ) → IsEntry train o → o ≡ entry) → ((o : ℕ) → IsExit train o → o ≡ exit)
    → ((o s : ℕ) → IsSuccessor train o s → o < s) → IsAcyclic train
acyclic train entry exit some enters leaves up = record {
  entered = some;
  one_entry = λ o p at_o at_p. enters o at_o ∙ sym (enters p at_p);
  one_exit = λ o p at_o at_p. leaves o at_o ∙ sym (leaves p at_p);
  no_cycle = λ n o back. let less : o < o = ascends train up n o o back in omega (arith, less);
}

-- a train of two operations, the second behind the first
abbrev pair : Operation → Operation → List Operation
pair x y = record x { next = 1 ∷ [] } ∷ record y { next = [] } ∷ []

pair_enters : (x y : Operation) (o : ℕ) → IsEntry (pair x y) o → o ≡ 0
pair_enters x y zero h = refl
pair_enters x y (suc zero) h = absurd (h.first 0 (0, omega arith, refl))
pair_enters x y (suc (suc o)) h = absurd (let there : suc (suc o) < 2 = h.there in omega (arith, there))

pair_leaves : (x y : Operation) (o : ℕ) → IsExit (pair x y) o → o ≡ 1
pair_leaves x y zero h = absurd (grind (arith, h.last))
pair_leaves x y (suc zero) h = refl
pair_leaves x y (suc (suc o)) h = absurd (let there : suc (suc o) < 2 = h.there in omega (arith, there))

pair_up : (x y : Operation) (o s : ℕ) → IsSuccessor (pair x y) o s → o < s
pair_up x y zero s h = let same : s ≡ 1 = in_one 1 s h in omega (arith, same)
pair_up x y (suc zero) s h = absurd (none_in s h)
pair_up x y (suc (suc o)) s h = absurd (none_in s h)

pair_acyclic : (x y : Operation) → IsAcyclic (pair x y)
pair_acyclic x y = acyclic (pair x y) 0 1 (omega arith) (pair_enters x y) (pair_leaves x y) (pair_up x y)

fork_enters : (o : ℕ) → IsEntry forked o → o ≡ 0
fork_enters zero h = refl
fork_enters (suc zero) h = absurd (h.first 0 (0, omega arith, refl))
fork_enters (suc (suc zero)) h = absurd (h.first 0 (1, omega arith, refl))
fork_enters (suc (suc (suc zero))) h = absurd (h.first 1 (0, omega arith, refl))
fork_enters (suc (suc (suc (suc o)))) h = absurd (let there : suc (suc (suc (suc o))) < 4 = h.there in omega (arith, there))

fork_leaves : (o : ℕ) → IsExit forked o → o ≡ 3
fork_leaves zero h = absurd (grind (arith, h.last))
fork_leaves (suc zero) h = absurd (grind (arith, h.last))
fork_leaves (suc (suc zero)) h = absurd (grind (arith, h.last))
fork_leaves (suc (suc (suc zero))) h = refl
fork_leaves (suc (suc (suc (suc o)))) h = absurd (let there : suc (suc (suc (suc o))) < 4 = h.there in omega (arith, there))

fork_up : (o s : ℕ) → IsSuccessor forked o s → o < s
fork_up zero s h = let either = in_two 1 2 s h in omega (arith, either)
fork_up (suc zero) s h = let same : s ≡ 3 = in_one 3 s h in omega (arith, same)
fork_up (suc (suc zero)) s h = let same : s ≡ 3 = in_one 3 s h in omega (arith, same)
fork_up (suc (suc (suc zero))) s h = absurd (none_in s h)
fork_up (suc (suc (suc (suc o)))) s h = absurd (none_in s h)

fork_acyclic : IsAcyclic forked
fork_acyclic = acyclic forked 0 3 (omega arith) fork_enters fork_leaves fork_up

abbrev one_name : List (List ℕ)
one_name = (97 ∷ []) ∷ []

abbrev two_names : List (List ℕ)
two_names = (97 ∷ []) ∷ (98 ∷ []) ∷ []

two_without_release_made : IsWellFormed (two_trains 0) two_costs one_name
two_without_release_made = record {
  numbers = search rules;
  references = search (rules, named_once);
  acyclic = All-from_recursion IsAcyclic (two_trains 0) (pair_acyclic (lasting 10 (listing 0 0 ∷ []) []) (lasting 0 [] []), (pair_acyclic (lasting 4 (listing 0 0 ∷ []) []) (lasting 0 [] []), tt));
  named = search rules;
  distinct = named_once one_name (search rules);
  trains_fit = omega arith;
  operations_fit = omega arith;
  components_fit = omega arith;
  costs_fit = omega arith;
}

pub two_without_release : (problem : Problem) × HasTwoTrains 0 problem
two_without_release = (made (two_trains 0) two_costs one_name two_without_release_made, record { trains = refl; components = refl })

two_with_release_made : IsWellFormed (two_trains 3) two_costs one_name
two_with_release_made = record {
  numbers = search rules;
  references = search (rules, named_once);
  acyclic = All-from_recursion IsAcyclic (two_trains 3) (pair_acyclic (lasting 10 (listing 0 3 ∷ []) []) (lasting 0 [] []), (pair_acyclic (lasting 4 (listing 0 3 ∷ []) []) (lasting 0 [] []), tt));
  named = search rules;
  distinct = named_once one_name (search rules);
  trains_fit = omega arith;
  operations_fit = omega arith;
  components_fit = omega arith;
  costs_fit = omega arith;
}

pub two_with_release : (problem : Problem) × HasTwoTrains 3 problem
two_with_release = (made (two_trains 3) two_costs one_name two_with_release_made, record { trains = refl; components = refl })

swap_made : IsWellFormed swap_trains [] two_names
swap_made = record {
  numbers = search rules;
  references = search (rules, named_once);
  acyclic = All-from_recursion IsAcyclic swap_trains (pair_acyclic (lasting 5 (listing 0 0 ∷ []) []) (lasting 5 (listing 1 0 ∷ []) []), (pair_acyclic (lasting 5 (listing 1 0 ∷ []) []) (lasting 5 (listing 0 0 ∷ []) []), tt));
  named = search rules;
  distinct = named_once two_names (search rules);
  trains_fit = omega arith;
  operations_fit = omega arith;
  components_fit = omega arith;
  costs_fit = omega arith;
}

pub swapping_trains : (problem : Problem) × HasSwapTrains problem
swapping_trains = (made swap_trains [] two_names swap_made, record { trains = refl; components = refl })

forked_made : IsWellFormed (forked ∷ []) [] []
forked_made = record {
  numbers = search rules;
  references = search (rules, named_once);
  acyclic = All-from_recursion IsAcyclic (forked ∷ []) (fork_acyclic, tt);
  named = search rules;
  distinct = named_once [] (search rules);
  trains_fit = omega arith;
  operations_fit = omega arith;
  components_fit = omega arith;
  costs_fit = omega arith;
}

pub forked_train : (problem : Problem) × HasForkedTrain problem
forked_train = (made (forked ∷ []) [] [] forked_made, record { trains = refl; components = refl })

costly_made : IsWellFormed (forked ∷ []) branch_costs []
costly_made = record {
  numbers = search rules;
  references = search (rules, named_once);
  acyclic = All-from_recursion IsAcyclic (forked ∷ []) (fork_acyclic, tt);
  named = search rules;
  distinct = named_once [] (search rules);
  trains_fit = omega arith;
  operations_fit = omega arith;
  components_fit = omega arith;
  costs_fit = omega arith;
}

pub costly_branches : (problem : Problem) × HasBranchCosts problem
costly_branches = (made (forked ∷ []) branch_costs [] costly_made, record { trains = refl; components = refl })

windowed_made : IsWellFormed (windowed ∷ []) [] []
windowed_made = record {
  numbers = search rules;
  references = search (rules, named_once);
  acyclic = All-from_recursion IsAcyclic (windowed ∷ []) (pair_acyclic (record { lower = 2; upper = Some 5; min = 1; listings = []; next = [] }) (lasting 0 [] []), tt);
  named = search rules;
  distinct = named_once [] (search rules);
  trains_fit = omega arith;
  operations_fit = omega arith;
  components_fit = omega arith;
  costs_fit = omega arith;
}

pub windowed_train : (problem : Problem) × HasWindowedTrain problem
windowed_train = (made (windowed ∷ []) [] [] windowed_made, record { trains = refl; components = refl })
