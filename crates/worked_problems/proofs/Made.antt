-- The worked problems are well formed.
use Rattle.std.proofs.Common.{◌≡◌, ◌≢◌, ℕ, zero, suc, ◌<◌, ◌≤◌, List, [], ◌∷◌, Option, Some, None, refl, sym, ◌∙◌, arith, rules}
use Rattle.std.specs.Prelude.{slice_get}
use Rattle.std.specs.Option.{ForSome}
use Rattle.std.proofs.lemmas.Option.{slice_get_within, none-some, same_Some}
use Rattle.std.proofs.lemmas.List.Elements.{All-from_recursion}
use Rattle.disp_model.specs.declared.limits.TheConstants.{GREATEST_NUMBER}
use Rattle.disp_model.specs.WellFormed.{IsAcyclic, IsWellFormed}
use Rattle.worked_problems.specs.Worked.{worked_component, block_costs, dear_fork_costs, fork_costs, exit_costs, blocked_train, blocked_trains, swapping_train, forking_train, windowed_train, two_windowed}
use Rattle.worked_problems.proofs.Chains.{chain_is_acyclic}
use Rattle.worked_problems.proofs.Forking.{fork_is_acyclic}

once_in_none : (i j s : ℕ) → i < j → slice_get [] i ≡ Some s → slice_get [] j ≢ Some s
once_in_none i j s lt at_i at_j = none-some s at_i

once_in_one : (a i j s : ℕ) → i < j → slice_get (a ∷ []) i ≡ Some s → slice_get (a ∷ []) j ≢ Some s
once_in_one a i j s lt at_i at_j =
    let within = slice_get_within (a ∷ []) j s at_j in omega (arith, within, lt)

once_in_two : (i j s : ℕ) → i < j → slice_get (1 ∷ 2 ∷ []) i ≡ Some s → slice_get (1 ∷ 2 ∷ []) j ≢ Some s
once_in_two i zero s lt at there = omega (arith, lt)
once_in_two zero (suc zero) s lt at there = absurd cc
once_in_two (suc i) (suc zero) s lt at there = omega (arith, lt)
once_in_two i (suc (suc j)) s lt at there = absurd cc

no_name : (i j : ℕ) (x : List ℕ) → i < j → slice_get {X = List ℕ} [] i ≡ Some x → slice_get {X = List ℕ} [] j ≢ Some x
no_name i j x lt at_i at_j = none-some x at_i

one_name : (name : List ℕ) (i j : ℕ) (x : List ℕ) → i < j → slice_get (name ∷ []) i ≡ Some x → slice_get (name ∷ []) j ≢ Some x
one_name name i j x lt at_i at_j =
    let within = slice_get_within (name ∷ []) j x at_j in omega (arith, within, lt)

two_names : (a b : List ℕ) → a ≢ b → (i j : ℕ) (x : List ℕ) → i < j → slice_get (a ∷ b ∷ []) i ≡ Some x → slice_get (a ∷ b ∷ []) j ≢ Some x
two_names a b apart zero zero x lt at_i at_j = absurd (omega (arith, lt))
two_names a b apart zero (suc zero) x lt at_i at_j = apart (same_Some a x at_i ∙ sym (same_Some b x at_j))
two_names a b apart zero (suc (suc j)) x lt at_i at_j = none-some x at_j
two_names a b apart (suc i) zero x lt at_i at_j = absurd (omega (arith, lt))
two_names a b apart (suc i) (suc zero) x lt at_i at_j = absurd (omega (arith, lt))
two_names a b apart (suc i) (suc (suc j)) x lt at_i at_j = none-some x at_j

blocked_acyclic : (upper : Option ℕ) (release min : ℕ) → IsAcyclic (blocked_train upper release min)
blocked_acyclic upper release min =
    chain_is_acyclic (blocked_train upper release min) (omega arith, (refl, (refl, tt)))

pub blocked_made : (upper : Option ℕ) (release : ℕ) (name : List ℕ) → ForSome upper (λ u. u ≤ GREATEST_NUMBER) → release < 4 → IsWellFormed (blocked_trains upper release) block_costs (name ∷ [])
blocked_made upper release name up small = record {
  numbers = search rules;
  references = search (rules, once_in_one, once_in_none);
  acyclic =
      All-from_recursion IsAcyclic (blocked_trains upper release)
      (blocked_acyclic upper release 10, (blocked_acyclic upper release 4, tt));
  named = search rules;
  distinct = one_name name;
  trains_fit = omega arith;
  operations_fit = omega arith;
  components_fit = omega arith;
  costs_fit = omega arith;
}

swapping_acyclic : (first second : ℕ) → IsAcyclic (swapping_train first second)
swapping_acyclic first second =
    chain_is_acyclic (swapping_train first second) (omega arith, (refl, (refl, (refl, tt))))

pub swap_made : (a b : List ℕ) → a ≢ b → IsWellFormed (swapping_train 0 1 ∷ swapping_train 1 0 ∷ []) [] (a ∷ b ∷ [])
swap_made a b apart = record {
  numbers = search rules;
  references = search (rules, once_in_one, once_in_none);
  acyclic =
      All-from_recursion IsAcyclic (swapping_train 0 1 ∷ swapping_train 1 0 ∷ [])
      (swapping_acyclic 0 1, (swapping_acyclic 1 0, tt));
  named = search rules;
  distinct = two_names a b apart;
  trains_fit = omega arith;
  operations_fit = omega arith;
  components_fit = omega arith;
  costs_fit = omega arith;
}

pub fork_made : IsWellFormed (forking_train ∷ []) fork_costs []
fork_made = record {
  numbers = search rules;
  references = search (rules, once_in_one, once_in_two, once_in_none);
  acyclic = All-from_recursion IsAcyclic (forking_train ∷ []) (fork_is_acyclic, tt);
  named = search rules;
  distinct = no_name;
  trains_fit = omega arith;
  operations_fit = omega arith;
  components_fit = omega arith;
  costs_fit = omega arith;
}

pub dear_fork_made : IsWellFormed (forking_train ∷ []) dear_fork_costs []
dear_fork_made = record {
  numbers = search rules;
  references = search (rules, once_in_one, once_in_two, once_in_none);
  acyclic = fork_made.acyclic;
  named = search rules;
  distinct = no_name;
  trains_fit = omega arith;
  operations_fit = omega arith;
  components_fit = omega arith;
  costs_fit = omega arith;
}

pub plain_fork_made : IsWellFormed (forking_train ∷ []) exit_costs []
plain_fork_made = record {
  numbers = fork_made.numbers;
  references = fork_made.references;
  acyclic = fork_made.acyclic;
  named = search rules;
  distinct = no_name;
  trains_fit = omega arith;
  operations_fit = omega arith;
  components_fit = omega arith;
  costs_fit = omega arith;
}

pub windowed_made : (lower coeff : ℕ) (upper : Option ℕ) → lower ≤ GREATEST_NUMBER → ForSome upper (λ u. u ≤ GREATEST_NUMBER) → coeff ≤ GREATEST_NUMBER → IsWellFormed (windowed_train lower upper ∷ []) (worked_component 0 0 coeff 0 ∷ []) []
windowed_made lower coeff upper low up small = record {
  numbers = search rules;
  references = search (rules, once_in_none);
  acyclic =
      All-from_recursion IsAcyclic (windowed_train lower upper ∷ [])
      (chain_is_acyclic (windowed_train lower upper) (omega arith, (refl, tt)), tt);
  named = search rules;
  distinct = no_name;
  trains_fit = omega arith;
  operations_fit = omega arith;
  components_fit = omega arith;
  costs_fit = omega arith;
}

windows_acyclic : IsAcyclic two_windowed
windows_acyclic = chain_is_acyclic two_windowed (omega arith, (refl, (refl, tt)))

pub windows_made : IsWellFormed (two_windowed ∷ two_windowed ∷ []) [] []
windows_made = record {
  numbers = search rules;
  references = search (rules, once_in_one, once_in_none);
  acyclic =
      All-from_recursion IsAcyclic (two_windowed ∷ two_windowed ∷ []) (windows_acyclic, (windows_acyclic, tt));
  named = search rules;
  distinct = no_name;
  trains_fit = omega arith;
  operations_fit = omega arith;
  components_fit = omega arith;
  costs_fit = omega arith;
}

pub nothing_made : IsWellFormed [] [] []
nothing_made = record {
  numbers = search rules;
  references = search rules;
  acyclic = All-from_recursion IsAcyclic [] tt;
  named = search rules;
  distinct = no_name;
  trains_fit = omega arith;
  operations_fit = omega arith;
  components_fit = omega arith;
  costs_fit = omega arith;
}
