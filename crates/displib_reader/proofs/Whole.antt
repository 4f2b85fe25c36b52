-- A problem that breaks no rule is well formed.
use Rattle.std.proofs.Common.{◌≡◌, ◌≢◌, ℕ, ◌<◌, ◌≤◌, List, length, Some, ap, subst}
use Rattle.std.specs.Prelude.{All, codes, slice_get}
use Rattle.std.specs.List.{AllByRecursion}
use Rattle.std.specs.Str.{bytes_eq}
use Rattle.std.specs.Cmp.Lexicographic.{nat_list_eq_equiv}
use Rattle.std.proofs.lemmas.List.Elements.{All-from_recursion}
use Rattle.serde_json.specs.Data.{Data}
use Rattle.disp_model.specs.declared.train.Operation.{Operation}
use Rattle.disp_model.specs.declared.train.Component.{Component}
use Rattle.disp_model.specs.declared.limits.TheConstants.{MOST_OPERATIONS}
use Rattle.disp_model.specs.WellFormed.{HasFitNumbers, RefersInside, IsWellFormed}
use Rattle.json_claims.specs.Field.{members_at}
use Rattle.displib_reader.specs.ProblemOf.{names_of_train, names_in, trains_of}
use Rattle.train_graphs.specs.Graphs.{AreInside}
use Rattle.train_graphs.proofs.Acyclic.{all_acyclic}
use Rattle.displib_reader.specs.Outcome.{IsLinked, KeepsRules}
use Rattle.std.specs.List.{flat_map}
use Rattle.displib_reader.proofs.Distinct.{distinct_places, once_distinct}
use Rattle.displib_reader.proofs.Parts.{IsGoodOperation}
use Rattle.displib_reader.proofs.Trains.{IsGoodTrain, all_weaker, good_trains, few_trains, few_operations, short_trains}
use Rattle.displib_reader.proofs.Components.{good_components, components_named}

all_numbers : (n r : ℕ) (train : List Operation) → AllByRecursion (IsGoodOperation n r) train → All HasFitNumbers train
all_numbers n r train all = All-from_recursion HasFitNumbers train (all_weaker (IsGoodOperation n r) HasFitNumbers (λ o h. h.numbers) train all)

all_refer : (n r : ℕ) (train : List Operation) → AllByRecursion (IsGoodOperation n r) train → All (RefersInside n r) train
all_refer n r train all = All-from_recursion (RefersInside n r) train (all_weaker (IsGoodOperation n r) (RefersInside n r) (λ o h. h.refers) train all)

inside : (r : ℕ) (train : List Operation) → IsGoodTrain r train → AreInside train
inside r train good =
    All-from_recursion (λ (p : Operation). All (λ s. s < length train) p.next) train (all_weaker (IsGoodOperation (length train) r) (λ (p : Operation). All (λ s. s < length train) p.next) (λ o h. h.refers.next) train good)

pub all_inside : (d : Data) → IsLinked d → (trains : List (List Operation)) → trains_of d ≡ Some trains → All AreInside trains
all_inside d linked trains is =
    All-from_recursion AreInside trains (all_weaker (IsGoodTrain (length (names_in d))) AreInside (inside (length (names_in d))) trains (good_trains d linked trains is))

pub all_short : (d : Data) → IsLinked d → (trains : List (List Operation)) → trains_of d ≡ Some trains → All (λ train. length train ≤ MOST_OPERATIONS) trains
all_short d linked trains is = All-from_recursion (λ train. length train ≤ MOST_OPERATIONS) trains (short_trains d linked trains is)

pub well_formed : (d : Data) (trains : List (List Operation)) (components : List Component) (names : List (List ℕ)) → KeepsRules d trains components → names_in d ≡ names → IsWellFormed trains components names
well_formed d trains components names keeps names-are =
    let linked = keeps.has_trains.linked in
    let is = keeps.has_trains.trains_are in
    let r = length (names_in d) in
    let good = good_trains d linked trains is in
    let parts = good_components d linked components keeps.has_components in
    let same : r ≡ length names = ap length names-are in
    record {
      numbers = All-from_recursion (λ train. All HasFitNumbers train) trains (all_weaker (IsGoodTrain r) (λ train. All HasFitNumbers train) (λ train h. all_numbers (length train) r train h) trains good);
      references = subst (λ n. All (λ train. All (RefersInside (length train) n) train) trains) same
          (All-from_recursion (λ train. All (RefersInside (length train) r) train) trains (all_weaker (IsGoodTrain r) (λ train. All (RefersInside (length train) r) train) (λ train h. all_refer (length train) r train h) trains good));
      acyclic = all_acyclic trains keeps.graphs;
      named = components_named d linked trains is components parts;
      distinct = subst (λ ns. (i j : ℕ) (name : List ℕ) → i < j → slice_get ns i ≡ Some name → slice_get ns j ≢ Some name) names-are
          (distinct_places bytes_eq nat_list_eq_equiv.refl (names_in d) (once_distinct bytes_eq (flat_map names_of_train (members_at (codes "trains") d))));
      trains_fit = few_trains d linked trains is;
      operations_fit = few_operations d linked trains is;
      components_fit = parts.few;
      costs_fit = keeps.cheap;
    }
