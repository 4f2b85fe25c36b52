-- Lists of operations by their numbers.
use Rattle.std.proofs.Common.{◌≡◌, ℕ, ◌+◌, ◌<◌, List, [], ◌∷◌, ◌++◌, length, get_or, Some, sym, ap, subst, ◌∙◌, inl, inr, arith}
use Rattle.std.specs.Prelude.{slice_get}
use Rattle.std.proofs.lemmas.Bool.{cases_lt}
use Rattle.std.proofs.lemmas.Option.{slice_get_within, get_or_from_slice_get, slice_get-get_or, same_Some}
use Rattle.std.proofs.lemmas.List.{get_or_append_left, get_or_push, get_or_read, length_push}
use Rattle.std.proofs.lemmas.List.Sums.{sum_by_more}
use Rattle.disp_model.specs.declared.train.Op.{Op}
use Rattle.disp_model.specs.declared.train.Operation.{Operation}
use Rattle.disp_model.specs.declared.problem.Problem.{Problem}
use Rattle.disp_model.specs.WellFormed.{operation_count}
use Rattle.disp_model.specs.Numbers.{number_of}
use Rattle.disp_laws.proofs.Numbered.{below_count, numbers_apart, each_number}
use Rattle.event_windows.specs.Operations.{HasOperation, operations_before, ListsFirst, IsAtNumber, AreOperationsOf, AreFirstNumbers}

-- what stands at a place of a list with one more element
pub at_pushed : {X : Type 0} (xs : List X) (y x : X) (k : ℕ) → (k < length xs → slice_get xs k ≡ Some x) → (k ≡ length xs → y ≡ x) → k < length xs + 1 → slice_get (xs ++ y ∷ []) k ≡ Some x
at_pushed xs y x k before last lt = elim (cases_lt k (length xs)) [
  | inl less ↦ slice_get-get_or (xs ++ y ∷ []) k x (omega (arith, length_push xs y, less)) ∙ ap Some (get_or_append_left xs (y ∷ []) x k less ∙ get_or_from_slice_get xs k x x (before less))
  | inr past ↦
      let same : k ≡ length xs = omega (arith, lt, past) in
      slice_get-get_or (xs ++ y ∷ []) k x (omega (arith, length_push xs y, same)) ∙ ap Some (get_or_push xs y x k (sym same) ∙ last same)
]

-- ---- the operations

pub below : (problem : Problem) (o : Op) → HasOperation problem o → number_of problem o < operation_count problem.trains
below problem o has = below_count problem o has.train has.op

pub apart : (problem : Problem) (o p : Op) → HasOperation problem o → HasOperation problem p → number_of problem o ≡ number_of problem p → o ≡ p
apart problem o p has too same = numbers_apart problem o p has.train has.op too.train too.op same

pub lists_more : (problem : Problem) (ops new : List Op) (p : Op) → new ≡ ops ++ p ∷ [] → HasOperation problem p → number_of problem p ≡ length ops → ListsFirst problem ops → ListsFirst problem new
lists_more problem ops new p is has at lists = rw is (λ o there lt. at_pushed ops p o (number_of problem o) (lists o there) (λ same. sym (apart problem o p there has (same ∙ sym at))) (omega (arith, lt, length_push ops p)))

pub lists_all : (problem : Problem) (ops : List Op) → length ops ≡ operation_count problem.trains → ListsFirst problem ops → AreOperationsOf problem ops
lists_all problem ops long lists = record {
  long = long;
  listed = listed;
  numbered = λ n o e.
      let found = each_number problem n (omega (arith, slice_get_within ops n o e, long)) in
      let has : HasOperation problem found.0 = record { train = found.1; op = found.2 } in
      let same : found.0 ≡ o = same_Some found.0 o (sym (listed found.0 has) ∙ ap (λ (k : ℕ). slice_get ops k) found.3 ∙ e) in
      subst (λ (p : Op). IsAtNumber problem p n) same (record { there = has; number = found.3 });
}
  where
    listed : (o : Op) → HasOperation problem o → slice_get ops (number_of problem o) ≡ Some o
    listed o has = lists o has (omega (arith, below problem o has, long))

-- ---- the first numbers

pub firsts_more : (problem : Problem) (firsts new : List ℕ) (count i : ℕ) → new ≡ firsts ++ count ∷ [] → length firsts ≡ i → count ≡ operations_before problem i
    → ((t : ℕ) → t < i → slice_get firsts t ≡ Some (operations_before problem t)) → (t : ℕ) → t < i + 1 → slice_get new t ≡ Some (operations_before problem t)
firsts_more problem firsts new count i pushed long is before t lt = rw pushed (at_pushed firsts count (operations_before problem t) t
    (λ less. before t (omega (arith, less, long)))
    (λ same. is ∙ ap (λ (k : ℕ). operations_before problem k) (sym (same ∙ long)))
    (omega (arith, lt, long)))

pub first_is : (problem : Problem) (firsts : List ℕ) (t first : ℕ) → AreFirstNumbers problem firsts → t < length firsts → first ≡ get_or firsts t first → first ≡ operations_before problem t
first_is problem firsts t first are lt is = is ∙ get_or_from_slice_get firsts t (operations_before problem t) first (are.first t (omega (arith, lt, are.long)))

pub count_more : (problem : Problem) (trains : List (List Operation)) (i count len : ℕ) (train : List Operation) → trains ≡ problem.trains → i < length trains → train ≡ get_or trains i train → len ≡ length train → count ≡ operations_before problem i
    → count + len ≡ operations_before problem (i + 1)
count_more problem trains i count len train is lt read long before =
    let there : i < length problem.trains = subst (λ (l : List (List Operation)). i < length l) is lt in
    let found : train ≡ get_or problem.trains i train = subst (λ (l : List (List Operation)). train ≡ get_or l i train) is read in
    omega (arith, sum_by_more (λ (l : List Operation). length l) problem.trains i train there, ap (λ (l : List Operation). length l) found, long, before)

-- ---- single operations

pub op_there : (problem : Problem) (trains : List (List Operation)) (t o : ℕ) (train : List Operation) → trains ≡ problem.trains → t < length problem.trains → train ≡ get_or trains t train → o < length train → HasOperation problem (record { train = t; op = o })
op_there problem trains t o train is lt read inside = record {
  train = lt;
  op = subst (λ (l : List Operation). o < length l) (get_or_read problem.trains t train lt (subst (λ (l : List (List Operation)). train ≡ get_or l t train) is read) []) inside;
}

pub number_is : (problem : Problem) (trains : List (List Operation)) (t o first : ℕ) (train : List Operation) → trains ≡ problem.trains → t < length trains → train ≡ get_or trains t train → o < length train → first ≡ operations_before problem t
    → IsAtNumber problem (record { train = t; op = o }) (first + o)
number_is problem trains t o first train is lt read inside starts = record {
  there = op_there problem trains t o train is (subst (λ (l : List (List Operation)). t < length l) is lt) read inside;
  number = ap (λ (k : ℕ). k + o) (sym starts);
}

pub number_below : (problem : Problem) (o : Op) (n : ℕ) → IsAtNumber problem o n → n < operation_count problem.trains
number_below problem o n at = omega (arith, below problem o at.there, at.number)
