-- A train of a problem has an entry and an exit: a way that never ends would come back.
use Rattle.std.proofs.Common.{◌≡◌, ℕ, zero, suc, ◌<◌, List, [], ◌∷◌, length, refl, subst, ap, arith, inl, inr}
use Rattle.std.specs.Prelude.{nat_eq, All}
use Rattle.std.specs.List.{IsDistinct}
use Rattle.std.proofs.lemmas.List.Elements.{All-contains, All-tail}
use Rattle.std.proofs.lemmas.Map.Steps.{length-le_from_distinct_below}
use Rattle.disp_model.specs.declared.train.Operation.{Operation}
use Rattle.disp_model.specs.declared.problem.Problem.{Problem}
use Rattle.disp_model.specs.Train.{next_of, IsSuccessor, IsEntry, IsExit}
use Rattle.disp_model.specs.WellFormed.{LeadsTo, IsAcyclic}
use Rattle.disp_model.specs.Valid.{train_at}
use Rattle.disp_laws.proofs.Paths.{IsIn}
use Rattle.disp_laws.proofs.RouteSearch.{below, contains_below, within_train, not_among, any_is_in, contained_or_not, is_entry_or_not, is_exit_or_not}
use Rattle.disp_laws.proofs.LongestArcs.{some_or_not}

-- ---- ways along successors

abbrev IsPath : List Operation → ℕ → List ℕ → Type 0
IsPath train o [] = Unit {0}
IsPath train o (s ∷ rest) = IsSuccessor train o s × IsPath train s rest

path_leads : (train : List Operation) (o q : ℕ) (rest : List ℕ) → IsPath train o rest → IsIn q rest → (n : ℕ) × LeadsTo train n o q
path_leads train o q [] path there = absurd there
path_leads train o q (s ∷ rest) path (inl same) = (0, subst (λ (x : ℕ). IsSuccessor train o x) same path.0)
path_leads train o q (s ∷ rest) path (inr there) = let later = path_leads train s q rest path.1 there in (suc later.0, (s, path.0, later.1))

path_distinct : (train : List Operation) (o : ℕ) (rest : List ℕ) → IsAcyclic train → IsPath train o rest → IsDistinct nat_eq (o ∷ rest)
unfolding IsDistinct
path_distinct train o [] acyclic path = (tt, tt)
path_distinct train o (s ∷ rest) acyclic path = (
  not_among o (s ∷ rest) (λ there. let back = path_leads train o o (s ∷ rest) path there in acyclic.no_cycle back.0 o back.1),
  path_distinct train s rest acyclic path.1,
)

-- successors are operations of the train
abbrev StaysInside : List Operation → Type 0
StaysInside train = (o s : ℕ) → IsSuccessor train o s → s < length train

stays : (count : ℕ) (train : List Operation) (o s : ℕ) → All (λ p. All (λ n. n < count) p.next) train → IsSuccessor train o s → s < count
stays count [] o s each (k, lt, e) = absurd (omega arith)
stays count (p ∷ train) zero s each next = All-contains (λ (n : ℕ). n < count) p.next s (each 0 p (omega arith)) next
stays count (p ∷ train) (suc o) s each next = stays count train o s (All-tail (λ (q : Operation). All (λ n. n < count) q.next) p train each) next

path_inside : (train : List Operation) (o : ℕ) (rest : List ℕ) → StaysInside train → o < length train → IsPath train o rest → (q : ℕ) → IsIn q (o ∷ rest) → q < length train
path_inside train o rest inside within path q (inl same) = subst (λ (x : ℕ). x < length train) same within
path_inside train o [] inside within path q (inr there) = absurd there
path_inside train o (s ∷ rest) inside within path q (inr there) = path_inside train s rest inside (inside o s path.0) path.1 q there

-- no way is as long as its train
path_ends : (train : List Operation) (o : ℕ) (rest : List ℕ) → IsAcyclic train → StaysInside train → o < length train → IsPath train o rest → length rest < length train
path_ends train o rest acyclic inside within path =
    let fits = length-le_from_distinct_below (o ∷ rest) (length train) (path_distinct train o rest acyclic path) (λ q there. path_inside train o rest inside within path q (any_is_in q (o ∷ rest) there)) in
    omega (arith, fits)

record Way (train : List Operation) (n : ℕ) : Type 0 where
  pub start : ℕ
  pub within : start < length train
  pub rest : List ℕ
  pub long : length rest ≡ n
  pub path : IsPath train start rest

not_so_long : (train : List Operation) → IsAcyclic train → StaysInside train → Way train (length train) → ⊥
not_so_long train acyclic inside way =
    let ends = path_ends train way.start way.rest acyclic inside way.within way.path in
    omega (arith, ends, way.long)

-- ---- an exit

from_there : (train : List Operation) → StaysInside train → ((o : ℕ) → o < length train → (s : ℕ) × IsSuccessor train o s) → (n o : ℕ) → o < length train → (rest : List ℕ) × (length rest ≡ n) × IsPath train o rest
from_there train inside on zero o within = ([], refl, tt)
from_there train inside on (suc n) o within =
    let next = on o within in
    let later = from_there train inside on n next.0 (inside o next.0 next.1) in
    (next.0 ∷ later.0, ap (λ (m : ℕ). suc m) later.1, (next.1, later.2))

goes_on_or_not : (train : List Operation) (o : ℕ) → o < length train → (IsExit train o → ⊥) → (s : ℕ) × IsSuccessor train o s
goes_on_or_not train o within none = first (next_of train o) refl
  where
    first : (nexts : List ℕ) → next_of train o ≡ nexts → (s : ℕ) × IsSuccessor train o s
    first [] is = absurd (none (record { there = within; last = is }))
    first (s ∷ nexts) is = (s, (0, rw is (omega arith), rw is refl))

pub has_exit : (train : List Operation) → IsAcyclic train → StaysInside train → (o : ℕ) × IsExit train o
has_exit train acyclic inside = elim (some_or_not (IsExit train) (is_exit_or_not train) (below (length train))) [
  | inl found ↦ (found.0, found.2)
  | inr none ↦ absurd (endless (λ o within. goes_on_or_not train o within (λ exit. none (o, contains_below (length train) o within, exit))))
]
  where
    endless : ((o : ℕ) → o < length train → (s : ℕ) × IsSuccessor train o s) → ⊥
    endless on =
        let way = from_there train inside on (length train) 0 acyclic.entered in
        not_so_long train acyclic inside (record { start = 0; within = acyclic.entered; rest = way.0; long = way.1; path = way.2 })

-- ---- an entry

up_to_there : (train : List Operation) → 0 < length train → ((o : ℕ) → o < length train → (p : ℕ) × IsSuccessor train p o) → (n : ℕ) → Way train n
up_to_there train entered back zero = record { start = 0; within = entered; rest = []; long = refl; path = tt }
up_to_there train entered back (suc n) =
    let later = up_to_there train entered back n in
    let before = back later.start later.within in
    record { start = before.0; within = within_train train before.0 later.start before.1; rest = later.start ∷ later.rest; long = ap (λ (m : ℕ). suc m) later.long; path = (before.1, later.path) }

comes_after_or_not : (train : List Operation) (o : ℕ) → o < length train → (IsEntry train o → ⊥) → (p : ℕ) × IsSuccessor train p o
comes_after_or_not train o within none = elim (some_or_not (λ p. IsSuccessor train p o) (λ p. contained_or_not o (next_of train p)) (below (length train))) [
  | inl found ↦ (found.0, found.2)
  | inr nothing ↦ absurd (none (record { there = within; first = λ p next. nothing (p, contains_below (length train) p (within_train train p o next), next) }))
]

pub has_entry : (train : List Operation) → IsAcyclic train → StaysInside train → (o : ℕ) × IsEntry train o
has_entry train acyclic inside = elim (some_or_not (IsEntry train) (is_entry_or_not train) (below (length train))) [
  | inl found ↦ (found.0, found.2)
  | inr none ↦ absurd (not_so_long train acyclic inside (up_to_there train acyclic.entered (λ o within. comes_after_or_not train o within (λ entry. none (o, contains_below (length train) o within, entry))) (length train)))
]

-- ---- one of each

inside_at : (problem : Problem) (t : ℕ) → t < length problem.trains → StaysInside (train_at problem t)
inside_at problem t within o s next = stays (length (train_at problem t)) (train_at problem t) o s (λ k d lt. (problem.well_formed.references t [] within k d lt).next) next

pub entered_once : (problem : Problem) (t : ℕ) → t < length problem.trains → (o : ℕ) × IsEntry (train_at problem t) o × ((p : ℕ) → IsEntry (train_at problem t) p → p ≡ o)
entered_once problem t within =
    let found = has_entry (train_at problem t) (problem.well_formed.acyclic t [] within) (inside_at problem t within) in
    (found.0, found.1, λ p entry. (problem.well_formed.acyclic t [] within).one_entry p found.0 entry found.1)

pub left_once : (problem : Problem) (t : ℕ) → t < length problem.trains → (o : ℕ) × IsExit (train_at problem t) o × ((p : ℕ) → IsExit (train_at problem t) p → p ≡ o)
left_once problem t within =
    let found = has_exit (train_at problem t) (problem.well_formed.acyclic t [] within) (inside_at problem t within) in
    (found.0, found.1, λ p exit. (problem.well_formed.acyclic t [] within).one_exit p found.0 exit found.1)
