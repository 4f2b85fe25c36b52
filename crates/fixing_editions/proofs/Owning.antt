-- What each train's own fixings say is what all that stand say of it.
use Rattle.std.proofs.Common.{◌≡◌, ℕ, ◌<◌, length, max, List, [], ◌∷◌, ◌++◌, Option, Some, Bool, true, false, refl, sym, ap, ◌∙◌, inl, inr, arith}
use Rattle.std.specs.Prelude.{nat_eq, All, map, not, IsTrue, ◌↔◌, ◌&&◌}
use Rattle.std.proofs.lemmas.Bool.{cases_Bool, eqb-true, eqb-false, false≢true}
use Rattle.std.proofs.lemmas.List.Elements.{All-nil, All-cons, All-head, All-tail, All-push, All-pop}
use Rattle.disp_model.specs.declared.fixing.Fixing.{Fixing}
use Rattle.disp_model.specs.declared.fixing.Fixing.TheVariants.{Started, Chosen, NotBefore}
use Rattle.disp_model.specs.declared.fixing.Change.{Change}
use Rattle.disp_model.specs.declared.problem.Problem.{Problem}
use Rattle.disp_model.specs.Changes.{numbered_standing, standing_of}
use Rattle.disp_model.specs.Node.{Node, root_of}
use Rattle.disp_model.specs.Walks.{fixed_start, not_before}
use Rattle.disp_model.specs.Routes.{AgreesWithFixing, AgreesWithDecision, HasRoute}
use Rattle.disp_model.specs.Replies.{is_same, known_as, fixed_next}
use Rattle.disp_laws.proofs.RouteSearch.{Decided, has_route_or_not}
use Rattle.fixing_editions.specs.declared.train_fixings.Numbered.{Numbered}
use Rattle.fixing_editions.specs.Own.{train_of, own_of, fixings_with, number_in, start_in, next_numbered, earliest_in}

-- ---- numbers

both_trains : (t u o p n m : ℕ) → ((nat_eq t u) && (nat_eq o p) && (nat_eq n m)) ≡ true → t ≡ u
both_trains t u o p n m is = by (nat_eq t u) refl is
  where
    by : (b : Bool) → nat_eq t u ≡ b → (b && (nat_eq o p) && (nat_eq n m)) ≡ true → t ≡ u
    by true e h = eqb-true t u e
    by false e h = absurd (false≢true h)

same_train : (f g : Fixing) → is_same f g ≡ true → train_of f ≡ train_of g
same_train (Started t o time) (Started u p other) is = both_trains t u o p time other is
same_train (Started t o time) (Chosen u p next) is = absurd (false≢true is)
same_train (Started t o time) (NotBefore u p next) is = absurd (false≢true is)
same_train (Chosen t o next) (Started u p time) is = absurd (false≢true is)
same_train (Chosen t o next) (Chosen u p other) is = both_trains t u o p next other is
same_train (Chosen t o next) (NotBefore u p time) is = absurd (false≢true is)
same_train (NotBefore t o time) (Started u p other) is = absurd (false≢true is)
same_train (NotBefore t o time) (Chosen u p next) is = absurd (false≢true is)
same_train (NotBefore t o time) (NotBefore u p other) is = both_trains t u o p time other is

numbers_from : (t : ℕ) (f : Fixing) (standing : List (ℕ × Fixing)) → train_of f ≡ t → number_in (own_of t standing) f ≡ known_as f standing
numbers_from t f [] own = refl
numbers_from t f (p ∷ standing) own = elim (cases_Bool (nat_eq (train_of p.1) t)) [
  | inl e ↦ elim (cases_Bool (is_same p.1 f)) [
    | inl s ↦ rw (e, s) refl
    | inr s ↦ rw (e, s) (numbers_from t f standing own)
  ]
  | inr e ↦ elim (cases_Bool (is_same p.1 f)) [
    | inl s ↦ absurd (eqb-false (train_of p.1) t e (same_train p.1 f s ∙ own))
    | inr s ↦ rw (e, s) (numbers_from t f standing own)
  ]
]

pub number_found : (t : ℕ) (f : Fixing) (changes : List Change) (kept : List Numbered) (result found : Option ℕ) → train_of f ≡ t
    → kept ≡ own_of t (numbered_standing changes) → result ≡ number_in kept f → result ≡ found → known_as f (numbered_standing changes) ≡ found
number_found t f changes kept result found own is reads says =
    sym (numbers_from t f (numbered_standing changes) own) ∙ ap (λ (l : List Numbered). number_in l f) (sym is) ∙ sym reads ∙ says

-- ---- starts and choices

abbrev fixings_in : List (ℕ × Fixing) → List Fixing
fixings_in standing = map (λ p. p.1) standing

starts_from : (t o : ℕ) (standing : List (ℕ × Fixing)) → start_in (own_of t standing) o ≡ fixed_start (fixings_in standing) (record { train = t; op = o })
starts_from t o [] = refl
starts_from t o ((n, Started u p time) ∷ standing) = elim (cases_Bool (nat_eq u t)) [
  | inl e ↦ elim (cases_Bool (nat_eq p o)) [ inl s ↦ rw (e, s) refl | inr s ↦ rw (e, s) (starts_from t o standing) ]
  | inr e ↦ rw e (starts_from t o standing)
]
starts_from t o ((n, Chosen u p next) ∷ standing) = elim (cases_Bool (nat_eq u t)) [ inl e ↦ rw e (starts_from t o standing) | inr e ↦ rw e (starts_from t o standing) ]
starts_from t o ((n, NotBefore u p time) ∷ standing) = elim (cases_Bool (nat_eq u t)) [ inl e ↦ rw e (starts_from t o standing) | inr e ↦ rw e (starts_from t o standing) ]

nexts_from : (t o : ℕ) (standing : List (ℕ × Fixing)) → next_numbered (own_of t standing) o ≡ fixed_next (fixings_in standing) (record { train = t; op = o })
nexts_from t o [] = refl
nexts_from t o ((n, Chosen u p next) ∷ standing) = elim (cases_Bool (nat_eq u t)) [
  | inl e ↦ elim (cases_Bool (nat_eq p o)) [ inl s ↦ rw (e, s) refl | inr s ↦ rw (e, s) (nexts_from t o standing) ]
  | inr e ↦ rw e (nexts_from t o standing)
]
nexts_from t o ((n, Started u p time) ∷ standing) = elim (cases_Bool (nat_eq u t)) [ inl e ↦ rw e (nexts_from t o standing) | inr e ↦ rw e (nexts_from t o standing) ]
nexts_from t o ((n, NotBefore u p time) ∷ standing) = elim (cases_Bool (nat_eq u t)) [ inl e ↦ rw e (nexts_from t o standing) | inr e ↦ rw e (nexts_from t o standing) ]

not_less : (n : ℕ) → max 0 n ≡ n
not_less n = omega arith

earliest_from : (t o : ℕ) (standing : List (ℕ × Fixing)) → earliest_in (own_of t standing) o ≡ not_before (fixings_in standing) (record { train = t; op = o })
earliest_from t o [] = refl
earliest_from t o ((n, NotBefore u p time) ∷ standing) = elim (cases_Bool (nat_eq u t)) [
  | inl e ↦ elim (cases_Bool (nat_eq p o)) [
    | inl s ↦ rw (e, s) (ap (λ (x : ℕ). max time x) (earliest_from t o standing))
    | inr s ↦ rw (e, s) (not_less (earliest_in (own_of t standing) o) ∙ earliest_from t o standing)
  ]
  | inr e ↦ rw e (earliest_from t o standing)
]
earliest_from t o ((n, Started u p time) ∷ standing) = elim (cases_Bool (nat_eq u t)) [
  | inl e ↦ rw e (not_less (earliest_in (own_of t standing) o) ∙ earliest_from t o standing)
  | inr e ↦ rw e (earliest_from t o standing)
]
earliest_from t o ((n, Chosen u p next) ∷ standing) = elim (cases_Bool (nat_eq u t)) [
  | inl e ↦ rw e (not_less (earliest_in (own_of t standing) o) ∙ earliest_from t o standing)
  | inr e ↦ rw e (earliest_from t o standing)
]

pub start_found : (t o : ℕ) (changes : List Change) (kept : List Numbered) (result found : Option ℕ) → kept ≡ own_of t (numbered_standing changes)
    → result ≡ start_in kept o → result ≡ found → fixed_start (standing_of changes) (record { train = t; op = o }) ≡ found
start_found t o changes kept result found is reads says =
    sym (starts_from t o (numbered_standing changes)) ∙ ap (λ (l : List Numbered). start_in l o) (sym is) ∙ sym reads ∙ says

pub next_found : (t o : ℕ) (changes : List Change) (kept : List Numbered) (result found : Option ℕ) → kept ≡ own_of t (numbered_standing changes)
    → result ≡ next_numbered kept o → result ≡ found → fixed_next (standing_of changes) (record { train = t; op = o }) ≡ found
next_found t o changes kept result found is reads says =
    sym (nexts_from t o (numbered_standing changes)) ∙ ap (λ (l : List Numbered). next_numbered l o) (sym is) ∙ sym reads ∙ says

pub earliest_found : (t o : ℕ) (changes : List Change) (kept : List Numbered) → kept ≡ own_of t (numbered_standing changes)
    → not_before (standing_of changes) (record { train = t; op = o }) ≡ earliest_in kept o
earliest_found t o changes kept is =
    sym (earliest_from t o (numbered_standing changes)) ∙ ap (λ (l : List Numbered). earliest_in l o) (sym is)

-- ---- routes

agrees_other : (route : List ℕ) (t : ℕ) (f : Fixing) → (train_of f ≡ t → ⊥) → AgreesWithFixing t route f
agrees_other route t (Started u o time) other = λ same. absurd (other same)
agrees_other route t (Chosen u o next) other = λ same. absurd (other same)
agrees_other route t (NotBefore u o time) other = tt

abbrev own_fixings : List Numbered → List Fixing
own_fixings kept = map (λ n. n.fixing) kept

all_agree : (route : List ℕ) (t : ℕ) (standing : List (ℕ × Fixing)) → All (AgreesWithFixing t route) (own_fixings (own_of t standing)) → All (AgreesWithFixing t route) (fixings_in standing)
all_agree route t [] all = All-nil (AgreesWithFixing t route)
all_agree route t (p ∷ standing) all = elim (cases_Bool (nat_eq (train_of p.1) t)) [
  | inl e ↦
      let h : All (AgreesWithFixing t route) (p.1 ∷ own_fixings (own_of t standing)) = rw e at all in
      All-cons (AgreesWithFixing t route) p.1 (fixings_in standing) (All-head (AgreesWithFixing t route) p.1 (own_fixings (own_of t standing)) h)
      (all_agree route t standing (All-tail (AgreesWithFixing t route) p.1 (own_fixings (own_of t standing)) h))
  | inr e ↦
      let h : All (AgreesWithFixing t route) (own_fixings (own_of t standing)) = rw e at all in
      All-cons (AgreesWithFixing t route) p.1 (fixings_in standing) (agrees_other route t p.1 (λ same. eqb-false (train_of p.1) t e same)) (all_agree route t standing h)
]

own_agree : (route : List ℕ) (t : ℕ) (standing : List (ℕ × Fixing)) → All (AgreesWithFixing t route) (fixings_in standing) → All (AgreesWithFixing t route) (own_fixings (own_of t standing))
own_agree route t [] all = All-nil (AgreesWithFixing t route)
own_agree route t (p ∷ standing) all = elim (cases_Bool (nat_eq (train_of p.1) t)) [
  | inl e ↦ rw e (All-cons (AgreesWithFixing t route) p.1 (own_fixings (own_of t standing)) (All-head (AgreesWithFixing t route) p.1 (fixings_in standing) all)
      (own_agree route t standing (All-tail (AgreesWithFixing t route) p.1 (fixings_in standing) all)))
  | inr e ↦ rw e (own_agree route t standing (All-tail (AgreesWithFixing t route) p.1 (fixings_in standing) all))
]

pub routes_are : (problem : Problem) (t : ℕ) (changes : List Change) (fixing : Fixing)
    → HasRoute (root_of problem (fixings_with (own_of t (numbered_standing changes)) fixing)) t ↔ HasRoute (root_of problem (standing_of changes ++ fixing ∷ [])) t
routes_are problem t changes fixing = (to, from)
  where
    own : List Numbered
    own = own_of t (numbered_standing changes)

    to : HasRoute (root_of problem (fixings_with own fixing)) t → HasRoute (root_of problem (standing_of changes ++ fixing ∷ [])) t
    to (route, allowed) =
        let both = All-pop (AgreesWithFixing t route) (fixings_with own fixing) (own_fixings own) (Some fixing) refl allowed.fixings_agree in (
          route,
          record {
            is_route = allowed.is_route;
            fixings_agree = All-push (AgreesWithFixing t route) (standing_of changes) fixing (all_agree route t (numbered_standing changes) both.0) both.1;
            decisions_agree = All-nil (AgreesWithDecision t route);
          },
        )

    from : HasRoute (root_of problem (standing_of changes ++ fixing ∷ [])) t → HasRoute (root_of problem (fixings_with own fixing)) t
    from (route, allowed) =
        let both = All-pop (AgreesWithFixing t route) (standing_of changes ++ fixing ∷ []) (standing_of changes) (Some fixing) refl allowed.fixings_agree in (
          route,
          record {
            is_route = allowed.is_route;
            fixings_agree = All-push (AgreesWithFixing t route) (own_fixings own) fixing (own_agree route t (numbered_standing changes) both.0) both.1;
            decisions_agree = All-nil (AgreesWithDecision t route);
          },
        )

-- ---- whether a route is left

pub some_left : (node : Node) (t : ℕ) (none : Bool) → t < length node.problem.trains → (IsTrue none ↔ (HasRoute node t → ⊥)) → IsTrue (not none) ↔ HasRoute node t
some_left node t true there says = (λ is. absurd (false≢true is), λ has. absurd (says.0 refl has))
some_left node t false there says = (λ is. by (has_route_or_not node t there), λ has. refl)
  where
    by : Decided (HasRoute node t) → HasRoute node t
    by (inl has) = has
    by (inr none_has) = absurd (false≢true (says.1 none_has))
