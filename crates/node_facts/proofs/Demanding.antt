-- What the fixings and decisions of a train ask, one after another.
use Rattle.std.proofs.Common.{◌≡◌, ℕ, ◌+◌, ◌<◌, ◌≤◌, List, [], ◌∷◌, ◌++◌, length, take, get_or, Option, Some, None, subst, inl, inr, cond, refl, ap, sym, suc, arith, Bool, false}
use Rattle.std.specs.Prelude.{nat_eq, ◌↔◌, Contains, All}
use Rattle.std.proofs.lemmas.Bool.{cases_Bool, eqb-true, eqb-false}
use Rattle.std.proofs.lemmas.List.{take_more, take_all}
use Rattle.std.specs.List.{filter}
use Rattle.std.proofs.lemmas.List.Elements.{All-nil, All-cons, All-head, All-tail, All-push, All-pop, All-append, All-filter}
use Rattle.disp_model.specs.declared.fixing.Fixing.{Fixing}
use Rattle.disp_model.specs.declared.fixing.Fixing.TheVariants.{Started, Chosen, NotBefore}
use Rattle.disp_model.specs.declared.decision.Decision.{Decision}
use Rattle.disp_model.specs.declared.decision.Decision.TheVariants.{Go, First, Run, Skip}
use Rattle.disp_model.specs.Routes.{AgreesWithFixing, AgreesWithDecision}
use Rattle.node_facts.specs.declared.demands.Demand.{Demand}
use Rattle.node_facts.specs.declared.demands.Demand.TheVariants.{Has, Lacks, Goes, Follows}
use Rattle.decision_paths.specs.Kept.{speaks_of}
use Rattle.node_facts.specs.Indexed.{fixes_train}
use Rattle.node_facts.specs.Demands.{AreDemands, Meets, fixing_demand, decision_demand, as_demands, AreDemandsFor}

meets_one : (route : List ℕ) (demand : Demand) → All (Meets route) (demand ∷ []) ↔ Meets route demand
meets_one route demand = (λ h. All-head (Meets route) demand [] h, λ h. All-cons (Meets route) demand [] h (All-nil (Meets route)))

-- a demand of another train asks nothing
of_train : (u t : ℕ) (route : List ℕ) (demand : Demand) (P : Type 0) → (Meets route demand ↔ P) → All (Meets route) (as_demands (cond (nat_eq u t) (Some demand) None)) ↔ (u ≡ t → P)
of_train u t route demand P says = elim (cases_Bool (nat_eq u t)) [
  | inl is ↦ rw is (λ h same. says.0 ((meets_one route demand).0 h), λ h. (meets_one route demand).1 (says.1 (h (eqb-true u t is))))
  | inr not ↦ rw not (λ h same. absurd (eqb-false u t not same), λ h. All-nil (Meets route))
]

pub fixing_asks : (t : ℕ) (route : List ℕ) (fixing : Fixing) → All (Meets route) (as_demands (fixing_demand t fixing)) ↔ AgreesWithFixing t route fixing
fixing_asks t route (Started u o time) = of_train u t route (Has o) (Contains route o) (λ h. h, λ h. h)
fixing_asks t route (Chosen u o next) = of_train u t route (Goes o next) _ (λ h. h, λ h. h)
fixing_asks t route (NotBefore u o time) = (λ h. tt, λ h. All-nil (Meets route))

pub decision_asks : (t : ℕ) (route : List ℕ) (decision : Decision) → All (Meets route) (as_demands (decision_demand t decision)) ↔ AgreesWithDecision t route decision
decision_asks t route (Go o next) = of_train o.train t route (Follows o.op next) _ (λ h. h, λ h. h)
decision_asks t route (First a b) = (λ h. tt, λ h. All-nil (Meets route))
decision_asks t route (Run o) = of_train o.train t route (Has o.op) (Contains route o.op) (λ h. h, λ h. h)
decision_asks t route (Skip o) = of_train o.train t route (Lacks o.op) (Contains route o.op → ⊥) (λ h. h, λ h. h)

pub all_parts : {X : Type 0} (P : X → Type 0) (xs ys : List X) → All P (xs ++ ys) → All P xs × All P ys
all_parts P [] ys h = (All-nil P, h)
all_parts P (x ∷ xs) ys h = let parts = all_parts P xs ys (λ k d lt. h (suc k) d (omega arith)) in (All-cons P x xs (h 0 x (omega arith)) parts.0, parts.1)

all_more : {X : Type 0} (P : X → Type 0) (xs : List X) (i : ℕ) (d : X) → i < length xs → (All P (take i xs) × P (get_or xs i d)) ↔ All P (take (i + 1) xs)
all_more P xs i d lt = rw (take_more xs i d lt) (
  λ h. All-push P (take i xs) (get_or xs i d) h.0 h.1,
  λ h. All-pop P (take i xs ++ get_or xs i d ∷ []) (take i xs) (Some (get_or xs i d)) refl h,
)

-- one more fixing or decision is asked, beside what is asked already
pub asks_more : {X : Type 0} (Before : List ℕ → Type 0) (Agrees : List ℕ → X → Type 0) (demand_of : X → Option Demand) (xs : List X) (i : ℕ) (d : X) (demand : Option Demand) (demands : List Demand) → i < length xs
    → ((route : List ℕ) (x : X) → All (Meets route) (as_demands (demand_of x)) ↔ Agrees route x) → demand ≡ demand_of (get_or xs i d)
    → AreDemandsFor (λ route. Before route × All (Agrees route) (take i xs)) demands → AreDemandsFor (λ route. Before route × All (Agrees route) (take (i + 1) xs)) (demands ++ as_demands demand)
asks_more Before Agrees demand_of xs i d demand demands lt asks is before route = (
  λ h.
      let parts = all_parts (Meets route) demands (as_demands demand) h in
      let early = (before route).0 parts.0 in
      (early.0, (all_more (Agrees route) xs i d lt).0 (early.1, says.0 parts.1)),
  λ h.
      let parts = (all_more (Agrees route) xs i d lt).1 h.1 in
      All-append (Meets route) demands (as_demands demand) ((before route).1 (h.0, parts.0)) (says.1 parts.1),
)
  where
    says : All (Meets route) (as_demands demand) ↔ Agrees route (get_or xs i d)
    says = rw is (asks route (get_or xs i d))

-- no decision is asked yet
pub asks_first : {X : Type 0} (Before : List ℕ → Type 0) (Agrees : List ℕ → X → Type 0) (demands : List Demand) → AreDemandsFor Before demands → AreDemandsFor (λ route. Before route × All (Agrees route) []) demands
asks_first Before Agrees demands before route = (λ h. ((before route).0 h, All-nil (Agrees route)), λ h. (before route).1 h.0)

-- all are asked
pub asks_whole : {X : Type 0} (Before : List ℕ → Type 0) (Agrees : List ℕ → X → Type 0) (xs : List X) (i : ℕ) (demands : List Demand) → length xs ≤ i
    → AreDemandsFor (λ route. Before route × All (Agrees route) (take i xs)) demands → AreDemandsFor (λ route. Before route × All (Agrees route) xs) demands
asks_whole {X} Before Agrees xs i demands past asks = subst (λ (l : List X). AreDemandsFor (λ route. Before route × All (Agrees route) l) demands) (take_all i xs past) asks

pub asks_alone : (P : List ℕ → Type 0) (demands : List Demand) → AreDemandsFor (λ route. Unit {0} × P route) demands → AreDemandsFor P demands
asks_alone P demands asks route = (λ h. ((asks route).0 h).1, λ h. (asks route).1 (tt, h))

-- what does not speak of a train's routes asks nothing of them
not_about : (t : ℕ) (route : List ℕ) (decision : Decision) → speaks_of t decision ≡ false → AgreesWithDecision t route decision
not_about t route (Go o next) not = λ same. absurd (eqb-false o.train t not same)
not_about t route (First a b) not = tt
not_about t route (Run o) not = λ same. absurd (eqb-false o.train t not same)
not_about t route (Skip o) not = λ same. absurd (eqb-false o.train t not same)

-- where all holds of what does not pass, it holds of all as of what passes
all_filtered : {X : Type 0} (P : X → Type 0) (p : X → Bool) → ((x : X) → p x ≡ false → P x) → (xs : List X) → All P (filter p xs) → All P xs
all_filtered P p other [] h = All-nil P
all_filtered {X} P p other (x ∷ xs) h = elim (cases_Bool (p x)) [
  | inl is ↦
      let passed : All P (x ∷ filter p xs) = subst (All P) (ap (λ (b : Bool). cond b (x ∷ filter p xs) (filter p xs)) is) h in
      All-cons P x xs (All-head P x (filter p xs) passed) (all_filtered P p other xs (All-tail P x (filter p xs) passed))
  | inr not ↦ All-cons P x xs (other x not) (all_filtered P p other xs (subst (All P) (ap (λ (b : Bool). cond b (x ∷ filter p xs) (filter p xs)) not) h))
]

all_about : (t : ℕ) (route : List ℕ) (decisions others : List Decision) → filter (speaks_of t) decisions ≡ filter (speaks_of t) others → All (AgreesWithDecision t route) decisions → All (AgreesWithDecision t route) others
all_about t route decisions others same h =
    all_filtered (AgreesWithDecision t route) (speaks_of t) (not_about t route) others
    (subst (All (AgreesWithDecision t route)) same (All-filter (speaks_of t) (AgreesWithDecision t route) decisions h))

-- what decisions ask that have all those on a train's routes, all of them ask
pub asks_about : (t : ℕ) (fixings : List Fixing) (own decisions : List Decision) (demands : List Demand) → filter (speaks_of t) own ≡ filter (speaks_of t) decisions → AreDemands t fixings own demands → AreDemands t fixings decisions demands
asks_about t fixings own decisions demands same asks route = (
  λ h. let both = (asks route).0 h in (both.0, all_about t route own decisions same both.1),
  λ h. (asks route).1 (h.0, all_about t route decisions own (sym same) h.1),
)

-- what does not speak of a train asks nothing of its routes
not_fixed : (t : ℕ) (route : List ℕ) (fixing : Fixing) → fixes_train t fixing ≡ false → AgreesWithFixing t route fixing
not_fixed t route (Started u o time) not = λ same. absurd (eqb-false u t not same)
not_fixed t route (Chosen u o next) not = λ same. absurd (eqb-false u t not same)
not_fixed t route (NotBefore u o time) not = tt

all_fixed : (t : ℕ) (route : List ℕ) (fixings others : List Fixing) → filter (fixes_train t) fixings ≡ filter (fixes_train t) others → All (AgreesWithFixing t route) fixings → All (AgreesWithFixing t route) others
all_fixed t route fixings others same h =
    all_filtered (AgreesWithFixing t route) (fixes_train t) (not_fixed t route) others
    (subst (All (AgreesWithFixing t route)) same (All-filter (fixes_train t) (AgreesWithFixing t route) fixings h))

-- what fixings ask that have all those of a train, all of them ask
pub asks_fixed : (t : ℕ) (own fixings : List Fixing) (decisions : List Decision) (demands : List Demand) → filter (fixes_train t) own ≡ filter (fixes_train t) fixings → AreDemands t own decisions demands → AreDemands t fixings decisions demands
asks_fixed t own fixings decisions demands same asks route = (
  λ h. let both = (asks route).0 h in (all_fixed t route own fixings same both.0, both.1),
  λ h. (asks route).1 (all_fixed t route fixings own (sym same) h.0, h.1),
)
