-- Events of one train in a valid plan: in which order they stand, and how far apart they start.
use Rattle.std.proofs.Common.{◌≡◌, ℕ, zero, suc, ◌+◌, ◌<◌, ◌≤◌, List, [], ◌∷◌, ◌++◌, take, drop, map, Option, Some, None, Bool, true, false, cond, refl, sym, ap, subst, ◌∙◌, arith, inl, inr}
use Rattle.std.specs.Prelude.{nat_eq, slice_get, IsSome, IfSome, sum_by, ◌&&◌}
use Rattle.std.proofs.lemmas.Bool.{eq-eqb, eqb-true, and_parts, false≢true}
use Rattle.std.proofs.lemmas.Option.{none-some, same_Some, slice_get_within, get_or_from_slice_get}
use Rattle.std.proofs.lemmas.List.{map-append}
use Rattle.std.proofs.lemmas.List.Elements.{filter-append}
use Rattle.std.proofs.lemmas.List.Sums.{sum_by-cons}
use Rattle.disp_model.specs.declared.train.Op.{Op}
use Rattle.disp_model.specs.declared.train.Operation.{Operation}
use Rattle.disp_model.specs.declared.plan.Event.{Event}
use Rattle.disp_model.specs.declared.fixing.Fixing.{Fixing}
use Rattle.disp_model.specs.declared.problem.Problem.{Problem}
use Rattle.disp_model.specs.Train.{duration_of, IsRoute}
use Rattle.disp_model.specs.WellFormed.{LeadsTo}
use Rattle.disp_model.specs.Plan.{run_of, operations_of, start_of, end_of}
use Rattle.disp_model.specs.Valid.{train_at, operation_of, IsValid}
use Rattle.disp_laws.proofs.Paths.{IsIn, leads_along, in_middle}
use Rattle.disp_laws.proofs.Runs.{Spaced, Spaced-suffix, Lasts, runs_are_spaced, split_at}
use Rattle.disp_laws.proofs.Branching.{IsStartedAt, get_later, route_from}

-- ---- what is run is started somewhere

started_at_head : (t o : ℕ) (e : Event) (plan : List Event) (b : Bool) → nat_eq e.train t ≡ b
    → (IsIn o (operations_of t plan) → (i : ℕ) × (f : Event) × IsStartedAt plan (record { train = t; op = o }) i f)
    → IsIn o (map (λ f. f.operation) (cond b (e ∷ run_of t plan) (run_of t plan))) → (i : ℕ) × (f : Event) × IsStartedAt (e ∷ plan) (record { train = t; op = o }) i f
started_at_head t o e plan false is later h = let found = later h in (suc found.0, found.1, found.2)
started_at_head t o e plan true is later (inl same) = (0, e, (refl, record { train = eqb-true e.train t is; operation = same }))
started_at_head t o e plan true is later (inr h) = let found = later h in (suc found.0, found.1, found.2)

pub in_is_started : (t o : ℕ) (plan : List Event) → IsIn o (operations_of t plan) → (i : ℕ) × (e : Event) × IsStartedAt plan (record { train = t; op = o }) i e
in_is_started t o [] h = absurd h
in_is_started t o (e ∷ plan) h = started_at_head t o e plan (nat_eq e.train t) refl (λ g. in_is_started t o plan g) h

start_at_head : (t o time : ℕ) (e : Event) (plan : List Event) (b : Bool) → ((nat_eq e.train t) && (nat_eq e.operation o)) ≡ b
    → (start_of plan t o ≡ Some time → (i : ℕ) × (f : Event) × IsStartedAt plan (record { train = t; op = o }) i f × (f.time ≡ time))
    → cond b (Some e.time) (start_of plan t o) ≡ Some time → (i : ℕ) × (f : Event) × IsStartedAt (e ∷ plan) (record { train = t; op = o }) i f × (f.time ≡ time)
start_at_head t o time e plan false is later h = let found = later h in (suc found.0, found.1, found.2, found.3)
start_at_head t o time e plan true is later h =
    let both = and_parts (nat_eq e.train t) (nat_eq e.operation o) is in
    (0, e, (refl, record { train = eqb-true e.train t both.0; operation = eqb-true e.operation o both.1 }), same_Some e.time time h)

-- what has a start is started then
pub start_is_started : (t o time : ℕ) (plan : List Event) → start_of plan t o ≡ Some time → (i : ℕ) × (e : Event) × IsStartedAt plan (record { train = t; op = o }) i e × (e.time ≡ time)
start_is_started t o time [] h = absurd (none-some time h)
start_is_started t o time (e ∷ plan) h = start_at_head t o time e plan ((nat_eq e.train t) && (nat_eq e.operation o)) refl (λ g. start_is_started t o time plan g) h

-- ---- two events of a train, in order

-- the run of a train, around two of its events
pub record IsAround (t : ℕ) (plan : List Event) (e f : Event) : Type 0 where
  pub before : List Event
  pub between : List Event
  pub behind : List Event
  pub run_is : run_of t plan ≡ before ++ e ∷ (between ++ f ∷ behind)

own_run : (t : ℕ) (e : Event) (rest : List Event) → e.train ≡ t → run_of t (e ∷ rest) ≡ e ∷ run_of t rest
own_run t e rest same = rw (same, eq-eqb t t refl) refl

pub run_split : (t : ℕ) (plan : List Event) (i : ℕ) (e : Event) → slice_get plan i ≡ Some e → e.train ≡ t → run_of t plan ≡ run_of t (take i plan) ++ e ∷ run_of t (drop (i + 1) plan)
run_split t plan i e at same =
    ap (run_of t) (split_at plan i e at) ∙ filter-append (λ g. nat_eq g.train t) (take i plan) (e ∷ drop (i + 1) plan)
    ∙ ap (λ (l : List Event). run_of t (take i plan) ++ l) (own_run t e (drop (i + 1) plan) same)

pub around : (o p : Op) (plan : List Event) (i j : ℕ) (e f : Event) → o.train ≡ p.train → i < j → IsStartedAt plan o i e → IsStartedAt plan p j f → IsAround o.train plan e f
around o p plan i j e f same lt first second =
    let t = o.train in
    let later = get_later plan i j f lt second.0 in
    let outer = run_split t plan i e first.0 first.1.train in
    let inner = run_split t (drop (i + 1) plan) later.0 f later.1 (second.1.train ∙ sym same) in
    record {
      before = run_of t (take i plan);
      between = run_of t (take later.0 (drop (i + 1) plan));
      behind = run_of t (drop (later.0 + 1) (drop (i + 1) plan));
      run_is = outer ∙ ap (λ (l : List Event). run_of t (take i plan) ++ e ∷ l) inner;
    }

-- the operations of what lies between
abbrev pub ops_of : List Event → List ℕ
ops_of run = map (λ e. e.operation) run

pub operations_around : (t : ℕ) (plan : List Event) (e f : Event) (a : IsAround t plan e f) → operations_of t plan ≡ ops_of a.before ++ e.operation ∷ (ops_of a.between ++ f.operation ∷ ops_of a.behind)
operations_around t plan e f a =
    ap ops_of a.run_is ∙ map-append (λ g. g.operation) a.before (e ∷ (a.between ++ f ∷ a.behind))
    ∙ ap (λ (l : List ℕ). ops_of a.before ++ e.operation ∷ l) (map-append (λ g. g.operation) a.between (f ∷ a.behind))

-- along a spaced run the durations pass
spaced_sum : (train : List Operation) (e : Event) (between : List Event) (f : Event) (behind : List Event) → Spaced train (e ∷ (between ++ f ∷ behind)) → e.time + sum_by (duration_of train) (e.operation ∷ ops_of between) ≤ f.time
spaced_sum train e [] f behind spaced = rw (sum_by-cons (duration_of train) e.operation []) (omega (arith, spaced.0))
spaced_sum train e (g ∷ between) f behind spaced =
    rw (sum_by-cons (duration_of train) e.operation (g.operation ∷ ops_of between)) (omega (arith, spaced.0, spaced_sum train g between f behind spaced.1))

pub around_sum : (train : List Operation) (t : ℕ) (plan : List Event) (e f : Event) (a : IsAround t plan e f) → Spaced train (run_of t plan) → e.time + sum_by (duration_of train) (e.operation ∷ ops_of a.between) ≤ f.time
around_sum train t plan e f a spaced = spaced_sum train e a.between f a.behind (Spaced-suffix train a.before (e ∷ (a.between ++ f ∷ a.behind)) (subst (Spaced train) a.run_is spaced))

-- ---- a valid plan lasts

lasting : (problem : Problem) (plan : List Event) (i : ℕ) (e : Event) (found : Option Operation) → operation_of problem e ≡ found → IsSome found → IfSome found (λ o. e.time + o.min ≤ (end_of problem.trains plan i e).time)
    → e.time + duration_of (train_at problem e.train) e.operation ≤ (end_of problem.trains plan i e).time
lasting problem plan i e None at some lasts = absurd (false≢true some)
lasting problem plan i e (Some o) at some lasts = rw at lasts

pub named_at : (problem : Problem) (fixings : List Fixing) (plan : List Event) (i : ℕ) (e : Event) → IsValid problem fixings plan → slice_get plan i ≡ Some e → IsSome (operation_of problem e)
named_at problem fixings plan i e valid at = subst (λ (f : Event). IsSome (operation_of problem f)) (get_or_from_slice_get plan i e e at) (valid.named i e (slice_get_within plan i e at))

pub valid_lasts : (problem : Problem) (fixings : List Fixing) (plan : List Event) → IsValid problem fixings plan → Lasts problem.trains plan
valid_lasts problem fixings plan valid i e at = lasting problem plan i e (operation_of problem e) refl (named_at problem fixings plan i e valid at) (valid.durations i e at)

pub valid_spaced : (problem : Problem) (fixings : List Fixing) (plan : List Event) (t : ℕ) → IsValid problem fixings plan → Spaced (train_at problem t) (run_of t plan)
valid_spaced problem fixings plan t valid = runs_are_spaced problem.trains plan t (valid_lasts problem fixings plan valid)

-- ---- ways join

pub leads_then : (train : List Operation) (n m o p q : ℕ) → LeadsTo train n o p → LeadsTo train m p q → (k : ℕ) × LeadsTo train k o q
leads_then train zero m o p q first second = (suc m, (p, first, second))
leads_then train (suc n) m o p q (r, step, rest) second = let joined = leads_then train n m r p q rest second in (suc joined.0, (r, step, joined.1))

-- a route leads from each operation to each later one
pub route_leads : (train : List Operation) (before : List ℕ) (u : ℕ) (between : List ℕ) (v : ℕ) (behind : List ℕ) → IsRoute train (before ++ u ∷ (between ++ v ∷ behind)) → (n : ℕ) × LeadsTo train n u v
route_leads train before u between v behind route =
    leads_along train u v (between ++ v ∷ behind) (route_from train before u (between ++ v ∷ behind) route) (in_middle v between behind)
