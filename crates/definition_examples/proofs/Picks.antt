-- What is picked at two nodes of the two trains.
use Rattle.std.proofs.Common.{◌≡◌, ◌≢◌, ◌⊎◌, inl, inr, ℕ, zero, suc, ◌<◌, List, [], ◌∷◌, take, drop, Some, refl, sym, subst, ap, ◌∙◌, arith, rules}
use Rattle.std.specs.Prelude.{Contains}
use Rattle.std.specs.List.{AllByRecursion}
use Rattle.std.proofs.lemmas.List.Elements.{All-from_recursion}
use Rattle.disp_model.specs.Node.{Node, root_of, node_at}
use Rattle.disp_model.specs.declared.train.Op.{Op}
use Rattle.disp_model.specs.declared.fixing.Fixing.{Fixing}
use Rattle.disp_model.specs.declared.decision.Decision.{Decision}
use Rattle.disp_model.specs.declared.decision.Choice.TheVariants.{Order}
use Rattle.disp_model.specs.declared.plan.Event.{Event}
use Rattle.disp_model.specs.declared.problem.Problem.{Problem}
use Rattle.disp_model.specs.WellFormed.{IsWellFormed}
use Rattle.disp_model.specs.Valid.{IsReleased, KeepApart}
use Rattle.disp_model.specs.Plan.{end_of}
use Rattle.disp_model.specs.Routes.{IsForced, Starts}
use Rattle.disp_model.specs.Walks.{IsLongest}
use Rattle.disp_model.specs.Earliest.{op_of, ComesBefore, IsReady, IsNext, HaveOneRoute, IsEarliest, Clash, IsOpenClash, IsPairUpTo, PicksOrder, IsFixedPick}
use Rattle.definition_examples.specs.Trains.{HasTwoTrains, two_trains, two_costs, op_named, a0, a1, b0, b1, listing, lasting}
use Rattle.definition_examples.specs.Plans.{event, each_alone, second_first}
use Rattle.definition_examples.proofs.Made.{of_made}
use Rattle.definition_examples.proofs.Pairs.{Places, at_each, PairPlaces, at_pair}
use Rattle.definition_examples.proofs.Contained.{in_two}
use Rattle.definition_examples.proofs.Heights.{longest, no_cycle}
use Rattle.definition_examples.proofs.Holding.{both}
use Rattle.definition_examples.proofs.JudgedPlans.{too_near}
use Rattle.definition_examples.proofs.TwoArcs.{two, IsOpen, IsOwn, route_is, free_arcs, none_decided}
use Rattle.definition_examples.proofs.TwoWalks.{IsFromZero, opened, unfixed, undecided, free_from_zero, forced, once, walk_from, free_walk}
use Rattle.definition_examples.proofs.TwoBounds.{height, rises, free_height}

-- what holds of each element holds of what the list contains
pub of_each : {X : Type 0} (P : X → Type 0) (xs : List X) → AllByRecursion P xs → (x : X) → Contains xs x → P x
of_each P xs all x (k, lt, at) = subst P at (All-from_recursion P xs all k x lt)

pub one_route : (release : ℕ) (names : List (List ℕ)) (w : IsWellFormed (two_trains release) two_costs names) (fixings : List Fixing) (decisions : List Decision)
    → IsOpen (node_at (two release names w) fixings decisions) → HaveOneRoute (node_at (two release names w) fixings decisions)
one_route release names w fixings decisions open_all t lt = (both, record { allowed = open_all t lt; alone = λ other allowed. route_is release names w t other lt allowed.is_route })

-- ---- each operation stands in a plan

abbrev pub HasEach : List Event → Type 0
HasEach plan = (t o : ℕ) → t < 2 → (o ≡ 0) ⊎ (o ≡ 1) → (e : Event) × Contains plan e × Starts (op_named t o) e

alone_each : HasEach each_alone
alone_each zero zero lt h = (event 0 0 0, (0, omega arith, refl), record { train = refl; operation = refl })
alone_each zero (suc zero) lt h = (event 0 1 10, (3, omega arith, refl), record { train = refl; operation = refl })
alone_each (suc zero) zero lt h = (event 1 0 0, (1, omega arith, refl), record { train = refl; operation = refl })
alone_each (suc zero) (suc zero) lt h = (event 1 1 4, (2, omega arith, refl), record { train = refl; operation = refl })
alone_each (suc (suc t)) o lt h = absurd (omega (arith, lt))
alone_each t (suc (suc o)) lt h = absurd (omega (arith, h))

pub second_each : HasEach second_first
second_each zero zero lt h = (event 0 0 4, (2, omega arith, refl), record { train = refl; operation = refl })
second_each zero (suc zero) lt h = (event 0 1 14, (3, omega arith, refl), record { train = refl; operation = refl })
second_each (suc zero) zero lt h = (event 1 0 0, (0, omega arith, refl), record { train = refl; operation = refl })
second_each (suc zero) (suc zero) lt h = (event 1 1 4, (1, omega arith, refl), record { train = refl; operation = refl })
second_each (suc (suc t)) o lt h = absurd (omega (arith, lt))
second_each t (suc (suc o)) lt h = absurd (omega (arith, h))

pub each_stands : (release : ℕ) (names : List (List ℕ)) (w : IsWellFormed (two_trains release) two_costs names) (fixings : List Fixing) (decisions : List Decision)
    → IsOpen (node_at (two release names w) fixings decisions) → (plan : List Event) → HasEach plan → (o : Op) → IsForced (node_at (two release names w) fixings decisions) o → (e : Event) × Contains plan e × Starts o e
each_stands release names w fixings decisions open_all plan has o is_forced =
    has o.train o.op is_forced.train (in_two 0 1 o.op (is_forced.each_has both (open_all o.train is_forced.train)))

-- ---- an event comes next

-- an operation that an own arc leads to is the second of its train
pub own_to : (u : Op) (t arc_length : ℕ) → IsOwn u (op_named t 1) arc_length → u ≡ op_named t 0
own_to u t arc_length own = own.from_is ∙ ap (λ (s : ℕ). op_named s 0) (sym (ap (λ (x : Op). x.train) own.to_is))

pub own_to_first : (u : Op) (t arc_length : ℕ) → IsOwn u (op_named t 0) arc_length → ⊥
own_to_first u t arc_length own = let same : 0 ≡ 1 = ap (λ (x : Op). x.op) own.to_is in omega (arith, same)

first_ready : (release : ℕ) (names : List (List ℕ)) (w : IsWellFormed (two_trains release) two_costs names) (fixings : List Fixing) (stood : List Event) (t time : ℕ)
    → IsReady (root_of (two release names w) fixings) stood (event t 0 time)
first_ready release names w fixings stood t time o (arc_length, arc) = absurd (own_to_first o t arc_length (free_arcs release names w fixings o (op_named t 0) arc_length arc))

pub starts_again : (t o : ℕ) (time : ℕ) (u : Op) → u ≡ op_named t o → Starts u (event t o time)
starts_again t o time u same = record { train = sym (ap (λ (x : Op). x.train) same); operation = sym (ap (λ (x : Op). x.op) same) }

second_ready : (release : ℕ) (names : List (List ℕ)) (w : IsWellFormed (two_trains release) two_costs names) (fixings : List Fixing) (stood : List Event) (t time : ℕ)
    → Contains stood (event t 0 0) → IsReady (root_of (two release names w) fixings) stood (event t 1 time)
second_ready release names w fixings stood t time there o (arc_length, arc) =
    (event t 0 0, there, starts_again t 0 0 o (own_to o t arc_length (free_arcs release names w fixings o (op_named t 1) arc_length arc)))

abbrev pub AllLater : Event → List Event → Type 0
AllLater e rest = AllByRecursion (λ f. (f ≡ e) ⊎ ComesBefore e f) rest

pub next_of_sorted : (node : Node) (stood rest : List Event) (e : Event)
    → IsReady node stood e → AllLater e rest → IsNext node stood rest e
next_of_sorted node stood rest e ready later = record {
  ready = ready;
  first = λ f there is_ready. of_each (λ g. (g ≡ e) ⊎ ComesBefore e g) rest later f there;
}

alone_ordered : (release : ℕ) (names : List (List ℕ)) (w : IsWellFormed (two_trains release) two_costs names) (fixings : List Fixing)
    → Places (λ i e. IsNext (root_of (two release names w) fixings) (take i each_alone) (drop i each_alone) e) 0 each_alone
alone_ordered release names w fixings =
    let problem = two release names w in (
      next_of_sorted (root_of problem fixings) [] each_alone (event 0 0 0) (first_ready release names w fixings [] 0 0) (inl refl, (inr (inr (refl, inl (omega arith))), (inr (inl (omega arith)), (inr (inl (omega arith)), tt)))),
      (
        next_of_sorted (root_of problem fixings) (event 0 0 0 ∷ []) (event 1 0 0 ∷ event 1 1 4 ∷ event 0 1 10 ∷ []) (event 1 0 0) (first_ready release names w fixings (event 0 0 0 ∷ []) 1 0) (inl refl, (inr (inl (omega arith)), (inr (inl (omega arith)), tt))),
        (
          next_of_sorted (root_of problem fixings) (event 0 0 0 ∷ event 1 0 0 ∷ []) (event 1 1 4 ∷ event 0 1 10 ∷ []) (event 1 1 4) (second_ready release names w fixings (event 0 0 0 ∷ event 1 0 0 ∷ []) 1 4 (1, omega arith, refl)) (inl refl, (inr (inl (omega arith)), tt)),
          (
            next_of_sorted (root_of problem fixings) (event 0 0 0 ∷ event 1 0 0 ∷ event 1 1 4 ∷ []) (event 0 1 10 ∷ []) (event 0 1 10) (second_ready release names w fixings (event 0 0 0 ∷ event 1 0 0 ∷ event 1 1 4 ∷ []) 0 10 (0, omega arith, refl)) (inl refl, tt),
            tt,
          ),
        ),
      ),
    )

-- ---- the earliest plan with no decision

pub own_ranks : (u v : Op) (arc_length : ℕ) → IsOwn u v arc_length → u.op < v.op
own_ranks u v arc_length own =
    let from : u.op ≡ 0 = ap (λ (x : Op). x.op) own.from_is in
    let to : v.op ≡ 1 = ap (λ (x : Op). x.op) own.to_is in
    omega (arith, from, to)

alone_starts : (release : ℕ) (names : List (List ℕ)) (w : IsWellFormed (two_trains release) two_costs names) (fixings : List Fixing) → IsFromZero (two release names w) fixings → IsOpen (root_of (two release names w) fixings)
    → AllByRecursion (λ e. IsForced (root_of (two release names w) fixings) (op_of e) × IsLongest (root_of (two release names w) fixings) (op_of e) e.time) each_alone
alone_starts release names w fixings low open_all =
    let problem = two release names w in
    let h = height 0 10 0 4 in
    let is = free_height release names w fixings low h (rises 0 10 0 4 (omega arith) (omega arith)) in
    let at_a0 = forced release names w fixings [] open_all 0 0 (omega arith) (omega arith) in
    let at_b0 = forced release names w fixings [] open_all 1 0 (omega arith) (omega arith) in (
      (at_a0, longest (root_of problem fixings) h is (a0 ∷ []) a0 ([], refl) (once (a0 ∷ []) (search rules)) (walk_from (root_of problem fixings) a0 [] 0 low at_a0 refl)),
      (
        (at_b0, longest (root_of problem fixings) h is (b0 ∷ []) b0 ([], refl) (once (b0 ∷ []) (search rules)) (walk_from (root_of problem fixings) b0 [] 0 low at_b0 refl)),
        (
          (forced release names w fixings [] open_all 1 1 (omega arith) (omega arith), longest (root_of problem fixings) h is (b0 ∷ b1 ∷ []) b1 (b0 ∷ [], refl) (once (b0 ∷ b1 ∷ []) (search rules)) (free_walk release names w fixings low open_all 1 (omega arith))),
          (
            (forced release names w fixings [] open_all 0 1 (omega arith) (omega arith), longest (root_of problem fixings) h is (a0 ∷ a1 ∷ []) a1 (a0 ∷ [], refl) (once (a0 ∷ a1 ∷ []) (search rules)) (free_walk release names w fixings low open_all 0 (omega arith))),
            tt,
          ),
        ),
      ),
    )

abbrev pub AreDifferent : List Event → Type 0
AreDifferent plan = PairPlaces (λ i e j f. op_of e ≢ op_of f) 0 plan

alone_different : AreDifferent each_alone
alone_different = search rules

alone_earliest : (release : ℕ) (names : List (List ℕ)) (w : IsWellFormed (two_trains release) two_costs names) (fixings : List Fixing) → IsFromZero (two release names w) fixings → IsOpen (root_of (two release names w) fixings)
    → IsEarliest (root_of (two release names w) fixings) each_alone
alone_earliest release names w fixings low open_all =
    let problem = two release names w in
    record {
      one_route = one_route release names w fixings [] open_all;
      no_cycle = no_cycle (root_of problem fixings) (λ o. o.op) (λ u v arc_length arc. own_ranks u v arc_length (free_arcs release names w fixings u v arc_length arc));
      each_run = each_stands release names w fixings [] open_all each_alone alone_each;
      none_else = of_each (λ e. IsForced (root_of problem fixings) (op_of e) × IsLongest (root_of problem fixings) (op_of e) e.time) each_alone (alone_starts release names w fixings low open_all);
      none_twice = λ i j e f lt at_i at_j. at_pair (λ k x l y. op_of x ≢ op_of y) 0 each_alone alone_different i j e f lt at_i at_j;
      ordered = at_each (λ i e. IsNext (root_of problem fixings) (take i each_alone) (drop i each_alone) e) each_alone (alone_ordered release names w fixings);
    }

-- ---- the first clash in it

alone_not_apart : (names : List (List ℕ)) (w : IsWellFormed (two_trains 0) two_costs names) → KeepApart (two 0 names w) each_alone 0 (event 0 0 0) 1 (event 1 0 0) → ⊥
alone_not_apart names w apart =
    let l = listing 0 0 in
    let released : IsReleased (end_of (two_trains 0) each_alone 0 (event 0 0 0)) l 1 (event 1 0 0)
    = too_near (two 0 names w) each_alone 0 1 (event 0 0 0) (event 1 0 0) (lasting 10 (l ∷ []) (1 ∷ [])) (lasting 4 (l ∷ []) (1 ∷ [])) l refl refl refl refl apart in
    let position : 3 < 1 = released.position in
    omega (arith, position)

up_to : (s o t p : ℕ) → s < t → IsPairUpTo a0 b0 (op_named s o) (op_named t p)
up_to (suc s) o t p lt = inl (inl (omega arith))
up_to zero (suc o) t p lt = inl (inr (refl, omega arith))
up_to zero zero zero p lt = absurd (omega (arith, lt))
up_to zero zero (suc zero) zero lt = inr (refl, inr refl)
up_to zero zero (suc zero) (suc p) lt = inr (refl, inl (inr (refl, omega arith)))
up_to zero zero (suc (suc t)) p lt = inr (refl, inl (inl (omega arith)))

alone_clash : (names : List (List ℕ)) (w : IsWellFormed (two_trains 0) two_costs names) → Clash (two 0 names w) each_alone a0 b0
alone_clash names w = record {
  i = 0;
  j = 1;
  earlier = event 0 0 0;
  later = event 1 0 0;
  order = omega arith;
  earlier_there = refl;
  later_there = refl;
  names = inl (record { train = refl; operation = refl }, record { train = refl; operation = refl });
  not_apart = alone_not_apart names w;
}

alone_open : (names : List (List ℕ)) (w : IsWellFormed (two_trains 0) two_costs names) (fixings : List Fixing) → IsOpenClash (root_of (two 0 names w) fixings) each_alone a0 b0
alone_open names w fixings = record {
  trains = omega arith;
  clash = alone_clash names w;
  undecided = none_decided a0 b0;
  undecided_back = none_decided b0 a0;
}

pub picks_order : (names : List (List ℕ)) (w : IsWellFormed (two_trains 0) two_costs names) (fixings : List Fixing) → IsFromZero (two 0 names w) fixings → IsOpen (root_of (two 0 names w) fixings)
    → PicksOrder (root_of (two 0 names w) fixings) a0 b0
picks_order names w fixings low open_all = record {
  plan = each_alone;
  earliest = alone_earliest 0 names w fixings low open_all;
  not_valid = λ valid. alone_not_apart names w (valid.apart 0 1 (event 0 0 0) (event 1 0 0) (omega arith) refl refl (omega arith));
  first_clash = record { open_clash = alone_open names w fixings; first = λ c d clash. up_to c.train c.op d.train d.op clash.trains };
}

pub order_is_picked : (problem : Problem) → HasTwoTrains 0 problem → IsFixedPick (root_of problem []) (Some (Order a0 b0))
order_is_picked problem has =
    of_made (λ p. IsFixedPick (root_of p []) (Some (Order a0 b0))) (two_trains 0) two_costs
    (λ names w. picks_order names w [] (free_from_zero 0 names w) (opened 0 names w [] [] unfixed undecided)) problem has.trains has.components
