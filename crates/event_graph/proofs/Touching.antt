-- The arcs of the orders of one operation, from the last order to the first.
use Rattle.std.proofs.Common.{◌≡◌, ◌∙◌, ℕ, ◌+◌, ◌-◌, ◌<◌, ◌≤◌, List, length, map, get_or, Some, sym, ap, subst, inl, inr, arith}
use Rattle.std.specs.Prelude.{slice_get, slice_index, All, Contains}
use Rattle.std.proofs.lemmas.Bool.{cases_lt}
use Rattle.std.proofs.lemmas.Option.{slice_get_within, same_Some, slice_get-get_or, get_or_from_slice_get}
use Rattle.std.proofs.lemmas.List.{length-map, get_or-map}
use Rattle.std.proofs.lemmas.List.Elements.{All-contains}
use Rattle.disp_model.specs.declared.train.Op.{Op}
use Rattle.disp_model.specs.declared.decision.Decision.{Decision}
use Rattle.disp_model.specs.declared.decision.Decision.TheVariants.{First}
use Rattle.disp_model.specs.Numbers.{number_of}
use Rattle.disp_model.specs.Node.{Node}
use Rattle.disp_model.specs.Routes.{IsForced}
use Rattle.disp_model.specs.Arcs.{Conflicts, release_of, min_of}
use Rattle.incremental_paths.specs.declared.arc.Arc.{Arc}
use Rattle.incremental_paths.specs.Threaded.{IsFront}
use Rattle.train_orders.proofs.Places.{at_contains, contains_at}
use Rattle.event_arcs.specs.Ordering.{LeadsAsOrdered, AddsOrder}
use Rattle.event_arcs.proofs.Joining.{leads_kept}
use Rattle.event_graph.specs.declared.orders.Pair.{Pair}
use Rattle.event_graph.specs.Pairs.{IsDecidedAt, HasOrder, HasNoOrderFrom, Touches, AddsTouching, IsPlaceOf, AddsFrom}

pub ordered_kept : (node : Node) (old new : List Arc) (pair : Pair) → ((arc : Arc) → Contains old arc → Contains new arc) → LeadsAsOrdered node old pair.first pair.second → LeadsAsOrdered node new pair.first pair.second
ordered_kept node old new pair kept leads = record {
  from_first = leads_kept old new (number_of node.problem pair.first) (number_of node.problem pair.second) (min_of node.problem pair.first + release_of node.problem pair.first pair.second) kept leads.from_first;
  from_next = λ n goes. leads_kept old new (number_of node.problem n) (number_of node.problem pair.second) (release_of node.problem pair.first pair.second) kept (leads.from_next n goes);
}

key_at : (key : Pair → ℕ) (pairs : List Pair) (i : ℕ) (pair : Pair) → slice_get pairs i ≡ Some pair → slice_index (map key pairs) i ≡ key pair
key_at key pairs i pair at = get_or-map key pairs i pair 0 (slice_get_within pairs i pair at) ∙ ap key (get_or_from_slice_get pairs i pair pair at)

pub placed_last : (keys : List ℕ) (k number place : ℕ) → k ≤ length keys → IsFront keys k number place → IsPlaceOf keys number place
placed_last keys k number place le front = record { within = omega (arith, front.within, le); last = front.last }

pub added_none : (key : Pair → ℕ) (number : ℕ) (node : Node) (pairs : List Pair) (place : ℕ) (arcs : List Arc) → IsFront (map key pairs) (length (map key pairs)) number place → AddsFrom key number node pairs place arcs arcs
added_none key number node pairs place arcs front = record {
  kept = λ arc there. there;
  sound = λ decided sound. sound;
  leads = λ i pair le at picked one other conflicts.
      absurd (front.none_behind i le (omega (arith, slice_get_within pairs i pair at, length-map pairs key)) (key_at key pairs i pair at ∙ picked));
}

pub added_more : (key : Pair → ℕ) (number : ℕ) (node : Node) (pairs : List Pair) (place next : ℕ) (pair : Pair) (old mid new : List Arc) → 0 < place → slice_get pairs (place - 1) ≡ Some pair → IsPlaceOf (map key pairs) number place
    → IsFront (map key pairs) (place - 1) (slice_index (map key pairs) (place - 1)) next → AddsFrom key number node pairs place old mid → AddsOrder node (First pair.first pair.second) mid new → AddsFrom key number node pairs next old new
added_more key number node pairs place next pair old mid new some at placed front before adds = record {
  kept = λ arc there. adds.kept arc (before.kept arc there);
  sound = λ decided sound. adds.sound (of_all decided) (before.sound decided sound);
  leads = λ i other le here picked one two conflicts. by i other le here picked one two conflicts;
}
  where
    of_all : All (IsDecidedAt node) pairs → Contains node.decisions (First pair.first pair.second)
    of_all decided = All-contains (IsDecidedAt node) pairs pair decided (contains_at pairs pair (place - 1) at)

    by : (i : ℕ) (other : Pair) → next ≤ i → slice_get pairs i ≡ Some other → key other ≡ number → IsForced node other.first → IsForced node other.second → Conflicts node.problem other.first other.second
        → LeadsAsOrdered node new other.first other.second
    by i other le here picked one two conflicts = elim (cases_lt i place) [
      | inr past ↦ ordered_kept node mid new other adds.kept (before.leads i other past here picked one two conflicts)
      | inl lt ↦ elim (cases_lt i (place - 1)) [
        | inl early ↦ absurd (front.none_behind i le early (key_at key pairs i other here ∙ picked ∙ sym (placed.last some)))
        | inr last ↦
            let same : i ≡ place - 1 = omega (arith, lt, last, some) in
            let is : pair ≡ other = same_Some pair other (sym at ∙ subst (λ (k : ℕ). slice_get pairs k ≡ Some other) same here) in
            adds.leads other.first other.second (ap (λ (p : Pair). First p.first p.second) is) one two conflicts
      ]
    ]

pub added_all : (key : Pair → ℕ) (number : ℕ) (node : Node) (pairs : List Pair) (place : ℕ) (old new : List Arc) → place ≤ 0 → AddsFrom key number node pairs place old new → AddsTouching (λ pair. key pair ≡ number) node pairs old new
added_all key number node pairs place old new le adds = record {
  kept = adds.kept;
  sound = adds.sound;
  leads = λ pair there picked one other conflicts. let found = at_contains pairs pair there in adds.leads found.0 pair (omega (arith, le)) found.1 picked one other conflicts;
}

pub added_both : (number : ℕ) (node : Node) (pairs : List Pair) (old mid new : List Arc) → AddsTouching (λ pair. pair.from ≡ number) node pairs old mid → AddsTouching (λ pair. pair.to ≡ number) node pairs mid new
    → AddsTouching (λ pair. Touches pair number) node pairs old new
added_both number node pairs old mid new first second = record {
  kept = λ arc there. second.kept arc (first.kept arc there);
  sound = λ decided sound. second.sound decided (first.sound decided sound);
  leads = λ pair there touches one other conflicts. elim touches [
    | inl from ↦ ordered_kept node mid new pair second.kept (first.leads pair there from one other conflicts)
    | inr to ↦ second.leads pair there to one other conflicts
  ];
}

-- ---- one step of the loop

pub place_on : (keys : List ℕ) (number place next : ℕ) → 0 < place → IsPlaceOf keys number place → IsFront keys (place - 1) (slice_index keys (place - 1)) next → IsPlaceOf keys number next
place_on keys number place next some is front =
    placed_last keys (place - 1) number next (omega (arith, is.within)) (subst (λ (n : ℕ). IsFront keys (place - 1) n next) (is.last some) front)

pub loop_begins : (key : Pair → ℕ) (keys : List ℕ) (number : ℕ) (node : Node) (inside pairs : List Pair) (place : ℕ) (arcs : List Arc) → keys ≡ map key inside → inside ≡ pairs → IsFront keys (length keys) number place
    → AddsFrom key number node pairs place arcs arcs
loop_begins key keys number node inside pairs place arcs threaded same front =
    added_none key number node pairs place arcs (subst (λ (ks : List ℕ). IsFront ks (length ks) number place) (threaded ∙ ap (λ (ps : List Pair). map key ps) same) front)

pub loop_on : (key : Pair → ℕ) (keys : List ℕ) (number : ℕ) (node : Node) (inside pairs : List Pair) (place next : ℕ) (pair : Pair) (decision : Decision) (old mid new : List Arc) → keys ≡ map key inside → inside ≡ pairs → 0 < place
    → pair ≡ get_or inside (place - 1) pair → decision ≡ First pair.first pair.second → IsPlaceOf keys number place → IsFront keys (place - 1) (slice_index keys (place - 1)) next → AddsFrom key number node pairs place old mid → AddsOrder node decision mid new
    → AddsFrom key number node pairs next old new
loop_on key keys number node inside pairs place next pair decision old mid new threaded same some at decided is front before adds =
    let mapped : keys ≡ map key pairs = threaded ∙ ap (λ (ps : List Pair). map key ps) same in
    let within : place - 1 < length pairs = omega (arith, some, is.within, ap (λ (ks : List ℕ). length ks) mapped, length-map pairs key) in
    let here : slice_get pairs (place - 1) ≡ Some pair = slice_get-get_or pairs (place - 1) pair within ∙ ap Some (sym (at ∙ ap (λ (ps : List Pair). get_or ps (place - 1) pair) same)) in
    added_more key number node pairs place next pair old mid new some here (subst (λ (ks : List ℕ). IsPlaceOf ks number place) mapped is)
    (subst (λ (ks : List ℕ). IsFront ks (place - 1) (slice_index ks (place - 1)) next) mapped front) before (subst (λ (d : Decision). AddsOrder node d mid new) decided adds)

-- ---- whether an order is there

pub from_at : (keys : List ℕ) (pairs : List Pair) (i : ℕ) (pair : Pair) → keys ≡ map (λ p. p.from) pairs → slice_get pairs i ≡ Some pair → slice_index keys i ≡ pair.from
from_at keys pairs i pair mapped at = ap (λ (ks : List ℕ). slice_index ks i) mapped ∙ key_at (λ p. p.from) pairs i pair at

pub none_yet : (keys : List ℕ) (pairs : List Pair) (place from : ℕ) (first second : Op) → keys ≡ map (λ p. p.from) pairs → IsFront keys (length keys) from place → HasNoOrderFrom pairs place from first second
none_yet keys pairs place from first second mapped front i pair le at is =
    front.none_behind i le (omega (arith, slice_get_within pairs i pair at, ap (λ (ks : List ℕ). length ks) mapped, length-map pairs (λ p. p.from))) (from_at keys pairs i pair mapped at ∙ is.from_is)

-- the order that ends at a place
pub pair_before : (keys : List ℕ) (pairs : List Pair) (place from : ℕ) (pair : Pair) → keys ≡ map (λ p. p.from) pairs → 0 < place → IsPlaceOf keys from place → pair ≡ get_or pairs (place - 1) pair → slice_get pairs (place - 1) ≡ Some pair
pair_before keys pairs place from pair mapped some placed at =
    let within : place - 1 < length pairs = omega (arith, some, placed.within, ap (λ (ks : List ℕ). length ks) mapped, length-map pairs (λ p. p.from)) in
    slice_get-get_or pairs (place - 1) pair within ∙ ap Some (sym at)

pub none_on : (keys : List ℕ) (pairs : List Pair) (place next from : ℕ) (pair : Pair) (first second : Op) → keys ≡ map (λ p. p.from) pairs → 0 < place → IsPlaceOf keys from place → IsFront keys (place - 1) (slice_index keys (place - 1)) next
    → slice_get pairs (place - 1) ≡ Some pair → ((pair.first ≡ first) × (pair.second ≡ second) → ⊥) → HasNoOrderFrom pairs place from first second → HasNoOrderFrom pairs next from first second
none_on keys pairs place next from pair first second mapped some placed front at other none i found le here is = elim (cases_lt i place) [
  | inr past ↦ none i found past here is
  | inl lt ↦ elim (cases_lt i (place - 1)) [
    | inl early ↦ front.none_behind i le early (from_at keys pairs i found mapped here ∙ is.from_is ∙ sym (placed.last some))
    | inr last ↦
        let equal : i ≡ place - 1 = omega (arith, lt, last, some) in
        let one : pair ≡ found = same_Some pair found (sym at ∙ subst (λ (k : ℕ). slice_get pairs k ≡ Some found) equal here) in
        other (ap (λ (p : Pair). p.first) one ∙ is.first_is, ap (λ (p : Pair). p.second) one ∙ is.second_is)
  ]
]

pub none_there : (pairs : List Pair) (place from : ℕ) (first second : Op) → place ≤ 0 → HasNoOrderFrom pairs place from first second → HasOrder pairs from first second → ⊥
none_there pairs place from first second le none has = let found = at_contains pairs has.0 has.1 in none found.0 has.0 (omega (arith, le)) found.1 has.2

pub order_there : (keys : List ℕ) (pairs : List Pair) (place from : ℕ) (pair : Pair) (first second : Op) → keys ≡ map (λ p. p.from) pairs → 0 < place → IsPlaceOf keys from place → slice_get pairs (place - 1) ≡ Some pair → (pair.first ≡ first) × (pair.second ≡ second)
    → HasOrder pairs from first second
order_there keys pairs place from pair first second mapped some placed at is = (pair, contains_at pairs pair (place - 1) at, record { from_is = sym (from_at keys pairs (place - 1) pair mapped at) ∙ placed.last some; first_is = is.0; second_is = is.1 })
