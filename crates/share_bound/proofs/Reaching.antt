-- When operations are reached along allowed routes, and by when they are entered.
use Rattle.std.proofs.Common.{◌≡◌, ℕ, ◌+◌, ◌≤◌, List, [], ◌∷◌, false, Option, Some, None, refl, sym, ap, subst, inl, inr, arith}
use Rattle.std.specs.Prelude.{nat_eq, slice_get, max, unwrap_or}
use Rattle.std.proofs.lemmas.Bool.{cases_Bool, eqb-true, eq-eqb}
use Rattle.std.proofs.lemmas.Option.{none-some, same_Some, get_or_from_slice_get}
use Rattle.disp_model.specs.declared.train.Operation.{Operation}
use Rattle.disp_model.specs.Train.{duration_of}
use Rattle.disp_model.specs.Valid.{train_at}
use Rattle.disp_model.specs.Node.{Node}
use Rattle.disp_model.specs.Shares.{reached_from, IsReach}
use Rattle.disp_laws.proofs.Paths.{IsIn}
use Rattle.disp_laws.proofs.Shares.{reached_in}
use Rattle.route_marks.specs.Ways.{Goes, IsRowWalk, Chain, last_of}
use Rattle.route_marks.specs.Marks.{IsLaid}
use Rattle.route_sets.specs.Sets.{AreAllowedRows}
use Rattle.share_bound.proofs.Stepping.{goes_on, goes_below, last_here}
use Rattle.share_bound.specs.Times.{left_after, AreTimes, reach_in}
use Rattle.share_bound.proofs.Entering.{chain_place}

-- what a way reaches a chain comes to
pub way_reaches : (train : List Operation) (order : List ℕ) (rows : List (List ℕ)) (base : ℕ → ℕ)
    (p time : ℕ) (rest : List ℕ) (o m : ℕ) → Goes order rows p rest
    → reached_from base train time (p ∷ rest) o ≡ Some m
    → (front : List ℕ) × Chain order rows p front o
    × (m ≡ max (left_after base train time front) (base o))
way_reaches train order rows base p time [] o m goes at = elim (cases_Bool (nat_eq p o)) [
  | inl is ↦ let same = eqb-true p o is in
      let value = same_Some (max time (base p)) m (rw is at at) in let bases = ap base same in
      ([], same, omega (arith, value, bases))
  | inr not ↦ absurd (none-some m (rw not at at))
]
way_reaches train order rows base p time (s ∷ rest) o m goes at = elim (cases_Bool (nat_eq p o)) [
  | inl is ↦ let same = eqb-true p o is in
      let value = same_Some (max time (base p)) m (rw is at at) in let bases = ap base same in
      ([], same, omega (arith, value, bases))
  | inr not ↦ let later = way_reaches train order rows base s
      (max time (base p) + duration_of train p) rest o m goes.1 (rw not at at) in
      (p ∷ later.0, (refl, (s, goes.0, later.1)), later.2)
]

-- a whole way reaches the operation so
pub record IsReached (train : List Operation) (order : List ℕ) (rows : List (List ℕ)) (base : ℕ → ℕ)
    (p time o total : ℕ) : Type 0 where
  pub rest : List ℕ
  pub goes : Goes order rows p rest
  pub at : reached_from base train time (p ∷ rest) o ≡ Some total

-- a chain to an operation and a way from there on make one, which reaches it as the chain does
pub chain_reaches : (train : List Operation) (order : List ℕ) (rows : List (List ℕ)) (base : ℕ → ℕ)
    (k p time : ℕ) (front : List ℕ) (o : ℕ) (back : List ℕ) → IsLaid train order rows
    → slice_get order k ≡ Some p → Chain order rows p front o → Goes order rows o back
    → IsReached train order rows base p time o (max (left_after base train time front) (base o))
chain_reaches train order rows base k p time [] o back laid here chain goes = record {
  rest = back;
  goes = subst (λ (x : ℕ). Goes order rows x back) (sym chain) goes;
  at = rw (eq-eqb p o chain) (ap (λ (x : ℕ). Some (max time (base x))) chain);
}
chain_reaches train order rows base k p time (q ∷ front) o back laid here chain goes =
    let place = subst (λ (x : ℕ). slice_get order k ≡ Some x) chain.0 here in
    let s = chain.1.0 in
    let next = laid.down k q s place chain.1.1 in
    let later = chain_reaches train order rows base next.0 s
    (max time (base q) + duration_of train q) front o back laid next.2 chain.1.2 goes in
    let on : IsIn o (s ∷ later.rest) = reached_in base train
    (max time (base q) + duration_of train q) (s ∷ later.rest) o
    (max (left_after base train (max time (base q) + duration_of train q) front) (base o))
    later.at in
    let below = goes_below train order rows next.0 s later.rest laid next.2 later.goes o on in
    let other : nat_eq q o ≡ false = elim (cases_Bool (nat_eq q o)) [
      | inl is ↦ let same = laid.one_place below.0 k o below.2
          (subst (λ (x : ℕ). slice_get order k ≡ Some x) (eqb-true q o is) place) in
          absurd (omega (arith, same, below.1, next.1))
      | inr not ↦ not
    ] in
    let whole : IsReached train order rows base q time o
    (max (left_after base train (max time (base q) + duration_of train q) front) (base o)) =
    record { rest = s ∷ later.rest; goes = (chain.1.1, later.goes); at = rw other later.at } in
    subst (λ (x : ℕ). IsReached train order rows base x time o
    (max (left_after base train (max time (base q) + duration_of train q) front) (base o)))
    (sym chain.0) whole

-- ---- reaches

-- the first operation of an allowed route and what comes behind it
pub begins : (order : List ℕ) (rows : List (List ℕ)) (e : ℕ) (route : List ℕ)
    → IsRowWalk order rows e route → (rest : List ℕ) × (route ≡ e ∷ rest) × Goes order rows e rest
begins order rows e [] walk = absurd walk
begins order rows e (p ∷ rest) walk = (
  rest,
  ap (λ (x : ℕ). x ∷ rest) (sym walk.0),
  subst (λ (x : ℕ). Goes order rows x rest) (sym walk.0) walk.1,
)

-- the least time at which an operation is reached along an allowed route is the one that is kept
pub same_reach : (node : Node) (t : ℕ) (order : List ℕ) (rows : List (List ℕ)) (base : ℕ → ℕ)
    (times : List (Option ℕ)) (o total : ℕ) → AreAllowedRows node t order rows
    → AreTimes (train_at node.problem t) base order rows times
    → IsReach node t base o total → total ≡ reach_in times base o
same_reach node t order rows base times o total are kept reach = omega (
  arith,
  later,
  found.2,
  front.2,
  kept_is,
)
  where
    train : List Operation
    train = train_at node.problem t

    e : ℕ
    e = last_of order

    route : List ℕ
    route = reach.there.0

    whole : (rest : List ℕ) × (route ≡ e ∷ rest) × Goes order rows e rest
    whole = begins order rows e route (are.walk route reach.there.1)

    at : reached_from base train 0 (e ∷ whole.0) o ≡ Some total
    at = subst (λ (l : List ℕ). reached_from base train 0 l o ≡ Some total) whole.1 reach.there.2

    front : (front : List ℕ) × Chain order rows e front o
        × (total ≡ max (left_after base train 0 front) (base o))
    front = way_reaches train order rows base e 0 whole.0 o total whole.2 at

    found : (x : ℕ) × (slice_get times o ≡ Some (Some x)) × (x ≤ left_after base train 0 front.0)
    found = kept.least o front.0 front.1

    kept_is : reach_in times base o ≡ max found.0 (base o)
    kept_is = ap (λ (x : Option ℕ). max (unwrap_or x 0) (base o))
        (get_or_from_slice_get times o (Some found.0) None found.1)

    joined : (way : List ℕ) → Chain order rows e way o
        → IsReached train order rows base e 0 o (max (left_after base train 0 way) (base o))
    joined way chain =
        let place = chain_place train order rows way o are.laid chain in
        let back = goes_on train order rows place.0 o are.laid place.1 in
        let last = last_here train order rows are.laid in
        chain_reaches train order rows base last.0 e 0 way o back.0 are.laid last.2 chain back.1

    later : total ≤ max found.0 (base o)
    later =
        let way = kept.sound o found.0 found.1 in
        let over = joined way.0 way.1 in
        let least = reach.least (e ∷ over.rest) (max (left_after base train 0 way.0) (base o))
        (are.route (e ∷ over.rest) (refl, over.goes)) over.at in
        omega (arith, least, way.2)
