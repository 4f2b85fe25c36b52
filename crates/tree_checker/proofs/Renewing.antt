-- What is known of trains stays where no decision on their routes changes.
use Rattle.std.proofs.Common.{◌≡◌, ℕ, suc, ◌+◌, ◌<◌, ◌≤◌, List, [], ◌∷◌, ◌++◌, length, take, drop, get_or, set, Some, refl, sym, ap, subst, ◌∙◌, inl, inr, arith}
use Rattle.std.specs.Prelude.{slice_get, Contains, All}
use Rattle.std.proofs.lemmas.Bool.{cases_lt}
use Rattle.std.proofs.lemmas.Option.{same_Some, slice_get_within}
use Rattle.std.proofs.lemmas.List.{length-set, take_more, take_all, take-append-drop, get_or-drop, length-drop, get_or_default}
use Rattle.std.proofs.lemmas.List.Elements.{All-nil, All-cons, All-head, All-append, Contains-push_cases}
use Rattle.disp_model.specs.declared.fixing.Fixing.{Fixing}
use Rattle.disp_model.specs.declared.decision.Decision.{Decision}
use Rattle.disp_model.specs.declared.decision.Decision.TheVariants.{Go, First, Run, Skip}
use Rattle.disp_model.specs.declared.problem.Problem.{Problem}
use Rattle.disp_model.specs.Node.{Node, node_at}
use Rattle.disp_model.specs.Routes.{AgreesWithDecision}
use Rattle.train_orders.proofs.Places.{contains_none, set_at, set_elsewhere, same_number}
use Rattle.node_facts.specs.declared.train.TrainKnowledge.{TrainKnowledge}
use Rattle.node_facts.specs.Known.{IsKnown}
use Rattle.node_facts.specs.Orders.{AreKnown}
use Rattle.node_facts.proofs.Demanding.{all_parts}
use Rattle.tree_checker.specs.declared.places.Place.{Place}
use Rattle.tree_checker.specs.Places.{last_decision, decisions_at}
use Rattle.tree_checker.specs.Descents.{Covers, Notes, AreNoted, RenewsOne, AreRenewed}
use Rattle.decision_paths.specs.Kept.{train_about}

-- ---- decisions on the routes of other trains

-- each route agrees with a decision that does not speak of its train
agrees : (t : ℕ) (route : List ℕ) (decision : Decision) → (train_about decision ≡ Some t → ⊥) → AgreesWithDecision t route decision
agrees t route (Go o next) other = λ same. absurd (other (ap (λ (n : ℕ). Some n) same))
agrees t route (First a b) other = tt
agrees t route (Run o) other = λ same. absurd (other (ap (λ (n : ℕ). Some n) same))
agrees t route (Skip o) other = λ same. absurd (other (ap (λ (n : ℕ). Some n) same))

all_agree : (t : ℕ) (route : List ℕ) (changed : List ℕ) (decisions : List Decision) → (Contains changed t → ⊥) → All (λ decision. Covers decision changed) decisions → All (AgreesWithDecision t route) decisions
all_agree t route changed [] other covers = All-nil (AgreesWithDecision t route)
all_agree t route changed (decision ∷ decisions) other covers =
    All-cons (AgreesWithDecision t route) decision decisions (agrees t route decision (λ about. other ((All-head (λ d. Covers d changed) decision decisions covers).has t about)))
    (all_agree t route changed decisions other (λ k d lt. covers (suc k) d (omega (arith, lt))))

-- of a train that no changed decision speaks of the same is known
carried : (problem : Problem) (fixings : List Fixing) (path : List Decision) (place : Place) (changed : List ℕ) (t : ℕ) (known : TrainKnowledge) → All (λ decision. Covers decision changed) (drop place.depth path ++ last_decision place.decision)
    → (Contains changed t → ⊥) → IsKnown (node_at problem fixings path) t known → IsKnown (node_at problem fixings (decisions_at path place)) t known
carried problem fixings path place changed t known covers other is = record {
  there = is.there;
  order_is = is.order_is;
  places_are = is.places_are;
  demands_are = λ route. (
    λ met. let agree = (is.demands_are route).0 met in (agree.0, onward route agree.1),
    λ agree. (is.demands_are route).1 (agree.0, back route agree.1),
  );
  entry_is = is.entry_is;
  sums_long = is.sums_long;
  sums_are = is.sums_are;
  needed_are = is.needed_are;
  holders_are = is.holders_are;
}
  where
    parts : All (λ decision. Covers decision changed) (drop place.depth path) × All (λ decision. Covers decision changed) (last_decision place.decision)
    parts = all_parts (λ decision. Covers decision changed) (drop place.depth path) (last_decision place.decision) covers

    onward : (route : List ℕ) → All (AgreesWithDecision t route) path → All (AgreesWithDecision t route) (decisions_at path place)
    onward route all =
        All-append (AgreesWithDecision t route) (take place.depth path) (last_decision place.decision)
        (all_parts (AgreesWithDecision t route) (take place.depth path) (drop place.depth path) (subst (All (AgreesWithDecision t route)) (sym (take-append-drop place.depth path)) all)).0
        (all_agree t route changed (last_decision place.decision) other parts.1)

    back : (route : List ℕ) → All (AgreesWithDecision t route) (decisions_at path place) → All (AgreesWithDecision t route) path
    back route all =
        subst (All (AgreesWithDecision t route)) (take-append-drop place.depth path)
        (All-append (AgreesWithDecision t route) (take place.depth path) (drop place.depth path) (all_parts (AgreesWithDecision t route) (take place.depth path) (last_decision place.decision) all).0
        (all_agree t route changed (drop place.depth path) other parts.0))

-- ---- trains, one after another

pub none_renewed : (node : Node) (old : List TrainKnowledge) → AreRenewed node [] old old
none_renewed node old = record { long = refl; each = λ t known at. inr (at, λ there. contains_none t there) }

-- one train is made anew
pub one_set : (node : Node) (t : ℕ) (old : List TrainKnowledge) (more : TrainKnowledge) → t < length old → IsKnown node t more → RenewsOne node t old (set old t more)
one_set node t old more within is = record {
  long = length-set old t more;
  own = λ known at. subst (IsKnown node t) (same_Some more known (sym (set_at old t more within) ∙ at)) is;
  others = λ u known other at. sym (set_elsewhere old t u more other) ∙ at;
}

-- or is not there
pub one_past : (node : Node) (t : ℕ) (old : List TrainKnowledge) → length old ≤ t → RenewsOne node t old old
one_past node t old past = record { long = refl; own = λ known at. absurd (omega (arith, past, slice_get_within old t known at)); others = λ u known other at. at }

pub renewed_more : (node : Node) (changed : List ℕ) (i d : ℕ) (old middle new : List TrainKnowledge) → i < length changed → RenewsOne node (get_or changed i d) middle new → AreRenewed node (take i changed) old middle → AreRenewed node (take (i + 1) changed) old new
renewed_more node changed i d old middle new lt one before = rw (take_more changed i d lt) (record {
  long = one.long ∙ before.long;
  each = λ t known at. elim (same_number t own) [
    | inl e ↦ inl (subst (λ (q : ℕ). IsKnown node q known) (sym e) (one.own known (subst (λ (q : ℕ). slice_get new q ≡ Some known) e at)))
    | inr other ↦ elim (before.each t known (one.others t known other at)) [
      | inl now ↦ inl now
      | inr kept ↦ inr (kept.0, λ there. elim (Contains-push_cases (take i changed) own t there) [ inl early ↦ kept.1 early | inr e ↦ other (sym e) ])
    ]
  ];
})
  where
    own : ℕ
    own = get_or changed i d

pub renewed_all : (node : Node) (changed : List ℕ) (i : ℕ) (old new : List TrainKnowledge) → length changed ≤ i → AreRenewed node (take i changed) old new → AreRenewed node changed old new
renewed_all node changed i old new past is = subst (λ (l : List ℕ). AreRenewed node l old new) (take_all i changed past) is

-- what is renewed is known at the new place
pub renewed_known : (problem : Problem) (fixings : List Fixing) (path after : List Decision) (place : Place) (changed : List ℕ) (old new : List TrainKnowledge) → AreKnown (node_at problem fixings path) old → after ≡ decisions_at path place
    → All (λ decision. Covers decision changed) (drop place.depth path ++ last_decision place.decision) → AreRenewed (node_at problem fixings after) changed old new → AreKnown (node_at problem fixings after) new
renewed_known problem fixings path after place changed old new known is covers renewed = record {
  long = renewed.long ∙ known.long;
  each = λ t one at. elim (renewed.each t one at) [
    | inl own ↦ own
    | inr kept ↦ subst (λ (l : List Decision). IsKnown (node_at problem fixings l) t one) (sym is) (carried problem fixings path place changed t one covers kept.1 (known.each t one kept.0))
  ];
}

-- ---- what is noted, one decision after another

covers_kept : (decision noted : Decision) (old new : List ℕ) → Notes noted old new → Covers decision old → Covers decision new
covers_kept decision noted old new notes covers = record { has = λ t about. notes.kept t (covers.has t about) }

pub noted_first : (path : List Decision) (depth : ℕ) (last : List Decision) (changed : List ℕ) → All (λ decision. Covers decision changed) last → AreNoted path depth last depth changed
noted_first path depth last changed covers = record { last = covers; way = λ k d low lt within. absurd (omega (arith, low, lt)) }

pub noted_more : (path : List Decision) (depth at : ℕ) (last : List Decision) (decision : Decision) (old new : List ℕ) → Notes (get_or path at decision) old new → AreNoted path depth last at old → AreNoted path depth last (at + 1) new
noted_more path depth at last decision old new notes before = record {
  last = λ k d lt. covers_kept (get_or last k d) (get_or path at decision) old new notes (before.last k d lt);
  way = λ k d low lt within. elim (cases_lt k at) [
    | inl early ↦ covers_kept (get_or path k d) (get_or path at decision) old new notes (before.way k d low early within)
    | inr late ↦
        let same : at ≡ k = omega (arith, lt, late) in
        let here : get_or path at decision ≡ get_or path k d = ap (λ (n : ℕ). get_or path n decision) same ∙ get_or_default path k decision d within in
        subst (λ (x : Decision). Covers x new) here notes.own
  ];
}

pub noted_all : (path : List Decision) (depth at : ℕ) (last : List Decision) (changed : List ℕ) → length path ≤ at → AreNoted path depth last at changed → All (λ decision. Covers decision changed) (drop depth path ++ last)
noted_all path depth at last changed past noted = All-append (λ decision. Covers decision changed) (drop depth path) last (λ k d lt. subst (λ (x : Decision). Covers x changed) (sym (get_or-drop depth path k d)) (noted.way (depth + k) d (omega arith) (omega (arith, past, within k lt)) (within k lt))) noted.last
  where
    within : (k : ℕ) → k < length (drop depth path) → depth + k < length path
    within k lt = omega (arith, lt, length-drop depth path)
