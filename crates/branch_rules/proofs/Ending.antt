-- Where an event ends, and what its pair with another is.
use Rattle.std.proofs.Common.{◌≡◌, ◌∙◌, ℕ, ◌+◌, ◌<◌, ◌≤◌, List, [], length, get_or, drop, Option, Some, None, refl, sym, ap, subst, inl, inr, arith}
use Rattle.std.specs.Prelude.{All}
use Rattle.std.specs.List.{Any}
use Rattle.std.proofs.lemmas.Bool.{eq-eqb, ne_eqb}
use Rattle.std.proofs.lemmas.List.{drop_more, drop_all}
use Rattle.disp_model.specs.declared.train.Listing.{Listing}
use Rattle.disp_model.specs.declared.train.Operation.{Operation}
use Rattle.disp_model.specs.declared.plan.Event.{Event}
use Rattle.disp_model.specs.declared.problem.Problem.{Problem}
use Rattle.disp_model.specs.Plan.{first_of, Ending, end_of}
use Rattle.disp_model.specs.Valid.{operation_of, IsReleased, KeepApart}
use Rattle.disp_model.specs.Arcs.{listings_of}
use Rattle.disp_model.specs.Earliest.{op_of, IsPairUpTo}
use Rattle.disp_laws.proofs.Arcs.{names_op}
use Rattle.disp_laws.proofs.Clashes.{up_to_or_back, up_to_then}
use Rattle.branch_rules.specs.declared.pair.Pair.{Pair}
use Rattle.branch_rules.specs.Pairs.{IsEarlier}

-- ---- the next event of a train

pub next_later : (plan : List Event) (t i : ℕ) (d : Event) → i < length plan → ((get_or plan i d).train ≡ t → ⊥) → first_of t i (drop i plan) ≡ first_of t (i + 1) (drop (i + 1) plan)
next_later plan t i d lt other = ap (first_of t i) (drop_more plan i d lt) ∙ rw (ne_eqb (get_or plan i d).train t other) refl

pub next_here : (plan : List Event) (t i : ℕ) (d : Event) → i < length plan → (get_or plan i d).train ≡ t → first_of t i (drop i plan) ≡ Some (i, get_or plan i d)
next_here plan t i d lt same = ap (first_of t i) (drop_more plan i d lt) ∙ rw (eq-eqb (get_or plan i d).train t same) refl

pub next_none : (plan : List Event) (t i : ℕ) → length plan ≤ i → first_of t i (drop i plan) ≡ None
next_none plan t i past = ap (first_of t i) (drop_all i plan past)

-- ---- two events keep apart where all that both list is released

-- each of the listings whose resource is listed there too is released for the event
abbrev pub AreReleased : List Listing → List Listing → Ending → ℕ → Event → Type 0
AreReleased listings others end j f = All (λ l. Any (λ k. k.resource ≡ l.resource) others → IsReleased end l j f) listings

pub apart_from : (problem : Problem) (plan : List Event) (i j : ℕ) (e f : Event) → AreReleased (listings_of problem (op_of e)) (listings_of problem (op_of f)) (end_of problem.trains plan i e) j f → KeepApart problem plan i e j f
apart_from problem plan i j e f released o p own other =
    subst (λ (ls : List Listing). All (λ l. Any (λ k. k.resource ≡ l.resource) p.listings → IsReleased (end_of problem.trains plan i e) l j f) ls) (names_op problem (op_of e) e o (record { train = refl; operation = refl }) own)
    (subst (λ (ls : List Listing). All (λ l. Any (λ k. k.resource ≡ l.resource) ls → IsReleased (end_of problem.trains plan i e) l j f) (listings_of problem (op_of e))) (names_op problem (op_of f) f p (record { train = refl; operation = refl }) other) released)

lists_none : (problem : Problem) (e : Event) → operation_of problem e ≡ None → listings_of problem (op_of e) ≡ []
lists_none problem e none = rw none refl

any_none : (l : Listing) (ls : List Listing) → ls ≡ [] → Any (λ k. k.resource ≡ l.resource) ls → ⊥
any_none l ls none (i, k, lt, there, same) = omega (arith, lt, ap length none)

pub released_from : (problem : Problem) (plan : List Event) (i j : ℕ) (e f : Event) → KeepApart problem plan i e j f → AreReleased (listings_of problem (op_of e)) (listings_of problem (op_of f)) (end_of problem.trains plan i e) j f
released_from problem plan i j e f keep = by_names (operation_of problem e) refl (operation_of problem f) refl
  where
    by_names : (found : Option Operation) → operation_of problem e ≡ found → (other : Option Operation) → operation_of problem f ≡ other → AreReleased (listings_of problem (op_of e)) (listings_of problem (op_of f)) (end_of problem.trains plan i e) j f
    by_names None own other there = λ k d lt. absurd (omega (arith, lt, ap length (lists_none problem e own)))
    by_names (Some o) own None there = λ k d lt any. absurd (any_none (get_or (listings_of problem (op_of e)) k d) (listings_of problem (op_of f)) (lists_none problem f there) any)
    by_names (Some o) own (Some p) there =
        subst (λ (ls : List Listing). All (λ l. Any (λ k. k.resource ≡ l.resource) ls → IsReleased (end_of problem.trains plan i e) l j f) (listings_of problem (op_of e))) (sym (names_op problem (op_of f) f p (record { train = refl; operation = refl }) there))
        (subst (λ (ls : List Listing). All (λ l. Any (λ k. k.resource ≡ l.resource) p.listings → IsReleased (end_of problem.trains plan i e) l j f) ls) (sym (names_op problem (op_of e) e o (record { train = refl; operation = refl }) own)) (keep o p own there))

-- ---- the first of two pairs

pub same_is_up_to : (pair : Pair) → IsPairUpTo pair.a pair.b pair.a pair.b
same_is_up_to pair = inr (refl, inr refl)

pub known_first : (first pair : Pair) → IsPairUpTo first.a first.b pair.a pair.b → IsEarlier (Some first) pair (Some first)
known_first first pair before = record { one = inl refl; up_to = before; kept = λ c d up. up }

pub pair_first : (first pair : Pair) → (IsPairUpTo first.a first.b pair.a pair.b → ⊥) → IsEarlier (Some first) pair (Some pair)
pair_first first pair behind = record {
  one = inr refl;
  up_to = same_is_up_to pair;
  kept = λ c d up. elim (up_to_or_back first.a first.b pair.a pair.b) [
    | inl before ↦ absurd (behind before)
    | inr after ↦ up_to_then pair.a pair.b first.a first.b c d after up
  ];
}

pub alone_first : (pair : Pair) → IsEarlier None pair (Some pair)
alone_first pair = record { one = inr refl; up_to = same_is_up_to pair; kept = λ c d up. absurd up }
