-- The arcs of decided orders.
use Rattle.std.proofs.Common.{◌≡◌, ℕ, ◌+◌, ◌<◌, ◌≤◌, List, length, get_or, Option, Some, None, refl, sym, ap, subst, ◌∙◌, inl, inr, arith}
use Rattle.std.specs.Prelude.{Contains, max, ◌↔◌, ◌⊎◌}
use Rattle.std.proofs.lemmas.Bool.{cases_lt}
use Rattle.std.proofs.lemmas.Option.{none-some, same_Some, slice_get-get_or}
use Rattle.disp_model.specs.declared.train.Op.{Op}
use Rattle.disp_model.specs.declared.decision.Decision.{Decision}
use Rattle.disp_model.specs.declared.decision.Decision.TheVariants.{First}
use Rattle.disp_model.specs.declared.problem.Problem.{Problem}
use Rattle.disp_model.specs.Node.{Node}
use Rattle.disp_model.specs.Routes.{IsAllowed, IsForced}
use Rattle.disp_model.specs.Fixing.{after}
use Rattle.disp_model.specs.Arcs.{Conflicts, release_of, min_of, IsTrainArc, IsOrderArc, IsReleaseArc, IsArc, IsLongestArc}
use Rattle.disp_laws.proofs.Composed.{own_arc}
use Rattle.disp_laws.proofs.LongestArcs.{one_train_arc}
use Rattle.problem_facts.specs.Conflicts.{IsConflict}
use Rattle.node_facts.specs.declared.train.TrainKnowledge.{TrainKnowledge}
use Rattle.node_facts.specs.Known.{op_numbered, IsKnown, IsHolder}
use Rattle.node_facts.specs.Orders.{greater, AreKnown}
use Rattle.node_facts.proofs.Stepping.{one_holder}

-- ---- the arc of an order

pub order_undecided : (problem : Problem) (decisions : List Decision) (a b : Op) → (Contains decisions (First a b) → ⊥) → (n : ℕ) → (◌≡◌ {A = Option ℕ} None (Some n)) ↔ IsOrderArc problem decisions a b n
order_undecided problem decisions a b not n = (λ e. absurd (none-some n e), λ arc. absurd (not arc.decided))

pub order_apart : (problem : Problem) (decisions : List Decision) (a b : Op) → (Conflicts problem a b → ⊥) → (n : ℕ) → (◌≡◌ {A = Option ℕ} None (Some n)) ↔ IsOrderArc problem decisions a b n
order_apart problem decisions a b not n = (λ e. absurd (none-some n e), λ arc. absurd (not arc.conflicts))

pub order_is : (problem : Problem) (decisions : List Decision) (a b : Op) (release sum : ℕ) → Contains decisions (First a b) → IsConflict problem a b release → sum ≡ min_of problem a + release → (n : ℕ) → (Some sum ≡ Some n) ↔ IsOrderArc problem decisions a b n
order_is problem decisions a b release sum decided conflict sum_is n = (
  λ e. record { decided = decided; conflicts = conflict.conflicts; length_is = omega (arith, same_Some sum n e, sum_is, conflict.release_is) },
  λ arc. ap (λ (k : ℕ). Some k) (omega (arith, arc.length_is, sum_is, conflict.release_is)),
)

-- ---- the arc from what follows the holder

holder_same : (node : Node) (n b : Op) (m h : ℕ) → n.train < length node.problem.trains → IsHolder node n.train n.op h → (arc : IsReleaseArc node n b m) → arc.holder ≡ op_numbered n.train h
holder_same node n b m h there holder arc = by arc.holder arc.forced arc.goes_to.0 arc.goes_to.1
  where
    by : (a : Op) → IsForced node a → n.train ≡ a.train → ((route : List ℕ) → IsAllowed node a.train route → after a.op route ≡ Some n.op) → a ≡ op_numbered n.train h
    by a forced same goes =
        let moved : op_numbered n.train a.op ≡ a = ap (λ (t : ℕ). op_numbered t a.op) same in
        let own : IsHolder node n.train n.op a.op = record {
          forced = subst (IsForced node) (sym moved) forced;
          goes = (refl, subst (λ (t : ℕ). (route : List ℕ) → IsAllowed node t route → after a.op route ≡ Some n.op) (sym same) goes);
        } in
        sym moved ∙ ap (op_numbered n.train) (one_holder node n.train n.op a.op h there own holder)

pub release_none : (node : Node) (n b : Op) → ((h : ℕ) → IsHolder node n.train n.op h → ⊥) → (m : ℕ) → (◌≡◌ {A = Option ℕ} None (Some m)) ↔ IsReleaseArc node n b m
release_none node n b none m = (λ e. absurd (none-some m e), λ arc. absurd (by arc.holder arc.forced arc.goes_to.0 arc.goes_to.1))
  where
    by : (a : Op) → IsForced node a → n.train ≡ a.train → ((route : List ℕ) → IsAllowed node a.train route → after a.op route ≡ Some n.op) → ⊥
    by a forced same goes =
        none a.op (record {
          forced = subst (IsForced node) (sym (ap (λ (t : ℕ). op_numbered t a.op) same)) forced;
          goes = (refl, subst (λ (t : ℕ). (route : List ℕ) → IsAllowed node t route → after a.op route ≡ Some n.op) (sym same) goes);
        })

pub release_undecided : (node : Node) (n b : Op) (h : ℕ) → n.train < length node.problem.trains → IsHolder node n.train n.op h → (Contains node.decisions (First (op_numbered n.train h) b) → ⊥) → (m : ℕ) → (◌≡◌ {A = Option ℕ} None (Some m)) ↔ IsReleaseArc node n b m
release_undecided node n b h there holder not m = (λ e. absurd (none-some m e), λ arc. absurd (not (subst (λ (a : Op). Contains node.decisions (First a b)) (holder_same node n b m h there holder arc) arc.decided)))

pub release_apart : (node : Node) (n b : Op) (h : ℕ) → n.train < length node.problem.trains → IsHolder node n.train n.op h → (Conflicts node.problem (op_numbered n.train h) b → ⊥) → (m : ℕ) → (◌≡◌ {A = Option ℕ} None (Some m)) ↔ IsReleaseArc node n b m
release_apart node n b h there holder not m = (λ e. absurd (none-some m e), λ arc. absurd (not (subst (λ (a : Op). Conflicts node.problem a b) (holder_same node n b m h there holder arc) arc.conflicts)))

pub release_is : (node : Node) (n b : Op) (h release : ℕ) → n.train < length node.problem.trains → IsHolder node n.train n.op h → Contains node.decisions (First (op_numbered n.train h) b) → IsConflict node.problem (op_numbered n.train h) b release
    → (m : ℕ) → (Some release ≡ Some m) ↔ IsReleaseArc node n b m
release_is node n b h release there holder decided conflict m = (
  λ e. record { holder = op_numbered n.train h; decided = decided; forced = holder.forced; conflicts = conflict.conflicts; goes_to = holder.goes; length_is = sym (same_Some release m e) ∙ conflict.release_is },
  λ arc. ap (λ (k : ℕ). Some k) (conflict.release_is ∙ ap (λ (a : Op). release_of node.problem a b) (sym (holder_same node n b m h there holder arc)) ∙ sym arc.length_is),
)

-- ---- the longest arc

greater_is : (P : ℕ → Type 0) (a b : Option ℕ) → ((m : ℕ) → P m ↔ ((a ≡ Some m) ⊎ (b ≡ Some m))) → (n : ℕ) → (greater a b ≡ Some n) ↔ (P n × ((m : ℕ) → P m → m ≤ n))
greater_is P None None says n = (λ e. absurd (none-some n e), λ h. elim ((says n).0 h.0) [ inl e ↦ e | inr e ↦ e ])
greater_is P None (Some k) says n = (
  λ e. ((says n).1 (inr e), λ m p. elim ((says m).0 p) [ inl none ↦ absurd (none-some m none) | inr is ↦ omega (arith, same_Some k n e, same_Some k m is) ]),
  λ h. elim ((says n).0 h.0) [ inl none ↦ absurd (none-some n none) | inr is ↦ is ],
)
greater_is P (Some k) None says n = (
  λ e. ((says n).1 (inl e), λ m p. elim ((says m).0 p) [ inl is ↦ omega (arith, same_Some k n e, same_Some k m is) | inr none ↦ absurd (none-some m none) ]),
  λ h. elim ((says n).0 h.0) [ inl is ↦ is | inr none ↦ absurd (none-some n none) ],
)
greater_is P (Some k) (Some l) says n = (
  λ e. (reached (same_Some (max k l) n e), λ m p. elim ((says m).0 p) [ inl is ↦ omega (arith, same_Some (max k l) n e, same_Some k m is) | inr is ↦ omega (arith, same_Some (max k l) n e, same_Some l m is) ]),
  λ h. ap (λ (x : ℕ). Some x) (both ((says n).0 h.0) (h.1 k ((says k).1 (inl refl))) (h.1 l ((says l).1 (inr refl)))),
)
  where
    reached : max k l ≡ n → P n
    reached e = elim (cases_lt k l) [
      | inl lt ↦ let same : l ≡ n = omega (arith, lt, e) in (says n).1 (inr (ap (λ (x : ℕ). Some x) same))
      | inr ge ↦ let same : k ≡ n = omega (arith, ge, e) in (says n).1 (inl (ap (λ (x : ℕ). Some x) same))
    ]

    both : ((Some k ≡ Some n) ⊎ (Some l ≡ Some n)) → k ≤ n → l ≤ n → max k l ≡ n
    both (inl is) one two = omega (arith, same_Some k n is, two)
    both (inr is) one two = omega (arith, same_Some l n is, one)

-- between operations of two trains it is that of an order, or from what follows a holder
pub longest_apart : (node : Node) (u v : Op) (ordered released : Option ℕ) → IsForced node u → IsForced node v → (u.train ≡ v.train → ⊥)
    → ((n : ℕ) → (ordered ≡ Some n) ↔ IsOrderArc node.problem node.decisions u v n) → ((n : ℕ) → (released ≡ Some n) ↔ IsReleaseArc node u v n) → (n : ℕ) → (greater ordered released ≡ Some n) ↔ IsLongestArc node u v n
longest_apart node u v ordered released one other apart orders releases n =
    let is = greater_is (IsArc node u v) ordered released says n in
    (λ e. let both = is.0 e in record { there = both.0; longest = both.1 }, λ arc. is.1 (arc.there, arc.longest))
  where
    says : (m : ℕ) → IsArc node u v m ↔ ((ordered ≡ Some m) ⊎ (released ≡ Some m))
    says m = (
      λ arc. elim arc.kind [
        | inl own ↦ absurd (apart own.same_train)
        | inr decided ↦ elim decided [ inl order ↦ inl ((orders m).1 order) | inr release ↦ inr ((releases m).1 release) ]
      ],
      λ h. elim h [
        | inl e ↦ record { from_forced = one; to_forced = other; kind = inr (inl ((orders m).0 e)) }
        | inr e ↦ record { from_forced = one; to_forced = other; kind = inr (inr ((releases m).0 e)) }
      ],
    )

-- in one train it is the train's own
pub longest_own : (node : Node) (u v : Op) (found : Option ℕ) → u.train ≡ v.train → ((n : ℕ) → (found ≡ Some n) ↔ (IsForced node u × IsForced node v × IsTrainArc node u v n)) → (n : ℕ) → (found ≡ Some n) ↔ IsLongestArc node u v n
longest_own node u v found same says n = (
  λ e.
      let arc = (says n).0 e in
      record {
        there = record { from_forced = arc.0; to_forced = arc.1; kind = inl arc.2 };
        longest = λ m other. let equal = one_train_arc node u v m n (own_arc node u v m same other) arc.2 in omega (arith, equal);
      },
  λ arc. (says n).1 (arc.there.from_forced, arc.there.to_forced, own_arc node u v n same arc.there),
)

pub longest_none : (node : Node) (u v : Op) → (IsForced node u × IsForced node v → ⊥) → (n : ℕ) → (◌≡◌ {A = Option ℕ} None (Some n)) ↔ IsLongestArc node u v n
longest_none node u v not n = (λ e. absurd (none-some n e), λ arc. absurd (not (arc.there.from_forced, arc.there.to_forced)))

-- what is known of a train of the list
pub known_at : (node : Node) (trains : List TrainKnowledge) (t : ℕ) (known : TrainKnowledge) → AreKnown node trains → t < length trains → known ≡ get_or trains t known → IsKnown node t known
known_at node trains t known are lt is = are.each t known (slice_get-get_or trains t known lt ∙ ap (λ (k : TrainKnowledge). Some k) (sym is))

-- the second operation is of the first one's train
pub own_train : (node : Node) (u v : Op) (found : Option ℕ) → u.train ≡ v.train
    → ((n : ℕ) → (found ≡ Some n) ↔ (IsForced node (op_numbered u.train u.op) × IsForced node (op_numbered u.train v.op) × IsTrainArc node (op_numbered u.train u.op) (op_numbered u.train v.op) n))
    → (n : ℕ) → (found ≡ Some n) ↔ (IsForced node u × IsForced node v × IsTrainArc node u v n)
own_train node u v found same says n = subst (λ (w : Op). (found ≡ Some n) ↔ (IsForced node u × IsForced node w × IsTrainArc node u w n)) (ap (λ (t : ℕ). op_numbered t v.op) same) (says n)
