-- Whether operations close a cycle, one arc after another.
use Rattle.std.proofs.Common.{◌≡◌, ℕ, ◌+◌, ◌<◌, ◌≤◌, List, [], ◌∷◌, length, get_or, drop, Option, Some, None, Bool, true, false, refl, sym, subst, ◌∙◌, arith}
use Rattle.std.specs.Prelude.{IsTrue, ◌↔◌}
use Rattle.std.proofs.lemmas.Bool.{false≢true}
use Rattle.std.proofs.lemmas.Option.{none-some}
use Rattle.std.proofs.lemmas.List.{drop_all}
use Rattle.disp_model.specs.declared.train.Op.{Op}
use Rattle.disp_model.specs.Node.{Node}
use Rattle.disp_model.specs.Arcs.{HasArc, IsLongestArc}
use Rattle.disp_model.specs.Walks.{ClosesTo, IsCycle}
use Rattle.disp_laws.proofs.LongestArcs.{longest_arc}
use Rattle.node_facts.proofs.Lengths.{dropped}

pub arc_found : (node : Node) (u v : Op) (found : Option ℕ) (k : ℕ) → ((n : ℕ) → (found ≡ Some n) ↔ IsLongestArc node u v n) → found ≡ Some k → IsTrue true ↔ HasArc node u v
arc_found node u v found k says is = (λ h. (k, ((says k).0 is).there), λ h. refl)

pub arc_missing : (node : Node) (u v : Op) (found : Option ℕ) → ((n : ℕ) → (found ≡ Some n) ↔ IsLongestArc node u v n) → found ≡ None → IsTrue false ↔ HasArc node u v
arc_missing node u v found says is = (
  λ h. absurd (false≢true h),
  λ arc. let longest = longest_arc node u v arc.0 arc.1 in absurd (none-some longest.0 (sym is ∙ (says longest.0).1 longest.1)),
)

pub closes_more : (node : Node) (first u : Op) (rest : List Op) (i : ℕ) (d : Op) → i < length rest → HasArc node u (get_or rest i d) → ClosesTo node first u (drop i rest) ↔ ClosesTo node first (get_or rest i d) (drop (i + 1) rest)
closes_more node first u rest i d lt arc =
    subst (λ (l : List Op). ClosesTo node first u l ↔ ClosesTo node first (get_or rest i d) (drop (i + 1) rest)) (sym (dropped rest i d lt)) (λ h. h.1, λ h. (arc, h))

pub closes_not : (node : Node) (first u : Op) (rest : List Op) (i : ℕ) (d : Op) → i < length rest → (HasArc node u (get_or rest i d) → ⊥) → ClosesTo node first u (drop i rest) → ⊥
closes_not node first u rest i d lt not closes = let parts = subst (λ (l : List Op). ClosesTo node first u l) (dropped rest i d lt) closes in not parts.0

pub closes_last : (node : Node) (first u : Op) (rest : List Op) (i : ℕ) → length rest ≤ i → ClosesTo node first u (drop i rest) ↔ HasArc node u first
closes_last node first u rest i past = subst (λ (l : List Op). ClosesTo node first u l ↔ HasArc node u first) (sym (drop_all i rest past)) (λ h. h, λ h. h)

pub cycle_is : (node : Node) (nodes : List Op) (first : Op) (rest : List Op) (found : Bool) → nodes ≡ first ∷ rest → 0 < length rest → (IsTrue found ↔ ClosesTo node first first rest) → IsTrue found ↔ IsCycle node nodes
cycle_is node nodes first rest found is some says = subst (λ (l : List Op). IsTrue found ↔ IsCycle node l) (sym is) (by rest some says)
  where
    by : (rest : List Op) → 0 < length rest → (IsTrue found ↔ ClosesTo node first first rest) → IsTrue found ↔ IsCycle node (first ∷ rest)
    by [] some says = absurd (omega (arith, some))
    by (second ∷ rest) some says = says
