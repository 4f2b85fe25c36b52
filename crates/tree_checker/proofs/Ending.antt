-- Where walks end, and whether they are to components of trains that are not listed.
use Rattle.std.proofs.Common.{◌≡◌, ℕ, ◌<◌, List, length, get_or, Bool, Option, Some, None, true, refl, sym, ap, subst, ◌∙◌}
use Rattle.std.specs.Prelude.{nat_eq, All, slice_get, IsTrue, ◌↔◌}
use Rattle.std.proofs.lemmas.Bool.{eqb-true, eq-eqb}
use Rattle.std.proofs.lemmas.Option.{none-some, same_Some, slice_get-get_or, get_or_from_slice_get, slice_get_within}
use Rattle.disp_model.specs.declared.train.Op.{Op}
use Rattle.disp_model.specs.declared.problem.Problem.{Problem}
use Rattle.disp_model.specs.declared.tree.ComponentWalk.{ComponentWalk}
use Rattle.disp_model.specs.declared.tree.TrainWalks.{TrainWalks}
use Rattle.disp_model.specs.Node.{Node}
use Rattle.disp_model.specs.Arcs.{HasArc}
use Rattle.disp_model.specs.Walks.{EndsIn}
use Rattle.disp_model.specs.Shares.{AreOfOthers}
use Rattle.tree_checker.specs.Rules.{EndsOn, IsOfOtherTrain, IsJoinedBack}

at_place : {X : Type 0} (P : X → Type 0) (xs : List X) → All P xs → (i : ℕ) (x : X) → slice_get xs i ≡ Some x → P x
at_place P xs all i x at = subst P (get_or_from_slice_get xs i x x at) (all i x (slice_get_within xs i x at))

pub of_others : (problem : Problem) (walks : List ComponentWalk) (trains : List TrainWalks) → All (IsOfOtherTrain problem trains) walks ↔ AreOfOthers problem walks trains
of_others problem walks trains = (
  λ all i j w listed c at there component same. at_place (λ t. t.train ≡ c.train → ⊥) trains (at_place (IsOfOtherTrain problem trains) walks all i w at c component) j listed there (sym same),
  λ are i d lt c component j e within same. are i j (get_or walks i d) (get_or trains j e) c (slice_get-get_or walks i d lt) (slice_get-get_or trains j e within) component (sym same),
)

-- ---- ends

pub ends_on_is : (t : ℕ) (walk : List Op) (found : Option Op) (end : Op) → ((o : Op) → (found ≡ Some o) ↔ EndsIn walk o) → found ≡ Some end → IsTrue (nat_eq end.train t) ↔ EndsOn t walk
ends_on_is t walk found end says is = (
  λ h. record { ends = λ o ending. ap (λ (x : Op). x.train) (same_Some o end (sym ((says o).1 ending) ∙ is)) ∙ eqb-true end.train t h },
  λ on. eq-eqb end.train t (on.ends end ((says end).0 is)),
)

pub ends_nowhere : (t : ℕ) (walk : List Op) (found : Option Op) → ((o : Op) → (found ≡ Some o) ↔ EndsIn walk o) → found ≡ None → IsTrue true ↔ EndsOn t walk
ends_nowhere t walk found says none = (λ h. record { ends = λ o ending. absurd (none-some o (sym none ∙ (says o).1 ending)) }, λ on. refl)

-- ---- from the last operation to the first

pub joined_back_is : (node : Node) (nodes : List Op) (first : Op) (found : Option Op) (last : Op) (there : Bool) → first ≡ get_or nodes 0 first → ((o : Op) → (found ≡ Some o) ↔ EndsIn nodes o) → found ≡ Some last → 0 < length nodes
    → (IsTrue there ↔ HasArc node last first) → IsTrue there ↔ IsJoinedBack node nodes
joined_back_is node nodes first found last there is says is_last some arc = (
  λ h u v at ending.
      let begin : first ≡ u = is ∙ get_or_from_slice_get nodes 0 u first at in
      let end : last ≡ v = same_Some last v (sym is_last ∙ (says v).1 ending) in
      subst (HasArc node v) begin (subst (λ (x : Op). HasArc node x first) end (arc.0 h)),
  λ back. arc.1 (back first last (slice_get-get_or nodes 0 first some ∙ ap (λ (x : Op). Some x) (sym is)) ((says last).0 is_last)),
)

pub not_ended : (node : Node) (nodes : List Op) (found : Option Op) → ((o : Op) → (found ≡ Some o) ↔ EndsIn nodes o) → found ≡ None → IsTrue true ↔ IsJoinedBack node nodes
not_ended node nodes found says none = (λ h u v at ending. absurd (none-some v (sym none ∙ (says v).1 ending)), λ back. refl)
