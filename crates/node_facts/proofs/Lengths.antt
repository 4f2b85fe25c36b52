-- The length of a walk, one step after another.
use Rattle.std.proofs.Common.{◌≡◌, ℕ, suc, ◌+◌, ◌<◌, ◌≤◌, List, [], ◌∷◌, ◌++◌, ◌-◌, length, get_or, drop, drop-cons, Bool, Option, Some, None, sym, ap, subst, ◌∙◌, inl, inr, arith}
use Rattle.std.specs.Prelude.{slice_get, IsTrue, ◌↔◌}
use Rattle.std.proofs.lemmas.Option.{none-some, same_Some}
use Rattle.std.proofs.lemmas.List.{length_push, get_or_push, drop_all}
use Rattle.disp_model.specs.declared.train.Op.{Op}
use Rattle.disp_model.specs.Node.{Node}
use Rattle.disp_model.specs.Routes.{IsForced}
use Rattle.disp_model.specs.Arcs.{IsLongestArc}
use Rattle.disp_model.specs.Walks.{WalksOn, IsWalk, EndsIn, lower_of, upper_of}
use Rattle.disp_model.specs.Trees.{IsLateWalk}
use Rattle.train_orders.proofs.Places.{get_push_cases}
use Rattle.node_facts.specs.declared.train.TrainKnowledge.{TrainKnowledge}
use Rattle.node_facts.specs.Known.{IsKnown}
use Rattle.node_facts.specs.Windows.{IsAboveBound}

-- ---- what is known, one train after another

pub known_more : (node : Node) (trains : List TrainKnowledge) (i : ℕ) (more : TrainKnowledge) → (length trains ≡ i) × ((t : ℕ) (known : TrainKnowledge) → slice_get trains t ≡ Some known → IsKnown node t known) → IsKnown node i more
    → (length (trains ++ more ∷ []) ≡ i + 1) × ((t : ℕ) (known : TrainKnowledge) → slice_get (trains ++ more ∷ []) t ≡ Some known → IsKnown node t known)
known_more node trains i more before is = (
  length_push trains more ∙ ap (λ (n : ℕ). n + 1) before.0,
  λ t known at. elim (get_push_cases trains more known t at) [
    | inl early ↦ before.1 t known early
    | inr last ↦ subst (λ (n : ℕ). IsKnown node n known) (sym (last.0 ∙ before.0)) (subst (IsKnown node i) last.1 is)
  ],
)

-- ---- steps of a walk

step_is : (node : Node) (u v : Op) (walked : ℕ) (rest : List Op) (found : Option ℕ) (k n : ℕ) → ((m : ℕ) → (found ≡ Some m) ↔ IsLongestArc node u v m) → found ≡ Some k → WalksOn node u walked (v ∷ rest) n ↔ WalksOn node v (walked + k) rest n
step_is node u v walked rest found k n says is = (
  λ walk. subst (λ (m : ℕ). WalksOn node v (walked + m) rest n) (sym (same_Some k walk.0 (sym is ∙ (says walk.0).1 walk.1))) walk.2,
  λ walk. (k, (says k).0 is, walk),
)

pub dropped : (walk : List Op) (i : ℕ) (d : Op) → i < length walk → drop i walk ≡ get_or walk i d ∷ drop (i + 1) walk
dropped walk i d lt = let next : suc i ≡ i + 1 = omega arith in subst (λ (n : ℕ). drop i walk ≡ get_or walk i d ∷ drop n walk) next (drop-cons walk i d lt)

pub walk_more : (node : Node) (u : Op) (walked : ℕ) (walk : List Op) (i : ℕ) (d : Op) (found : Option ℕ) (k n : ℕ) → i < length walk → ((m : ℕ) → (found ≡ Some m) ↔ IsLongestArc node u (get_or walk i d) m) → found ≡ Some k
    → WalksOn node u walked (drop i walk) n ↔ WalksOn node (get_or walk i d) (walked + k) (drop (i + 1) walk) n
walk_more node u walked walk i d found k n lt says is =
    subst (λ (l : List Op). WalksOn node u walked l n ↔ WalksOn node (get_or walk i d) (walked + k) (drop (i + 1) walk) n) (sym (dropped walk i d lt)) (step_is node u (get_or walk i d) walked (drop (i + 1) walk) found k n says is)

pub walk_stuck : (node : Node) (u : Op) (walked : ℕ) (walk : List Op) (i : ℕ) (d : Op) (found : Option ℕ) (n : ℕ) → i < length walk → ((m : ℕ) → (found ≡ Some m) ↔ IsLongestArc node u (get_or walk i d) m) → ((k : ℕ) → found ≡ Some k → ⊥)
    → WalksOn node u walked (drop i walk) n → ⊥
walk_stuck node u walked walk i d found n lt says is walk_on =
    let walk_is = subst (λ (l : List Op). WalksOn node u walked l n) (dropped walk i d lt) walk_on in is walk_is.0 ((says walk_is.0).1 walk_is.1)

pub iff_then : {P Q R : Type 0} → (P ↔ Q) → (Q ↔ R) → P ↔ R
iff_then first second = (λ p. second.0 (first.0 p), λ r. first.1 (second.1 r))

pub no_walk : (node : Node) (u : Op) (rest : List Op) (n : ℕ) → (IsForced node u → ⊥) → (◌≡◌ {A = Option ℕ} None (Some n)) ↔ IsWalk node (u ∷ rest) n
no_walk node u rest n not = (λ e. absurd (none-some n e), λ walk. absurd (not walk.0))

pub walk_is : (node : Node) (u : Op) (rest : List Op) (found : Option ℕ) (walked n : ℕ) → IsForced node u → walked ≡ lower_of node.problem node.fixings u → ((m : ℕ) → (found ≡ Some m) ↔ WalksOn node u walked rest m) → (found ≡ Some n) ↔ IsWalk node (u ∷ rest) n
walk_is node u rest found walked n forced same says = (
  λ e. (forced, subst (λ (w : ℕ). WalksOn node u w rest n) same ((says n).0 e)),
  λ walk. (says n).1 (subst (λ (w : ℕ). WalksOn node u w rest n) (sym same) walk.1),
)

pub walk_ends : (node : Node) (u : Op) (total : ℕ) (walk : List Op) (i n : ℕ) → length walk ≤ i → (Some total ≡ Some n) ↔ WalksOn node u total (drop i walk) n
walk_ends node u total walk i n past = subst (λ (l : List Op). (Some total ≡ Some n) ↔ WalksOn node u total l n) (sym (drop_all i walk past)) (λ e. same_Some total n e, λ e. ap (λ (x : ℕ). Some x) e)

pub iff_back : {P Q : Type 0} → (P ↔ Q) → Q ↔ P
iff_back says = (says.1, says.0)

-- ---- late walks

pub late_is : (node : Node) (walk : List Op) (end_found : Option Op) (end : Op) (found : Option ℕ) (total : ℕ) (upper : Option ℕ) (above : Bool) → ((o : Op) → (end_found ≡ Some o) ↔ EndsIn walk o) → end_found ≡ Some end
    → ((n : ℕ) → (found ≡ Some n) ↔ IsWalk node walk n) → found ≡ Some total → upper ≡ upper_of node.problem node.fixings end → (IsTrue above ↔ IsAboveBound total upper) → IsTrue above ↔ IsLateWalk node walk
late_is node walk end_found end found total upper above ends is_end lengths is_total upper_is says = (
  λ true. by upper upper_is (says.0 true),
  λ late.
      let same_end : end ≡ late.end = same_Some end late.end (sym is_end ∙ (ends late.end).1 late.ends) in
      let same_total : total ≡ late.total = same_Some total late.total (sym is_total ∙ (lengths late.total).1 late.is_walk) in
      let known : upper ≡ Some late.upper = upper_is ∙ ap (upper_of node.problem node.fixings) same_end ∙ late.upper_is in
      says.1 (subst (IsAboveBound total) (sym known) (omega (arith, late.late, same_total))),
)
  where
    by : (upper : Option ℕ) → upper ≡ upper_of node.problem node.fixings end → IsAboveBound total upper → IsLateWalk node walk
    by None is above = absurd above
    by (Some limit) is above = record { end = end; ends = (ends end).0 is_end; total = total; is_walk = (lengths total).0 is_total; upper = limit; upper_is = sym is; late = above }

pub not_late_end : (node : Node) (walk : List Op) (end_found : Option Op) → ((o : Op) → (end_found ≡ Some o) ↔ EndsIn walk o) → ((o : Op) → end_found ≡ Some o → ⊥) → IsLateWalk node walk → ⊥
not_late_end node walk end_found ends none late = none late.end ((ends late.end).1 late.ends)

pub not_late_walk : (node : Node) (walk : List Op) (found : Option ℕ) → ((n : ℕ) → (found ≡ Some n) ↔ IsWalk node walk n) → found ≡ None → IsLateWalk node walk → ⊥
not_late_walk node walk found lengths none late = none-some late.total (sym none ∙ (lengths late.total).1 late.is_walk)

-- the last operation of a list is one
last_one : (front other : List Op) (a b : Op) → front ++ a ∷ [] ≡ other ++ b ∷ [] → a ≡ b
last_one front other a b e = sym (last_at front a) ∙ (ap last e ∙ last_at other b)
  where
    last : List Op → Op
    last l = get_or l (length l - 1) a

    last_at : (l : List Op) (x : Op) → last (l ++ x ∷ []) ≡ x
    last_at l x = let place : length l ≡ length (l ++ x ∷ []) - 1 = omega (arith, length_push l x) in get_or_push_at l x (length (l ++ x ∷ []) - 1) place
      where
        get_or_push_at : (l : List Op) (x : Op) (i : ℕ) → length l ≡ i → get_or (l ++ x ∷ []) i a ≡ x
        get_or_push_at l x i e = get_or_push l x a i e

pub ends_is : (walk front : List Op) (end o : Op) → walk ≡ front ++ end ∷ [] → (Some end ≡ Some o) ↔ EndsIn walk o
ends_is walk front end o is = (
  λ e. (front, is ∙ ap (λ (x : Op). front ++ x ∷ []) (same_Some end o e)),
  λ ends. ap (λ (x : Op). Some x) (last_one front ends.0 end o (sym is ∙ ends.1)),
)
