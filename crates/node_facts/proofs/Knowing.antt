-- What the ways of a train say of its allowed routes.
use Rattle.std.proofs.Common.{◌≡◌, ℕ, ◌<◌, List, [], ◌∷◌, length, Option, Some, None, Bool, true, false, refl, sym, subst, ◌∙◌}
use Rattle.std.specs.Prelude.{Contains, IsTrue, IsSome, slice_index_or, ◌↔◌, ◌&&◌}
use Rattle.std.proofs.lemmas.Bool.{false≢true}
use Rattle.disp_model.specs.Valid.{train_at}
use Rattle.disp_model.specs.Node.{Node}
use Rattle.disp_model.specs.Routes.{HasRoute, IsForced}
use Rattle.disp_laws.proofs.Paths.{is_in}
use Rattle.disp_laws.proofs.RouteSearch.{each_within}
use Rattle.node_facts.specs.declared.train.TrainKnowledge.{TrainKnowledge}
use Rattle.node_facts.specs.Ways.{way_sum, IsLeastOf, HasSum}
use Rattle.route_marks.specs.Marks.{sum_at}
use Rattle.node_facts.specs.Known.{op_numbered, IsKnown}
use Rattle.node_facts.proofs.Allowing.{IsLaidOut, way_goes, IsAsked, allowed_is_way, way_is_allowed}

-- ---- what has a least number

pub some_has : (P : ℕ → Type 0) (least : Option ℕ) → IsLeastOf P least → IsSome least ↔ ((n : ℕ) × P n)
some_has P None is = (λ some. absurd (false≢true some), λ h. absurd (is h.0 h.1))
some_has P (Some n) is = (λ some. (n, is.reached), λ h. refl)

-- ---- what is known of a train

pub laid_out : (node : Node) (t : ℕ) (known : TrainKnowledge) → (is : IsKnown node t known) → IsLaidOut (train_at node.problem t) known.order.items known.places.items
laid_out node t known is = record { acyclic = node.problem.well_formed.acyclic t [] is.there; order_is = is.order_is; places_are = is.places_are }

pub asked : (node : Node) (t : ℕ) (known : TrainKnowledge) → (is : IsKnown node t known) → IsAsked node t known.order.items known.places.items known.demands.items known.entry
asked node t known is = record { laid = laid_out node t known is; demands_are = is.demands_are; entry = is.entry_is }

pub left_is : (node : Node) (t : ℕ) (known : TrainKnowledge) (has : Bool) → IsKnown node t known → (IsTrue has ↔ IsSome (sum_at known.sums.items known.entry)) → IsTrue has ↔ HasRoute node t
left_is node t known has is says = (
  λ true.
      let way = some.0 (says.0 true) in
      (known.entry ∷ way.1.rest, way_is_allowed node t known.order.items known.places.items known.demands.items known.entry way.1.rest (asked node t known is) way.1.way),
  λ left.
      let way = allowed_is_way node t known.order.items known.places.items known.demands.items known.entry left.0 (asked node t known is) left.1 in
      says.1 (some.1 (way_sum (train_at node.problem t) known.entry way.0, record { rest = way.0; way = way.2; sum_is = refl })),
)
  where
    some : IsSome (sum_at known.sums.items known.entry) ↔ ((n : ℕ) × HasSum (train_at node.problem t) known.places.items known.demands.items known.entry n)
    some = some_has (HasSum (train_at node.problem t) known.places.items known.demands.items known.entry) (sum_at known.sums.items known.entry) (is.sums_are known.entry)

-- ---- forced operations

pub forced_within : (node : Node) (t o : ℕ) (known : TrainKnowledge) → IsKnown node t known → IsForced node (op_numbered t o) → o < length (train_at node.problem t)
forced_within node t o known is forced =
    let way = allowed_is_way node t known.order.items known.places.items known.demands.items known.entry forced.allowed.0 (asked node t known is) forced.allowed.1 in
    each_within (train_at node.problem t) known.entry way.0 (way_goes (train_at node.problem t) known.places.items known.demands.items known.entry way.0 way.2) o
    (is_in o (known.entry ∷ way.0) (subst (λ (l : List ℕ). Contains l o) way.1 (forced.each_has forced.allowed.0 forced.allowed.1)))

pub forced_is : (node : Node) (t o : ℕ) (known : TrainKnowledge) (left marked : Bool) → IsKnown node t known → (IsTrue left ↔ HasRoute node t) → marked ≡ slice_index_or known.needed.items o false → IsTrue (left && marked) ↔ IsForced node (op_numbered t o)
forced_is node t o known left marked is says mark = (
  λ true.
      let both = parts left marked true in
      let on_each = ((is.needed_are o).0 (sym mark ∙ both.1)).1 in
      record {
        train = is.there;
        allowed = says.0 both.0;
        each_has = λ route allowed.
            let way = allowed_is_way node t known.order.items known.places.items known.demands.items known.entry route (asked node t known is) allowed in
            subst (λ (l : List ℕ). Contains l o) (sym way.1) (on_each way.0 way.2);
      },
  λ forced.
      whole left marked (says.1 forced.allowed) (mark ∙ (is.needed_are o).1 (
        forced_within node t o known is forced,
        λ rest way. forced.each_has (known.entry ∷ rest) (way_is_allowed node t known.order.items known.places.items known.demands.items known.entry rest (asked node t known is) way),
      )),
)
  where
    parts : (left marked : Bool) → IsTrue (left && marked) → IsTrue left × IsTrue marked
    parts true marked h = (refl, h)
    parts false marked h = absurd (false≢true h)

    whole : (left marked : Bool) → IsTrue left → IsTrue marked → IsTrue (left && marked)
    whole true marked one other = other
    whole false marked one other = absurd (false≢true one)

-- with the first test decided
pub forced_when : (node : Node) (t o : ℕ) (known : TrainKnowledge) (left value marked : Bool) → IsKnown node t known → (IsTrue left ↔ HasRoute node t) → left ≡ value → marked ≡ slice_index_or known.needed.items o false
    → IsTrue (value && marked) ↔ IsForced node (op_numbered t o)
forced_when node t o known left value marked is says e mark = forced_is node t o known value marked is (subst (λ (b : Bool). IsTrue b ↔ HasRoute node t) e says) mark
