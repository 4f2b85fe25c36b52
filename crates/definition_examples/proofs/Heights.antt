-- Where each operation has a height that no arc passes, no walk is longer than the height of its end. Where each
-- arc leads to a higher rank, there is no cycle.
use Rattle.std.proofs.Common.{◌≡◌, ℕ, ◌+◌, ◌<◌, ◌≤◌, List, [], ◌∷◌, ◌++◌, drop, get_or, subst, ap, arith}
use Rattle.disp_model.specs.Node.{Node}
use Rattle.disp_model.specs.declared.train.Op.{Op}
use Rattle.disp_model.specs.Arcs.{IsArc}
use Rattle.disp_model.specs.Walks.{lower_of, WalksOn, IsWalk, EndsIn, HasNoRepeat, IsLongest, ClosesTo, HasCycle}

no_end : (front : List Op) (o : Op) → [] ≡ front ++ o ∷ [] → ⊥
no_end [] o e = grind (arith, e)
no_end (x ∷ front) o e = grind (arith, e)

ends_one : (u o : Op) → EndsIn (u ∷ []) o → u ≡ o
ends_one u o ([], e) = ap (λ (xs : List Op). get_or xs 0 u) e
ends_one u o (x ∷ front, e) = absurd (no_end front o (ap (drop 1) e))

ends_later : (u v : Op) (rest : List Op) (o : Op) → EndsIn (u ∷ v ∷ rest) o → EndsIn (v ∷ rest) o
ends_later u v rest o ([], e) = absurd (grind (arith, e))
ends_later u v rest o (x ∷ front, e) = (front, ap (drop 1) e)

pub record IsHeight (node : Node) (height : Op → ℕ) : Type 0 where
  pub lower : (o : Op) → lower_of node.problem node.fixings o ≤ height o
  pub arcs : (u v : Op) (arc_length : ℕ) → IsArc node u v arc_length → height u + arc_length ≤ height v

walks_on_below : (node : Node) (height : Op → ℕ) → IsHeight node height
    → (u : Op) (walked : ℕ) (rest : List Op) (total : ℕ) (o : Op) → walked ≤ height u → WalksOn node u walked rest total → EndsIn (u ∷ rest) o → total ≤ height o
walks_on_below node height is u walked [] total o low on ends = subst (λ w. total ≤ height w) (ends_one u o ends) (omega (arith, on, low))
walks_on_below node height is u walked (v ∷ rest) total o low (arc_length, arc, on) ends =
    let step : height u + arc_length ≤ height v = is.arcs u v arc_length arc.there in
    walks_on_below node height is v (walked + arc_length) rest total o (omega (arith, step, low)) on (ends_later u v rest o ends)

-- a walk is no longer than the height of its end
pub walk_below : (node : Node) (height : Op → ℕ) → IsHeight node height
    → (walk : List Op) (total : ℕ) (o : Op) → IsWalk node walk total → EndsIn walk o → total ≤ height o
walk_below node height is [] total o h ends = absurd h
walk_below node height is (u ∷ rest) total o (forced, on) ends =
    walks_on_below node height is u (lower_of node.problem node.fixings u) rest total o (is.lower u) on ends

-- a walk as long as the height of its end is the longest
pub longest : (node : Node) (height : Op → ℕ) → IsHeight node height
    → (walk : List Op) (o : Op) → EndsIn walk o → HasNoRepeat walk → IsWalk node walk (height o) → IsLongest node o (height o)
longest node height is walk o ends once is_walk = record {
  reached = (walk, ends, once, is_walk);
  none_longer = λ other total other_ends other_once other_walk. walk_below node height is other total o other_walk other_ends;
}

-- ---- no cycle

abbrev pub Ranks : Node → (Op → ℕ) → Type 0
Ranks node rank = (u v : Op) (arc_length : ℕ) → IsArc node u v arc_length → rank u < rank v

closes_higher : (node : Node) (rank : Op → ℕ) → Ranks node rank
    → (first u : Op) (rest : List Op) → ClosesTo node first u rest → rank u < rank first
closes_higher node rank is first u [] (arc_length, arc) = is u first arc_length arc
closes_higher node rank is first u (v ∷ rest) ((arc_length, arc), more) =
    let step : rank u < rank v = is u v arc_length arc in
    let later : rank v < rank first = closes_higher node rank is first v rest more in
    omega (arith, step, later)

pub no_cycle : (node : Node) (rank : Op → ℕ) → Ranks node rank → HasCycle node → ⊥
no_cycle node rank is ([], cycle) = cycle
no_cycle node rank is (u ∷ [], cycle) = cycle
no_cycle node rank is (u ∷ v ∷ rest, cycle) =
    let back : rank u < rank u = closes_higher node rank is u u (v ∷ rest) cycle in
    omega (arith, back)
