-- Each forced operation has a longest walk: walks without repetition are finite in number, and the length of each is decided.
use Rattle.std.proofs.Common.{◌≡◌, ℕ, zero, suc, ◌+◌, ◌<◌, ◌≤◌, List, [], ◌∷◌, ◌++◌, length, map, Some, refl, sym, ap, subst, ◌∙◌, arith, inl, inr}
use Rattle.std.specs.Prelude.{slice_get, Contains, ◌⊎◌}
use Rattle.std.proofs.lemmas.Bool.{cases_lt}
use Rattle.std.proofs.lemmas.Option.{none-some, same_Some}
use Rattle.std.proofs.lemmas.List.{length-append}
use Rattle.std.proofs.lemmas.List.Elements.{Contains-append_left, Contains-append_right}
use Rattle.disp_model.specs.declared.train.Op.{Op}
use Rattle.disp_model.specs.declared.problem.Problem.{Problem}
use Rattle.disp_model.specs.Train.{IsRoute}
use Rattle.disp_model.specs.Valid.{train_at}
use Rattle.disp_model.specs.Node.{Node}
use Rattle.disp_model.specs.Routes.{IsForced}
use Rattle.disp_model.specs.Arcs.{IsLongestArc}
use Rattle.disp_model.specs.Walks.{lower_of, WalksOn, IsWalk, EndsIn, HasNoRepeat, IsLongest}
use Rattle.disp_model.specs.Nodes.{component_op, AddsForced, ForcedAddUp, IsForcedBound}
use Rattle.disp_model.specs.declared.train.Component.{Component}
use Rattle.disp_model.specs.Cost.{cost_at}
use Rattle.disp_laws.proofs.Paths.{is_in}
use Rattle.disp_laws.proofs.Branching.{contains_map}
use Rattle.disp_laws.proofs.Picked.{one_longest}
use Rattle.disp_laws.proofs.RouteSearch.{Decided, both, each_within, decided_part, is_forced_or_not}
use Rattle.disp_laws.proofs.LongestArcs.{same_op_or_not, longest_arc, has_arc_or_not}

-- ---- the length of a walk is decided

one_longest_arc : (node : Node) (u v : Op) (m n : ℕ) → IsLongestArc node u v m → IsLongestArc node u v n → m ≡ n
one_longest_arc node u v m n one other = omega (arith, one.longest n other.there, other.longest m one.there)

walks_on_or_not : (node : Node) (u : Op) (walked : ℕ) (rest : List Op) → Decided ((total : ℕ) × WalksOn node u walked rest total)
walks_on_or_not node u walked [] = inl (walked, refl)
walks_on_or_not node u walked (v ∷ rest) = elim (has_arc_or_not node u v) [
  | inr none ↦ inr (λ h. none (h.1.0, h.1.1.there))
  | inl found ↦ go (longest_arc node u v found.0 found.1) (λ length. walks_on_or_not node v (walked + length) rest)
]
  where
    go : ((g : ℕ) × IsLongestArc node u v g) → ((arc_length : ℕ) → Decided ((total : ℕ) × WalksOn node v (walked + arc_length) rest total))
        → Decided ((total : ℕ) × WalksOn node u walked (v ∷ rest) total)
    go arc later = elim (later arc.0) [
      | inl on ↦ inl (on.0, (arc.0, arc.1, on.1))
      | inr none ↦ inr (λ h. none (h.0, subst (λ (n : ℕ). WalksOn node v (walked + n) rest h.0) (one_longest_arc node u v h.1.0 arc.0 h.1.1 arc.1) h.1.2))
    ]

pub is_walk_or_not : (node : Node) (walk : List Op) → Decided ((total : ℕ) × IsWalk node walk total)
is_walk_or_not node [] = inr (λ h. h.1)
is_walk_or_not node (u ∷ rest) = elim (both (is_forced_or_not node u) (walks_on_or_not node u (lower_of node.problem node.fixings u) rest)) [
  | inl is ↦ inl (is.1.0, (is.0, is.1.1))
  | inr n ↦ inr (λ h. n (h.1.0, (h.0, h.1.1)))
]

walks_on_same : (node : Node) (u : Op) (walked : ℕ) (rest : List Op) (s t : ℕ) → WalksOn node u walked rest s → WalksOn node u walked rest t → s ≡ t
walks_on_same node u walked [] s t one other = sym one ∙ other
walks_on_same node u walked (v ∷ rest) s t one other =
    let same = one_longest_arc node u v other.0 one.0 other.1 one.1 in
    walks_on_same node v (walked + one.0) rest s t one.2 (subst (λ (n : ℕ). WalksOn node v (walked + n) rest t) same other.2)

pub is_walk_same : (node : Node) (walk : List Op) (s t : ℕ) → IsWalk node walk s → IsWalk node walk t → s ≡ t
is_walk_same node [] s t one other = absurd one
is_walk_same node (u ∷ rest) s t one other = walks_on_same node u (lower_of node.problem node.fixings u) rest s t one.1 other.1

-- ---- no operation twice, and the end of a walk

abbrev pub Among : Op → List Op → Type 0
Among o [] = ⊥
Among o (p ∷ ops) = (p ≡ o) ⊎ Among o ops

among_or_not : (o : Op) (ops : List Op) → Decided (Among o ops)
among_or_not o [] = inr (λ h. h)
among_or_not o (p ∷ ops) = elim (same_op_or_not p o) [
  | inl same ↦ inl (inl same)
  | inr n ↦ elim (among_or_not o ops) [ inl there ↦ inl (inr there) | inr none ↦ inr (λ h. elim h [ inl e ↦ n e | inr there ↦ none there ]) ]
]

among_at : (o : Op) (ops : List Op) (i : ℕ) → slice_get ops i ≡ Some o → Among o ops
among_at o [] i at = absurd (none-some o at)
among_at o (p ∷ ops) zero at = inl (same_Some p o at)
among_at o (p ∷ ops) (suc i) at = inr (among_at o ops i at)

at_among : (o : Op) (ops : List Op) → Among o ops → (i : ℕ) × (slice_get ops i ≡ Some o)
at_among o [] there = absurd there
at_among o (p ∷ ops) (inl same) = (0, ap (λ (q : Op). Some q) same)
at_among o (p ∷ ops) (inr there) = let later = at_among o ops there in (suc later.0, later.1)

abbrev pub Once : List Op → Type 0
Once [] = Unit {0}
Once (o ∷ ops) = (Among o ops → ⊥) × Once ops

pub once_from : (walk : List Op) → HasNoRepeat walk → Once walk
once_from [] single = tt
once_from (o ∷ ops) single = ((λ there. let at = at_among o ops there in single 0 (suc at.0) o (omega arith) refl at.1), once_from ops (λ i j p lt one. single (suc i) (suc j) p (omega (arith, lt)) one))

pub from_once : (walk : List Op) → Once walk → HasNoRepeat walk
from_once [] once i j o lt one other = none-some o one
from_once (p ∷ ops) once zero zero o lt one other = omega (arith, lt)
from_once (p ∷ ops) once zero (suc j) o lt one other = once.0 (among_at p ops j (other ∙ sym one))
from_once (p ∷ ops) once (suc i) zero o lt one other = omega (arith, lt)
from_once (p ∷ ops) once (suc i) (suc j) o lt one other = from_once ops once.1 i j o (omega (arith, lt)) one other

once_or_not : (walk : List Op) → Decided (Once walk)
once_or_not [] = inl tt
once_or_not (o ∷ ops) = elim (among_or_not o ops) [
  | inl there ↦ inr (λ once. once.0 there)
  | inr none ↦ elim (once_or_not ops) [ inl rest ↦ inl (none, rest) | inr n ↦ inr (λ once. n once.1) ]
]

pub ends_or_not : (walk : List Op) (o : Op) → Decided (EndsIn walk o)
ends_or_not [] o = inr (λ h. nowhere h.0 h.1)
  where
    nowhere : (front : List Op) → [] ≡ front ++ o ∷ [] → ⊥
    nowhere [] e = absurd cc
    nowhere (p ∷ front) e = absurd cc
ends_or_not (p ∷ []) o = elim (same_op_or_not p o) [
  | inl same ↦ inl ([], ap (λ (q : Op). q ∷ []) same)
  | inr n ↦ inr (λ h. n (last h.0 h.1))
]
  where
    last : (front : List Op) → p ∷ [] ≡ front ++ o ∷ [] → p ≡ o
    last [] e = cc e
    last (q ∷ []) e = absurd cc
    last (q ∷ r ∷ front) e = absurd cc
ends_or_not (p ∷ q ∷ walk) o = elim (ends_or_not (q ∷ walk) o) [
  | inl ends ↦ inl (p ∷ ends.0, ap (λ (l : List Op). p ∷ l) ends.1)
  | inr n ↦ inr (λ h. n (behind h.0 h.1))
]
  where
    behind : (front : List Op) → p ∷ q ∷ walk ≡ front ++ o ∷ [] → EndsIn (q ∷ walk) o
    behind [] e = absurd cc
    behind (r ∷ front) e = (front, cc e)

-- ---- all lists over some operations

spread_ops : (List (List Op)) → List Op → List (List Op)
spread_ops behind [] = []
spread_ops behind (o ∷ ops) = map (λ l. o ∷ l) behind ++ spread_ops behind ops

-- the lists over these operations, up to so long
lists_of : List Op → ℕ → List (List Op)
lists_of ops zero = [] ∷ []
lists_of ops (suc n) = [] ∷ spread_ops (lists_of ops n) ops

spread_has : (behind : List (List Op)) (ops : List Op) (o : Op) (rest : List Op) → Among o ops → Contains behind rest → Contains (spread_ops behind ops) (o ∷ rest)
unfolding spread_ops
spread_has behind [] o rest there found = absurd there
spread_has behind (p ∷ ops) o rest (inl same) found =
    Contains-append_left (map (λ l. p ∷ l) behind) (spread_ops behind ops) (o ∷ rest)
    (subst (λ (q : Op). Contains (map (λ l. q ∷ l) behind) (o ∷ rest)) (sym same) (contains_map (λ l. o ∷ l) behind rest found))
spread_has behind (p ∷ ops) o rest (inr there) found = Contains-append_right (map (λ l. p ∷ l) behind) (spread_ops behind ops) (o ∷ rest) (spread_has behind ops o rest there found)

-- each operation of the list is among those
abbrev pub EachAmong : List Op → List Op → Type 0
EachAmong [] ops = Unit {0}
EachAmong (o ∷ walk) ops = Among o ops × EachAmong walk ops

lists_have : (ops : List Op) (n : ℕ) (walk : List Op) → EachAmong walk ops → length walk ≤ n → Contains (lists_of ops n) walk
unfolding lists_of
lists_have ops zero [] each le = (0, omega arith, refl)
lists_have ops zero (o ∷ walk) each le = absurd (omega arith)
lists_have ops (suc n) [] each le = (0, omega arith, refl)
lists_have ops (suc n) (o ∷ walk) each le =
    let found = spread_has (lists_of ops n) ops o walk each.0 (lists_have ops n walk each.1 (omega arith)) in
    (suc found.0, omega (arith, found.1), found.2)

-- ---- a list without repetition is no longer than what it is of

pub record Cut (o : Op) (ops : List Op) : Type 0 where
  pub front : List Op
  pub back : List Op
  pub is : ops ≡ front ++ o ∷ back

pub cut : (o : Op) (ops : List Op) → Among o ops → Cut o ops
cut o [] there = absurd there
cut o (p ∷ ops) (inl same) = record { front = []; back = ops; is = ap (λ (q : Op). q ∷ ops) same }
cut o (p ∷ ops) (inr there) = let later = cut o ops there in record { front = p ∷ later.front; back = later.back; is = ap (λ (l : List Op). p ∷ l) later.is }

cut_out : (o p : Op) (front back : List Op) → Among p (front ++ o ∷ back) → (o ≡ p → ⊥) → Among p (front ++ back)
cut_out o p [] back (inl same) n = absurd (n same)
cut_out o p [] back (inr there) n = there
cut_out o p (q ∷ front) back (inl same) n = inl same
cut_out o p (q ∷ front) back (inr there) n = inr (cut_out o p front back there n)

pub each_cut_out : (o : Op) (front back walk : List Op) → EachAmong walk (front ++ o ∷ back) → (Among o walk → ⊥) → EachAmong walk (front ++ back)
each_cut_out o front back [] each n = tt
each_cut_out o front back (p ∷ walk) each n = (cut_out o p front back each.0 (λ same. n (inl (sym same))), each_cut_out o front back walk each.1 (λ there. n (inr there)))

pub once_fits : (walk ops : List Op) → Once walk → EachAmong walk ops → length walk ≤ length ops
once_fits [] ops once each = omega arith
once_fits (o ∷ walk) ops once each =
    let parts = cut o ops each.0 in
    let rest = each_cut_out o parts.front parts.back walk (subst (EachAmong walk) parts.is each.1) once.0 in
    let fits = once_fits walk (parts.front ++ parts.back) once.1 rest in
    let whole : length ops ≡ length parts.front + length (o ∷ parts.back) = ap length parts.is ∙ length-append parts.front (o ∷ parts.back) in
    omega (arith, fits, whole, length-append parts.front parts.back)

-- ---- the operations of a problem

unfoldable pub ops_up_to : ℕ → ℕ → List Op
ops_up_to t zero = []
ops_up_to t (suc k) = record { train = t; op = k } ∷ ops_up_to t k

unfoldable pub all_ops_up_to : Problem → ℕ → List Op
all_ops_up_to problem zero = []
all_ops_up_to problem (suc t) = ops_up_to t (length (train_at problem t)) ++ all_ops_up_to problem t

pub among_append_left : (o : Op) (xs ys : List Op) → Among o xs → Among o (xs ++ ys)
among_append_left o [] ys there = absurd there
among_append_left o (x ∷ xs) ys (inl same) = inl same
among_append_left o (x ∷ xs) ys (inr there) = inr (among_append_left o xs ys there)

pub among_append_right : (o : Op) (xs ys : List Op) → Among o ys → Among o (xs ++ ys)
among_append_right o [] ys there = there
among_append_right o (x ∷ xs) ys there = inr (among_append_right o xs ys there)

among_ops : (t k n : ℕ) → k < n → Among (record { train = t; op = k }) (ops_up_to t n)
unfolding ops_up_to
among_ops t k zero lt = absurd (omega arith)
among_ops t k (suc n) lt = elim (cases_lt k n) [
  | inl before ↦ inr (among_ops t k n before)
  | inr le ↦ inl (let same : n ≡ k = omega (arith, le, lt) in let at : ℕ → Op = λ m. record { train = t; op = m } in ap at same)
]

pub among_all_ops : (problem : Problem) (o : Op) (n : ℕ) → o.train < n → o.op < length (train_at problem o.train) → Among o (all_ops_up_to problem n)
unfolding all_ops_up_to
among_all_ops problem o zero lt there = absurd (omega arith)
among_all_ops problem o (suc n) lt there = elim (cases_lt o.train n) [
  | inl before ↦ among_append_right o (ops_up_to n (length (train_at problem n))) (all_ops_up_to problem n) (among_all_ops problem o n before there)
  | inr le ↦
      let same : o.train ≡ n = omega (arith, le, lt) in
      among_append_left o (ops_up_to n (length (train_at problem n))) (all_ops_up_to problem n)
      (subst (λ (t : ℕ). Among o (ops_up_to t (length (train_at problem t)))) same (among_ops o.train o.op (length (train_at problem o.train)) there))
]

pub forced_within : (node : Node) (o : Op) → IsForced node o → o.op < length (train_at node.problem o.train)
forced_within node o forced = on_route forced.allowed.0 forced.allowed.1.is_route (forced.each_has forced.allowed.0 forced.allowed.1)
  where
    on_route : (route : List ℕ) → IsRoute (train_at node.problem o.train) route → Contains route o.op → o.op < length (train_at node.problem o.train)
    on_route [] is there = absurd is
    on_route (p ∷ rest) is there = each_within (train_at node.problem o.train) p rest is.1 o.op (is_in o.op (p ∷ rest) there)

-- every operation of a problem
unfoldable pub all_ops : Problem → List Op
all_ops problem = all_ops_up_to problem (length problem.trains)

pub forced_among : (node : Node) (o : Op) → IsForced node o → Among o (all_ops node.problem)
unfolding all_ops
forced_among node o forced = among_all_ops node.problem o (length node.problem.trains) forced.train (forced_within node o forced)

pub walk_among : (node : Node) (u : Op) (walked : ℕ) (rest : List Op) (total : ℕ) → WalksOn node u walked rest total → EachAmong rest (all_ops node.problem)
walk_among node u walked [] total walk = tt
walk_among node u walked (v ∷ rest) total walk = (forced_among node v walk.1.there.to_forced, walk_among node v (walked + walk.0) rest total walk.2)

is_walk_among : (node : Node) (walk : List Op) (total : ℕ) → IsWalk node walk total → EachAmong walk (all_ops node.problem)
is_walk_among node [] total is = tt
is_walk_among node (u ∷ rest) total is = (forced_among node u is.0, walk_among node u (lower_of node.problem node.fixings u) rest total is.1)

-- ---- the longest of a list of walks

record IsLongestOf (node : Node) (walks : List (List Op)) : Type 0 where
  pub walk : List Op
  pub there : Contains walks walk
  pub total : ℕ
  pub is_walk : IsWalk node walk total
  pub longest : (other : List Op) (t : ℕ) → Contains walks other → IsWalk node other t → t ≤ total

longest_of : (node : Node) (first : List Op) (walks : List (List Op)) → ((walk : List Op) → Contains (first ∷ walks) walk → (t : ℕ) × IsWalk node walk t)
    → IsLongestOf node (first ∷ walks)
longest_of node first [] each =
    let own = each first (0, omega arith, refl) in
    record { walk = first; there = (0, omega arith, refl); total = own.0; is_walk = own.1; longest = λ other t there is. only own.0 own.1 other t there is }
  where
    only : (total : ℕ) → IsWalk node first total → (other : List Op) (t : ℕ) → Contains (first ∷ []) other → IsWalk node other t → t ≤ total
    only total own other t (zero, lt, e) is = let same = is_walk_same node first t total (subst (λ (w : List Op). IsWalk node w t) (sym e) is) own in omega (arith, same)
    only total own other t (suc k, lt, e) is = absurd (omega (arith, lt))
longest_of node first (second ∷ walks) each =
    better (each first (0, omega arith, refl)) (longest_of node second walks (λ walk there. each walk (suc there.0, omega (arith, there.1), there.2)))
  where
    better : ((t : ℕ) × IsWalk node first t) → IsLongestOf node (second ∷ walks) → IsLongestOf node (first ∷ second ∷ walks)
    better own rest = elim (cases_lt own.0 rest.total) [
      | inl lt ↦ record { walk = rest.walk; there = (suc rest.there.0, omega (arith, rest.there.1), rest.there.2); total = rest.total; is_walk = rest.is_walk; longest = pick own.0 own.1 rest rest.total (omega (arith, lt)) (omega arith) }
      | inr le ↦ record { walk = first; there = (0, omega arith, refl); total = own.0; is_walk = own.1; longest = pick own.0 own.1 rest own.0 (omega arith) le }
    ]
      where
        pick : (total : ℕ) → IsWalk node first total → (rest : IsLongestOf node (second ∷ walks)) → (most : ℕ) → total ≤ most → rest.total ≤ most
            → (other : List Op) (t : ℕ) → Contains (first ∷ second ∷ walks) other → IsWalk node other t → t ≤ most
        pick total own rest most le ge other t (zero, lt, e) is =
            let same = is_walk_same node first t total (subst (λ (w : List Op). IsWalk node w t) (sym e) is) own in omega (arith, same, le)
        pick total own rest most le ge other t (suc k, lt, e) is = omega (arith, ge, rest.longest other t (k, omega (arith, lt), e) is)

-- a walk to the operation without repetition
Reaches : Node → Op → List Op → Type 0
Reaches node o walk = EndsIn walk o × (Once walk × ((total : ℕ) × IsWalk node walk total))

reaches_or_not : (node : Node) (o : Op) (walk : List Op) → Decided (Reaches node o walk)
unfolding Reaches
reaches_or_not node o walk = both (ends_or_not walk o) (both (once_or_not walk) (is_walk_or_not node walk))

pub longest_walk : (node : Node) (o : Op) → IsForced node o → (total : ℕ) × IsLongest node o total
unfolding Reaches
longest_walk node o forced =
    let part = decided_part (Reaches node o) (reaches_or_not node o) (lists_of (all_ops node.problem) (length (all_ops node.problem))) in
    from_part part.0 part.1 part.2
  where
    own : Reaches node o (o ∷ [])
    own = (([], refl), (((λ there. there), tt), (lower_of node.problem node.fixings o, (forced, refl))))

    among : (walk : List Op) → Reaches node o walk → Contains (lists_of (all_ops node.problem) (length (all_ops node.problem))) walk
    among walk reaches =
        let each = is_walk_among node walk reaches.1.1.0 reaches.1.1.1 in
        lists_have (all_ops node.problem) (length (all_ops node.problem)) walk each (once_fits walk (all_ops node.problem) reaches.1.0 each)

    by_list : (walks : List (List Op)) → Contains walks (o ∷ []) → ((walk : List Op) → Reaches node o walk → Contains walks walk)
        → ((walk : List Op) → Contains walks walk → Reaches node o walk) → (total : ℕ) × IsLongest node o total
    by_list [] here has only = absurd (nowhere here)
      where
        nowhere : Contains [] (o ∷ []) → ⊥
        nowhere (k, lt, e) = omega arith
    by_list (first ∷ walks) here has only =
        let best = longest_of node first walks (λ walk there. (only walk there).1.1) in
        let reached = only best.walk best.there in (
          best.total,
          record {
            reached = (best.walk, reached.0, from_once best.walk reached.1.0, best.is_walk);
            none_longer = λ walk other ends single is. best.longest walk other (has walk (ends, (once_from walk single, (other, is)))) is;
          },
        )

    from_part : (walks : List (List Op)) → ((walk : List Op) → Contains (lists_of (all_ops node.problem) (length (all_ops node.problem))) walk → Reaches node o walk → Contains walks walk)
        → ((walk : List Op) → Contains walks walk → Reaches node o walk) → (total : ℕ) × IsLongest node o total
    from_part walks has only = by_list walks (has (o ∷ []) (among (o ∷ []) own) own) (λ walk reaches. has walk (among walk reaches) reaches) only

-- ---- so each node has a bound

pub adds_some : (node : Node) (c : Component) → (cost : ℕ) × AddsForced node c cost
adds_some node c = elim (is_forced_or_not node (component_op c)) [
  | inl forced ↦ let longest = longest_walk node (component_op c) forced in (cost_at c longest.0, inl (longest.0, forced, longest.1, refl))
  | inr free ↦ (0, inr (free, refl))
]

add_up_some : (node : Node) (components : List Component) → (bound : ℕ) × ForcedAddUp node components bound
add_up_some node [] = (0, refl)
add_up_some node (c ∷ components) =
    let here = adds_some node c in
    let rest = add_up_some node components in
    (here.0 + rest.0, (here.0, rest.0, here.1, rest.1, refl))

pub some_bound : (node : Node) → (bound : ℕ) × IsForcedBound node bound
some_bound node = add_up_some node node.problem.components

-- ---- and one alone

pub adds_same : (node : Node) (c : Component) (s t : ℕ) → AddsForced node c s → AddsForced node c t → s ≡ t
adds_same node c s t (inl (m, forced, longest, is)) (inl (n, again, other, too)) = is ∙ ap (cost_at c) (one_longest node (component_op c) m n longest other) ∙ sym too
adds_same node c s t (inl (m, forced, longest, is)) (inr (free, too)) = absurd (free forced)
adds_same node c s t (inr (free, is)) (inl (n, forced, longest, too)) = absurd (free forced)
adds_same node c s t (inr (free, is)) (inr (again, too)) = is ∙ sym too

pub add_up_same : (node : Node) (components : List Component) (s t : ℕ) → ForcedAddUp node components s → ForcedAddUp node components t → s ≡ t
add_up_same node [] s t one other = one ∙ sym other
add_up_same node (c ∷ components) s t one other =
    omega (arith, adds_same node c one.0 other.0 one.2 other.2, add_up_same node components one.1 other.1 one.3 other.3, one.4, other.4)
