-- The places of a tree that are left, one node after another.
use Rattle.std.proofs.Common.{◌≡◌, ℕ, zero, suc, ◌+◌, ◌<◌, ◌≤◌, List, [], ◌∷◌, ◌++◌, length, get_or, drop, drop-cons, take, reverse, refl, sym, ap, subst, ◌∙◌, arith}
use Rattle.std.specs.Prelude.{map, Option, Some, None, MatchOption}
use Rattle.std.proofs.lemmas.List.{reverse-append, length-reverse, take-append-le, take-take, take_all, length-append, length-take-le, drop_all}
use Rattle.disp_model.specs.declared.decision.Decision.{Decision}
use Rattle.disp_model.specs.declared.fixing.Fixing.{Fixing}
use Rattle.disp_model.specs.declared.problem.Problem.{Problem}
use Rattle.disp_model.specs.declared.tree.TreeNode.{TreeNode}
use Rattle.disp_model.specs.declared.tree.TreeNode.TheVariants.{Branch, Leaf}
use Rattle.disp_model.specs.declared.tree.Verdict.{Verdict}
use Rattle.disp_model.specs.Node.{Node, node_at, root_of, with_decision}
use Rattle.disp_model.specs.Trees.{Fills, Accepts}
use Rattle.tree_checker.specs.declared.places.Place.{Place}
use Rattle.tree_checker.specs.declared.why.Why.{Why}
use Rattle.tree_checker.specs.declared.why.Why.TheVariants.{BadChoice}
use Rattle.tree_checker.specs.Rules.{TreeNodeHolds}
use Rattle.tree_checker.specs.Checks.{decisions_below, places_behind, StopsAtNode}
use Rattle.tree_checker.specs.Places.{last_decision, decisions_at, nodes_of, places_at, IsNested, HasStepped}

-- ---- the tree behind a node

fills_more : (verdict : Verdict) (node : Node) (behind : List Node) (top : TreeNode) (tree : List TreeNode) → TreeNodeHolds node verdict top → Fills verdict (places_behind node top behind) tree → Fills verdict (node ∷ behind) (top ∷ tree)
fills_more verdict node behind (Branch choice children) tree holds fills = (holds.0, holds.1, fills)
fills_more verdict node behind (Leaf leaf) tree holds fills = (holds, fills)

-- a tree that is refused is not accepted
pub stops_not_fills : (verdict : Verdict) (places : List Node) (tree : List TreeNode) (number : ℕ) (why : Why) → StopsAtNode verdict places tree number why → Fills verdict places tree → ⊥
stops_not_fills verdict [] [] number why stops fills = stops
stops_not_fills verdict (node ∷ places) [] number why stops fills = fills
stops_not_fills verdict [] (top ∷ tree) number why stops fills = fills
stops_not_fills verdict (node ∷ places) (Leaf leaf ∷ tree) zero why stops fills = stops.not fills.0
stops_not_fills verdict (node ∷ places) (Branch choice children ∷ tree) zero why stops fills = stops.not (fills.0, fills.1)
stops_not_fills verdict (node ∷ places) (Leaf leaf ∷ tree) (suc number) why stops fills = stops_not_fills verdict places tree number why stops.1 fills.1
stops_not_fills verdict (node ∷ places) (Branch choice children ∷ tree) (suc number) why stops fills = stops_not_fills verdict (places_behind node (Branch choice children) places) tree number why stops.1 fills.2

-- what is left of the tree and of the places decides of the whole
pub record IsLeft (problem : Problem) (fixings : List Fixing) (verdict : Verdict) (tree : List TreeNode) (i : ℕ) (path : List Decision) (places : List Place) : Type 0 where
  pub nested : IsNested (length path) (reverse places)
  pub fills : Fills verdict (nodes_of problem fixings path places) (drop i tree) → Accepts problem fixings verdict tree
  pub stops : (number : ℕ) (why : Why) → StopsAtNode verdict (nodes_of problem fixings path places) (drop i tree) number why → StopsAtNode verdict (root_of problem fixings ∷ []) tree (i + number) why

pub nothing_left : (problem : Problem) (fixings : List Fixing) (verdict : Verdict) (tree : List TreeNode) (path : List Decision) (places : List Place) → path ≡ [] → places ≡ record { depth = 0; decision = None } ∷ [] → IsLeft problem fixings verdict tree 0 path places
nothing_left problem fixings verdict tree path places empty one =
    subst (λ (l : List Decision). IsLeft problem fixings verdict tree 0 l places) (sym empty) (subst (λ (l : List Place). IsLeft problem fixings verdict tree 0 [] l) (sym one) (record {
      nested = (omega arith, tt);
      fills = λ fills. fills;
      stops = λ number why stops. let e : number ≡ 0 + number = omega arith in subst (λ (n : ℕ). StopsAtNode verdict (root_of problem fixings ∷ []) tree n why) e stops;
    }))

dropped : (tree : List TreeNode) (i : ℕ) (top : TreeNode) → i < length tree → top ≡ get_or tree i top → drop i tree ≡ top ∷ drop (i + 1) tree
dropped tree i top lt is =
    let next : suc i ≡ i + 1 = omega arith in
    subst (λ (x : TreeNode). drop i tree ≡ x ∷ drop (i + 1) tree) (sym is) (subst (λ (n : ℕ). drop i tree ≡ get_or tree i top ∷ drop n tree) next (drop-cons tree i top lt))

pub step_left : (problem : Problem) (fixings : List Fixing) (verdict : Verdict) (tree : List TreeNode) (i : ℕ) (top : TreeNode) (path path_after : List Decision) (places places_after : List Place) → i < length tree → top ≡ get_or tree i top
    → IsLeft problem fixings verdict tree i path places → HasStepped problem fixings verdict top path path_after places places_after → IsLeft problem fixings verdict tree (i + 1) path_after places_after
step_left problem fixings verdict tree i top path path_after places places_after lt is before step = record {
  nested = step.nested;
  fills = λ fills.
      let behind = subst (λ (l : List Node). Fills verdict l (drop (i + 1) tree)) step.left fills in
      before.fills (subst (λ (l : List Node). Fills verdict l (drop i tree)) (sym step.entered) (subst (Fills verdict (step.node ∷ step.behind)) (sym (dropped tree i top lt is)) (fills_more verdict step.node step.behind top (drop (i + 1) tree) step.holds behind)));
  stops = λ number why stops.
      let behind = subst (λ (l : List Node). StopsAtNode verdict l (drop (i + 1) tree) number why) step.left stops in
      let here : StopsAtNode verdict (step.node ∷ step.behind) (top ∷ drop (i + 1) tree) (suc number) why = (step.holds, behind) in
      let whole = before.stops (suc number) why (subst (λ (l : List Node). StopsAtNode verdict l (drop i tree) (suc number) why) (sym step.entered) (subst (λ (l : List TreeNode). StopsAtNode verdict (step.node ∷ step.behind) l (suc number) why) (sym (dropped tree i top lt is)) here)) in
      let e : i + suc number ≡ i + 1 + number = omega arith in
      subst (λ (n : ℕ). StopsAtNode verdict (root_of problem fixings ∷ []) tree n why) e whole;
}

pub refused_here : (problem : Problem) (fixings : List Fixing) (verdict : Verdict) (tree : List TreeNode) (i : ℕ) (top : TreeNode) (path : List Decision) (places : List Place) (why : Why) → i < length tree → top ≡ get_or tree i top
    → IsLeft problem fixings verdict tree i path places → ((rest : List TreeNode) → StopsAtNode verdict (nodes_of problem fixings path places) (top ∷ rest) 0 why)
    → (Accepts problem fixings verdict tree → ⊥) × StopsAtNode verdict (root_of problem fixings ∷ []) tree i why
refused_here problem fixings verdict tree i top path places why lt is before stops =
    let whole = before.stops 0 why (subst (λ (l : List TreeNode). StopsAtNode verdict (nodes_of problem fixings path places) l 0 why) (sym (dropped tree i top lt is)) (stops (drop (i + 1) tree))) in
    let e : i + 0 ≡ i = omega arith in
    let at = subst (λ (n : ℕ). StopsAtNode verdict (root_of problem fixings ∷ []) tree n why) e whole in
    (stops_not_fills verdict (root_of problem fixings ∷ []) tree i why at, at)

pub accepted : (problem : Problem) (fixings : List Fixing) (verdict : Verdict) (tree : List TreeNode) (i : ℕ) (path : List Decision) (places : List Place) → length tree ≤ i → places ≡ [] → IsLeft problem fixings verdict tree i path places → Accepts problem fixings verdict tree
accepted problem fixings verdict tree i path places past none left =
    left.fills (subst (λ (l : List Place). Fills verdict (nodes_of problem fixings path l) (drop i tree)) (sym none) (subst (Fills verdict []) (sym (drop_all i tree past)) tt))

ended : (problem : Problem) (fixings : List Fixing) (verdict : Verdict) (path : List Decision) (next : List Place) → (next ≡ [] → ⊥) → StopsAtNode verdict (map (λ place. node_at problem fixings (decisions_at path place)) next) [] 0 BadChoice
ended problem fixings verdict path [] some = absurd (some refl)
ended problem fixings verdict path (place ∷ next) some = (refl, refl)

-- the tree ends where a place is left
pub refused_at_end : (problem : Problem) (fixings : List Fixing) (verdict : Verdict) (tree : List TreeNode) (i : ℕ) (path : List Decision) (places : List Place) → length tree ≤ i → i ≤ length tree → (length places ≡ 0 → ⊥) → IsLeft problem fixings verdict tree i path places
    → (Accepts problem fixings verdict tree → ⊥) × StopsAtNode verdict (root_of problem fixings ∷ []) tree (length tree) BadChoice
refused_at_end problem fixings verdict tree i path places past within some left = (stops_not_fills verdict (root_of problem fixings ∷ []) tree (length tree) BadChoice at, at)
  where
    there : reverse places ≡ [] → ⊥
    there none = some (sym (length-reverse places) ∙ ap (λ (l : List Place). length l) none)

    e : i + 0 ≡ length tree
    e = omega (arith, past, within)

    at : StopsAtNode verdict (root_of problem fixings ∷ []) tree (length tree) BadChoice
    at = subst (λ (n : ℕ). StopsAtNode verdict (root_of problem fixings ∷ []) tree n BadChoice) e
        (left.stops 0 BadChoice (subst (λ (l : List TreeNode). StopsAtNode verdict (nodes_of problem fixings path places) l 0 BadChoice) (sym (drop_all i tree past)) (ended problem fixings verdict path (reverse places) there)))

-- ---- one step of the stack

pub none_of : {X A : Type 0} (B : X → Type 0) (found : Option X) → ((x : X) → found ≡ Some x → ⊥) → MatchOption found A B → A
none_of B None not is = is
none_of B (Some x) not is = absurd (not x refl)

take_before : (path : List Decision) (k d : ℕ) (more : List Decision) → k ≤ d → d ≤ length path → take k (take d path ++ more) ≡ take k path
take_before path k d more le within = let long : length (take d path) ≡ d = length-take-le d path within in take-append-le k (take d path) more (omega (arith, le, long)) ∙ take-take k d path le

-- places that are no deeper than the way is kept have the nodes that they had
same_nodes : (problem : Problem) (fixings : List Fixing) (path more : List Decision) (d : ℕ) (places : List Place) → d ≤ length path → IsNested d places
    → map (λ place. node_at problem fixings (decisions_at (take d path ++ more) place)) places ≡ map (λ place. node_at problem fixings (decisions_at path place)) places
same_nodes problem fixings path more d [] within nested = refl
same_nodes problem fixings path more d (place ∷ places) within nested = rw (take_before path place.depth d more nested.0 within) (ap (λ (l : List Node). node_at problem fixings (decisions_at path place) ∷ l) (same_nodes problem fixings path more d places within (wider place.depth d places nested.0 nested.1)))
  where
    wider : (b d : ℕ) (places : List Place) → b ≤ d → IsNested b places → IsNested d places
    wider b d [] le nested = tt
    wider b d (place ∷ places) le nested = (omega (arith, nested.0, le), nested.1)

nested_children : (b d : ℕ) (children : List Decision) (places : List Place) → d ≤ b → (k : ℕ) → k ≤ d → IsNested k places → IsNested b (places_at d children ++ places)
nested_children b d [] [] le k low nested = tt
nested_children b d [] (place ∷ places) le k low nested = (omega (arith, nested.0, low, le), nested.1)
nested_children b d (child ∷ children) places le k low nested = (le, nested_children d d children places (omega arith) k low nested)

child_nodes : (problem : Problem) (fixings : List Fixing) (path : List Decision) (d : ℕ) (children : List Decision) (places : List Place) → take d path ≡ path
    → map (λ place. node_at problem fixings (decisions_at path place)) (places_at d children ++ places) ≡ map (with_decision (node_at problem fixings path)) children ++ map (λ place. node_at problem fixings (decisions_at path place)) places
child_nodes problem fixings path d [] places whole = refl
child_nodes problem fixings path d (child ∷ children) places whole =
    ap (λ (l : List Decision). node_at problem fixings (l ++ child ∷ []) ∷ map (λ place. node_at problem fixings (decisions_at path place)) (places_at d children ++ places)) whole
    ∙ ap (λ (l : List Node). node_at problem fixings (path ++ child ∷ []) ∷ l) (child_nodes problem fixings path d children places whole)

pub stepped : (problem : Problem) (fixings : List Fixing) (verdict : Verdict) (top : TreeNode) (path path_after : List Decision) (places rest places_after : List Place) (place : Place) (depth : ℕ) (children : List Decision)
    → IsNested (length path) (reverse places) → places ≡ rest ++ place ∷ [] → path_after ≡ decisions_at path place → TreeNodeHolds (node_at problem fixings path_after) verdict top → children ≡ decisions_below problem top → depth ≡ length path_after
    → reverse places_after ≡ places_at depth children ++ reverse rest → HasStepped problem fixings verdict top path path_after places places_after
stepped problem fixings verdict top path path_after places rest places_after place depth children nested is after_is holds children_are depth_is after = record {
  node = node_at problem fixings path_after;
  behind = map (λ p. node_at problem fixings (decisions_at path p)) (reverse rest);
  entered = ap (map (λ p. node_at problem fixings (decisions_at path p))) reversed ∙ ap (λ (l : List Decision). node_at problem fixings l ∷ map (λ p. node_at problem fixings (decisions_at path p)) (reverse rest)) (sym after_is);
  holds = holds;
  left = ap (map (λ p. node_at problem fixings (decisions_at path_after p))) after
      ∙ child_nodes problem fixings path_after depth children (reverse rest) whole
      ∙ ap (λ (l : List Node). map (with_decision (node_at problem fixings path_after)) children ++ l) behind_same
      ∙ ap (λ (l : List Decision). map (with_decision (node_at problem fixings path_after)) l ++ map (λ p. node_at problem fixings (decisions_at path p)) (reverse rest)) children_are;
  nested = subst (IsNested (length path_after)) (sym after) (nested_children (length path_after) depth children (reverse rest) (omega (arith, depth_is)) place.depth (omega (arith, depth_is, long)) fits.1);
}
  where
    reversed : reverse places ≡ place ∷ reverse rest
    reversed = ap reverse is ∙ reverse-append rest (place ∷ [])

    fits : IsNested (length path) (place ∷ reverse rest)
    fits = subst (IsNested (length path)) reversed nested

    long : place.depth ≤ length path_after
    long = let all = length-append (take place.depth path) (last_decision place.decision) in
        let front = length-take-le place.depth path fits.0 in
        let same = ap (λ (l : List Decision). length l) after_is in
        omega (arith, all, front, same)

    whole : take depth path_after ≡ path_after
    whole = take_all depth path_after (omega (arith, depth_is))

    behind_same : map (λ p. node_at problem fixings (decisions_at path_after p)) (reverse rest) ≡ map (λ p. node_at problem fixings (decisions_at path p)) (reverse rest)
    behind_same = rw after_is (same_nodes problem fixings path (last_decision place.decision) place.depth (reverse rest) fits.0 fits.1)
