-- Where the numbers of leaves that do not hold are listed, their falling back settles the tree.
use Rattle.std.proofs.Common.{◌≡◌, ◌≢◌, ◌∙◌, ℕ, zero, suc, ◌+◌, ◌<◌, Bool, true, false, inl, inr, List, [], ◌∷◌, ◌++◌, length, refl, sym, ap, subst, arith}
use Rattle.std.specs.Prelude.{◌⊎◌, ◌↔◌, Option, Some, None, Contains, IsTrue, slice_get, option_map, if◌then◌else◌}
use Rattle.std.proofs.lemmas.Bool.{cases_eq}
use Rattle.std.proofs.lemmas.List.{length-set}
use Rattle.std.proofs.lemmas.List.Elements.{Contains-append_left, Contains-push, Contains-push_cases}
use Rattle.std.proofs.lemmas.Option.{none-some, same_Some, slice_get_within}
use Rattle.disp_model.specs.declared.decision.Decision.{Decision}
use Rattle.disp_model.specs.declared.fixing.Fixing.{Fixing}
use Rattle.disp_model.specs.declared.problem.Problem.{Problem}
use Rattle.disp_model.specs.declared.tree.Leaf.{Leaf as TreeLeaf}
use Rattle.disp_model.specs.declared.tree.TreeNode.{TreeNode}
use Rattle.disp_model.specs.declared.tree.TreeNode.TheVariants.{Branch, Leaf}
use Rattle.disp_model.specs.declared.tree.Verdict.TheVariants.{Optimal}
use Rattle.disp_model.specs.Node.{node_at}
use Rattle.disp_model.specs.Trees.{LeafHolds}
use Rattle.disp_laws.proofs.LeavesDecided.{leaf_or_not}
use Rattle.open_nodes.specs.declared.place.Kind.{Kind}
use Rattle.open_nodes.specs.declared.place.Kind.TheVariants.{Open, Dead, Branch as Branched}
use Rattle.open_nodes.specs.declared.place.Place.{Place}
use Rattle.open_nodes.specs.Filled.{IsTree}
use Rattle.open_nodes.specs.Shown.{leaf_in, shown_by, leaf_of, fallen, fallen_by, fallen_in, fallen_at}
use Rattle.open_nodes.specs.States.{State, decisions_of}
use Rattle.open_nodes.proofs.Falling.{fallen_is}
use Rattle.open_nodes.proofs.Places.{get_set_same, get_set_other}
use Rattle.dispatch_core.specs.Falling.{AreFailing, fallen_all}
use Rattle.dispatch_core.specs.States.{DoesNotHold, Settles}
use Rattle.dispatch_core.proofs.Falling.{leaf_no_branch}

-- ---- lists of numbers

in_rest : (x n : ℕ) (numbers : List ℕ) → Contains numbers n → Contains (x ∷ numbers) n
in_rest x n numbers (k, lt, e) = (suc k, omega (arith, lt), e)

is_first : (n : ℕ) (numbers : List ℕ) → Contains (n ∷ numbers) n
is_first n numbers = (0, omega arith, refl)

not_first : (x n : ℕ) (numbers : List ℕ) → n ≢ x → Contains (x ∷ numbers) n → Contains numbers n
not_first x n numbers other (zero, lt, e) = absurd (other (sym e))
not_first x n numbers other (suc k, lt, e) = (k, omega (arith, lt), e)

listed_or_not : (numbers : List ℕ) (n : ℕ) → Contains numbers n ⊎ (Contains numbers n → ⊥)
listed_or_not [] n = inr (λ (k, lt, e). omega (arith, lt))
listed_or_not (x ∷ numbers) n = elim (cases_eq n x) [
  | inl e ↦ inl (subst (λ (m : ℕ). Contains (m ∷ numbers) n) e (is_first n numbers))
  | inr other ↦ elim (listed_or_not numbers n) [
    | inl there ↦ inl (in_rest x n numbers there)
    | inr not ↦ inr (λ there. not (not_first x n numbers other there))
  ]
]

-- ---- one leaf

same_count_by : (places : List Place) (n : ℕ) (p : Place) (kind : Kind) → length (fallen_by places n p kind) ≡ length places
same_count_by places n p Branched = refl
same_count_by places n p Dead = length-set places n (fallen p)
same_count_by places n p Open = length-set places n (fallen p)

same_count_in : (places : List Place) (n : ℕ) (o : Option Place) → length (fallen_in places n o) ≡ length places
same_count_in places n None = refl
same_count_in places n (Some p) = same_count_by places n p p.kind

other_by : (places : List Place) (n m : ℕ) (p : Place) (kind : Kind) → m ≢ n → slice_get (fallen_by places n p kind) m ≡ slice_get places m
other_by places n m p Branched other = refl
other_by places n m p Dead other = get_set_other places n m (fallen p) other
other_by places n m p Open other = get_set_other places n m (fallen p) other

other_in : (places : List Place) (n m : ℕ) (o : Option Place) → m ≢ n → slice_get (fallen_in places n o) m ≡ slice_get places m
other_in places n m None other = refl
other_in places n m (Some p) other = other_by places n m p p.kind other

-- the leaf of the number falls back
falls : (state : State) (n : ℕ) (p : Place) → slice_get state.places n ≡ Some p → p.kind ≢ Branched → slice_get (fallen_at state n).places n ≡ Some (fallen p)
falls state n p there leaf =
    ap (λ (ps : List Place). slice_get ps n) (sym (fallen_is state.places n p there leaf)) ∙ get_set_same state.places n (fallen p) p there

-- the others stay
stays : (state : State) (n m : ℕ) → m ≢ n → slice_get (fallen_at state n).places m ≡ slice_get state.places m
stays state n m other = other_in state.places n m (slice_get state.places n) other

-- ---- all of them

pub fallen_count : (numbers : List ℕ) (state : State) → length (fallen_all state numbers).places ≡ length state.places
fallen_count [] state = refl
fallen_count (n ∷ numbers) state = fallen_count numbers (fallen_at state n) ∙ same_count_in state.places n (slice_get state.places n)

fallen_kept : (numbers : List ℕ) (state : State) → (fallen_all state numbers).kept ≡ state.kept
fallen_kept [] state = refl
fallen_kept (n ∷ numbers) state = fallen_kept numbers (fallen_at state n)

fallen_edition : (numbers : List ℕ) (state : State) → (fallen_all state numbers).edition ≡ state.edition
fallen_edition [] state = refl
fallen_edition (n ∷ numbers) state = fallen_edition numbers (fallen_at state n)

-- a place whose number is not listed stays
all_stay : (numbers : List ℕ) (state : State) (m : ℕ) → (Contains numbers m → ⊥) → slice_get (fallen_all state numbers).places m ≡ slice_get state.places m
all_stay [] state m not = refl
all_stay (n ∷ numbers) state m not =
    let other : m ≢ n = λ e. not (subst (λ (k : ℕ). Contains (k ∷ numbers) m) e (is_first m numbers)) in
    all_stay numbers (fallen_at state n) m (λ there. not (in_rest n m numbers there)) ∙ stays state n m other

-- one that has fallen back may fall back again
stay_fallen : (numbers : List ℕ) (state : State) (m : ℕ) (p : Place) → slice_get state.places m ≡ Some (fallen p) → slice_get (fallen_all state numbers).places m ≡ Some (fallen p)
stay_fallen [] state m p there = there
stay_fallen (n ∷ numbers) state m p there = elim (cases_eq m n) [
  | inl e ↦ stay_fallen numbers (fallen_at state n) m p (subst (λ (k : ℕ). slice_get (fallen_at state k).places m ≡ Some (fallen p)) e (falls state m (fallen p) there (λ branched. absurd cc)))
  | inr other ↦ stay_fallen numbers (fallen_at state n) m p (stays state n m other ∙ there)
]

-- a leaf whose number is listed falls back
all_fall : (numbers : List ℕ) (state : State) (m : ℕ) (p : Place) → slice_get state.places m ≡ Some p → p.kind ≢ Branched → Contains numbers m
    → slice_get (fallen_all state numbers).places m ≡ Some (fallen p)
all_fall [] state m p there leaf (k, lt, e) = absurd (omega (arith, lt))
all_fall (n ∷ numbers) state m p there leaf listed = elim (cases_eq m n) [
  | inl e ↦ stay_fallen numbers (fallen_at state n) m p (subst (λ (k : ℕ). slice_get (fallen_at state k).places m ≡ Some (fallen p)) e (falls state m p there leaf))
  | inr other ↦ all_fall numbers (fallen_at state n) m p (stays state n m other ∙ there) leaf (not_first n m numbers other listed)
]

pub fallen_settles : (problem : Problem) (fixings : List Fixing) (before : State) (numbers : List ℕ) → IsTree problem before
    → AreFailing problem fixings before (length before.places) numbers → Settles problem fixings before (fallen_all before numbers)
fallen_settles problem fixings before numbers tree failing = record {
  count = fallen_count numbers before;
  each = λ n p there.
      let says = failing n p (slice_get_within before.places n p there) there in
      elim (listed_or_not numbers n) [
        | inl listed ↦
            let fails : DoesNotHold problem fixings before n p = says.0 listed in
            inl (fails, all_fall numbers before n p there (leaf_no_branch problem before tree n p fails.0 there fails.1) listed)
        | inr not ↦ inr (λ fails. not (says.1 fails), all_stay numbers before n not ∙ there)
      ];
  kept = fallen_kept numbers before;
  edition = fallen_edition numbers before;
}

-- where all hold none falls back
pub none_settles : (problem : Problem) (fixings : List Fixing) (before : State) → ((n : ℕ) (p : Place) → slice_get before.places n ≡ Some p → DoesNotHold problem fixings before n p → ⊥)
    → Settles problem fixings before before
none_settles problem fixings before hold = record { count = refl; each = λ n p there. inr (hold n p there, there); kept = refl; edition = refl }

-- ---- listed one after the other

pub none_failing : (problem : Problem) (fixings : List Fixing) (state : State) → AreFailing problem fixings state 0 []
none_failing problem fixings state n p lt there = absurd (omega (arith, lt))

-- the next leaf does not hold
pub one_failing : (problem : Problem) (fixings : List Fixing) (state : State) (k : ℕ) (numbers : List ℕ) → AreFailing problem fixings state k numbers
    → ((p : Place) → slice_get state.places k ≡ Some p → DoesNotHold problem fixings state k p) → AreFailing problem fixings state (k + 1) (numbers ++ k ∷ [])
one_failing problem fixings state k numbers so_far fails n p lt there = elim (cases_eq n k) [
  | inl e ↦ (
    λ listed. subst (λ (m : ℕ). DoesNotHold problem fixings state m p) (sym e) (fails p (subst (λ (m : ℕ). slice_get state.places m ≡ Some p) e there)),
    λ not. subst (λ (m : ℕ). Contains (numbers ++ k ∷ []) m) (sym e) (Contains-push numbers k),
  )
  | inr other ↦
      let says = so_far n p (omega (arith, lt, other)) there in (
        λ listed. elim (Contains-push_cases numbers k n listed) [ inl early ↦ says.0 early | inr last ↦ absurd (other (sym last)) ],
        λ not. Contains-append_left numbers (k ∷ []) n (says.1 not),
      )
]

-- the next one holds, or there is none
pub none_more : (problem : Problem) (fixings : List Fixing) (state : State) (k : ℕ) (numbers : List ℕ) → AreFailing problem fixings state k numbers → ((n : ℕ) → Contains numbers n → n < k)
    → ((p : Place) → slice_get state.places k ≡ Some p → DoesNotHold problem fixings state k p → ⊥) → AreFailing problem fixings state (k + 1) numbers
none_more problem fixings state k numbers so_far below holds n p lt there = elim (cases_eq n k) [
  | inl e ↦ (
    λ listed. absurd (omega (arith, below n listed, e)),
    λ not. absurd (holds p (subst (λ (m : ℕ). slice_get state.places m ≡ Some p) e there) (subst (λ (m : ℕ). DoesNotHold problem fixings state m p) e not)),
  )
  | inr other ↦ so_far n p (omega (arith, lt, other)) there
]

-- ---- whether a leaf holds

shown_leaf : (o : Option TreeNode) (leaf : TreeLeaf) → leaf_in o ≡ Some leaf → o ≡ Some (Leaf leaf)
shown_leaf None leaf is = absurd (none-some leaf is)
shown_leaf (Some (Branch choice children)) leaf is = absurd (none-some leaf is)
shown_leaf (Some (Leaf other)) leaf is = ap (λ (l : TreeLeaf). Some (Leaf l)) (same_Some other leaf is)

no_leaf : (o : Option TreeNode) (leaf : TreeLeaf) → leaf_in o ≡ None → o ≡ Some (Leaf leaf) → ⊥
no_leaf o leaf none is = none-some leaf (sym none ∙ ap leaf_in is)

module _ (problem : Problem) (fixings : List Fixing) (state : State) (n : ℕ) (p : Place) (there : slice_get state.places n ≡ Some p) where
  -- what is kept for it
  kept_of : leaf_of state n ≡ leaf_in (slice_get state.kept p.shows)
  kept_of = ap (λ (o : Option Place). leaf_in (shown_by state.kept o)) there

  -- where no leaf has the number, none does not hold
  pub no_leaf_holds : leaf_of state n ≡ None → DoesNotHold problem fixings state n p → ⊥
  no_leaf_holds none fails = no_leaf (slice_get state.kept p.shows) fails.0 (sym kept_of ∙ none) fails.1

  -- what is found of the leaf says whether it holds
  pub holds_says : (leaf : TreeLeaf) (bound : ℕ) (decisions : List Decision) (holds : Bool) → leaf_of state n ≡ Some leaf
      → Some bound ≡ option_map (λ (q : Place). q.bound) (slice_get state.places n) → decisions ≡ decisions_of state.places n
      → (IsTrue holds ↔ LeafHolds (node_at problem fixings decisions) (Optimal bound) leaf) → (IsTrue holds ↔ (DoesNotHold problem fixings state n p → ⊥))
  holds_says leaf bound decisions holds leaf_is bound_is decisions_are says =
      let shown : slice_get state.kept p.shows ≡ Some (Leaf leaf) = shown_leaf (slice_get state.kept p.shows) leaf (sym kept_of ∙ leaf_is) in
      let same_bound : bound ≡ p.bound = same_Some bound p.bound (bound_is ∙ ap (λ (o : Option Place). option_map (λ (q : Place). q.bound) o) there) in
      let at : LeafHolds (node_at problem fixings decisions) (Optimal bound) leaf ≡ LeafHolds (node_at problem fixings (decisions_of state.places n)) (Optimal p.bound) leaf =
      ap (λ (ds : List Decision). LeafHolds (node_at problem fixings ds) (Optimal bound) leaf) decisions_are
      ∙ ap (λ (b : ℕ). LeafHolds (node_at problem fixings (decisions_of state.places n)) (Optimal b) leaf) same_bound in
      let now : IsTrue holds ↔ LeafHolds (node_at problem fixings (decisions_of state.places n)) (Optimal p.bound) leaf = subst (λ (T : Type 0). IsTrue holds ↔ T) at says in (
        λ true_one fails.
            let same : Some (Leaf fails.0) ≡ Some (Leaf leaf) = sym fails.1 ∙ shown in
            let leaves : fails.0 ≡ leaf = same_Some fails.0 leaf (ap leaf_in same) in
            fails.2 (subst (λ (l : TreeLeaf). LeafHolds (node_at problem fixings (decisions_of state.places n)) (Optimal p.bound) l) (sym leaves) (now.0 true_one)),
        λ not. elim (leaf_or_not (node_at problem fixings (decisions_of state.places n)) (Optimal p.bound) leaf) [
          | inl h ↦ now.1 h
          | inr fails ↦ absurd (not (leaf, shown, fails))
        ],
      )

  -- it holds or it does not
  holds_or_fails : (o : Option TreeLeaf) → leaf_of state n ≡ o → DoesNotHold problem fixings state n p ⊎ (DoesNotHold problem fixings state n p → ⊥)
  holds_or_fails None none = inr (no_leaf_holds none)
  holds_or_fails (Some leaf) is =
      let shown : slice_get state.kept p.shows ≡ Some (Leaf leaf) = shown_leaf (slice_get state.kept p.shows) leaf (sym kept_of ∙ is) in
      elim (leaf_or_not (node_at problem fixings (decisions_of state.places n)) (Optimal p.bound) leaf) [
        | inl h ↦ inr (λ fails.
            let same : Some (Leaf fails.0) ≡ Some (Leaf leaf) = sym fails.1 ∙ shown in
            let leaves : fails.0 ≡ leaf = same_Some fails.0 leaf (ap leaf_in same) in
            fails.2 (subst (λ (l : TreeLeaf). LeafHolds (node_at problem fixings (decisions_of state.places n)) (Optimal p.bound) l) (sym leaves) h))
        | inr fails ↦ inl (leaf, shown, fails)
      ]

  -- so where it is not so that it holds, it does not hold
  pub fails_then : (holds : Bool) → (IsTrue holds ↔ (DoesNotHold problem fixings state n p → ⊥)) → holds ≡ false → DoesNotHold problem fixings state n p
  fails_then holds says is = elim (holds_or_fails (leaf_of state n) refl) [
    | inl fails ↦ fails
    | inr not ↦ let both : false ≡ true = subst (λ (b : Bool). IsTrue b) is (says.1 not) in absurd cc
  ]

-- ---- the loops

-- of the first numbers those of leaves that do not hold, and no others
pub record AreListed (problem : Problem) (fixings : List Fixing) (state : State) (k : ℕ) (numbers : List ℕ) : Type 0 where
  pub are : AreFailing problem fixings state k numbers
  pub below : (n : ℕ) → Contains numbers n → n < k

pub none_listed : (problem : Problem) (fixings : List Fixing) (state : State) → AreListed problem fixings state 0 []
none_listed problem fixings state = record { are = none_failing problem fixings state; below = λ n (k, lt, e). absurd (omega (arith, lt)) }

-- one more number is looked at
pub one_listed : (problem : Problem) (fixings : List Fixing) (state : State) (k : ℕ) (numbers : List ℕ) (holds : Bool) → AreListed problem fixings state k numbers
    → ((p : Place) → slice_get state.places k ≡ Some p → (IsTrue holds ↔ (DoesNotHold problem fixings state k p → ⊥)))
    → AreListed problem fixings state (k + 1) (if holds then numbers else (numbers ++ k ∷ []))
one_listed problem fixings state k numbers true listed says = record {
  are = none_more problem fixings state k numbers listed.are listed.below (λ p there. (says p there).0 refl);
  below = λ n there. omega (arith, listed.below n there);
}
one_listed problem fixings state k numbers false listed says = record {
  are = one_failing problem fixings state k numbers listed.are (λ p there. fails_then problem fixings state k p there false (says p there) refl);
  below = λ n there. elim (Contains-push_cases numbers k n there) [ inl early ↦ omega (arith, listed.below n early) | inr last ↦ omega (arith, last) ];
}

-- leaves fall back one after the other
pub fallen_push : (numbers : List ℕ) (state : State) (n : ℕ) → fallen_all state (numbers ++ n ∷ []) ≡ fallen_at (fallen_all state numbers) n
fallen_push [] state n = refl
fallen_push (m ∷ numbers) state n = fallen_push numbers (fallen_at state m) n
