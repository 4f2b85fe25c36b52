-- A tree whose leaf has grown is a tree.
use Rattle.std.proofs.Common.{◌≡◌, ◌∙◌, ℕ, suc, ◌<◌, ◌≤◌, inl, inr, List, [], ◌∷◌, ◌++◌, length, refl, sym, ap, subst, append_assoc, arith}
use Rattle.std.specs.Prelude.{true, false, Option, Some, None, ◌⊎◌, nat_eq, slice_get}
use Rattle.std.specs.List.{list_any, IsDistinct, AllByRecursion}
use Rattle.std.proofs.lemmas.Bool.{cases_eq, cases_Bool, eqb-true, false≢true}
use Rattle.std.proofs.lemmas.Option.{same_Some, slice_get_within}
use Rattle.std.proofs.lemmas.Map.Steps.{length-le_from_distinct_below}
use Rattle.disp_model.specs.declared.problem.Problem.{Problem}
use Rattle.disp_model.specs.declared.tree.TreeNode.{TreeNode}
use Rattle.disp_model.specs.declared.tree.TreeNode.TheVariants.{Branch, Leaf}
use Rattle.disp_model.specs.declared.tree.Leaf.{Leaf as TreeLeaf}
use Rattle.disp_model.specs.declared.decision.Choice.{Choice}
use Rattle.disp_model.specs.Trees.{children_of}
use Rattle.open_nodes.specs.declared.place.Place.{Place}
use Rattle.open_nodes.specs.Preorder.{link_of}
use Rattle.open_nodes.specs.Filled.{LinksLead, Spot, spots_for, ShowsLeaf, ShowsBranch, IsAtSpot, AreFilled}
use Rattle.open_nodes.proofs.Paths.{no_some}

-- ---- the numbers along the links

abbrev pub IsIn : ℕ → List ℕ → Type 0
IsIn q [] = ⊥
IsIn q (x ∷ xs) = (x ≡ q) ⊎ IsIn q xs

in_or_not : (q : ℕ) (xs : List ℕ) → IsIn q xs ⊎ (IsIn q xs → ⊥)
in_or_not q [] = inr (λ h. h)
in_or_not q (x ∷ xs) = elim (cases_eq x q) [
  | inl e ↦ inl (inl e)
  | inr other ↦ elim (in_or_not q xs) [
    | inl there ↦ inl (inr there)
    | inr not ↦ inr (λ h. elim h [ inl e ↦ other e | inr there ↦ not there ])
  ]
]

not_among : (q : ℕ) (xs : List ℕ) → (IsIn q xs → ⊥) → AllByRecursion (λ y. nat_eq q y ≡ false) xs
not_among q [] n = tt
not_among q (x ∷ xs) n = (elim (cases_Bool (nat_eq q x)) [ inl is ↦ absurd (n (inl (sym (eqb-true q x is)))) | inr is ↦ is ], not_among q xs (λ h. n (inr h)))

any_is_in : (q : ℕ) (xs : List ℕ) → list_any (nat_eq q) xs ≡ true → IsIn q xs
any_is_in q [] h = absurd (false≢true h)
any_is_in q (x ∷ xs) h = elim (cases_Bool (nat_eq q x)) [ inl is ↦ inl (sym (eqb-true q x is)) | inr is ↦ inr (any_is_in q xs (later is)) ]
  where
    later : nat_eq q x ≡ false → list_any (nat_eq q) xs ≡ true
    later is = rw is at h

module _ (look : ℕ → Option Place) where
  same_length : (xs ys : List ℕ) (at : Option ℕ) → LinksLead look at xs None → LinksLead look at ys None → length xs ≡ length ys
  same_length [] [] at f g = refl
  same_length [] (y ∷ ys) at f g = absurd (no_some y (sym f ∙ g.0))
  same_length (x ∷ xs) [] at f g = absurd (no_some x (sym g ∙ f.0))
  same_length (x ∷ xs) (y ∷ ys) at f g =
      let e : x ≡ y = same_Some x y (sym f.0 ∙ g.0) in
      omega (arith, same_length xs ys (link_of (look x)) f.1 (subst (λ (n : ℕ). LinksLead look (link_of (look n)) ys None) (sym e) g.1))

  from_in : (xs : List ℕ) (at : Option ℕ) (q : ℕ) → LinksLead look at xs None → IsIn q xs → (rest : List ℕ) × LinksLead look (Some q) rest None × (length rest ≤ length xs)
  from_in [] at q f h = absurd h
  from_in (x ∷ xs) at q f (inl e) = (x ∷ xs, (ap Some (sym e), f.1), omega arith)
  from_in (x ∷ xs) at q f (inr h) = let (rest, g, le) = from_in xs (link_of (look x)) q f.1 h in (rest, g, omega (arith, le))

  -- the links never lead back
  pub no_return : (n : ℕ) (xs : List ℕ) → LinksLead look (link_of (look n)) xs None → IsIn n xs → ⊥
  no_return n xs f h =
      let (rest, g, le) = from_in xs (link_of (look n)) n f h in
      omega (arith, le, same_length (n ∷ xs) rest (Some n) (refl, f) g)

  distinct : (xs : List ℕ) (at : Option ℕ) → LinksLead look at xs None → IsDistinct nat_eq xs
  unfolding IsDistinct
  distinct [] at f = tt
  distinct (x ∷ xs) at f = (not_among x xs (no_return x xs f.1), distinct xs (link_of (look x)) f.1)

  pub leads_append : (xs ys : List ℕ) (at mid to : Option ℕ) → LinksLead look at xs mid → LinksLead look mid ys to → LinksLead look at (xs ++ ys) to
  leads_append [] ys at mid to f g = subst (λ (a : Option ℕ). LinksLead look a ys to) (sym f) g
  leads_append (x ∷ xs) ys at mid to f g = (f.0, leads_append xs ys (link_of (look x)) mid to f.1 g)

  pub filled_append : (problem : Problem) (kept : List TreeNode) (ss ts : List Spot) (xs ys : List ℕ) → AreFilled problem look kept ss xs → AreFilled problem look kept ts ys
      → AreFilled problem look kept (ss ++ ts) (xs ++ ys)
  filled_append problem kept [] ts [] ys f g = g
  filled_append problem kept [] ts (x ∷ xs) ys f g = absurd f
  filled_append problem kept (s ∷ ss) ts [] ys f g = absurd f
  filled_append problem kept (s ∷ ss) ts (x ∷ xs) ys (p, is, inl (leaf, shows, rest)) g = (p, is, inl (leaf, shows, filled_append problem kept ss ts xs ys rest g))
  filled_append problem kept (s ∷ ss) ts (x ∷ xs) ys (p, is, inr (choice, first, shows, rest)) g = (
    p,
    is,
    inr (
      choice,
      first,
      shows,
      subst (λ (l : List Spot). AreFilled problem look kept l (xs ++ ys)) (append_assoc (spots_for x first (children_of problem choice)) ss ts)
          (filled_append problem kept (spots_for x first (children_of problem choice) ++ ss) ts xs ys rest g),
    ),
  )

pub filled_within : (problem : Problem) (places : List Place) (kept : List TreeNode) (spots : List Spot) (xs : List ℕ) → AreFilled problem (slice_get places) kept spots xs
    → (q : ℕ) → IsIn q xs → q < length places
filled_within problem places kept [] [] f q h = absurd h
filled_within problem places kept [] (x ∷ xs) f q h = absurd f
filled_within problem places kept (s ∷ ss) [] f q h = absurd h
filled_within problem places kept (s ∷ ss) (x ∷ xs) (p, is, rest) q (inl e) =
    let within : x < length places = slice_get_within places x p is.there in omega (arith, within, e)
filled_within problem places kept (s ∷ ss) (x ∷ xs) (p, is, inl (leaf, shows, rest)) q (inr h) = filled_within problem places kept ss xs rest q h
filled_within problem places kept (s ∷ ss) (x ∷ xs) (p, is, inr (choice, first, shows, rest)) q (inr h) =
    filled_within problem places kept (spots_for x first (children_of problem choice) ++ ss) xs rest q h

-- each place is on the links
pub every_in : (problem : Problem) (places : List Place) (kept : List TreeNode) (spots : List Spot) (xs : List ℕ) (at : Option ℕ) → LinksLead (slice_get places) at xs None
    → AreFilled problem (slice_get places) kept spots xs → length xs ≡ length places → (q : ℕ) → q < length places → IsIn q xs
unfolding IsDistinct
every_in problem places kept spots xs at leads filled count q lt = elim (in_or_not q xs) [
  | inl there ↦ there
  | inr not ↦ absurd (let long : suc (length xs) ≤ length places = more_fit not in omega (arith, long, count))
]
  where
    more_fit : (IsIn q xs → ⊥) → length (q ∷ xs) ≤ length places
    more_fit not = length-le_from_distinct_below (q ∷ xs) (length places) (not_among q xs not, distinct (slice_get places) xs at leads)
        (λ r h. within r (any_is_in r (q ∷ xs) h))
      where
        within : (r : ℕ) → IsIn r (q ∷ xs) → r < length places
        within r (inl e) = omega (arith, lt, e)
        within r (inr h) = filled_within problem places kept spots xs filled r h

-- ---- another table

module _ (problem : Problem) (look other : ℕ → Option Place) (kept more : List TreeNode) (keeps : (k : ℕ) (node : TreeNode) → slice_get kept k ≡ Some node → slice_get more k ≡ Some node) where
  pub leads_same : (xs : List ℕ) (at to : Option ℕ) → ((q : ℕ) → IsIn q xs → other q ≡ look q) → LinksLead look at xs to → LinksLead other at xs to
  leads_same [] at to same f = f
  leads_same (x ∷ xs) at to same f =
      (f.0, leads_same xs (link_of (other x)) to (λ q h. same q (inr h)) (subst (λ (a : Option ℕ). LinksLead look a xs to) (ap link_of (sym (same x (inl refl)))) f.1))

  pub leaf_same : (p : Place) (leaf : TreeLeaf) → ShowsLeaf kept p leaf → ShowsLeaf more p leaf
  leaf_same p leaf shows = record { shown = keeps p.shows (Leaf leaf) shows.shown; kind_is = shows.kind_is }

  pub branch_same : (p : Place) (choice : Choice) (first : ℕ) → ShowsBranch problem kept p choice first → ShowsBranch problem more p choice first
  branch_same p choice first shows = record {
    children = shows.children;
    shown = keeps p.shows (Branch choice shows.children) shows.shown;
    kind_is = shows.kind_is;
    is_choice = shows.is_choice;
    children_are = shows.children_are;
    next_is = shows.next_is;
  }

  pub at_same : (s : Spot) (n : ℕ) (p : Place) → other n ≡ look n → IsAtSpot look s n p → IsAtSpot other s n p
  at_same s n p same is = record { number_is = is.number_is; there = same ∙ is.there; above_is = is.above_is }

  pub filled_same : (spots : List Spot) (xs : List ℕ) → ((q : ℕ) → IsIn q xs → other q ≡ look q) → AreFilled problem look kept spots xs → AreFilled problem other more spots xs
  filled_same [] [] same f = tt
  filled_same [] (x ∷ xs) same f = absurd f
  filled_same (s ∷ ss) [] same f = absurd f
  filled_same (s ∷ ss) (x ∷ xs) same (p, is, inl (leaf, shows, rest)) =
      (p, at_same s x p (same x (inl refl)) is, inl (leaf, leaf_same p leaf shows, filled_same ss xs (λ q h. same q (inr h)) rest))
  filled_same (s ∷ ss) (x ∷ xs) same (p, is, inr (choice, first, shows, rest)) = (
    p,
    at_same s x p (same x (inl refl)) is,
    inr (
      choice,
      first,
      branch_same p choice first shows,
      filled_same (spots_for x first (children_of problem choice) ++ ss) xs (λ q h. same q (inr h)) rest,
    ),
  )
