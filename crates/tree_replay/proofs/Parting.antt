-- The preorder of a tree and the grown tree that it shows, parted at the leaf of a number.
use Rattle.std.proofs.Common.{◌≡◌, ◌∙◌, ℕ, inl, inr, List, [], ◌∷◌, ◌++◌, refl, sym, ap, subst}
use Rattle.std.specs.Prelude.{Option, Some, None, slice_get}
use Rattle.std.proofs.lemmas.Bool.{cases_eq}
use Rattle.std.proofs.lemmas.Option.{same_Some}
use Rattle.disp_model.specs.declared.decision.Choice.{Choice}
use Rattle.disp_model.specs.declared.tree.TreeNode.TheVariants.{Branch}
use Rattle.disp_model.specs.Replay.{Place as Grown, branch, leaf}
use Rattle.open_nodes.specs.declared.place.Place.{Place}
use Rattle.open_nodes.specs.States.{State, decisions_of}
use Rattle.open_nodes.specs.Preorder.{link_of}
use Rattle.open_nodes.specs.Filled.{LinksLead}
use Rattle.open_nodes.proofs.Paths.{no_some}
use Rattle.open_nodes.proofs.Joining.{IsIn}
use Rattle.tree_replay.specs.Replayed.{AreShownAt}
use Rattle.tree_replay.proofs.Showing.{later_in}
use Rattle.tree_replay.proofs.Splitting.{EachLeaf}

module _ (look : ℕ → Option Place) where
  -- the links lead along the same numbers
  pub same_leads : (xs ys : List ℕ) (at : Option ℕ) → LinksLead look at xs None → LinksLead look at ys None → xs ≡ ys
  same_leads [] [] at f g = refl
  same_leads [] (y ∷ ys) at f g = absurd (no_some y (sym f ∙ g.0))
  same_leads (x ∷ xs) [] at f g = absurd (no_some x (sym g ∙ f.0))
  same_leads (x ∷ xs) (y ∷ ys) at f g =
      let e : x ≡ y = same_Some x y (sym f.0 ∙ g.0) in
      ap (λ (k : ℕ). k ∷ xs) e
      ∙ ap (λ (l : List ℕ). y ∷ l) (same_leads xs ys (link_of (look y)) (subst (λ (k : ℕ). LinksLead look (link_of (look k)) xs None) e f.1) g.1)

  -- the numbers along the links are those to one of them, and those behind it
  pub record IsParted (n : ℕ) (xs : List ℕ) (at : Option ℕ) : Type 0 where
    pub front : List ℕ
    pub behind : List ℕ
    pub is : xs ≡ front ++ n ∷ behind
    pub to_here : LinksLead look at front (Some n)
    pub from_here : LinksLead look (link_of (look n)) behind None
    pub not_before : IsIn n front → ⊥

  pub parted : (n : ℕ) (xs : List ℕ) (at : Option ℕ) → LinksLead look at xs None → IsIn n xs → IsParted n xs at
  parted n [] at f h = absurd h
  parted n (x ∷ xs) at f h = elim (cases_eq x n) [
    | inl e ↦ record {
      front = [];
      behind = xs;
      is = ap (λ (k : ℕ). k ∷ xs) e;
      to_here = f.0 ∙ ap Some e;
      from_here = subst (λ (k : ℕ). LinksLead look (link_of (look k)) xs None) e f.1;
      not_before = λ none. none;
    }
    | inr ne ↦
        let r = parted n xs (link_of (look x)) f.1 (later_in x n xs ne h) in
        record {
          front = x ∷ r.front;
          behind = r.behind;
          is = ap (λ (l : List ℕ). x ∷ l) r.is;
          to_here = (f.0, r.to_here);
          from_here = r.from_here;
          not_before = λ there. r.not_before (later_in x n r.front ne there);
        }
  ]

module _ (state : State) (n : ℕ) (place : Place) (there : slice_get state.places n ≡ Some place)
    (no_branch : (choice : Choice) (children : ℕ) → slice_get state.kept place.shows ≡ Some (Branch choice children) → ⊥) where
  -- the grown tree is what is shown to a leaf, that leaf, and what is shown behind it
  pub record IsShownBy (fs bs : List ℕ) (gs : List Grown) : Type 0 where
    pub front : List Grown
    pub behind : List Grown
    pub is : gs ≡ front ++ leaf n (decisions_of state.places n) ∷ behind
    pub before : AreShownAt state fs front
    pub after : AreShownAt state bs behind

  pub shown_parted : (fs bs : List ℕ) (gs : List Grown) → AreShownAt state (fs ++ n ∷ bs) gs → IsShownBy fs bs gs
  shown_parted [] bs [] are = absurd are
  shown_parted [] bs (branch choice ∷ gs) ((p, children, at, kept), rest) =
      absurd (no_branch choice children (subst (λ (t : Place). slice_get state.kept t.shows ≡ Some (Branch choice children)) (same_Some p place (sym at ∙ there)) kept))
  shown_parted [] bs (leaf number above ∷ gs) ((p, shown, at, kept, same, decisions), rest) = record {
    front = [];
    behind = gs;
    is = ap (λ (k : ℕ). leaf k above ∷ gs) same ∙ ap (λ ds. leaf n ds ∷ gs) decisions;
    before = tt;
    after = rest;
  }
  shown_parted (x ∷ fs) bs [] are = absurd are
  shown_parted (x ∷ fs) bs (g ∷ gs) (is, rest) =
      let r = shown_parted fs bs gs rest in
      record { front = g ∷ r.front; behind = r.behind; is = ap (λ (l : List Grown). g ∷ l) r.is; before = (is, r.before); after = r.after }

-- what holds of each number that is shown holds of the leaves
pub each_leaf : (P : ℕ → Type 0) (state : State) (xs : List ℕ) (gs : List Grown) → ((q : ℕ) (p : Place) → IsIn q xs → slice_get state.places q ≡ Some p → P q)
    → AreShownAt state xs gs → EachLeaf P gs
each_leaf P state [] [] holds are = tt
each_leaf P state [] (g ∷ gs) holds are = absurd are
each_leaf P state (x ∷ xs) [] holds are = absurd are
each_leaf P state (x ∷ xs) (branch choice ∷ gs) holds (is, rest) = each_leaf P state xs gs (λ q p h. holds q p (inr h)) rest
each_leaf P state (x ∷ xs) (leaf number above ∷ gs) holds ((p, shown, there, kept, same, decisions), rest) =
    (subst P (sym same) (holds x p (inl refl) there), each_leaf P state xs gs (λ q r h. holds q r (inr h)) rest)
