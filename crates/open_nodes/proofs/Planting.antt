-- The places of a fragment in the place of its leaf.
use Rattle.std.proofs.Common.{◌≡◌, ◌≢◌, ◌∙◌, ℕ, zero, suc, ◌+◌, ◌-◌, ◌<◌, inl, inr, List, [], ◌∷◌, ◌++◌, length, set, refl, sym, ap, subst, append_assoc, arith}
use Rattle.std.specs.Prelude.{Option, Some, None, slice_get}
use Rattle.std.proofs.lemmas.Bool.{cases_eq}
use Rattle.std.proofs.lemmas.Option.{same_Some, slice_get_within}
use Rattle.std.proofs.lemmas.List.{length-append, length-set}
use Rattle.disp_model.specs.declared.problem.Problem.{Problem}
use Rattle.disp_model.specs.declared.tree.TreeNode.{TreeNode}
use Rattle.disp_model.specs.declared.entry.Split.{Split}
use Rattle.disp_model.specs.Trees.{children_of}
use Rattle.open_nodes.specs.declared.place.Place.{Place}
use Rattle.open_nodes.specs.declared.place.Above.{Above}
use Rattle.open_nodes.specs.declared.place.Errand.{Errand}
use Rattle.open_nodes.specs.declared.place.Kind.TheVariants.{Branch as Branched}
use Rattle.open_nodes.specs.declared.work.Fragment.{Fragment}
use Rattle.open_nodes.specs.Preorder.{link_of}
use Rattle.open_nodes.specs.States.{State, above_at, above_of, HaveSmallerParents, with_out}
use Rattle.open_nodes.specs.Grafts.{AllStand, FillPlaces, placed, grown_at, Grows}
use Rattle.open_nodes.specs.Filled.{LinksLead, Spot, spots_for, IsAtSpot, AreFilled, IsTree, HaveChoices}
use Rattle.open_nodes.proofs.Places.{get_set_same, get_set_other}
use Rattle.open_nodes.proofs.Paths.{no_some}
use Rattle.open_nodes.proofs.Growing.{get_more, get_joined, above_there, made_stand, made_some}
use Rattle.open_nodes.proofs.Filling.{IsOwn, NumbersOwn, KeepsFrom, Fill, get_joint, grafted_fills}
use Rattle.open_nodes.proofs.Joining.{IsIn, no_return, leads_append, filled_append, filled_within, every_in, leads_same, leaf_same, branch_same, at_same, filled_same}

get_front : (xs ys : List Place) (j : ℕ) → j < length xs → slice_get (xs ++ ys) j ≡ slice_get xs j
get_front [] ys j lt = absurd (omega (arith, lt))
get_front (x ∷ xs) ys zero lt = refl
get_front (x ∷ xs) ys (suc j) lt = get_front xs ys j (omega (arith, lt))

get_behind : (xs ys : List Place) (j i : ℕ) → j ≡ length xs + i → slice_get (xs ++ ys) j ≡ slice_get ys i
get_behind [] ys j i e = let same : j ≡ i = omega (arith, e) in ap (λ (k : ℕ). slice_get ys k) same
get_behind (x ∷ xs) ys zero i e = absurd (omega (arith, e))
get_behind (x ∷ xs) ys (suc j) i e = get_behind xs ys j i (omega (arith, e))

pub numbers_own : (last n : ℕ) (xs : List ℕ) → NumbersOwn last n xs → (q : ℕ) → IsIn q xs → IsOwn last n q
numbers_own last n [] own q h = absurd h
numbers_own last n (x ∷ xs) own q (inl e) = subst (λ (k : ℕ). IsOwn last n k) e own.0
numbers_own last n (x ∷ xs) own q (inr h) = numbers_own last n xs own.1 q h

pub keeps_from : (before rest : List TreeNode) → KeepsFrom (before ++ rest) (length before) rest
keeps_from before [] = tt
keeps_from before (node ∷ rest) =
    let long : length (before ++ node ∷ []) ≡ length before + 1 = length-append before (node ∷ []) in
    let next : KeepsFrom ((before ++ node ∷ []) ++ rest) (length (before ++ node ∷ [])) rest = keeps_from (before ++ node ∷ []) rest in (
      get_joint before node rest,
      subst (λ (l : List TreeNode). KeepsFrom l (length before + 1) rest) (append_assoc before (node ∷ []) rest)
          (subst (λ (k : ℕ). KeepsFrom ((before ++ node ∷ []) ++ rest) k rest) long next),
    )

module _ (problem : Problem) (places : List Place) (kept more : List TreeNode) (n : ℕ) (x root : Place) (fresh : List Place) (there : slice_get places n ≡ Some x)
    (keeps : (k : ℕ) (node : TreeNode) → slice_get kept k ≡ Some node → slice_get more k ≡ Some node) where
  abbrev after : List Place
  after = set (places ++ fresh) n root

  pub root_there : slice_get after n ≡ Some root
  root_there = get_set_same (places ++ fresh) n root x (get_more places fresh n x there)

  pub other_same : (q : ℕ) → q ≢ n → q < length places → slice_get after q ≡ slice_get places q
  other_same q ne lt = get_set_other (places ++ fresh) n q root ne ∙ get_front places fresh q lt

  pub own_same : (q : ℕ) → IsOwn (length places - 1) n q → slice_get after q ≡ slice_get (root ∷ fresh) (q - (length places - 1))
  own_same q (inl e) =
      let within : n < length places = slice_get_within places n x there in
      let first : q - (length places - 1) ≡ 0 = omega (arith, within, e) in
      ap (λ (k : ℕ). slice_get after k) e ∙ root_there ∙ sym (ap (λ (k : ℕ). slice_get (root ∷ fresh) k) first)
  own_same q (inr lt) =
      let within : n < length places = slice_get_within places n x there in
      let later : q - (length places - 1) ≡ suc (q - length places) = omega (arith, within, lt) in
      get_set_other (places ++ fresh) n q root (λ e. omega (arith, within, lt, e)) ∙ get_behind places fresh q (q - length places) (omega (arith, within, lt))
      ∙ sym (ap (λ (k : ℕ). slice_get (root ∷ fresh) k) later)

  -- the places of before are below the same ones
  pub above_same : root.above ≡ x.above → (k : ℕ) → k < length places → above_at after k ≡ above_at places k
  above_same up k lt = elim (cases_eq k n) [
    | inl e ↦ ap (λ (j : ℕ). above_at after j) e ∙ ap above_of root_there ∙ up ∙ sym (ap above_of there) ∙ sym (ap (λ (j : ℕ). above_at places j) e)
    | inr ne ↦ ap above_of (other_same k ne lt)
  ]

  module _ (not_branch : x.kind ≢ Branched) (sub : List ℕ) (leads_sub : LinksLead (slice_get after) (Some n) sub x.next)
      (filled_sub : AreFilled problem (slice_get after) more (record { number = n; above = x.above } ∷ []) sub) where
    pub record Joined (spots : List Spot) (xs : List ℕ) (at : Option ℕ) : Type 0 where
      pub numbers : List ℕ
      pub leads : LinksLead (slice_get after) at numbers None
      pub filled : AreFilled problem (slice_get after) more spots numbers
      pub count : length numbers + 1 ≡ length xs + length sub

    as_spot : (s : Spot) → s.number ≡ n → s.above ≡ x.above → AreFilled problem (slice_get after) more (s ∷ []) sub
    as_spot s e a =
        let same : record { number = n; above = x.above } ≡ s =
        ap (λ (k : ℕ). record { number = k; above = x.above }) (sym e) ∙ ap (λ (o : Option Above). record { number = s.number; above = o }) (sym a) in
        subst (λ (t : Spot). AreFilled problem (slice_get after) more (t ∷ []) sub) same filled_sub

    here : (s : Spot) (ss : List Spot) (m : ℕ) (ms : List ℕ) (p : Place) → IsAtSpot (slice_get places) s m p → m ≡ n
        → LinksLead (slice_get places) (link_of (slice_get places m)) ms None → AreFilled problem (slice_get places) kept ss ms → Joined (s ∷ ss) (m ∷ ms) (Some m)
    here s ss m ms p is e f r =
        let px : p ≡ x = same_Some p x (sym is.there ∙ ap (λ (k : ℕ). slice_get places k) e ∙ there) in
        let g : LinksLead (slice_get places) (link_of (slice_get places n)) ms None = subst (λ (k : ℕ). LinksLead (slice_get places) (link_of (slice_get places k)) ms None) e f in
        let same : (q : ℕ) → IsIn q ms → slice_get after q ≡ slice_get places q = λ q h.
        other_same q (λ eq. no_return (slice_get places) n ms g (subst (λ (k : ℕ). IsIn k ms) eq h)) (filled_within problem places kept ss ms r q h) in
        let behind : LinksLead (slice_get after) x.next ms None = subst (λ (a : Option ℕ). LinksLead (slice_get after) a ms None) (ap link_of there)
        (leads_same problem (slice_get places) (slice_get after) kept more keeps ms (link_of (slice_get places n)) None same g) in
        record {
          numbers = sub ++ ms;
          leads = subst (λ (k : ℕ). LinksLead (slice_get after) (Some k) (sub ++ ms) None) (sym e) (leads_append (slice_get after) sub ms (Some n) x.next None leads_sub behind);
          filled = filled_append (slice_get after) problem more (s ∷ []) ss sub ms
              (as_spot s (sym is.number_is ∙ e) (sym is.above_is ∙ ap (λ (r : Place). r.above) px))
              (filled_same problem (slice_get places) (slice_get after) kept more keeps ss ms same r);
          count = omega (arith, length-append sub ms);
        }

    on : (s : Spot) (ss ts : List Spot) (m : ℕ) (ms : List ℕ) (at : Option ℕ) → at ≡ Some m → slice_get after m ≡ slice_get places m
        → (j : Joined ts ms (link_of (slice_get places m))) → AreFilled problem (slice_get after) more (s ∷ ss) (m ∷ j.numbers) → Joined (s ∷ ss) (m ∷ ms) at
    on s ss ts m ms at e same j filled = record {
      numbers = m ∷ j.numbers;
      leads = (e, subst (λ (o : Option Place). LinksLead (slice_get after) (link_of o) j.numbers None) (sym same) j.leads);
      filled = filled;
      count = omega (arith, j.count);
    }

    later : (m : ℕ) (ms : List ℕ) → m ≢ n → IsIn n (m ∷ ms) → IsIn n ms
    later m ms ne (inl e) = absurd (ne e)
    later m ms ne (inr h) = h

    join : (spots : List Spot) (xs : List ℕ) (at : Option ℕ) → LinksLead (slice_get places) at xs None → AreFilled problem (slice_get places) kept spots xs → IsIn n xs → Joined spots xs at
    join [] [] at f g h = absurd h
    join [] (m ∷ ms) at f g h = absurd g
    join (s ∷ ss) [] at f g h = absurd h
    join (s ∷ ss) (m ∷ ms) at f (p, is, inl (leaf, shows, r)) h = elim (cases_eq m n) [
      | inl e ↦ subst (λ (a : Option ℕ). Joined (s ∷ ss) (m ∷ ms) a) (sym f.0) (here s ss m ms p is e f.1 r)
      | inr ne ↦
          let same : slice_get after m ≡ slice_get places m = other_same m ne (slice_get_within places m p is.there) in
          let j : Joined ss ms (link_of (slice_get places m)) = join ss ms (link_of (slice_get places m)) f.1 r (later m ms ne h) in
          on s ss ss m ms at f.0 same j
          (p, at_same problem (slice_get places) (slice_get after) kept more keeps s m p same is, inl (leaf, leaf_same problem (slice_get places) (slice_get after) kept more keeps p leaf shows, j.filled))
    ]
    join (s ∷ ss) (m ∷ ms) at f (p, is, inr (choice, first, shows, r)) h = elim (cases_eq m n) [
      | inl e ↦
          let px : p ≡ x = same_Some p x (sym is.there ∙ ap (λ (k : ℕ). slice_get places k) e ∙ there) in
          absurd (not_branch (ap (λ (q : Place). q.kind) (sym px) ∙ shows.kind_is))
      | inr ne ↦
          let same : slice_get after m ≡ slice_get places m = other_same m ne (slice_get_within places m p is.there) in
          let ts : List Spot = spots_for m first (children_of problem choice) ++ ss in
          let j : Joined ts ms (link_of (slice_get places m)) = join ts ms (link_of (slice_get places m)) f.1 r (later m ms ne h) in
          on s ss ts m ms at f.0 same j
          (p, at_same problem (slice_get places) (slice_get after) kept more keeps s m p same is, inr (choice, first, branch_same problem (slice_get places) (slice_get after) kept more keeps p choice first shows, j.filled))
    ]

  module _ (small : HaveSmallerParents places) (all : AllStand (length places - 1) x.above (root ∷ fresh)) where
    parents_after : HaveSmallerParents after
    parents_after m a is = elim (cases_eq m n) [
      | inl e ↦
          let up : above_at places n ≡ Some a = ap above_of there ∙ sym (all 0 root refl).up ∙ sym (ap above_of (ap (λ (k : ℕ). slice_get after k) e ∙ root_there)) ∙ is in
          let less : a.parent < n = small n a up in
          omega (arith, less, e)
      | inr ne ↦
          let (p, at, up) = above_there (slice_get (places ++ fresh) m) a (sym (ap above_of (get_set_other (places ++ fresh) n m root ne)) ∙ is) in
          elim (get_joined places fresh m p at) [
            | inl old ↦ small m a (ap above_of old ∙ up)
            | inr (i, e, new) ↦
                let less : a.parent < (length places - 1) + suc i = (all (suc i) p new).up a up in
                omega (arith, less, e, slice_get_within places n x there)
          ]
    ]

    leaves_after : ((m : ℕ) (p : Place) (errand : Errand) → slice_get places m ≡ Some p → p.out ≡ Some errand → p.kind ≢ Branched)
        → (m : ℕ) (p : Place) (errand : Errand) → slice_get after m ≡ Some p → p.out ≡ Some errand → p.kind ≢ Branched
    leaves_after leaves m p errand at out = elim (cases_eq m n) [
      | inl e ↦
          let is : root ≡ p = same_Some root p (sym root_there ∙ ap (λ (k : ℕ). slice_get after k) (sym e) ∙ at) in
          absurd (no_some errand (sym (all 0 root refl).inside ∙ ap (λ (r : Place). r.out) is ∙ out))
      | inr ne ↦ elim (get_joined places fresh m p (sym (get_set_other (places ++ fresh) n m root ne) ∙ at)) [
        | inl old ↦ leaves m p errand old out
        | inr (i, e, new) ↦ absurd (no_some errand (sym (all (suc i) p new).inside ∙ out))
      ]
    ]

module _ (problem : Problem) (state : State) (tree : IsTree problem state) (n : ℕ) (x : Place) (errand : Errand) (there : slice_get state.places n ≡ Some x) (out : x.out ≡ Some errand)
    (more : List TreeNode) (keeps : (k : ℕ) (node : TreeNode) → slice_get state.kept k ≡ Some node → slice_get more k ≡ Some node) where
  planted : (grown : List Place) (numbers : List ℕ) → 0 < length grown → AllStand (length state.places - 1) x.above grown
      → Fill problem (length state.places - 1) n more x.next (with_out x None ∷ []) grown (record { number = n; above = x.above } ∷ []) numbers
      → IsTree problem (record { places = placed state.places n grown; kept = more; edition = state.edition })
  planted [] numbers some all fill = absurd (omega (arith, some))
  planted (root ∷ fresh) numbers some all fill =
      let places = state.places in
      let last : ℕ = length places - 1 in
      let same = λ (q : ℕ) (h : IsIn q numbers). own_same problem places state.kept more n x root fresh there keeps q (numbers_own last n numbers fill.mine q h) in
      let leads = leads_same problem (λ q. slice_get (root ∷ fresh) (q - last)) (slice_get (set (places ++ fresh) n root)) more more (λ k node e. e) numbers (Some n) x.next same fill.leads in
      let filled = filled_same problem (λ q. slice_get (root ∷ fresh) (q - last)) (slice_get (set (places ++ fresh) n root)) more more (λ k node e. e)
      (record { number = n; above = x.above } ∷ []) numbers same fill.filled in
      let on_links = every_in problem places state.kept (record { number = 0; above = None } ∷ []) tree.numbers (Some 0) tree.leads tree.filled tree.count n (slice_get_within places n x there) in
      let j = join problem places state.kept more n x root fresh there keeps (tree.leaves n x errand there out) numbers leads filled
      (record { number = 0; above = None } ∷ []) tree.numbers (Some 0) tree.leads tree.filled on_links in
      record {
        numbers = j.numbers;
        leads = j.leads;
        filled = j.filled;
        count = omega (arith, j.count, fill.count, tree.count, length-set (places ++ fresh) n root, length-append places fresh);
        parents = parents_after problem places state.kept more n x root fresh there keeps tree.parents all;
        leaves = leaves_after problem places state.kept more n x root fresh there keeps tree.parents all tree.leaves;
        empty = keeps 0 _ tree.empty;
      }

pub tree_grows : (problem : Problem) (state : State) (fragment : Fragment) (splits : List Split) (after : State) → IsTree problem state → Grows problem state fragment splits after
    → FillPlaces problem 1 fragment.subtree fragment.bounds → HaveChoices problem fragment.subtree → IsTree problem after
tree_grows problem state fragment splits after tree grows fill choices =
    let x = grows.place in
    let n = fragment.work.node in
    let there = grows.out.there in
    let last : ℕ = length state.places - 1 in
    let more : List TreeNode = state.kept ++ fragment.subtree in
    let first : n - last ≡ 0 = omega (arith, slice_get_within state.places n x there) in
    let (numbers, f) = grafted_fills problem last n more x.next fragment.subtree (length state.kept) (with_out x None ∷ []) (record { number = n; above = x.above } ∷ []) fragment.bounds []
    (omega arith)
    (record { place = with_out x None; there = ap (λ (k : ℕ). slice_get (with_out x None ∷ []) k) first; above_is = refl; next_is = refl }, tt)
    (tt, tt) (inl refl, tt) fill choices (keeps_from state.kept fragment.subtree) in
    subst (λ (s : State). IsTree problem s) (sym grows.after_is)
    (planted problem state tree n x _ there grows.out.out more (λ k node e. get_more state.kept fragment.subtree k node e)
    (grown_at problem state n x fragment.subtree fragment.bounds).grown numbers
    (made_some problem last (length state.kept) n x fragment.subtree fragment.bounds)
    (made_stand problem last (length state.kept) n x fragment.subtree fragment.bounds) f)
