-- What a leaf makes of a fragment fills its place, and its links lead through the whole of it.
use Rattle.std.proofs.Common.{◌≡◌, ◌≢◌, ◌∙◌, ℕ, ◌+◌, ◌-◌, ◌<◌, ◌≤◌, inl, inr, List, [], ◌∷◌, ◌++◌, length, set, refl, sym, ap, subst, append_assoc, arith}
use Rattle.std.specs.Prelude.{Option, Some, ◌⊎◌, slice_get}
use Rattle.std.proofs.lemmas.Option.{slice_get_within}
use Rattle.std.proofs.lemmas.List.{length-append, length-set}
use Rattle.std.proofs.lemmas.List.{length-map}
use Rattle.disp_model.specs.declared.decision.Decision.{Decision}
use Rattle.disp_model.specs.declared.decision.Choice.{Choice}
use Rattle.disp_model.specs.declared.decision.Choice.TheVariants.{Route, Order, Run}
use Rattle.disp_model.specs.declared.decision.Decision.TheVariants.{Go}
use Rattle.disp_model.specs.Train.{next_of}
use Rattle.disp_model.specs.Valid.{train_at}
use Rattle.disp_model.specs.declared.entry.Split.{Split}
use Rattle.disp_model.specs.declared.problem.Problem.{Problem}
use Rattle.disp_model.specs.declared.tree.TreeNode.{TreeNode}
use Rattle.disp_model.specs.declared.tree.TreeNode.TheVariants.{Branch, Leaf}
use Rattle.disp_model.specs.Trees.{children_of, IsChoice}
use Rattle.open_nodes.specs.declared.place.Place.{Place}
use Rattle.open_nodes.specs.Preorder.{link_of}
use Rattle.open_nodes.specs.Grafts.{Graft, FillPlaces, children_at, new_place, next_in, branch_at, leaf_at, fills, fills_there, grafted}
use Rattle.open_nodes.specs.Filled.{LinksLead, Spot, spots_for, AreFilled, HaveChoices}
use Rattle.open_nodes.proofs.Places.{get_set_same, get_set_other}
use Rattle.open_nodes.proofs.Growing.{get_more}

-- ---- the spots that wait

-- the number that is next where spots wait
abbrev pub next_spot : Option ℕ → List Spot → Option ℕ
next_spot behind [] = behind
next_spot behind (spot ∷ spots) = Some spot.number

pub record Waits (last : ℕ) (grown : List Place) (next : Option ℕ) (spot : Spot) : Type 0 where
  pub place : Place
  pub there : slice_get grown (spot.number - last) ≡ Some place
  pub above_is : place.above ≡ spot.above
  pub next_is : place.next ≡ next

abbrev pub AllWait : ℕ → List Place → Option ℕ → List Spot → Type 0
AllWait last grown behind [] = Unit {0}
AllWait last grown behind (spot ∷ spots) = Waits last grown (next_spot behind spots) spot × AllWait last grown behind spots

-- an index is of none of the spots
abbrev pub IsApart : ℕ → ℕ → List Spot → Type 0
IsApart last i [] = Unit {0}
IsApart last i (spot ∷ spots) = (i ≢ spot.number - last) × IsApart last i spots

abbrev pub AreApart : ℕ → List Spot → Type 0
AreApart last [] = Unit {0}
AreApart last (spot ∷ spots) = IsApart last (spot.number - last) spots × AreApart last spots

-- no place of an index but one has changed
abbrev pub SameBut : ℕ → List Place → List Place → Type 0
SameBut i grown after = (j : ℕ) (place : Place) → j ≢ i → slice_get grown j ≡ Some place → slice_get after j ≡ Some place

-- the number of the leaf that grows, or a new one
abbrev pub IsOwn : ℕ → ℕ → ℕ → Type 0
IsOwn last number n = (n ≡ number) ⊎ (last < n)

abbrev pub SpotsOwn : ℕ → ℕ → List Spot → Type 0
SpotsOwn last number [] = Unit {0}
SpotsOwn last number (spot ∷ spots) = IsOwn last number spot.number × SpotsOwn last number spots

abbrev pub NumbersOwn : ℕ → ℕ → List ℕ → Type 0
NumbersOwn last number [] = Unit {0}
NumbersOwn last number (n ∷ numbers) = IsOwn last number n × NumbersOwn last number numbers

pub get_joint : {X : Type 0} → (xs : List X) (x : X) (rest : List X) → slice_get (xs ++ x ∷ rest) (length xs) ≡ Some x
get_joint [] x rest = refl
get_joint (y ∷ xs) x rest = get_joint xs x rest

module _ (last : ℕ) where
  pub wait_same : (i : ℕ) (grown after : List Place) (behind : Option ℕ) (spots : List Spot) → SameBut i grown after → IsApart last i spots
      → AllWait last grown behind spots → AllWait last after behind spots
  wait_same i grown after behind [] same apart wait = tt
  wait_same i grown after behind (s ∷ spots) same apart wait = (
    record {
      place = wait.0.place;
      there = same (s.number - last) wait.0.place (λ e. apart.0 (sym e)) wait.0.there;
      above_is = wait.0.above_is;
      next_is = wait.0.next_is;
    },
    wait_same i grown after behind spots same apart.1 wait.1,
  )

  wait_more : (grown more : List Place) (behind : Option ℕ) (spots : List Spot) → AllWait last grown behind spots → AllWait last (grown ++ more) behind spots
  wait_more grown more behind [] wait = tt
  wait_more grown more behind (s ∷ spots) wait = (
    record {
      place = wait.0.place;
      there = get_more grown more (s.number - last) wait.0.place wait.0.there;
      above_is = wait.0.above_is;
      next_is = wait.0.next_is;
    },
    wait_more grown more behind spots wait.1,
  )

  -- spots that wait are of places there are
  wait_apart : (grown : List Place) (behind : Option ℕ) (spots : List Spot) (i : ℕ) → AllWait last grown behind spots → length grown ≤ i → IsApart last i spots
  wait_apart grown behind [] i wait le = tt
  wait_apart grown behind (s ∷ spots) i wait le =
      let within : s.number - last < length grown = slice_get_within grown (s.number - last) wait.0.place wait.0.there in
      (λ e. omega (arith, within, le, e), wait_apart grown behind spots i wait.1 le)

  -- ---- the children of a branch

  module _ (parent : ℕ) (spots : List Spot) where
    pub apart_children : (i number : ℕ) (cs : List Decision) → i < number - last → IsApart last i spots → IsApart last i (spots_for parent number cs ++ spots)
    apart_children i number [] lt apart = apart
    apart_children i number (d ∷ cs) lt apart = (λ e. omega (arith, lt, e), apart_children i (number + 1) cs (omega (arith, lt)) apart)

    pub children_apart : (grown : List Place) (behind : Option ℕ) (number : ℕ) (cs : List Decision) → 0 < length grown → AllWait last grown behind spots → length grown ≤ number - last
        → AreApart last spots → AreApart last (spots_for parent number cs ++ spots)
    children_apart grown behind number [] some wait le apart = apart
    children_apart grown behind number (d ∷ cs) some wait le apart = (
      apart_children (number - last) (number + 1) cs (omega (arith, le, some)) (wait_apart grown behind spots (number - last) wait le),
      children_apart grown behind (number + 1) cs some wait (omega (arith, le)) apart,
    )

    pub children_own : (own number : ℕ) (cs : List Decision) → last < number → SpotsOwn last own spots → SpotsOwn last own (spots_for parent number cs ++ spots)
    children_own own number [] lt are = are
    children_own own number (d ∷ cs) lt are = (inr lt, children_own own (number + 1) cs (omega (arith, lt)) are)

    first_spot : (behind : Option ℕ) (number : ℕ) (cs : List Decision) → next_in (next_spot behind spots) number cs ≡ next_spot behind (spots_for parent number cs ++ spots)
    first_spot behind number [] = refl
    first_spot behind number (d ∷ cs) = refl

    pub children_wait : (behind : Option ℕ) (cs : List Decision) (number : ℕ) (before : List Place) → number ≡ last + length before → AllWait last before behind spots
        → AllWait last (before ++ children_at parent (next_spot behind spots) number cs) behind (spots_for parent number cs ++ spots)
    children_wait behind [] number before e wait = wait_more before [] behind spots wait
    children_wait behind (d ∷ cs) number before e wait =
        let b : Option ℕ = next_spot behind spots in
        let child : Place = new_place parent d (next_in b (number + 1) cs) in
        let rest : List Place = children_at parent b (number + 1) cs in
        let long : length (before ++ child ∷ []) ≡ length before + 1 = length-append before (child ∷ []) in
        let all : AllWait last ((before ++ child ∷ []) ++ rest) behind (spots_for parent (number + 1) cs ++ spots) =
        children_wait behind cs (number + 1) (before ++ child ∷ []) (omega (arith, e, long)) (wait_more before (child ∷ []) behind spots wait) in
        let here : number - last ≡ length before = omega (arith, e) in (
          record {
            place = child;
            there = subst (λ (i : ℕ). slice_get (before ++ child ∷ rest) i ≡ Some child) (sym here) (get_joint before child rest);
            above_is = refl;
            next_is = first_spot behind (number + 1) cs;
          },
          subst (λ (l : List Place). AllWait last l behind (spots_for parent (number + 1) cs ++ spots)) (append_assoc before (child ∷ []) rest) all,
        )

    pub length_spots : (number : ℕ) (cs : List Decision) → length (spots_for parent number cs ++ spots) ≡ length cs + length spots
    length_spots number [] = omega arith
    length_spots number (d ∷ cs) = omega (arith, length_spots (number + 1) cs)

    pub spot_there : (behind : Option ℕ) (number : ℕ) (cs : List Decision) → 0 < length cs → next_spot behind (spots_for parent number cs ++ spots) ≡ Some number
    spot_there behind number [] some = absurd (omega (arith, some))
    spot_there behind number (d ∷ cs) some = refl

pub length_children : (parent : ℕ) (behind : Option ℕ) (number : ℕ) (cs : List Decision) → length (children_at parent behind number cs) ≡ length cs
length_children parent behind number [] = refl
length_children parent behind number (d ∷ cs) = omega (arith, length_children parent behind (number + 1) cs)

pub some_children : (problem : Problem) (choice : Choice) → IsChoice problem choice → 0 < length (children_of problem choice)
some_children problem (Route o) is = omega (arith, is, length-map (next_of (train_at problem o.train) o.op) (λ (s : ℕ). Go o s))
some_children problem (Order a b) is = omega arith
some_children problem (Run o) is = omega arith

-- ---- a whole fragment

-- these nodes are kept from a place on
abbrev pub KeepsFrom : List TreeNode → ℕ → List TreeNode → Type 0
KeepsFrom kept shows [] = Unit {0}
KeepsFrom kept shows (node ∷ tree) = (slice_get kept shows ≡ Some node) × KeepsFrom kept (shows + 1) tree

module _ (problem : Problem) (last own : ℕ) (kept : List TreeNode) (behind : Option ℕ) where
  -- the places of a table fill the spots, are linked, and where no spot is are as they were
  pub record Fill (grown all : List Place) (spots : List Spot) (numbers : List ℕ) : Type 0 where
    pub others : (j : ℕ) (place : Place) → IsApart last j spots → slice_get grown j ≡ Some place → slice_get all j ≡ Some place
    pub filled : AreFilled problem (λ n. slice_get all (n - last)) kept spots numbers
    pub leads : LinksLead (λ n. slice_get all (n - last)) (next_spot behind spots) numbers behind
    pub mine : NumbersOwn last own numbers
    pub count : length numbers + length grown ≡ length all + length spots

  abbrev FillsUp : List Place → List Place → List Spot → Type 0
  FillsUp grown all spots = (numbers : List ℕ) × Fill grown all spots numbers

  -- one spot is filled, and the places that were made for it wait with the others
  module _ (grown after all : List Place) (s : Spot) (spots more : List Spot) (q : Place) (same : SameBut (s.number - last) grown after)
      (here : slice_get after (s.number - last) ≡ Some q) (owns : IsOwn last own s.number)
      (further : (j : ℕ) (place : Place) → slice_get grown j ≡ Some place → IsApart last j spots → IsApart last j more)
      (apart : IsApart last (s.number - last) more) (next : q.next ≡ next_spot behind more)
      (many : length after + length spots ≡ length grown + length more) where
    one_fills : (numbers : List ℕ) → Fill after all more numbers
        → (slice_get all (s.number - last) ≡ Some q → AreFilled problem (λ n. slice_get all (n - last)) kept more numbers
        → AreFilled problem (λ n. slice_get all (n - last)) kept (s ∷ spots) (s.number ∷ numbers))
        → Fill grown all (s ∷ spots) (s.number ∷ numbers)
    one_fills numbers f shown =
        let there : slice_get all (s.number - last) ≡ Some q = f.others (s.number - last) q apart here in
        record {
          others = λ j place away at. f.others j place (further j place at away.1) (same j place away.0 at);
          filled = shown there f.filled;
          leads = (refl, subst (λ (at : Option ℕ). LinksLead (λ n. slice_get all (n - last)) at numbers behind) (sym (ap link_of there ∙ next)) f.leads);
          mine = (owns, f.mine);
          count = omega (arith, f.count, many);
        }

  pub grafted_fills : (tree : List TreeNode) (shows : ℕ) (grown : List Place) (spots : List Spot) (bounds : List ℕ) (splits : List Split)
      → 0 < length grown → AllWait last grown behind spots → AreApart last spots → SpotsOwn last own spots
      → FillPlaces problem (length spots) tree bounds → HaveChoices problem tree → KeepsFrom kept shows tree
      → FillsUp grown (grafted problem last shows tree (record { grown = grown; at = next_spot behind spots; bounds = bounds; splits = splits })).grown spots
  grafted_fills [] shows grown [] bounds splits some wait apart owned fill choices keeps = ([], record { others = λ j place away at. at; filled = tt; leads = refl; mine = tt; count = omega arith })
  grafted_fills [] shows grown (s ∷ spots) bounds splits some wait apart owned fill choices keeps = absurd fill
  grafted_fills (node ∷ tree) shows grown [] bounds splits some wait apart owned fill choices keeps = absurd fill
  grafted_fills (Leaf leaf ∷ tree) shows grown (s ∷ spots) [] splits some wait apart owned fill choices keeps = absurd fill
  grafted_fills (Leaf leaf ∷ tree) shows grown (s ∷ spots) (bound ∷ bounds) splits some wait apart owned fill choices keeps =
      let i : ℕ = s.number - last in
      let w = wait.0 in
      let q : Place = leaf_at w.place shows leaf bound in
      let after : List Place = set grown i q in
      let g : Graft = record { grown = grown; at = Some s.number; bounds = bound ∷ bounds; splits = splits } in
      let same : SameBut i grown after = λ j place other at. get_set_other grown i j q other ∙ at in
      let (numbers, f) = grafted_fills tree (shows + 1) after spots bounds splits (omega (arith, some, length-set grown i q))
      (wait_same last i grown after behind spots same apart.0 wait.1) apart.1 owned.1 fill choices keeps.1 in
      let made : fills problem last shows (Some s.number) (Leaf leaf) g ≡ record { grown = after; at = next_spot behind spots; bounds = bounds; splits = splits } =
      ap (λ (o : Option Place). fills_there problem last shows s.number o (Leaf leaf) g) w.there
      ∙ ap (λ (at : Option ℕ). record { grown = after; at = at; bounds = bounds; splits = splits }) w.next_is in
      subst (λ (x : Graft). FillsUp grown (grafted problem last (shows + 1) tree x).grown (s ∷ spots)) (sym made) (
        s.number ∷ numbers,
        one_fills grown after _ s spots spots q same (get_set_same grown i q w.place w.there) owned.0 (λ j place at away. away) apart.0 w.next_is (omega (arith, length-set grown i q)) numbers f
            (λ there rest. (q, record { number_is = refl; there = there; above_is = w.above_is }, inl (leaf, record { shown = keeps.0; kind_is = refl }, rest))),
      )
  grafted_fills (Branch choice children ∷ tree) shows grown (s ∷ spots) bounds splits some wait apart owned fill choices keeps =
      let n : ℕ = s.number in
      let i : ℕ = n - last in
      let w = wait.0 in
      let cs : List Decision = children_of problem choice in
      let first : ℕ = last + length grown in
      let q : Place = branch_at w.place first shows in
      let joined : List Place = grown ++ children_at n (next_spot behind spots) first cs in
      let after : List Place = set joined i q in
      let more : List Spot = spots_for n first cs ++ spots in
      let split : List Split = splits ++ record { node = n; choice = choice } ∷ [] in
      let g : Graft = record { grown = grown; at = Some n; bounds = bounds; splits = splits } in
      let within : i < length grown = slice_get_within grown i w.place w.there in
      let fresh : (j : ℕ) → j < length grown → IsApart last j spots → IsApart last j more = λ j lt. apart_children last n spots j first cs (omega (arith, lt)) in
      let same : SameBut i joined after = λ j place other at. get_set_other joined i j q other ∙ at in
      let waits : AllWait last after behind more = wait_same last i joined after behind more same (fresh i within apart.0) (children_wait last n spots behind cs first grown refl wait.1) in
      let long : length more ≡ children + length spots = omega (arith, length_spots last n spots first cs, fill.0) in
      let longer : length grown ≤ length after = omega (arith, length-set joined i q, length-append grown (children_at n (next_spot behind spots) first cs)) in
      let start : next_spot behind more ≡ Some first = spot_there last n spots behind first cs (some_children problem choice choices.0) in
      let (numbers, f) = grafted_fills tree (shows + 1) after more bounds split (omega (arith, some, longer)) waits
      (children_apart last n spots grown behind first cs some wait.1 (omega arith) apart.1)
      (children_own last n spots own first cs (omega (arith, some)) owned.1)
      (subst (λ (k : ℕ). FillPlaces problem k tree bounds) (sym long) fill.1) choices.1 keeps.1 in
      let made : fills problem last shows (Some n) (Branch choice children) g ≡ record { grown = after; at = next_spot behind more; bounds = bounds; splits = split } =
      ap (λ (o : Option Place). fills_there problem last shows n o (Branch choice children) g) w.there
      ∙ ap (λ (b : Option ℕ). record { grown = set (grown ++ children_at n b first cs) i q; at = Some first; bounds = bounds; splits = split }) w.next_is
      ∙ ap (λ (at : Option ℕ). record { grown = after; at = at; bounds = bounds; splits = split }) (sym start) in
      subst (λ (x : Graft). FillsUp grown (grafted problem last (shows + 1) tree x).grown (s ∷ spots)) (sym made) (
        n ∷ numbers,
        one_fills grown after _ s spots more q (λ j place other at. same j place other (get_more grown (children_at n (next_spot behind spots) first cs) j place at))
            (get_set_same joined i q w.place (get_more grown (children_at n (next_spot behind spots) first cs) i w.place w.there)) owned.0
            (λ j place at. fresh j (slice_get_within grown j place at)) (fresh i within apart.0) (sym start)
            (omega (arith, length-set joined i q, length-append grown (children_at n (next_spot behind spots) first cs), length_children n (next_spot behind spots) first cs, length_spots last n spots first cs)) numbers f
            (λ there rest. (
              q,
              record { number_is = refl; there = there; above_is = w.above_is },
              inr (
                choice,
                first,
                record {
                  children = children;
                  shown = keeps.0;
                  kind_is = refl;
                  is_choice = choices.0;
                  children_are = fill.0;
                  next_is = refl;
                },
                rest,
              ),
            )),
      )
