-- The grown tree covers: a valid plan follows the decisions above some leaf of it.
use Rattle.std.proofs.Common.{
  ◌≡◌,
  ◌∙◌,
  ◌⊎◌,
  ℕ,
  zero,
  suc,
  ◌+◌,
  ◌<◌,
  ◌≤◌,
  ◌==◌,
  Bool,
  true,
  false,
  List,
  [],
  ◌∷◌,
  ◌++◌,
  length,
  get_or,
  refl,
  sym,
  ap,
  subst,
  inl,
  inr,
  eq-eqb,
  ne_eqb,
  arith,
}
use Rattle.std.specs.Prelude.{Some, if◌then◌else◌}
use Rattle.std.proofs.lemmas.Bool.{eqb-true}
use Rattle.std.proofs.lemmas.List.Elements.{All-nil}
use Rattle.std.proofs.lemmas.Option.{none-some}
use Rattle.disp_model.specs.declared.decision.Decision.{Decision}
use Rattle.disp_model.specs.declared.entry.Entry.{Entry}
use Rattle.disp_model.specs.declared.entry.Entry.TheVariants.{
  Asked,
  Unread,
  Shown,
  Grown,
  Published,
  Settled,
  Stopped,
}
use Rattle.disp_model.specs.declared.entry.Split.{Split}
use Rattle.disp_model.specs.declared.fixing.Fixing.{Fixing}
use Rattle.disp_model.specs.declared.plan.Event.{Event}
use Rattle.disp_model.specs.declared.problem.Problem.{Problem}
use Rattle.disp_model.specs.declared.settings.Settings.{Settings}
use Rattle.disp_model.specs.Follows.{Follows, FollowsDecision}
use Rattle.disp_model.specs.History.{fixings_after}
use Rattle.disp_model.specs.Legal.{IsLegal, IsLegalEntry, AreUseful, numbers_from}
use Rattle.disp_model.specs.Node.{node_at}
use Rattle.disp_model.specs.Replay.{
  Place,
  branch,
  leaf,
  Growth,
  one_leaf,
  leaves_for,
  split_places,
  after_split,
  after_splits,
  after_entry,
  grown_by,
  above_leaf,
}
use Rattle.disp_model.specs.Trees.{IsChoice, children_of}
use Rattle.disp_model.specs.Valid.{IsValid}
use Rattle.disp_laws.proofs.Branching.{covers}
use Rattle.disp_laws.proofs.OpenChoices.{picked_is_choice}
use Rattle.history_laws.proofs.Appended.{grown_more}
use Rattle.history_laws.proofs.Legality.{by_entries}

-- ---- the numbers of leaves

-- each leaf has a number below this
abbrev AreBelow : ℕ → List Place → Type 0
AreBelow unused [] = Unit {0}
AreBelow unused (branch choice ∷ places) = AreBelow unused places
AreBelow unused (leaf number above ∷ places) = (number < unused) × AreBelow unused places

below_append : (unused : ℕ) (xs ys : List Place) → AreBelow unused xs → AreBelow unused ys
    → AreBelow unused (xs ++ ys)
below_append unused [] ys one other = other
below_append unused (branch choice ∷ xs) ys one other = below_append unused xs ys one other
below_append unused (leaf number above ∷ xs) ys one other =
    (one.0, below_append unused xs ys one.1 other)

below_more : (low high : ℕ) (places : List Place) → low ≤ high → AreBelow low places
    → AreBelow high places
below_more low high [] le below = tt
below_more low high (branch choice ∷ places) le below = below_more low high places le below
below_more low high (leaf number above ∷ places) le below =
    (omega (arith, le, below.0), below_more low high places le below.1)

leaves_below : (high number : ℕ) (above cs : List Decision) → number + length cs ≤ high
    → AreBelow high (leaves_for number above cs)
leaves_below high number above [] fits = tt
leaves_below high number above (c ∷ cs) fits =
    (omega (arith, fits), leaves_below high (number + 1) above cs (omega (arith, fits)))

module _ (problem : Problem) (split : Split) (unused : ℕ) where
  split_below : (places : List Place) → AreBelow unused places
      → AreBelow (unused + length (children_of problem split.choice))
      (split_places problem split unused places)
  split_below [] below = tt
  split_below (branch choice ∷ places) below = split_below places below
  split_below (leaf number above ∷ places) below =
      by (number == split.node) (split_below places below.1)
    where
      by : (b : Bool)
          → AreBelow (unused + length (children_of problem split.choice))
          (split_places problem split unused places)
          → AreBelow (unused + length (children_of problem split.choice))
          (if b
          then branch split.choice ∷ leaves_for unused above (children_of problem split.choice) ++ places
          else leaf number above ∷ split_places problem split unused places)
      by true rest =
          let n : ℕ = unused + length (children_of problem split.choice) in
          below_append n (leaves_for unused above (children_of problem split.choice)) places
          (leaves_below n unused above (children_of problem split.choice) (omega arith))
          (below_more unused n places (omega arith) below.1)
      by false rest = (let lt : number < unused = below.0 in omega (arith, lt), rest)

-- a leaf that is found has such a number
found_below : (unused n : ℕ) (places : List Place) (above : List Decision) → AreBelow unused places
    → above_leaf n places ≡ Some above → n < unused
found_below unused n [] above below found = absurd (none-some above found)
found_below unused n (branch choice ∷ places) above below found =
    found_below unused n places above below found
found_below unused n (leaf number up ∷ places) above below found =
    by (number == n) refl (λ there. found_below unused n places above below.1 there) found
  where
    by : (b : Bool) → (number == n) ≡ b → (above_leaf n places ≡ Some above → n < unused)
        → (if b then Some up else above_leaf n places) ≡ Some above → n < unused
    by true is rest found = omega (arith, eqb-true number n is, below.0)
    by false is rest found = rest found

-- ---- the leaves of children

-- a number in front of those of the children is found behind them
skipped : (n number : ℕ) (above cs : List Decision) (places : List Place) → n < number
    → above_leaf n (leaves_for number above cs ++ places) ≡ above_leaf n places
skipped n number above [] places lt = refl
skipped n number above (c ∷ cs) places lt =
    rw (ne_eqb number n (λ e. omega (arith, e, lt)))
    (skipped n (number + 1) above cs places (omega (arith, lt)))

-- the leaf of a child
record ChildLeaf (number : ℕ) (above cs : List Decision) (child : Decision) (places : List Place)
    : Type 0 where
  n : ℕ
  from : number ≤ n
  there : above_leaf n (leaves_for number above cs ++ places) ≡ Some (above ++ child ∷ [])

child_leaf : (number : ℕ) (above cs : List Decision) (child : Decision) (places : List Place) (i : ℕ)
    → i < length cs → get_or cs i child ≡ child → ChildLeaf number above cs child places
child_leaf number above [] child places i within is = absurd (omega (arith, within))
child_leaf number above (c ∷ cs) child places zero within is = record {
  n = number;
  from = omega arith;
  there = rw (eq-eqb number number refl)
      (ap (λ (d : Decision). Some (above ++ d ∷ [])) is);
}
child_leaf number above (c ∷ cs) child places (suc i) within is =
    let rest = child_leaf (number + 1) above cs child places i (omega (arith, within)) is in
    record {
      n = rest.n;
      from = let from = rest.from in omega (arith, from);
      there = let from = rest.from in
          rw (ne_eqb number rest.n (λ e. omega (arith, e, from))) rest.there;
    }

-- ---- one split

-- the plan follows the decisions above a leaf, which has this number or a new one
record Found (n unused : ℕ) (plan : List Event) (places : List Place) : Type 0 where
  number : ℕ
  above : List Decision
  there : above_leaf number places ≡ Some above
  follows : Follows plan above
  is_new : (number ≡ n) ⊎ (unused ≤ number)

module _ (problem : Problem) (fixings : List Fixing) (plan : List Event)
    (valid : IsValid problem fixings plan) (split : Split)
    (allowed : IsChoice problem split.choice) (unused n : ℕ) where
  -- the leaf that is followed is split
  here_split : (above : List Decision) (places : List Place) → Follows plan above
      → Found n unused plan
      (branch split.choice ∷ leaves_for unused above (children_of problem split.choice) ++ places)
  here_split above places follows =
      let child = covers (node_at problem fixings above) plan split.choice valid follows allowed in
      let at = child_leaf unused above (children_of problem split.choice) child.0 places
      child.1.0 child.1.1 child.1.2 in
      record {
        number = at.n;
        above = above ++ child.0 ∷ [];
        there = at.there;
        follows = child.2;
        is_new = inr at.from;
      }

  -- another leaf is split
  other_split : (above up : List Decision) (places : List Place) → n < unused
      → above_leaf n places ≡ Some above → Follows plan above
      → Found n unused plan
      (branch split.choice ∷ leaves_for unused up (children_of problem split.choice) ++ places)
  other_split above up places lt there follows = record {
    number = n;
    above = above;
    there = skipped n unused up (children_of problem split.choice) places lt ∙ there;
    follows = follows;
    is_new = inl refl;
  }

  -- a leaf in front stays
  behind_leaf : (number : ℕ) (up : List Decision) (places : List Place) → number < unused
      → (number ≡ n → ⊥) → Found n unused plan places
      → Found n unused plan (leaf number up ∷ places)
  behind_leaf number up places lt apart found = record {
    number = found.number;
    above = found.above;
    there = rw (ne_eqb number found.number (differs found.is_new)) found.there;
    follows = found.follows;
    is_new = found.is_new;
  }
    where
      differs : (found.number ≡ n) ⊎ (unused ≤ found.number) → number ≡ found.number → ⊥
      differs (inl same) e = apart (e ∙ same)
      differs (inr new) e = omega (arith, e, new, lt)

  found_after : (above : List Decision) (places : List Place) → AreBelow unused places
      → above_leaf n places ≡ Some above → Follows plan above
      → Found n unused plan (split_places problem split unused places)
  found_after above [] below there follows = absurd (none-some above there)
  found_after above (branch choice ∷ places) below there follows =
      let rest = found_after above places below there follows in record {
        number = rest.number;
        above = rest.above;
        there = rest.there;
        follows = rest.follows;
        is_new = rest.is_new;
      }
  found_after above (leaf number up ∷ places) below there follows =
      by (number == split.node) (number == n) refl there
      (λ there. found_after above places below.1 there follows)
    where
      by : (b d : Bool) → (number == n) ≡ d
          → (if d then Some up else above_leaf n places) ≡ Some above
          → (above_leaf n places ≡ Some above
          → Found n unused plan (split_places problem split unused places))
          → Found n unused plan
          (if b
          then branch split.choice ∷ leaves_for unused up (children_of problem split.choice) ++ places
          else leaf number up ∷ split_places problem split unused places)
      by true true is same rest = here_split up places (subst (Follows plan) (sym (some_is same)) follows)
        where
          some_is : Some up ≡ Some above → up ≡ above
          some_is e = cc
      by true false is there rest =
          other_split above up places (found_below unused n places above below.1 there) there follows
      by false true is same rest = record {
        number = n;
        above = above;
        there = rw (is) same;
        follows = follows;
        is_new = inl refl;
      }
      by false false is there rest =
          behind_leaf number up (split_places problem split unused places) below.0
          (λ e. true-false (sym (eq-eqb number n e) ∙ is)) (rest there)
        where
          true-false : true ≡ false → ⊥
          true-false e = cc

-- ---- the tree of a history

-- each leaf has a used number, and a valid plan follows the decisions above one
record Covers (problem : Problem) (growth : Growth) : Type 0 where
  below : AreBelow growth.unused growth.places
  followed : (fixings : List Fixing) (plan : List Event) → IsValid problem fixings plan
      → (n : ℕ) × (above : List Decision) × (above_leaf n growth.places ≡ Some above)
      × Follows plan above

module _ (problem : Problem) (settings : Settings) where
  covers_first : Covers problem one_leaf
  covers_first = record {
    below = (omega arith, tt);
    followed = λ fixings plan valid. (0, [], refl, All-nil (FollowsDecision plan));
  }

  covers_split : (growth : Growth) (split : Split) → IsChoice problem split.choice
      → Covers problem growth → Covers problem (after_split problem growth split)
  covers_split growth split allowed before = record {
    below = split_below problem split growth.unused growth.places before.below;
    followed = λ fixings plan valid.
        let at = before.followed fixings plan valid in
        let found = found_after problem fixings plan valid split allowed growth.unused at.0 at.1
        growth.places before.below at.2 at.3 in
        (found.number, found.above, found.there, found.follows);
  }

  covers_splits : (history : List Entry) (edition seen : ℕ) (growth : Growth) (among : List ℕ)
      (splits : List Split) → AreUseful problem settings history edition seen growth among splits
      → Covers problem growth → Covers problem (after_splits problem growth splits)
  covers_splits history edition seen growth among [] useful before = before
  covers_splits history edition seen growth among (split ∷ splits) useful before =
      let helps = useful.1 in
      let node = node_at problem (fixings_after edition history) helps.0 in
      covers_splits history edition seen (after_split problem growth split)
      (among ++ numbers_from growth.unused (children_of problem split.choice)) splits useful.2
      (covers_split growth split
      (picked_is_choice node settings.rule split.choice helps.2.picked) before)

  covers_entry : (h : List Entry) (e : Entry) → IsLegalEntry problem settings h e
      → Covers problem (grown_by problem h) → Covers problem (after_entry problem (grown_by problem h) e)
  covers_entry h (Asked feed line change reply) legal before = before
  covers_entry h (Unread feed line why) legal before = before
  covers_entry h (Shown feed line standing) legal before = before
  covers_entry h (Grown searcher edition seen node splits) legal before =
      covers_splits h edition seen (grown_by problem h) (node ∷ []) splits legal.useful before
  covers_entry h (Published edition plan cost) legal before = before
  covers_entry h (Settled edition verdict tree) legal before = before
  covers_entry h (Stopped edition spent bound) legal before = before

  history_covers : (history : List Entry) → IsLegal problem settings history
      → Covers problem (grown_by problem history)
  history_covers = by_entries problem settings (λ h. Covers problem (grown_by problem h)) covers_first
      (λ h e legal entry before.
      subst (Covers problem) (sym (grown_more problem h e)) (covers_entry h e entry before))

pub tree_covers : (problem : Problem) (settings : Settings) (history : List Entry)
    (fixings : List Fixing) (plan : List Event) → IsLegal problem settings history
    → IsValid problem fixings plan
    → (node : ℕ) × (above : List Decision)
    × (above_leaf node (grown_by problem history).places ≡ Some above) × Follows plan above
tree_covers problem settings history fixings plan legal valid =
    (history_covers problem settings history legal).followed fixings plan valid
