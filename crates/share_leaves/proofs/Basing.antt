-- Bases that walks show, one operation after another.
use Rattle.std.proofs.Common.{◌≡◌, ◌∙◌, ℕ, ◌+◌, ◌<◌, ◌≤◌, List, [], ◌∷◌, ◌++◌, length, Some}
use Rattle.std.proofs.Common.{refl, sym, ap, subst, inl, inr, arith}
use Rattle.std.specs.Prelude.{slice_get, slice_index, All}
use Rattle.std.proofs.lemmas.Bool.{cases_lt}
use Rattle.std.proofs.lemmas.Option.{get_or_from_slice_get, slice_get-get_or}
use Rattle.std.proofs.lemmas.List.{get_or_past, length-append}
use Rattle.std.proofs.lemmas.List.Elements.{All-push}
use Rattle.disp_model.specs.declared.train.Op.{Op}
use Rattle.disp_model.specs.Node.{Node}
use Rattle.disp_model.specs.Walks.{lower_of, IsLongest}
use Rattle.disp_model.specs.Shares.{Arrival, AreWalksOn, IsBase, shown_base}
use Rattle.disp_model.specs.Trees.{FitsOp}
use Rattle.disp_laws.proofs.Picked.{one_longest}
use Rattle.train_orders.proofs.Places.{get_kept, get_last}
use Rattle.cost_bound.specs.Bounds.{IsLongWalk}
use Rattle.cost_bound.proofs.Walking.{walk_there}
use Rattle.cost_bound.proofs.Bounding.{ops_fit}
use Rattle.share_bound.proofs.Showing.{walks_end, greatest_same, greatest_other}
use Rattle.share_leaves.specs.Listed.{AreLengthsKept, KeepsTo, AreLowBases, ShowsBases}

module _ (bases : List ℕ) (base count : ℕ) (long : length bases ≡ count) where
  pub kept_at : (o : ℕ) → o < count → slice_index (bases ++ base ∷ []) o ≡ slice_index bases o
  kept_at o less = get_or_from_slice_get (bases ++ base ∷ []) o (slice_index bases o) 0
      (get_kept bases (base ∷ []) (slice_index bases o) o
      (slice_get-get_or bases o 0 (omega (arith, less, long))))

  pub last_at : slice_index (bases ++ base ∷ []) count ≡ base
  last_at = get_or_from_slice_get (bases ++ base ∷ []) count base 0
      (subst (λ (k : ℕ). slice_get (bases ++ base ∷ []) k ≡ Some base) long (get_last bases base))

  -- what holds of each base holds of each with one more
  each_more : (P : ℕ → ℕ → Type 0) → ((o : ℕ) → o < count → P o (slice_index bases o))
      → P count base → (o : ℕ) → o < count + 1 → P o (slice_index (bases ++ base ∷ []) o)
  each_more P before own o less = elim (cases_lt o count) [
    | inl early ↦ subst (P o) (sym (kept_at o early)) (before o early)
    | inr late ↦
        let same : count ≡ o = omega (arith, late, less) in
        subst (λ (x : ℕ). P x (slice_index (bases ++ base ∷ []) x)) same
        (subst (P count) (sym last_at) own)
  ]

-- no length yet
pub kept_none : (lengths kept : List ℕ) → kept ≡ [] → KeepsTo lengths 0 kept
kept_none lengths kept none = record {
  long = ap (λ (l : List ℕ). length l) none;
  within = λ o less. absurd (omega (arith, less));
}

pub kept_more : (lengths kept new : List ℕ) (count base : ℕ) → new ≡ kept ++ base ∷ []
    → base ≤ slice_index lengths count → KeepsTo lengths count kept
    → KeepsTo lengths (count + 1) new
kept_more lengths kept new count base pushed low before = record {
  long = let all = ap (λ (l : List ℕ). length l) pushed in
      omega (arith, all, length-append kept (base ∷ []), before.long);
  within = λ o less. subst (λ (l : List ℕ). slice_index l o ≤ slice_index lengths o) (sym pushed)
      (each_more kept base count before.long (λ p b. b ≤ slice_index lengths p) before.within low o
      less);
}

pub kept_all : (lengths kept : List ℕ) (count : ℕ) → length lengths ≡ count
    → KeepsTo lengths count kept → AreLengthsKept lengths kept
kept_all lengths kept count long to = record {
  long = to.long ∙ sym long;
  within = λ o. elim (cases_lt o count) [
    | inl less ↦ to.within o less
    | inr le ↦ let none : slice_index kept o ≡ 0 = get_or_past kept o 0
        (omega (arith, le, to.long)) in omega (arith, none)
  ];
}

-- no walk yet
pub shows_none : (node : Node) (t : ℕ) (bases : List ℕ) (walks : List (List Op)) → walks ≡ []
    → ShowsBases node t 0 bases walks
shows_none node t bases walks none = record {
  arrivals = [];
  are = subst (λ (l : List (List Op)). AreWalksOn node t l []) (sym none) tt;
  shows = λ o less. absurd (omega (arith, less));
  few = let all = ap (λ (l : List (List Op)). length l) none in omega (arith, all);
  fits = subst (All (All FitsOp)) (sym none) (λ k d less. absurd (omega (arith, less)));
}

module _ (node : Node) (o : Op) (bases : List ℕ) (walks : List (List Op))
    (before : ShowsBases node o.train o.op bases walks) where
  -- what holds of the first operations and of one more
  one_more : (P : ℕ → Type 0) → ((p : ℕ) → p < o.op → P p) → P o.op → (p : ℕ) → p < o.op + 1 → P p
  one_more P early own p less = elim (cases_lt p o.op) [
    | inl first ↦ early p first
    | inr late ↦ let same : o.op ≡ p = omega (arith, late, less) in subst P same own
  ]

  -- without a walk, a base that is no more than the lower
  pub shows_lower : slice_index bases o.op ≤ lower_of node.problem node.fixings o
      → ShowsBases node o.train (o.op + 1) bases walks
  shows_lower low = record {
    arrivals = before.arrivals;
    are = before.are;
    shows = one_more (λ p. slice_index bases p ≤ shown_base node o.train before.arrivals p)
        before.shows (omega (arith, low));
    few = omega (arith, before.few);
    fits = before.fits;
  }

  -- with a walk that is as long as the base or longer
  pub shows_walk : (walk : List Op) (new : List (List Op)) (longest : ℕ) → new ≡ walks ++ walk ∷ []
      → IsLongWalk node o walk → IsLongest node o longest → slice_index bases o.op ≤ longest
      → ShowsBases node o.train (o.op + 1) bases new
  shows_walk walk new longest pushed long is low = record {
    arrivals = before.arrivals ++ arrival ∷ [];
    are = rw pushed (walks_end node o.train walks before.arrivals walk arrival before.are long.ends
        long.is_walk);
    shows = one_more
        (λ p. slice_index bases p ≤ shown_base node o.train (before.arrivals ++ arrival ∷ []) p)
        early own;
    few = let all = ap (λ (l : List (List Op)). length l) pushed in
        omega (arith, before.few, all, length-append walks (walk ∷ []));
    fits = rw pushed (All-push (All FitsOp) walks walk before.fits
        (ops_fit node.problem walk (walk_there node walk long.total long.is_walk)));
  }
    where
      arrival : Arrival
      arrival = record { operation = o.op; total = long.total }

      early : (p : ℕ) → p < o.op → slice_index bases p
          ≤ shown_base node o.train (before.arrivals ++ arrival ∷ []) p
      early p less = omega (
        arith,
        before.shows p less,
        greatest_other p before.arrivals arrival (λ e. omega (arith, e, less)),
      )

      own : slice_index bases o.op
          ≤ shown_base node o.train (before.arrivals ++ arrival ∷ []) o.op
      own = omega (
        arith,
        low,
        greatest_same o.op before.arrivals arrival refl,
        one_longest node o longest long.total is long.longest,
      )

-- a base in the list is shown, and so is 0 past it
pub shows_each : (node : Node) (t count : ℕ) (bases : List ℕ) (walks : List (List Op))
    (own : ShowsBases node t count bases walks) → length bases ≡ count → (o : ℕ)
    → slice_index bases o ≤ shown_base node t own.arrivals o
shows_each node t count bases walks own long o = elim (cases_lt o count) [
  | inl less ↦ own.shows o less
  | inr le ↦ let none : slice_index bases o ≡ 0 = get_or_past bases o 0
      (omega (arith, le, long)) in omega (arith, none)
]

-- the base of each operation, and what is kept of it
pub low_base : (node : Node) (t o : ℕ) (bases : List ℕ) → AreLowBases node t bases
    → o < length bases → (found : ℕ) × IsBase node (record { train = t; op = o }) found
    × (slice_index bases o ≤ found)
low_base node t o bases low less = (
  slice_index low.lengths o,
  low.are.are o (omega (arith, less, low.kept.long, low.are.long)),
  low.kept.within o,
)
