-- Walks to the operations that a train must run, one operation after another.
use Rattle.std.proofs.Common.{◌≡◌, ℕ, ◌+◌, ◌<◌, ◌≤◌, List, [], ◌∷◌, ◌++◌, length, Bool, true, false, cond, refl, sym, ap, subst, inl, inr, arith}
use Rattle.std.specs.Prelude.{nat_eq, max, All}
use Rattle.std.proofs.lemmas.Bool.{cases_lt, eq-eqb, ne_eqb}
use Rattle.std.proofs.lemmas.Option.{slice_get_within}
use Rattle.std.proofs.lemmas.List.{length-append}
use Rattle.std.proofs.lemmas.List.Elements.{All-push}
use Rattle.disp_model.specs.declared.train.Op.{Op}
use Rattle.disp_model.specs.declared.limits.TheConstants.{MOST_COMPONENTS}
use Rattle.disp_model.specs.Valid.{train_at}
use Rattle.disp_model.specs.Node.{Node}
use Rattle.disp_model.specs.Routes.{IsForced}
use Rattle.disp_model.specs.Walks.{lower_of, IsWalk, EndsIn, HasNoRepeat, IsLongest}
use Rattle.disp_model.specs.Shares.{Arrival, AreWalksOn, greatest_to, shown_base, IsBase, IsShare}
use Rattle.disp_model.specs.Trees.{FitsOp}
use Rattle.disp_laws.proofs.Picked.{one_longest}
use Rattle.cost_bound.specs.Bounds.{IsLongWalk}
use Rattle.cost_bound.proofs.Walking.{walk_there}
use Rattle.cost_bound.proofs.Bounding.{ops_fit}
use Rattle.share_bound.specs.Shown.{ShowsTo, IsShownShare}
use Rattle.share_bound.proofs.Costing.{share_carried}

-- ---- one walk more

pub walks_end : (node : Node) (t : ℕ) (walks : List (List Op)) (arrivals : List Arrival)
    (walk : List Op) (arrival : Arrival) → AreWalksOn node t walks arrivals
    → EndsIn walk (record { train = t; op = arrival.operation }) → IsWalk node walk arrival.total
    → AreWalksOn node t (walks ++ walk ∷ []) (arrivals ++ arrival ∷ [])
walks_end node t [] [] walk arrival are ends is = (ends, is, tt)
walks_end node t [] (a ∷ arrivals) walk arrival are ends is = absurd are
walks_end node t (w ∷ walks) [] walk arrival are ends is = absurd are
walks_end node t (w ∷ walks) (a ∷ arrivals) walk arrival are ends is = (
  are.0,
  are.1,
  walks_end node t walks arrivals walk arrival are.2 ends is,
)

choose : (P : ℕ → Type 0) (b : Bool) (x y : ℕ) → (b ≡ true → P x) → (b ≡ false → P y)
    → P (cond b x y)
choose P true x y here there = here refl
choose P false x y here there = there refl

pub greatest_same : (o : ℕ) (arrivals : List Arrival) (arrival : Arrival) → arrival.operation ≡ o
    → greatest_to o (arrivals ++ arrival ∷ []) ≡ max (greatest_to o arrivals) arrival.total
greatest_same o [] arrival same = rw (eq-eqb arrival.operation o same) (omega arith)
greatest_same o (a ∷ arrivals) arrival same = by (nat_eq a.operation o)
    (greatest_same o arrivals arrival same)
  where
    by : (b : Bool)
        → greatest_to o (arrivals ++ arrival ∷ []) ≡ max (greatest_to o arrivals) arrival.total
        → cond b (max a.total (greatest_to o (arrivals ++ arrival ∷ [])))
        (greatest_to o (arrivals ++ arrival ∷ [])) ≡ max
        (cond b (max a.total (greatest_to o arrivals)) (greatest_to o arrivals)) arrival.total
    by true later = omega (arith, later)
    by false later = later

pub greatest_other : (o : ℕ) (arrivals : List Arrival) (arrival : Arrival) → (arrival.operation ≡ o → ⊥)
    → greatest_to o (arrivals ++ arrival ∷ []) ≡ greatest_to o arrivals
greatest_other o [] arrival other = rw (ne_eqb arrival.operation o other) refl
greatest_other o (a ∷ arrivals) arrival other = ap
    (λ (n : ℕ). cond (nat_eq a.operation o) (max a.total n) n)
    (greatest_other o arrivals arrival other)

-- the lower of a forced operation is no more than its longest
pub lower_short : (node : Node) (o : Op) (total : ℕ) → IsForced node o → IsLongest node o total
    → lower_of node.problem node.fixings o ≤ total
lower_short node o total forced longest = longest.none_longer (o ∷ [])
    (lower_of node.problem node.fixings o) ([], refl) once (forced, refl)
  where
    once : HasNoRepeat (o ∷ [])
    once i j p less one other = omega (arith, less, slice_get_within (o ∷ []) j p other)

pub shows_none : (node : Node) (t : ℕ) → ShowsTo node t 0 []
shows_none node t = record {
  arrivals = [];
  are = tt;
  base = λ o b less is. absurd (omega (arith, less));
  past = λ o le. refl;
  long = omega arith;
  fits = λ k d less. absurd (omega (arith, less));
}

-- an operation that is not forced
pub shows_same : (node : Node) (o : Op) (walks : List (List Op)) → (IsForced node o → ⊥)
    → ShowsTo node o.train o.op walks → ShowsTo node o.train (o.op + 1) walks
shows_same node o walks not before = record {
  arrivals = before.arrivals;
  are = before.are;
  base = λ p b less is. elim (cases_lt p o.op) [
    | inl early ↦ before.base p b early is
    | inr late ↦
        let same : o.op ≡ p = omega (arith, late, less) in
        let is_own : IsBase node o b = subst
        (λ (x : ℕ). IsBase node (record { train = o.train; op = x }) b) (sym same) is in
        let own = lower_is b is_own in
        subst (λ (x : ℕ). max
        (lower_of node.problem node.fixings (record { train = o.train; op = x }))
        (greatest_to x before.arrivals) ≡ b) same
        (omega (arith, own, before.past o.op (omega arith)))
  ];
  past = λ p le. before.past p (omega (arith, le));
  long = omega (arith, before.long);
  fits = before.fits;
}
  where
    lower_is : (b : ℕ) → IsBase node o b → lower_of node.problem node.fixings o ≡ b
    lower_is b (inl (forced, longest)) = absurd (not forced)
    lower_is b (inr (free, is)) = sym is

-- a forced one, with a walk to it
pub shows_more : (node : Node) (o : Op) (walks new : List (List Op)) (walk : List Op)
    → IsForced node o → IsLongWalk node o walk → new ≡ walks ++ walk ∷ []
    → ShowsTo node o.train o.op walks → ShowsTo node o.train (o.op + 1) new
shows_more node o walks new walk forced long pushed before = rw pushed (record {
  arrivals = before.arrivals ++ arrival ∷ [];
  are = walks_end node o.train walks before.arrivals walk arrival before.are long.ends long.is_walk;
  base = λ p b less is. elim (cases_lt p o.op) [
    | inl early ↦ omega (
      arith,
      greatest_other p before.arrivals arrival (λ e. omega (arith, e, early)),
      before.base p b early is,
    )
    | inr late ↦
        let same : o.op ≡ p = omega (arith, late, less) in
        let is_own : IsBase node o b = subst
        (λ (x : ℕ). IsBase node (record { train = o.train; op = x }) b) (sym same) is in
        subst (λ (x : ℕ). max
        (lower_of node.problem node.fixings (record { train = o.train; op = x }))
        (greatest_to x (before.arrivals ++ arrival ∷ [])) ≡ b) same
        (omega (
          arith,
          longest_is b is_own,
          greatest_same o.op before.arrivals arrival refl,
          before.past o.op (omega arith),
          lower_short node o long.total forced long.longest,
        ))
  ];
  past = λ p le. omega (
    arith,
    greatest_other p before.arrivals arrival (λ e. omega (arith, e, le)),
    before.past p (omega (arith, le)),
  );
  long = omega (arith, before.long, length-append walks (walk ∷ []));
  fits = All-push (All FitsOp) walks walk before.fits
      (ops_fit node.problem walk (walk_there node walk long.total long.is_walk));
})
  where
    arrival : Arrival
    arrival = record { operation = o.op; total = long.total }

    longest_is : (b : ℕ) → IsBase node o b → long.total ≡ b
    longest_is b (inl (again, longest)) = one_longest node o long.total b long.longest longest
    longest_is b (inr (free, is)) = absurd (free forced)

-- ---- the share that they show

pub shown_is : (node : Node) (t share : ℕ) (count : ℕ) (walks : List (List Op))
    → t < length node.problem.trains → count ≡ length (train_at node.problem t)
    → count ≤ MOST_COMPONENTS → IsShare node t share → ShowsTo node t count walks
    → IsShownShare node t (record { share = share; listed = record { train = t; walks = walks } })
shown_is node t share count walks there is few own shows = record {
  train = refl;
  share = own;
  shows = record {
    arrivals = shows.arrivals;
    walks = shows.are;
    over = share_carried node t own.base (shown_base node t shows.arrivals) share same own.over;
  };
  fits = (
    omega (arith, there, node.problem.well_formed.trains_fit),
    omega (arith, shows.long, few),
    shows.fits,
  );
}
  where
    same : (o : ℕ) → o < length (train_at node.problem t)
        → own.base o ≡ shown_base node t shows.arrivals o
    same o less = sym (shows.base o (own.base o) (omega (arith, less, is)) (own.base_is o))
