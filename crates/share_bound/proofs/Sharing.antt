-- The share of a train is what is found over the bases of its operations.
use Rattle.std.proofs.Common.{◌≡◌, ℕ, suc, ◌+◌, ◌^◌, ◌<◌, ◌≤◌, List, length, cond, refl, sym, subst, inl, inr, arith}
use Rattle.std.specs.Prelude.{nat_le, slice_index, sum_by}
use Rattle.std.proofs.lemmas.Bool.{cases_lt, le-leb, lt-leb}
use Rattle.std.proofs.lemmas.List.{get_or_past}
use Rattle.disp_model.specs.WellFormed.{horizon}
use Rattle.disp_model.specs.Valid.{train_at}
use Rattle.disp_model.specs.Node.{Node}
use Rattle.disp_model.specs.Walks.{lower_of}
use Rattle.disp_model.specs.Shares.{IsBase, IsShare, SharesAddUp}
use Rattle.disp_laws.proofs.LongestWalks.{forced_within}
use Rattle.route_sets.specs.Sets.{AreAllowedRows}
use Rattle.share_bound.specs.Times.{base_in}
use Rattle.share_bound.specs.Prices.{most_own}
use Rattle.share_bound.specs.Leasts.{IsFittedShare}
use Rattle.share_bound.specs.Bases.{AreBasesTo, IsShareWithin, AddUpTo}
use Rattle.share_bound.proofs.Costing.{share_carried}
use Rattle.share_bound.proofs.Fitting.{share_within, below_more, below_fits}

-- bases of operations that are not there are their lowers
whole_base : Node → ℕ → List ℕ → ℕ → ℕ
whole_base node t bases o = cond (nat_le (suc o) (length (train_at node.problem t)))
    (slice_index bases o) (lower_of node.problem node.fixings (record { train = t; op = o }))

base_there : (node : Node) (t : ℕ) (bases : List ℕ) (o : ℕ) → o < length (train_at node.problem t)
    → slice_index bases o ≡ whole_base node t bases o
unfolding whole_base
base_there node t bases o lt = rw
    (le-leb (suc o) (length (train_at node.problem t)) (omega (arith, lt))) refl

base_nowhere : (node : Node) (t : ℕ) (bases : List ℕ) (o : ℕ) → length (train_at node.problem t) ≤ o
    → whole_base node t bases o ≡ lower_of node.problem node.fixings (record { train = t; op = o })
unfolding whole_base
base_nowhere node t bases o le = rw
    (lt-leb (suc o) (length (train_at node.problem t)) (omega (arith, le))) refl

bases_are : (node : Node) (t : ℕ) (bases : List ℕ)
    → AreBasesTo node t (length (train_at node.problem t)) bases → (o : ℕ)
    → IsBase node (record { train = t; op = o }) (whole_base node t bases o)
bases_are node t bases are o = elim (cases_lt o (length (train_at node.problem t))) [
  | inl lt ↦ subst (IsBase node (record { train = t; op = o })) (base_there node t bases o lt)
      (are.are o lt)
  | inr le ↦ inr (
    (λ forced. omega (arith, forced_within node (record { train = t; op = o }) forced, le)),
    base_nowhere node t bases o le,
  )
]

-- no base is beyond the horizon, those past the list neither
pub each_base : (node : Node) (t count : ℕ) (bases : List ℕ) → AreBasesTo node t count bases
    → (o : ℕ) → slice_index bases o ≤ horizon node.problem.trains
each_base node t count bases are o = elim (cases_lt o count) [
  | inl lt ↦ are.within o lt
  | inr le ↦ let none : slice_index bases o ≡ 0 = get_or_past bases o 0
      (omega (arith, le, are.long)) in omega (arith, none)
]

-- as it is read
pub share_of_bases : (node : Node) (t count : ℕ) (bases read : List ℕ) (found : ℕ)
    → AreBasesTo node t count bases → count ≡ length (train_at node.problem t) → read ≡ bases
    → IsFittedShare node t (base_in read) found → IsShareWithin node t found
share_of_bases node t count bases read found are long same fitted_is = record {
  share = subst (IsShare node t) (sym found_is)
      (record {
        base = whole_base node t bases;
        base_is = bases_are node t bases own;
        over = share_carried node t (base_in bases) (whole_base node t bases) over.share
            (λ o lt. base_there node t bases o lt) over.share_is;
      });
  within = omega (arith, found_is, most);
}
  where
    own : AreBasesTo node t (length (train_at node.problem t)) bases
    own = subst (λ (n : ℕ). AreBasesTo node t n bases) long are

    over : IsFittedShare node t (base_in bases) found
    over = subst (λ (l : List ℕ). IsFittedShare node t (base_in l) found) same fitted_is

    most : over.share ≤ sum_by (most_own (horizon node.problem.trains) t) node.problem.components
    most = share_within node t (base_in bases) over.share over.share_is
        (each_base node t count bases are)

    found_is : found ≡ over.share
    found_is = omega (
      arith,
      over.found_is,
      most,
      below_more (horizon node.problem.trains) node.problem.components t,
      below_fits node.problem (t + 1),
    )

-- ---- shares of the first trains

pub one_more : (node : Node) (n total share : ℕ) → AddUpTo node n total → IsShareWithin node n share
    → AddUpTo node (n + 1) (total + share)
one_more node n total share before is =
    let next : suc n ≡ n + 1 = omega arith in
    let sum : total + share ≡ share + total = omega arith in
    record {
      adds = subst (λ (m : ℕ). SharesAddUp node m (total + share)) next (
        share,
        total,
        inl is.share,
        before.adds,
        sum,
      );
      within = omega (
        arith,
        before.within,
        is.within,
        below_more (horizon node.problem.trains) node.problem.components n,
      );
    }

-- the sum with one share more has 64 bits
pub more_fits : (node : Node) (n total share : ℕ) → AddUpTo node n total
    → IsShareWithin node n share → total + share < 2 ^ 64
more_fits node n total share before is = omega (
  arith,
  before.within,
  is.within,
  below_more (horizon node.problem.trains) node.problem.components n,
  below_fits node.problem (n + 1),
)

pub none_added : (node : Node) → AddUpTo node 0 0
none_added node = record { adds = refl; within = omega arith }

pub all_added : (node : Node) (n count total : ℕ) → AddUpTo node n total → count ≤ n → n ≤ count
    → count ≡ length node.problem.trains → SharesAddUp node (length node.problem.trains) total
all_added node n count total before past within is = let same : n ≡ length node.problem.trains =
    omega (arith, past, within, is) in subst (λ (m : ℕ). SharesAddUp node m total) same before.adds

-- ---- as they are read

pub rows_read : (node : Node) (t : ℕ) (order items : List ℕ) (rows kept : List (List ℕ))
    → order ≡ items → rows ≡ kept → AreAllowedRows node t items kept
    → AreAllowedRows node t order rows
rows_read node t order items rows kept same_order same_rows are = subst
    (λ (l : List ℕ). AreAllowedRows node t l rows) (sym same_order)
    (subst (AreAllowedRows node t items) (sym same_rows) are)
