-- What the least bounds of blocks say of the places.
use Rattle.std.proofs.Common.{◌≡◌, ◌≢◌, ◌∙◌, ◌↔◌, ℕ, zero, suc, ◌+◌, ◌*◌, ◌/◌, ◌<◌, ◌≤◌, List, [], ◌∷◌, length, get_or, inl, inr, refl, sym, ap, subst, arith}
use Rattle.std.specs.Prelude.{Bool, true, false, not, Option, Some, None, slice_get, MatchOption, IsTrue, is_some}
use Rattle.std.proofs.lemmas.Bool.{false≢true}
use Rattle.std.proofs.lemmas.Option.{same_Some, slice_get_within, slice_get-get_or, get_or_from_slice_get}
use Rattle.least_bounds.specs.Tournaments.{bound_at, LiesBelow, NoneLiesBelow, HasNoBound, IsLeastBoundOf}
use Rattle.open_nodes.specs.declared.place.Place.{Place}
use Rattle.open_nodes.specs.declared.place.Kind.TheVariants.{Open}
use Rattle.open_nodes.specs.declared.blocks.Pool.{Pool}
use Rattle.open_nodes.specs.declared.blocks.Pool.TheVariants.{Alive, Inside, Unmarked}
use Rattle.open_nodes.specs.States.{IsBoundBelow, IsWanted, IsTakeable, NoneWanted, NoneTakeable, AreNotOpen, HaveBounds, HasBound, IsLeastBound}
use Rattle.open_nodes.specs.Blocks.{AreBlockLeast, IsCandidate, NoneIsCandidate}
use Rattle.open_nodes.proofs.Paths.{no_some}

-- an answer, said otherwise
pub match_otherwise : {X : Type 0} {P R : Type 0} (Q S : X → Type 0) (o : Option X) → MatchOption o P Q → (P → R) → ((x : X) → Q x → S x) → MatchOption o R S
match_otherwise Q S None is none some = none is
match_otherwise Q S (Some x) is none some = some x is

lesser_lies : (bound lower : ℕ) (best : Option ℕ) → lower ≤ bound → IsBoundBelow bound best → LiesBelow (Some lower) best
lesser_lies bound lower None le below = tt
lesser_lies bound lower (Some cost) le below = omega (arith, le, below)

lies_some : (o best : Option ℕ) → LiesBelow o best → (bound : ℕ) × (o ≡ Some bound) × IsBoundBelow bound best
lies_some None best lies = absurd lies
lies_some (Some bound) None lies = (bound, refl, tt)
lies_some (Some bound) (Some cost) lies = (bound, refl, lies)

module _ (pool : Pool) (places : List Place) (bounds : List (Option ℕ)) (are : AreBlockLeast pool places bounds) (best : Option ℕ) where
  pub no_candidate : NoneLiesBelow bounds best → NoneIsCandidate pool places best
  no_candidate none n is =
      let (b, e, le) = (are.each (n / 64)).lower n is.place (omega arith) (omega arith) is.at in
      none (n / 64) (subst (λ (o : Option ℕ). LiesBelow o best) (sym e) (lesser_lies is.place.bound b best le is.below))

  pub candidate_in : (block : ℕ) → LiesBelow (bound_at bounds block) best
      → (n : ℕ) × (64 * block ≤ n) × (n < 64 * block + 64) × (n < length places) × IsCandidate pool places best n
  candidate_in block lies =
      let (b, e, below) = lies_some (bound_at bounds block) best lies in
      let (n, p, from, to, at, is) = (are.each block).found b e in
      (n, from, to, slice_get_within places n p at.there, record { place = p; at = at; below = subst (λ (x : ℕ). IsBoundBelow x best) (sym is) below })

module _ (places : List Place) (best : Option ℕ) where
  pub none_wanted : NoneIsCandidate Alive places best → NoneWanted best places
  none_wanted none k d lt wanted =
      none k (record { place = get_or places k d; at = record { there = slice_get-get_or places k d lt; pooled = wanted.0 }; below = wanted.1 })

  pub some_wanted : (n : ℕ) → IsCandidate Alive places best n → NoneWanted best places → ⊥
  some_wanted n is none =
      none n is.place (slice_get_within places n is.place is.at.there)
      (subst (λ (p : Place). IsWanted best p) (sym (get_or_from_slice_get places n is.place is.place is.at.there)) (is.at.pooled, is.below))

  pub ripe : (bounds : List (Option ℕ)) → AreBlockLeast Alive places bounds → (b : Bool) (o : Option ℕ) → is_some o ≡ not b
      → MatchOption o (NoneLiesBelow bounds best) (λ block. LiesBelow (bound_at bounds block) best) → IsTrue b ↔ NoneWanted best places
  ripe bounds are true None e none = (λ _. none_wanted (no_candidate Alive places bounds are best none), λ _. refl)
  ripe bounds are true (Some block) e lies = absurd (false≢true (sym e))
  ripe bounds are false None e none = absurd (false≢true e)
  ripe bounds are false (Some block) e lies =
      let (n, from, to, within, is) = candidate_in Alive places bounds are best block lies in
      (λ e. absurd (false≢true e), λ none. absurd (some_wanted n is none))

  module _ (edition free : ℕ) where
    pub none_takeable : (0 < free) → NoneIsCandidate Inside places best → NoneTakeable edition best free places
    none_takeable some none k d lt takes =
        none k (record { place = get_or places k d; at = record { there = slice_get-get_or places k d lt; pooled = (takes.0.0, takes.1) }; below = takes.0.1 })

    pub one_takeable : (0 < free) → (n : ℕ) → IsCandidate Inside places best n → (p : Place) × (slice_get places n ≡ Some p) × IsTakeable edition best free p
    one_takeable some n is = (is.place, is.at.there, ((is.at.pooled.0, is.below), is.at.pooled.1, inl some))

    pub none_unmarked : (free ≤ 0) → NoneIsCandidate (Unmarked edition) places best → NoneTakeable edition best free places
    none_unmarked few none k d lt takes =
        none k (record {
          place = get_or places k d;
          at = record {
            there = slice_get-get_or places k d lt;
            pooled = (takes.0.0, takes.1, λ e. elim takes.2 [ inl some ↦ omega (arith, some, few) | inr other ↦ other e ]);
          };
          below = takes.0.1;
        })

    pub one_unmarked : (n : ℕ) → IsCandidate (Unmarked edition) places best n → (p : Place) × (slice_get places n ≡ Some p) × IsTakeable edition best free p
    one_unmarked n is = (is.place, is.at.there, ((is.at.pooled.0, is.below), is.at.pooled.1, inr is.at.pooled.2))

-- ---- the least bound of all

are_not_open : (places : List Place) → ((n : ℕ) (p : Place) → slice_get places n ≡ Some p → p.kind ≢ Open) → AreNotOpen places
are_not_open [] none = tt
are_not_open (p ∷ places) none = (none 0 p refl, are_not_open places (λ n. none (suc n)))

have_bounds : (bound : ℕ) (places : List Place) → ((n : ℕ) (p : Place) → slice_get places n ≡ Some p → p.kind ≡ Open → bound ≤ p.bound) → HaveBounds bound places
have_bounds bound [] all = tt
have_bounds bound (p ∷ places) all = (all 0 p refl, have_bounds bound places (λ n. all (suc n)))

has_bound : (bound : ℕ) (places : List Place) (n : ℕ) (p : Place) → slice_get places n ≡ Some p → p.kind ≡ Open → p.bound ≡ bound → HasBound bound places
has_bound bound [] n p there open_ is = absurd (no_some p there)
has_bound bound (q ∷ places) zero p there open_ is =
    let same : q ≡ p = same_Some q p there in
    inl (ap (λ (x : Place). x.kind) same ∙ open_, ap (λ (x : Place). x.bound) same ∙ is)
has_bound bound (q ∷ places) (suc n) p there open_ is = inr (has_bound bound places n p there open_ is)

module _ (places : List Place) (bounds : List (Option ℕ)) (are : AreBlockLeast Alive places bounds) where
  pub least_of_all : (o : Option ℕ) → MatchOption o (HasNoBound bounds) (IsLeastBoundOf bounds) → IsLeastBound places o
  least_of_all None none = are_not_open places (λ n p there is.
      let (b, e, le) = (are.each (n / 64)).lower n p (omega arith) (omega arith) (record { there = there; pooled = is }) in
      no_some b (sym (none (n / 64)) ∙ e))
  least_of_all (Some least) is =
      let (n, p, from, to, at, bound) = (are.each is.place).found least is.there in (
        have_bounds least places (λ m q there alive.
            let (b, e, le) = (are.each (m / 64)).lower m q (omega arith) (omega arith) (record { there = there; pooled = alive }) in
            let low : least ≤ b = is.lower (m / 64) b e in
            omega (arith, low, le)),
        has_bound least places n p at.there at.pooled bound,
      )
