-- Which nodes are above their uppers as arcs come and go.
use Rattle.std.proofs.Common.{◌≡◌, ◌∙◌, ℕ, zero, suc, ◌+◌, ◌-◌, ◌<◌, ◌≤◌, List, [], ◌∷◌, ◌++◌, ◌⊎◌, inl, inr, Option, Some, None, length, take, refl, sym, ap, subst, arith, Contains}
use Rattle.std.specs.Prelude.{All, slice_get}
use Rattle.std.proofs.lemmas.Bool.{cases_eq, cases_lt}
use Rattle.std.proofs.lemmas.Option.{none-some, same_Some, slice_get_within}
use Rattle.std.proofs.lemmas.List.{length-append, length-take-le, take-append-le, take_all, take-take}
use Rattle.std.proofs.lemmas.List.Elements.{All-contains}
use Rattle.plain_values.proofs.Lists.{contains_none}
use Rattle.incremental_paths.specs.declared.arc.Arc.{Arc}
use Rattle.incremental_paths.specs.Network.{Network, HasLength, TellsChanged}
use Rattle.incremental_paths.proofs.Members.{Contains-here, Contains-there, Contains-cons_cases}
use Rattle.timed_paths.specs.Above.{IsAboveUpper, TellsAbove, TellsAmong, TellsBelow}
use Rattle.timed_paths.specs.Timed.{AreLates}

-- ---- what changes

is_there : (nodes : List ℕ) (node : ℕ) → Contains nodes node ⊎ (Contains nodes node → ⊥)
is_there [] node = inr (contains_none node)
is_there (n ∷ nodes) node = elim (cases_eq n node) [
  | inl same ↦ inl (subst (λ x. Contains (n ∷ nodes) x) same (Contains-here n nodes))
  | inr differs ↦ elim (is_there nodes node) [
    | inl has ↦ inl (Contains-there n node nodes has)
    | inr has_not ↦ inr (λ has. elim (Contains-cons_cases n node nodes has) [ inl same ↦ differs same | inr later ↦ has_not later ])
  ]
]

module _ (uppers : List (Option ℕ)) (old new : Network) (tells : TellsChanged old new) where
  -- a node that was above its upper still is
  pub still_above : All (λ node. (longest : ℕ) × HasLength new node longest) new.changed → (node : ℕ) → IsAboveUpper old.lowers old.arcs uppers node → IsAboveUpper new.lowers new.arcs uppers node
  still_above lengths node is = elim (is_there new.changed node) [
    | inl has ↦
        let length = All-contains (λ n. (longest : ℕ) × HasLength new n longest) new.changed node lengths has in
        record { upper = is.upper; upper_is = is.upper_is; longest = length.0; longest_is = length.1; above = omega (arith, is.above, tells.grew node is.longest length.0 has is.longest_is length.1) }
    | inr has_not ↦ record { upper = is.upper; upper_is = is.upper_is; longest = is.longest; longest_is = (tells.kept node is.longest has_not).0 is.longest_is; above = is.above }
  ]

  -- where none was, only those are whose lengths grew
  pub none_above : ((node : ℕ) → IsAboveUpper old.lowers old.arcs uppers node → ⊥) → ((node : ℕ) → Contains new.changed node → IsAboveUpper new.lowers new.arcs uppers node → ⊥) → (node : ℕ) → IsAboveUpper new.lowers new.arcs uppers node → ⊥
  none_above none among node is = elim (is_there new.changed node) [
    | inl has ↦ among node has is
    | inr has_not ↦ none node (record { upper = is.upper; upper_is = is.upper_is; longest = is.longest; longest_is = (tells.kept node is.longest has_not).1 is.longest_is; above = is.above })
  ]

  -- what is told of those whose lengths grew is told of all
  pub told_now : (found : Option ℕ) → ((node : ℕ) → IsAboveUpper old.lowers old.arcs uppers node → ⊥) → TellsAmong new.changed new.lowers new.arcs uppers found → TellsAbove new.lowers new.arcs uppers found
  told_now (Some node) none among = among
  told_now None none among = none_above none among

-- what is told of the first so many, where those are all
pub told_of_all : (count : ℕ) (lowers : List ℕ) (arcs : List Arc) (uppers : List (Option ℕ)) (found : Option ℕ) → length uppers ≡ count → TellsBelow count lowers arcs uppers found → TellsAbove lowers arcs uppers found
told_of_all count lowers arcs uppers (Some node) long tells = tells
told_of_all count lowers arcs uppers None long tells = λ node is. tells node (omega (arith, long, slice_get_within uppers node (Some is.upper) is.upper_is)) is

-- ---- what is kept of each number of arcs

got_last : (lates : List (Option ℕ)) (late : Option ℕ) → slice_get (lates ++ late ∷ []) (length lates) ≡ Some late
got_last [] late = refl
got_last (other ∷ lates) late = got_last lates late

got_before : (lates : List (Option ℕ)) (late found : Option ℕ) (k : ℕ) → k < length lates → slice_get (lates ++ late ∷ []) k ≡ Some found → slice_get lates k ≡ Some found
got_before [] late found k lt at = absurd (omega (arith, lt))
got_before (other ∷ lates) late found zero lt at = at
got_before (other ∷ lates) late found (suc k) lt at = got_before lates late found k (omega (arith, lt)) at

got_in_front : (lates : List (Option ℕ)) (found : Option ℕ) (n k : ℕ) → slice_get (take n lates) k ≡ Some found → slice_get lates k ≡ Some found
got_in_front lates found zero k at = absurd (none-some found at)
got_in_front [] found (suc n) k at = at
got_in_front (late ∷ lates) found (suc n) zero at = at
got_in_front (late ∷ lates) found (suc n) (suc k) at = got_in_front lates found n k at

module _ (lowers : List ℕ) (uppers : List (Option ℕ)) where
  pub late_at_first : (late : Option ℕ) → length uppers ≡ length lowers → TellsAbove lowers [] uppers late → AreLates lowers [] uppers (late ∷ [])
  late_at_first late nodes tells = record { nodes = nodes; long = refl; told = told }
    where
      told : (k : ℕ) (found : Option ℕ) → slice_get (late ∷ []) k ≡ Some found → TellsAbove lowers (take k []) uppers found
      told zero found at = subst (TellsAbove lowers [] uppers) (same_Some late found at) tells
      told (suc k) found at = absurd (none-some found at)

  module _ (arcs : List Arc) (lates : List (Option ℕ)) (are : AreLates lowers arcs uppers lates) where
    pub late_at_last : (k : ℕ) (late : Option ℕ) → k ≡ length lates - 1 → slice_get lates k ≡ Some late → TellsAbove lowers arcs uppers late
    late_at_last k late last at = subst (λ (some : List Arc). TellsAbove lowers some uppers late) (take_all k arcs (omega (arith, last, are.long))) (are.told k late at)

    pub lates_with_one : (arc : Arc) (late : Option ℕ) → TellsAbove lowers (arcs ++ arc ∷ []) uppers late → AreLates lowers (arcs ++ arc ∷ []) uppers (lates ++ late ∷ [])
    lates_with_one arc late tells = record {
      nodes = are.nodes;
      long = omega (arith, length-append lates (late ∷ []), length-append arcs (arc ∷ []), are.long);
      told = told;
    }
      where
        told : (k : ℕ) (found : Option ℕ) → slice_get (lates ++ late ∷ []) k ≡ Some found → TellsAbove lowers (take k (arcs ++ arc ∷ [])) uppers found
        told k found at = elim (cases_lt k (length lates)) [
          | inl before ↦ subst (λ (some : List Arc). TellsAbove lowers some uppers found) (sym (take-append-le k arcs (arc ∷ []) (omega (arith, before, are.long)))) (are.told k found (got_before lates late found k before at))
          | inr behind ↦
              let within : k < length lates + 1 = omega (arith, slice_get_within (lates ++ late ∷ []) k found at, length-append lates (late ∷ [])) in
              let last : k ≡ length lates = omega (arith, behind, within) in
              let same : late ≡ found = same_Some late found (sym (got_last lates late) ∙ ap (slice_get (lates ++ late ∷ [])) (sym last) ∙ at) in
              subst (λ (some : List Arc). TellsAbove lowers some uppers found) (sym (take_all k (arcs ++ arc ∷ []) (omega (arith, last, are.long, length-append arcs (arc ∷ []))))) (subst (TellsAbove lowers (arcs ++ arc ∷ []) uppers) same tells)
        ]

    pub lates_without : (count : ℕ) → count ≤ length arcs → AreLates lowers (take (length arcs - count) arcs) uppers (take (length lates - count) lates)
    lates_without count le = record {
      nodes = are.nodes;
      long = omega (arith, length-take-le (length lates - count) lates (omega (arith, le)), length-take-le (length arcs - count) arcs (omega (arith, le)), are.long, le);
      told = told;
    }
      where
        told : (k : ℕ) (found : Option ℕ) → slice_get (take (length lates - count) lates) k ≡ Some found → TellsAbove lowers (take k (take (length arcs - count) arcs)) uppers found
        told k found at =
            let within = slice_get_within (take (length lates - count) lates) k found at in
            let low : k ≤ length arcs - count = omega (arith, within, length-take-le (length lates - count) lates (omega (arith, le)), are.long, le) in
            subst (λ (some : List Arc). TellsAbove lowers some uppers found) (sym (take-take k (length arcs - count) arcs low)) (are.told k found (got_in_front lates found (length lates - count) k at))
