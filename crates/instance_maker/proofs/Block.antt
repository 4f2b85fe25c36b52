-- A train that holds one resource on its way.
use Rattle.std.proofs.Common.{◌≡◌, ◌≢◌, ◌∙◌, ℕ, zero, suc, ◌<◌, ◌≤◌, [], ◌∷◌, Some, refl, sym, arith, rules}
use Rattle.std.specs.Prelude.{All, slice_get}
use Rattle.std.proofs.lemmas.Option.{slice_get_within, none-some}
use Rattle.plain_values.proofs.Lists.{contains_none, contains_one}
use Rattle.disp_model.specs.declared.limits.TheConstants.{GREATEST_NUMBER}
use Rattle.disp_model.specs.Train.{IsSuccessor, IsEntry, IsExit}
use Rattle.disp_model.specs.WellFormed.{IsAcyclic, LeadsTo, HasFitNumbers, RefersInside}
use Rattle.instance_maker.specs.Made.{train_from}

module _ (lower resource min : ℕ) where
  goes_up : (o s : ℕ) → IsSuccessor (train_from lower resource min) o s → o < s
  goes_up zero s h = let same : s ≡ 1 = contains_one 1 s h in omega (arith, same)
  goes_up (suc zero) s h = let same : s ≡ 2 = contains_one 2 s h in omega (arith, same)
  goes_up (suc (suc zero)) s h = absurd (contains_none s h)
  goes_up (suc (suc (suc o))) s h = absurd (contains_none s h)

  climbs : (n o s : ℕ) → LeadsTo (train_from lower resource min) n o s → o < s
  climbs zero o s h = goes_up o s h
  climbs (suc n) o s (p, step, more) = omega (arith, goes_up o p step, climbs n p s more)

  enters : (o : ℕ) → IsEntry (train_from lower resource min) o → o ≡ 0
  enters zero h = refl
  enters (suc zero) h = absurd (h.first 0 (0, omega arith, refl))
  enters (suc (suc zero)) h = absurd (h.first 1 (0, omega arith, refl))
  enters (suc (suc (suc o))) h =
      absurd (let there : suc (suc (suc o)) < 3 = h.there in omega (arith, there))

  leaves : (o : ℕ) → IsExit (train_from lower resource min) o → o ≡ 2
  leaves zero h = absurd (grind (arith, h.last))
  leaves (suc zero) h = absurd (grind (arith, h.last))
  leaves (suc (suc zero)) h = refl
  leaves (suc (suc (suc o))) h =
      absurd (let there : suc (suc (suc o)) < 3 = h.there in omega (arith, there))

  pub block_is_acyclic : IsAcyclic (train_from lower resource min)
  block_is_acyclic = record {
    entered = omega arith;
    one_entry = λ o p one other. enters o one ∙ sym (enters p other);
    one_exit = λ o p one other. leaves o one ∙ sym (leaves p other);
    no_cycle = λ n o back. omega (arith, climbs n o o back);
  }

  once_in_none : (i j s : ℕ) → i < j → slice_get [] i ≡ Some s → slice_get [] j ≢ Some s
  once_in_none i j s lt at_i at_j = none-some s at_i

  once_in_one : (a i j s : ℕ) → i < j → slice_get (a ∷ []) i ≡ Some s
      → slice_get (a ∷ []) j ≢ Some s
  once_in_one a i j s lt at_i at_j =
      let within = slice_get_within (a ∷ []) j s at_j in omega (arith, within, lt)

  pub block_fits : lower ≤ GREATEST_NUMBER → min ≤ GREATEST_NUMBER
      → All HasFitNumbers (train_from lower resource min)
  block_fits low short = search rules

  pub block_refers : (names : ℕ) → resource < names
      → All (RefersInside 3 names) (train_from lower resource min)
  block_refers names there = search (rules, once_in_one, once_in_none)
