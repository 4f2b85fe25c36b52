-- A fork is acyclic.
use Rattle.std.proofs.Common.{◌≡◌, ℕ, zero, suc, ◌<◌, ◌⊎◌, [], ◌∷◌, refl, sym, ◌∙◌, arith, inl, inr}
use Rattle.std.specs.Prelude.{Contains}
use Rattle.plain_values.proofs.Lists.{contains_none, contains_one}
use Rattle.disp_model.specs.Train.{IsSuccessor, IsEntry, IsExit}
use Rattle.disp_model.specs.WellFormed.{IsAcyclic, LeadsTo}
use Rattle.worked_problems.specs.Worked.{forking_train}

either_in : (a b s : ℕ) → Contains (a ∷ b ∷ []) s → (s ≡ a) ⊎ (s ≡ b)
either_in a b s (zero, lt, e) = inl (sym e)
either_in a b s (suc zero, lt, e) = inr (sym e)
either_in a b s (suc (suc k), lt, e) = absurd (omega (arith, lt))

enters : (o : ℕ) → IsEntry forking_train o → o ≡ 0
enters zero h = refl
enters (suc zero) h = absurd (h.first 0 (0, omega arith, refl))
enters (suc (suc zero)) h = absurd (h.first 0 (1, omega arith, refl))
enters (suc (suc (suc zero))) h = absurd (h.first 1 (0, omega arith, refl))
enters (suc (suc (suc (suc o)))) h =
    absurd (let there : suc (suc (suc (suc o))) < 4 = h.there in omega (arith, there))

leaves : (o : ℕ) → IsExit forking_train o → o ≡ 3
leaves zero h = absurd (grind (arith, h.last))
leaves (suc zero) h = absurd (grind (arith, h.last))
leaves (suc (suc zero)) h = absurd (grind (arith, h.last))
leaves (suc (suc (suc zero))) h = refl
leaves (suc (suc (suc (suc o)))) h =
    absurd (let there : suc (suc (suc (suc o))) < 4 = h.there in omega (arith, there))

goes_up : (o s : ℕ) → IsSuccessor forking_train o s → o < s
goes_up zero s h = let either = either_in 1 2 s h in omega (arith, either)
goes_up (suc zero) s h = let same : s ≡ 3 = contains_one 3 s h in omega (arith, same)
goes_up (suc (suc zero)) s h = let same : s ≡ 3 = contains_one 3 s h in omega (arith, same)
goes_up (suc (suc (suc zero))) s h = absurd (contains_none s h)
goes_up (suc (suc (suc (suc o)))) s h = absurd (contains_none s h)

climbs : (n o s : ℕ) → LeadsTo forking_train n o s → o < s
climbs zero o s h = goes_up o s h
climbs (suc n) o s (p, step, more) = omega (arith, goes_up o p step, climbs n p s more)

pub fork_is_acyclic : IsAcyclic forking_train
fork_is_acyclic = record {
  entered = omega arith;
  one_entry = λ o p one other. enters o one ∙ sym (enters p other);
  one_exit = λ o p one other. leaves o one ∙ sym (leaves p other);
  no_cycle = λ n o back. omega (arith, climbs n o o back);
}
