use Rattle.std.proofs.Common.{◌≡◌, true, false, inl, inr, refl}
use Rattle.rolling_driver.proofs.status.status_of.Goals as goal

differ : false ≡ true → ⊥
differ is = absurd cc

pub returns-then-wants_memory : goal.returns-then-wants_memory
returns-then-wants_memory c readings ended =
    inl ((c.if-wants_memory.ensures readings ended).0 refl, refl)

pub returns-then-ended : goal.returns-then-ended
returns-then-ended c readings ended = inr (
  λ wants. differ ((c.if-wants_memory.ensures readings ended).1 wants),
  inl (ended.too_many.0 c.if-ended.true, refl),
)

pub returns-then-has_failed : goal.returns-then-has_failed
returns-then-has_failed c readings ended = inr (
  λ wants. differ ((c.if-wants_memory.ensures readings ended).1 wants),
  inr (
    λ there. let e = ended.too_many.1 there in let f = c.if-ended.false in absurd cc,
    inl ((c.if-has_failed.ensures readings ended).0 refl, refl),
  ),
)

pub returns : goal.returns
returns c readings ended = inr (
  λ wants. differ ((c.if-wants_memory.ensures readings ended).1 wants),
  inr (
    λ there. let e = ended.too_many.1 there in let f = c.if-ended.false in absurd cc,
    inr (
      λ failed. differ ((c.if-has_failed.ensures readings ended).1 failed),
      c.status_of_mark.ensures,
    ),
  ),
)
