-- A text is compared with the name of each rule.
use Rattle.std.proofs.Common.{◌≡◌, ◌∙◌, codes, false, inl, inr, refl, sym, true}
use Rattle.std.specs.Cmp.Lexicographic.{bytes_decides}
use Rattle.command_words.proofs.read.rule_named.Goals as goal

unlike : false ≡ true → ⊥
unlike e = cc

pub returns-in_default : goal.returns-in_default
returns-in_default c = rw c.in_default.is refl

pub returns-then-eq : goal.returns-then-eq
returns-then-eq c = rw c.in-Some.is
    (inl (
      (bytes_decides c.in-Some.text.now (codes "fixed")).0
          (sym c.eq.ensures ∙ c.if-eq.true),
      refl,
    ))

pub returns-then-eq-2 : goal.returns-then-eq-2
returns-then-eq-2 c = rw c.in-Some.is
    (inr (
      (bytes_decides c.in-Some.text.now (codes "free")).0
          (sym c.eq-2.ensures ∙ c.if-eq-2.true),
      refl,
    ))

pub returns : goal.returns
returns c = rw c.in-Some.is (λ rule is. elim is [
  | inl named ↦ unlike (sym c.if-eq.false
      ∙ (c.eq.ensures ∙ (bytes_decides c.in-Some.text.now (codes "fixed")).1 named.0))
  | inr named ↦ unlike (sym c.if-eq-2.false
      ∙ (c.eq-2.ensures ∙ (bytes_decides c.in-Some.text.now (codes "free")).1 named.0))
])
