-- The rules in the order in which they are asked.
use Rattle.std.proofs.Common.{◌≡◌, ℕ, zero, suc, ◌+◌, ◌<◌, refl, sym, subst, inl, inr, arith}
use Rattle.std.proofs.lemmas.Bool.{cases_lt}
use Rattle.disp_model.specs.declared.tree.Leaf.{Leaf}
use Rattle.disp_model.specs.declared.tree.Verdict.{Verdict}
use Rattle.disp_model.specs.Node.{Node}
use Rattle.tree_checker.specs.declared.why.Why.{Why}
use Rattle.tree_checker.specs.declared.why.Why.TheVariants.{BadName, BadChoice, HasRoute, NotCycle, EmptyWalk, NotForced, BadArc, NotLate, RepeatedComponent, RepeatedTrain, WrongTrain, WrongEnd, NoVerdict, BelowCost}
use Rattle.tree_checker.specs.Rules.{rank_of_why, rule_at, KeepsListRule, BreaksRule, KeepsAllRules, IsFirstRule}

-- the rule of a place has that place
rank_at : (p : ℕ) → p < 13 → rank_of_why (rule_at p) ≡ p
rank_at zero lt = refl
rank_at (suc zero) lt = refl
rank_at (suc (suc zero)) lt = refl
rank_at (suc (suc (suc zero))) lt = refl
rank_at (suc (suc (suc (suc zero)))) lt = refl
rank_at (suc (suc (suc (suc (suc zero))))) lt = refl
rank_at (suc (suc (suc (suc (suc (suc zero)))))) lt = refl
rank_at (suc (suc (suc (suc (suc (suc (suc zero))))))) lt = refl
rank_at (suc (suc (suc (suc (suc (suc (suc (suc zero)))))))) lt = refl
rank_at (suc (suc (suc (suc (suc (suc (suc (suc (suc zero))))))))) lt = refl
rank_at (suc (suc (suc (suc (suc (suc (suc (suc (suc (suc zero)))))))))) lt = refl
rank_at (suc (suc (suc (suc (suc (suc (suc (suc (suc (suc (suc zero))))))))))) lt = refl
rank_at (suc (suc (suc (suc (suc (suc (suc (suc (suc (suc (suc (suc zero)))))))))))) lt = refl
rank_at (suc (suc (suc (suc (suc (suc (suc (suc (suc (suc (suc (suc (suc p))))))))))))) lt = absurd (omega (arith, lt))

-- where a rule that no cost breaks is kept, it is not broken
pub kept_unbroken : (node : Node) (verdict : Verdict) (leaf : Leaf) (why : Why) → rank_of_why why < 13 → KeepsListRule node verdict leaf (rule_at (rank_of_why why)) → BreaksRule node verdict leaf why → ⊥
kept_unbroken node verdict leaf BadName lt keeps breaks = breaks keeps
kept_unbroken node verdict leaf BadChoice lt keeps breaks = breaks keeps
kept_unbroken node verdict leaf HasRoute lt keeps breaks = breaks keeps
kept_unbroken node verdict leaf NotCycle lt keeps breaks = breaks keeps
kept_unbroken node verdict leaf EmptyWalk lt keeps breaks = breaks keeps
kept_unbroken node verdict leaf NotForced lt keeps breaks = breaks keeps
kept_unbroken node verdict leaf BadArc lt keeps breaks = breaks keeps
kept_unbroken node verdict leaf NotLate lt keeps breaks = breaks keeps
kept_unbroken node verdict leaf RepeatedComponent lt keeps breaks = breaks keeps
kept_unbroken node verdict leaf RepeatedTrain lt keeps breaks = breaks keeps
kept_unbroken node verdict leaf WrongTrain lt keeps breaks = breaks keeps
kept_unbroken node verdict leaf WrongEnd lt keeps breaks = breaks keeps
kept_unbroken node verdict leaf NoVerdict lt keeps breaks = breaks keeps
kept_unbroken node verdict leaf (BelowCost bound cost) lt keeps breaks = absurd (omega (arith, lt))

pub kept_all : (node : Node) (verdict : Verdict) (leaf : Leaf) → ((k : ℕ) → k < 13 → KeepsListRule node verdict leaf (rule_at k)) → KeepsAllRules node verdict leaf
kept_all node verdict leaf keeps BadName = keeps 0 (omega arith)
kept_all node verdict leaf keeps BadChoice = keeps 1 (omega arith)
kept_all node verdict leaf keeps HasRoute = keeps 2 (omega arith)
kept_all node verdict leaf keeps NotCycle = keeps 3 (omega arith)
kept_all node verdict leaf keeps EmptyWalk = keeps 4 (omega arith)
kept_all node verdict leaf keeps NotForced = keeps 5 (omega arith)
kept_all node verdict leaf keeps BadArc = keeps 6 (omega arith)
kept_all node verdict leaf keeps NotLate = keeps 7 (omega arith)
kept_all node verdict leaf keeps RepeatedComponent = keeps 8 (omega arith)
kept_all node verdict leaf keeps RepeatedTrain = keeps 9 (omega arith)
kept_all node verdict leaf keeps WrongTrain = keeps 10 (omega arith)
kept_all node verdict leaf keeps WrongEnd = keeps 11 (omega arith)
kept_all node verdict leaf keeps NoVerdict = keeps 12 (omega arith)
kept_all node verdict leaf keeps (BelowCost bound cost) = tt

-- what is not kept is broken
unkept_broken : (node : Node) (verdict : Verdict) (leaf : Leaf) (why : Why) → (KeepsListRule node verdict leaf why → ⊥) → BreaksRule node verdict leaf why
unkept_broken node verdict leaf BadName not = not
unkept_broken node verdict leaf BadChoice not = not
unkept_broken node verdict leaf HasRoute not = not
unkept_broken node verdict leaf NotCycle not = not
unkept_broken node verdict leaf EmptyWalk not = not
unkept_broken node verdict leaf NotForced not = not
unkept_broken node verdict leaf BadArc not = not
unkept_broken node verdict leaf NotLate not = not
unkept_broken node verdict leaf RepeatedComponent not = not
unkept_broken node verdict leaf RepeatedTrain not = not
unkept_broken node verdict leaf WrongTrain not = not
unkept_broken node verdict leaf WrongEnd not = not
unkept_broken node verdict leaf NoVerdict not = not
unkept_broken node verdict leaf (BelowCost bound cost) not = absurd (not tt)

pub first_at : (node : Node) (verdict : Verdict) (leaf : Leaf) (p : ℕ) (why : Why) → p < 13 → why ≡ rule_at p → (KeepsListRule node verdict leaf why → ⊥) → ((k : ℕ) → k < p → KeepsListRule node verdict leaf (rule_at k)) → IsFirstRule node verdict leaf why
first_at node verdict leaf p why lt is not before = record {
  broken = unkept_broken node verdict leaf why not;
  first = λ other less. let low : rank_of_why other < p = subst (λ (n : ℕ). rank_of_why other < n) at less in kept_unbroken node verdict leaf other (omega (arith, low, lt)) (before (rank_of_why other) low);
}
  where
    at : rank_of_why why ≡ p
    at = subst (λ (w : Why). rank_of_why w ≡ p) (sym is) (rank_at p lt)

pub kept_more : (node : Node) (verdict : Verdict) (leaf : Leaf) (p : ℕ) (why : Why) → why ≡ rule_at p → KeepsListRule node verdict leaf why → ((k : ℕ) → k < p → KeepsListRule node verdict leaf (rule_at k)) → (k : ℕ) → k < p + 1 → KeepsListRule node verdict leaf (rule_at k)
kept_more node verdict leaf p why is keeps before k within = elim (cases_lt k p) [
  | inl early ↦ before k early
  | inr ge ↦ let same : p ≡ k = omega (arith, within, ge) in subst (λ (n : ℕ). KeepsListRule node verdict leaf (rule_at n)) same (subst (KeepsListRule node verdict leaf) is keeps)
]
