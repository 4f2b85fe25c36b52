-- Each text has one answer, beside want of memory.
use Rattle.std.proofs.Common.{◌≡◌, ◌⊎◌, ℕ, ◌<◌, ◌≤◌, List, Option, Some, None, refl, sym, ap, subst, ◌∙◌, inl, inr, arith}
use Rattle.std.proofs.lemmas.Option.{same_Some}
use Rattle.serde_json.specs.Data.{Data}
use Rattle.disp_model.specs.declared.plan.Event.{Event}
use Rattle.disp_model.specs.declared.limits.TheConstants.{MOST_EVENTS}
use Rattle.json_claims.proofs.OneAnswer.{same_value, AtPlaces, same_at_places, Agree, Cases, chain_agrees, chain_refuses_none, refusals_agree as texts_agree, kept_is_not_refused}
use Rattle.solution_text.specs.declared.fault.SolutionNo.{SolutionNo}
use Rattle.solution_text.specs.declared.fault.SolutionNo.TheVariants.{NotJson, Shape, NotWhole, TooLarge, TooMany, Memory}
use Rattle.solution_text.specs.Claims.{solution_claims}
use Rattle.solution_text.specs.PlanOf.{plan_of, stated_of, events_given}
use Rattle.solution_text.specs.Reading.{KeepsSolutionRules, BreaksSolution, IsReadAsSolution, IsRefusedSolution}

-- ---- the rules in their order, as one chain

abbrev Few : ℕ → Option SolutionNo → Type 0
Few count answer = ((MOST_EVENTS < count) × (answer ≡ Some (TooMany count))) ⊎ ((count ≤ MOST_EVENTS) × (answer ≡ None))

abbrev Chain : Data → Option SolutionNo → Type 0
Chain d answer = AtPlaces (solution_claims d) Shape NotWhole TooLarge (Few (events_given d) answer) answer

same_few : (count : ℕ) (a b : Option SolutionNo) → Few count a → Few count b → a ≡ b
same_few count a b (inl (x, p)) (inl (y, q)) = p ∙ sym q
same_few count a b (inl (x, p)) (inr (y, q)) = absurd (omega (arith, x, y))
same_few count a b (inr (x, p)) (inl (y, q)) = absurd (omega (arith, x, y))
same_few count a b (inr (x, p)) (inr (y, q)) = p ∙ sym q

same_chain : (d : Data) (a b : Option SolutionNo) → Chain d a → Chain d b → a ≡ b
same_chain d a b p q =
    same_at_places (solution_claims d) Shape NotWhole TooLarge (Few (events_given d) a) (Few (events_given d) b) a b p q (same_few (events_given d) a b)

-- ---- each answer is that of the chain

breaks_chain : (d : Data) (why : SolutionNo) → BreaksSolution d why → (why ≡ Memory) ⊎ Chain d (Some why)
breaks_chain d NotJson h = absurd h
breaks_chain d (Shape place) h = inr (rw h refl)
breaks_chain d (NotWhole place) h = inr (rw (h.0, h.1) refl)
breaks_chain d (TooLarge place) h = inr (rw (h.0, h.1, h.2) refl)
breaks_chain d (TooMany count) h =
    let many : Few (events_given d) (Some (TooMany count)) = inl (omega (arith, h.1, h.2), ap (λ n. Some (TooMany n)) (sym h.1)) in
    inr (rw (h.0.shape, h.0.whole, h.0.limit) many)
breaks_chain d Memory h = inl refl

keeps_chain : (d : Data) → KeepsSolutionRules d → Chain d None
keeps_chain d h =
    let few : Few (events_given d) None = inr (h.few, refl) in
    rw (h.plain.shape, h.plain.whole, h.plain.limit) few

-- ---- the answers exclude each other

refused_cases : (bytes : List ℕ) (why : SolutionNo) → IsRefusedSolution bytes why → Cases BreaksSolution Memory NotJson bytes why
refused_cases bytes NotJson h = inl (refl, h)
refused_cases bytes (Shape place) h = inr (inr h)
refused_cases bytes (NotWhole place) h = inr (inr h)
refused_cases bytes (TooLarge place) h = inr (inr h)
refused_cases bytes (TooMany count) h = inr (inr h)
refused_cases bytes Memory h = inr (inl refl)

-- two refusals of a text are one, but for want of memory
pub refusals_agree : (bytes : List ℕ) (why other : SolutionNo) → IsRefusedSolution bytes why → IsRefusedSolution bytes other → Agree Memory why other
refusals_agree bytes why other a b =
    texts_agree BreaksSolution Memory NotJson why other bytes (λ d p q. chain_agrees Memory why other (Chain d) (same_chain d) (breaks_chain d why p) (breaks_chain d other q)) (refused_cases bytes why a) (refused_cases bytes other b)

-- a text that was read is not refused, but for want of memory
pub read_is_not_refused : (bytes : List ℕ) (plan : List Event) (stated : Option ℕ) (why : SolutionNo) → IsReadAsSolution bytes plan stated → IsRefusedSolution bytes why → why ≡ Memory
read_is_not_refused bytes plan stated why a b =
    kept_is_not_refused BreaksSolution Memory NotJson why bytes a.value a.json (λ h. chain_refuses_none Memory why (Chain a.value) (same_chain a.value) (keeps_chain a.value a.keeps) (breaks_chain a.value why h)) (refused_cases bytes why b)

-- one plan and one stated value are read of a text
pub plans_agree : (bytes : List ℕ) (plan other : List Event) (stated given : Option ℕ) → IsReadAsSolution bytes plan stated → IsReadAsSolution bytes other given → (plan ≡ other) × (stated ≡ given)
plans_agree bytes plan other stated given a b =
    let same = same_value bytes a.value b.value a.json b.json in
    (same_Some plan other (sym (subst (λ d. plan_of d ≡ Some plan) same a.plan_is) ∙ b.plan_is), same_Some stated given (sym (subst (λ d. stated_of d ≡ Some stated) same a.stated_is) ∙ b.stated_is))
