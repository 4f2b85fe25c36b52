-- Each text has one answer, beside want of memory.
use Rattle.std.proofs.Common.{◌≡◌, ◌⊎◌, ℕ, List, Option, Some, None, sym, subst, ◌∙◌, inl, inr}
use Rattle.std.proofs.lemmas.Option.{same_Some}
use Rattle.serde_json.specs.Data.{Data}
use Rattle.json_claims.specs.declared.rule.Rule.TheVariants as rule
use Rattle.json_claims.specs.Json.{IsJson, IsNoJson}
use Rattle.json_claims.specs.Claims.{Claim, first_broken}
use Rattle.json_claims.specs.Refusals.{BreaksFirst}

pub same_value : (bytes : List ℕ) (d e : Data) → IsJson bytes d → IsJson bytes e → d ≡ e
same_value bytes d e a b = same_Some d e (sym a.value ∙ b.value)

-- ---- the rules in their order, as one chain

-- the rule is broken there, and that is the answer; or the rules behind it give the answer
abbrev pub At : {X N : Type 0} → Option X → (X → N) → Type 0 → Option N → Type 0
At (Some x) refusal behind answer = answer ≡ Some (refusal x)
At None refusal behind answer = behind

pub same_at : {X N : Type 0} (found : Option X) (refusal : X → N) (Q R : Type 0) (a b : Option N) → At found refusal Q a → At found refusal R b → (Q → R → a ≡ b) → a ≡ b
same_at (Some x) refusal Q R a b p q same = p ∙ sym q
same_at None refusal Q R a b p q same = same p q

-- the rules on single places, before those behind them
abbrev pub AtPlaces : {P N : Type 0} → List (Claim P) → (P → N) → (P → N) → (P → N) → Type 0 → Option N → Type 0
AtPlaces claims shape whole limit behind answer =
    At (first_broken rule.Shape claims) shape (At (first_broken rule.Whole claims) whole (At (first_broken rule.Limit claims) limit behind answer) answer) answer

pub same_at_places : {P N : Type 0} (claims : List (Claim P)) (shape whole limit : P → N) (Q R : Type 0) (a b : Option N) → AtPlaces claims shape whole limit Q a → AtPlaces claims shape whole limit R b → (Q → R → a ≡ b) → a ≡ b
same_at_places claims shape whole limit Q R a b p q same =
    same_at (first_broken rule.Shape claims) shape _ _ a b p q
    (λ p1 q1. same_at (first_broken rule.Whole claims) whole _ _ a b p1 q1 (λ p2 q2. same_at (first_broken rule.Limit claims) limit Q R a b p2 q2 same))

-- ---- the answers exclude each other

-- two refusals are one, but for want of memory
abbrev pub Agree : {N : Type 0} → N → N → N → Type 0
Agree memory why other = (why ≡ memory) ⊎ ((other ≡ memory) ⊎ (why ≡ other))

-- where one chain C gives both, they agree
pub chain_agrees : {N : Type 0} (memory why other : N) (C : Option N → Type 0) → ((a b : Option N) → C a → C b → a ≡ b) → (why ≡ memory) ⊎ C (Some why) → (other ≡ memory) ⊎ C (Some other) → Agree memory why other
chain_agrees memory why other C same (inl e) q = inl e
chain_agrees memory why other C same (inr p) (inl e) = inr (inl e)
chain_agrees memory why other C same (inr p) (inr q) = inr (inr (same_Some why other (same (Some why) (Some other) p q)))

-- where the chain gives no refusal, none but want of memory is given
pub chain_refuses_none : {N : Type 0} (memory why : N) (C : Option N → Type 0) → ((a b : Option N) → C a → C b → a ≡ b) → C None → (why ≡ memory) ⊎ C (Some why) → why ≡ memory
chain_refuses_none memory why C same none (inl e) = e
chain_refuses_none memory why C same none (inr p) = let f : Some why ≡ None = same (Some why) None p none in absurd cc

-- no JSON, want of memory, or the first rule that the value breaks
abbrev pub Cases : {N : Type 0} → (Data → N → Type 0) → N → N → List ℕ → N → Type 0
Cases Breaks memory no_json bytes why = ((why ≡ no_json) × IsNoJson bytes) ⊎ ((why ≡ memory) ⊎ BreaksFirst Breaks bytes why)

-- where the refusals of one value are one, so are those of a text
pub refusals_agree : {N : Type 0} (Breaks : Data → N → Type 0) (memory no_json why other : N) (bytes : List ℕ) → ((d : Data) → Breaks d why → Breaks d other → Agree memory why other)
    → Cases Breaks memory no_json bytes why → Cases Breaks memory no_json bytes other → Agree memory why other
refusals_agree Breaks memory no_json why other bytes one (inl (e, none)) (inl (f, none')) = inr (inr (e ∙ sym f))
refusals_agree Breaks memory no_json why other bytes one (inl (e, none)) (inr (inl f)) = inr (inl f)
refusals_agree Breaks memory no_json why other bytes one (inl (e, none)) (inr (inr q)) = absurd (none q.value q.json)
refusals_agree Breaks memory no_json why other bytes one (inr (inl e)) q = inl e
refusals_agree Breaks memory no_json why other bytes one (inr (inr p)) (inl (f, none)) = absurd (none p.value p.json)
refusals_agree Breaks memory no_json why other bytes one (inr (inr p)) (inr (inl f)) = inr (inl f)
refusals_agree Breaks memory no_json why other bytes one (inr (inr p)) (inr (inr q)) =
    one q.value (subst (λ d. Breaks d why) (same_value bytes p.value q.value p.json q.json) p.breaks) q.breaks

-- a text whose value breaks no rule is not refused, but for want of memory
pub kept_is_not_refused : {N : Type 0} (Breaks : Data → N → Type 0) (memory no_json why : N) (bytes : List ℕ) (value : Data) → IsJson bytes value → (Breaks value why → why ≡ memory)
    → Cases Breaks memory no_json bytes why → why ≡ memory
kept_is_not_refused Breaks memory no_json why bytes value json kept (inl (e, none)) = absurd (none value json)
kept_is_not_refused Breaks memory no_json why bytes value json kept (inr (inl e)) = e
kept_is_not_refused Breaks memory no_json why bytes value json kept (inr (inr q)) = kept (subst (λ d. Breaks d why) (same_value bytes q.value value q.json json) q.breaks)
