-- The first place that breaks a rule, along lists of claims.
use Rattle.std.proofs.Common.{◌≡◌, ℕ, suc, ◌+◌, ◌<◌, List, [], ◌∷◌, ◌++◌, length, get_or, drop, map, Result, Ok, Err, Bool, true, false, refl, sym, ap, ◌∙◌, add-one, drop-cons}
use Rattle.std.specs.Prelude.{⊤}
use Rattle.json_claims.specs.declared.rule.Rule.{Rule}
use Rattle.serde_json.specs.Data.{Data}
use Rattle.json_claims.specs.Claims.{Claim, breaks, first_broken, claims_from, next_verdict, judged, verdict, IsFirst}

next_twice : {P : Type 0} (a b c : Result ⊤ P) → next_verdict a (next_verdict b c) ≡ next_verdict (next_verdict a b) c
next_twice (Ok x) b c = refl
next_twice (Err p) b c = refl

pub verdict_append : {P : Type 0} (rule : Rule) (a b : List (Claim P)) → verdict rule (a ++ b) ≡ next_verdict (verdict rule a) (verdict rule b)
verdict_append rule [] b = refl
verdict_append rule (c ∷ a) b = ap (next_verdict (judged rule c)) (verdict_append rule a b) ∙ next_twice (judged rule c) (verdict rule a) (verdict rule b)

-- the member at i, and those behind it
pub verdict_at : {P V : Type 0} (view : V → Data) (rule : Rule) (claims : ℕ → Data → List (Claim P)) (values : List V) (i : ℕ) (v : V) → i < length values → v ≡ get_or values i v
    → verdict rule (claims_from claims i (map view (drop i values))) ≡ next_verdict (verdict rule (claims i (view v))) (verdict rule (claims_from claims (i + 1) (map view (drop (i + 1) values))))
verdict_at view rule claims values i v lt is =
    let left : drop i values ≡ v ∷ drop (i + 1) values = rw (add-one, drop-cons values i v) (ap (λ w. w ∷ drop (suc i) values) (sym is)) in
    rw left (verdict_append rule (claims i (view v)) (claims_from claims (i + 1) (map view (drop (i + 1) values))))

pub verdict_is_first : {P : Type 0} (rule : Rule) (claims : List (Claim P)) → IsFirst (verdict rule claims) (first_broken rule claims)
unfolding judged
verdict_is_first rule [] = refl
verdict_is_first rule (c ∷ cs) = by (breaks rule c) refl (verdict_is_first rule cs)
  where
    by : (b : Bool) → breaks rule c ≡ b → IsFirst (verdict rule cs) (first_broken rule cs) → IsFirst (verdict rule (c ∷ cs)) (first_broken rule (c ∷ cs))
    by true e rest = rw e refl
    by false e rest = rw e rest

-- a member that breaks the rule gives the verdict
pub verdict_err : {P V : Type 0} (view : V → Data) (rule : Rule) (claims : ℕ → Data → List (Claim P)) (values : List V) (i : ℕ) (v : V) (place : P) (whole : Result ⊤ P) → i < length values → v ≡ get_or values i v
    → Err place ≡ verdict rule (claims i (view v)) → verdict rule (claims_from claims i (map view (drop i values))) ≡ whole → Err place ≡ whole
verdict_err view rule claims values i v place whole lt is err all =
    ap (λ r. next_verdict r (verdict rule (claims_from claims (i + 1) (map view (drop (i + 1) values))))) err ∙ sym (verdict_at view rule claims values i v lt is) ∙ all

-- behind a member that keeps the rule the verdict is on what is left
pub verdict_ok : {P V : Type 0} (view : V → Data) (rule : Rule) (claims : ℕ → Data → List (Claim P)) (values : List V) (i : ℕ) (v : V) (x : ⊤) (whole : Result ⊤ P) → i < length values → v ≡ get_or values i v
    → Ok x ≡ verdict rule (claims i (view v)) → verdict rule (claims_from claims i (map view (drop i values))) ≡ whole → verdict rule (claims_from claims (i + 1) (map view (drop (i + 1) values))) ≡ whole
verdict_ok view rule claims values i v x whole lt is ok all =
    ap (λ r. next_verdict r (verdict rule (claims_from claims (i + 1) (map view (drop (i + 1) values))))) ok ∙ sym (verdict_at view rule claims values i v lt is) ∙ all
