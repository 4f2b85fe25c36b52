-- The run of a train, built event by event: from an entry along successors, each event as long as its duration.
use Rattle.std.proofs.Common.{◌≡◌, ℕ, zero, suc, ◌+◌, ◌<◌, ◌≤◌, List, [], ◌∷◌, ◌++◌, length, take, map, get_or, Some, refl, sym, ap, subst, ◌∙◌, arith, inl, inr, ◌⊎◌}
use Rattle.std.specs.Prelude.{nat_eq, slice_get}
use Rattle.std.proofs.lemmas.Bool.{cases_Bool, eqb-true, eqb-false}
use Rattle.std.proofs.lemmas.Option.{slice_get-get_or}
use Rattle.std.proofs.Math.Seq.{take-length}
use Rattle.disp_model.specs.declared.plan.Event.{Event}
use Rattle.disp_model.specs.declared.train.Operation.{Operation}
use Rattle.disp_model.specs.Plan.{run_of}
use Rattle.disp_model.specs.Train.{duration_of, IsEntry, IsExit, IsSuccessor, IsRoute, GoesOn}
use Rattle.disp_laws.proofs.Runs.{Spaced}
use Rattle.solution_verifier.specs.Rules.{EndsWith}
use Rattle.solution_verifier.proofs.Holding.{take_one_more, run_own, run_other}

abbrev no_event : Event
no_event = record { time = 0; train = 0; operation = 0 }

-- what holds of no events, and as each event of the train is added, holds of the train's run
run_so_far : (t : ℕ) (plan : List Event) (P : List Event → Type 0) → P []
    → ((k : ℕ) (e : Event) → slice_get plan k ≡ Some e → e.train ≡ t → P (run_of t (take k plan)) → P (run_of t (take k plan) ++ e ∷ []))
    → (k : ℕ) → k ≤ length plan → P (run_of t (take k plan))
run_so_far t plan P none more zero within = none
run_so_far t plan P none more (suc k) within =
    let lt : k < length plan = omega (arith, within) in
    let e = get_or plan k no_event in
    let at : slice_get plan k ≡ Some e = slice_get-get_or plan k no_event lt in
    let before : P (run_of t (take k plan)) = run_so_far t plan P none more k (omega (arith, lt)) in
    let next : suc k ≡ k + 1 = omega arith in
    let whole : run_of t (take (suc k) plan) ≡ run_of t (take k plan ++ e ∷ []) = ap (λ (n : ℕ). run_of t (take n plan)) next ∙ ap (run_of t) (take_one_more plan k e at) in
    elim (cases_Bool (nat_eq e.train t)) [
      | inl is ↦
          let same : e.train ≡ t = eqb-true e.train t is in
          subst P (sym (whole ∙ run_own t (take k plan) e same)) (more k e at same before)
      | inr is ↦ subst P (sym (whole ∙ run_other t (take k plan) e (eqb-false e.train t is))) before
    ]

pub run_induction : (t : ℕ) (plan : List Event) (P : List Event → Type 0) → P []
    → ((k : ℕ) (e : Event) → slice_get plan k ≡ Some e → e.train ≡ t → P (run_of t (take k plan)) → P (run_of t (take k plan) ++ e ∷ []))
    → P (run_of t plan)
run_induction t plan P none more = subst (λ (l : List Event). P (run_of t l)) (take-length plan) (run_so_far t plan P none more (length plan) (omega arith))

-- a list of events is empty, or has a last
pub end_or_none : (xs : List Event) → (xs ≡ []) ⊎ ((d : Event) × EndsWith xs d)
end_or_none [] = inl refl
end_or_none (x ∷ xs) = inr (later (end_or_none xs))
  where
    later : (xs ≡ []) ⊎ ((d : Event) × EndsWith xs d) → (d : Event) × EndsWith (x ∷ xs) d
    later (inl none) = (x, ([], ap (λ (l : List Event). x ∷ l) none))
    later (inr (d, (front, is))) = (d, (x ∷ front, ap (λ (l : List Event). x ∷ l) is))

-- ---- ways

abbrev Goes : List Operation → ℕ → List Event → Type 0
Goes train o [] = Unit {0}
Goes train o (e ∷ run) = IsSuccessor train o e.operation × Goes train e.operation run

-- from an entry on, each operation a successor of the one before
abbrev pub IsWay : List Operation → List Event → Type 0
IsWay train [] = Unit {0}
IsWay train (e ∷ run) = IsEntry train e.operation × Goes train e.operation run

goes_more : (train : List Operation) (o : ℕ) (front : List Event) (d e : Event) → Goes train o (front ++ d ∷ []) → IsSuccessor train d.operation e.operation → Goes train o ((front ++ d ∷ []) ++ e ∷ [])
goes_more train o [] d e goes next = (goes.0, (next, tt))
goes_more train o (f ∷ front) d e goes next = (goes.0, goes_more train f.operation front d e goes.1 next)

way_more : (train : List Operation) (front : List Event) (d e : Event) → IsWay train (front ++ d ∷ []) → IsSuccessor train d.operation e.operation → IsWay train ((front ++ d ∷ []) ++ e ∷ [])
way_more train [] d e way next = (way.0, (next, tt))
way_more train (f ∷ front) d e way next = (way.0, goes_more train f.operation front d e way.1 next)

pub way_step : (train : List Operation) (run : List Event) (e : Event) → (run ≡ [] → IsEntry train e.operation) → ((d : Event) → EndsWith run d → IsSuccessor train d.operation e.operation) → IsWay train run → IsWay train (run ++ e ∷ [])
way_step train run e first next way =
    elim (end_or_none run) [
      | inl none ↦ let start : IsWay train (e ∷ []) = (first none, tt) in subst (λ (l : List Event). IsWay train (l ++ e ∷ [])) (sym none) start
      | inr ends ↦
          let at : run ≡ ends.1.0 ++ ends.0 ∷ [] = ends.1.1 in
          subst (λ (l : List Event). IsWay train (l ++ e ∷ [])) (sym at)
          (way_more train ends.1.0 ends.0 e (subst (IsWay train) at way) (next ends.0 ends.1))
    ]

goes_out : (train : List Operation) (o : ℕ) (front : List Event) (d : Event) → Goes train o (front ++ d ∷ []) → IsExit train d.operation → GoesOn train o (map (λ e. e.operation) (front ++ d ∷ []))
goes_out train o [] d goes exit = (goes.0, exit)
goes_out train o (f ∷ front) d goes exit = (goes.0, goes_out train f.operation front d goes.1 exit)

pub way_out : (train : List Operation) (front : List Event) (d : Event) → IsWay train (front ++ d ∷ []) → IsExit train d.operation → IsRoute train (map (λ e. e.operation) (front ++ d ∷ []))
way_out train [] d way exit = (way.0, exit)
way_out train (f ∷ front) d way exit = (way.0, goes_out train f.operation front d way.1 exit)

-- ---- durations

spaced_more : (train : List Operation) (front : List Event) (d e : Event) → Spaced train (front ++ d ∷ []) → d.time + duration_of train d.operation ≤ e.time → Spaced train ((front ++ d ∷ []) ++ e ∷ [])
spaced_more train [] d e spaced lasts = (lasts, tt)
spaced_more train (f ∷ []) d e spaced lasts = (spaced.0, (lasts, tt))
spaced_more train (f ∷ g ∷ front) d e spaced lasts = (spaced.0, spaced_more train (g ∷ front) d e spaced.1 lasts)

pub spaced_step : (train : List Operation) (run : List Event) (e : Event) → ((d : Event) → EndsWith run d → d.time + duration_of train d.operation ≤ e.time) → Spaced train run → Spaced train (run ++ e ∷ [])
spaced_step train run e lasts spaced =
    elim (end_or_none run) [
      | inl none ↦ let start : Spaced train (e ∷ []) = tt in subst (λ (l : List Event). Spaced train (l ++ e ∷ [])) (sym none) start
      | inr ends ↦
          let at : run ≡ ends.1.0 ++ ends.0 ∷ [] = ends.1.1 in
          subst (λ (l : List Event). Spaced train (l ++ e ∷ [])) (sym at)
          (spaced_more train ends.1.0 ends.0 e (subst (Spaced train) at spaced) (lasts ends.0 ends.1))
    ]
