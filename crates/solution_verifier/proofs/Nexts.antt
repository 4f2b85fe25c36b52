-- Which event of a train comes next, in a part of a plan and in the whole; and when an event has ended by then.
use Rattle.std.proofs.Common.{◌≡◌, ℕ, ◌+◌, ◌<◌, ◌≤◌, List, [], ◌∷◌, ◌++◌, length, take, drop, Some, None, refl, sym, ap, ◌∙◌, arith, inl, inr, ◌⊎◌}
use Rattle.std.specs.Prelude.{nat_eq}
use Rattle.std.proofs.lemmas.Bool.{cases_Bool}
use Rattle.std.proofs.lemmas.List.{drop-append-le, length-take-le, length-drop, take-append-drop}
use Rattle.disp_model.specs.declared.plan.Event.{Event}
use Rattle.disp_model.specs.Plan.{run_of, first_of}

-- the next event of a train stands in the first part of a list, or in the second
pub record IsIn (t from : ℕ) (xs ys : List Event) : Type 0 where
  pub gap : ℕ
  pub event : Event
  pub run : List Event
  pub within : gap < length xs
  pub run_is : run_of t xs ≡ event ∷ run
  pub first : first_of t from (xs ++ ys) ≡ Some (from + gap, event)

pub record IsPast (t from : ℕ) (xs ys : List Event) : Type 0 where
  pub none : run_of t xs ≡ []
  pub first : first_of t from (xs ++ ys) ≡ first_of t (from + length xs) ys

pub in_or_past : (t from : ℕ) (xs ys : List Event) → IsIn t from xs ys ⊎ IsPast t from xs ys
in_or_past t from [] ys = inr (record { none = refl; first = ap (λ (n : ℕ). first_of t n ys) (omega arith) })
in_or_past t from (e ∷ xs) ys =
    elim (cases_Bool (nat_eq e.train t)) [
      | inl is ↦ inl (record {
        gap = 0;
        event = e;
        run = run_of t xs;
        within = omega arith;
        run_is = rw is refl;
        first = rw is (ap (λ (n : ℕ). Some (n, e)) (omega arith));
      })
      | inr is ↦ elim (in_or_past t (from + 1) xs ys) [
        | inl h ↦ inl (record {
          gap = h.gap + 1;
          event = h.event;
          run = h.run;
          within = omega (arith, h.within);
          run_is = rw is h.run_is;
          first = rw is (h.first ∙ ap (λ (n : ℕ). Some (n, h.event)) (omega arith));
        })
        | inr h ↦ inr (record {
          none = rw is h.none;
          first = rw is (h.first ∙ ap (λ (n : ℕ). first_of t n ys) (omega arith));
        })
      ]
    ]

-- where a train has an event, the first comes at or after the position that counting began at
pub record IsFound (t from : ℕ) (ys : List Event) : Type 0 where
  pub place : ℕ
  pub event : Event
  pub run : List Event
  pub run_is : run_of t ys ≡ event ∷ run
  pub first : first_of t from ys ≡ Some (place, event)
  pub from_on : from ≤ place

pub found_or_none : (t from : ℕ) (ys : List Event) → IsFound t from ys ⊎ ((run_of t ys ≡ []) × (first_of t from ys ≡ None))
found_or_none t from [] = inr (refl, refl)
found_or_none t from (e ∷ ys) =
    elim (cases_Bool (nat_eq e.train t)) [
      | inl is ↦ inl (record { place = from; event = e; run = run_of t ys; run_is = rw is refl; first = rw is refl; from_on = omega arith })
      | inr is ↦ elim (found_or_none t (from + 1) ys) [
        | inl h ↦ inl (record { place = h.place; event = h.event; run = h.run; run_is = rw is h.run_is; first = rw is h.first; from_on = omega (arith, h.from_on) })
        | inr h ↦ inr (rw is h.0, rw is h.1)
      ]
    ]

-- what lies behind a position, up to another and from there on
pub behind_parts : (plan : List Event) (i j : ℕ) → i < j → j ≤ length plan → drop (i + 1) plan ≡ drop (i + 1) (take j plan) ++ drop j plan
behind_parts plan i j lt within =
    let long : i + 1 ≤ length (take j plan) = rw (length-take-le j plan within) (omega (arith, lt)) in
    ap (drop (i + 1)) (sym (take-append-drop j plan)) ∙ drop-append-le (i + 1) (take j plan) (drop j plan) long

pub between_length : (plan : List Event) (i j : ℕ) → i < j → j ≤ length plan → (i + 1) + length (drop (i + 1) (take j plan)) ≡ j
between_length plan i j lt within = omega (arith, lt, within, length-drop (i + 1) (take j plan), length-take-le j plan within)
