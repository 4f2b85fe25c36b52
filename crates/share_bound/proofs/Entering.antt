-- When operations are entered, one operation left after another.
use Rattle.std.proofs.Common.{◌≡◌, ℕ, zero, suc, ◌+◌, ◌^◌, ◌<◌, ◌≤◌, List, [], ◌∷◌, ◌++◌, length, set, replicate, Option, Some, None, refl, sym, ap, subst, ◌∙◌, inl, inr, arith}
use Rattle.std.specs.Prelude.{slice_get, max}
use Rattle.std.proofs.lemmas.Bool.{cases_lt}
use Rattle.std.proofs.lemmas.Option.{none-some, same_Some, slice_get_within}
use Rattle.std.proofs.lemmas.List.{length-set, length-replicate}
use Rattle.disp_model.specs.declared.train.Operation.{Operation}
use Rattle.disp_model.specs.Train.{duration_of}
use Rattle.train_orders.proofs.Places.{set_at, set_elsewhere, same_number}
use Rattle.route_marks.specs.Ways.{StepsAlong, Chain, last_of}
use Rattle.route_marks.specs.Marks.{IsLaid, Relaxes}
use Rattle.share_bound.proofs.Stepping.{chain_more, chain_last, steps_row, row_steps, last_here}
use Rattle.share_bound.specs.Times.{left_after, AreTimes, IsEntering}

pub left_push : (base : ℕ → ℕ) (train : List Operation) (time : ℕ) (front : List ℕ) (p : ℕ)
    → left_after base train time (front ++ p ∷ []) ≡ max (left_after base train time front) (base p)
    + duration_of train p
left_push base train time [] p = refl
left_push base train time (q ∷ front) p = left_push base train
    (max time (base q) + duration_of train q) front p

-- a way comes to operations of the order
pub chain_place : (train : List Operation) (order : List ℕ) (rows : List (List ℕ)) (front : List ℕ)
    (o : ℕ) → IsLaid train order rows → Chain order rows (last_of order) front o → (k : ℕ)
    × (slice_get order k ≡ Some o)
chain_place train order rows front o laid chain = elim
    (chain_last order rows (last_of order) front o chain) [
      | inl first ↦ let last = last_here train order rows laid in
          (last.0, subst (λ (x : ℕ). slice_get order last.0 ≡ Some x) first.1 last.2)
      | inr last ↦ let down = laid.down last.steps.place last.op o last.steps.here last.steps in
          (down.0, down.2)
    ]

-- where all operations before one are left it was entered in time
pub in_time : (train : List Operation) (base : ℕ → ℕ) (order : List ℕ) (rows : List (List ℕ))
    (left : ℕ) (times : List (Option ℕ)) → IsLaid train order rows
    → IsEntering train base order rows left times
    → (k o : ℕ) (front : List ℕ) → slice_get order k ≡ Some o → left ≤ k + 1
    → Chain order rows (last_of order) front o → (x : ℕ) × (slice_get times o ≡ Some (Some x))
    × (x ≤ left_after base train 0 front)
in_time train base order rows left times laid before k o front here late chain = elim
    (chain_last order rows (last_of order) front o chain) [
      | inl first ↦ (
        0,
        subst (λ (x : ℕ). slice_get times x ≡ Some (Some 0)) first.1 before.begun,
        omega arith,
      )
      | inr last ↦
          let down = laid.down last.steps.place last.op o last.steps.here last.steps in
          let same : down.0 ≡ k = laid.one_place down.0 k o down.2 here in
          let found = before.known last.steps.place last.op o last.before last.steps.here
          (omega (arith, down.1, same, late)) last.chain last.steps in (
            found.0,
            found.1,
            subst (λ (l : List ℕ). found.0 ≤ left_after base train 0 l) (sym last.is) found.2,
          )
    ]

-- ---- at the entry

pub entering_none : (train : List Operation) (base : ℕ → ℕ) (order : List ℕ) (rows : List (List ℕ))
    (left : ℕ) (times : List (Option ℕ)) → IsLaid train order rows → left ≡ length order
    → times ≡ set (replicate (length train) None) (last_of order) (Some 0)
    → IsEntering train base order rows left times
entering_none train base order rows left times laid all is = rw is (record {
  long = length-set empty e (Some 0) ∙ long;
  begun = own;
  sound = λ o x at. elim (same_number o e) [
    | inl same ↦
        let zero_is : 0 ≡ x = same_Some 0 x
        (same_Some (Some 0) (Some x) (sym own
        ∙ subst (λ (q : ℕ). slice_get (set empty e (Some 0)) q ≡ Some (Some x)) same at)) in
        ([], sym same, sym zero_is)
    | inr other ↦ absurd (nowhere o x other at)
  ];
  known = λ k p s front here le chain step. absurd
      (omega (arith, le, all, slice_get_within order k p here));
  small = λ o x at. elim (same_number o e) [
    | inl same ↦ let zero_is : 0 ≡ x = same_Some 0 x
        (same_Some (Some 0) (Some x) (sym own
        ∙ subst (λ (q : ℕ). slice_get (set empty e (Some 0)) q ≡ Some (Some x)) same at)) in
        omega (arith, zero_is, all)
    | inr other ↦ absurd (nowhere o x other at)
  ];
})
  where
    e : ℕ
    e = last_of order

    empty : List (Option ℕ)
    empty = replicate (length train) None

    long : length empty ≡ length train
    long = length-replicate (length train) None

    own : slice_get (set empty e (Some 0)) e ≡ Some (Some 0)
    own = let last = last_here train order rows laid in
        set_at empty e (Some 0) (omega (arith, laid.within last.0 e last.2, long))

    nothing : (k o x : ℕ) → slice_get (replicate k None) o ≡ Some (Some x) → ⊥
    nothing zero o x at = none-some (Some x) at
    nothing (suc k) zero x at = none-some x (same_Some None (Some x) at)
    nothing (suc k) (suc o) x at = nothing k o x at

    nowhere : (o x : ℕ) → (o ≡ e → ⊥) → slice_get (set empty e (Some 0)) o ≡ Some (Some x) → ⊥
    nowhere o x other at = nothing (length train) o x (sym (set_elsewhere empty e o (Some 0) other)
        ∙ at)

-- ---- one more operation

-- an operation that no way enters
pub leaves_none : (train : List Operation) (base : ℕ → ℕ) (order : List ℕ) (rows : List (List ℕ))
    (place at : ℕ) (times : List (Option ℕ)) → IsLaid train order rows
    → slice_get order place ≡ Some at → IsEntering train base order rows (place + 1) times
    → slice_get times at ≡ Some None → IsEntering train base order rows place times
leaves_none train base order rows place at times laid here before empty = record {
  long = before.long;
  begun = before.begun;
  sound = before.sound;
  known = λ k p s front on le chain step. elim (cases_lt place k) [
    | inl late ↦ before.known k p s front on (omega (arith, late)) chain step
    | inr now ↦
        let found = in_time train base order rows (place + 1) times laid before k p front on
        (omega (arith, le)) chain in
        let same : k ≡ place = omega (arith, le, now) in
        let own : at ≡ p = same_Some at p (sym here
        ∙ subst (λ (n : ℕ). slice_get order n ≡ Some p) same on) in
        absurd (none-some found.0
        (same_Some None (Some found.0) (sym empty
        ∙ subst (λ (x : ℕ). slice_get times x ≡ Some (Some found.0)) (sym own) found.1)))
  ];
  small = λ o x known. omega (arith, before.small o x known);
}

-- what is left at an operation, and when
pub record IsLeaving (train : List Operation) (base : ℕ → ℕ) (order : List ℕ) (rows : List (List ℕ))
    (place at time through : ℕ) (row : List ℕ) (times : List (Option ℕ)) : Type 0 where
  pub laid : IsLaid train order rows
  pub here : slice_get order place ≡ Some at
  pub row_is : slice_get rows place ≡ Some row
  pub before : IsEntering train base order rows (place + 1) times
  pub has : slice_get times at ≡ Some (Some time)
  pub through_is : through ≡ max time (base at) + duration_of train at
  pub base_small : base at ≤ 2 ^ 62
  pub short : duration_of train at < 2 ^ 32

pub leaves : (train : List Operation) (base : ℕ → ℕ) (order : List ℕ) (rows : List (List ℕ))
    (place at time through : ℕ) (row : List ℕ) (times new : List (Option ℕ))
    → IsLeaving train base order rows place at time through row times
    → Relaxes row through times new
    → IsEntering train base order rows place new
leaves train base order rows place at time through row times new is relaxed = record {
  long = relaxed.long ∙ before.long;
  begun = let kept = relaxed.kept (last_of order) 0 before.begun in
      let zero_is : kept.0 ≡ 0 = omega (arith, kept.2) in kept.1
      ∙ ap (λ (n : ℕ). Some (Some n)) zero_is;
  sound = λ o x known. elim (relaxed.from o x known) [
    | inl old ↦ before.sound o x old
    | inr now ↦
        let way = before.sound at time is.has in (
          way.0 ++ at ∷ [],
          chain_more order rows (last_of order) way.0 at o way.1
              (row_steps order rows place at o row is.here is.row_is now.0),
          omega (arith, now.1, is.through_is, way.2, left_push base train 0 way.0 at),
        )
  ];
  known = λ k p s front on le chain step. elim (cases_lt place k) [
    | inl late ↦
        let was = before.known k p s front on (omega (arith, late)) chain step in
        let then = relaxed.kept s was.0 was.1 in
        (then.0, then.1, omega (arith, then.2, was.2))
    | inr now ↦ own k p s front on (omega (arith, le, now)) chain step
  ];
  small = λ o x known. elim (relaxed.from o x known) [
    | inl old ↦ omega (arith, before.small o x old)
    | inr now ↦ omega (
      arith,
      now.1,
      is.through_is,
      before.small at time is.has,
      is.base_small,
      is.short,
      slice_get_within order place at is.here,
    )
  ];
}
  where
    before : IsEntering train base order rows (place + 1) times
    before = is.before

    own : (k p s : ℕ) (front : List ℕ) → slice_get order k ≡ Some p → k ≡ place
        → Chain order rows (last_of order) front p → StepsAlong order rows p s → (x : ℕ)
        × (slice_get new s ≡ Some (Some x)) × (x ≤ left_after base train 0 (front ++ p ∷ []))
    own k p s front on same chain step =
        let e : p ≡ at = same_Some p at (sym (subst (λ (n : ℕ). slice_get order n ≡ Some p) same on)
        ∙ is.here) in
        let found = in_time train base order rows (place + 1) times is.laid before k p front on
        (omega (arith, same)) chain in
        let time_is : found.0 ≡ time = same_Some found.0 time
        (same_Some (Some found.0) (Some time)
        (sym (subst (λ (x : ℕ). slice_get times x ≡ Some (Some found.0)) e found.1) ∙ is.has))
        in
        let lower = relaxed.lower s
        (steps_row train order rows place at s row is.laid is.here is.row_is
        (subst (λ (x : ℕ). StepsAlong order rows x s) e step)) in
        let whole = left_push base train 0 front p in
        let bases = ap base e in
        let lasts = ap (duration_of train) e in (
          lower.0,
          lower.1,
          omega (arith, lower.2, is.through_is, found.2, time_is, whole, bases, lasts),
        )

pub entered_all : (train : List Operation) (base : ℕ → ℕ) (order : List ℕ) (steps : List (List ℕ))
    (times : List (Option ℕ)) → IsLaid train order steps → IsEntering train base order steps 0 times
    → AreTimes train base order steps times
entered_all train base order steps times laid before = record {
  sound = before.sound;
  least = λ o front chain. let place = chain_place train order steps front o laid chain in
      in_time train base order steps 0 times laid before place.0 o front place.1 (omega arith) chain;
}
