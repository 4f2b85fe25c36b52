-- One element of a list replaced: what is then where.
use Rattle.std.proofs.Common.{◌≡◌, ◌≢◌, ◌∙◌, ℕ, ◌<◌, inl, inr, List, length, set, sym, ap, get_or-set_same, get_or-set_other}
use Rattle.std.specs.Prelude.{Some, slice_get}
use Rattle.std.proofs.lemmas.List.{length-set}
use Rattle.std.proofs.lemmas.Bool.{cases_lt}
use Rattle.std.proofs.lemmas.Option.{slice_get_past, slice_get_within, slice_get-get_or}

pub get_set_same : {X : Type 0} (xs : List X) (n : ℕ) (y x : X) → slice_get xs n ≡ Some x → slice_get (set xs n y) n ≡ Some y
get_set_same xs n y x there =
    let lt : n < length xs = slice_get_within xs n x there in
    slice_get-get_or (set xs n y) n y (rw (length-set xs n y) lt) ∙ ap Some (get_or-set_same xs n y y lt)

pub get_set_other : {X : Type 0} (xs : List X) (n m : ℕ) (y : X) → m ≢ n → slice_get (set xs n y) m ≡ slice_get xs m
get_set_other xs n m y other = elim (cases_lt m (length xs)) [
  | inl lt ↦ slice_get-get_or (set xs n y) m y (rw (length-set xs n y) lt) ∙ ap Some (get_or-set_other xs n m y y other) ∙ sym (slice_get-get_or xs m y lt)
  | inr past ↦ slice_get_past (set xs n y) m (rw (length-set xs n y) past) ∙ sym (slice_get_past xs m past)
]
