-- Pieces that go out one behind another, and some of a piece at the end.
use Rattle.std.proofs.Common.{
  ◌≡◌,
  ◌∙◌,
  ℕ,
  zero,
  suc,
  ◌+◌,
  ◌≤◌,
  List,
  [],
  ◌∷◌,
  ◌++◌,
  length,
  take,
  Option,
  Some,
  None,
  refl,
  sym,
  ap,
  append_assoc,
  append-nil,
  arith,
  length-append,
}
use Rattle.std.specs.Io.KnownBytes.{append_known}
use Rattle.std.proofs.Math.Seq.{take-append-add, take-length}
use Rattle.disp_outside.specs.Sink.{WritesPart}
use Rattle.disp_outside.specs.declared.sink.WriteNo.{WriteNo}
use Rattle.disp_outside.specs.declared.sink.WriteNo.TheVariants.{Failed, Memory}
use Rattle.text_puts.specs.Outside.{Writes}

append_twice : (known : Option (List ℕ)) (a b : List ℕ)
    → append_known (append_known known a) b ≡ append_known known (a ++ b)
append_twice None a b = refl
append_twice (Some text) a b = ap Some (append_assoc text a b)

append_nothing : (known : Option (List ℕ)) → append_known known [] ≡ known
append_nothing None = refl
append_nothing (Some text) = ap Some (append-nil text)

-- nothing went out
pub writes_nothing : (old : Option (List ℕ)) → Writes old old []
writes_nothing old = sym (append_nothing old)

-- one more piece behind what went out
pub writes_more : (old text new : Option (List ℕ)) (done piece : List ℕ) → Writes old text done
    → Writes text new piece → Writes old new (done ++ piece)
writes_more old text new done piece first second =
    second ∙ ap (λ (k : Option (List ℕ)). append_known k piece) first ∙ append_twice old done piece

take_within : (n : ℕ) (piece rest : List ℕ) → n ≤ length piece
    → take n (piece ++ rest) ≡ take n piece
take_within zero piece rest le = refl
take_within (suc n) [] rest le = absurd (omega arith)
take_within (suc n) (x ∷ piece) rest le =
    ap (λ (t : List ℕ). x ∷ t) (take_within n piece rest (omega arith))

-- some of a piece behind what went out is some of the whole
pub part_more : (old text new : Option (List ℕ)) (done piece rest : List ℕ) → Writes old text done
    → WritesPart text new piece → WritesPart old new (done ++ (piece ++ rest))
part_more old text new done piece rest first (count, le, second) = (
  length done + count,
  omega (arith, length-append done (piece ++ rest), length-append piece rest),
  writes_more old text new done (take count piece) first second
      ∙ ap (append_known old) (sym (take-append-add done (piece ++ rest) count
      ∙ ap (λ (t : List ℕ). done ++ t) (take_within count piece rest le))),
)

-- nothing of a piece is some of it
pub no_part : (old new : Option (List ℕ)) (piece : List ℕ) → new ≡ old → WritesPart old new piece
no_part old new piece same = (0, omega arith, same ∙ writes_nothing old)

-- all of a piece is some of it
pub all_part : (old new : Option (List ℕ)) (piece : List ℕ) → Writes old new piece
    → WritesPart old new piece
all_part old new piece all =
    (length piece, omega arith, all ∙ ap (append_known old) (sym (take-length piece)))

-- a write that was not whole
pub part_of_write : (refused : WriteNo) (text new : Option (List ℕ)) (piece : List ℕ)
    → (refused ≡ Failed → WritesPart text new piece) → (refused ≡ Memory → new ≡ text)
    → WritesPart text new piece
part_of_write Failed text new piece part memory = part refl
part_of_write Memory text new piece part memory = no_part text new piece (memory refl)
