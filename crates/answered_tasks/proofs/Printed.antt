-- Lines that go out one after another, and some of a line at the end.
use Rattle.std.proofs.Common.{◌≡◌, ℕ, zero, suc, ◌+◌, ◌<◌, List, [], ◌∷◌, ◌++◌, length, get_or, take, Option, refl, sym, ap, ◌∙◌, append_assoc, append-nil, arith}
use Rattle.std.specs.List.{concat}
use Rattle.disp_outside.specs.Sink.{WritesPart}
use Rattle.disp_outside.specs.declared.sink.WriteNo.{WriteNo}
use Rattle.disp_outside.specs.declared.sink.WriteNo.TheVariants.{Failed, Memory}
use Rattle.text_puts.specs.Outside.{Writes}
use Rattle.text_puts.proofs.Writings.{writes_more, part_more, part_of_write}

-- the text of one more line
pub text_more : (lines : List (List ℕ)) (i : ℕ) (d : List ℕ) → i < length lines → concat (take (i + 1) lines) ≡ concat (take i lines) ++ get_or lines i d
text_more [] i d within = absurd (omega arith)
text_more (line ∷ lines) zero d within = append-nil (line)
text_more (line ∷ lines) (suc i) d within =
    let more : suc i + 1 ≡ suc (i + 1) = omega arith in
    rw more (ap (λ (t : List ℕ). line ++ t) (text_more lines i d (omega arith)) ∙ sym (append_assoc (line) (concat (take i lines)) (get_or lines i d)))

-- the text of all lines begins with those so far and the next one
pub text_around : (lines : List (List ℕ)) (i : ℕ) (d : List ℕ) → i < length lines → (rest : List ℕ) × (concat lines ≡ concat (take i lines) ++ (get_or lines i d ++ rest))
text_around [] i d within = absurd (omega arith)
text_around (line ∷ lines) zero d within = (concat lines, refl)
text_around (line ∷ lines) (suc i) d within =
    let later = text_around lines i d (omega arith) in
    (later.0, ap (λ (t : List ℕ). line ++ t) later.1 ∙ sym (append_assoc (line) (concat (take i lines)) (get_or lines i d ++ later.0)))

pub part_of_lines : (refused : WriteNo) (old text new : Option (List ℕ)) (lines : List (List ℕ)) (i : ℕ) (d : List ℕ) → i < length lines → Writes old text (concat (take i lines))
    → (refused ≡ Failed → WritesPart text new (get_or lines i d)) → (refused ≡ Memory → new ≡ text) → WritesPart old new (concat lines)
part_of_lines refused old text new lines i d within done part memory =
    let around = text_around lines i d within in
    let piece = part_of_write refused text new (get_or lines i d) part memory in
    rw around.1 (part_more old text new (concat (take i lines)) (get_or lines i d) around.0 done piece)

pub lines_more : (old text new : Option (List ℕ)) (lines : List (List ℕ)) (i : ℕ) (d : List ℕ) → i < length lines → Writes old text (concat (take i lines)) → Writes text new (get_or lines i d) → Writes old new (concat (take (i + 1) lines))
lines_more old text new lines i d within done piece = rw (text_more lines i d within) (writes_more old text new (concat (take i lines)) (get_or lines i d) done piece)
