-- The lines that were written are read again.
use Rattle.std.proofs.Common.{◌≡◌, ℕ, ◌<◌, ◌≤◌, ◌^◌, List, [], ◌∷◌, ◌++◌, length, All, Result, Ok, refl, ap, ◌∙◌, append_assoc, arith}
use Rattle.std.specs.Prelude.{codes}
use Rattle.std.specs.List.{flat_map}
use Rattle.std.specs.Fmt.{decimal}
use Rattle.std.proofs.lemmas.List.Elements.{All-head, All-tail, All-append}
use Rattle.disp_model.specs.declared.train.Op.{Op}
use Rattle.disp_model.specs.declared.tree.ComponentWalk.{ComponentWalk}
use Rattle.disp_model.specs.declared.tree.TrainWalks.{TrainWalks}
use Rattle.disp_model.specs.declared.limits.TheConstants.{GREATEST_NUMBER, MOST_COMPONENTS}
use Rattle.disp_model.specs.Trees.{FitsOp, FitsWalk, FitsTrain}
use Rattle.tree_certificate.specs.declared.fault.Fault.{Fault}
use Rattle.tree_certificate.specs.TreeTexts.{ops_text, walk_text, to_text, listed_text}
use Rattle.tree_certificate.specs.FieldsRead.{HasNone, line_ended}
use Rattle.tree_certificate.specs.LinesRead.{line_at, items_at, last_count, walk_at, to_at, train_read}
use Rattle.tree_certificate.proofs.Cutting.{around}
use Rattle.tree_certificate.proofs.FieldsAgain.{none_by, none_in_number, none_in_ops, field_again, last_again, all_ops_again, sep_ops}

abbrev pub NotEnd : ℕ → Type 0
NotEnd b = b ≡ 10 → ⊥

pub line_again : (line rest : List ℕ) → HasNone 10 line → line_at (line ++ 10 ∷ rest) ≡ Ok (line, rest)
unfolding line_at
line_again line rest none =
    let e = around 10 line rest none in
    rw (e.0, e.1) refl

pub items_again : {A : Type 0} (item : List ℕ → Result (A × List ℕ) Fault) (text : A → List ℕ) (Fits : A → Type 0) → ((x : A) (rest : List ℕ) → Fits x → item (text x ++ rest) ≡ Ok (x, rest)) → (xs : List A) (rest : List ℕ) → All Fits xs
    → items_at item (length xs) (flat_map text xs ++ rest) ≡ Ok (xs, rest)
unfolding items_at
items_again item text Fits each [] rest fits = refl
items_again item text Fits each (x ∷ xs) rest fits =
    rw (append_assoc (text x) (flat_map text xs) rest, each x (flat_map text xs ++ rest) (All-head Fits x xs fits), items_again item text Fits each xs rest (All-tail Fits x xs fits)) refl

pub count_again : (left n : ℕ) → n ≤ MOST_COMPONENTS → last_count left (32 ∷ decimal n) ≡ Ok n
unfolding last_count line_ended
count_again left n within = rw (last_again left MOST_COMPONENTS n within (omega arith)) refl

-- a line of a word, a number and more, and what stands behind it
pub four : (w a b n r : List ℕ) → w ++ a ++ b ++ n ++ r ≡ (w ++ (a ++ b)) ++ (n ++ r)
four w a b n r = simp append_assoc

pub walk_again : (w : ComponentWalk) (rest : List ℕ) → FitsWalk w → walk_at (walk_text w ++ rest) ≡ Ok (w, rest)
unfolding walk_at
walk_again w rest fits =
    let line : List ℕ = codes "walk " ++ (decimal w.component ++ ops_text w.walk) in
    let none : HasNone 10 (codes "walk " ++ (decimal w.component ++ ops_text w.walk)) =
    All-append NotEnd (codes "walk ") (decimal w.component ++ ops_text w.walk) (none_by 10 (codes "walk ") refl)
    (All-append NotEnd (decimal w.component) (ops_text w.walk) (none_in_number 10 w.component (omega (arith, fits.0)) (omega arith)) (none_in_ops w.walk fits.1)) in
    ap walk_at (four (codes "walk ") (decimal w.component) (ops_text w.walk) (codes "\n") rest)
    ∙ rw (
      line_again (codes "walk " ++ (decimal w.component ++ ops_text w.walk)) rest none,
      field_again _ GREATEST_NUMBER w.component (ops_text w.walk) fits.0 (omega arith) (sep_ops w.walk),
      all_ops_again _ w.walk fits.1,
    ) refl

pub three : (w a n r : List ℕ) → w ++ a ++ n ++ r ≡ (w ++ a) ++ (n ++ r)
three w a n r = simp append_assoc

pub to_again : (walk : List Op) (rest : List ℕ) → All FitsOp walk → to_at (to_text walk ++ rest) ≡ Ok (walk, rest)
unfolding to_at
to_again walk rest fits =
    let none : HasNone 10 (codes "to" ++ ops_text walk) = All-append NotEnd (codes "to") (ops_text walk) (none_by 10 (codes "to") refl) (none_in_ops walk fits) in
    ap to_at (three (codes "to") (ops_text walk) (codes "\n") rest)
    ∙ rw (line_again (codes "to" ++ ops_text walk) rest none, all_ops_again _ walk fits) refl

-- a line of a word and two numbers, what belongs to it, and what stands behind
pub seven : (w a s b n f r : List ℕ) → w ++ a ++ s ++ b ++ n ++ f ++ r ≡ (w ++ (a ++ (s ++ b))) ++ (n ++ (f ++ r))
seven w a s b n f r = simp append_assoc

-- further lines in parts
pub five : (w a n f r : List ℕ) → w ++ a ++ n ++ f ++ r ≡ (w ++ a) ++ (n ++ (f ++ r))
five w a n f r = simp append_assoc

pub six : (w a s b n r : List ℕ) → w ++ a ++ s ++ b ++ n ++ r ≡ (w ++ (a ++ (s ++ b))) ++ (n ++ r)
six w a s b n r = simp append_assoc

pub eight : (w a s b n f g r : List ℕ) → w ++ a ++ s ++ b ++ n ++ f ++ g ++ r ≡ (w ++ (a ++ (s ++ b))) ++ (n ++ (f ++ (g ++ r)))
eight w a s b n f g r = simp append_assoc

-- a line of a word and two numbers has no end within
pub none_in_two : (w : List ℕ) (a b : ℕ) → HasNone 10 w → a < 2 ^ 64 → b < 2 ^ 64 → HasNone 10 (w ++ (decimal a ++ (codes " " ++ decimal b)))
none_in_two w a b none fits_a fits_b =
    All-append NotEnd w (decimal a ++ (codes " " ++ decimal b)) none
    (All-append NotEnd (decimal a) (codes " " ++ decimal b) (none_in_number 10 a fits_a (omega arith))
    (All-append NotEnd (codes " ") (decimal b) (none_by 10 (codes " ") refl) (none_in_number 10 b fits_b (omega arith))))

pub train_again : (listed : TrainWalks) (rest : List ℕ) → FitsTrain listed → train_read (listed_text listed ++ rest) ≡ Ok (listed, rest)
unfolding train_read
train_again listed rest fits =
    let none : HasNone 10 (codes "train " ++ (decimal listed.train ++ (codes " " ++ decimal (length listed.walks)))) =
    none_in_two (codes "train ") listed.train (length listed.walks) (none_by 10 (codes "train ") refl) (omega (arith, fits.0)) (omega (arith, fits.1)) in
    ap train_read (seven (codes "train ") (decimal listed.train) (codes " ") (decimal (length listed.walks)) (codes "\n") (flat_map to_text listed.walks) rest)
    ∙ rw (
      line_again (codes "train " ++ (decimal listed.train ++ (codes " " ++ decimal (length listed.walks)))) (flat_map to_text listed.walks ++ rest) none,
      field_again _ GREATEST_NUMBER listed.train (codes " " ++ decimal (length listed.walks)) fits.0 (omega arith) refl,
      count_again _ (length listed.walks) fits.1,
      items_again to_at to_text (All FitsOp) to_again listed.walks rest fits.2,
    ) refl
