-- The lines that are read are those that were written.
use Rattle.std.proofs.Common.{◌≡◌, ℕ, zero, suc, ◌≤◌, Bool, true, false, cond, eqb-true, List, [], ◌∷◌, ◌++◌, length, All, Result, Ok, refl, sym, ap, subst, ◌∙◌, append_assoc, arith}
use Rattle.std.specs.Prelude.{codes, ◌==◌}
use Rattle.std.specs.List.{flat_map}
use Rattle.std.specs.Fmt.{decimal}
use Rattle.std.proofs.lemmas.List.{append-nil}
use Rattle.std.proofs.lemmas.List.Elements.{All-nil, All-cons}
use Rattle.disp_model.specs.declared.train.Op.{Op}
use Rattle.disp_model.specs.declared.tree.ComponentWalk.{ComponentWalk}
use Rattle.disp_model.specs.declared.tree.TrainWalks.{TrainWalks}
use Rattle.disp_model.specs.declared.limits.TheConstants.{GREATEST_NUMBER, MOST_COMPONENTS}
use Rattle.disp_model.specs.Trees.{FitsOp, FitsWalk, FitsTrain}
use Rattle.tree_certificate.specs.declared.fault.Fault.{Fault}
use Rattle.tree_certificate.specs.TreeTexts.{ops_text, walk_text, to_text, listed_text}
use Rattle.tree_certificate.specs.FieldsRead.{before, from, field_number, ops_at, line_ended, word_at}
use Rattle.tree_certificate.specs.LinesRead.{line_with, line_at, items_at, last_count, walk_at, to_at, train_read}
use Rattle.tree_certificate.proofs.FieldsTaken.{bind_ok, ok_is, parts, joined_again, field_taken, end_taken, ops_taken, word_taken}
use Rattle.tree_certificate.proofs.LinesAgain.{three, four, seven}

-- what stands from the first such byte on begins with it
begins : (byte : ℕ) (bytes : List ℕ) (c : ℕ) (rest : List ℕ) → from byte bytes ≡ c ∷ rest → c ≡ byte
begins byte [] c rest e = absurd cc
begins byte (b ∷ bytes) c rest e = by_test (b == byte) refl e (begins byte bytes c rest)
  where
    by_test : (t : Bool) → (b == byte) ≡ t → cond t (b ∷ bytes) (from byte bytes) ≡ c ∷ rest → (from byte bytes ≡ c ∷ rest → c ≡ byte) → c ≡ byte
    by_test true is f more = let h : b ≡ c = cc in sym h ∙ eqb-true b byte is
    by_test false is f more = more f

pub line_taken : (bytes line rest : List ℕ) → line_at bytes ≡ Ok (line, rest) → bytes ≡ line ++ 10 ∷ rest
unfolding line_at
line_taken bytes line rest e = by_end (from 10 bytes) refl e
  where
    by_end : (l : List ℕ) → from 10 bytes ≡ l → line_with (before 10 bytes) l ≡ Ok (line, rest) → bytes ≡ line ++ 10 ∷ rest
    by_end [] is f = absurd cc
    by_end (c ∷ behind) is f =
        let both = parts (before 10 bytes) line behind rest f in
        let end : c ≡ 10 = begins 10 bytes c behind is in
        joined_again 10 bytes ∙ ap (λ (l : List ℕ). before 10 bytes ++ l) (is ∙ ap (λ (b : ℕ). b ∷ behind) end ∙ ap (λ (l : List ℕ). 10 ∷ l) both.1) ∙ ap (λ (l : List ℕ). l ++ 10 ∷ rest) both.0

pub items_taken : {A : Type 0} (item : List ℕ → Result (A × List ℕ) Fault) (text : A → List ℕ) (Fits : A → Type 0) → ((bytes : List ℕ) (x : A) (rest : List ℕ) → item bytes ≡ Ok (x, rest) → (bytes ≡ text x ++ rest) × Fits x)
    → (count : ℕ) (bytes : List ℕ) (xs : List A) (rest : List ℕ) → items_at item count bytes ≡ Ok (xs, rest) → (bytes ≡ flat_map text xs ++ rest) × All Fits xs × (count ≡ length xs)
unfolding items_at
items_taken {A} item text Fits each zero bytes xs rest e =
    let both = parts [] xs bytes rest e in
    subst (λ (l : List A). (bytes ≡ flat_map text l ++ rest) × All Fits l × (0 ≡ length l)) both.0 (both.1, All-nil Fits, refl)
items_taken {A} item text Fits each (suc count) bytes xs rest e =
    let a = bind_ok (item bytes) _ (xs, rest) e in
    let more = bind_ok (items_at item count a.0.1) _ (xs, rest) a.2 in
    let t = each bytes a.0.0 a.0.1 a.1 in
    let u = items_taken item text Fits each count a.0.1 more.0.0 more.0.1 more.1 in
    let both = parts (a.0.0 ∷ more.0.0) xs more.0.1 rest more.2 in
    let text_is : bytes ≡ flat_map text (a.0.0 ∷ more.0.0) ++ rest =
    t.0 ∙ ap (λ (l : List ℕ). text a.0.0 ++ l) (u.0 ∙ ap (λ (l : List ℕ). flat_map text more.0.0 ++ l) both.1) ∙ sym (append_assoc (text a.0.0) (flat_map text more.0.0) rest) in
    subst (λ (l : List A). (bytes ≡ flat_map text l ++ rest) × All Fits l × (suc count ≡ length l)) both.0
    (text_is, All-cons Fits a.0.0 more.0.0 t.1 u.1, ap suc u.2)

pub count_taken : (left : ℕ) (fields : List ℕ) (n : ℕ) → last_count left fields ≡ Ok n → (fields ≡ 32 ∷ decimal n) × (n ≤ MOST_COMPONENTS)
unfolding last_count
count_taken left fields n e =
    let a = bind_ok (field_number left MOST_COMPONENTS fields) _ n e in
    let b = bind_ok (line_ended left a.0.1) _ n a.2 in
    let same : a.0.0 ≡ n = ok_is a.0.0 n b.2 in
    let none : a.0.1 ≡ [] = end_taken left a.0.1 b.0 b.1 in
    let t = field_taken left MOST_COMPONENTS fields a.0.0 a.0.1 (omega arith) a.1 in
    (t.0 ∙ ap (λ (l : List ℕ). 32 ∷ (decimal a.0.0 ++ l)) none ∙ ap (λ (l : List ℕ). 32 ∷ l) (append-nil (decimal a.0.0)) ∙ ap (λ (k : ℕ). 32 ∷ decimal k) same, rw (← same) t.1)

pub walk_taken : (bytes : List ℕ) (w : ComponentWalk) (rest : List ℕ) → walk_at bytes ≡ Ok (w, rest) → (bytes ≡ walk_text w ++ rest) × FitsWalk w
unfolding walk_at
walk_taken bytes w rest e =
    let l = bind_ok (line_at bytes) _ (w, rest) e in
    let f = bind_ok (word_at (length bytes) (codes "walk") l.0.0) _ (w, rest) l.2 in
    let c = bind_ok (field_number (length bytes) GREATEST_NUMBER f.0) _ (w, rest) f.2 in
    let o = bind_ok (ops_at (length bytes) (length c.0.1) c.0.1) _ (w, rest) c.2 in
    let line = line_taken bytes l.0.0 l.0.1 l.1 in
    let word = word_taken (length bytes) (codes "walk") l.0.0 f.0 f.1 in
    let number = field_taken (length bytes) GREATEST_NUMBER f.0 c.0.0 c.0.1 (omega arith) c.1 in
    let ops = ops_taken (length bytes) (length c.0.1) c.0.1 o.0 o.1 in
    let made : ComponentWalk = record { component = c.0.0; walk = o.0 } in
    let both = parts made w l.0.1 rest o.2 in
    let text : bytes ≡ walk_text made ++ l.0.1 =
    line ∙ ap (λ (k : List ℕ). k ++ 10 ∷ l.0.1) (word ∙ ap (λ (k : List ℕ). codes "walk" ++ k) (number.0 ∙ ap (λ (k : List ℕ). 32 ∷ (decimal c.0.0 ++ k)) ops.0))
    ∙ sym (four (codes "walk ") (decimal c.0.0) (ops_text o.0) (codes "\n") l.0.1) in
    (text ∙ ap (λ (x : ComponentWalk). walk_text x ++ l.0.1) both.0 ∙ ap (λ (k : List ℕ). walk_text w ++ k) both.1, subst FitsWalk both.0 (number.1, ops.1))

pub to_taken : (bytes : List ℕ) (walk : List Op) (rest : List ℕ) → to_at bytes ≡ Ok (walk, rest) → (bytes ≡ to_text walk ++ rest) × All FitsOp walk
unfolding to_at
to_taken bytes walk rest e =
    let l = bind_ok (line_at bytes) _ (walk, rest) e in
    let f = bind_ok (word_at (length bytes) (codes "to") l.0.0) _ (walk, rest) l.2 in
    let o = bind_ok (ops_at (length bytes) (length f.0) f.0) _ (walk, rest) f.2 in
    let line = line_taken bytes l.0.0 l.0.1 l.1 in
    let word = word_taken (length bytes) (codes "to") l.0.0 f.0 f.1 in
    let ops = ops_taken (length bytes) (length f.0) f.0 o.0 o.1 in
    let both = parts o.0 walk l.0.1 rest o.2 in
    let text : bytes ≡ to_text o.0 ++ l.0.1 =
    line ∙ ap (λ (k : List ℕ). k ++ 10 ∷ l.0.1) (word ∙ ap (λ (k : List ℕ). codes "to" ++ k) ops.0)
    ∙ sym (three (codes "to") (ops_text o.0) (codes "\n") l.0.1) in
    (text ∙ ap (λ (x : List Op). to_text x ++ l.0.1) both.0 ∙ ap (λ (k : List ℕ). to_text walk ++ k) both.1, subst (All FitsOp) both.0 ops.1)

pub train_taken : (bytes : List ℕ) (listed : TrainWalks) (rest : List ℕ) → train_read bytes ≡ Ok (listed, rest) → (bytes ≡ listed_text listed ++ rest) × FitsTrain listed
unfolding train_read
train_taken bytes listed rest e =
    let l = bind_ok (line_at bytes) _ (listed, rest) e in
    let f = bind_ok (word_at (length bytes) (codes "train") l.0.0) _ (listed, rest) l.2 in
    let t = bind_ok (field_number (length bytes) GREATEST_NUMBER f.0) _ (listed, rest) f.2 in
    let n = bind_ok (last_count (length bytes) t.0.1) _ (listed, rest) t.2 in
    let w = bind_ok (items_at to_at n.0 l.0.1) _ (listed, rest) n.2 in
    let line = line_taken bytes l.0.0 l.0.1 l.1 in
    let word = word_taken (length bytes) (codes "train") l.0.0 f.0 f.1 in
    let train = field_taken (length bytes) GREATEST_NUMBER f.0 t.0.0 t.0.1 (omega arith) t.1 in
    let count = count_taken (length bytes) t.0.1 n.0 n.1 in
    let walks = items_taken to_at to_text (All FitsOp) to_taken n.0 l.0.1 w.0.0 w.0.1 w.1 in
    let made : TrainWalks = record { train = t.0.0; walks = w.0.0 } in
    let both = parts made listed w.0.1 rest w.2 in
    let text : bytes ≡ listed_text made ++ w.0.1 =
    line ∙ ap (λ (k : List ℕ). k ++ 10 ∷ l.0.1) (word ∙ ap (λ (k : List ℕ). codes "train" ++ k) (train.0 ∙ ap (λ (k : List ℕ). 32 ∷ (decimal t.0.0 ++ k)) (count.0 ∙ ap (λ (k : ℕ). 32 ∷ decimal k) walks.2)))
    ∙ ap (λ (k : List ℕ). (codes "train " ++ (decimal t.0.0 ++ (codes " " ++ decimal (length w.0.0)))) ++ 10 ∷ k) walks.0
    ∙ sym (seven (codes "train ") (decimal t.0.0) (codes " ") (decimal (length w.0.0)) (codes "\n") (flat_map to_text w.0.0) w.0.1) in (
      text ∙ ap (λ (x : TrainWalks). listed_text x ++ w.0.1) both.0 ∙ ap (λ (k : List ℕ). listed_text listed ++ k) both.1,
      subst FitsTrain both.0 (train.1, rw (← walks.2) count.1, walks.1),
    )
