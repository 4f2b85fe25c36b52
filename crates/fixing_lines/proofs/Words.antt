-- Lines that begin with a word.
use Rattle.std.proofs.Common.{◌≡◌, ℕ, List, [], ◌++◌, length, take, refl, sym, ap, subst, ◌∙◌, arith, nat_eq, get_or, false}
use Rattle.std.specs.Prelude.{◌↔◌, codes, Option, Some, None, MatchOption}
use Rattle.std.specs.Cmp.Lexicographic.{pointwise}
use Rattle.std.proofs.lemmas.Bool.Decides.{Decides-eqb}
use Rattle.std.proofs.lemmas.List.{append_cancel_left}
use Rattle.std.proofs.lemmas.Slice.Eq.{strip_prefix_is}
use Rattle.std.specs.Fmt.{decimal}
use Rattle.std.proofs.lemmas.Fmt.{decimal_injective}
use Rattle.disp_model.specs.declared.fixing.Fixing.TheVariants.{Started, Chosen, NotBefore}
use Rattle.disp_model.specs.declared.fixing.Change.{Change}
use Rattle.disp_model.specs.declared.fixing.Change.TheVariants.{Fix, Withdraw}
use Rattle.fixing_lines.specs.declared.fields.Fields.{Fields}
use Rattle.fixing_lines.specs.declared.request.Request.{Request}
use Rattle.fixing_lines.specs.declared.request.Request.TheVariants.{Ask, Show, Unreadable}
use Rattle.fixing_lines.specs.Requests.{AreInLine, HasFields, HasNumber, IsField, IsAsked, Reads, fields_text, change_text, show_text}
use Rattle.fixing_lines.proofs.Spaces.{same_fields}

-- a line that does not begin with the word has no fields behind it
pub no_word : (word line : List ℕ) → pointwise nat_eq (take (length word) line) word ≡ false → (fields : Fields) → HasFields word line fields → ⊥
no_word word line differs fields has = strip_prefix_is Decides-eqb line word None differs (fields_text fields.at_train fields.at_op fields.last) has.text

-- the fields behind the word are those of what stands behind it
pub behind_word : (word line rest : List ℕ) (r : Option Fields) → line ≡ word ++ rest → MatchOption r ((fields : Fields) → HasFields [] rest fields → ⊥) (HasFields [] rest)
    → MatchOption r ((fields : Fields) → HasFields word line fields → ⊥) (HasFields word line)
behind_word word line rest (Some fields) is has = record { within = has.within; text = is ∙ ap (λ (l : List ℕ). word ++ l) has.text }
behind_word word line rest None is none = λ (fields : Fields). λ (has : HasFields word line fields). none fields (record { within = has.within; text = append_cancel_left word rest _ (sym is ∙ has.text) })

-- a line that does not begin with the word has no number behind it
pub no_word_no_number : (word line : List ℕ) → pointwise nat_eq (take (length word) line) word ≡ false
    → (n : ℕ) → HasNumber word line n → ⊥
no_word_no_number word line differs n has =
    strip_prefix_is Decides-eqb line word None differs (decimal n) has.text

-- the number behind the word is that of what stands behind it
pub number_behind_word : (word line rest : List ℕ) (r : Option ℕ) → line ≡ word ++ rest
    → MatchOption r ((n : ℕ) → IsField rest n → ⊥) (IsField rest)
    → MatchOption r ((n : ℕ) → HasNumber word line n → ⊥) (HasNumber word line)
number_behind_word word line rest (Some n) is has =
    record { within = has.within; text = is ∙ ap (λ (l : List ℕ). word ++ l) has.text }
number_behind_word word line rest None is none = λ (n : ℕ). λ (has : HasNumber word line n).
    none n (record { within = has.within; text = append_cancel_left word rest _ (sym is ∙ has.text) })

-- a line without the fields of any word, and without a number to withdraw, asks for no change
pub no_change : (line : List ℕ) → ((fields : Fields) → HasFields (codes "started ") line fields → ⊥)
    → ((fields : Fields) → HasFields (codes "chosen ") line fields → ⊥)
    → ((fields : Fields) → HasFields (codes "notbefore ") line fields → ⊥)
    → ((n : ℕ) → HasNumber (codes "withdraw ") line n → ⊥) → (change : Change) → IsAsked line change → ⊥
no_change line not_started not_chosen not_earliest not_withdrawn (Fix (Started t o time)) asked =
    not_started (record { at_train = t; at_op = o; last = time }) (record { within = asked.within; text = asked.text })
no_change line not_started not_chosen not_earliest not_withdrawn (Fix (Chosen t o next)) asked =
    not_chosen (record { at_train = t; at_op = o; last = next }) (record { within = asked.within; text = asked.text })
no_change line not_started not_chosen not_earliest not_withdrawn (Fix (NotBefore t o time)) asked =
    not_earliest (record { at_train = t; at_op = o; last = time }) (record { within = asked.within; text = asked.text })
no_change line not_started not_chosen not_earliest not_withdrawn (Withdraw n) asked =
    not_withdrawn n (record { within = asked.within; text = asked.text })

-- the first byte of a change's line, by which its word is known
abbrev initial : Change → ℕ
initial (Fix (Started t o time)) = 115
initial (Fix (Chosen t o next)) = 99
initial (Fix (NotBefore t o time)) = 110
initial (Withdraw n) = 119

is_initial : (change : Change) → get_or (change_text change) 0 0 ≡ initial change
is_initial (Fix (Started t o time)) = refl
is_initial (Fix (Chosen t o next)) = refl
is_initial (Fix (NotBefore t o time)) = refl
is_initial (Withdraw n) = refl

same_initial : (line : List ℕ) (c d : Change) → IsAsked line c → IsAsked line d → initial c ≡ initial d
same_initial line c d one other =
    sym (is_initial c) ∙ ap (λ (l : List ℕ). get_or l 0 0) (sym one.text ∙ other.text) ∙ is_initial d

-- the fields behind one word are one
same_behind : (word line : List ℕ) (t o n u p m : ℕ) → AreInLine t o n → AreInLine u p m
    → line ≡ word ++ fields_text t o n → line ≡ word ++ fields_text u p m → (t ≡ u) × (o ≡ p) × (n ≡ m)
same_behind word line t o n u p m one other here there =
    same_fields (fields_text t o n) (record { at_train = t; at_op = o; last = n })
    (record { at_train = u; at_op = p; last = m }) (record { within = one; text = refl })
    (record { within = other; text = append_cancel_left word _ _ (sym here ∙ there) })

-- a line asks for one change
same_change : (line : List ℕ) (c d : Change) → IsAsked line c → IsAsked line d → c ≡ d
same_change line (Fix (Started t o n)) (Fix (Started u p m)) one other =
    let same = same_behind (codes "started ") line t o n u p m one.within other.within one.text other.text in
    ap (λ (x : ℕ). Fix (Started x o n)) same.0 ∙ ap (λ (x : ℕ). Fix (Started u x n)) same.1 ∙ ap (λ (x : ℕ). Fix (Started u p x)) same.2
same_change line (Fix (Started t o n)) (Fix (Chosen u p m)) one other = absurd (omega (arith, same_initial line _ _ one other))
same_change line (Fix (Started t o n)) (Fix (NotBefore u p m)) one other = absurd (omega (arith, same_initial line _ _ one other))
same_change line (Fix (Started t o n)) (Withdraw m) one other = absurd (omega (arith, same_initial line _ _ one other))
same_change line (Fix (Chosen t o n)) (Fix (Started u p m)) one other = absurd (omega (arith, same_initial line _ _ one other))
same_change line (Fix (Chosen t o n)) (Fix (Chosen u p m)) one other =
    let same = same_behind (codes "chosen ") line t o n u p m one.within other.within one.text other.text in
    ap (λ (x : ℕ). Fix (Chosen x o n)) same.0 ∙ ap (λ (x : ℕ). Fix (Chosen u x n)) same.1 ∙ ap (λ (x : ℕ). Fix (Chosen u p x)) same.2
same_change line (Fix (Chosen t o n)) (Fix (NotBefore u p m)) one other = absurd (omega (arith, same_initial line _ _ one other))
same_change line (Fix (Chosen t o n)) (Withdraw m) one other = absurd (omega (arith, same_initial line _ _ one other))
same_change line (Fix (NotBefore t o n)) (Fix (Started u p m)) one other = absurd (omega (arith, same_initial line _ _ one other))
same_change line (Fix (NotBefore t o n)) (Fix (Chosen u p m)) one other = absurd (omega (arith, same_initial line _ _ one other))
same_change line (Fix (NotBefore t o n)) (Fix (NotBefore u p m)) one other =
    let same = same_behind (codes "notbefore ") line t o n u p m one.within other.within one.text other.text in
    ap (λ (x : ℕ). Fix (NotBefore x o n)) same.0 ∙ ap (λ (x : ℕ). Fix (NotBefore u x n)) same.1 ∙ ap (λ (x : ℕ). Fix (NotBefore u p x)) same.2
same_change line (Fix (NotBefore t o n)) (Withdraw m) one other = absurd (omega (arith, same_initial line _ _ one other))
same_change line (Withdraw n) (Fix (Started u p m)) one other = absurd (omega (arith, same_initial line _ _ one other))
same_change line (Withdraw n) (Fix (Chosen u p m)) one other = absurd (omega (arith, same_initial line _ _ one other))
same_change line (Withdraw n) (Fix (NotBefore u p m)) one other = absurd (omega (arith, same_initial line _ _ one other))
same_change line (Withdraw n) (Withdraw m) one other =
    let text : decimal n ≡ decimal m = append_cancel_left (codes "withdraw ") _ _ (sym one.text ∙ other.text) in
    ap Withdraw (decimal_injective n m one.within other.within text)

-- no change's line is that of a look
not_show : (change : Change) → change_text change ≡ show_text → ⊥
not_show (Fix (Started t o n)) same = let differ : 116 ≡ 104 = ap (λ (l : List ℕ). get_or l 1 0) same in omega (arith, differ)
not_show (Fix (Chosen t o n)) same = let differ : 99 ≡ 115 = ap (λ (l : List ℕ). get_or l 0 0) same in omega (arith, differ)
not_show (Fix (NotBefore t o n)) same = let differ : 110 ≡ 115 = ap (λ (l : List ℕ). get_or l 0 0) same in omega (arith, differ)
not_show (Withdraw n) same = let differ : 119 ≡ 115 = ap (λ (l : List ℕ). get_or l 0 0) same in omega (arith, differ)

same_request : (line : List ℕ) (r q : Request) → Reads line r → Reads line q → r ≡ q
same_request line (Ask f) (Ask g) one other = ap Ask (same_change line f g one other)
same_request line (Ask f) Show one other = absurd (not_show f (sym one.text ∙ other))
same_request line (Ask f) Unreadable one other = absurd (other.not_asked f one)
same_request line Show (Ask g) one other = absurd (not_show g (sym other.text ∙ one))
same_request line Show Show one other = refl
same_request line Show Unreadable one other = absurd (other.not_show one)
same_request line Unreadable (Ask g) one other = absurd (one.not_asked g other)
same_request line Unreadable Show one other = absurd (one.not_show other)
same_request line Unreadable Unreadable one other = refl

-- a line is read as one request alone
pub reads_one : (line : List ℕ) (r : Request) → Reads line r → (q : Request) → (r ≡ q) ↔ Reads line q
reads_one line r one q = ((λ (same : r ≡ q). subst (Reads line) same one), same_request line r q one)
