-- Entries answer lines, one after the other.
use Rattle.std.proofs.Common.{◌≡◌, ◌∙◌, ℕ, zero, suc, ◌+◌, ◌<◌, ◌≤◌, List, [], ◌∷◌, ◌++◌, length, drop, Option, None, Some, refl, sym, ap, subst, arith}
use Rattle.std.specs.Prelude.{IfSome}
use Rattle.std.proofs.lemmas.List.{drop_all, length-append, length-drop}
use Rattle.std.proofs.lemmas.Option.{none-some, same_Some}
use Rattle.disp_outside.specs.Lines.{GivesLine, NoneLeft, Skips, text_of, without_end}
use Rattle.disp_model.specs.declared.entry.Entry.{Entry}
use Rattle.disp_model.specs.declared.entry.Entry.TheVariants.{Asked, Unread, Shown, Grown, Published, Settled, Stopped}
use Rattle.disp_model.specs.declared.entry.Unasked.TheVariants.{Unreadable, Long, TooMany}
use Rattle.disp_model.specs.declared.limits.TheConstants.{MOST_LINES}
use Rattle.feed_reader.specs.declared.read.Reading.TheVariants as reading
use Rattle.feed_reader.specs.Answered.{AnswersText, AnswersLine, AnswerLines, AnswersAs, AnsweredSome, AnswersNext, IsReadTo, one_too_many}

abbrev pub Lines : Type 0
Lines = List (List ℕ)

head_same : (l line : List ℕ) (ls rest : Lines) → l ∷ ls ≡ line ∷ rest → l ≡ line
head_same l line ls rest is = cc

answer_more : (feed first : ℕ) (lines : Lines) (entries : List Entry) (line : List ℕ) (rest : Lines) (one : Entry) → AnswerLines feed first lines entries
    → drop (length entries) lines ≡ line ∷ rest → AnswersLine feed (first + length entries) line one → AnswerLines feed first lines (entries ++ one ∷ [])
answer_more feed first [] [] line rest one is next answers = absurd (cc)
answer_more feed first [] (entry ∷ entries) line rest one is next answers = absurd is
answer_more feed first (l ∷ lines) [] line rest one is next answers =
    (subst (λ (n : ℕ). AnswersLine feed n l one) (omega arith) (subst (λ (x : List ℕ). AnswersLine feed (first + 0) x one) (sym (head_same l line lines rest next)) answers), tt)
answer_more feed first (l ∷ lines) (entry ∷ entries) line rest one (here, is) next answers =
    (here, answer_more feed (first + 1) lines entries line rest one is next (subst (λ (n : ℕ). AnswersLine feed n line one) (shift first (length entries)) answers))
  where
    shift : (n m : ℕ) → n + suc m ≡ n + 1 + m
    shift n m = omega arith

drop_next : (k : ℕ) (lines : Lines) (line : List ℕ) (rest : Lines) → drop k lines ≡ line ∷ rest → (k < length lines) × (drop (suc k) lines ≡ rest)
drop_next k [] line rest is = absurd (empty (sym (drop_all k [] (omega arith)) ∙ is))
  where
    empty : [] ≡ line ∷ rest → ⊥
    empty e = cc
drop_next zero (l ∷ lines) line rest is = (omega arith, cc)
drop_next (suc k) (l ∷ lines) line rest is = let more = drop_next k lines line rest is in (let lt = more.0 in omega arith, more.1)

module _ (feed count lines : ℕ) where
  -- one line more is read
  pub read_more : (told left next : Option Lines) (before after : List Entry) (lines_then : ℕ) → IsReadTo feed count lines told left before → AnswersNext feed (lines + 1) left next before after
      → lines_then ≡ lines + 1 → IsReadTo feed (count + 1) lines_then told next after
  read_more told left next before after lines_then to answers one_more = by_left told left to.answered answers
    where
      counted_then : lines_then ≡ count + 1
      counted_then = let c = to.counted in omega (arith, c, one_more)

      longer : (one : Entry) → after ≡ before ++ one ∷ [] → length after ≡ count + 1
      longer one is = let l = length-append before (one ∷ []) in let m = to.as_many in let n : length after ≡ length (before ++ one ∷ []) = ap length is in omega arith

      by_left : (told left : Option Lines) → AnsweredSome feed told left before → AnswersNext feed (lines + 1) left next before after → IsReadTo feed (count + 1) lines_then told next after
      by_left None None none (left_is, (one, is)) = record { counted = counted_then; as_many = longer one is; answered = left_is }
      by_left None (Some left) none answers = absurd (none-some left (sym none))
      by_left (Some all) None (are, within, left_is) answers = absurd (none-some (drop (length before) all) left_is)
      by_left (Some all) (Some []) so answers = absurd answers
      by_left (Some all) (Some (line ∷ rest)) (are, within, left_is) (next_is, (one, answers, is)) =
          let here : drop (length before) all ≡ line ∷ rest = sym (same_Some (line ∷ rest) (drop (length before) all) left_is) in
          let further = drop_next (length before) all line rest here in
          let number : lines + 1 ≡ 1 + length before = (let c = to.counted in let m = to.as_many in omega arith) in
          let place : length after ≡ suc (length before) = (let l = longer one is in let m = to.as_many in omega arith) in
          record {
            counted = counted_then;
            as_many = longer one is;
            answered = (
              subst (AnswerLines feed 1 all) (sym is)
                  (answer_more feed 1 all before line rest one are here (subst (λ (n : ℕ). AnswersLine feed n line one) number answers)),
              (let lt = further.0 in omega (arith, lt, place)),
              next_is ∙ ap Some (sym (ap (λ (n : ℕ). drop n all) place ∙ further.1)),
            );
          }

-- ---- one line is answered

line_answers : (feed number : ℕ) (line : List ℕ) (one : Entry) → length (without_end line) ≤ 256 → AnswersText feed number (text_of line) one → AnswersLine feed number line one
line_answers feed number line (Asked f n change told) short answers = (short, answers)
line_answers feed number line (Shown f n standing) short answers = (short, answers)
line_answers feed number line (Unread f n Unreadable) short answers = (short, answers)
line_answers feed number line (Unread f n Long) short answers = absurd answers
line_answers feed number line (Unread f n TooMany) short answers = absurd answers
line_answers feed number line (Grown searcher edition seen node splits) short answers = absurd answers
line_answers feed number line (Published edition plan cost) short answers = absurd answers
line_answers feed number line (Settled edition verdict tree) short answers = absurd answers
line_answers feed number line (Stopped edition spent bound) short answers = absurd answers

pub got_answers : (feed number : ℕ) (told left : Option Lines) (text : List ℕ) (before after : List Entry) → GivesLine told left text
    → ((one : Entry) × AnswersText feed number text one × (after ≡ before ++ one ∷ [])) → AnswersNext feed number told left before after
got_answers feed number None left text before after is (one, answers, added) = (is, (one, added))
got_answers feed number (Some []) left text before after is (one, answers, added) = absurd is
got_answers feed number (Some (line ∷ rest)) left text before after (same, short, left_is) (one, answers, added) =
    (left_is, (one, line_answers feed number line one short (subst (λ (t : List ℕ). AnswersText feed number t one) same answers), added))

pub long_answers : (feed number : ℕ) (told left : Option Lines) (before after : List Entry) → Skips told left → after ≡ before ++ Unread feed number Long ∷ [] → AnswersNext feed number told left before after
long_answers feed number None left before after is added = (is, (Unread feed number Long, added))
long_answers feed number (Some []) left before after is added = absurd is
long_answers feed number (Some (line ∷ rest)) left before after (long, left_is) added = (left_is, (Unread feed number Long, ((refl, refl), long), added))

-- ---- how the reading ends

nothing_left : (k : ℕ) (lines : Lines) → drop k lines ≡ [] → length lines ≤ k
nothing_left k lines is = let d = length-drop k lines in let z : length (drop k lines) ≡ 0 = ap length is in omega arith

module _ (feed count lines : ℕ) where
  pub ends_read : (told left : Option Lines) (entries : List Entry) → count ≤ MOST_LINES
      → IsReadTo feed count lines told left entries → NoneLeft left
      → IfSome told (λ all. AnswersAs feed all entries reading.Ended)
  ends_read None left entries few to none = tt
  ends_read (Some all) None entries few to none =
      absurd (none-some (drop (length entries) all) to.answered.2)
  ends_read (Some all) (Some left) entries few to none =
      let same : left ≡ drop (length entries) all = same_Some left (drop (length entries) all) to.answered.2 in
      let long = nothing_left (length entries) all (sym same ∙ none) in
      let within = to.answered.1 in
      let as_many = to.as_many in
      (to.answered.0, omega (arith, long, within), omega (arith, as_many, few))

  pub ends_failed : (told left : Option Lines) (entries : List Entry) → IsReadTo feed count lines told left entries → IfSome told (λ all. AnswersAs feed all entries reading.Failed)
  ends_failed None left entries to = tt
  ends_failed (Some all) left entries to = to.answered.0

  pub ends_full : (told left : Option Lines) (before after : List Entry) → count ≡ MOST_LINES → IsReadTo feed count lines told left before → IfSome left (λ more. 0 < length more)
      → after ≡ before ++ one_too_many feed ∷ [] → IfSome told (λ all. AnswersAs feed all after reading.TooMany)
  ends_full None left before after full to more is = tt
  ends_full (Some all) None before after full to more is = absurd (none-some (drop (length before) all) to.answered.2)
  ends_full (Some all) (Some left) before after full to more is =
      let same : left ≡ drop (length before) all = same_Some left (drop (length before) all) to.answered.2 in
      let d = length-drop (length before) all in
      let l : length left ≡ length (drop (length before) all) = ap length same in
      let m = to.as_many in
      (before, is, to.answered.0, m ∙ full, omega (arith, full, more))
