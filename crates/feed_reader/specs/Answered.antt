-- The entries that answer the lines of a feed.
use Rattle.std.specs.Prelude.{◌≡◌, ℕ, ◌+◌, ◌<◌, ◌≤◌, List, [], ◌∷◌, ◌++◌, length, drop, Option, None, Some}
use Rattle.disp_outside.specs.Lines.{text_of, without_end}
use Rattle.disp_model.specs.declared.entry.Entry.{Entry}
use Rattle.disp_model.specs.declared.entry.Entry.TheVariants.{Asked, Unread, Shown, Grown, Published, Settled, Stopped}
use Rattle.disp_model.specs.declared.entry.Unasked.TheVariants.{Unreadable, Long, TooMany}
use Rattle.disp_model.specs.declared.limits.TheConstants.{MOST_LINES}
use Rattle.fixing_lines.specs.Requests.{IsAsked, IsUnreadable, show_text}
use Rattle.feed_reader.specs.declared.read.Reading.{Reading}
use Rattle.feed_reader.specs.declared.read.Reading.TheVariants as reading

-- the entry is of this feed's line
abbrev pub IsAtLine : ℕ → ℕ → ℕ → ℕ → Type 0
IsAtLine feed number f n = (f ≡ feed) × (n ≡ number)

-- the entry answers what the line of this feed and number asks
abbrev pub AnswersText : ℕ → ℕ → List ℕ → Entry → Type 0
AnswersText feed number text (Asked f n change told) = IsAtLine feed number f n
    × IsAsked text change
AnswersText feed number text (Shown f n standing) = IsAtLine feed number f n × (text ≡ show_text)
AnswersText feed number text (Unread f n Unreadable) = IsAtLine feed number f n × IsUnreadable text
AnswersText feed number text (Unread f n Long) = ⊥
AnswersText feed number text (Unread f n TooMany) = ⊥
AnswersText feed number text (Grown searcher edition seen node splits) = ⊥
AnswersText feed number text (Published edition plan cost) = ⊥
AnswersText feed number text (Settled edition verdict tree) = ⊥
AnswersText feed number text (Stopped edition spent bound) = ⊥

-- the entry answers a line: one of more than 256 bytes is not read, else its text counts
abbrev pub AnswersLine : ℕ → ℕ → List ℕ → Entry → Type 0
AnswersLine feed number line (Unread f n Long) = IsAtLine feed number f n
    × (256 < length (without_end line))
AnswersLine feed number line entry = (length (without_end line) ≤ 256)
    × AnswersText feed number (text_of line) entry

-- the entries answer the first so many lines, which have these numbers from the first on
abbrev pub AnswerLines : ℕ → ℕ → List (List ℕ) → List Entry → Type 0
AnswerLines feed number lines [] = Unit {0}
AnswerLines feed number [] (entry ∷ entries) = ⊥
AnswerLines feed number (line ∷ lines) (entry ∷ entries) =
    AnswersLine feed number line entry × AnswerLines feed (number + 1) lines entries

-- the entry for a line behind as many as are read
abbrev pub one_too_many : ℕ → Entry
one_too_many feed = Unread feed (MOST_LINES + 1) TooMany

-- the entries answer the lines, where these are told, as the reading ended: all of them, no more
-- than are read; all that are read, and then that there are more; or some from the first on
abbrev pub AnswersAs : ℕ → List (List ℕ) → List Entry → Reading → Type 0
AnswersAs feed lines entries reading.Ended =
    AnswerLines feed 1 lines entries × (length entries ≡ length lines)
    × (length entries ≤ MOST_LINES)
AnswersAs feed lines entries reading.TooMany =
    (read : List Entry) × (entries ≡ read ++ one_too_many feed ∷ []) × AnswerLines feed 1 lines read
    × (length read ≡ MOST_LINES) × (MOST_LINES < length lines)
AnswersAs feed lines entries reading.Failed = AnswerLines feed 1 lines entries
AnswersAs feed lines entries reading.Memory = AnswerLines feed 1 lines entries

-- ---- while a feed is read

-- so many lines are answered, and these are left
abbrev pub AnsweredSome : ℕ → Option (List (List ℕ)) → Option (List (List ℕ)) → List Entry → Type 0
AnsweredSome feed None left entries = left ≡ None
AnsweredSome feed (Some lines) left entries =
    AnswerLines feed 1 lines entries × (length entries ≤ length lines)
    × (left ≡ Some (drop (length entries) lines))

-- the next line is answered by one entry more
abbrev pub AnswersNext : ℕ → ℕ → Option (List (List ℕ)) → Option (List (List ℕ)) → List Entry
    → List Entry → Type 0
AnswersNext feed number None left before after = (left ≡ None)
    × ((entry : Entry) × (after ≡ before ++ entry ∷ []))
AnswersNext feed number (Some []) left before after = ⊥
AnswersNext feed number (Some (line ∷ rest)) left before after =
    (left ≡ Some rest) × ((entry : Entry) × AnswersLine feed number line entry
    × (after ≡ before ++ entry ∷ []))

-- as many entries as lines of the pass have come, and they answer these
pub record IsReadTo (feed count lines : ℕ) (told left : Option (List (List ℕ)))
    (entries : List Entry) : Type 0 where
  pub counted : lines ≡ count
  pub as_many : length entries ≡ count
  pub answered : AnsweredSome feed told left entries
