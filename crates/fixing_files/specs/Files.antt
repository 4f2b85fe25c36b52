-- Files of fixings: each line asks for a change, which is accepted or known.
use Rattle.std.specs.Prelude.{◌≡◌, ℕ, ◌+◌, ◌<◌, ◌≤◌, List, [], ◌∷◌, ◌++◌, length, take, drop, Option, Some, IfSome, slice_get}
use Rattle.disp_outside.specs.Lines.{text_of, without_end}
use Rattle.disp_model.specs.declared.limits.TheConstants.{MOST_LINES}
use Rattle.disp_model.specs.declared.fixing.Change.{Change}
use Rattle.disp_model.specs.declared.problem.Problem.{Problem}
use Rattle.disp_model.specs.declared.reply.Reply.{Reply}
use Rattle.disp_model.specs.declared.reply.Reply.TheVariants.{Accepted, Known, Refused}
use Rattle.disp_model.specs.Replies.{IsReply}
use Rattle.fixing_editions.specs.Edition.{changes_after}
use Rattle.fixing_files.specs.declared.take.LineNo.{LineNo}
use Rattle.fixing_files.specs.declared.take.LineNo.TheVariants as why
use Rattle.fixing_files.specs.declared.take.FileNo.{FileNo}
use Rattle.fixing_files.specs.declared.take.FileNo.TheVariants.{Line, Failed, Memory}
use Rattle.fixing_lines.specs.Requests.{IsAsked}

-- the reply takes the change: it is accepted, or stands already
abbrev pub IsTaken : Reply → Type 0
IsTaken (Accepted number) = Unit {0}
IsTaken (Known number) = Unit {0}
IsTaken (Refused why) = ⊥

-- a change is taken: the changes after it
pub record TakesChange (problem : Problem) (old : List Change) (change : Change) (new : List Change)
    : Type 0 where
  pub reply : Reply
  pub reply_is : IsReply problem old change reply
  pub taken : IsTaken reply
  pub after : new ≡ changes_after old change reply

-- a text asks for a change that is taken
abbrev pub TakesText : Problem → List Change → List ℕ → List Change → Type 0
TakesText problem old text new = (change : Change) × IsAsked text change
    × TakesChange problem old change new

-- a line is short enough, and asks for a change that is taken
abbrev pub TakesLine : Problem → List Change → List ℕ → List Change → Type 0
TakesLine problem old line new = (length (without_end line) ≤ 256)
    × TakesText problem old (text_of line) new

-- so do all lines, one after the other
abbrev pub TakesAll : Problem → List Change → List (List ℕ) → List Change → Type 0
TakesAll problem old [] new = new ≡ old
TakesAll problem old (line ∷ lines) new = (mid : List Change) × TakesLine problem old line mid
    × TakesAll problem mid lines new

-- each of the changes is taken, one after the other
abbrev pub TakesInTurn : Problem → List Change → List Change → List Change → Type 0
TakesInTurn problem old [] new = new ≡ old
TakesInTurn problem old (change ∷ asked) new =
    (mid : List Change) × TakesChange problem old change mid × TakesInTurn problem mid asked new

-- a line is short enough, and asks for the change
abbrev pub LineAsks : List ℕ → Change → Type 0
LineAsks line change = (length (without_end line) ≤ 256) × IsAsked (text_of line) change

-- each line asks for its change
abbrev pub AskInTurn : List (List ℕ) → List Change → Type 0
AskInTurn [] [] = Unit {0}
AskInTurn [] (change ∷ asked) = ⊥
AskInTurn (line ∷ lines) [] = ⊥
AskInTurn (line ∷ lines) (change ∷ asked) = LineAsks line change × AskInTurn lines asked

-- why a text is not taken behind these changes
abbrev pub StopsText : Problem → List Change → List ℕ → LineNo → Type 0
StopsText problem changes text why.Unreadable = (change : Change) → IsAsked text change → ⊥
StopsText problem changes text why.Long = ⊥
StopsText problem changes text why.TooMany = ⊥
StopsText problem changes text (why.Refused refusal) = (change : Change) × IsAsked text change
    × IsReply problem changes change (Refused refusal)

-- why a line is not taken behind these changes
abbrev pub StopsLine : Problem → List Change → List ℕ → LineNo → Type 0
StopsLine problem changes line why.Unreadable = (length (without_end line) ≤ 256)
    × StopsText problem changes (text_of line) why.Unreadable
StopsLine problem changes line why.Long = 256 < length (without_end line)
StopsLine problem changes line why.TooMany = ⊥
StopsLine problem changes line (why.Refused refusal) = (length (without_end line) ≤ 256)
    × StopsText problem changes (text_of line) (why.Refused refusal)

-- there is a line at the place, among as many as are read, and it is such
abbrev pub IfSomeLine : List (List ℕ) → ℕ → (List ℕ → Type 0) → Type 0
IfSomeLine lines place Such = (line : List ℕ) × (place < MOST_LINES)
    × (slice_get lines place ≡ Some line) × Such line

-- the line at a place is not taken behind these changes; of one too many only its place tells
abbrev pub StopsBy : Problem → List Change → List (List ℕ) → ℕ → LineNo → Type 0
StopsBy problem changes lines place why.TooMany = (place ≡ MOST_LINES) × (MOST_LINES < length lines)
StopsBy problem changes lines place why.Unreadable =
    IfSomeLine lines place (λ line. StopsLine problem changes line why.Unreadable)
StopsBy problem changes lines place why.Long =
    IfSomeLine lines place (λ line. StopsLine problem changes line why.Long)
StopsBy problem changes lines place (why.Refused refusal) =
    IfSomeLine lines place (λ line. StopsLine problem changes line (why.Refused refusal))

-- the first line that is not taken has this number, counted from 1
pub record StopsAt (problem : Problem) (lines : List (List ℕ)) (number : ℕ) (reason : LineNo)
    : Type 0 where
  pub place : ℕ
  pub counted : number ≡ place + 1
  pub changes : List Change
  pub before : TakesAll problem [] (take place lines) changes
  pub stops : StopsBy problem changes lines place reason

-- why a file of fixings is not taken, where its lines are told
abbrev pub RefusesFile : Problem → Option (List (List ℕ)) → FileNo → Type 0
RefusesFile problem told (Line number reason) =
    IfSome told (λ lines. StopsAt problem lines number reason)
RefusesFile problem told Failed = Unit {0}
RefusesFile problem told Memory = Unit {0}

-- a feed of these lines was read up to the line of this number and no further, and the changes are
-- those of the lines before it
pub record LeavesAt (problem : Problem) (lines : List (List ℕ)) (left : Option (List (List ℕ)))
    (changes : List Change) (number : ℕ) : Type 0 where
  pub place : ℕ
  pub counted : number ≡ place + 1
  pub before : TakesAll problem [] (take place lines) changes
  pub behind : left ≡ Some (drop number lines)

-- the changes are those of so many first lines
pub record LeavesFront (problem : Problem) (lines : List (List ℕ)) (changes : List Change)
    : Type 0 where
  pub count : ℕ
  pub front : TakesAll problem [] (take count lines) changes

-- what is left of a feed of these lines that is not taken, and the changes then
abbrev pub Leaves : Problem → List (List ℕ) → Option (List (List ℕ)) → List Change → FileNo → Type 0
Leaves problem lines left changes (Line number reason) = LeavesAt problem lines left changes number
Leaves problem lines left changes Failed = LeavesFront problem lines changes
Leaves problem lines left changes Memory = LeavesFront problem lines changes

-- ---- for private clauses

-- why the change of the line of this number is not taken
abbrev pub RefusesChange : Problem → List Change → Change → ℕ → FileNo → Type 0
RefusesChange problem changes change number (Line n (why.Refused refusal)) = (n ≡ number)
    × IsReply problem changes change (Refused refusal)
RefusesChange problem changes change number (Line n _) = ⊥
RefusesChange problem changes change number Failed = ⊥
RefusesChange problem changes change number Memory = Unit {0}

-- why the text of the line of this number is not taken
abbrev pub RefusesText : Problem → List Change → List ℕ → ℕ → FileNo → Type 0
RefusesText problem changes text number (Line n reason) = (n ≡ number)
    × StopsText problem changes text reason
RefusesText problem changes text number Failed = ⊥
RefusesText problem changes text number Memory = Unit {0}

-- the first of the lines is taken, and the others are left
abbrev pub TakesFirst : Problem → List Change → List (List ℕ) → Option (List (List ℕ)) → List Change
    → Type 0
TakesFirst problem old [] left new = ⊥
TakesFirst problem old (line ∷ lines) left new = TakesLine problem old line new
    × (left ≡ Some lines)

-- the first of the lines is not taken, and the others are left
abbrev pub StopsFirst : Problem → List Change → List (List ℕ) → Option (List (List ℕ)) → LineNo
    → Type 0
StopsFirst problem changes [] left reason = ⊥
StopsFirst problem changes (line ∷ lines) left reason = StopsLine problem changes line reason
    × (left ≡ Some lines)

-- why the next line, of this number, is not taken
abbrev pub RefusesNext : Problem → List Change → Option (List (List ℕ)) → Option (List (List ℕ)) → ℕ
    → FileNo → Type 0
RefusesNext problem changes told left number (Line n reason) = (n ≡ number)
    × IfSome told (λ lines. StopsFirst problem changes lines left reason)
RefusesNext problem changes told left number Failed = Unit {0}
RefusesNext problem changes told left number Memory = Unit {0}

-- there is a first line, and the others are left
abbrev pub HasFirst : List (List ℕ) → Option (List (List ℕ)) → Type 0
HasFirst [] left = ⊥
HasFirst (line ∷ lines) left = left ≡ Some lines

-- why the end is not there
abbrev pub RefusesEnd : Option (List (List ℕ)) → Option (List (List ℕ)) → FileNo → Type 0
RefusesEnd told left (Line n reason) = (n ≡ MOST_LINES + 1) × (reason ≡ why.TooMany)
    × IfSome told (λ lines. HasFirst lines left)
RefusesEnd told left Failed = Unit {0}
RefusesEnd told left Memory = ⊥

-- a text asks for a change that is taken, and it is noted
pub record NotesText (problem : Problem) (old : List Change) (text : List ℕ) (new : List Change)
    (asked noted : List Change) : Type 0 where
  pub change : Change
  pub asks : IsAsked text change
  pub takes : TakesChange problem old change new
  pub noted_is : noted ≡ asked ++ change ∷ []

-- the first of the lines asks for the change
abbrev pub FirstAsks : List (List ℕ) → Change → Type 0
FirstAsks [] change = ⊥
FirstAsks (line ∷ lines) change = LineAsks line change

-- the next line asks for a change that is taken, and it is noted
pub record NotesNext (problem : Problem) (old : List Change) (told : Option (List (List ℕ)))
    (new : List Change) (asked noted : List Change) : Type 0 where
  pub change : Change
  pub asks : IfSome told (λ lines. FirstAsks lines change)
  pub takes : TakesChange problem old change new
  pub noted_is : noted ≡ asked ++ change ∷ []

-- what the lines so far asked for is noted
abbrev pub HasNoted : Problem → Option (List (List ℕ)) → ℕ → List Change → List Change → Type 0
HasNoted problem told count asked changes =
    TakesInTurn problem [] asked changes × IfSome told (λ lines. AskInTurn (take count lines) asked)

-- how far reading has come: so many lines are taken, and the others are left
abbrev pub HasRead : Problem → Option (List (List ℕ)) → Option (List (List ℕ)) → ℕ → List Change
    → Type 0
HasRead problem told now count changes =
    IfSome told (λ lines. (now ≡ Some (drop count lines))
    × TakesAll problem [] (take count lines) changes)
