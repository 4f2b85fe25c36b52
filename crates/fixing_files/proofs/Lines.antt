-- Lines that are taken one after the other.
use Rattle.std.proofs.Common.{◌≡◌, ℕ, zero, suc, ◌+◌, ◌-◌, ◌<◌, ◌≤◌, List, [], ◌∷◌, ◌++◌, length, take, drop, Option, Some, None, refl, sym, subst, ap, ◌∙◌, arith}
use Rattle.std.specs.Prelude.{slice_get, IfSome}
use Rattle.disp_model.specs.declared.fixing.Change.{Change}
use Rattle.disp_model.specs.declared.problem.Problem.{Problem}
use Rattle.disp_model.specs.declared.limits.TheConstants.{MOST_LINES}
use Rattle.fixing_files.specs.declared.take.LineNo.{LineNo}
use Rattle.fixing_files.specs.declared.take.LineNo.TheVariants as why
use Rattle.fixing_files.specs.declared.take.FileNo.{FileNo}
use Rattle.fixing_files.specs.declared.take.FileNo.TheVariants.{Line, Failed, Memory}
use Rattle.fixing_files.specs.Files.{TakesLine, TakesAll, TakesFirst, HasRead, StopsLine, StopsBy, StopsAt, StopsFirst, HasFirst, LeavesAt, Leaves, RefusesNext, RefusesEnd, RefusesFile, TakesChange, TakesInTurn, LineAsks, AskInTurn, FirstAsks, NotesText, NotesNext, HasNoted}
use Rattle.disp_outside.specs.Lines.{GivesLine}
use Rattle.fixing_lines.specs.Requests.{IsAsked}

-- one more line
pub takes_more : (problem : Problem) (old mid new : List Change) (k : ℕ) (lines : List (List ℕ)) (line : List ℕ) (rest : List (List ℕ)) → drop k lines ≡ line ∷ rest
    → TakesAll problem old (take k lines) mid → TakesLine problem mid line new → TakesAll problem old (take (k + 1) lines) new
takes_more problem old mid new zero [] line rest e all one = cc
takes_more problem old mid new zero (x ∷ xs) line rest e all one =
    let first : x ≡ line = head e in
    (new, rw (first, ← all) one, refl)
  where
    head : {a b : List ℕ} {xs ys : List (List ℕ)} → (a ∷ xs) ≡ (b ∷ ys) → a ≡ b
    head e = cc
takes_more problem old mid new (suc k) [] line rest e all one = cc
takes_more problem old mid new (suc k) (x ∷ xs) line rest e all one =
    let more : suc k + 1 ≡ suc (k + 1) = omega arith in
    rw more (all.0, all.1, takes_more problem all.0 mid new k xs line rest e all.2 one)

-- what is left after it
pub left_after : (k : ℕ) (lines : List (List ℕ)) (line : List ℕ) (rest : List (List ℕ)) → drop k lines ≡ line ∷ rest → drop (k + 1) lines ≡ rest
left_after zero [] line rest e = cc
left_after zero (x ∷ xs) line rest e = cc
left_after (suc k) [] line rest e = cc
left_after (suc k) (x ∷ xs) line rest e =
    let more : suc k + 1 ≡ suc (k + 1) = omega arith in
    rw more (left_after k xs line rest e)

-- it stands at its place
pub stands_at : (k : ℕ) (lines : List (List ℕ)) (line : List ℕ) (rest : List (List ℕ)) → drop k lines ≡ line ∷ rest → slice_get lines k ≡ Some line
stands_at zero [] line rest e = cc
stands_at zero (x ∷ xs) line rest e = cc
stands_at (suc k) [] line rest e = cc
stands_at (suc k) (x ∷ xs) line rest e = stands_at k xs line rest e

-- where none is left all were taken
pub all_taken : (k : ℕ) (lines : List (List ℕ)) → drop k lines ≡ [] → take k lines ≡ lines
all_taken zero [] e = refl
all_taken zero (x ∷ xs) e = cc
all_taken (suc k) [] e = refl
all_taken (suc k) (x ∷ xs) e = ap (λ (ys : List (List ℕ)). x ∷ ys) (all_taken k xs e)

-- where some are left there are more than were taken
pub some_left : (k : ℕ) (lines : List (List ℕ)) → 0 < length (drop k lines) → k < length lines
some_left zero lines lt = lt
some_left (suc k) [] lt = absurd (omega (arith, lt))
some_left (suc k) (x ∷ xs) lt =
    let more : k < length xs = some_left k xs lt in
    omega (arith, more)

-- where reading stands one line on
pub at_more : (problem : Problem) (told now then_told : Option (List (List ℕ))) (k : ℕ) (old new : List Change) → HasRead problem told now k old
    → IfSome now (λ lines. TakesFirst problem old lines then_told new) → HasRead problem told then_told (k + 1) new
at_more problem None now then_told k old new at first = tt
at_more problem (Some lines) now then_told k old new (left, all) first =
    go (drop k lines) refl (subst (λ (n : Option (List (List ℕ))). IfSome n (λ ls. TakesFirst problem old ls then_told new)) left first)
  where
    go : (rest : List (List ℕ)) → drop k lines ≡ rest → TakesFirst problem old rest then_told new → HasRead problem (Some lines) then_told (k + 1) new
    go [] e one = absurd one
    go (line ∷ rest) e one = (one.1 ∙ ap Some (sym (left_after k lines line rest e)), takes_more problem [] old new k lines line rest e all one.0)

-- where none is left all are taken
pub at_end : (problem : Problem) (told now : Option (List (List ℕ))) (k : ℕ) (old new : List Change) → HasRead problem told now k old → IfSome now (λ lines. lines ≡ []) → new ≡ old
    → IfSome told (λ lines. TakesAll problem [] lines new)
at_end problem None now k old new at none same = tt
at_end problem (Some lines) now k old new (left, all) none same =
    let empty : drop k lines ≡ [] = subst (λ (n : Option (List (List ℕ))). IfSome n (λ ls. ls ≡ [])) left none in
    rw same (subst (λ (ls : List (List ℕ)). TakesAll problem [] ls old) (all_taken k lines empty) all)

-- where none is left there are no more lines than were taken
pub at_few : (problem : Problem) (told now : Option (List (List ℕ))) (k most : ℕ) (changes : List Change) → HasRead problem told now k changes → IfSome now (λ lines. lines ≡ []) → k ≤ most → IfSome told (λ lines. length lines ≤ most)
at_few problem None now k most changes at none le = tt
at_few problem (Some lines) now k most changes (left, all) none le =
    let empty : drop k lines ≡ [] = subst (λ (n : Option (List (List ℕ))). IfSome n (λ ls. ls ≡ [])) left none in
    omega (arith, le, few k lines empty)
  where
    few : (k : ℕ) (lines : List (List ℕ)) → drop k lines ≡ [] → length lines ≤ k
    few zero [] e = omega arith
    few zero (x ∷ xs) e = cc
    few (suc k) [] e = omega arith
    few (suc k) (x ∷ xs) e = omega (arith, few k xs e)

-- the line that is not taken is the next one
pub at_stop : (problem : Problem) (told now left : Option (List (List ℕ))) (k : ℕ) (changes : List Change) (refusal : FileNo) → k < MOST_LINES → HasRead problem told now k changes → RefusesNext problem changes now left (k + 1) refusal → RefusesFile problem told refusal
at_stop problem None now left k changes (Line n reason) lt at stops = tt
at_stop problem told now left k changes Failed lt at stops = tt
at_stop problem told now left k changes Memory lt at stops = tt
at_stop problem (Some lines) now left k changes (Line n reason) lt (at, all) (number, stops) =
    go (drop k lines) refl (subst (λ (m : Option (List (List ℕ))). IfSome m (λ ls. StopsFirst problem changes ls left reason)) at stops)
  where
    by : (reason : LineNo) (line : List ℕ) → slice_get lines k ≡ Some line → StopsLine problem changes line reason → StopsBy problem changes lines k reason
    by why.Unreadable line there stop = (line, lt, there, stop)
    by why.Long line there stop = (line, lt, there, stop)
    by (why.Refused refusal) line there stop = (line, lt, there, stop)
    by why.TooMany line there stop = absurd stop

    go : (rest : List (List ℕ)) → drop k lines ≡ rest → StopsFirst problem changes rest left reason → StopsAt problem lines n reason
    go [] e stop = absurd stop
    go (line ∷ rest) e stop = record { place = k; counted = number; changes = changes; before = all; stops = by reason line (stands_at k lines line rest e) stop.0 }

-- the changes are those of the lines before it, and those behind it are left
pub leaves_stop : (problem : Problem) (told now left : Option (List (List ℕ))) (k : ℕ) (old new : List Change) (refusal : FileNo) → HasRead problem told now k old → new ≡ old → RefusesNext problem old now left (k + 1) refusal
    → IfSome told (λ lines. Leaves problem lines left new refusal)
leaves_stop problem None now left k old new refusal at same stops = tt
leaves_stop problem (Some lines) now left k old new Failed at same stops = record { count = k; front = rw same at.1 }
leaves_stop problem (Some lines) now left k old new Memory at same stops = record { count = k; front = rw same at.1 }
leaves_stop problem (Some lines) now left k old new (Line n reason) (at, all) same (number, stops) =
    go (drop k lines) refl (subst (λ (m : Option (List (List ℕ))). IfSome m (λ ls. StopsFirst problem old ls left reason)) at stops)
  where
    go : (rest : List (List ℕ)) → drop k lines ≡ rest → StopsFirst problem old rest left reason → LeavesAt problem lines left new n
    go [] e stop = absurd stop
    go (line ∷ rest) e stop = record { place = k; counted = number; before = rw same all; behind = rw number (stop.1 ∙ ap Some (sym (left_after k lines line rest e))) }

-- a line behind as many as are read
pub at_too_many : (problem : Problem) (told now left : Option (List (List ℕ))) (changes : List Change) (refusal : FileNo) → HasRead problem told now MOST_LINES changes → RefusesEnd now left refusal → RefusesFile problem told refusal
at_too_many problem None now left changes (Line n reason) at stops = tt
at_too_many problem told now left changes Failed at stops = tt
at_too_many problem told now left changes Memory at stops = tt
at_too_many problem (Some lines) now left changes (Line n reason) (at, all) (number, is, first) =
    let more : HasFirst (drop MOST_LINES lines) left = subst (λ (m : Option (List (List ℕ))). IfSome m (λ ls. HasFirst ls left)) at first in
    record { place = MOST_LINES; counted = number; changes = changes; before = all; stops = rw is (refl, some_left MOST_LINES lines (some (drop MOST_LINES lines) more)) }
  where
    some : (rest : List (List ℕ)) → HasFirst rest left → 0 < length rest
    some [] first = absurd first
    some (line ∷ rest) first = omega arith

-- all lines behind it are left
pub leaves_too_many : (problem : Problem) (told now left : Option (List (List ℕ))) (changes : List Change) (refusal : FileNo) → HasRead problem told now MOST_LINES changes → RefusesEnd now left refusal
    → IfSome told (λ lines. Leaves problem lines left changes refusal)
leaves_too_many problem None now left changes refusal at stops = tt
leaves_too_many problem (Some lines) now left changes Failed at stops = record { count = MOST_LINES; front = at.1 }
leaves_too_many problem (Some lines) now left changes Memory at stops = absurd stops
leaves_too_many problem (Some lines) now left changes (Line n reason) (at, all) (number, is, first) =
    go (drop MOST_LINES lines) refl (subst (λ (m : Option (List (List ℕ))). IfSome m (λ ls. HasFirst ls left)) at first)
  where
    go : (rest : List (List ℕ)) → drop MOST_LINES lines ≡ rest → HasFirst rest left → LeavesAt problem lines left changes n
    go [] e first = absurd first
    go (line ∷ rest) e first = record { place = MOST_LINES; counted = number; before = all; behind = rw number (first ∙ ap Some (sym (left_after MOST_LINES lines line rest e))) }

-- one more change
pub in_turn_more : (problem : Problem) (old mid new asked : List Change) (change : Change)
    → TakesInTurn problem old asked mid → TakesChange problem mid change new
    → TakesInTurn problem old (asked ++ change ∷ []) new
in_turn_more problem old mid new [] change same one =
    (new, subst (λ (m : List Change). TakesChange problem m change new) same one, refl)
in_turn_more problem old mid new (first ∷ asked) change (next, takes, all) one =
    (next, takes, in_turn_more problem next mid new asked change all one)

-- one more line that asks
ask_more : (k : ℕ) (lines : List (List ℕ)) (line : List ℕ) (rest : List (List ℕ))
    (asked : List Change) (change : Change) → drop k lines ≡ line ∷ rest
    → AskInTurn (take k lines) asked → LineAsks line change
    → AskInTurn (take (k + 1) lines) (asked ++ change ∷ [])
ask_more zero [] line rest asked change e all one = cc
ask_more zero (x ∷ xs) line rest [] change e all one =
    let first : x ≡ line = head e in
    (rw first one, tt)
  where
    head : {a b : List ℕ} {xs ys : List (List ℕ)} → (a ∷ xs) ≡ (b ∷ ys) → a ≡ b
    head e = cc
ask_more zero (x ∷ xs) line rest (first ∷ asked) change e all one = absurd all
ask_more (suc k) [] line rest asked change e all one = cc
ask_more (suc k) (x ∷ xs) line rest [] change e all one = absurd all
ask_more (suc k) (x ∷ xs) line rest (first ∷ asked) change e all one =
    let more : suc k + 1 ≡ suc (k + 1) = omega arith in
    rw more (all.0, ask_more k xs line rest asked change e all.1 one)

-- what the text of the next line asks for is noted
pub next_noted : (problem : Problem) (old : List Change) (told left : Option (List (List ℕ)))
    (text : List ℕ) (new asked noted : List Change) → GivesLine told left text
    → NotesText problem old text new asked noted → NotesNext problem old told new asked noted
next_noted problem old None left text new asked noted gives notes =
    record { change = notes.change; asks = tt; takes = notes.takes; noted_is = notes.noted_is }
next_noted problem old (Some []) left text new asked noted gives notes = absurd gives
next_noted problem old (Some (line ∷ lines)) left text new asked noted gives notes = record {
  change = notes.change;
  asks = (gives.1, subst (λ (t : List ℕ). IsAsked t notes.change) gives.0 notes.asks);
  takes = notes.takes;
  noted_is = notes.noted_is;
}

-- what is noted, one line on
pub noted_more : (problem : Problem) (told now : Option (List (List ℕ))) (k : ℕ)
    (old new asked noted : List Change) → HasRead problem told now k old
    → HasNoted problem told k asked old → NotesNext problem old now new asked noted
    → HasNoted problem told (k + 1) noted new
noted_more problem None now k old new asked noted at (turn, all) next =
    (rw next.noted_is (in_turn_more problem [] old new asked next.change turn next.takes), tt)
noted_more problem (Some lines) now k old new asked noted (left, read) (turn, all) next = (
  rw next.noted_is (in_turn_more problem [] old new asked next.change turn next.takes),
  rw next.noted_is (go (drop k lines) refl
      (subst (λ (n : Option (List (List ℕ))). IfSome n (λ ls. FirstAsks ls next.change)) left
      next.asks)),
)
  where
    go : (rest : List (List ℕ)) → drop k lines ≡ rest → FirstAsks rest next.change
        → AskInTurn (take (k + 1) lines) (asked ++ next.change ∷ [])
    go [] e one = absurd one
    go (line ∷ rest) e one = ask_more k lines line rest asked next.change e all one

-- where none is left each line has asked
pub all_asked : (problem : Problem) (told now : Option (List (List ℕ))) (k : ℕ)
    (changes asked : List Change) → HasRead problem told now k changes
    → HasNoted problem told k asked changes → IfSome now (λ lines. lines ≡ [])
    → IfSome told (λ lines. AskInTurn lines asked)
all_asked problem None now k changes asked at noted none = tt
all_asked problem (Some lines) now k changes asked (left, read) (turn, all) none =
    let empty : drop k lines ≡ [] =
    subst (λ (n : Option (List (List ℕ))). IfSome n (λ ls. ls ≡ [])) left none in
    subst (λ (ls : List (List ℕ)). AskInTurn ls asked) (all_taken k lines empty) all

-- a number from 1 on, and the lines before it
pub next_is : (number : ℕ) → 1 ≤ number → (number - 1) + 1 ≡ number
next_is number le = omega arith

pub then_is : (number : ℕ) → 1 ≤ number → (number + 1) - 1 ≡ (number - 1) + 1
then_is number le = omega arith
