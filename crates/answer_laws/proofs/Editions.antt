-- The lines of a file of fixings ask for one list of changes, leave one edition, or stop at one line.
use Rattle.std.proofs.Common.{◌≡◌, ◌∙◌, ◌⊎◌, ℕ, zero, suc, ◌<◌, ◌≤◌, List, [], ◌∷◌, length, take, slice_get, refl, sym, ap, subst, inl, inr, arith}
use Rattle.std.specs.Prelude.{Some}
use Rattle.std.proofs.lemmas.Bool.{cases_lt}
use Rattle.std.proofs.lemmas.List.{take-take}
use Rattle.std.proofs.lemmas.Option.{none-some, same_Some}
use Rattle.disp_outside.specs.Lines.{text_of}
use Rattle.disp_model.specs.declared.fixing.Change.{Change}
use Rattle.disp_model.specs.declared.limits.TheConstants.{MOST_LINES}
use Rattle.disp_model.specs.declared.problem.Problem.{Problem}
use Rattle.disp_model.specs.declared.reply.Refusal.{Refusal}
use Rattle.disp_model.specs.declared.reply.Reply.{Reply}
use Rattle.disp_model.specs.declared.reply.Reply.TheVariants.{Refused}
use Rattle.disp_model.specs.Replies.{IsReply}
use Rattle.disp_laws.proofs.OneReply.{one_reply}
use Rattle.fixing_editions.specs.Edition.{changes_after}
use Rattle.fixing_lines.specs.declared.request.Request.TheVariants.{Ask}
use Rattle.fixing_lines.specs.Requests.{IsAsked}
use Rattle.fixing_lines.proofs.Words.{reads_one}
use Rattle.fixing_files.specs.declared.take.LineNo.{LineNo}
use Rattle.fixing_files.specs.declared.take.LineNo.TheVariants as why
use Rattle.fixing_files.specs.Files.{IsTaken, TakesChange, TakesLine, TakesAll, TakesInTurn, AskInTurn, StopsLine, StopsBy, StopsAt}

-- an element stands in a front
in_front : (lines : List (List ℕ)) (i k : ℕ) (line : List ℕ) → i < k
    → slice_get lines i ≡ Some line → slice_get (take k lines) i ≡ Some line
in_front [] i k line lt at = absurd (none-some line at)
in_front (first ∷ lines) i zero line lt at = absurd (omega (arith, lt))
in_front (first ∷ lines) zero (suc k) line lt at = at
in_front (first ∷ lines) (suc i) (suc k) line lt at = in_front lines i k line (omega (arith, lt)) at

-- ---- one change

-- a line asks for one change
same_asked : (line : List ℕ) (one other : Change) → IsAsked line one → IsAsked line other
    → one ≡ other
same_asked line one other a b = same ((reads_one line (Ask one) a (Ask other)).1 b)
  where
    same : Ask one ≡ Ask other → one ≡ other
    same e = cc

-- the changes that lines ask for
pub same_turn_asked : (lines : List (List ℕ)) (one other : List Change) → AskInTurn lines one
    → AskInTurn lines other → one ≡ other
same_turn_asked [] [] [] a b = refl
same_turn_asked [] [] (c ∷ other) a b = absurd b
same_turn_asked [] (c ∷ one) other a b = absurd a
same_turn_asked (line ∷ lines) [] other a b = absurd a
same_turn_asked (line ∷ lines) (c ∷ one) [] a b = absurd b
same_turn_asked (line ∷ lines) (c ∷ one) (d ∷ other) a b =
    ap (λ (x : Change). x ∷ one) (same_asked (text_of line) c d a.0.1 b.0.1)
    ∙ ap (λ (l : List Change). d ∷ l) (same_turn_asked lines one other a.1 b.1)

module _ (problem : Problem) where
  same_taken : (old : List Change) (change : Change) (new more : List Change)
      → TakesChange problem old change new → TakesChange problem old change more → new ≡ more
  same_taken old change new more one two =
      one.after
      ∙ ap (changes_after old change)
      (one_reply problem old change one.reply two.reply one.reply_is two.reply_is)
      ∙ sym two.after

  -- changes that are taken one after the other leave one list
  pub same_in_turn : (old asked new more : List Change) → TakesInTurn problem old asked new
      → TakesInTurn problem old asked more → new ≡ more
  same_in_turn old [] new more one two = one ∙ sym two
  same_in_turn old (change ∷ asked) new more one two =
      let same : two.0 ≡ one.0 = same_taken old change two.0 one.0 two.1 one.1 in
      same_in_turn one.0 asked new more one.2
      (subst (λ (l : List Change). TakesInTurn problem l asked more) same two.2)

  -- ---- one line

  same_line : (old : List Change) (line : List ℕ) (new more : List Change)
      → TakesLine problem old line new → TakesLine problem old line more → new ≡ more
  same_line old line new more one two =
      let same : two.1.0 ≡ one.1.0 =
      same_asked (text_of line) two.1.0 one.1.0 two.1.1 one.1.1 in
      same_taken old one.1.0 new more one.1.2
      (subst (λ (c : Change). TakesChange problem old c more) same two.1.2)

  pub same_all : (old : List Change) (lines : List (List ℕ)) (new more : List Change)
      → TakesAll problem old lines new → TakesAll problem old lines more → new ≡ more
  same_all old [] new more one two = one ∙ sym two
  same_all old (line ∷ lines) new more one two =
      let same : two.0 ≡ one.0 = same_line old line two.0 one.0 two.1 one.1 in
      same_all one.0 lines new more one.2
      (subst (λ (l : List Change). TakesAll problem l lines more) same two.2)

  -- ---- a line that is not taken

  -- the line at a place is taken behind those before it
  record TakenAt (old : List Change) (lines : List (List ℕ)) (place : ℕ) (line : List ℕ)
      : Type 0 where
    mid : List Change
    next : List Change
    before : TakesAll problem old (take place lines) mid
    here : TakesLine problem mid line next

  taken_at : (old new : List Change) (lines : List (List ℕ)) (place : ℕ) (line : List ℕ)
      → TakesAll problem old lines new → slice_get lines place ≡ Some line
      → TakenAt old lines place line
  taken_at old new [] place line all there = absurd (none-some line there)
  taken_at old new (first ∷ lines) zero line all there = record {
    mid = old;
    next = all.0;
    before = refl;
    here = subst (λ (l : List ℕ). TakesLine problem old l all.0)
        (same_Some first line there) all.1;
  }
  taken_at old new (first ∷ lines) (suc place) line all there =
      let rest = taken_at all.0 new lines place line all.2 there in record {
        mid = rest.mid;
        next = rest.next;
        before = (all.0, all.1, rest.before);
        here = rest.here;
      }

  taken_not_refused : (reply : Reply) (reason : Refusal) → Refused reason ≡ reply → IsTaken reply
      → ⊥
  taken_not_refused reply reason same taken = subst IsTaken (sym same) taken

  -- a line that is taken does not stop the reading
  line_not_stopped : (old new : List Change) (line : List ℕ) (reason : LineNo)
      → TakesLine problem old line new → StopsLine problem old line reason → ⊥
  line_not_stopped old new line why.Unreadable takes stops = stops.1 takes.1.0 takes.1.1
  line_not_stopped old new line why.Long takes stops = omega (arith, takes.0, stops)
  line_not_stopped old new line why.TooMany takes stops = stops
  line_not_stopped old new line (why.Refused reason) takes stops =
      let same : stops.1.0 ≡ takes.1.0 =
      same_asked (text_of line) stops.1.0 takes.1.0 stops.1.1 takes.1.1 in
      let refused : IsReply problem old takes.1.0 (Refused reason) =
      subst (λ (c : Change). IsReply problem old c (Refused reason)) same stops.1.2 in
      let change = takes.1.2 in
      taken_not_refused change.reply reason
      (one_reply problem old takes.1.0 (Refused reason) change.reply refused change.reply_is)
      change.taken

  -- a place where lines are taken beyond it
  place_not_stopped : (lines : List (List ℕ)) (place : ℕ) (line : List ℕ)
      (changes new : List Change) (reason : LineNo) → TakesAll problem [] lines new
      → slice_get lines place ≡ Some line → TakesAll problem [] (take place lines) changes
      → StopsLine problem changes line reason → ⊥
  place_not_stopped lines place line changes new reason all there before stops =
      let at = taken_at [] new lines place line all there in
      line_not_stopped at.mid at.next line reason at.here
      (subst (λ (l : List Change). StopsLine problem l line reason)
      (same_all [] (take place lines) changes at.mid before at.before) stops)

  -- what stops the reading at a place: a line there, or that there are too many
  record StopsThere (changes : List Change) (lines : List (List ℕ)) (place : ℕ) (reason : LineNo)
      : Type 0 where
    line : List ℕ
    few : place < MOST_LINES
    there : slice_get lines place ≡ Some line
    stops : StopsLine problem changes line reason

  cause_at : (changes : List Change) (lines : List (List ℕ)) (place : ℕ) (reason : LineNo)
      → StopsBy problem changes lines place reason
      → StopsThere changes lines place reason
      ⊎ ((reason ≡ why.TooMany) × (place ≡ MOST_LINES) × (MOST_LINES < length lines))
  cause_at changes lines place why.TooMany by = inr (refl, by.0, by.1)
  cause_at changes lines place why.Unreadable by =
      inl (record { line = by.0; few = by.1; there = by.2; stops = by.3 })
  cause_at changes lines place why.Long by =
      inl (record { line = by.0; few = by.1; there = by.2; stops = by.3 })
  cause_at changes lines place (why.Refused reason) by =
      inl (record { line = by.0; few = by.1; there = by.2; stops = by.3 })

  -- lines that are taken do not stop
  pub lines_not_stopped : (lines : List (List ℕ)) (new : List Change) (number : ℕ)
      (reason : LineNo) → length lines ≤ MOST_LINES → TakesAll problem [] lines new
      → StopsAt problem lines number reason → ⊥
  lines_not_stopped lines new number reason few all stop =
      elim (cause_at stop.changes lines stop.place reason stop.stops) [
        | inl at ↦
            place_not_stopped lines stop.place at.line stop.changes new reason all at.there
            stop.before at.stops
        | inr many ↦ omega (arith, few, many.2)
      ]

  -- lines that ask for changes which are taken in turn are taken
  pub all_in_turn : (old : List Change) (lines : List (List ℕ)) (asked new : List Change)
      → AskInTurn lines asked → TakesInTurn problem old asked new
      → TakesAll problem old lines new
  all_in_turn old [] [] new asks takes = takes
  all_in_turn old [] (change ∷ asked) new asks takes = absurd asks
  all_in_turn old (line ∷ lines) [] new asks takes = absurd asks
  all_in_turn old (line ∷ lines) (change ∷ asked) new asks takes = (
    takes.0,
    (asks.0.0, (change, asks.0.1, takes.1)),
    all_in_turn takes.0 lines asked new asks.1 takes.2,
  )

  -- ---- lines stop at one place

  -- the places where two readings stop are not one before the other
  not_earlier : (lines : List (List ℕ)) (m n : ℕ) (reason other : LineNo)
      → (a : StopsAt problem lines m reason) → (b : StopsAt problem lines n other)
      → a.place < b.place → ⊥
  not_earlier lines m n reason other a b lt =
      elim (cause_at a.changes lines a.place reason a.stops) [
        | inl at ↦
            let front : slice_get (take b.place lines) a.place ≡ Some at.line =
            in_front lines a.place b.place at.line lt at.there in
            let before : TakesAll problem [] (take a.place (take b.place lines)) a.changes =
            subst (λ (l : List (List ℕ)). TakesAll problem [] l a.changes)
            (sym (take-take a.place b.place lines (omega (arith, lt)))) a.before in
            place_not_stopped (take b.place lines) a.place at.line a.changes b.changes reason
            b.before front before at.stops
        | inr many ↦
            elim (cause_at b.changes lines b.place other b.stops) [
              | inl at ↦ let few = at.few in omega (arith, many.1, lt, few)
              | inr more ↦ omega (arith, many.1, more.1, lt)
            ]
      ]

  -- a line that stops behind the same changes stops for one reason
  same_reason : (changes : List Change) (line : List ℕ) (reason other : LineNo)
      → StopsLine problem changes line reason → StopsLine problem changes line other
      → reason ≡ other
  same_reason changes line why.Unreadable why.Unreadable a b = refl
  same_reason changes line why.Unreadable why.Long a b = let one = a.0 in absurd (omega (arith, one, b))
  same_reason changes line why.Unreadable (why.Refused r) a b =
      let asks = b.1 in let not = a.1 in absurd (not asks.0 asks.1)
  same_reason changes line why.Long why.Unreadable a b = let one = b.0 in absurd (omega (arith, one, a))
  same_reason changes line why.Long why.Long a b = refl
  same_reason changes line why.Long (why.Refused r) a b = let one = b.0 in absurd (omega (arith, one, a))
  same_reason changes line (why.Refused r) why.Unreadable a b =
      let asks = a.1 in let not = b.1 in absurd (not asks.0 asks.1)
  same_reason changes line (why.Refused r) why.Long a b = let one = a.0 in absurd (omega (arith, one, b))
  same_reason changes line (why.Refused r) (why.Refused s) a b =
      let one = a.1 in
      let two = b.1 in
      let change : two.0 ≡ one.0 = same_asked (text_of line) two.0 one.0 two.1 one.1 in
      let reply : IsReply problem changes one.0 (Refused s) =
      subst (λ (c : Change). IsReply problem changes c (Refused s)) change two.2 in
      ap why.Refused
      (refused_is (one_reply problem changes one.0 (Refused r) (Refused s) one.2 reply))
    where
      refused_is : Refused r ≡ Refused s → r ≡ s
      refused_is e = cc
  same_reason changes line why.TooMany other a b = absurd a
  same_reason changes line reason why.TooMany a b = absurd b

  same_place : (lines : List (List ℕ)) (m n : ℕ) (reason other : LineNo)
      → (a : StopsAt problem lines m reason) → (b : StopsAt problem lines n other)
      → a.place ≡ b.place
  same_place lines m n reason other a b = elim (cases_lt a.place b.place) [
    | inl lt ↦ absurd (not_earlier lines m n reason other a b lt)
    | inr le ↦ elim (cases_lt b.place a.place) [
      | inl lt ↦ absurd (not_earlier lines n m other reason b a lt)
      | inr ge ↦ omega (arith, le, ge)
    ]
  ]

  -- one line is the first that is not taken, and for one reason
  pub stops_once : (lines : List (List ℕ)) (m n : ℕ) (reason other : LineNo)
      → StopsAt problem lines m reason → StopsAt problem lines n other
      → (m ≡ n) × (reason ≡ other)
  stops_once lines m n reason other a b =
      let place : b.place ≡ a.place = sym (same_place lines m n reason other a b) in
      let changes : b.changes ≡ a.changes =
      same_all [] (take a.place lines) b.changes a.changes
      (subst (λ (k : ℕ). TakesAll problem [] (take k lines) b.changes) place b.before)
      a.before in
      let stops : StopsBy problem a.changes lines a.place other =
      subst (λ (l : List Change). StopsBy problem l lines a.place other) changes
      (subst (λ (k : ℕ). StopsBy problem b.changes lines k other) place b.stops) in (
        omega (arith, a.counted, b.counted, place),
        both (cause_at a.changes lines a.place reason a.stops)
            (cause_at a.changes lines a.place other stops),
      )
    where
      both : StopsThere a.changes lines a.place reason
          ⊎ ((reason ≡ why.TooMany) × (a.place ≡ MOST_LINES) × (MOST_LINES < length lines))
          → StopsThere a.changes lines a.place other
          ⊎ ((other ≡ why.TooMany) × (a.place ≡ MOST_LINES) × (MOST_LINES < length lines))
          → reason ≡ other
      both (inl x) (inl y) =
          same_reason a.changes x.line reason other x.stops
          (subst (λ (l : List ℕ). StopsLine problem a.changes l other)
          (same_Some y.line x.line (sym y.there ∙ x.there)) y.stops)
      both (inl x) (inr y) = let few = x.few in absurd (omega (arith, few, y.1))
      both (inr x) (inl y) = let few = y.few in absurd (omega (arith, few, x.1))
      both (inr x) (inr y) = x.0 ∙ sym y.0
