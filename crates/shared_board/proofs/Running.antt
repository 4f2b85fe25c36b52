-- What a call leaves of what its pass knew.
use Rattle.std.proofs.Common.{◌≡◌, ◌∙◌, ℕ, ◌+◌, ◌≤◌, inl, inr, List, [], ◌∷◌, ◌++◌, length, refl, sym, ap, subst, arith}
use Rattle.std.specs.Prelude.{Some, true, false, Result, Ok, Err, IfOk, IfErr, OnErr, is_ok}
use Rattle.std.proofs.lemmas.List.{length-append}
use Rattle.std.proofs.lemmas.Option.{same_Some}
use Rattle.disp_model.specs.declared.entry.Entry.{Entry}
use Rattle.disp_model.specs.Legal.{IsLegal}
use Rattle.dispatch_core.specs.declared.event.CoreEvent.{CoreEvent}
use Rattle.dispatch_core.specs.declared.event.CoreReply.{CoreReply}
use Rattle.dispatch_core.specs.declared.event.StepNo.{StepNo}
use Rattle.dispatch_core.specs.States.{Core, IsSound}
use Rattle.dispatch_core.specs.Replies.{Steps}
use Rattle.dispatch_core.proofs.Stepping.{steps_sound}
use Rattle.turn_lock.specs.Known.{Known}
use Rattle.turn_lock.specs.Section.{MayFind, MayLeave, Knows, Ran}
use Rattle.turn_lock.proofs.Beginnings.{starts_length}
use Rattle.shared_board.specs.declared.stored.Stored.{Stored}
use Rattle.shared_board.specs.declared.terms.Terms.{Terms}
use Rattle.shared_board.specs.Callers.{terms_of, caller_of, lines_of}
use Rattle.shared_board.specs.Calls.{MayEnter, Enters, Looks, Looked, IsLegalSeen, lines_in}
use Rattle.shared_board.proofs.Going.{steps_go}
use Rattle.shared_board.proofs.LineCounts.{fresh_lines}

abbrev entries : Stored → List Entry
entries s = s.core.history

abbrev terms : Stored → Terms
terms s = terms_of s.core

abbrev kept : Stored → Type 0
kept s = IsSound s.core

-- ---- what a section may do

pub step_leaves : (v : Known Entry Terms) (asked : CoreEvent) (told : CoreReply) (s s' : Stored) → MayEnter v asked → MayFind entries caller_of terms kept v s → Steps s.core asked told s'.core → MayLeave entries caller_of terms kept v.caller s s'
step_leaves v asked told s s' may found is = let goes = steps_go v.caller s.core s'.core asked told may.by is in record {
  agrees = goes.agrees;
  is_kept = steps_sound s.core asked told s'.core found.is_kept (may.may s.core found) is;
  adds = goes.adds;
}

pub same_leaves : (v : Known Entry Terms) (s s' : Stored) → MayFind entries caller_of terms kept v s → s'.core ≡ s.core → MayLeave entries caller_of terms kept v.caller s s'
same_leaves v s s' found is = record { agrees = ap terms_of is; is_kept = subst IsSound (sym is) found.is_kept; adds = inl (ap (λ (c : Core). c.history) is) }

-- ---- what its pass knows then

pub seen_after : (v w : Known Entry Terms) (before after : List Entry) → Knows caller_of v before after w → w.seen ≡ after
seen_after v w before after (inl k) = ap (λ (z : Known Entry Terms). z.seen) k.1
seen_after v w before after (inr k) = ap (λ (z : Known Entry Terms). z.seen) k.1

pub caller_after : (v w : Known Entry Terms) (before after : List Entry) → Knows caller_of v before after w → w.caller ≡ v.caller
caller_after v w before after (inl k) = ap (λ (z : Known Entry Terms). z.caller) k.1
caller_after v w before after (inr k) = ap (λ (z : Known Entry Terms). z.caller) k.1

terms_after : (v w : Known Entry Terms) (before after : List Entry) → Knows caller_of v before after w → w.terms ≡ v.terms
terms_after v w before after (inl k) = ap (λ (z : Known Entry Terms). z.terms) k.1
terms_after v w before after (inr k) = ap (λ (z : Known Entry Terms). z.terms) k.1

-- nothing is added where the core is the same
unchanged : (v w : Known Entry Terms) (before after : List Entry) → after ≡ before → Knows caller_of v before after w → w ≡ record v { seen = before; count = w.count; tries = w.tries }
unchanged v w before after same (inl k) = k.1 ∙ (λ i. record v { seen = same i; count = w.count; tries = w.tries })
unchanged v w before after same (inr (added, k)) = absurd (let l = length-append before (added.0 ∷ []) in let m : length after ≡ length (before ++ added.0 ∷ []) = ap length added.1 in let n : length after ≡ length before = ap length same in omega arith)

module _ (v w : Known Entry Terms) (s s' : Stored) (ran : Ran entries caller_of terms kept v s s' w) where
  pub enters_of : (asked : CoreEvent) (told : CoreReply) → Steps s.core asked told s'.core → Enters v asked told w
  enters_of asked told is = record { before = s.core; after = s'.core; steps = is; ran = ran }

  pub looks_of : s'.core ≡ s.core → Looks v s.core w
  looks_of is = record {
    found = ran.found;
    knows = unchanged v w (entries s) (entries s') (ap (λ (c : Core). c.history) is) ran.knows;
    count = ran.count;
    tries = ran.tries;
    owns = ran.owns;
  }

  pub legal_of : IsLegalSeen w
  legal_of t is =
      let same : t ≡ terms_of s'.core = same_Some t (terms_of s'.core) (sym is ∙ (terms_after v w (entries s) (entries s') ran.knows ∙ (ran.found.agrees ∙ ap Some (sym ran.left.agrees)))) in
      subst (λ (x : Terms). IsLegal x.problem x.settings w.seen) (sym same) (subst (λ (h : List Entry). IsLegal s'.core.problem s'.core.settings h) (sym (seen_after v w (entries s) (entries s') ran.knows)) ran.left.is_kept.legal)

  found_lines : lines_of v.caller (entries s) ≡ lines_of v.caller v.seen
  found_lines = fresh_lines v.caller v.seen (entries s) ran.found.begins.starts ran.found.begins.fresh

  pub fetched_of : (fetched : ℕ) → fetched ≤ length v.seen → fetched ≤ length w.seen
  fetched_of fetched within =
      let a = starts_length (entries s) v.seen ran.found.begins.starts in let b : length w.seen ≡ length (entries s') = ap length (seen_after v w (entries s) (entries s') ran.knows) in
      let c = no_shorter ran.knows in omega arith
    where
      no_shorter : Knows caller_of v (entries s) (entries s') w → length (entries s) ≤ length (entries s')
      no_shorter (inl k) = let e : length (entries s') ≡ length (entries s) = ap length k.0 in omega arith
      no_shorter (inr (added, k)) = let l = length-append (entries s) (added.0 ∷ []) in let e : length (entries s') ≡ length (entries s ++ added.0 ∷ []) = ap length added.1 in omega arith

  lines_in_seen : (more : ℕ) → lines_of v.caller (entries s') ≡ lines_of v.caller (entries s) + more → lines_of w.caller w.seen ≡ lines_of v.caller v.seen + more
  lines_in_seen more goes =
      ap (λ (c : ℕ). lines_of c w.seen) (caller_after v w (entries s) (entries s') ran.knows) ∙ (ap (lines_of v.caller) (seen_after v w (entries s) (entries s') ran.knows) ∙ (goes ∙ ap (λ (n : ℕ). n + more) found_lines))

  pub step_lines : (asked : CoreEvent) (told : CoreReply) → MayEnter v asked → Steps s.core asked told s'.core → lines_of w.caller w.seen ≡ lines_of v.caller v.seen + lines_in asked
  step_lines asked told may is = lines_in_seen (lines_in asked) (steps_go v.caller s.core s'.core asked told may.by is).lines

  pub same_lines : s'.core ≡ s.core → lines_of w.caller w.seen ≡ lines_of v.caller v.seen
  same_lines is = lines_in_seen 0 (ap (λ (c : Core). lines_of v.caller c.history) is ∙ omega arith) ∙ omega arith

-- ---- what a step under the lock leaves, by its answer

abbrev pub Answer : Type 0
Answer = Result CoreReply StepNo

-- what the core's step says of its answer
pub record Answers (asked : CoreEvent) (answer : Answer) (before after : Core) : Type 0 where
  pub ok : IfOk answer (λ told. Steps before asked told after)
  pub err : OnErr answer (after ≡ before)

pub answer_leaves : (v : Known Entry Terms) (asked : CoreEvent) (answer : Answer) (s s' : Stored) → MayEnter v asked → MayFind entries caller_of terms kept v s → Answers asked answer s.core s'.core → MayLeave entries caller_of terms kept v.caller s s'
answer_leaves v asked (Ok told) s s' may found is = step_leaves v asked told s s' may found is.ok
answer_leaves v asked (Err fault) s s' may found is = same_leaves v s s' found is.err

pub answer_enters : (v w : Known Entry Terms) (asked : CoreEvent) (answer : Answer) (s s' : Stored) → Ran entries caller_of terms kept v s s' w → Answers asked answer s.core s'.core → IfOk answer (λ told. Enters v asked told w)
answer_enters v w asked (Ok told) s s' ran is = enters_of v w s s' ran asked told is.ok
answer_enters v w asked (Err fault) s s' ran is = tt

pub answer_looks : (v w : Known Entry Terms) (asked : CoreEvent) (answer : Answer) (s s' : Stored) → Ran entries caller_of terms kept v s s' w → Answers asked answer s.core s'.core → IfErr answer (λ _. Looked v w)
answer_looks v w asked (Ok told) s s' ran is = tt
answer_looks v w asked (Err fault) s s' ran is = (s.core, looks_of v w s s' ran is.err)

-- the lines of the caller, with those that the event answers
abbrev pub lines_then : CoreEvent → Answer → ℕ → ℕ
lines_then asked (Ok told) lines = lines + lines_in asked
lines_then asked (Err fault) lines = lines

pub answer_lines : (v w : Known Entry Terms) (asked : CoreEvent) (answer : Answer) (s s' : Stored) → MayEnter v asked → Ran entries caller_of terms kept v s s' w → Answers asked answer s.core s'.core
    → (caller lines : ℕ) → caller ≡ v.caller → lines ≡ lines_of caller v.seen → lines_then asked answer lines ≡ lines_of caller w.seen
answer_lines v w asked answer s s' may ran is caller lines own counted =
    cases answer is (ap (λ (c : ℕ). lines_of c v.seen) (sym own)) ∙ ap (λ (c : ℕ). lines_of c w.seen) (caller_after v w (entries s) (entries s') ran.knows ∙ sym own)
  where
    cases : (a : Answer) → Answers asked a s.core s'.core → lines_of v.caller v.seen ≡ lines_of caller v.seen → lines_then asked a lines ≡ lines_of w.caller w.seen
    cases (Ok told) is same = ap (λ (n : ℕ). n + lines_in asked) (counted ∙ sym same) ∙ sym (step_lines v w s s' ran asked told may is.ok)
    cases (Err fault) is same = counted ∙ sym same ∙ sym (same_lines v w s s' ran is.err)

-- of an event that answers none, they are as before
pub quiet_lines : (asked : CoreEvent) (answer : Answer) (lines : ℕ) → lines_in asked ≡ 0 → lines ≡ lines_then asked answer lines
quiet_lines asked (Ok told) lines none = omega (arith, none)
quiet_lines asked (Err fault) lines none = refl

pub ran_caller : (v w : Known Entry Terms) (s s' : Stored) → Ran entries caller_of terms kept v s s' w → w.caller ≡ v.caller
ran_caller v w s s' ran = caller_after v w (entries s) (entries s') ran.knows

pub ok_line : (asked : CoreEvent) (answer : Answer) (lines line : ℕ) → is_ok answer ≡ true → lines_in asked ≡ 1 → line ≡ lines + 1 → line ≡ lines_then asked answer lines
ok_line asked (Ok told) lines line ok one is = omega (arith, one, is)
ok_line asked (Err fault) lines line ok one is = absurd (cc)

pub err_line : (asked : CoreEvent) (answer : Answer) (lines : ℕ) → is_ok answer ≡ false → lines ≡ lines_then asked answer lines
err_line asked (Ok told) lines not = absurd (cc)
err_line asked (Err fault) lines not = refl

-- with what the lines are then
pub and_lines : {R F : Type 0} (answer : Result R F) (P : R → Type 0) (n : ℕ) → IfOk answer P → IfOk answer (λ told. P told × (n ≡ n))
and_lines (Ok told) P n is = (is, refl)
and_lines (Err fault) P n is = tt

pub and_lines_err : {R F : Type 0} (answer : Result R F) (P : F → Type 0) (n : ℕ) → IfErr answer P → IfErr answer (λ fault. P fault × (n ≡ n))
and_lines_err (Ok told) P n is = tt
and_lines_err (Err fault) P n is = (is, refl)

-- ---- what a look under the lock leaves

pub looked_lines : (v w : Known Entry Terms) (s s' : Stored) → Ran entries caller_of terms kept v s s' w → s'.core ≡ s.core → (caller lines : ℕ) → caller ≡ v.caller → lines ≡ lines_of caller v.seen → lines ≡ lines_of caller w.seen
looked_lines v w s s' ran same caller lines own counted =
    counted ∙ (ap (λ (c : ℕ). lines_of c v.seen) own ∙ (sym (same_lines v w s s' ran same) ∙ ap (λ (c : ℕ). lines_of c w.seen) (ran_caller v w s s' ran ∙ sym own)))

-- all that was found is seen
pub looked_all : (v w : Known Entry Terms) (s s' : Stored) → Ran entries caller_of terms kept v s s' w → s'.core ≡ s.core → s.core.history ≡ w.seen
looked_all v w s s' ran same = ap (λ (c : Core). c.history) (sym same) ∙ sym (seen_after v w (entries s) (entries s') ran.knows)

pub on_err : {R F : Type 0} (answer : Result R F) (P : Type 0) → P → OnErr answer P
on_err (Ok told) P p = tt
on_err (Err fault) P p = p

-- and the entries behind the first ones are all told
pub count_within : (count : ℕ) (found seen : List Entry) → count ≡ length found → found ≡ seen → count ≤ length seen
count_within count found seen is same = omega (arith, is, ap (λ (l : List Entry). length l) same)
