-- Legal histories with one more entry.
use Rattle.std.proofs.Common.{◌≡◌, ◌∙◌, ℕ, zero, suc, Bool, get_or, ◌+◌, ◌==◌, ◌≤◌, ◌<◌, List, [], ◌∷◌, ◌++◌, length, take, refl, sym, ap, subst, inl, inr, true, false, arith}
use Rattle.std.specs.Prelude.{if◌then◌else◌}
use Rattle.std.proofs.Math.Seq.{take-suc}
use Rattle.std.proofs.lemmas.Bool.{eqb-true}
use Rattle.std.proofs.lemmas.List.{append-nil, take-append-le, take_all, take_at, length-append}
use Rattle.std.proofs.lemmas.Option.{none-some, slice_get_within, slice_get_past, slice_get-get_or}
use Rattle.disp_model.specs.declared.fixing.Change.{Change}
use Rattle.disp_model.specs.declared.fixing.Change.TheVariants.{Fix, Withdraw}
use Rattle.disp_model.specs.declared.reply.Reply.TheVariants.{Accepted, Known, Refused}
use Rattle.disp_model.specs.declared.entry.Entry.{Entry}
use Rattle.disp_model.specs.declared.entry.Entry.TheVariants.{Asked, Unread, Shown, Grown, Published, Settled, Stopped}
use Rattle.disp_model.specs.declared.entry.Mark.TheVariants as mark
use Rattle.disp_model.specs.declared.entry.Mark.TheVariants.{Working}
use Rattle.disp_model.specs.declared.entry.Unasked.TheVariants.{Long}
use Rattle.disp_model.specs.declared.problem.Problem.{Problem}
use Rattle.disp_model.specs.declared.settings.Settings.{Settings}
use Rattle.disp_model.specs.History.{change_of, changes_of, newest, mark_of_verdict, mark_after, mark_of}
use Rattle.disp_model.specs.Legal.{IsLegalEntry, IsLegal}
use Rattle.disp_model.specs.Replies.{IsReply, IsEdition}
use Rattle.disp_model.specs.Replay.{splits_of, spent_on}
use Rattle.train_orders.proofs.Places.{get_kept, get_push_cases}
use Rattle.fixing_editions.proofs.Accepting.{accepted_new, accepted_back, edition_more}
use Rattle.history_laws.proofs.Appended.{changes_more, newest_front, spent_more, mark_more}

-- ---- one more entry

pub legal_more : (problem : Problem) (settings : Settings) (history : List Entry) (entry : Entry) → IsLegal problem settings history → IsLegalEntry problem settings history entry → IsLegal problem settings (history ++ entry ∷ [])
legal_more problem settings history entry legal last i e here = elim (get_push_cases history entry e i here) [
  | inl early ↦ subst (λ (h : List Entry). IsLegalEntry problem settings h e) (sym (take-append-le i history (entry ∷ []) (omega (arith, slice_get_within history i e early)))) (legal i e early)
  | inr last_one ↦ subst (λ (h : List Entry). IsLegalEntry problem settings h e) (sym (take_at history (entry ∷ []) i (sym last_one.0))) (subst (IsLegalEntry problem settings history) last_one.1 last)
]

pub legal_front : (problem : Problem) (settings : Settings) (history : List Entry) (entry : Entry) → IsLegal problem settings (history ++ entry ∷ []) → IsLegal problem settings history
legal_front problem settings history entry legal i e here =
    subst (λ (h : List Entry). IsLegalEntry problem settings h e) (take-append-le i history (entry ∷ []) (omega (arith, slice_get_within history i e here))) (legal i e (get_kept history (entry ∷ []) e i here))

-- ---- the changes

-- an accepted change has the number behind those before it
pub accepted_number : (problem : Problem) (changes : List Change) (change : Change) (n : ℕ) → IsReply problem changes change (Accepted n) → n ≡ length changes + 1
accepted_number problem changes (Fix fixing) n reply = (accepted_new problem changes fixing n reply).newest.number
accepted_number problem changes (Withdraw number) n reply = (accepted_back changes number n reply).newest.number

edition_entry : (problem : Problem) (settings : Settings) (history : List Entry) (entry : Entry) → IsEdition problem (changes_of history) → IsLegalEntry problem settings history entry → IsEdition problem (changes_of history ++ change_of entry)
edition_entry problem settings history (Asked feed line change (Accepted n)) edition legal = edition_more problem (changes_of history) change n edition legal (accepted_number problem (changes_of history) change n legal)
edition_entry problem settings history (Asked feed line change (Known n)) edition legal = rw (append-nil (changes_of history)) edition
edition_entry problem settings history (Asked feed line change (Refused why)) edition legal = rw (append-nil (changes_of history)) edition
edition_entry problem settings history (Unread feed line why) edition legal = rw (append-nil (changes_of history)) edition
edition_entry problem settings history (Shown feed line standing) edition legal = rw (append-nil (changes_of history)) edition
edition_entry problem settings history (Grown searcher number seen node splits) edition legal = rw (append-nil (changes_of history)) edition
edition_entry problem settings history (Published number plan cost) edition legal = rw (append-nil (changes_of history)) edition
edition_entry problem settings history (Settled number verdict tree) edition legal = rw (append-nil (changes_of history)) edition
edition_entry problem settings history (Stopped number spent bound) edition legal = rw (append-nil (changes_of history)) edition

-- along a history, entry by entry
module _ (problem : Problem) (settings : Settings) (P : List Entry → Type 0) (none : P []) (more : (h : List Entry) (e : Entry) → IsLegal problem settings h → IsLegalEntry problem settings h e → P h → P (h ++ e ∷ [])) where
  by_fronts : (history : List Entry) → IsLegal problem settings history → (k : ℕ) → k ≤ length history → IsLegal problem settings (take k history) × P (take k history)
  by_fronts history legal zero within = ((λ i e here. absurd (none-some e (sym (slice_get_past [] i (omega arith)) ∙ here))), none)
  by_fronts history legal (suc k) within =
      let before = by_fronts history legal k (omega (arith, within)) in
      let entry = get_or history k (Unread 0 0 Long) in
      let here = slice_get-get_or history k (Unread 0 0 Long) (omega (arith, within)) in
      let grown = take-suc history k (Unread 0 0 Long) (omega (arith, within)) in
      subst (λ (h : List Entry). IsLegal problem settings h × P h) (sym grown) (legal_more problem settings (take k history) entry before.0 (legal k entry here), more (take k history) entry before.0 (legal k entry here) before.1)

  pub by_entries : (history : List Entry) → IsLegal problem settings history → P history
  by_entries history legal = subst P (take_all (length history) history (omega arith)) (by_fronts history legal (length history) (omega arith)).1

pub editions_are : (problem : Problem) (settings : Settings) (history : List Entry) → IsLegal problem settings history → IsEdition problem (changes_of history)
editions_are problem settings = by_entries problem settings (λ h. IsEdition problem (changes_of h)) (λ i change here. absurd (none-some change (sym (slice_get_past [] i (omega arith)) ∙ here)))
    (λ h e legal entry before. subst (IsEdition problem) (sym (changes_more h e)) (edition_entry problem settings h e before entry))

-- ---- newer numbers

newest_more : (h : List Entry) (e : Entry) → newest h ≤ newest (h ++ e ∷ [])
newest_more h e = omega (arith, ap (λ (l : List Change). length l) (changes_more h e), length-append (changes_of h) (change_of e))

-- of another number
other : {X : Type 0} (edition number : ℕ) (x y : X) → (edition ≡ number → ⊥) → (if edition == number then x else y) ≡ y
other edition number x y differs = by (edition == number) refl
  where
    by : (b : Bool) → (edition == number) ≡ b → (if b then x else y) ≡ y
    by true is = absurd (differs (eqb-true edition number is))
    by false is = refl

-- an entry spends nothing on a number past the newest edition, and settles none
entry_unspent : (problem : Problem) (settings : Settings) (h : List Entry) (e : Entry) (number : ℕ) → IsLegalEntry problem settings h e → newest h < number → splits_of number e ≡ 0
entry_unspent problem settings h (Asked feed line change reply) number legal past = refl
entry_unspent problem settings h (Unread feed line why) number legal past = refl
entry_unspent problem settings h (Shown feed line standing) number legal past = refl
entry_unspent problem settings h (Grown searcher edition seen node splits) number legal past = other edition number (length splits) 0 (λ same. omega (arith, same, legal.edition_then, newest_front h seen, past))
entry_unspent problem settings h (Published edition plan cost) number legal past = refl
entry_unspent problem settings h (Settled edition verdict tree) number legal past = refl
entry_unspent problem settings h (Stopped edition spent bound) number legal past = refl

entry_unmarked : (problem : Problem) (settings : Settings) (h : List Entry) (e : Entry) (number : ℕ) → IsLegalEntry problem settings h e → newest h < number → mark_after number Working e ≡ Working
entry_unmarked problem settings h (Asked feed line change reply) number legal past = refl
entry_unmarked problem settings h (Unread feed line why) number legal past = refl
entry_unmarked problem settings h (Shown feed line standing) number legal past = refl
entry_unmarked problem settings h (Grown searcher edition seen node splits) number legal past = refl
entry_unmarked problem settings h (Published edition plan cost) number legal past = refl
entry_unmarked problem settings h (Settled edition verdict tree) number legal past = other edition number (mark_of_verdict verdict) Working (λ same. omega (arith, same, legal.working.newest_is, past))
entry_unmarked problem settings h (Stopped edition spent bound) number legal past = other edition number (mark.Stopped spent bound) Working (λ same. omega (arith, same, legal.working.newest_is, past))

-- nothing is spent on a number past the newest edition, and it is worked on
pub record IsNewNumber (history : List Entry) (number : ℕ) : Type 0 where
  pub unspent : spent_on number history ≡ 0
  pub working : mark_of number history ≡ Working

pub new_number : (problem : Problem) (settings : Settings) (history : List Entry) (number : ℕ) → IsLegal problem settings history → newest history < number → IsNewNumber history number
new_number problem settings history number legal = by_entries problem settings (λ h. newest h < number → IsNewNumber h number) (λ past. record { unspent = refl; working = refl }) more history legal
  where
    more : (h : List Entry) (e : Entry) → IsLegal problem settings h → IsLegalEntry problem settings h e → (newest h < number → IsNewNumber h number) → newest (h ++ e ∷ []) < number → IsNewNumber (h ++ e ∷ []) number
    more h e legal entry before past =
        let was = newest_more h e in
        let earlier = before (omega (arith, was, past)) in
        let none = entry_unspent problem settings h e number entry (omega (arith, was, past)) in
        record {
          unspent = omega (arith, spent_more number h e, earlier.unspent, none);
          working = mark_more number h e ∙ ap (λ m. mark_after number m e) earlier.working ∙ entry_unmarked problem settings h e number entry (omega (arith, was, past));
        }
