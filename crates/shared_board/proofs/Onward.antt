-- One call after the other.
use Rattle.std.proofs.Common.{◌≡◌, ◌≢◌, ◌∙◌, ℕ, suc, ◌+◌, ◌≤◌, inl, inr, ⊎_elim, Bool, true, false, List, [], ◌∷◌, ◌++◌, length, refl, sym, ap, subst, arith}
use Rattle.std.specs.Prelude.{Some, slice_get, filter}
use Rattle.std.proofs.lemmas.List.{append_assoc, append-nil, length-append}
use Rattle.std.proofs.lemmas.List.Elements.{filter-append}
use Rattle.disp_model.specs.declared.entry.Entry.{Entry}
use Rattle.disp_model.specs.declared.entry.Entry.TheVariants as entry
use Rattle.disp_model.specs.declared.entry.Unasked.{Unasked}
use Rattle.disp_model.specs.declared.fixing.Change.{Change}
use Rattle.disp_model.specs.declared.entry.Standing.{Standing}
use Rattle.disp_model.specs.declared.reply.Reply.{Reply}
use Rattle.disp_model.specs.History.{changes_of, newest}
use Rattle.history_laws.proofs.Appended.{changes_append}
use Rattle.dispatch_core.specs.declared.event.CoreEvent.{CoreEvent}
use Rattle.dispatch_core.specs.declared.event.CoreEvent.TheVariants as event
use Rattle.dispatch_core.specs.declared.event.CoreReply.{CoreReply}
use Rattle.dispatch_core.specs.declared.event.CoreReply.TheVariants as reply
use Rattle.dispatch_core.specs.States.{Core}
use Rattle.turn_lock.specs.Known.{Known, StartsWith}
use Rattle.turn_lock.specs.Section.{IsFreshFrom, Knows, OwnsPlaces}
use Rattle.turn_lock.proofs.Beginnings.{either_bool, starts_more, starts_refl}
use Rattle.shared_board.specs.declared.pass.Pass.{Pass}
use Rattle.shared_board.specs.declared.terms.Terms.{Terms}
use Rattle.shared_board.specs.Board.{own_board, known, fetched}
use Rattle.shared_board.specs.Callers.{caller_of, is_line_of}
use Rattle.shared_board.specs.Calls.{Enters, Looks, Looked, SeesOnly, IsFeed, IsSearcher}
use Rattle.shared_board.specs.Standing.{SameRole, EntersAs, StandsEntered}
use Rattle.shared_board.specs.Onward.{entries_by, PassGoesOn}
use Rattle.shared_board.proofs.Entries.{role_entered, role_looked, enters_as}
use Rattle.shared_board.proofs.LineCounts.{named_line, behind_get}
use Rattle.shared_board.proofs.Running.{seen_after}

-- ---- what is seen grows

starts_starts : (l m n : List Entry) → StartsWith l m → StartsWith m n → StartsWith l n
starts_starts l m n (more, one) (rest, two) = (rest ++ more, one ∙ ap (λ (x : List Entry). x ++ more) two ∙ append_assoc n rest more)

-- the newest edition's number never falls
pub newest_up : (history seen : List Entry) → StartsWith history seen → newest seen ≤ newest history
newest_up history seen (rest, is) =
    let longer : newest history ≡ length (changes_of seen ++ changes_of rest) =
    ap (λ (l : List Change). length l) (ap changes_of is ∙ changes_append seen rest) in
    let sum = length-append (changes_of seen) (changes_of rest) in omega arith

-- ---- roles stay

role_role : (u v w : Known Entry Terms) → SameRole u v → SameRole v w → SameRole u w
role_role u v w one two = record {
  first = two.first ∙ one.first;
  caller = two.caller ∙ one.caller;
  terms = two.terms ∙ one.terms;
  given = two.given ∙ one.given;
  back = two.back ∙ one.back;
}

pub feed_on : (v w : Known Entry Terms) → SameRole v w → IsFeed v → IsFeed w
feed_on v w role is = record {
  terms = is.terms;
  terms_are = role.terms ∙ is.terms_are;
  within = let same = role.caller in let within = is.within in omega arith;
}

pub searcher_on : (v w : Known Entry Terms) → SameRole v w → IsSearcher v → IsSearcher w
searcher_on v w role is = record {
  terms = is.terms;
  terms_are = role.terms ∙ is.terms_are;
  above = let same = role.caller in let above = is.above in omega arith;
  within = let same = role.caller in let within = is.within in omega arith;
}

-- ---- one call after the other

pub goes_refl : (pass : Pass) → PassGoesOn pass pass
goes_refl pass = record {
  board_is = refl;
  fetched_is = refl;
  role = record { first = refl; caller = refl; terms = refl; given = refl; back = refl };
  starts = starts_refl (known pass).seen;
  owns = λ own. own;
}

pub goes_goes : (one two three : Pass) → PassGoesOn one two → PassGoesOn two three → PassGoesOn one three
goes_goes one two three first second = record {
  board_is = second.board_is ∙ first.board_is;
  fetched_is = second.fetched_is ∙ first.fetched_is;
  role = role_role (known one) (known two) (known three) first.role second.role;
  starts = starts_starts (known three).seen (known two).seen (known one).seen second.starts first.starts;
  owns = λ own. second.owns (first.owns own);
}

-- ---- what one call leaves

module _ (before after : Pass) (same : own_board after ≡ own_board before) (fetches : fetched after ≡ fetched before) where
  seen_more : (core other : Core) → Knows caller_of (known before) core.history other.history (known after) → StartsWith core.history (known before).seen
      → StartsWith (known after).seen (known before).seen
  seen_more core other (inl knows) starts =
      subst (λ (l : List Entry). StartsWith l (known before).seen) (sym (ap (λ (k : Known Entry Terms). k.seen) knows.1 ∙ knows.0)) starts
  seen_more core other (inr (added, knows)) starts =
      subst (λ (l : List Entry). StartsWith l (known before).seen) (sym (ap (λ (k : Known Entry Terms). k.seen) knows ∙ added.1))
      (starts_more core.history (known before).seen (added.0 ∷ []) starts)

  pub entered_goes : (asked : CoreEvent) (told : CoreReply) → Enters (known before) asked told (known after) → PassGoesOn before after
  entered_goes asked told enters = record {
    board_is = same;
    fetched_is = fetches;
    role = role_entered (known before) asked told (known after) enters;
    starts = seen_more enters.before enters.after enters.ran.knows enters.ran.found.begins.starts;
    owns = λ own. enters.ran.owns;
  }

  pub looked_goes : Looked (known before) (known after) → PassGoesOn before after
  looked_goes (core, looks) = record {
    board_is = same;
    fetched_is = fetches;
    role = role_looked (known before) core (known after) looks;
    starts = subst (λ (l : List Entry). StartsWith l (known before).seen) (sym (ap (λ (k : Known Entry Terms). k.seen) looks.knows)) looks.found.begins.starts;
    owns = λ own. looks.owns;
  }

  pub seen_only_goes : SeesOnly (known before) (known after) → PassGoesOn before after
  seen_only_goes (inl is) = record {
    board_is = same;
    fetched_is = fetches;
    role = record {
      first = ap (λ (k : Known Entry Terms). k.first) is;
      caller = ap (λ (k : Known Entry Terms). k.caller) is;
      terms = ap (λ (k : Known Entry Terms). k.terms) is;
      given = ap (λ (k : Known Entry Terms). k.given) is;
      back = ap (λ (k : Known Entry Terms). k.back) is;
    };
    starts = subst (λ (k : Known Entry Terms). StartsWith k.seen (known before).seen) (sym is) (starts_refl (known before).seen);
    owns = λ own. subst (OwnsPlaces caller_of) (sym is) own;
  }
  seen_only_goes (inr looked) = looked_goes looked

-- ---- the entries of a caller's lines

none_by : (caller : ℕ) (entries : List Entry) → ((place : ℕ) (e : Entry) → slice_get entries place ≡ Some e → caller_of e ≢ Some caller) → entries_by caller entries ≡ []
none_by caller [] fresh = refl
none_by caller (one ∷ entries) fresh =
    let rest = none_by caller entries (λ place e there. fresh (suc place) e there) in
    let not_one : is_line_of caller one ≡ false =
    ⊎_elim (λ (line : is_line_of caller one ≡ true). absurd (fresh 0 one refl (named_line caller one line))) (λ (none : is_line_of caller one ≡ false). none) (either_bool (is_line_of caller one)) in
    rw not_one rest

-- past what was seen nothing names the caller, so what was seen has the entries of all its lines
pub fresh_entries : (caller : ℕ) (seen history : List Entry) → StartsWith history seen → IsFreshFrom caller_of caller (length seen) history → entries_by caller history ≡ entries_by caller seen
fresh_entries caller seen history (rest, is) fresh =
    let none = none_by caller rest (λ place e there. fresh (length seen + place) e (omega arith) (ap (λ (l : List Entry). slice_get l (length seen + place)) is ∙ (behind_get seen rest place ∙ there))) in
    ap (entries_by caller) is ∙ filter-append (is_line_of caller) seen rest ∙ ap (λ (l : List Entry). entries_by caller seen ++ l) none ∙ append-nil (entries_by caller seen)

pub looked_entries : (v w : Known Entry Terms) → Looked v w → entries_by v.caller w.seen ≡ entries_by v.caller v.seen
looked_entries v w (core, looks) =
    ap (entries_by v.caller) (ap (λ (k : Known Entry Terms). k.seen) looks.knows) ∙ fresh_entries v.caller v.seen core.history looks.found.begins.starts looks.found.begins.fresh

pub seen_only_entries : (v w : Known Entry Terms) → SeesOnly v w → entries_by v.caller w.seen ≡ entries_by v.caller v.seen
seen_only_entries v w (inl is) = ap (λ (k : Known Entry Terms). entries_by v.caller k.seen) is
seen_only_entries v w (inr looked) = looked_entries v w looked

module _ (v w : Known Entry Terms) (asked : CoreEvent) (told : CoreReply) (enters : Enters v asked told w) where
  -- an entry of the caller's lines came behind the others
  pub one_more : (one : Entry) → enters.after.history ≡ enters.before.history ++ one ∷ [] → is_line_of v.caller one ≡ true → entries_by v.caller w.seen ≡ entries_by v.caller v.seen ++ one ∷ []
  one_more one added line =
      ap (entries_by v.caller) (seen_after v w enters.before.history enters.after.history enters.ran.knows ∙ added)
      ∙ filter-append (is_line_of v.caller) enters.before.history (one ∷ [])
      ∙ ap (λ (l : List Entry). entries_by v.caller enters.before.history ++ l) (kept one line)
      ∙ ap (λ (l : List Entry). l ++ one ∷ []) (fresh_entries v.caller v.seen enters.before.history enters.ran.found.begins.starts enters.ran.found.begins.fresh)
    where
      kept : (e : Entry) → is_line_of v.caller e ≡ true → entries_by v.caller (e ∷ []) ≡ e ∷ []
      kept e is_one = rw is_one refl
