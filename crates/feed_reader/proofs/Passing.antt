-- From the pass of one line to the pass that a feed began with.
use Rattle.std.proofs.Common.{◌≡◌, ℕ, ◌+◌, ◌<◌, ◌≤◌, List, [], ◌∷◌, ◌++◌, length, Bool, Option, None, Some, refl, sym, subst, arith}
use Rattle.std.specs.Prelude.{Result, Err, IfSome}
use Rattle.disp_outside.specs.Lines.{NoneLeft}
use Rattle.disp_model.specs.declared.entry.Entry.{Entry}
use Rattle.disp_model.specs.declared.limits.TheConstants.{MOST_LINES}
use Rattle.shared_board.specs.declared.pass.Pass.{Pass}
use Rattle.shared_board.specs.Board.{known, lines}
use Rattle.shared_board.specs.Onward.{entries_by, PassGoesOn}
use Rattle.feed_reader.specs.declared.read.Reading.{Reading}
use Rattle.feed_reader.specs.declared.read.Reading.TheVariants as reading
use Rattle.feed_reader.specs.Answered.{AnsweredSome, AnswersAs, AnswersNext, IsReadTo, one_too_many}
use Rattle.feed_reader.proofs.Answering.{Lines, read_more, ends_read, ends_failed, ends_full}

module _ (first mid last : Pass) (on : PassGoesOn first mid) (count : ℕ) (told left : Option Lines)
    (to : IsReadTo (known first).caller count (lines mid) told left (entries_by (known first).caller (known mid).seen)) where
  -- what holds of the later pass's caller holds of the first one's
  of_first : (P : ℕ → Type 0) → P (known mid).caller → P (known first).caller
  of_first P is = subst P on.role.caller is

  -- the entries are as they were
  abbrev pub Quiet : ℕ → Type 0
  Quiet caller = entries_by caller (known last).seen ≡ entries_by caller (known mid).seen

  -- the entries so far, where nothing came behind them
  still : (r : Reading) → Quiet (known mid).caller → IfSome told (λ all. AnswersAs (known first).caller all (entries_by (known first).caller (known mid).seen) r)
      → IfSome told (λ all. AnswersAs (known first).caller all (entries_by (known first).caller (known last).seen) r)
  still r quiet is = subst (λ (es : List Entry). IfSome told (λ all. AnswersAs (known first).caller all es r)) (sym (of_first Quiet quiet)) is

  -- what is left is behind the entries so far, where no line was taken and nothing came behind them
  pub left_behind : (next : Option Lines) → next ≡ left → Quiet (known mid).caller → AnsweredSome (known first).caller told next (entries_by (known first).caller (known last).seen)
  left_behind next same quiet =
      subst (λ (es : List Entry). AnsweredSome (known first).caller told next es) (sym (of_first Quiet quiet))
      (subst (λ (l : Option Lines). AnsweredSome (known first).caller told l (entries_by (known first).caller (known mid).seen)) (sym same) to.answered)

  -- the line that was read is one of them
  pub one_read : (next : Option Lines) → AnswersNext (known mid).caller (lines mid + 1) left next (entries_by (known mid).caller (known mid).seen) (entries_by (known mid).caller (known last).seen)
      → lines last ≡ lines mid + 1 → IsReadTo (known first).caller (count + 1) (lines last) told next (entries_by (known first).caller (known last).seen)
  one_read next answers counted =
      read_more (known first).caller count (lines mid) told left next (entries_by (known first).caller (known mid).seen) (entries_by (known first).caller (known last).seen) (lines last) to
      (of_first (λ caller. AnswersNext caller (lines mid + 1) left next (entries_by caller (known mid).seen) (entries_by caller (known last).seen)) answers) counted

  pub all_read : count ≤ MOST_LINES → NoneLeft left → Quiet (known mid).caller
      → IfSome told (λ all. AnswersAs (known first).caller all
      (entries_by (known first).caller (known last).seen) reading.Ended)
  all_read few none quiet = still reading.Ended quiet
      (ends_read (known first).caller count (lines mid) told left _ few to none)

  pub some_read : (r : Reading) → (◌≡◌ {A = Result Bool Reading} (Err r) (Err reading.Ended) → ⊥) × (◌≡◌ {A = Result Bool Reading} (Err r) (Err reading.TooMany) → ⊥) → Quiet (known mid).caller
      → IfSome told (λ all. AnswersAs (known first).caller all (entries_by (known first).caller (known last).seen) r)
  some_read reading.Ended (ended, many) quiet = absurd (ended refl)
  some_read reading.TooMany (ended, many) quiet = absurd (many refl)
  some_read reading.Failed why quiet = still reading.Failed quiet (ends_failed (known first).caller count (lines mid) told left _ to)
  some_read reading.Memory why quiet = still reading.Memory quiet (as_memory told (ends_failed (known first).caller count (lines mid) told left _ to))
    where
      as_memory : (lines : Option Lines) → IfSome lines (λ all. AnswersAs (known first).caller all (entries_by (known first).caller (known mid).seen) reading.Failed)
          → IfSome lines (λ all. AnswersAs (known first).caller all (entries_by (known first).caller (known mid).seen) reading.Memory)
      as_memory None is = tt
      as_memory (Some all) is = is

  -- as many are read as may be
  pub end_read : (r : Reading) → count ≡ MOST_LINES → (r ≡ reading.Ended → NoneLeft left)
      → (r ≡ reading.TooMany → IfSome left (λ more. 0 < length more)
      × (entries_by (known mid).caller (known last).seen ≡ entries_by (known mid).caller (known mid).seen ++ one_too_many (known mid).caller ∷ []))
      → ((r ≡ reading.TooMany → ⊥) → Quiet (known mid).caller)
      → IfSome told (λ all. AnswersAs (known first).caller all (entries_by (known first).caller (known last).seen) r)
  end_read reading.Ended full none more quiet =
      all_read (omega (arith, full)) (none refl) (quiet (λ many. absurd (cc)))
  end_read reading.TooMany full none more quiet =
      let is = more refl in
      ends_full (known first).caller count (lines mid) told left (entries_by (known first).caller (known mid).seen) (entries_by (known first).caller (known last).seen) full to is.0
      (of_first (λ caller. entries_by caller (known last).seen ≡ entries_by caller (known mid).seen ++ one_too_many caller ∷ []) is.1)
  end_read reading.Failed full none more quiet = some_read reading.Failed ((λ e. absurd (cc)), (λ e. absurd (cc))) (quiet (λ many. absurd (cc)))
  end_read reading.Memory full none more quiet = some_read reading.Memory ((λ e. absurd (cc)), (λ e. absurd (cc))) (quiet (λ many. absurd (cc)))
