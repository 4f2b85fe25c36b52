-- What a run leaves: whose the entries of its journal are.
use Rattle.std.proofs.Common.{◌≡◌, ◌≢◌, ◌∙◌, ℕ, zero, suc, ◌+◌, ◌-◌, ◌<◌, ◌≤◌, ◌⊎◌, inl, inr, ⊎_elim, Bool, true, false, List, [], ◌∷◌, ◌++◌, All, Contains, Option, get_or, length, map, refl, sym, ap, subst, arith}
use Rattle.std.specs.Prelude.{Some, slice_get}
use Rattle.std.proofs.lemmas.Bool.{cases_lt}
use Rattle.std.proofs.lemmas.List.{get_or_append_left, get_or-append-add, get_or-map, length-append, length-map}
use Rattle.std.proofs.lemmas.List.Elements.{All-append, All-contains, Contains-append_cases, Contains-append_left, Contains-append_right}
use Rattle.std.proofs.lemmas.Option.{none-some, slice_get-get_or}
use Rattle.plain_values.proofs.Lists.{contains_none_where, contains_one}
use Rattle.disp_model.specs.declared.entry.Entry.{Entry}
use Rattle.disp_model.specs.declared.problem.Problem.{Problem}
use Rattle.disp_model.specs.declared.settings.Settings.{Settings}
use Rattle.turn_lock.specs.Known.{Known, StartsWith}
use Rattle.turn_lock.specs.Section.{OwnsPlaces}
use Rattle.turn_lock.proofs.Beginnings.{either_bool, starts_back}
use Rattle.shared_board.specs.declared.pass.Pass.{Pass}
use Rattle.shared_board.specs.declared.terms.Terms.{Terms}
use Rattle.shared_board.specs.Board.{known}
use Rattle.shared_board.specs.Callers.{caller_of, is_line_of, lines_of, searcher_caller}
use Rattle.shared_board.specs.Onward.{entries_by}
use Rattle.shared_board.proofs.LineCounts.{named_line}
use Rattle.joined_passes.specs.Joined.{AreAllJoined, caller_at, joined_all}
use Rattle.joined_passes.proofs.Owning.{begins, no_line, own_all, owner}
use Rattle.crew_runs.specs.declared.searcher.Searcher.{Searcher}
use Rattle.crew_runs.specs.Seats.{HaveRun, searchers_to, with_searchers}
use Rattle.crew_runs.proofs.Ended.{all_back, board_at, caller_is, none_back, owns_at, quiet_at}
use Rattle.feed_runs.specs.declared.reader.Reader.{Reader}
use Rattle.feed_runs.specs.Readers.{HasRead, HaveRead, IsReader, feeds_to}
use Rattle.rolling_driver.specs.Ended.{MayEnd, known_of, reader_passes, searcher_passes}
use Rattle.rolling_driver.specs.Opened.{IsOpened, opening, terms_for, with_feeds}
use Rattle.rolling_driver.specs.Printed.{Watches}
use Rattle.rolling_driver.specs.declared.opening.Run.{Run}

module _ {X : Type 0} (pass_of : X → Pass) where
  -- what a pass at a place knows
  known_at : (xs : List X) (place : ℕ) (d : Known Entry Terms) → place < length xs → (e : X) × (get_or (map known (map pass_of xs)) place d ≡ known (pass_of (get_or xs place e)))
  known_at [] place d within = absurd (omega (arith, within))
  known_at (x ∷ xs) zero d within = (x, refl)
  known_at (x ∷ xs) (suc place) d within = known_at xs place d (omega (arith, within))

  all_known : (P : Known Entry Terms → Type 0) (xs : List X) → ((place : ℕ) (d : X) → place < length xs → P (known (pass_of (get_or xs place d)))) → All P (map known (map pass_of xs))
  all_known P xs each place d within =
      let long : length (map known (map pass_of xs)) ≡ length xs = length-map (map pass_of xs) known ∙ length-map xs pass_of in
      let inside : place < length xs = omega (arith, within, long) in
      let at = known_at xs place d inside in subst P (sym at.1) (each place at.0 inside)

  all_passes : (P : Pass → Type 0) (xs : List X) → All P (map pass_of xs) → (place : ℕ) (d : X) → place < length xs → P (pass_of (get_or xs place d))
  all_passes P [] all place d within = absurd (omega (arith, within))
  all_passes P (x ∷ xs) all zero d within = all 0 (pass_of x) (omega arith)
  all_passes P (x ∷ xs) all (suc place) d within = all_passes P xs (λ k e inside. all (suc k) e (omega (arith, inside))) place d (omega (arith, within))

  callers_at : (xs : List X) (place d : ℕ) → place < length xs → (e : X) × (get_or (map caller_at (map pass_of xs)) place d ≡ (known (pass_of (get_or xs place e))).caller)
  callers_at [] place d within = absurd (omega (arith, within))
  callers_at (x ∷ xs) zero d within = (x, refl)
  callers_at (x ∷ xs) (suc place) d within = callers_at xs place d (omega (arith, within))

-- each caller that was given a pass is that of a feed
place_of_feed : (count caller : ℕ) → Contains (feeds_to count) caller → caller < count
place_of_feed zero caller (k, within, is) = absurd (omega arith)
place_of_feed (suc count) caller there = ⊎_elim
    (λ (old : Contains (feeds_to count) caller). let found = place_of_feed count caller old in omega (arith, found))
    (λ (new : Contains (count ∷ []) caller). let is = contains_one count caller new in omega arith)
    (Contains-append_cases (feeds_to count) (count ∷ []) caller there)

-- no entry is a line of the caller
none_lines : (caller : ℕ) (entries : List Entry) → ((place : ℕ) (e : Entry) → slice_get entries place ≡ Some e → is_line_of caller e ≡ true → ⊥) → entries_by caller entries ≡ []
none_lines caller [] none = refl
none_lines caller (one ∷ entries) none =
    let rest = none_lines caller entries (λ place e there. none (suc place) e there) in
    ⊎_elim (λ (yes : is_line_of caller one ≡ true). absurd (none 0 one refl yes)) (λ (no : is_line_of caller one ≡ false). rw no rest) (either_bool (is_line_of caller one))

nothing_owned : (feeds : ℕ) (terms : Terms) (workers : ℕ) → OwnsPlaces caller_of (with_searchers (with_feeds terms) workers)
nothing_owned feeds terms workers = record {
  own = λ place e there names. absurd (none-some e there);
  within = λ place mine. absurd (contains_none_where [] place refl mine);
  others = λ place e other mine there names. absurd (none-some e there);
}

module _ {F : Type 0} (name : F → List ℕ) (told : F → Option (List (List ℕ))) (has_ended : F → Bool) (faults : F → ℕ) (problem : Problem) (settings : Settings) (workers : ℕ) (feeds : List F)
    (run : Run F) (opened : IsOpened has_ended faults problem settings workers feeds run) (first : Pass) (watches : Watches run.first first)
    (readers : List (Reader F)) (read : HaveRead told faults name run.readers.items readers) (searchers : List Searcher) (ran : HaveRun run.searchers.items searchers) where
  abbrev terms : Terms
  terms = terms_for problem settings (length feeds) workers

  pub many_readers : length run.readers.items ≡ length feeds
  many_readers = sym (length-map run.readers.items (λ (r : Reader F). r.feed)) ∙ ap (λ (l : List F). length l) opened.feeds_are

  pub reader_at : (place : ℕ) (d : Reader F) → place < length feeds → IsReader run.board (opening terms) place (get_or run.readers.items place d)
  reader_at place d within = opened.readers place (get_or run.readers.items place d) (slice_get-get_or run.readers.items place d (omega (arith, within, many_readers)))

  pub read_at : (place : ℕ) (d : Reader F) → place < length feeds → HasRead told faults name (get_or run.readers.items place d) (get_or readers place d)
  read_at place d within = read.each place d (omega (arith, within, many_readers))

  -- the names of the feeds stay known
  pub names_known : (knows later : List ℕ → Type 0) → ((one : List ℕ) → knows one → later one) → All (λ feed. knows (name feed)) feeds → All (λ (r : Reader F). later (name r.feed)) readers
  names_known knows later stay all place r within =
      let inside : place < length feeds = omega (arith, within, read.as_many, many_readers) in
      let feed_is : get_or feeds place r.feed ≡ (get_or run.readers.items place r).feed =
      subst (λ (l : List F). get_or l place r.feed ≡ (get_or run.readers.items place r).feed) opened.feeds_are
      (get_or-map (λ (x : Reader F). x.feed) run.readers.items place r r.feed (omega (arith, inside, many_readers))) in
      stay (name (get_or readers place r).feed) (subst knows (ap name feed_is ∙ sym (read_at place r inside).name_is) (all place r.feed inside))

  pub caller_of_feed : (place : ℕ) (d : Reader F) → place < length feeds → (known (get_or readers place d).pass).caller ≡ place
  caller_of_feed place d within = (read_at place d within).goes.role.caller ∙ ap (λ (k : Known Entry Terms). k.caller) (reader_at place d within).knows

  inside_read : (place : ℕ) → place < length readers → place < length feeds
  inside_read place within = omega (arith, within, read.as_many, many_readers)

  inside_ran : (place : ℕ) → place < length searchers → place < length run.searchers.items
  inside_ran place within = omega (arith, within, ran.as_many)

  feeds_back : (caller : ℕ) → caller < length feeds → Contains (map caller_at (reader_passes readers)) caller
  feeds_back caller within =
      let inside : caller < length readers = omega (arith, within, read.as_many, many_readers) in
      let long : length (map caller_at (reader_passes readers)) ≡ length readers = length-map (reader_passes readers) caller_at ∙ length-map readers (λ (r : Reader F). r.pass) in
      let at = callers_at (λ (r : Reader F). r.pass) readers caller caller inside in
      (caller, omega (arith, inside, long), at.1 ∙ caller_of_feed caller at.0 within)

  pub may_end : MayEnd run.board first readers searchers
  may_end = record {
    board_is = watches.board_is ∙ opened.board_is;
    is_first = watches.role.first ∙ ap (λ (k : Known Entry Terms). k.first) opened.knows;
    owns = watches.owns (subst (OwnsPlaces caller_of) (sym opened.knows) (nothing_owned (length feeds) terms workers));
    reader_boards = λ place d within. let inside = inside_read place within in (read_at place d inside).goes.board_is ∙ (reader_at place d inside).board_is;
    searcher_boards = λ place d within. board_at run.board (with_feeds terms) run.searchers.items searchers opened.searchers ran place d (inside_ran place within);
    given = λ caller there.
        let given_is : (known first).given ≡ feeds_to (length feeds) ++ searchers_to workers = watches.role.given ∙ ap (λ (k : Known Entry Terms). k.given) opened.knows in
        let all = reader_passes readers in let others = searcher_passes searchers in
        ⊎_elim
        (λ (feed : Contains (feeds_to (length feeds)) caller).
        Contains-append_left ((known first).back ++ map caller_at all) (map caller_at others) caller
        (Contains-append_right (known first).back (map caller_at all) caller (feeds_back caller (place_of_feed (length feeds) caller feed))))
        (λ (searcher : Contains (searchers_to workers) caller).
        Contains-append_right ((known first).back ++ map caller_at all) (map caller_at others) caller
        (all_back run.board (with_feeds terms) run.searchers.items searchers opened.searchers ran caller (subst (λ (n : ℕ). Contains (searchers_to n) caller) (sym opened.as_many) searcher)))
        (Contains-append_cases (feeds_to (length feeds)) (searchers_to workers) caller (subst (λ (l : List ℕ). Contains l caller) given_is there));
  }

  -- ---- whose the entries of the history are
  module _ (history : List Entry) (reader_starts : All (λ pass. StartsWith history (known pass).seen) (reader_passes readers))
      (searcher_starts : All (λ pass. StartsWith history (known pass).seen) (searcher_passes searchers))
      (covered : (place : ℕ) → place < length history → Contains (joined_all (known first) (known_of readers searchers)).mine place) where
    abbrev all : List (Known Entry Terms)
    all = known_of readers searchers

    both : (P : Known Entry Terms → Type 0) → ((place : ℕ) (d : Reader F) → place < length feeds → P (known (get_or readers place d).pass))
        → ((place : ℕ) (d : Searcher) → place < length run.searchers.items → P (known (get_or searchers place d).pass)) → All P all
    both P of_readers of_searchers = All-append P (map known (reader_passes readers)) (map known (searcher_passes searchers))
        (all_known (λ (r : Reader F). r.pass) P readers (λ place d within. of_readers place d (inside_read place within)))
        (all_known (λ (s : Searcher). s.pass) P searchers (λ place d within. of_searchers place d (inside_ran place within)))

    long_front : length (map known (reader_passes readers)) ≡ length feeds
    long_front = length-map (reader_passes readers) known ∙ (length-map readers (λ (r : Reader F). r.pass) ∙ (read.as_many ∙ many_readers))

    long_back : length (map known (searcher_passes searchers)) ≡ length searchers
    long_back = length-map (searcher_passes searchers) known ∙ length-map searchers (λ (s : Searcher). s.pass)

    -- the caller at a place: a feed's number, or a searcher's
    abbrev IsNumbered : ℕ → ℕ → Type 0
    IsNumbered place caller = ((place < length feeds) × (caller ≡ place)) ⊎ ((length feeds ≤ place) × (caller ≡ searcher_caller (place - length feeds)))

    numbered : (place : ℕ) (d : Known Entry Terms) → place < length all → IsNumbered place (get_or all place d).caller
    numbered place d within = ⊎_elim
        (λ (early : place < length feeds).
        let inside : place < length readers = omega (arith, early, read.as_many, many_readers) in
        let at = known_at (λ (r : Reader F). r.pass) readers place d inside in
        inl (
          early,
          ap (λ (k : Known Entry Terms). k.caller) (get_or_append_left (map known (reader_passes readers)) (map known (searcher_passes searchers)) d place (omega (arith, early, long_front)) ∙ at.1)
              ∙ caller_of_feed place at.0 early,
        ))
        (λ (late : length feeds ≤ place). later place d within late)
        (cases_lt place (length feeds))
      where
        later : (place : ℕ) (d : Known Entry Terms) → place < length all → length feeds ≤ place → IsNumbered place (get_or all place d).caller
        later place d within late =
            let rest = place - length feeds in
            let sum = length-append (map known (reader_passes readers)) (map known (searcher_passes searchers)) in
            let inside : rest < length searchers = omega (arith, within, late, sum, long_front, long_back) in
            let at = known_at (λ (s : Searcher). s.pass) searchers rest d inside in
            let here : length (map known (reader_passes readers)) + rest ≡ place = omega (arith, late, long_front) in
            inr (
              late,
              ap (λ (n : ℕ). (get_or all n d).caller) (sym here)
                  ∙ (ap (λ (k : Known Entry Terms). k.caller) (get_or-append-add (map known (reader_passes readers)) (map known (searcher_passes searchers)) rest d ∙ at.1)
                  ∙ caller_is run.board (with_feeds terms) run.searchers.items searchers opened.searchers ran rest at.0 (inside_ran rest inside)),
            )

    differ : (i j one other : ℕ) → i < j → IsNumbered i one → IsNumbered j other → one ≢ other
    differ i j one other below (inl a) (inl b) same = absurd (omega (arith, below, a.1, b.1, same))
    differ i j one other below (inl a) (inr b) same = absurd (omega (arith, a.0, a.1, b.1, same, opened.few))
    differ i j one other below (inr a) (inl b) same = absurd (omega (arith, below, a.0, b.0))
    differ i j one other below (inr a) (inr b) same = absurd (omega (arith, below, a.0, b.0, a.1, b.1, same))

    pub joined : AreAllJoined (known first) all history
    joined = record {
      none = watches.mine_is ∙ ap (λ (k : Known Entry Terms). k.mine) opened.knows;
      own = both (OwnsPlaces caller_of) (λ place d within. (read_at place d within).owns)
          (λ place d within. owns_at run.board (with_feeds terms) run.searchers.items searchers opened.searchers ran place d within);
      alone = both (λ w. w.back ≡ []) (λ place d within. (read_at place d within).goes.role.back ∙ ap (λ (k : Known Entry Terms). k.back) (reader_at place d within).knows)
          (λ place d within. none_back run.board (with_feeds terms) run.searchers.items searchers opened.searchers ran place d within);
      starts = both (λ w. StartsWith history w.seen)
          (λ place d within. all_passes (λ (r : Reader F). r.pass) (λ pass. StartsWith history (known pass).seen) readers reader_starts place d (omega (arith, within, read.as_many, many_readers)))
          (λ place d within. all_passes (λ (s : Searcher). s.pass) (λ pass. StartsWith history (known pass).seen) searchers searcher_starts place d (omega (arith, within, ran.as_many)));
      apart = λ i j d below within. differ i j (get_or all i d).caller (get_or all j d).caller below (numbered i d (omega (arith, below, within))) (numbered j d within);
      covered = covered;
    }

    -- a feed's entries are those that its pass has seen
    pub entries_of_feed : (place : ℕ) (d : Reader F) → place < length feeds → entries_by place history ≡ entries_by place (known (get_or readers place d).pass).seen
    entries_of_feed place d within =
        let inside : place < length readers = omega (arith, within, read.as_many, many_readers) in
        let front = map known (reader_passes readers) in
        let own = caller_of_feed place d within in
        let whole : get_or all place (known (get_or readers place d).pass) ≡ known (get_or readers place d).pass =
        get_or_append_left front (map known (searcher_passes searchers)) (known (get_or readers place d).pass) place (omega (arith, within, long_front)) ∙ known_here readers place d inside in
        let sum = length-append front (map known (searcher_passes searchers)) in
        let is = own_all (known first) all history joined place (known (get_or readers place d).pass) (omega (arith, within, long_front, sum)) in
        subst (λ (n : ℕ). entries_by n history ≡ entries_by n (known (get_or readers place d).pass).seen) own
        (subst (λ (k : Known Entry Terms). entries_by k.caller history ≡ entries_by k.caller k.seen) whole is)
      where
        known_here : (xs : List (Reader F)) (place : ℕ) (d : Reader F) → place < length xs → get_or (map known (reader_passes xs)) place (known (get_or xs place d).pass) ≡ known (get_or xs place d).pass
        known_here [] place d within = absurd (omega (arith, within))
        known_here (x ∷ xs) zero d within = refl
        known_here (x ∷ xs) (suc place) d within = known_here xs place d (omega (arith, within))

    -- nobody else has a line
    abbrev IsFeedOrQuiet : Known Entry Terms → Type 0
    IsFeedOrQuiet w = (w.caller < length feeds) ⊎ (lines_of w.caller w.seen ≡ 0)

    pub no_other_lines : (other : ℕ) → length feeds ≤ other → entries_by other history ≡ []
    no_other_lines other late = none_lines other history (λ place e there line.
        let found = owner (known first) all history joined place e other there (named_line other e line) in
        let seen = starts_back history found.0.seen (begins (known first) all history joined found.0 found.1) place e found.3 there in
        let kind = All-contains IsFeedOrQuiet all found.0
        (both IsFeedOrQuiet (λ k d within. inl (let own = caller_of_feed k d within in omega (arith, own, within)))
        (λ k d within. inr (quiet_at run.board (with_feeds terms) run.searchers.items searchers opened.searchers ran k d within))) found.1 in
        ⊎_elim
        (λ (feed : found.0.caller < length feeds). let own = found.2 in omega (arith, feed, own, late))
        (λ (quiet : lines_of found.0.caller found.0.seen ≡ 0). no_line found.0.caller found.0.seen place e quiet seen (subst (λ (n : ℕ). is_line_of n e ≡ true) (sym found.2) line))
        kind)
