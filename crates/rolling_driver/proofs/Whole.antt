-- What a run leaves, all together.
use Rattle.std.proofs.Common.{◌≡◌, ◌∙◌, ℕ, zero, suc, ◌<◌, Bool, List, [], ◌∷◌, ◌++◌, Option, Result, Ok, Err, drop, get_or, length, map, refl, sym, ap, subst, arith}
use Rattle.std.specs.Prelude.{IfSome, Some, slice_get}
use Rattle.std.proofs.lemmas.List.{get_or-map, length-map}
use Rattle.std.proofs.lemmas.Option.{get_or_from_slice_get, none-some, slice_get-get_or, slice_get_within}
use Rattle.disp_model.specs.declared.entry.Entry.{Entry}
use Rattle.disp_model.specs.declared.problem.Problem.{Problem}
use Rattle.disp_model.specs.declared.settings.Settings.{Settings}
use Rattle.disp_model.specs.History.{newest, mark_of}
use Rattle.disp_model.specs.Legal.{IsLegal}
use Rattle.dispatch_core.specs.States.{Core}
use Rattle.disp_outside.specs.States.{Counts}
use Rattle.text_puts.specs.Outside.{Outside}
use Rattle.turn_lock.specs.Known.{Known}
use Rattle.shared_board.specs.declared.pass.Pass.{Pass}
use Rattle.shared_board.specs.declared.terms.Terms.{Terms}
use Rattle.shared_board.specs.Board.{known, fetched}
use Rattle.shared_board.specs.Callers.{terms_of}
use Rattle.shared_board.specs.Onward.{entries_by}
use Rattle.feed_reader.specs.Answered.{AnswersAs}
use Rattle.feed_reader.specs.declared.read.Reading.{Reading}
use Rattle.feed_reader.specs.declared.read.Reading.TheVariants.{Failed}
use Rattle.journal_printer.specs.declared.no.PrintNo.{PrintNo}
use Rattle.crew_runs.specs.declared.searcher.Searcher.{Searcher}
use Rattle.crew_runs.specs.Seats.{HaveRun}
use Rattle.feed_runs.specs.declared.reader.Reader.{Reader}
use Rattle.feed_runs.specs.Readers.{HaveRead}
use Rattle.rolling_driver.specs.declared.opening.Run.{Run}
use Rattle.rolling_driver.specs.Ended.{IsEnded, PrintsRest}
use Rattle.rolling_driver.specs.Opened.{IsOpened, terms_for}
use Rattle.rolling_driver.specs.Printed.{PrintsJournal, Watches}
use Rattle.rolling_driver.specs.Rolled.{AreRead, Fed, IsRolled, fed}
use Rattle.rolling_driver.specs.Status.{IsStatus}
use Rattle.rolling_driver.proofs.Pieces.{journal_all, journal_first, journal_more}
use Rattle.rolling_driver.proofs.Shifting.{journal_readings, with_readings}
use Rattle.rolling_driver.proofs.Whose.{entries_of_feed, many_readers, no_other_lines, read_at, reader_at}

module _ {X Y : Type 0} (f : X → Y) where
  -- what stands at a place of a list that was mapped
  get_mapped : (xs : List X) (place : ℕ) (y : Y) → slice_get (map f xs) place ≡ Some y → (x : X) × (slice_get xs place ≡ Some x) × (f x ≡ y)
  get_mapped [] place y there = absurd (none-some y there)
  get_mapped (x ∷ xs) zero y there = (x, refl, some_is there)
    where
      some_is : {a b : Y} → Some a ≡ Some b → a ≡ b
      some_is e = cc
  get_mapped (x ∷ xs) (suc place) y there = get_mapped xs place y there

  map_get : (xs : List X) (place : ℕ) (x : X) → slice_get xs place ≡ Some x → slice_get (map f xs) place ≡ Some (f x)
  map_get [] place x there = absurd (none-some x there)
  map_get (y ∷ xs) zero x there = ap Some (ap f (some_is there))
    where
      some_is : {a b : X} → Some a ≡ Some b → a ≡ b
      some_is e = cc
  map_get (y ∷ xs) (suc place) x there = map_get xs place x there

terms_is : (one other : Terms) → Some one ≡ Some other → one ≡ other
terms_is one other e = cc

-- all that is printed of the journal
printed_whole : (trees : Option (List ℕ)) (seen rest : List Entry) (old mid new : Outside) (printed told : Result (Unit {0}) PrintNo) → mid.reading ≡ old.reading
    → PrintsJournal trees seen old mid printed → PrintsRest trees rest mid new printed told → PrintsJournal trees (seen ++ rest) old (with_readings new old.reading) told
printed_whole trees seen rest old mid new (Ok done) told same first more =
    journal_more trees seen rest old mid (with_readings new old.reading) told (journal_all trees seen old mid first)
    (subst (λ (r : Counts). PrintsJournal trees rest mid (with_readings new r) told) same more)
printed_whole trees seen rest old mid new (Err why) told same first (told_is, stays) =
    let same_end : with_readings new old.reading ≡ mid = ap (with_readings new) (sym same) ∙ stays in
    subst (λ (t : Result (Unit {0}) PrintNo). PrintsJournal trees (seen ++ rest) old (with_readings new old.reading) t) (sym told_is)
    (subst (λ (o : Outside). PrintsJournal trees (seen ++ rest) old o (Err why)) (sym same_end) (journal_first trees seen rest old mid why first))

module _ {F : Type 0} (name : F → List ℕ) (told : F → Option (List (List ℕ))) (has_ended : F → Bool) (faults : F → ℕ) (problem : Problem) (settings : Settings) (workers : ℕ) (feeds : List F)
    (run : Run F) (opened : IsOpened has_ended faults problem settings workers feeds run) (first : Pass) (watches : Watches run.first first)
    (readers : List (Reader F)) (read : HaveRead told faults name run.readers.items readers) (searchers : List Searcher) (ran : HaveRun run.searchers.items searchers)
    (trees : Option (List ℕ)) (old mid new : Outside) (printed end_told : Result (Unit {0}) PrintNo) (core : Core)
    (prints : PrintsJournal trees (drop (fetched run.first) (known first).seen) old mid printed) (ended : IsEnded name faults trees first readers searchers printed mid new core end_told) where
  abbrev readings : List Reading
  readings = map (λ (r : Reader F). r.reading) readers

  many : length run.readers.items ≡ length feeds
  many = many_readers name told has_ended faults problem settings workers feeds run opened first watches readers read searchers ran

  within_feeds : (place : ℕ) (r : Reader F) → slice_get readers place ≡ Some r → place < length feeds
  within_feeds place r there = let within = slice_get_within readers place r there in omega (arith, within, read.as_many, many)

  -- the feed of a number is that of the reader before and behind the run
  feed_before : (place : ℕ) (d : Reader F) → place < length feeds → slice_get feeds place ≡ Some (get_or run.readers.items place d).feed
  feed_before place d within =
      subst (λ (l : List F). slice_get l place ≡ Some (get_or run.readers.items place d).feed) opened.feeds_are
      (map_get (λ (r : Reader F). r.feed) run.readers.items place (get_or run.readers.items place d) (slice_get-get_or run.readers.items place d (omega (arith, within, many))))

  fed_at : (place : ℕ) (d : Reader F) → place < length feeds
      → slice_get (fed name told feeds) place ≡ Some (name (get_or run.readers.items place d).feed, told (get_or run.readers.items place d).feed)
  fed_at place d within = map_get (λ (f : F). (name f, told f)) feeds place (get_or run.readers.items place d).feed (feed_before place d within)

  fed_is : (place : ℕ) (d : Reader F) (feed : Fed) → place < length feeds → slice_get (fed name told feeds) place ≡ Some feed
      → feed ≡ (name (get_or run.readers.items place d).feed, told (get_or run.readers.items place d).feed)
  fed_is place d feed within there = same (sym there ∙ fed_at place d within)
    where
      same : {x y : Fed} → Some x ≡ Some y → x ≡ y
      same e = cc

  answered_at : (number : ℕ) (feed : Fed) (reading : Reading) → slice_get (fed name told feeds) number ≡ Some feed → slice_get readings number ≡ Some reading
      → IfSome feed.1 (λ all. AnswersAs number all (entries_by number core.history) reading)
  answered_at number feed reading there ended_so =
      let found = get_mapped (λ (r : Reader F). r.reading) readers number reading ended_so in
      let r = found.0 in let within = within_feeds number r found.1 in
      let before = reader_at name told has_ended faults problem settings workers feeds run opened first watches readers read searchers ran number r within in
      let is = read_at name told has_ended faults problem settings workers feeds run opened first watches readers read searchers ran number r within in
      let after : get_or readers number r ≡ r = get_or_from_slice_get readers number r r found.1 in
      let own : (known (get_or run.readers.items number r).pass).caller ≡ number = ap (λ (k : Known Entry Terms). k.caller) before.knows in
      let stay = entries_of_feed name told has_ended faults problem settings workers feeds run opened first watches readers read searchers ran core.history ended.reader_starts ended.searcher_starts ended.covered
      number r within in
      let as_number = subst (λ (n : ℕ). IfSome (told (get_or run.readers.items number r).feed) (λ all. AnswersAs n all (entries_by n (known (get_or readers number r).pass).seen) (get_or readers number r).reading))
      own is.answered in
      let as_history = subst (λ (l : List Entry). IfSome (told (get_or run.readers.items number r).feed) (λ all. AnswersAs number all l (get_or readers number r).reading)) (sym stay) as_number in
      let as_reading = subst (λ (x : Reading). IfSome (told (get_or run.readers.items number r).feed) (λ all. AnswersAs number all (entries_by number core.history) x))
      (ap (λ (x : Reader F). x.reading) after ∙ found.2) as_history in
      subst (λ (o : Option (List (List ℕ))). IfSome o (λ all. AnswersAs number all (entries_by number core.history) reading)) (sym (ap (λ (f : Fed). f.1) (fed_is number r feed within there))) as_reading

  same_readings : (one : List ℕ) → mid.reading one ≡ old.reading one
  same_readings one = journal_readings trees (drop (fetched run.first) (known first).seen) old mid printed prints one

  -- the name of a feed behind the run
  pub name_behind : (place : ℕ) (r : Reader F) → slice_get readers place ≡ Some r → name r.feed ≡ name (get_or run.readers.items place r).feed
  name_behind place r there =
      let within = within_feeds place r there in
      let is = read_at name told has_ended faults problem settings workers feeds run opened first watches readers read searchers ran place r within in
      sym (ap (λ (x : Reader F). name x.feed) (get_or_from_slice_get readers place r r there)) ∙ is.name_is

  failed_at : (number : ℕ) (feed : Fed) → slice_get (fed name told feeds) number ≡ Some feed → slice_get readings number ≡ Some Failed → old.reading feed.0 < new.reading feed.0
  failed_at number feed there ended_so =
      let found = get_mapped (λ (r : Reader F). r.reading) readers number Failed ended_so in
      let r = found.0 in let within = within_feeds number r found.1 in
      let inside : number < length readers = slice_get_within readers number r found.1 in
      let is = read_at name told has_ended faults problem settings workers feeds run opened first watches readers read searchers ran number r within in
      let after : get_or readers number r ≡ r = get_or_from_slice_get readers number r r found.1 in
      let rises = is.failed.0 (ap (λ (x : Reader F). x.reading) after ∙ found.2) in
      let long : length (map (λ (x : Reader F). x.feed) readers) ≡ length readers = length-map readers (λ (x : Reader F). x.feed) in
      let feed_is : get_or (map (λ (x : Reader F). x.feed) readers) number r.feed ≡ (get_or readers number r).feed = get_or-map (λ (x : Reader F). x.feed) readers number r r.feed inside in
      let fault : 0 < faults (get_or (map (λ (x : Reader F). x.feed) readers) number r.feed) = subst (λ (f : F). 0 < faults f) (sym feed_is) (omega (arith, rises)) in
      let counted = ended.counts.failed number r.feed (omega (arith, inside, long)) fault in
      let name_is : name (get_or (map (λ (x : Reader F). x.feed) readers) number r.feed) ≡ feed.0 =
      ap name (feed_is ∙ ap (λ (x : Reader F). x.feed) after) ∙ (name_behind number r found.1 ∙ sym (ap (λ (f : Fed). f.0) (fed_is number r feed within there))) in
      let risen = subst (λ (n : List ℕ). mid.reading n < new.reading n) name_is counted in
      let same = same_readings feed.0 in omega (arith, risen, same)

  risen_of : (one : List ℕ) → old.reading one < new.reading one
      → (number : ℕ) × (feed : Fed) × (slice_get (fed name told feeds) number ≡ Some feed) × (slice_get readings number ≡ Some Failed) × (feed.0 ≡ one)
  risen_of one rises =
      let same = same_readings one in
      let closed = ended.counts.risen one (omega (arith, rises, same)) in
      let here : slice_get (map (λ (x : Reader F). x.feed) readers) closed.1.0 ≡ Some closed.0 =
      slice_get-get_or (map (λ (x : Reader F). x.feed) readers) closed.1.0 closed.0 closed.1.1 ∙ ap Some closed.1.2 in
      let found = get_mapped (λ (x : Reader F). x.feed) readers closed.1.0 closed.0 here in
      let place = closed.1.0 in let r = found.0 in let within = within_feeds place r found.1 in
      let is = read_at name told has_ended faults problem settings workers feeds run opened first watches readers read searchers ran place r within in
      let after : get_or readers place r ≡ r = get_or_from_slice_get readers place r r found.1 in
      let broken : 0 < faults (get_or readers place r).feed = subst (λ (f : F). 0 < faults f) (sym (ap (λ (x : Reader F). x.feed) after ∙ found.2)) closed.3 in
      let whole = opened.unbroken place r (omega (arith, within, many)) in
      let failed = is.failed.1 (omega (arith, broken, whole)) in (
        place,
        (name (get_or run.readers.items place r).feed, told (get_or run.readers.items place r).feed),
        fed_at place r within,
        map_get (λ (x : Reader F). x.reading) readers place r found.1 ∙ ap Some (sym (ap (λ (x : Reader F). x.reading) after) ∙ failed),
        sym (name_behind place r found.1) ∙ (ap name found.2 ∙ closed.2),
      )

  pub all_read : AreRead (fed name told feeds) readings old.reading new.reading core.history
  all_read = record {
    as_many = length-map readers (λ (r : Reader F). r.reading) ∙ (read.as_many ∙ (many ∙ sym (length-map {B = Fed} feeds (λ (f : F). (name f, told f)))));
    answered = answered_at;
    no_other = λ other late. no_other_lines name told has_ended faults problem settings workers feeds run opened first watches readers read searchers ran core.history
        ended.reader_starts ended.searcher_starts ended.covered other (let long = length-map {B = Fed} feeds (λ (f : F). (name f, told f)) in omega (arith, late, long));
    counted = λ one. let same = same_readings one in let up = ended.counts.counted one in omega (arith, same, up);
    failed = failed_at;
    risen = risen_of;
  }

  legal_is : IsLegal problem settings core.history
  legal_is =
      let first_terms : (known first).terms ≡ Some (terms_for problem settings (length feeds) workers) = watches.role.terms ∙ ap (λ (k : Known Entry Terms). k.terms) opened.knows in
      let same = terms_is (terms_of core) (terms_for problem settings (length feeds) workers) (sym ended.terms ∙ first_terms) in
      subst (λ (p : Problem). IsLegal p settings core.history) (ap (λ (t : Terms). t.problem) same)
      (subst (λ (s : Settings). IsLegal core.problem s core.history) (ap (λ (t : Terms). t.settings) same) ended.sound.legal)

  pub rolled : (status : ℕ) → IsStatus (mark_of (newest core.history) core.history) readings end_told status → IsRolled problem settings trees (fed name told feeds) old new core.history status
  rolled status is = record {
    legal = legal_is;
    readings = readings;
    read = all_read;
    printed = end_told;
    prints =
        let seen = (known first).seen in let rest = ended.starts.0 in
        let behind : drop (length seen) core.history ≡ rest = ap (drop (length seen)) ended.starts.1 ∙ left seen rest in
        let from_none = subst (λ (n : ℕ). PrintsJournal trees (drop n seen) old mid printed) opened.none_fetched prints in
        let more = subst (λ (l : List Entry). PrintsRest trees l mid new printed end_told) behind ended.prints in
        subst (λ (l : List Entry). PrintsJournal trees l old (with_readings new old.reading) end_told) (sym ended.starts.1)
        (printed_whole trees seen rest old mid new printed end_told (λ i one. same_readings one i) from_none more);
    status_is = is;
  }
    where
      left : (xs ys : List Entry) → drop (length xs) (xs ++ ys) ≡ ys
      left [] ys = refl
      left (x ∷ xs) ys = left xs ys
