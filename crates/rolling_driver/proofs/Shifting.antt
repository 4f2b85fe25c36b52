-- What is printed does not rest on readings.
use Rattle.std.proofs.Common.{◌≡◌, ◌∙◌, ℕ, inl, inr, List, Option, Result, Ok, Err, drop, refl, ap, subst}
use Rattle.std.specs.Prelude.{OnOk}
use Rattle.std.proofs.lemmas.Result.{IfErr-weaker, on_ok_weaker}
use Rattle.disp_model.specs.declared.entry.Entry.{Entry}
use Rattle.disp_outside.specs.States.{Counts}
use Rattle.text_puts.specs.Outside.{Outside}
use Rattle.journal_printer.specs.declared.no.PrintNo.{PrintNo}
use Rattle.journal_printer.specs.declared.no.PrintNo.TheVariants.{Unput, Unwritten, Memory}
use Rattle.journal_printer.specs.Printing.{PrintsAll, StopsPrinting, Prints}
use Rattle.rolling_driver.specs.Ended.{PrintsBehind, PrintsRest}
use Rattle.rolling_driver.specs.Printed.{PrintsJournal}

-- the outside with other counts of readings
abbrev pub with_readings : Outside → Counts → Outside
with_readings out reading = record out { reading = reading }

module _ (trees : Option (List ℕ)) (old new : Outside) (reading : Counts) where
  all_shifted : (entries : List Entry) → PrintsAll trees entries old new → PrintsAll trees entries (with_readings old reading) (with_readings new reading)
  all_shifted entries all = record { written = all.written; puts = all.puts; faults = all.faults; putting = all.putting; reading = λ name. refl }

  stops_shifted : (entries : List Entry) (why : PrintNo) → StopsPrinting trees entries old new why → StopsPrinting trees entries (with_readings old reading) (with_readings new reading) why
  stops_shifted entries Unput stops = record { done = stops.done; next = stops.next; comes = stops.comes; written = stops.written; faults = stops.faults; before = stops.before; puts = stops.puts; misses = stops.misses }
  stops_shifted entries Unwritten stops = record {
    done = stops.done;
    next = stops.next;
    comes = stops.comes;
    before = stops.before;
    written = stops.written;
    part = stops.part;
    fault = stops.fault;
    puts = stops.puts;
    putting = stops.putting;
  }
  stops_shifted entries Memory stops = record { done = stops.done; next = stops.next; comes = stops.comes; written = stops.written; faults = stops.faults; puts = stops.puts; putting = stops.putting }

  prints_shifted : (entries : List Entry) (told : Result (Unit {0}) PrintNo) → Prints trees entries old new told → Prints trees entries (with_readings old reading) (with_readings new reading) told
  prints_shifted entries told prints = record {
    all = on_ok_weaker told (all_shifted entries) prints.all;
    stops = IfErr-weaker told (StopsPrinting trees entries old new) (StopsPrinting trees entries (with_readings old reading) (with_readings new reading)) (stops_shifted entries) prints.stops;
    unput = prints.unput;
    unwritten = prints.unwritten;
    counted = prints.counted;
    reading = λ name. refl;
    others = prints.others;
  }

  pub shifted : (entries : List Entry) (told : Result (Unit {0}) PrintNo) → PrintsJournal trees entries old new told → PrintsJournal trees entries (with_readings old reading) (with_readings new reading) told
  shifted entries told (inl prints) = inl (prints_shifted entries told prints)
  shifted entries told (inr out) = inr (record { front = out.front; rest = out.rest; parts = out.parts; printed = prints_shifted out.front _ out.printed; told_is = out.told_is })

-- printing reads nothing
pub journal_readings : (trees : Option (List ℕ)) (entries : List Entry) (old new : Outside) (told : Result (Unit {0}) PrintNo) → PrintsJournal trees entries old new told
    → (name : List ℕ) → new.reading name ≡ old.reading name
journal_readings trees entries old new told (inl prints) = prints.reading
journal_readings trees entries old new told (inr out) = out.printed.reading

-- behind a state that differs from another in its readings alone
pub rest_shifted : (trees : Option (List ℕ)) (rest : List Entry) (old mid new : Outside) (printed told : Result (Unit {0}) PrintNo) → with_readings mid old.reading ≡ old
    → PrintsBehind trees rest mid new printed told → PrintsRest trees rest old new printed told
rest_shifted trees rest old mid new (Ok done) told same prints =
    subst (λ (o : Outside). PrintsJournal trees rest o (with_readings new old.reading) told) same (shifted trees mid new old.reading rest told prints)
rest_shifted trees rest old mid new (Err why) told same (told_is, new_is) = (told_is, ap (λ (o : Outside). with_readings o old.reading) new_is ∙ same)

-- what is left behind those that were fetched is what is left behind those that were seen, where these are all fetched
pub rest_behind : (trees : Option (List ℕ)) (fetched seen : ℕ) (entries : List Entry) (old new : Outside) (printed told : Result (Unit {0}) PrintNo) → OnOk printed (fetched ≡ seen)
    → PrintsBehind trees (drop fetched entries) old new printed told → PrintsBehind trees (drop seen entries) old new printed told
rest_behind trees fetched seen entries old new (Ok done) told same prints = subst (λ (n : ℕ). PrintsJournal trees (drop n entries) old new told) same prints
rest_behind trees fetched seen entries old new (Err why) told same prints = prints
