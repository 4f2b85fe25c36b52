-- What is printed, round by round.
use Rattle.std.proofs.Common.{
  ◌≡◌,
  ◌⊎◌,
  ℕ,
  ◌≤◌,
  inl,
  inr,
  List,
  Option,
  Result,
  Ok,
  length,
  drop,
  refl,
  sym,
  subst,
  arith,
}
use Rattle.disp_model.specs.declared.entry.Entry.{Entry}
use Rattle.text_puts.specs.Outside.{Outside}
use Rattle.journal_printer.specs.declared.no.PrintNo.{PrintNo}
use Rattle.journal_printer.specs.Printing.{Prints}
use Rattle.turn_lock.proofs.Beginnings.{starts_length}
use Rattle.shared_board.specs.declared.pass.Pass.{Pass}
use Rattle.shared_board.specs.Board.{known, fetched}
use Rattle.rolling_driver.specs.Printed.{PrintsJournal, Watches}
use Rattle.rolling_driver.proofs.Pieces.{journal_more, journal_all}
use Rattle.rolling_driver.proofs.Watching.{watches_refl, watches_watches, seen_behind}

-- nothing was fetched yet, and nothing is changed; or all that was seen is fetched, and printed
abbrev pub IsPrinted : Option (List ℕ) → Pass → Pass → Outside → Outside → Type 0
IsPrinted trees first pass old now =
    ((fetched pass ≡ fetched first) × (now ≡ old))
    ⊎ ((fetched pass ≡ length (known pass).seen)
    × Prints trees (drop (fetched first) (known pass).seen) old now (Ok tt))

-- the pass has looked so far, and what it fetched is printed
pub record HasPrinted (trees : Option (List ℕ)) (first pass : Pass) (old now : Outside) : Type 0
  where
    pub watches : Watches first pass
    pub printed : IsPrinted trees first pass old now

pub printed_before : (trees : Option (List ℕ)) (first : Pass) (old : Outside)
    → HasPrinted trees first first old old
printed_before trees first old = record { watches = watches_refl first; printed = inl (refl, refl) }

-- one round more
module _ (trees : Option (List ℕ)) (first mid pass : Pass) (old now new : Outside)
    (so_far : HasPrinted trees first mid old now) (looks : Watches mid pass) where
  pub watches_on : Watches first pass
  watches_on = watches_watches first mid pass so_far.watches looks

  within : fetched first ≤ length (known mid).seen
  within = let longer = starts_length (known mid).seen (known first).seen so_far.watches.starts in
      omega (arith, first.fetched_within, longer)

  pub journal_on : (told : Result (Unit {0}) PrintNo)
      → PrintsJournal trees (drop (fetched mid) (known pass).seen) now new told
      → PrintsJournal trees (drop (fetched first) (known pass).seen) old new told
  journal_on told more = joins so_far.printed
    where
      behind : (from : ℕ) → fetched mid ≡ from → PrintsJournal trees (drop from (known pass).seen)
          now new told
      behind from is = subst
          (λ (n : ℕ). PrintsJournal trees (drop n (known pass).seen) now new told) is more

      joins : IsPrinted trees first mid old now
          → PrintsJournal trees (drop (fetched first) (known pass).seen) old new told
      joins (inl none) = subst
          (λ (o : Outside). PrintsJournal trees (drop (fetched first) (known pass).seen) o new told)
          none.1 (behind (fetched first) none.0)
      joins (inr all) = subst (λ (l : List Entry). PrintsJournal trees l old new told)
          (sym (seen_behind (fetched first) (known mid).seen (known pass).seen within looks.starts))
          (journal_more trees (drop (fetched first) (known mid).seen)
          (drop (length (known mid).seen) (known pass).seen) old now new told all.1
          (behind (length (known mid).seen) all.0))

  pub printed_on : fetched pass ≡ length (known pass).seen
      → PrintsJournal trees (drop (fetched mid) (known pass).seen) now new (Ok tt)
      → HasPrinted trees first pass old new
  printed_on all more = record {
    watches = watches_on;
    printed = inr (
      all,
      journal_all trees (drop (fetched first) (known pass).seen) old new
          (journal_on (Ok tt) more),
    );
  }
