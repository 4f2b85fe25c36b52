-- A journal that is printed piece by piece.
use Rattle.std.proofs.Common.{
  ◌∙◌,
  ℕ,
  inl,
  inr,
  List,
  [],
  ◌++◌,
  Option,
  Result,
  Ok,
  Err,
  refl,
  sym,
  ap,
  arith,
  append_assoc,
}
use Rattle.disp_model.specs.declared.entry.Entry.{Entry}
use Rattle.text_puts.specs.Outside.{Outside}
use Rattle.text_puts.proofs.Puttings.{only_all, stands_none}
use Rattle.journal_printer.specs.declared.no.PrintNo.{PrintNo}
use Rattle.journal_printer.specs.declared.no.PrintNo.TheVariants.{Memory}
use Rattle.journal_printer.specs.Printing.{Prints}
use Rattle.journal_printer.proofs.Printed.{all_none, printed_more, printed_first}
use Rattle.rolling_driver.specs.Printed.{PrintsJournal}

-- more behind entries that were all printed
pub journal_more : (trees : Option (List ℕ)) (xs ys : List Entry) (old mid new : Outside)
    (told : Result (Unit {0}) PrintNo)
    → Prints trees xs old mid (Ok tt) → PrintsJournal trees ys mid new told
    → PrintsJournal trees (xs ++ ys) old new told
journal_more trees xs ys old mid new told first (inl more) =
    inl (printed_more trees xs ys old mid new told first.all more)
journal_more trees xs ys old mid new told first (inr out) = inr (record {
  front = xs ++ out.front;
  rest = out.rest;
  parts = ap (λ (l : List Entry). xs ++ l) out.parts ∙ sym (append_assoc xs out.front out.rest);
  printed = printed_more trees xs out.front old mid new (Ok tt) first.all out.printed;
  told_is = out.told_is;
})

-- where the printing stopped, it stopped for a longer journal
pub journal_first : (trees : Option (List ℕ)) (xs ys : List Entry) (old new : Outside)
    (why : PrintNo)
    → PrintsJournal trees xs old new (Err why) → PrintsJournal trees (xs ++ ys) old new (Err why)
journal_first trees xs ys old new why (inl stopped) =
    inl (printed_first trees xs ys old new why stopped)
journal_first trees xs ys old new why (inr out) = inr (record {
  front = out.front;
  rest = out.rest ++ ys;
  parts = ap (λ (l : List Entry). l ++ ys) out.parts ∙ append_assoc out.front out.rest ys;
  printed = out.printed;
  told_is = out.told_is;
})

-- of no entries nothing is printed
pub prints_none : (trees : Option (List ℕ)) (old : Outside) → Prints trees [] old old (Ok tt)
prints_none trees old = record {
  all = all_none trees old;
  stops = tt;
  unput = λ name rises. absurd (omega (arith, rises));
  unwritten = λ rises. absurd (omega (arith, rises));
  counted = omega arith;
  reading = λ name. refl;
  others = only_all [] old.holds old.holds old.putting old.putting (stands_none old.holds)
      (λ name. refl);
}

-- where memory ran out before anything was given to be printed
pub journal_none : (trees : Option (List ℕ)) (journal : List Entry) (old : Outside)
    → PrintsJournal trees journal old old (Err Memory)
journal_none trees journal old = inr (record {
  front = [];
  rest = journal;
  parts = refl;
  printed = prints_none trees old;
  told_is = refl;
})

-- where all is told to be printed, it is
pub journal_all : (trees : Option (List ℕ)) (journal : List Entry) (old new : Outside)
    → PrintsJournal trees journal old new (Ok tt) → Prints trees journal old new (Ok tt)
journal_all trees journal old new (inl prints) = prints
journal_all trees journal old new (inr out) = absurd (let e = out.told_is in cc)
