-- The files of the system.
use Rattle.std.specs.Prelude.{ℕ, List}
use Rattle.fault_counts.specs.Faults.{Knows, fault_count}
use Rattle.disp_outside.specs.declared.file_shelf.FileShelf.{FileShelf}

module _ {R : Type 0} where
  -- the name was asked for or put, and has a place for its faults of reading
  abbrev pub KnowsName : FileShelf R → List ℕ → Type 0
  KnowsName shelf name = Knows shelf.faults name

  -- how often a reading of the name has failed
  abbrev pub fault_count_of : FileShelf R → List ℕ → ℕ
  fault_count_of shelf name = fault_count shelf.faults name

  -- how often a putting under a name has failed
  abbrev pub put_fault_count_of : FileShelf R → List ℕ → ℕ
  put_fault_count_of shelf name = fault_count shelf.put_faults name

  -- how many of its feeds are open
  abbrev pub open_count : FileShelf R → ℕ
  open_count shelf = shelf.open_feeds
