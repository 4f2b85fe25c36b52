-- Files in memory, some of whose readings and puttings break.
use Rattle.std.specs.Prelude.{◌≡◌, ℕ, ◌+◌, ◌⊎◌, List, [], Option, None, Contains}
use Rattle.std.specs.Option.{option_map, option_map_or}
use Rattle.std.specs.BTreeMap.{get_by_text}
use Rattle.fault_counts.specs.Faults.{Knows, fault_count}
use Rattle.outside_in_memory.specs.declared.mem_shelf.MemShelf.{MemShelf}

-- the bytes of the name's file, if there is one
abbrev pub held_file : MemShelf → List ℕ → Option (List ℕ)
held_file shelf name = option_map (λ file. file.bytes.items) (get_by_text shelf.files name)

-- the numbers of the readings of the name's file that fail
abbrev pub broken_calls : MemShelf → List ℕ → List ℕ
broken_calls shelf name = option_map_or (λ file. file.broken.items) (get_by_text shelf.files name)
    []

-- the numbers of the calls that fail in a feed of the name's file
abbrev pub broken_lines : MemShelf → List ℕ → List ℕ
broken_lines shelf name = option_map_or (λ file. file.broken_lines.items)
    (get_by_text shelf.files name) []

-- how many readings of the name's file there were, but for those without room
abbrev pub call_count : MemShelf → List ℕ → ℕ
call_count shelf name = option_map_or (λ file. file.calls) (get_by_text shelf.files name) 0

-- the next reading of the name fails: there is no such file, or the list has its number
abbrev pub NextBreaks : MemShelf → List ℕ → Type 0
NextBreaks shelf name = (held_file shelf name ≡ None)
    ⊎ Contains (broken_calls shelf name) (call_count shelf name + 1)

-- how often a reading of the name has failed
abbrev pub reading_faults : MemShelf → List ℕ → ℕ
reading_faults shelf name = fault_count shelf.faults name

-- how often a putting under a name has failed
abbrev pub putting_faults : MemShelf → List ℕ → ℕ
putting_faults shelf name = fault_count shelf.put_faults name

-- the name was asked for or put, and has a place for its faults of reading
abbrev pub KnowsName : MemShelf → List ℕ → Type 0
KnowsName shelf name = Knows shelf.faults name

-- the numbers of the puttings that fail
abbrev pub broken_puts : MemShelf → List ℕ
broken_puts shelf = shelf.broken_puts.items

-- how many puttings there were, but for those without room
abbrev pub put_count : MemShelf → ℕ
put_count shelf = shelf.puts

-- the next putting fails: the list has its number
abbrev pub NextPutBreaks : MemShelf → Type 0
NextPutBreaks shelf = Contains (broken_puts shelf) (put_count shelf + 1)

-- how many of its feeds are open
abbrev pub open_count : MemShelf → ℕ
open_count shelf = shelf.open_feeds

-- the name's file is as it was
pub record KeepsFile (old new : MemShelf) (name : List ℕ) : Type 0 where
  pub file : held_file new name ≡ held_file old name
  pub broken : broken_calls new name ≡ broken_calls old name
  pub lines : broken_lines new name ≡ broken_lines old name
  pub calls : call_count new name ≡ call_count old name

-- the puttings are as they were, those that were and those that are to fail
pub record KeepsPuts (old new : MemShelf) : Type 0 where
  pub broken : broken_puts new ≡ broken_puts old
  pub count : put_count new ≡ put_count old

-- the name's file was not read yet, and no reading of it and no call of a feed of it is to fail
pub record HasNoBreaks (shelf : MemShelf) (name : List ℕ) : Type 0 where
  pub broken : broken_calls shelf name ≡ []
  pub lines : broken_lines shelf name ≡ []
  pub calls : call_count shelf name ≡ 0
