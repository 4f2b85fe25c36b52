-- Reading from left to right, as long as there is something to read.
use Rattle.std.specs.Prelude.{◌≡◌, Option, Some, None, Result, Ok, Err}
use Rattle.packed_nodes.specs.declared.unread.Unread.{Unread}
use Rattle.packed_nodes.specs.declared.unread.Unread.TheVariants as unread

-- nothing is read from the first step on that reads nothing
infixl 10 ◌>>=◌
abbrev pub ◌>>=◌ : {A B : Type 0} → Option A → (A → Option B) → Option B
None >>= f = None
(Some x) >>= f = f x

-- nothing is read, unless memory ran out
abbrev pub RefusesBytes : {Y : Type 0} → Unread → Option Y → Type 0
RefusesBytes unread.Memory read = Unit {0}
RefusesBytes unread.Nothing read = read ≡ None

-- what a function returned, seen by view, is what is read, unless memory ran out
abbrev pub GivesBytesRead : {X Y : Type 0} → (X → Y) → Result X Unread → Option Y → Type 0
GivesBytesRead view (Ok x) read = read ≡ Some (view x)
GivesBytesRead view (Err e) read = RefusesBytes e read
