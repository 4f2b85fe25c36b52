-- Reading from left to right, with the first fault that is met.
use Rattle.std.specs.Prelude.{◌≡◌, Result, Ok, Err}
use Rattle.tree_certificate.specs.declared.fault.Fault.{Fault}
use Rattle.tree_certificate.specs.declared.fault.ReadError.{ReadError}
use Rattle.tree_certificate.specs.declared.fault.ReadError.TheVariants as errors

-- the first fault is that of the first step that has one
infixl 10 ◌>>=◌
abbrev pub ◌>>=◌ : {A B : Type 0} → Result A Fault → (A → Result B Fault) → Result B Fault
(Ok x) >>= f = f x
(Err e) >>= f = Err e

-- the error is the fault of reading, unless memory ran out
abbrev pub FailsRead : {Y : Type 0} → ReadError → Result Y Fault → Type 0
FailsRead errors.Memory read = Unit {0}
FailsRead (errors.Fault f) read = read ≡ Err f

-- what a function returned, seen by view, is what reading gives, unless memory ran out
abbrev pub GivesRead : {X Y : Type 0} → (X → Y) → Result X ReadError → Result Y Fault → Type 0
GivesRead view (Ok x) read = read ≡ Ok (view x)
GivesRead view (Err e) read = FailsRead e read
