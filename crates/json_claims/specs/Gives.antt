-- What a reader of a part answers, beside what there is to read.
use Rattle.std.specs.Prelude.{◌≡◌, Option, Some, None, Result, Ok, Err}
use Rattle.json_claims.specs.declared.unread.Unread.{Unread}
use Rattle.json_claims.specs.declared.unread.Unread.TheVariants.{Nothing, Memory}

-- nothing is there, unless memory ran out
abbrev pub Refuses : {A : Type 0} → Unread → Option A → Type 0
Refuses Nothing found = found ≡ None
Refuses Memory found = Unit {0}

-- the value is what is there, or nothing is there, unless memory ran out
abbrev pub Gives : {A : Type 0} → Result A Unread → Option A → Type 0
Gives (Ok x) found = found ≡ Some x
Gives (Err e) found = Refuses e found
