-- Where there is a part to read, a reader does not find that there is none.
use Rattle.std.proofs.Common.{◌≡◌, Option, Some}
use Rattle.json_claims.specs.declared.unread.Unread.{Unread}
use Rattle.json_claims.specs.declared.unread.Unread.TheVariants.{Nothing, Memory}
use Rattle.json_claims.specs.Gives.{Refuses}

pub is_readable : {A : Type 0} (why : Unread) (found : Option A) (x : A) → why ≡ Nothing → Refuses why found → found ≡ Some x → ⊥
is_readable Nothing found x e refused is = absurd cc
is_readable Memory found x e refused is = absurd cc
