-- Numbers that were read are within their limit.
use Rattle.std.proofs.Common.{◌≡◌, ℕ, ◌≤◌, Option, Some, None, Bool, true, false, cond, refl, ◌∙◌, arith}
use Rattle.std.specs.Prelude.{nat_le, option_and_then, option_map}
use Rattle.std.specs.Option.{option_map_or, ForSome}
use Rattle.std.proofs.lemmas.Bool.{leb-true}
use Rattle.std.proofs.lemmas.Option.{same_Some, none-some}
use Rattle.serde_json.specs.Data.{Data}
use Rattle.serde_json.specs.Find.{as_u64, as_number}
use Rattle.json_claims.specs.Field.{whole_of, fit}

fit_fits : (limit n m : ℕ) (b : Bool) → nat_le n limit ≡ b → cond b (Some n) None ≡ Some m → m ≤ limit
fit_fits limit n m true is e = let same : n ≡ m = same_Some n m e in let le : n ≤ limit = leb-true n limit is in omega arith
fit_fits limit n m false is e = absurd cc

whole_fits_at : (limit : ℕ) (o : Option ℕ) (n : ℕ) → option_and_then (fit limit) o ≡ Some n → n ≤ limit
whole_fits_at limit None n e = absurd cc
whole_fits_at limit (Some m) n e = fit_fits limit m n (nat_le m limit) refl e

whole_fits : (limit : ℕ) (d : Data) (n : ℕ) → whole_of limit d ≡ Some n → n ≤ limit
whole_fits limit d n e = whole_fits_at limit (option_and_then as_u64 (as_number d)) n e

pub default_fits : (limit : ℕ) (found : Option Data) (n : ℕ) → option_map_or (whole_of limit) found (Some 0) ≡ Some n → n ≤ limit
default_fits limit None n e = let same : 0 ≡ n = same_Some 0 n e in omega arith
default_fits limit (Some d) n e = whole_fits limit d n e

some_fits : (limit : ℕ) (w u : Option ℕ) → ((n : ℕ) → w ≡ Some n → n ≤ limit) → option_map Some w ≡ Some u → ForSome u (λ n. n ≤ limit)
some_fits limit None u fits e = absurd cc
some_fits limit (Some n) u fits e = λ x h. fits x (same_Some (Some n) u e ∙ h)

pub optional_fits : (limit : ℕ) (found : Option Data) (u : Option ℕ) → option_map_or (λ v. option_map Some (whole_of limit v)) found (Some None) ≡ Some u → ForSome u (λ n. n ≤ limit)
optional_fits limit None u e = λ x h. absurd (none-some x (same_Some None u e ∙ h))
optional_fits limit (Some d) u e = some_fits limit (whole_of limit d) u (whole_fits limit d) e
