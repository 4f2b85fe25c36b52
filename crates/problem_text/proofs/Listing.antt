-- Elements that were added one after another.
use Rattle.std.proofs.Common.{ℕ, ◌+◌, ◌<◌, List, [], ◌++◌, length, take, get_or}
use Rattle.std.specs.Prelude.{codes}
use Rattle.std.specs.List.{flat_map}
use Rattle.std.proofs.lemmas.List.{flat_map_more, take_more}
use Rattle.plain_values.specs.Texts.{Adds}
use Rattle.plain_values.proofs.Added.{joined}
use Rattle.problem_text.specs.Texts.{behind_comma}

-- one more element behind those that were added
pub more_elements : {X : Type 0} (f : X → List ℕ) {before text then now : List ℕ} (xs : List X)
    (i : ℕ) (d : X) → i < length xs
    → Adds before text (flat_map (behind_comma f) (take i xs))
    → Adds text then (codes ",") → Adds then now (f (get_or xs i d))
    → Adds before now (flat_map (behind_comma f) (take (i + 1) xs))
more_elements f {before} {text} {then} {now} xs i d within done comma element =
    let both : Adds before now
    (flat_map (behind_comma f) (take i xs) ++ behind_comma f (get_or xs i d)) =
    joined done (joined comma element) in
    rw (take_more xs i d within)
    (rw (← flat_map_more (behind_comma f) [] (take i xs) (get_or xs i d)) both)
