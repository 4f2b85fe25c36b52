-- Texts that were added one after another.
use Rattle.std.proofs.Common.{ℕ, List, ◌++◌, ap, ◌∙◌, append_assoc}
use Rattle.plain_values.specs.Texts.{Adds}

-- one more text behind those that were added
pub joined : {before text more added piece : List ℕ} → Adds before text added → Adds text more piece → Adds before more (added ++ piece)
joined {before} {text} {more} {added} {piece} first second = record { is = second.is ∙ ap (λ (t : List ℕ). t ++ piece) first.is ∙ append_assoc before added piece }
