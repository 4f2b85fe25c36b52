-- Events that were added one after another.
use Rattle.std.proofs.Common.{ℕ, ◌+◌, ◌<◌, List, [], ◌++◌, length, take, get_or}
use Rattle.std.specs.Prelude.{codes}
use Rattle.std.specs.List.{flat_map}
use Rattle.std.proofs.lemmas.List.{flat_map_more, take_more}
use Rattle.disp_model.specs.declared.plan.Event.{Event}
use Rattle.plain_values.specs.Texts.{Adds}
use Rattle.plain_values.proofs.Added.{joined}
use Rattle.solution_text.specs.Texts.{event_text, next_event_text}

-- one more event behind those that were added
pub more_events : {before text then now : List ℕ} (plan : List Event) (i : ℕ) (d : Event) → i < length plan → Adds before text (flat_map next_event_text (take i plan)) → Adds text then (codes ",") → Adds then now (event_text (get_or plan i d))
    → Adds before now (flat_map next_event_text (take (i + 1) plan))
more_events {before} {text} {then} {now} plan i d within done comma event =
    let both : Adds before now (flat_map next_event_text (take i plan) ++ next_event_text (get_or plan i d)) = joined done (joined comma event) in
    rw (take_more plan i d within) (rw (← flat_map_more next_event_text [] (take i plan) (get_or plan i d)) both)
