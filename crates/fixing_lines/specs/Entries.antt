-- The journal: the line of each entry of the history.
use Rattle.std.specs.Prelude.{ℕ, List, [], ◌++◌, codes, Option, Some, None}
use Rattle.std.specs.Fmt.{decimal}
use Rattle.disp_model.specs.declared.entry.Entry.{Entry}
use Rattle.disp_model.specs.declared.entry.Entry.TheVariants as entry
use Rattle.disp_model.specs.declared.entry.Mark.{Mark}
use Rattle.disp_model.specs.declared.entry.Mark.TheVariants as mark
use Rattle.disp_model.specs.declared.entry.Standing.{Standing}
use Rattle.disp_model.specs.declared.entry.Unasked.{Unasked}
use Rattle.disp_model.specs.declared.entry.Unasked.TheVariants as unasked
use Rattle.disp_model.specs.declared.fixing.Change.{Change}
use Rattle.disp_model.specs.declared.plan.Event.{Event}
use Rattle.disp_model.specs.declared.reply.Refusal.{Refusal}
use Rattle.disp_model.specs.declared.reply.Refusal.TheVariants.{NoTrain, NoOperation, NoSuccessor, TooLarge, BelowLower, AboveUpper, NoSuchChange, Withdrawn, StartedAt, ChosenIs, EarliestIs, NoRoute, Full}
use Rattle.disp_model.specs.declared.reply.Reply.{Reply}
use Rattle.disp_model.specs.declared.reply.Reply.TheVariants.{Accepted, Known, Refused}
use Rattle.disp_model.specs.declared.tree.Verdict.{Verdict}
use Rattle.disp_model.specs.declared.tree.Verdict.TheVariants as verdict
use Rattle.solution_text.specs.Texts.{solution_text}
use Rattle.fixing_lines.specs.Requests.{change_text}

-- why a change is refused
abbrev pub refusal_text : Refusal → List ℕ
refusal_text NoTrain = codes "NoTrain"
refusal_text NoOperation = codes "NoOperation"
refusal_text NoSuccessor = codes "NoSuccessor"
refusal_text TooLarge = codes "TooLarge"
refusal_text (BelowLower n) = codes "BelowLower " ++ decimal n
refusal_text (AboveUpper n) = codes "AboveUpper " ++ decimal n
refusal_text NoSuchChange = codes "NoSuchChange"
refusal_text (Withdrawn n) = codes "Withdrawn " ++ decimal n
refusal_text (StartedAt n) = codes "StartedAt " ++ decimal n
refusal_text (ChosenIs n) = codes "ChosenIs " ++ decimal n
refusal_text (EarliestIs n) = codes "EarliestIs " ++ decimal n
refusal_text NoRoute = codes "NoRoute"
refusal_text (Full n) = codes "Full " ++ decimal n

-- the reply to a change
abbrev pub reply_text : Reply → List ℕ
reply_text (Accepted e) = codes "accepted " ++ decimal e
reply_text (Known e) = codes "known " ++ decimal e
reply_text (Refused why) = codes "refused " ++ refusal_text why

-- why a line asks nothing
abbrev pub unasked_text : Unasked → List ℕ
unasked_text unasked.Unreadable = codes "unreadable"
unasked_text unasked.Long = codes "long"
unasked_text unasked.TooMany = codes "toomany"

-- how far an edition is settled
abbrev pub mark_text : Mark → List ℕ
mark_text mark.Working = codes "working"
mark_text (mark.Optimal c) = codes "optimal"
mark_text mark.Infeasible = codes "infeasible"
mark_text (mark.Stopped spent bound) = codes "stopped"

-- the cost of the best plan, if there is one
abbrev pub best_text : Option ℕ → List ℕ
best_text None = codes "none"
best_text (Some c) = decimal c

-- where the search stands
abbrev pub standing_text : Standing → List ℕ
standing_text s = codes "edition " ++ decimal s.edition ++ codes " " ++ mark_text s.mark
    ++ codes " best " ++ best_text s.best

abbrev pub verdict_text : Verdict → List ℕ
verdict_text (verdict.Optimal c) = codes "optimal " ++ decimal c
verdict_text verdict.Infeasible = codes "infeasible"

-- the feed and the number of a line, before what is said of it
abbrev pub line_text : ℕ → ℕ → List ℕ
line_text feed line = codes "feed " ++ decimal feed ++ codes " line " ++ decimal line ++ codes " "

-- the line of each kind of entry, with its end
abbrev pub asked_line : ℕ → ℕ → Change → Reply → List ℕ
asked_line feed line change reply = line_text feed line ++ change_text change ++ codes " "
    ++ reply_text reply ++ codes "\n"

abbrev pub unread_line : ℕ → ℕ → Unasked → List ℕ
unread_line feed line why = line_text feed line ++ unasked_text why ++ codes "\n"

abbrev pub shown_line : ℕ → ℕ → Standing → List ℕ
shown_line feed line standing = line_text feed line ++ codes "show " ++ standing_text standing
    ++ codes "\n"

abbrev pub published_line : ℕ → List Event → ℕ → List ℕ
published_line edition plan cost = codes "plan " ++ decimal edition ++ codes " " ++ decimal cost
    ++ codes " " ++ solution_text plan cost ++ codes "\n"

abbrev pub settled_line : ℕ → Verdict → List ℕ
settled_line edition verdict = codes "settled " ++ decimal edition ++ codes " "
    ++ verdict_text verdict ++ codes "\n"

abbrev pub stopped_line : ℕ → ℕ → ℕ → List ℕ
stopped_line edition spent bound = codes "stopped " ++ decimal edition ++ codes " spent "
    ++ decimal spent ++ codes " bound " ++ decimal bound ++ codes "\n"

-- an entry's text in the journal: its line, or nothing for a growth of the tree
abbrev pub entry_text : Entry → List ℕ
entry_text (entry.Asked feed line change reply) = asked_line feed line change reply
entry_text (entry.Unread feed line why) = unread_line feed line why
entry_text (entry.Shown feed line standing) = shown_line feed line standing
entry_text (entry.Grown searcher edition seen node splits) = []
entry_text (entry.Published edition plan cost) = published_line edition plan cost
entry_text (entry.Settled edition verdict tree) = settled_line edition verdict
entry_text (entry.Stopped edition spent bound) = stopped_line edition spent bound
