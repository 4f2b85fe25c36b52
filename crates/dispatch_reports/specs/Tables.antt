-- The table of a plan.
use Rattle.std.specs.Prelude.{ℕ, zero, suc, ◌+◌, ◌-◌, ◌==◌, List, [], ◌∷◌, ◌++◌, length, replicate, sum_by, codes, if◌then◌else◌}
use Rattle.std.specs.Fmt.{decimal}
use Rattle.std.specs.List.{concat}
use Rattle.std.specs.Option.{option_map_or}
use Rattle.disp_model.specs.declared.plan.Event.{Event}
use Rattle.disp_model.specs.declared.problem.Problem.{Problem}
use Rattle.disp_model.specs.declared.train.Component.{Component}
use Rattle.disp_model.specs.Train.{duration_of}
use Rattle.disp_model.specs.Plan.{start_of}
use Rattle.disp_model.specs.Valid.{train_at}
use Rattle.disp_model.specs.Cost.{cost_in, cost_of}

-- ---- what is told of a train

-- when the first event of a train is; 0 where it has none
abbrev pub start_time : ℕ → List Event → ℕ
start_time t [] = 0
start_time t (e ∷ plan) = if e.train == t then e.time else start_time t plan

-- when an event ends that none of its train follows
abbrev pub end_of_last : Problem → Event → ℕ
end_of_last problem e = e.time + duration_of (train_at problem e.train) e.operation

-- when the last event of a train ends, where this is so for those before; 0 where it has none
abbrev pub end_from : Problem → ℕ → ℕ → List Event → ℕ
end_from problem t end [] = end
end_from problem t end (e ∷ plan) =
    end_from problem t (if e.train == t then end_of_last problem e else end) plan

abbrev pub end_time : Problem → ℕ → List Event → ℕ
end_time problem t plan = end_from problem t 0 plan

-- how long behind its threshold a component's operation starts; not at all where it is not run
abbrev pub delay_in : List Event → Component → ℕ
delay_in plan c = option_map_or (λ time. time - c.threshold) (start_of plan c.train c.operation) 0

-- of a component of the train, and 0 of others
abbrev pub of_train : ℕ → (Component → ℕ) → Component → ℕ
of_train t value c = if c.train == t then value c else 0

-- how late a train is at its components together
abbrev pub delay_of : Problem → List Event → ℕ → ℕ
delay_of problem plan t = sum_by (of_train t (delay_in plan)) problem.components

-- what they cost
abbrev pub train_cost : Problem → List Event → ℕ → ℕ
train_cost problem plan t = sum_by (of_train t (cost_in plan)) problem.components

-- ---- lines

-- a text behind spaces, in so many places together; a longer text takes what it needs
abbrev pub right : ℕ → List ℕ → List ℕ
right places text = replicate (places - length text) 32 ++ text

-- five texts, to the right of 6, 12, 12, 12 and 12 places
abbrev pub row_line : List ℕ → List ℕ → List ℕ → List ℕ → List ℕ → List ℕ
row_line train start end delay cost =
    right 6 train ++ codes " " ++ right 12 start ++ codes " " ++ right 12 end ++ codes " "
    ++ right 12 delay ++ codes " " ++ right 12 cost ++ codes "\n"

abbrev pub head_line : List ℕ
head_line = row_line (codes "train") (codes "start") (codes "end") (codes "delay") (codes "cost")

abbrev pub train_line : Problem → List Event → ℕ → List ℕ
train_line problem plan t =
    row_line (decimal t) (decimal (start_time t plan)) (decimal (end_time problem t plan))
    (decimal (delay_of problem plan t)) (decimal (train_cost problem plan t))

-- the lines of the first so many trains
abbrev pub train_lines : Problem → List Event → ℕ → List (List ℕ)
train_lines problem plan zero = []
train_lines problem plan (suc t) = train_lines problem plan t ++ train_line problem plan t ∷ []

abbrev pub total_line : Problem → List Event → List ℕ
total_line problem plan = codes "total " ++ decimal (cost_of problem.components plan) ++ codes "\n"

-- the lines of the table
abbrev pub report_lines : Problem → List Event → List (List ℕ)
report_lines problem plan =
    head_line ∷ train_lines problem plan (length problem.trains) ++ total_line problem plan ∷ []

-- its text
abbrev pub report_text : Problem → List Event → List ℕ
report_text problem plan = concat (report_lines problem plan)
