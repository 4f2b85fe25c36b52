-- What the search is given for a task.
use Rattle.disp_model.specs.declared.settings.Settings.{Settings}
use Rattle.command_words.specs.declared.task.RollTask.{RollTask}
use Rattle.command_words.specs.declared.task.SolveTask.{SolveTask}

-- its budget and its rule
abbrev pub settings_of : SolveTask → Settings
settings_of task = record { budget = task.budget; rule = task.rule }

abbrev pub roll_settings_of : RollTask → Settings
roll_settings_of task = record { budget = task.budget; rule = task.rule }
