-- The command line that the program takes, as clap's own function of simple commands reads it.
use Rattle.std.specs.Prelude.{ℕ, List, [], ◌∷◌, Some, pos, true, codes}
use Rattle.clap.specs.Lexer.{usize_max}
use Rattle.clap.specs.Words.{App, Rule, new_app, new_rule, with_rule, with_subcommand}
use Rattle.clap.specs.Simple.{on_top}
use Rattle.clap.specs.declared.builder.value_parser.ValueParser.TheVariants.{Signed}
use Rattle.disp_model.specs.declared.limits.TheConstants.{MOST_CALLERS}

-- a name that must be given, by its place among the words
abbrev pub needed_rule : List ℕ → Rule
needed_rule id = record (new_rule id) { required = true; value_names = 1 }

-- a name that may be given, behind two dashes and its id
abbrev pub optional_rule : List ℕ → Rule
optional_rule id = record (new_rule id) { long = Some id; value_names = 1 }

-- PROBLEM
abbrev pub problem : Rule
problem = needed_rule (codes "problem")

-- `--fixings`
abbrev pub fixings : Rule
fixings = optional_rule (codes "fixings")

-- `--workers`: how many searchers, at least one and at most 64, and one where it is not given
abbrev pub workers : Rule
workers = record (optional_rule (codes "workers")) {
  defaults = codes "1" ∷ [];
  parser = Some (Signed (pos 1) (pos MOST_CALLERS));
}

-- `--budget`: a number of 32 bits, a million where it is not given
abbrev pub budget : Rule
budget = record (optional_rule (codes "budget")) {
  defaults = codes "1000000" ∷ [];
  parser = Some (Signed (pos 0) (pos 4294967295));
}

-- `--rule`: a text
abbrev pub rule : Rule
rule = optional_rule (codes "rule")

-- a command, with what its search is told: `[--workers N] [--budget B] [--rule RULE]`
abbrev pub with_search : App → App
with_search command = with_rule (with_rule (with_rule command workers) budget) rule

-- what `solve` reads: `PROBLEM [--fixings F]`
abbrev pub solve_inputs : App
solve_inputs = with_rule (with_rule (new_app (codes "solve")) problem)
    fixings

-- `solve PROBLEM [--fixings F] [--workers N] [--budget B] [--rule RULE] [--plan OUT] [--tree OUT]`
abbrev pub solve : App
solve = with_rule (with_rule (with_search solve_inputs) (optional_rule (codes "plan")))
    (optional_rule (codes "tree"))

-- `verify PROBLEM SOLUTION [--fixings F]`
abbrev pub verify : App
verify =
    with_rule (with_rule (with_rule (new_app (codes "verify")) problem)
    (needed_rule (codes "solution"))) fixings

-- `check PROBLEM TREE [--fixings F] [--plan P]`
abbrev pub check : App
check = with_rule
    (with_rule (with_rule (with_rule (new_app (codes "check")) problem)
    (needed_rule (codes "tree"))) fixings) (optional_rule (codes "plan"))

-- `report PROBLEM SOLUTION [--fixings F]`
abbrev pub report : App
report =
    with_rule (with_rule (with_rule (new_app (codes "report")) problem)
    (needed_rule (codes "solution"))) fixings

-- NUMBER, of 31 bits
abbrev pub number : Rule
number = record (needed_rule (codes "number")) { parser = Some (Signed (pos 0) (pos 2147483647)) }

-- TRAINS, at least one and at most 2000
abbrev pub trains : Rule
trains = record (needed_rule (codes "trains")) { parser = Some (Signed (pos 1) (pos 2000)) }

-- `make NUMBER TRAINS [--out FILE]`
abbrev pub make : App
make =
    with_rule (with_rule (with_rule (new_app (codes "make")) number) trains)
    (optional_rule (codes "out"))

-- FEED, at least one
abbrev pub feeds : Rule
feeds = record (needed_rule (codes "feeds")) {
  range = Some (record { start_inclusive = 1; end_inclusive = usize_max });
}

-- what `roll` reads: `PROBLEM FEED...`
abbrev pub roll_inputs : App
roll_inputs = with_rule (with_rule (new_app (codes "roll")) problem) feeds

-- `roll PROBLEM FEED... [--workers N] [--budget B] [--rule RULE] [--trees PREFIX]`
abbrev pub roll : App
roll = with_rule (with_search roll_inputs) (optional_rule (codes "trees"))

-- the program's name, which has a version
abbrev pub named_program : App
named_program = on_top (λ s. record s { has_version = true }) (new_app (codes "dispatch"))

-- the words do not begin with the program's name, and name a command
abbrev pub bare_program : App
bare_program = on_top (λ s. record s {
  no_binary_name = true;
  subcommand_required = true;
  disable_help_subcommand = true;
}) named_program

-- `solve` or `verify`
abbrev pub first_commands : App
first_commands = with_subcommand (with_subcommand bare_program solve.top) verify.top

-- the same, or `check` or `report`
abbrev pub more_commands : App
more_commands = with_subcommand (with_subcommand first_commands check.top) report.top

-- one of these commands, or `make` or `roll`
abbrev pub program : App
program = with_subcommand (with_subcommand more_commands make.top) roll.top
