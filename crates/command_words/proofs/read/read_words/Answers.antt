use Rattle.std.proofs.Common.{◌≡◌, ◌∙◌, ℕ, List, ap, refl, subst, true, [], map, string_bytes}
use Rattle.std.proofs.lemmas.Result.{IfOk-weaker, IfErr-weaker}
use Rattle.clap.specs.Words.{App, HasKind, HasMatchesOf, app_of, fault_of, is_simple}
use Rattle.clap.specs.Words.{is_simple_and_free, subcommand_of, subcommand_rows_of}
use Rattle.clap.specs.declared.parser.matches.ArgMatches.{ArgMatches}
use Rattle.command_words.specs.Program.{program}
use Rattle.command_words.specs.Task.{AreTaken}
use Rattle.command_words.proofs.read.read_words.Goals as goal

simple : is_simple program ≡ true
simple = refl

free : is_simple_and_free program ≡ true
free = refl

-- the matches of the program's command line
rows_are : (app : App) (words : List (List ℕ)) (m : ArgMatches) → app ≡ program
    → HasMatchesOf app words m → subcommand_rows_of m ≡ subcommand_of program words
rows_are app words m app_is matches = (matches (ap is_simple app_is ∙ simple)).1
    ∙ ap (λ (a : App). subcommand_of a words) app_is

pub returns-in-Ok-clause-ok : goal.returns-in-Ok-clause-ok
returns-in-Ok-clause-ok c =
    let words = map (λ word. string_bytes word) c.args.words.now in
    let app_is = c.in_ok-command.ensures in
    let taken : AreTaken words = subst (λ (a : App). fault_of a words ≡ []) app_is
    (c.in-Ok.ensures.kinds (ap is_simple_and_free app_is ∙ free)) in
    IfOk-weaker c.task.result _ _ (λ task h. h words taken
    (rows_are (app_of c.in_ok-command.command) words c.in-Ok.matches app_is
    c.in-Ok.ensures.matches)) c.task.ensures.ok

pub returns-in-Ok-clause-refused : goal.returns-in-Ok-clause-refused
returns-in-Ok-clause-refused c =
    let words = map (λ word. string_bytes word) c.args.words.now in
    IfErr-weaker c.task.result _ _ (λ no h. h words
    (rows_are (app_of c.in_ok-command.command) words c.in-Ok.matches c.in_ok-command.ensures
    c.in-Ok.ensures.matches)) c.task.ensures.err

pub returns-in-Err-clause-refused : goal.returns-in-Err-clause-refused
returns-in-Err-clause-refused c =
    let words = map (λ word. string_bytes word) c.args.words.now in
    let app_is = c.in_ok-command.ensures in
    c.refusal.ensures words (subst (λ (a : App). HasKind (fault_of a words) c.in-Err.error) app_is
    (c.in-Err.ensures.kinds (ap is_simple_and_free app_is ∙ free)))
