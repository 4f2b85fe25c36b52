-- A command line that grows by one argument, or by one command, in each step.
use Rattle.std.proofs.Common.{◌≡◌, ◌∙◌, ℕ, ap, ap₂, subst, Bool, false, Option, Some}
use Rattle.std.specs.Prelude.{◌||◌, ℤ, pos}
use Rattle.clap.specs.Words.{AddsArg, AddsSubcommand, App, NarrowsTo, Rule, app_of, rule_of}
use Rattle.clap.specs.Words.{with_rule, with_subcommand}
use Rattle.clap.specs.declared.builder.arg.Arg.{Arg}
use Rattle.clap.specs.declared.builder.command.Command.{Command}
use Rattle.clap.specs.declared.builder.value_parser.ValueParser.{ValueParser}
use Rattle.clap.specs.declared.builder.value_parser.ValueParser.TheVariants.{Signed}
use Rattle.clap.specs.declared.builder.command.Command.TheViews.{out-Command as fields_of}

-- what a command takes, where none of its arguments is global
pub record Stands (command : Command) (app : App) : Type 0 where
  pub app_is : app_of command ≡ app
  pub own : (fields_of command).has_globals ≡ false

-- a command with one argument more
pub begun : {old new : Command} {a : Arg} {app : App} (rule : Rule) → AddsArg old a new
    → app_of old ≡ app → (fields_of old).has_globals ≡ false → rule_of a ≡ rule
    → a.global ≡ false → Stands new (with_rule app rule)
begun rule adds old_is old_own rule_is own = record {
  app_is = adds.shape own ∙ ap₂ with_rule old_is rule_is;
  own = adds.globals ∙ ap₂ (λ (x y : Bool). x || y) old_own own;
}

-- the same, of a command that is known to stand
pub more : {old new : Command} {a : Arg} {app : App} (rule : Rule) → AddsArg old a new
    → Stands old app → rule_of a ≡ rule → a.global ≡ false → Stands new (with_rule app rule)
more rule adds before = begun rule adds before.app_is before.own

-- a program with one command more
pub one_more : {old sub new : Command} {all app : App} → AddsSubcommand old sub new
    → app_of old ≡ all → app_of sub ≡ app → (fields_of sub).has_globals ≡ false
    → app_of new ≡ with_subcommand all app.top
one_more adds old_is sub_is own =
    adds.shape own ∙ ap₂ with_subcommand old_is (ap (λ (a : App). a.top) sub_is)

-- a parser of numbers, within narrower bounds
pub narrowed : (p r : ValueParser) (start end : ℤ) (least most from to : ℕ)
    → p ≡ Signed (pos least) (pos most) → start ≡ pos from → end ≡ pos to
    → NarrowsTo p (Some start) (Some end) r
    → NarrowsTo (Signed (pos least) (pos most)) (Some (pos from)) (Some (pos to)) r
narrowed p r start end least most from to p_is start_is end_is narrows =
    subst (λ (x : ValueParser). NarrowsTo x (Some (pos from)) (Some (pos to)) r) p_is
    (subst (λ (x : ℤ). NarrowsTo p (Some x) (Some (pos to)) r) start_is
    (subst (λ (x : ℤ). NarrowsTo p (Some start) (Some x) r) end_is narrows))

-- an argument whose values are read by a parser
pub reads : (a b : Arg) (rule : Rule) (p q : ValueParser)
    → b ≡ record a { value_parser = b.value_parser }
    → (x : ValueParser) × (b.value_parser ≡ Some x) × (x ≡ p) → rule_of a ≡ rule → p ≡ q
    → rule_of b ≡ record rule { parser = Some q }
reads a b rule p q others given rule_is p_is = ap rule_of others
    ∙ ap₂ (λ (r : Rule) (v : Option ValueParser). record r { parser = v }) rule_is
    (given.1 ∙ ap Some (given.2 ∙ p_is))
