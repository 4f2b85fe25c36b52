use Rattle.std.proofs.Common.{◌∙◌, ap}
use Rattle.clap.specs.Simple.{app_of_fields}
use Rattle.clap.specs.declared.builder.command.Command.{Command}
use Rattle.clap.specs.declared.builder.command.Command.TheOpen.{Command-F}
use Rattle.command_words.proofs.program.described.Goals as goal

pub returns : goal.returns
returns c = record {
  app = ap app_of_fields c.after_help.ensures ∙ (ap app_of_fields c.override_usage.ensures
      ∙ ap app_of_fields c.about.ensures);
  own = ap (λ (f : Command-F Command). f.has_globals) c.after_help.ensures
      ∙ (ap (λ (f : Command-F Command). f.has_globals) c.override_usage.ensures
      ∙ ap (λ (f : Command-F Command). f.has_globals) c.about.ensures);
}
