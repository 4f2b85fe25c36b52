-- What clap's getters read, by the rows of its matches.
use Rattle.std.specs.Prelude.{◌≡◌, ℕ, List, Option, Some, None, option_map, Box}
use Rattle.std.specs.Box.{box_value}
use Rattle.std.proofs.Common.{Global, ap, refl}
use Rattle.std.proofs.lemmas.Option.{same_Some}
use Rattle.clap.specs.Words.{Row, subcommand_rows, subcommand_rows_of, subcommand_name_of}
use Rattle.clap.specs.declared.parser.matches.ArgMatches.{ArgMatches}
use Rattle.clap.specs.declared.parser.matches.ArgMatches.TheViews.{out-ArgMatches, out-SubCommand}
use Rattle.clap.specs.declared.parser.matches.SubCommand.{SubCommand}
use Rattle.clap.specs.Words.{all_of, first_value, first_of, matched_of, one_text, one_of, raw_values, rows_of}
use Rattle.clap.specs.declared.parser.matches.Found.{Found}
use Rattle.clap.proofs.WalkLemmas.{first_value-rows, one_text-rows, raw_values-rows}

pub first_is : (f : Found) (id : List ℕ) → first_value f id ≡ first_of id (rows_of f)
first_is = first_value-rows

pub one_is : (f : Found) (id : List ℕ) → one_text f id ≡ one_of id (rows_of f)
one_is = one_text-rows

pub all_is : (f : Found) (id : List ℕ) → option_map raw_values (matched_of f id) ≡ all_of id (rows_of f)
all_is = raw_values-rows

-- the name of the subcommand that was met, by its name and rows
pub name_is : (m : ArgMatches) (name : List ℕ) (rows : List Row) → subcommand_rows_of m ≡ Some (name, rows) → subcommand_name_of m ≡ Some name
name_is m name rows e = go (out-ArgMatches m).subcommand e
  where
    go : (found : Option (Box SubCommand Global)) → subcommand_rows found ≡ Some (name, rows) → option_map (λ b. (out-SubCommand (box_value b)).name.now) found ≡ Some name
    go None e = cc
    go (Some b) e = ap (option_map (λ p. p.0)) e

-- the subcommand that was met, where its name and its rows are known
pub named_rows : (m : ArgMatches) (name : List ℕ) (rows : List Row) → subcommand_name_of m ≡ Some name → option_map (λ p. p.1) (subcommand_rows (out-ArgMatches m).subcommand) ≡ Some rows → subcommand_rows_of m ≡ Some (name, rows)
named_rows m name rows named are = go (out-ArgMatches m).subcommand named are
  where
    go : (found : Option (Box SubCommand Global)) → option_map (λ b. (out-SubCommand (box_value b)).name.now) found ≡ Some name → option_map (λ p. p.1) (subcommand_rows found) ≡ Some rows → subcommand_rows found ≡ Some (name, rows)
    go None named are = cc
    go (Some b) named are = rw (same_Some _ _ named, same_Some _ _ are) refl
