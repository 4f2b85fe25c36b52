-- Words that are taken name one of the commands.
use Rattle.std.proofs.Common.{◌≡◌, ◌⊎◌, ℕ, Bool, true, false, cond, subst, List, [], ◌∷◌, Option}
use Rattle.std.proofs.Common.{Some, None, refl, inl, inr, codes, option_map, is_some, map}
use Rattle.std.specs.Prelude.{not, ◌&&◌, find}
use Rattle.std.specs.List.{list_any}
use Rattle.clap.specs.Kinds.{Kinds, or_else, check_kinds}
use Rattle.clap.specs.Facts.{explicit_source}
use Rattle.clap.specs.Takes.{is_given}
use Rattle.clap.specs.Faults.{level_fault, check_fault, walk_fault, settle_fault, defaults_fault}
use Rattle.clap.specs.Faults.{entered_fault}
use Rattle.clap.specs.Walk.{Held, Names as Commands, Row, Text, answers_to, finished}
use Rattle.clap.specs.Walk.{nothing_held, settled, stop_after, walk, walk_from}
use Rattle.clap.specs.Simple.{Shape, built, entered, rows_at, argument_words, label_of, names_of}
use Rattle.clap.specs.Words.{subcommand_of}
use Rattle.command_words.specs.Program.{program}
use Rattle.command_words.specs.Task.{AreTaken}

last_empty : (a b c d e : Kinds) → or_else a (or_else b (or_else c (or_else d e))) ≡ [] → e ≡ []
last_empty [] [] [] [] e h = h
last_empty [] [] [] (x ∷ d) e h = cc
last_empty [] [] (x ∷ c) d e h = cc
last_empty [] (x ∷ b) c d e h = cc
last_empty (x ∷ a) b c d e h = cc

-- where a level of the parse finds no fault, its last checks find none
level_checked : (s : Shape) (names : Commands) (h : Held) (words : List Text) (has : Bool)
    (below : Kinds) → level_fault s names h words has below ≡ []
    → check_fault s (finished s.rules (walk s.rules names h words).held) has ≡ []
level_checked s names h words has below e = last_empty
    (walk_fault s names (walk_from h) words) below
    (settle_fault s.rules s.args_override_self (walk s.rules names h words).held)
    (defaults_fault (settled s.rules (walk s.rules names h words).held).rows s.rules)
    (check_fault s (finished s.rules (walk s.rules names h words).held) has) e

misses : (help argument : Bool) → check_kinds help true argument ≡ [] → ⊥
misses true argument e = cc
misses false argument e = cc

-- where a subcommand is required, and no fault is found, there is one
has_one : (s : Shape) (rows : List Row) (has : Bool) → s.subcommand_required ≡ true
    → check_fault s rows has ≡ [] → has ≡ true
has_one s rows true required e = refl
has_one s rows false required e =
    let help = s.arg_required_else_help && not (list_any (λ r. explicit_source r.source) rows) in
    let argument = not (s.subcommand_negates_reqs && false)
    && list_any (λ a. a.required && not (is_given a.id rows)) s.rules in
    absurd (misses help argument (subst (λ b. check_kinds help b argument ≡ []) required e))

-- one of the names is that of the command that was found, with its rows
abbrev pub IsAmong : List Text → Option (Text × List Row) → List Row → Type 0
IsAmong [] found rows = ⊥
IsAmong (name ∷ names) found rows = (found ≡ Some (name, rows)) ⊎ IsAmong names found rows

abbrev pub NamesOne : List Text → Option (Text × List Row) → Type 0
NamesOne names found = (rows : List Row) × IsAmong names found rows

-- the command of a word, with what it makes of the words behind that one
module _ (p : Text × List Text) where
  abbrev found_in : List Shape → Option (Text × List Row)
  found_in subs =
      option_map (λ s. rows_at s p.1) (find (λ s. answers_to p.0 (label_of s)) subs)

  abbrev found_from : Bool → Shape → List Shape → Option (Text × List Row)
  found_from is_first s subs = option_map (λ s. rows_at s p.1)
      (cond is_first (Some s) (find (λ s. answers_to p.0 (label_of s)) subs))

  first_or_later : (is_first : Bool) (s : Shape) (subs : List Shape)
      → (is_some (found_in subs) ≡ true → NamesOne (map (λ s. s.name) subs) (found_in subs))
      → is_some (found_from is_first s subs) ≡ true
      → NamesOne (map (λ s. s.name) (s ∷ subs)) (found_from is_first s subs)
  first_or_later true s subs later there = ((rows_at s p.1).1, inl refl)
  first_or_later false s subs later there = let one = later there in (one.0, inr one.1)

  found_one : (subs : List Shape) → is_some (found_in subs) ≡ true
      → NamesOne (map (λ s. s.name) subs) (found_in subs)
  found_one [] there = cc
  found_one (s ∷ subs) there =
      first_or_later (answers_to p.0 (label_of s)) s subs (found_one subs) there

-- the commands of the program
abbrev pub command_names : List Text
command_names = codes "solve" ∷ codes "verify" ∷ codes "check" ∷ codes "report" ∷ codes "make"
    ∷ codes "roll" ∷ []

entered_one : (stop : Option (Text × List Text)) → is_some (entered (built program) stop) ≡ true
    → NamesOne command_names (entered (built program) stop)
entered_one None there = cc
entered_one (Some p) there = found_one p (built program).subs there

pub taken_names_one : (words : List (List ℕ)) → AreTaken words
    → NamesOne command_names (subcommand_of program words)
taken_names_one words taken =
    let top = (built program).top in
    let names = names_of (built program) in
    let given = argument_words program words in
    let stop = stop_after top.rules names given in
    let has = is_some (entered (built program) stop) in
    let checked = level_checked top names nothing_held given has
    (entered_fault (built program) stop) taken in
    let rows = finished top.rules (walk top.rules names nothing_held given).held in
    entered_one stop (has_one top rows has refl checked)
