use Rattle.std.proofs.Common.{◌∙◌, ◌≡◌, inl, inr, refl, sym, true, false}
use Rattle.std.proofs.lemmas.Result.{IfOk-weaker, IfErr-weaker}
use Rattle.command_words.proofs.Rows.{name_is, named_rows}
use Rattle.command_words.proofs.Commands.{taken_names_one}
use Rattle.command_words.proofs.read.task.Goals as goal

unlike : false ≡ true → ⊥
unlike e = cc

pub returns-clause-err : goal.returns-clause-err
returns-clause-err c words rows_are = inl (λ taken.
    let one = taken_names_one words taken in
    elim one.1 [
      | inl named ↦ unlike (c.in_default.ensures.found.1
          (name_is _ _ one.0 (rows_are ∙ named)))
      | inr later ↦ elim later [
        | inl named ↦ unlike (c.in_default-subcommand_matches.ensures.found.1
            (name_is _ _ one.0 (rows_are ∙ named)))
        | inr last ↦ elim last [
          | inl named ↦ unlike (c.in_default-subcommand_matches-2.ensures.found.1
              (name_is _ _ one.0 (rows_are ∙ named)))
          | inr rest ↦ elim rest [
            | inl named ↦ unlike (c.in_default-subcommand_matches-3.ensures.found.1
                (name_is _ _ one.0 (rows_are ∙ named)))
            | inr made ↦ elim made [
              | inl named ↦ unlike (c.in_default-subcommand_matches-4.ensures.found.1
                  (name_is _ _ one.0 (rows_are ∙ named)))
              | inr rolled ↦ elim rolled [
                | inl named ↦ unlike (c.in_default-subcommand_matches-5.ensures.found.1
                    (name_is _ _ one.0 (rows_are ∙ named)))
                | inr none ↦ absurd none
              ]
            ]
          ]
        ]
      ]
    ])

pub returns-in-Some-clause-err : goal.returns-in-Some-clause-err
returns-in-Some-clause-err c = IfErr-weaker c.solve.result _ _
    (λ no h words rows_are. h words (sym rows_are
    ∙ named_rows _ _ _ (c.in-Some.ensures.found.0 refl) c.in-Some.ensures.rows)) c.solve.ensures.err

pub returns-in-Some-subcommand_matches-4-clause-ok :
    goal.returns-in-Some-subcommand_matches-4-clause-ok
returns-in-Some-subcommand_matches-4-clause-ok c = IfOk-weaker c.make.result _ _
    (λ task h words taken rows_are. h words taken
    (sym rows_are ∙ named_rows c.args.matches.now _ _
    (c.in-Some-subcommand_matches-4.ensures.found.0 refl)
    c.in-Some-subcommand_matches-4.ensures.rows)) c.make.ensures.ok

pub returns-in-Some-subcommand_matches-5-clause-err :
    goal.returns-in-Some-subcommand_matches-5-clause-err
returns-in-Some-subcommand_matches-5-clause-err c = IfErr-weaker c.roll.result _ _
    (λ no h words rows_are. h words
    (sym rows_are ∙ named_rows c.args.matches.now _ _
    (c.in-Some-subcommand_matches-5.ensures.found.0 refl)
    c.in-Some-subcommand_matches-5.ensures.rows)) c.roll.ensures.err
