use Rattle.std.proofs.Common.{◌≡◌, ◌∙◌, List, [], rules, sym, subst}
use Rattle.disp_model.specs.declared.fixing.Fixing.{Fixing}
use Rattle.disp_model.specs.declared.problem.Problem.{Problem}
use Rattle.disp_model.specs.declared.settings.Rule.{Rule}
use Rattle.disp_model.specs.History.{edition_of}
use Rattle.disp_model.specs.Node.{node_at}
use Rattle.event_graph.specs.Joined.{IsOfEdition}
use Rattle.shared_board.specs.Board.{problem_of, known}
use Rattle.search_crew.specs.Grounds.{IsGround}
use Rattle.search_crew.specs.Working.{IsAtWork}
use Rattle.search_crew.proofs.Grounding.{fixings_are, newer, root_is_edition}
use Rattle.search_crew.proofs.Keeping.{at_work_on, looked_keeps}
use Rattle.search_crew.proofs.searching.search_newest.Goals as goal

pub returns-then-number-edition-clause-answered : goal.returns-then-number-edition-clause-answered
returns-then-number-edition-clause-answered g c =
    let before = c.args.pass.now in let after = c.edition.new.pass in let told = c.in_ok-number.ensures.edition in
    let on = looked_keeps before after c.edition.ensures.board c.edition.ensures.counts c.edition.ensures.looked in
    let apart : c.in_ok-number.field-0.number ≡ c.args.edition → ⊥ = search rules in
    (told.number, newer before after c.args.edition c.in_ok-number.field-0.number on c.requires.at.edition_is told.number apart)

pub begin-requires : goal.begin-requires
begin-requires g c =
    let before = c.args.pass.now in let after = c.edition.new.pass in let board = c.args.board.now in
    let on = looked_keeps before after c.edition.ensures.board c.edition.ensures.counts c.edition.ensures.looked in
    let at = at_work_on board c.args.rule c.args.edition before after on c.requires.at in
    let are : c.as_slice.result.now ≡ edition_of (known after).seen = search rules in
    subst (λ (p : Problem). IsOfEdition (node_at p c.as_slice.result.now [])) (sym c.problem-3.ensures)
    (root_is_edition board c.args.rule c.args.edition after at c.as_slice.result.now are c.edition.ensures.legal)

pub rounds-requires-clause-at : goal.rounds-requires-clause-at
rounds-requires-clause-at g c = λ lifetimes outlived.
    let before = c.args.pass.now in let after = c.edition.new.pass in let board = c.args.board.now in
    let on = looked_keeps before after c.edition.ensures.board c.edition.ensures.counts c.edition.ensures.looked in
    subst (λ (r : Rule). IsAtWork board r c.args.edition after) (sym c.in_ok-reckoning.ensures.rule) (at_work_on board c.args.rule c.args.edition before after on c.requires.at)

pub rounds-requires-clause-ground : goal.rounds-requires-clause-ground
rounds-requires-clause-ground g c = λ lifetimes outlived.
    let before = c.args.pass.now in let after = c.edition.new.pass in let board = c.args.board.now in
    let on = looked_keeps before after c.edition.ensures.board c.edition.ensures.counts c.edition.ensures.looked in
    let at = at_work_on board c.args.rule c.args.edition before after on c.requires.at in
    let are : c.as_slice.result.now ≡ edition_of (known after).seen = search rules in
    let same : c.in_ok-number.field-0.number ≡ c.args.edition = search rules in
    let newest_is = sym same ∙ c.in_ok-number.ensures.edition.number in
    subst (λ (f : List Fixing). IsGround (problem_of board) f c.in_ok-ground.ground) (fixings_are board c.args.rule c.args.edition after at c.as_slice.result.now are newest_is)
    (subst (λ (p : Problem). IsGround p c.as_slice.result.now c.in_ok-ground.ground) c.problem-3.ensures c.in_ok-ground.ensures)
