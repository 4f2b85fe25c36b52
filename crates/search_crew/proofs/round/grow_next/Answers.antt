use Rattle.std.proofs.Common.{◌≡◌, ℕ, rules, sym, subst}
use Rattle.disp_model.specs.History.{fixings_after}
use Rattle.shared_board.specs.Board.{problem_of, known}
use Rattle.shared_board.proofs.Onward.{searcher_on}
use Rattle.search_crew.specs.Grounds.{IsGround}
use Rattle.search_crew.specs.Working.{IsAtWork}
use Rattle.search_crew.proofs.Grounding.{ground_on}
use Rattle.search_crew.proofs.Keeping.{at_work_on, keeps_keeps}
use Rattle.search_crew.proofs.round.grow_next.Goals as goal

pub give_back-requires-clause-searcher : goal.give_back-requires-clause-searcher
give_back-requires-clause-searcher g c =
    searcher_on (known c.args.pass.now) (known c.find_turn.new.pass) c.find_turn.ensures.on.goes.role c.requires.at.searcher

pub returns-then-work-edition-clause-on : goal.returns-then-work-edition-clause-on
returns-then-work-edition-clause-on g c =
    keeps_keeps c.args.pass.now c.find_turn.new.pass c.give_back.new.pass c.find_turn.ensures.on c.give_back.ensures

pub work_on-requires-clause-at : goal.work_on-requires-clause-at
work_on-requires-clause-at g c =
    let same : c.in-Work.work.edition ≡ c.args.edition = search rules in
    subst (λ (e : ℕ). IsAtWork c.args.board.now c.args.reckoning.now.rule e c.find_turn.new.pass) (sym same)
    (at_work_on c.args.board.now c.args.reckoning.now.rule c.args.edition c.args.pass.now c.find_turn.new.pass c.find_turn.ensures.on c.requires.at)

pub work_on-requires-clause-ground : goal.work_on-requires-clause-ground
work_on-requires-clause-ground g c =
    let same : c.in-Work.work.edition ≡ c.args.edition = search rules in
    subst (λ (e : ℕ). IsGround (problem_of c.args.board.now) (fixings_after e (known c.find_turn.new.pass).seen) c.args.ground.now) (sym same)
    (ground_on c.args.edition c.args.pass.now c.find_turn.new.pass c.find_turn.ensures.on c.requires.at.edition_is (problem_of c.args.board.now) c.args.ground.now c.requires.ground)
