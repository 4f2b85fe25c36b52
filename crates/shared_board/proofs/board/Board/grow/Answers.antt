use Rattle.shared_board.specs.Board.{known}
use Rattle.shared_board.proofs.Owing.{may_grow, own_searcher}
use Rattle.shared_board.proofs.board.Board.grow.Goals as goal

pub enter-requires-clause-may : goal.enter-requires-clause-may
enter-requires-clause-may g c =
    let pass = c.args.pass.now in let v = known pass in
    may_grow v _ c.args.fragment (own_searcher v pass.caller _ pass.caller_is c.requires.searcher c.searcher_of-searcher.ensures) c.requires.growth
