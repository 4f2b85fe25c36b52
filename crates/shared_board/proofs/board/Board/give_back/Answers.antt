use Rattle.shared_board.specs.Board.{known}
use Rattle.shared_board.proofs.Owing.{may_give_back}
use Rattle.shared_board.proofs.board.Board.give_back.Goals as goal

pub enter_without_memory-requires-clause-may : goal.enter_without_memory-requires-clause-may
enter_without_memory-requires-clause-may g c = may_give_back (known c.args.pass.now) c.args.work c.args.examined c.requires.examined
