use Rattle.shared_board.proofs.Entries.{role_entered, role_looked}
use Rattle.shared_board.proofs.laws.roles_stay.Goals as goal

pub returns-clause-entered : goal.returns-clause-entered
returns-clause-entered c = role_entered

pub returns-clause-looked : goal.returns-clause-looked
returns-clause-looked c = role_looked
