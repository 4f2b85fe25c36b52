use Rattle.route_sets.proofs.Parting.{parted_from, part_is, alone_is}
use Rattle.route_sets.proofs.routes.Routes.fork.Goals as goal

pub returns-clause-part : goal.returns-clause-part
returns-clause-part c node t are = part_is node t c.parting.result (parted_from node t c.args.self.now c.parting.result are c.if-not-self.false c.parting.ensures)

pub returns-clause-alone : goal.returns-clause-alone
returns-clause-alone c node t are = alone_is node t c.parting.result (parted_from node t c.args.self.now c.parting.result are c.if-not-self.false c.parting.ensures)
