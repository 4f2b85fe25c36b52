use Rattle.rolling_driver.proofs.Statuses.{any_reading}
use Rattle.rolling_driver.proofs.status.ended_of.Goals as goal

pub returns : goal.returns
returns g c = record {
  memory = (
    λ is. (any_reading c.args.readers.now _).0 (c.has.ensures.0 is),
    λ there. c.has.ensures.1 ((any_reading c.args.readers.now _).1 there),
  );
  too_many = (
    λ is. (any_reading c.args.readers.now _).0 (c.has-2.ensures.0 is),
    λ there. c.has-2.ensures.1 ((any_reading c.args.readers.now _).1 there),
  );
  failed = (
    λ is. (any_reading c.args.readers.now _).0 (c.has-3.ensures.0 is),
    λ there. c.has-3.ensures.1 ((any_reading c.args.readers.now _).1 there),
  );
}
