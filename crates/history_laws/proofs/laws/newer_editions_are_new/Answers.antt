use Rattle.std.proofs.Common.{arith}
use Rattle.history_laws.proofs.Legality.{new_number}
use Rattle.history_laws.proofs.laws.newer_editions_are_new.Goals as goal

pub returns : goal.returns
returns c = record {
  spent = λ problem settings history number legal past. (new_number problem settings history number legal (omega (arith, past))).unspent;
  mark = λ problem settings history number legal past. (new_number problem settings history number legal (omega (arith, past))).working;
}
