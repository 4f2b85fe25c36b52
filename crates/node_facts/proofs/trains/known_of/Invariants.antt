-- what is known of the trains so far
use Rattle.std.proofs.Common.{◌≡◌, ℕ, length}
use Rattle.std.specs.Prelude.{slice_get, Some}
use Rattle.disp_model.specs.Node.{node_at}
use Rattle.node_facts.specs.declared.train.TrainKnowledge.{TrainKnowledge}
use Rattle.node_facts.specs.Known.{IsKnown}
use Rattle.node_facts.proofs.trains.known_of.Given as goal

abbrev pub invariant-loop-train : goal.invariant-loop-train
invariant-loop-train l = (length l.trains.items ≡ l.train) × ((t : ℕ) (known : TrainKnowledge) → slice_get l.trains.items t ≡ Some known → IsKnown (node_at l.problem l.fixings l.decisions) t known)
