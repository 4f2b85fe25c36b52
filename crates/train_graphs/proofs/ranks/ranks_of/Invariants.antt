-- there is a rank for each operation
use Rattle.std.proofs.Common.{◌≡◌, length, vec_len}
use Rattle.train_graphs.proofs.ranks.ranks_of.Given as goal

abbrev pub invariant-loop-start : goal.invariant-loop-start
invariant-loop-start l = vec_len l.search.ranks ≡ length l.train
