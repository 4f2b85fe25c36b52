-- there are as many ranks as before
use Rattle.std.proofs.Common.{◌≡◌, vec_len}
use Rattle.train_graphs.proofs.ranks.finish.Given as goal

abbrev pub invariant-loop : goal.invariant-loop
invariant-loop l = vec_len l.search.ranks ≡ vec_len l.fn.search.ranks
