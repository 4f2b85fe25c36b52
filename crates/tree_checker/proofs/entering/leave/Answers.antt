use Rattle.std.proofs.Common.{List, ℕ, get_or, subst}
use Rattle.std.specs.Prelude.{Contains}
use Rattle.std.proofs.lemmas.List.Elements.{Contains-get_or}
use Rattle.tree_checker.proofs.entering.leave.Goals as goal

pub go_on-requires : goal.go_on-requires
go_on-requires c k d lt = c.requires.inside (get_or c.nexts_of.result.now k d) (subst (λ (l : List ℕ). Contains l (get_or c.nexts_of.result.now k d)) c.nexts_of.ensures (Contains-get_or c.nexts_of.result.now k d lt))
