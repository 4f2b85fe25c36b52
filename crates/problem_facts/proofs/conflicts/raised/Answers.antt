use Rattle.std.proofs.Common.{sym, subst, ◌∙◌, arith}
use Rattle.problem_facts.specs.Conflicts.{IsShared}
use Rattle.problem_facts.proofs.Releasing.{greatest_push, not_none}
use Rattle.problem_facts.proofs.conflicts.raised.Goals as goal

pub returns-in-Some : goal.returns-in-Some
returns-in-Some c = λ shared is.
    let known = subst (IsShared shared) c.in-Some.is is in
    rw (sym c.lists.ensures ∙ c.if-not-lists.false) (not_none shared c.args.listing, omega (arith, c.max.ensures, known.1, greatest_push shared c.args.listing))
