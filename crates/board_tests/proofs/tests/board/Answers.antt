use Rattle.std.proofs.Common.{refl, ap}
use Rattle.board_tests.proofs.tests.board.Goals as goal

pub returns-clause-new : goal.returns-clause-new
returns-clause-new c = let is = c.in_ok-new.ensures.pass.1 in record {
  terms = _;
  terms_are = ap (λ z. z.terms) is;
  feeds = refl;
  searchers = refl;
  first = ap (λ z. z.first) is;
  caller = ap (λ z. z.caller) is;
  given = ap (λ z. z.given) is;
}
