-- Whose passes a new board gives.
use Rattle.std.proofs.Common.{◌≡◌, ◌∙◌, ℕ, ◌<◌, [], inl, inr, refl, sym, ap, arith}
use Rattle.std.specs.Prelude.{Some}
use Rattle.disp_model.specs.declared.entry.Entry.{Entry}
use Rattle.turn_lock.specs.Known.{Known, first_known, given_known}
use Rattle.shared_board.specs.declared.board.Board.{Board}
use Rattle.shared_board.specs.declared.pass.Pass.{Pass}
use Rattle.shared_board.specs.declared.terms.Terms.{Terms}
use Rattle.shared_board.specs.Board.{board_of, problem_of, own_board, known}
use Rattle.shared_board.specs.Calls.{HasCaller, IsFeed}
use Rattle.shared_board.specs.Onward.{entries_by}
use Rattle.search_crew.specs.Working.{IsAtWork}

module _ (caller : ℕ) (terms : Terms) (first : Known Entry Terms) (new : first ≡ first_known caller terms) where
  terms_are : first.terms ≡ Some terms
  terms_are = ap (λ (k : Known Entry Terms). k.terms) new

  pub has_feed : 0 < terms.feeds → HasCaller first 0
  has_feed some = record { terms = terms; terms_are = terms_are; there = inl some }

  pub has_searcher : 0 < terms.searchers → HasCaller first 256
  has_searcher some = record { terms = terms; terms_are = terms_are; there = inr (omega arith, omega (arith, some)) }

  pub is_feed : (given : Known Entry Terms) → given ≡ given_known first 0 → 0 < terms.feeds → IsFeed given
  is_feed given is some =
      let own : given.caller ≡ 0 = ap (λ (k : Known Entry Terms). k.caller) is in
      record { terms = terms; terms_are = ap (λ (k : Known Entry Terms). k.terms) is ∙ terms_are; within = omega (arith, some) }

  pub no_entries : (given : Known Entry Terms) → given ≡ given_known first 0 → entries_by given.caller given.seen ≡ []
  no_entries given is = ap (λ (k : Known Entry Terms). entries_by given.caller k.seen) is ∙ ap (λ (k : Known Entry Terms). entries_by given.caller k.seen) new

  pub is_at_work : (board : Board) (pass : Pass) → own_board pass ≡ board_of board → known pass ≡ given_known first 256 → terms.problem ≡ problem_of board → 0 < terms.searchers → IsAtWork board terms.settings.rule 0 pass
  is_at_work board pass board_is is problem some = let own : (known pass).caller ≡ 256 = ap (λ (k : Known Entry Terms). k.caller) is in record {
    board_is = board_is;
    searcher = record {
      terms = terms;
      terms_are = ap (λ (k : Known Entry Terms). k.terms) is ∙ terms_are;
      above = omega arith;
      within = omega (arith, some);
    };
    problem = problem;
    rule_is = refl;
    edition_is = omega arith;
  }
