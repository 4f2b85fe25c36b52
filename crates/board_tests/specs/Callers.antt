-- What the tests know of a board's first pass.
use Rattle.std.specs.Prelude.{◌≡◌, true, [], Some}
use Rattle.disp_model.specs.declared.entry.Entry.{Entry}
use Rattle.turn_lock.specs.Known.{Known}
use Rattle.shared_board.specs.declared.terms.Terms.{Terms}

-- the first pass of a board for two feeds and one searcher, which gave no other
pub record IsNew (v : Known Entry Terms) : Type 0 where
  pub terms : Terms
  pub terms_are : v.terms ≡ Some terms
  pub feeds : terms.feeds ≡ 2
  pub searchers : terms.searchers ≡ 1
  pub first : v.first ≡ true
  pub caller : v.caller ≡ 2
  pub given : v.given ≡ []
