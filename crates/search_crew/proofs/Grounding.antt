-- The ground of an edition.
use Rattle.std.proofs.Common.{◌≡◌, ◌∙◌, inl, inr, arith, ℕ, ◌<◌, ◌≤◌, List, [], sym, ap, subst}
use Rattle.disp_model.specs.declared.fixing.Fixing.{Fixing}
use Rattle.disp_model.specs.declared.problem.Problem.{Problem}
use Rattle.disp_model.specs.declared.settings.Rule.{Rule}
use Rattle.disp_model.specs.History.{changes_of, edition_of, newest, fixings_after}
use Rattle.disp_model.specs.Node.{node_at}
use Rattle.disp_model.specs.Replies.{IsEdition}
use Rattle.disp_laws.proofs.LeavesDecided.{lt_or_not}
use Rattle.disp_laws.proofs.RouteSearch.{Decided}
use Rattle.dispatch_core.proofs.Replacing.{newest_fixings}
use Rattle.event_graph.specs.Joined.{IsOfEdition}
use Rattle.history_laws.proofs.Legality.{editions_are}
use Rattle.shared_board.specs.declared.board.Board.{Board}
use Rattle.shared_board.specs.declared.pass.Pass.{Pass}
use Rattle.shared_board.specs.Board.{problem_of, known}
use Rattle.shared_board.specs.Calls.{IsLegalSeen}
use Rattle.shared_board.proofs.Onward.{newest_up}
use Rattle.shared_board.proofs.Owing.{fixings_on}
use Rattle.search_crew.specs.declared.ground.Ground.{Ground}
use Rattle.search_crew.specs.Grounds.{IsGround}
use Rattle.search_crew.specs.Working.{IsAtWork, KeepsOn}

-- what the newest edition's fixings are to a pass that is at work on it
module _ (board : Board) (rule : Rule) (number : ℕ) (pass : Pass) (at : IsAtWork board rule number pass) (fixings : List Fixing) (are : fixings ≡ edition_of (known pass).seen) where
  pub root_is_edition : IsLegalSeen (known pass) → IsOfEdition (node_at (problem_of board) fixings [])
  root_is_edition legal =
      let terms = at.searcher.terms in
      let edition : IsEdition terms.problem (changes_of (known pass).seen) =
      editions_are terms.problem terms.settings (known pass).seen (legal terms at.searcher.terms_are) in
      (changes_of (known pass).seen, subst (λ (p : Problem). IsEdition p (changes_of (known pass).seen)) at.problem edition, are)

  pub fixings_are : number ≡ newest (known pass).seen → fixings ≡ fixings_after number (known pass).seen
  fixings_are is = are ∙ sym (ap (λ (n : ℕ). fixings_after n (known pass).seen) is ∙ newest_fixings (known pass).seen)

-- the ground stays while the pass sees more
pub ground_on : (number : ℕ) (before after : Pass) → KeepsOn before after → number ≤ newest (known before).seen → (problem : Problem) (here : Ground)
    → IsGround problem (fixings_after number (known before).seen) here → IsGround problem (fixings_after number (known after).seen) here
ground_on number before after on within problem here is =
    subst (λ (f : List Fixing). IsGround problem f here) (sym (fixings_on (known after).seen (known before).seen number on.goes.starts within)) is

-- where the newest edition is another than one that was seen, it is a newer one
pub newer : (before after : Pass) (edition number : ℕ) → KeepsOn before after → edition ≤ newest (known before).seen → number ≡ newest (known after).seen → (number ≡ edition → ⊥) → edition < number
newer before after edition number on within is apart =
    by_cases (lt_or_not edition number)
  where
    up : newest (known before).seen ≤ newest (known after).seen
    up = newest_up (known after).seen (known before).seen on.goes.starts

    by_cases : Decided (edition < number) → edition < number
    by_cases (inl less) = less
    by_cases (inr not_less) = absurd (apart (omega (arith, up, within, is, not_less)))
