use Rattle.std.proofs.Common.{◌≡◌, ◌∙◌, ◌+◌, ◌++◌, ◌∷◌, [], ℕ, suc, List, Contains, length, map, rules, sym, ap, subst, arith}
use Rattle.std.proofs.lemmas.Iterator.Adapters.{YieldsList-from_vec}
use Rattle.std.proofs.lemmas.Iterator.Consumers.{YieldsList-turn}
use Rattle.std.proofs.lemmas.List.{length-append, length-map, map-append}
use Rattle.disp_model.specs.declared.entry.Entry.{Entry}
use Rattle.search_crew.specs.declared.crew.Hand.{Hand}
use Rattle.turn_lock.specs.Known.{Known, given_known, with_given}
use Rattle.shared_board.specs.declared.terms.Terms.{Terms}
use Rattle.shared_board.specs.Board.{known}
use Rattle.shared_board.specs.Calls.{HasCaller}
use Rattle.crew_runs.specs.declared.searcher.Searcher.{Searcher}
use Rattle.crew_runs.specs.Seats.{AreSeats, with_searchers}
use Rattle.crew_runs.proofs.Seating.{next_caller, next_new, more_given, seats_more}
use Rattle.crew_runs.proofs.seats.seats_of.Goals as goal

pub split-pass-requires-clause-caller : goal.split-pass-requires-clause-caller
split-pass-requires-clause-caller c =
    let count = length c.args.hands.items in let place = length c.loop-hand.yielded in
    let gives = c.into_iter-hand-iterator.ensures.into_iter_gives in
    let within = (YieldsList-turn (YieldsList-from_vec c.args.hands.items gives.0 (search rules)) c.loop-hand.yielded c.loop-hand.hand-iterator c.loop-hand.yielded_by c.next.result c.next.new.self c.in-Some.hand c.in-Some.is c.next.ensures.steps).0 in
    let may = next_caller (known c.args.first.now) count c.requires.may place within in
    subst (λ (n : ℕ). HasCaller (known c.loop-hand.first) n) (sym c.loop-hand.invariant.next)
    (subst (λ (k : Known Entry Terms). HasCaller k (256 + place)) (sym c.loop-hand.invariant.knows) may)

pub split-pass-requires-clause-new_caller : goal.split-pass-requires-clause-new_caller
split-pass-requires-clause-new_caller c =
    let count = length c.args.hands.items in let place = length c.loop-hand.yielded in
    let gives = c.into_iter-hand-iterator.ensures.into_iter_gives in
    let within = (YieldsList-turn (YieldsList-from_vec c.args.hands.items gives.0 (search rules)) c.loop-hand.yielded c.loop-hand.hand-iterator c.loop-hand.yielded_by c.next.result c.next.new.self c.in-Some.hand c.in-Some.is c.next.ensures.steps).0 in
    let may = next_new (known c.args.first.now) count c.requires.may place within in
    let knows = c.loop-hand.invariant.knows in let next = c.loop-hand.invariant.next in (
      (λ same. may.0 (sym next ∙ (same ∙ ap (λ (k : Known Entry Terms). k.caller) knows))),
      (λ there. may.1 (subst (λ (n : ℕ). Contains (with_searchers (known c.args.first.now) place).given n) next
          (subst (λ (k : Known Entry Terms). Contains k.given c.loop-hand.caller) knows there))),
    )

pub loop-hand-preserved : goal.loop-hand-preserved
loop-hand-preserved c =
    let v = known c.args.first.now in let place = length c.loop-hand.yielded in let inv = c.loop-hand.invariant in
    let longer : length (c.loop-hand.yielded ++ c.in-Some.hand ∷ []) ≡ suc place = length-append c.loop-hand.yielded (c.in-Some.hand ∷ []) ∙ omega arith in
    let many : length c.loop-hand.seats.items ≡ place = sym (length-map c.loop-hand.seats.items (λ (s : Searcher). s.hand)) ∙ ap (λ (l : List Hand). length l) inv.hands in
    record {
      board = c.split-pass.ensures.board.0 ∙ inv.board;
      fetched_is = c.split-pass.ensures.pass.1 ∙ inv.fetched_is;
      lines_are = c.split-pass.ensures.pass.2 ∙ inv.lines_are;
      next = ap (λ (n : ℕ). n + 1) inv.next ∙ (omega (arith, longer));
      knows =
          c.split-pass.ensures.pass.0
          ∙ (ap (λ (k : Known Entry Terms). with_given k c.loop-hand.caller) inv.knows
          ∙ (ap (with_given (with_searchers v place)) inv.next ∙ (more_given v place ∙ ap (with_searchers v) (sym longer))));
      hands = ap (map (λ (s : Searcher). s.hand)) c.in_ok-push.ensures.items ∙ (map-append (λ (s : Searcher). s.hand) c.loop-hand.seats.items _ ∙ ap (λ (l : List Hand). l ++ c.in-Some.hand ∷ []) inv.hands);
      seats = subst (AreSeats c.args.board.now v) (sym c.in_ok-push.ensures.items)
          (seats_more c.args.board.now v c.loop-hand.seats.items _ inv.seats (record {
            board_is = c.split-pass.ensures.board.1 ∙ (inv.board ∙ c.requires.board);
            knows =
                c.split-pass.ensures.given.0
                ∙ (ap (λ (k : Known Entry Terms). given_known k c.loop-hand.caller) inv.knows
                ∙ (ap (given_known v) inv.next ∙ ap (λ (n : ℕ). given_known v (256 + n)) (sym many)));
            none = c.split-pass.ensures.given.2;
          }));
    }
