use Rattle.std.proofs.Common.{◌≡◌, ◌≢◌, ◌∙◌, ◌++◌, ℕ, List, All, Contains, length, map, rules, refl, sym, ap, subst, arith}
use Rattle.std.proofs.lemmas.List.{length-map}
use Rattle.plain_values.proofs.Lists.{contains_none_where}
use Rattle.disp_model.specs.declared.entry.Entry.{Entry}
use Rattle.turn_lock.specs.Known.{Known}
use Rattle.shared_board.specs.declared.terms.Terms.{Terms}
use Rattle.shared_board.specs.Board.{board_of, own_board, known}
use Rattle.joined_passes.specs.Joined.{caller_at, Joins}
use Rattle.search_crew.specs.declared.crew.Hand.{Hand}
use Rattle.crew_runs.specs.declared.searcher.Searcher.{Searcher}
use Rattle.crew_runs.specs.Seats.{HaveRun, IsSeated, searchers_to, with_searchers}
use Rattle.crew_runs.proofs.Ended.{all_back, all_seated, board_at, written}
use Rattle.solved_problems.specs.Solved.{AreLinesFor}
use Rattle.solved_problems.proofs.Seated.{solved}
use Rattle.solved_problems.proofs.solving.solve.Goals as goal

pub seats_of-requires-clause-may : goal.seats_of-requires-clause-may
seats_of-requires-clause-may g c =
    let is = c.in_ok-board.ensures.pass.1 in let role = c.in_ok-enter.ensures.role in let count = c.in_ok-crew.ensures.count in
    let own : (known c.enter.new.first).caller ≡ 0 = role.caller ∙ ap (λ (k : Known Entry Terms). k.caller) is in
    record {
      first = role.first ∙ ap (λ (k : Known Entry Terms). k.first) is;
      terms = record { problem = c.args.problem.now; settings = c.args.settings; feeds = 0; searchers = c.args.searchers };
      terms_are = role.terms ∙ ap (λ (k : Known Entry Terms). k.terms) is;
      enough = omega (arith, count);
      few = omega (arith, count, c.requires.searchers);
      caller = omega (arith, own);
      none_given = λ caller there. absurd (contains_none_where _ caller (role.given ∙ ap (λ (k : Known Entry Terms). k.given) is) there);
    }

pub run_searchers-requires-after_bounds : goal.run_searchers-requires-after_bounds
run_searchers-requires-after_bounds g c = λ lifetimes outlived.
    let is = c.in_ok-board.ensures.pass.1 in let role = c.in_ok-enter.ensures.role in let seats = c.in_ok-seats.seats.items in
    let few : length seats ≡ c.args.searchers =
    sym (length-map seats (λ (s : Searcher). s.hand)) ∙ (ap (λ (l : List Hand). length l) c.in_ok-seats.ensures.hands ∙ c.in_ok-crew.ensures.count) in
    subst (All (IsSeated c.in_ok-board.board c.in_ok-crew.crew c.args.settings.rule)) (sym c.as_mut_slice.ensures.value)
    (all_seated c.in_ok-board.board c.in_ok-crew.crew c.args.settings.rule (known c.enter.new.first)
    (record { problem = c.args.problem.now; settings = c.args.settings; feeds = 0; searchers = c.args.searchers }) c.in_ok-crew.hands.items seats
    (role.terms ∙ ap (λ (k : Known Entry Terms). k.terms) is) (sym c.in_ok-board.ensures.problem) refl (omega (arith, few))
    c.in_ok-seats.ensures.seats c.in_ok-seats.ensures.hands c.in_ok-crew.ensures.hands)

pub join_searchers-requires-clause-boards : goal.join_searchers-requires-clause-boards
join_searchers-requires-clause-boards g c =
    let seats = c.in_ok-seats.seats.items in let after = c.run_searchers.new.searchers in
    let run = subst (λ (l : List Searcher). HaveRun l after) c.as_mut_slice.ensures.value c.run_searchers.ensures in
    let whole = written c.in_ok-seats.seats.len seats after run.as_many (search rules) in
    subst (All (λ (s : Searcher). own_board s.pass ≡ board_of c.in_ok-board.board)) (sym whole)
    (λ place d within. board_at c.in_ok-board.board (known c.enter.new.first) seats after c.in_ok-seats.ensures.seats run place d (omega (arith, within, run.as_many)))

pub close_run-closed-requires-clause-last : goal.close_run-closed-requires-clause-last
close_run-closed-requires-clause-last g c =
    let is = c.in_ok-board.ensures.pass.1 in let role = c.in_ok-enter.ensures.role in
    let seats = c.in_ok-seats.seats.items in let after = c.run_searchers.new.searchers in
    let run = subst (λ (l : List Searcher). HaveRun l after) c.as_mut_slice.ensures.value c.run_searchers.ensures in
    let whole = written c.in_ok-seats.seats.len seats after run.as_many (search rules) in
    let joins = subst (λ (l : List Searcher). Joins c.seats_of.new.first (map (λ s. s.pass) l) c.join_searchers.new.first) whole c.join_searchers.ensures in
    let knows = c.in_ok-seats.ensures.first in
    let many : length c.in_ok-crew.hands.items ≡ length seats = sym (ap (λ (l : List Hand). length l) c.in_ok-seats.ensures.hands) ∙ length-map seats (λ (s : Searcher). s.hand) in
    let given : (known c.join_searchers.new.first).given ≡ searchers_to (length seats) =
    joins.given ∙ (ap (λ (k : Known Entry Terms). k.given) knows
    ∙ (ap (λ (l : List ℕ). l ++ searchers_to (length c.in_ok-crew.hands.items)) (role.given ∙ ap (λ (k : Known Entry Terms). k.given) is)
    ∙ ap searchers_to many)) in
    let back : (known c.join_searchers.new.first).back ≡ map caller_at (map (λ (s : Searcher). s.pass) after) =
    joins.back ∙ ap (λ (l : List ℕ). l ++ map caller_at (map (λ (s : Searcher). s.pass) after))
    (ap (λ (k : Known Entry Terms). k.back) knows ∙ (role.back ∙ ap (λ (k : Known Entry Terms). k.back) is)) in (
      joins.first ∙ (ap (λ (k : Known Entry Terms). k.first) knows ∙ (role.first ∙ ap (λ (k : Known Entry Terms). k.first) is)),
      λ caller there. subst (λ (l : List ℕ). Contains l caller) (sym back)
          (all_back c.in_ok-board.board (known c.enter.new.first) seats after c.in_ok-seats.ensures.seats run caller (subst (λ (l : List ℕ). Contains l caller) given there)),
    )

pub returns-then-closed-clause-searched : goal.returns-then-closed-clause-searched
returns-then-closed-clause-searched g c =
    let is = c.in_ok-board.ensures.pass.1 in let role = c.in_ok-enter.ensures.role in
    let seats = c.in_ok-seats.seats.items in let after = c.run_searchers.new.searchers in
    let run = subst (λ (l : List Searcher). HaveRun l after) c.as_mut_slice.ensures.value c.run_searchers.ensures in
    let whole = written c.in_ok-seats.seats.len seats after run.as_many (search rules) in
    let joins = subst (λ (l : List Searcher). Joins c.seats_of.new.first (map (λ s. s.pass) l) c.join_searchers.new.first) whole c.join_searchers.ensures in
    let many : length c.in_ok-crew.hands.items ≡ length seats = sym (ap (λ (l : List Hand). length l) c.in_ok-seats.ensures.hands) ∙ length-map seats (λ (s : Searcher). s.hand) in
    let closed = c.close_run-closed.ensures in
    solved c.in_ok-board.board c.enter.new.first c.seats_of.new.first c.join_searchers.new.first seats after
    (record { problem = c.args.problem.now; settings = c.args.settings; feeds = 0; searchers = c.args.searchers }) c.close_run-closed.result.core
    (c.in_ok-seats.ensures.first ∙ ap (with_searchers (known c.enter.new.first)) many) c.in_ok-enter.ensures.owns c.in_ok-seats.ensures.seats run joins closed.seen
    c.args.problem.now c.args.settings c.args.asked.now (role.terms ∙ ap (λ (k : Known Entry Terms). k.terms) is) refl refl closed.places closed.sound closed.terms
    (closed.over.0 c.if-closed.true) c.requires.taken
    (subst (λ (n : ℕ). AreLinesFor n 1 c.args.asked.now (known c.enter.new.first).seen) (ap (λ (k : Known Entry Terms). k.caller) is) c.in_ok-enter.ensures.asks)
