use Rattle.std.proofs.Common.{◌∙◌, List, [], ◌∷◌, map, sym, subst}
use Rattle.std.proofs.lemmas.List.{map-append}
use Rattle.shared_board.specs.declared.pass.Pass.{Pass}
use Rattle.joined_passes.specs.Joined.{Joins}
use Rattle.crew_runs.specs.declared.searcher.Searcher.{Searcher}
use Rattle.crew_runs.proofs.seats.join_searchers.Goals as goal

pub loop-searcher-preserved : goal.loop-searcher-preserved
loop-searcher-preserved c =
    let inv = c.loop-searcher.invariant in let before = c.args.first.now in
    let pass_of = λ (s : Searcher). s.pass in
    record {
      board = c.join_next.ensures.board ∙ inv.board;
      is_first = c.join_next.ensures.first;
      joins = subst (λ (done : List Pass). Joins before done c.join_next.new.first) (sym (map-append pass_of c.loop-searcher.yielded (c.in-Some.searcher ∷ [])))
          (c.join_next.ensures.joins before (map pass_of c.loop-searcher.yielded) inv.joins);
    }
