use Rattle.std.proofs.Common.{rules, ◌≡◌, ℕ, ◌<◌, Some, take, arith, refl, sym, ap, ◌+◌, ◌∙◌, get_or, Option}
use Rattle.std.specs.Prelude.{slice_get, ◌≢◌}
use Rattle.std.specs.Option.{option_or}
use Rattle.std.proofs.lemmas.Option.{slice_get-get_or}
use Rattle.disp_model.specs.declared.plan.Event.{Event}
use Rattle.solution_verifier.specs.Held.{LetsPass, ended_in}
use Rattle.solution_verifier.proofs.Holding.{ended_own, ended_other, passes_from, passes_more, lets_pass, held_by, all_let_pass}
use Rattle.solution_verifier.proofs.held.first_held.Goals as goal

abbrev no_event : Event
no_event = record { time = 0; train = 0; operation = 0 }

pub returns-then-all_passed : goal.returns-then-all_passed
returns-then-all_passed c =
    let events = c.args.events.now in
    let i = c.args.place in
    let j = c.loop-later.later in
    let at_i = slice_get-get_or events i no_event (omega arith) in
    let at_j = slice_get-get_or events j no_event (omega arith) in
    let lt : i < j = omega arith in
    all_let_pass c.args.problem.now events i j c.args.bound (get_or events i no_event) (get_or events j no_event) _ _ lt c.requires.bound c.requires.order at_i at_j c.listings_of-listings.ensures c.loop-later.invariant.end (c.if-all_passed.ensures.0 refl)
    c.loop-later.invariant.passes

pub loop-later-preserved-then-event-holder : goal.loop-later-preserved-then-event-holder
loop-later-preserved-then-event-holder c =
    let problem = c.args.problem.now in
    let events = c.args.events.now in
    let i = c.args.place in
    let j = c.loop-later.later in
    let d = get_or events i no_event in
    let e = get_or events j no_event in
    let at_i : slice_get events i ≡ Some d = slice_get-get_or events i no_event (omega arith) in
    let at_j : slice_get events j ≡ Some e = slice_get-get_or events j no_event (omega arith) in
    let lt : i < j = omega arith in
    let same : e.train ≡ d.train = search rules in
    let pass : LetsPass problem (take j events) i d e = λ apart. absurd (apart (sym same)) in
    let more : option_or (ended_in problem (take j events) i d) (Some e.time) ≡ ended_in problem (take (j + 1) events) i d = sym (ended_own problem events i j d e lt at_j same) in
    record {
      end = c.or-end.ensures ∙ ap (λ (x : ℕ). option_or c.loop-later.end (Some x)) c.from.ensures ∙ ap (λ (x : Option ℕ). option_or x (Some e.time)) c.loop-later.invariant.end ∙ more;
      passes = passes_more problem events i j c.loop-later.invariant.passes (passes_from problem events i j d e at_i at_j pass);
    }

pub loop-later-preserved : goal.loop-later-preserved
loop-later-preserved c =
    let problem = c.args.problem.now in
    let events = c.args.events.now in
    let i = c.args.place in
    let j = c.loop-later.later in
    let d = get_or events i no_event in
    let e = get_or events j no_event in
    let at_i : slice_get events i ≡ Some d = slice_get-get_or events i no_event (omega arith) in
    let at_j : slice_get events j ≡ Some e = slice_get-get_or events j no_event (omega arith) in
    let lt : i < j = omega arith in
    let apart : e.train ≢ d.train = search rules in
    let away : d.train ≢ e.train = λ same. apart (sym same) in
    let pass : LetsPass problem (take j events) i d e =
    lets_pass problem (take j events) i d e _ _ _ c.listings_of-listings.ensures c.listings_of-others.ensures c.loop-later.invariant.end c.in_default.ensures in
    record {
      end = c.loop-later.invariant.end ∙ sym (ended_other problem events i j d e lt at_j apart);
      passes = passes_more problem events i j c.loop-later.invariant.passes (passes_from problem events i j d e at_i at_j pass);
    }

pub returns-in-Some : goal.returns-in-Some
returns-in-Some c =
    let problem = c.args.problem.now in
    let events = c.args.events.now in
    let i = c.args.place in
    let j = c.loop-later.later in
    let d = get_or events i no_event in
    let e = get_or events j no_event in
    let at_i : slice_get events i ≡ Some d = slice_get-get_or events i no_event (omega arith) in
    let at_j : slice_get events j ≡ Some e = slice_get-get_or events j no_event (omega arith) in
    let lt : i < j = omega arith in
    let apart : e.train ≢ d.train = search rules in
    let away : d.train ≢ e.train = λ same. apart (sym same) in
    record {
      clashes = record {
        order = lt;
        holder = d;
        holder_there = at_i;
        event = e;
        there = at_j;
        held = held_by problem (take j events) i d e _ _ _ c.in-Some.resource c.listings_of-listings.ensures c.listings_of-others.ensures c.loop-later.invariant.end away c.in-Some.ensures;
      };
      holder_is = refl;
      bounded = omega arith;
      earlier = c.loop-later.invariant.passes;
    }
