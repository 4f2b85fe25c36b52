use Rattle.std.proofs.Common.{◌≡◌, ◌∙◌, ◌<◌, Some, None, false, true, length, get_or, sym, subst, arith}
use Rattle.std.proofs.lemmas.List.{get_or_default, length-set}
use Rattle.disp_model.specs.declared.problem.Problem.{Problem}
use Rattle.disp_model.specs.Arcs.{listings_of}
use Rattle.event_windows.specs.Operations.{IsAtNumber}
use Rattle.first_overlaps.specs.Holders.{AreHoldersOf}
use Rattle.first_overlaps.specs.Holds.{IsSpanned, IsSeenBy}
use Rattle.first_overlaps.proofs.Knowing.{word_set}
use Rattle.first_overlaps.proofs.Seeing.{apart_settled, seen_apart}
use Rattle.first_overlaps.proofs.Finding.{found_at}
use Rattle.first_overlaps.proofs.known.KnownSpans.look_at.Goals as goal
use Rattle.first_overlaps.proofs.known.KnownSpans.look_at.Goals.{After-self-1, After-operation-op}

pub returns-then-index-clause-found : goal.returns-then-index-clause-found
returns-then-index-clause-found c =
    let known = c.args.self.now in
    let within : c.args.number < length known.apart.items = omega (arith, c.requires.number, c.requires.known.words) in
    let said : get_or known.apart.items c.args.number false ≡ true = get_or_default known.apart.items c.args.number false c.index.result.now within ∙ sym c.index.ensures ∙ c.if-index.true in
    apart_settled c.args.graph.now known.holders.items known.spans.items c.args.number (c.requires.known.apart c.args.number said)

is_at : (c : After-operation-op) → IsAtNumber c.args.graph.now.problem c.operation-op.result c.args.number
is_at c = record { there = c.operation-op.ensures.there; number = c.operation-op.ensures.number }

runs : (c : After-operation-op) → get_or c.args.self.now.spans.items c.args.number None ≡ Some c.in_ok-span.span
runs c =
    let within : c.args.number < length c.args.self.now.spans.items = omega (arith, c.requires.number, c.requires.known.spans) in
    get_or_default c.args.self.now.spans.items c.args.number None c.index-2.result.now within ∙ sym c.index-2.ensures ∙ c.in_ok-span.was

pub seen-seen-requires-clause-span : goal.seen-seen-requires-clause-span
seen-seen-requires-clause-span c = subst (IsSpanned c.args.graph.now c.operation-op.result) (runs c) (c.requires.spans c.args.number c.operation-op.result (is_at c))

seen_by : (c : After-self-1) → IsSeenBy c.args.graph.now c.args.self.now.holders.items c.args.self.now.spans.items c.operation-op.result c.in_ok-span.span (listings_of c.args.graph.now.problem c.operation-op.result) c.seen-seen.result
seen_by c =
    subst (λ (p : Problem). IsSeenBy c.args.graph.now c.args.self.now.holders.items c.args.self.now.spans.items c.operation-op.result c.in_ok-span.span (listings_of p c.operation-op.result) c.seen-seen.result) (sym c.requires.problem) c.seen-seen.ensures

holders_of : (c : After-self-1) → AreHoldersOf c.args.graph.now.problem c.args.self.now.holders.items
holders_of c = subst (λ (p : Problem). AreHoldersOf p c.args.self.now.holders.items) (sym c.requires.problem) c.requires.known.holders

pub returns-clause-known : goal.returns-clause-known
returns-clause-known c =
    let known = c.args.self.now in
    let word = c.seen-seen.result.apart in
    let within : c.args.number < length known.apart.items = omega (arith, c.requires.number, c.requires.known.words) in
    let before = (goal.at.returns-clause-known c).After-operation-op in
    record {
      holders = c.requires.known.holders;
      spans = c.requires.known.spans;
      words = length-set known.apart.items c.args.number word ∙ c.requires.known.words;
      apart = word_set known.holders.items known.spans.items known.apart.items c.args.number word within
          (seen_apart c.args.graph.now known.holders.items known.spans.items c.args.number c.operation-op.result c.in_ok-span.span c.seen-seen.result (holders_of c).sound (is_at before) (runs before) (seen_by c)) c.requires.known.apart;
    }

pub returns-clause-found : goal.returns-clause-found
returns-clause-found c =
    let known = c.args.self.now in
    let before = (goal.at.returns-clause-found c).After-operation-op in
    found_at c.args.graph.now known.holders.items known.spans.items c.args.number c.operation-op.result c.in_ok-span.span c.seen-seen.result c.paths-paths.ensures.no_cycle (holders_of c) c.requires.spans (is_at before) (runs before) (seen_by c)
