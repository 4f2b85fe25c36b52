use Rattle.first_overlaps.proofs.Knowing.{spanned_from, spanned_more}
use Rattle.first_overlaps.proofs.known.KnownSpans.renew.Goals as goal

pub loop-number-preserved : goal.loop-number-preserved
loop-number-preserved c =
    let node = c.args.graph.now in
    let op = c.operation-op.result in
    record {
      known = c.note.ensures.known;
      spans = spanned_more node c.loop-number.number op c.span_of.result c.loop-number.self.spans.items c.note.new.self.spans.items (record { there = c.operation-op.ensures.there; number = c.operation-op.ensures.number })
          (spanned_from node op c.span_of.result c.span_of.ensures) c.note.ensures.span c.note.ensures.others c.loop-number.invariant.spans;
    }
