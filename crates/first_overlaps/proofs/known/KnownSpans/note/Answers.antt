use Rattle.std.proofs.Common.{◌≡◌, ◌∙◌, Option, Some, length, sym, ap, subst, arith}
use Rattle.std.specs.Prelude.{IfSome}
use Rattle.std.specs.Global.{Vec}
use Rattle.std.proofs.lemmas.List.{length-set}
use Rattle.disp_model.specs.Arcs.{listings_of}
use Rattle.disp_laws.proofs.Numbered.{below_count}
use Rattle.first_overlaps.specs.declared.span.Span.{Span}
use Rattle.first_overlaps.specs.declared.holder.Holder.{Holder}
use Rattle.first_overlaps.specs.Holders.{AreHoldersOf}
use Rattle.first_overlaps.specs.Holds.{AreKnownApart, AreAllParted}
use Rattle.first_overlaps.proofs.Knowing.{noted, none_where}
use Rattle.first_overlaps.proofs.known.KnownSpans.note.Goals as goal

pub returns-clause-known : goal.returns-clause-known
returns-clause-known c =
    let problem = c.args.problem.now in
    let old = c.args.self.now in
    let new = c.part.new.self in
    let holders = subst (λ (v : Vec (Vec Holder)). AreHoldersOf problem v.items) (sym c.part.ensures.holders) c.requires.known.holders in
    let spans : length new.spans.items ≡ length old.spans.items = ap (λ (v : Vec (Option Span)). length v.items) c.part.ensures.spans in
    let below = below_count problem c.args.op c.requires.at.there.train c.requires.at.there.op in
    let known = subst (λ (v : Vec (Vec Holder)). AreKnownApart v.items new.spans.items old.apart.items) (sym c.part.ensures.holders)
    (subst (λ (v : Vec (Option Span)). AreKnownApart old.holders.items v.items old.apart.items) (sym c.part.ensures.spans) c.requires.known.apart) in
    let parted = λ (s : Span) (is : c.args.span ≡ Some s).
    subst (λ (v : Vec (Vec Holder)). AreAllParted v.items new.spans.items c.args.op s (listings_of problem c.args.op) new.apart.items) (sym c.part.ensures.holders)
    (subst (λ (v : Vec (Option Span)). AreAllParted old.holders.items v.items c.args.op s (listings_of problem c.args.op) new.apart.items) (sym c.part.ensures.spans)
    (subst (λ (found : Option Span). IfSome found (λ s. AreAllParted old.holders.items old.spans.items c.args.op s (listings_of problem c.args.op) new.apart.items)) is c.part.ensures.parted)) in
    record {
      holders = holders;
      spans = length-set new.spans.items c.args.number c.args.span ∙ spans ∙ c.requires.known.spans;
      words = length-set new.apart.items c.args.number c.is_none.result ∙ c.part.ensures.words ∙ c.requires.known.words;
      apart = noted problem new.holders.items new.spans.items old.apart.items new.apart.items c.args.number c.args.op c.args.span c.is_none.result holders.sound
          (omega (arith, below, c.requires.at.number, spans, c.requires.known.spans)) (omega (arith, below, c.requires.at.number, c.part.ensures.words, c.requires.known.words))
          c.requires.at c.part.ensures.fewer (none_where c.args.span c.is_none.result c.is_none.ensures) parted known;
    }
