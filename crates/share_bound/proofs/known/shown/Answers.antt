use Rattle.std.proofs.Common.{subst}
use Rattle.std.proofs.lemmas.Option.{same_Some}
use Rattle.share_bound.specs.declared.known.LeafPart.{LeafPart}
use Rattle.share_bound.specs.Known.{ShowsPart}
use Rattle.share_bound.proofs.known.shown.Goals as goal

pub returns-clause-holds : goal.returns-clause-holds
returns-clause-holds c = λ node t holds shows. record {
  last = record {
    share = holds.last.share;
    shows = λ showing is. subst (λ (x : LeafPart). ShowsPart node t c.args.known.last.bases.items x)
        (same_Some c.args.showing showing is) shows;
  };
  earlier = holds.earlier;
}
