use Rattle.std.specs.Prelude.{All}
use Rattle.std.proofs.Common.{sym, subst}
use Rattle.std.proofs.lemmas.List.Elements.{All-push, All-set}
use Rattle.share_bound.specs.Known.{HoldsOver}
use Rattle.share_bound.proofs.known.put_among.Goals as goal

pub returns-then-len-lt-MOST_EARLIER : goal.returns-then-len-lt-MOST_EARLIER
returns-then-len-lt-MOST_EARLIER c = λ node t before share.
    subst (All (HoldsOver node t)) (sym c.in_ok-push.ensures.items)
    (All-push (HoldsOver node t) c.args.shares.now.items c.args.share before share)

pub returns : goal.returns
returns c = λ node t before share.
    All-set (HoldsOver node t) c.args.shares.now.items c.args.place c.args.share share before
