use Rattle.std.proofs.Common.{◌∙◌, ◌<◌, List, Option, Some, None, length, ap, subst, arith}
use Rattle.std.proofs.lemmas.List.{get_or-set_same}
use Rattle.std.proofs.lemmas.Option.{same_Some}
use Rattle.share_bound.specs.declared.known.KnownShare.{KnownShare}
use Rattle.share_bound.specs.Known.{known_of, HoldsFor}
use Rattle.share_bound.proofs.Knowing.{put_holds, same_length}
use Rattle.share_bound.proofs.known.KnownShares.keep.Goals as goal

pub returns-clause-current : goal.returns-clause-current
returns-clause-current c =
    let old = c.args.self.now.each.items in
    let t = c.args.train in
    let there : t < length old = omega (arith, c.requires.train, c.requires.known.long) in
    record {
      there = omega (
        arith,
        there,
        same_length old c.put-old.new.self.each.items t (Some c.args.known) c.put-old.ensures.new,
      );
      one = c.args.known;
      known_is = ap (λ (l : List (Option KnownShare)). known_of l t) c.put-old.ensures.new
          ∙ get_or-set_same old t (Some c.args.known) None there;
      current = c.requires.current;
    }

pub returns-clause-known : goal.returns-clause-known
returns-clause-known c =
    let old = c.args.self.now in
    let new = c.put-old.new.self in
    let there : c.args.train < length old.each.items = omega (arith, c.requires.train, c.requires.known.long) in
    put_holds c.args.graph.now old new c.args.train (Some c.args.known) there c.put-old.ensures.new
    (same_length old.each.items new.each.items c.args.train (Some c.args.known) c.put-old.ensures.new)
    c.requires.known (λ one is. subst (HoldsFor c.args.graph.now c.args.train)
    (same_Some c.args.known one is) c.requires.current.holds)
