use Rattle.std.proofs.Common.{◌≡◌, ◌∙◌, Some, None, sym, subst}
use Rattle.std.proofs.lemmas.Option.{none-some}
use Rattle.share_bound.specs.Known.{known_of, AreBasesOf, IsCurrentShare}
use Rattle.share_bound.proofs.Knowing.{put_holds, same_length, current_one}
use Rattle.share_bound.proofs.known.KnownShares.show.Goals as goal

pub keep-requires-clause-known : goal.keep-requires-clause-known
keep-requires-clause-known c =
    let old = c.args.self.now in
    let new = c.put.new.self in
    put_holds c.args.graph.now old new c.args.train None c.requires.current.there
    c.put.ensures.new (same_length old.each.items new.each.items c.args.train None c.put.ensures.new)
    c.requires.known (λ one is. absurd (none-some one is))

pub keep-requires-clause-current : goal.keep-requires-clause-current
keep-requires-clause-current c =
    let node = c.args.graph.now in
    let known = c.in-Some.known in
    let there : known_of c.args.self.now.each.items c.args.train ≡ Some known = sym c.put.ensures.was
    ∙ c.in-Some.is in
    let current : IsCurrentShare node c.args.train known = current_one node c.args.train
    c.args.self.now known c.requires.current there in
    record {
      bases = subst (λ b. AreBasesOf node c.args.train b.items) (sym c.shown.ensures.bases)
          current.bases;
      holds = c.shown.ensures.holds node c.args.train current.holds (c.requires.shows known there);
    }
