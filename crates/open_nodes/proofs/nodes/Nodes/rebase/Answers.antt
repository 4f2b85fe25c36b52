use Rattle.std.proofs.Common.{◌<◌, List, subst}
use Rattle.open_nodes.specs.declared.place.Place.{Place}
use Rattle.open_nodes.specs.Blocks.{AreReckoned}
use Rattle.open_nodes.proofs.Falling.{rebased_kept}
use Rattle.open_nodes.proofs.nodes.Nodes.rebase.Goals as goal

pub invariant_of-self : goal.invariant_of-self
invariant_of-self c =
    let s = c.self.inside in
    let later : s.edition < c.args.edition = rw (← c.self.view_is) at c.requires in (
      rebased_kept s.places.items s.edition s.allowed c.self.invariant.0 c.args.edition later,
      subst (λ (places : List Place). AreReckoned places c.args.edition c.rebase.new.self) c.deref.ensures.value c.rebase.ensures,
    )
