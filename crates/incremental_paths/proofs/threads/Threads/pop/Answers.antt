use Rattle.std.proofs.Common.{◌≡◌, ◌+◌, ◌-◌, ◌<◌, length, map, sym, arith}
use Rattle.std.proofs.lemmas.List.{length-map}
use Rattle.incremental_paths.specs.declared.threads.Link.{Link}
use Rattle.incremental_paths.proofs.Linking.{linked_pop}
use Rattle.incremental_paths.proofs.threads.Threads.pop.Goals as goal

pub invariant_of-self : goal.invariant_of-self
invariant_of-self c =
    let f = c.self.inside in
    let some : 0 < length (map (λ l. l.node) f.links.items) = rw (← c.self.view_is) at c.requires in
    let one : c.len-last.result - 1 + 1 ≡ length f.links.items = omega (arith, some, length-map f.links.items (λ (l : Link). l.node), f.links.ok.0, c.len-last.ensures) in
    rw c.truncate.ensures.items (linked_pop f.fronts.items f.links.items c.self.invariant (c.len-last.result - 1) one c.index-link.result.now (sym c.index-link.ensures))
