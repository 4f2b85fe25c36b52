use Rattle.std.proofs.Common.{◌≡◌, ◌+◌, ◌<◌, length, get_or, arith}
use Rattle.std.proofs.lemmas.List.{get_or_read}
use Rattle.incremental_paths.proofs.Linking.{linked_push}
use Rattle.incremental_paths.proofs.threads.Threads.push.Goals as goal

pub invariant_of-self-2 : goal.invariant_of-self-2
invariant_of-self-2 c =
    let f = c.self.inside in
    let lt : c.args.node < length f.fronts.items = rw (← c.self.view_is) at c.requires in
    let read : c.index-before.result.now ≡ get_or f.fronts.items c.args.node 0 = get_or_read f.fronts.items c.args.node c.index-before.result.now lt c.index-before.ensures 0 in
    let more : c.len.result ≡ length f.links.items + 1 = omega (arith, c.len.ensures, c.in_ok-push.ensures.len, f.links.ok.0) in
    rw (c.in_ok-push.ensures.items, read, more) (linked_push f.fronts.items f.links.items c.self.invariant c.args.node lt)
