use Rattle.branch_rules.proofs.Placing.{put_behind}
use Rattle.branch_rules.proofs.behind.put.Goals as goal

pub returns : goal.returns
returns c = λ listings before are.
    put_behind c.args.place listings c.args.listing before c.args.listed.now.items c.index_mut.result.now c.push.new.self c.requires c.index_mut.ensures.value c.in_ok-push.ensures.items are
