use Rattle.first_overlaps.proofs.Holding.{put_more}
use Rattle.first_overlaps.proofs.holder.put.Goals as goal

pub returns-clause-held : goal.returns-clause-held
returns-clause-held c problem listings has number lists are =
    put_more problem listings c.args.listing c.args.each.now.items c.args.holder c.index_mut.result.now c.push.new.self c.requires.there c.index_mut.ensures.value c.in_ok-push.ensures.items c.requires.release has number lists are
