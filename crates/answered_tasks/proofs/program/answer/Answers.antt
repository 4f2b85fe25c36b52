use Rattle.std.proofs.Common.{◌∙◌, refl}
use Rattle.text_puts.specs.Outside.{outside}
use Rattle.answered_tasks.proofs.Ended.{ends_of_answer, ends_of_stop, read_well}
use Rattle.answered_tasks.proofs.program.answer.Goals as goal

pub returns-in-Ok : goal.returns-in-Ok
returns-in-Ok g c =
    let old = outside (g.S.Shelf.state c.args.shelf.now) (g.O.Sink.state c.args.out.now) in
    let mid = outside (g.S.Shelf.state c.run.new.shelf) (g.O.Sink.state c.args.out.now) in
    let new = outside (g.S.Shelf.state c.publish-status.new.shelf) (g.O.Sink.state c.publish-status.new.out) in
    record {
      ends = λ words read. ends_of_answer words old mid new c.in-Ok.answer c.publish-status.result _
          (c.in-Ok.ensures.ok words read) c.in-Ok.ensures.status c.into_vec.ensures
          (read_well old.reading mid.reading new.reading _
          (λ name. (c.in-Ok.ensures.counts words name read).never_falls) c.in-Ok.ensures.failed (λ e. e)
          c.publish-status.ensures.readings) c.in-Ok.ensures.held c.in-Ok.ensures.puttings refl refl
          c.publish-status.ensures.ends c.publish-status.ensures.risen c.publish-status.ensures.others;
      feeds = c.publish-status.ensures.feeds ∙ c.in-Ok.ensures.feeds;
    }

pub returns-in-Err : goal.returns-in-Err
returns-in-Err g c =
    let old = outside (g.S.Shelf.state c.args.shelf.now) (g.O.Sink.state c.args.out.now) in
    let new = outside (g.S.Shelf.state c.run.new.shelf) (g.O.Sink.state c.stop.new.out) in
    record {
      ends = λ words read. ends_of_stop words old new c.in-Err.cause c.stop.result _ (c.in-Err.ensures.no words read)
          c.stop.ensures (record { held = c.in-Err.ensures.held; counts = c.in-Err.ensures.puttings })
          c.new.ensures.items (λ name. c.in-Err.ensures.counts words name read) c.in-Err.ensures.one
          c.in-Err.ensures.failed;
      feeds = c.in-Err.ensures.feeds;
    }
