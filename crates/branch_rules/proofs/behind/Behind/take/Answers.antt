use Rattle.std.proofs.Common.{◌≡◌, ◌<◌, ℕ, List, length, get_or, Some, sym, subst}
use Rattle.std.specs.Prelude.{All, slice_get}
use Rattle.std.proofs.lemmas.Option.{slice_get-get_or}
use Rattle.std.proofs.lemmas.Result.{IfOk-weaker}
use Rattle.disp_model.specs.declared.train.Listing.{Listing}
use Rattle.disp_model.specs.declared.plan.Event.{Event}
use Rattle.disp_model.specs.Earliest.{op_of}
use Rattle.branch_rules.specs.Behind.{ArePutBehind}
use Rattle.first_overlaps.proofs.Holding.{listings_within}
use Rattle.branch_rules.proofs.Placing.{behind_more}
use Rattle.branch_rules.proofs.behind.Behind.take.Goals as goal

abbrev no_event : Event
no_event = record { time = 0; train = 0; operation = 0 }

pub put_all-requires : goal.put_all-requires
put_all-requires c k d lt =
    let e = get_or c.args.events.now c.args.place no_event in
    let at : slice_get c.args.events.now c.args.place ≡ Some e = slice_get-get_or c.args.events.now c.args.place no_event c.requires.place in
    let all = subst (λ (ls : List Listing). All (λ l. l.resource < length c.args.problem.now.names) ls) (sym c.listings_of.ensures) (listings_within c.args.problem.now (op_of e) (c.requires.trains c.args.place e at)) in
    subst (λ (n : ℕ). (get_or c.listings_of.result.now k d).resource < n) (sym c.requires.behind.resources) (all k d lt)

pub returns : goal.returns
returns c =
    let e = get_or c.args.events.now c.args.place no_event in
    let at : slice_get c.args.events.now c.args.place ≡ Some e = slice_get-get_or c.args.events.now c.args.place no_event c.requires.place in
    IfOk-weaker c.put_all.result _ _ (λ done placed. behind_more c.args.problem.now c.args.events.now c.args.place e c.args.self.now (record { next = c.put_event.new.next; listed = c.put_all.new.listed }) at (c.requires.trains c.args.place e at) c.put_event.ensures
    (subst (λ (ls : List Listing). ArePutBehind c.args.place ls c.args.self.now.listed.items c.put_all.new.listed.items) c.listings_of.ensures placed) c.requires.behind) c.put_all.ensures
