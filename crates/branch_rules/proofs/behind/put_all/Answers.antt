use Rattle.std.proofs.Common.{List, take, subst, sym}
use Rattle.std.proofs.lemmas.List.{take_more}
use Rattle.disp_model.specs.declared.train.Listing.{Listing}
use Rattle.branch_rules.specs.Behind.{ArePutBehind}
use Rattle.branch_rules.proofs.Placing.{placed_none}
use Rattle.branch_rules.proofs.behind.put_all.Goals as goal

pub loop-listing-init : goal.loop-listing-init
loop-listing-init c = placed_none c.args.place c.args.listed.now.items

pub loop-listing-preserved : goal.loop-listing-preserved
loop-listing-preserved c =
    let i = c.loop-listing.listing-index in
    subst (λ (ls : List Listing). ArePutBehind c.args.place ls c.args.listed.now.items c.put.new.listed.items) (sym (take_more c.args.listings.now i _ c.loop-listing-test.true)) (c.in_ok-put.ensures (take i c.args.listings.now) c.args.listed.now.items c.loop-listing.invariant)
