use Rattle.std.proofs.Common.{◌∙◌, ap, sym, map, take, string_bytes}
use Rattle.std.specs.Prelude.{codes}
use Rattle.std.specs.List.{filter_map}
use Rattle.serde_json.specs.View.{view}
use Rattle.json_claims.specs.Field.{text_at}
use Rattle.displib_reader.specs.Names.{with_found, with_names}
use Rattle.displib_reader.proofs.Once.{found_more, with_none}
use Rattle.displib_reader.proofs.names.add_names_of_operation.Goals as goal

pub loop-listing-init : goal.loop-listing-init
loop-listing-init c = sym (with_none (map string_bytes c.args.names.now.keys))

pub loop-listing-preserved : goal.loop-listing-preserved
loop-listing-preserved c =
    let items = c.members_at-listing-items.result.now in
    let i = c.loop-listing.listing-index in
    let v = c.listing-item.result in
    let f = text_at (codes "resource") in
    let old = map string_bytes c.args.names.now.keys in
    c.in_ok-add_name_of_listing.ensures
    ∙ ap (λ ns. with_found ns (f (view v))) c.loop-listing.invariant
    ∙ ap (λ w. with_found (with_names old (filter_map f (map view (take i items)))) (f (view w))) c.listing-item.is
    ∙ sym (found_more view old f items i v c.loop-listing-test.true)
