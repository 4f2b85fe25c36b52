use Rattle.std.proofs.Common.{◌∙◌, ap, sym, map, take, string_bytes}
use Rattle.std.specs.List.{flat_map}
use Rattle.serde_json.specs.View.{view}
use Rattle.displib_reader.specs.ProblemOf.{names_of_operation}
use Rattle.displib_reader.specs.Names.{with_names}
use Rattle.displib_reader.proofs.Once.{names_more, with_none}
use Rattle.displib_reader.proofs.names.add_names_of_train.Goals as goal

pub loop-operation-init : goal.loop-operation-init
loop-operation-init c = sym (with_none (map string_bytes c.args.names.now.keys))

pub loop-operation-preserved : goal.loop-operation-preserved
loop-operation-preserved c =
    let items = c.members-operation-items.result.now in
    let i = c.loop-operation.operation-index in
    let v = c.operation-item.result in
    let old = map string_bytes c.args.names.now.keys in
    c.in_ok-add_names_of_operation.ensures
    ∙ ap (λ ns. with_names ns (names_of_operation (view v))) c.loop-operation.invariant
    ∙ ap (λ w. with_names (with_names old (flat_map names_of_operation (map view (take i items)))) (names_of_operation (view w))) c.operation-item.is
    ∙ sym (names_more view old names_of_operation items i v c.loop-operation-test.true)
