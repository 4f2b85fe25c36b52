use Rattle.std.proofs.Common.{◌≡◌, ◌∙◌, map, take, length, [], string_bytes, ap, sym, arith}
use Rattle.std.proofs.Math.Seq.{take-length}
use Rattle.std.specs.List.{flat_map}
use Rattle.serde_json.specs.View.{view}
use Rattle.std.specs.Prelude.{codes}
use Rattle.json_claims.specs.Field.{members_at}
use Rattle.displib_reader.specs.ProblemOf.{names_of_train}
use Rattle.displib_reader.specs.Names.{with_names}
use Rattle.displib_reader.proofs.Once.{gathered_names, names_more, with_none}
use Rattle.displib_reader.proofs.names.read_names.Goals as goal

pub returns : goal.returns
returns c =
    let items = c.members_at-train-items.result.now in
    let all : c.loop-train.train-index ≡ length items = omega arith in
    c.loop-train.invariant
    ∙ ap (λ n. with_names [] (flat_map names_of_train (map view (take n items)))) all
    ∙ ap (λ l. with_names [] (flat_map names_of_train (map view l))) (take-length items)
    ∙ ap (λ l. with_names [] (flat_map names_of_train l)) c.members_at-train-items.ensures
    ∙ gathered_names (flat_map names_of_train (members_at (codes "trains") (view c.args.value.now)))

pub loop-train-init : goal.loop-train-init
loop-train-init c = ap (map string_bytes) c.new-names.ensures.empty ∙ sym (with_none [])

pub loop-train-preserved : goal.loop-train-preserved
loop-train-preserved c =
    let items = c.members_at-train-items.result.now in
    let i = c.loop-train.train-index in
    let v = c.train-item.result in
    c.in_ok-add_names_of_train.ensures
    ∙ ap (λ ns. with_names ns (names_of_train (view v))) c.loop-train.invariant
    ∙ ap (λ w. with_names (with_names [] (flat_map names_of_train (map view (take i items)))) (names_of_train (view w))) c.train-item.is
    ∙ sym (names_more view [] names_of_train items i v c.loop-train-test.true)
