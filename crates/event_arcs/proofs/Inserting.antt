-- A list that spans the trains still does so with arcs to an operation and on from it.
use Rattle.std.proofs.Common.{◌≡◌, ◌⊎◌, ℕ, List, [], ◌∷◌, ◌++◌, sym, ap, subst, ◌∙◌, arith, inl, inr}
use Rattle.std.specs.Prelude.{Contains}
use Rattle.std.proofs.lemmas.List.Elements.{Contains-append_left, Contains-append_cases}
use Rattle.plain_values.proofs.Lists.{contains_one}
use Rattle.disp_model.specs.declared.train.Op.{Op}
use Rattle.disp_model.specs.Numbers.{number_of}
use Rattle.disp_model.specs.Node.{Node}
use Rattle.disp_model.specs.Routes.{IsForced}
use Rattle.disp_model.specs.Arcs.{IsTrainArc}
use Rattle.incremental_paths.specs.declared.arc.Arc.{Arc}
use Rattle.event_arcs.specs.Listed.{LeadsOver, IsArcLeft, SpansTrains, GoesBetween, JoinsOps}
use Rattle.event_arcs.proofs.Leading.{leads_then}
use Rattle.event_arcs.proofs.Numbering.{same_forced}
use Rattle.event_arcs.proofs.Cycling.{no_arc_to_itself}
use Rattle.event_arcs.proofs.Joining.{leads_kept, pushed_there}
use Rattle.event_arcs.proofs.Deciding.{leads_numbers}

left_cases : (arcs : List Arc) (arc : Arc) (n : ℕ) → IsArcLeft (arcs ++ arc ∷ []) n → IsArcLeft arcs n ⊎ (arc.from ≡ n)
left_cases arcs arc n left = elim (Contains-append_cases arcs (arc ∷ []) left.1 (left.0, left.2, left.3)) [
  | inl old ↦ inl (old.0, left.1, old.1, old.2, left.4)
  | inr new ↦ inr (sym (ap (λ (a : Arc). a.from) (contains_one arc left.1 new)) ∙ left.4)
]

module _ (node : Node) (arcs : List Arc) (before op behind : Op) (first second : Arc) (spans : SpansTrains node arcs) (between : GoesBetween node arcs before op behind) (to_op : JoinsOps node first before op) (on : JoinsOps node second op behind) where
  abbrev one : List Arc
  one = arcs ++ first ∷ []

  abbrev both : List Arc
  both = one ++ second ∷ []

  left_one : (n : ℕ) → IsArcLeft one n → IsArcLeft arcs n
  left_one n left = elim (left_cases arcs first n left) [
    | inl old ↦ old
    | inr new ↦ subst (IsArcLeft arcs) (sym to_op.from_is ∙ new) between.left
  ]

  left_both : (u : Op) → IsForced node u → IsArcLeft both (number_of node.problem u) → IsArcLeft arcs (number_of node.problem u) ⊎ (u ≡ op)
  left_both u forced left = elim (left_cases one second (number_of node.problem u) left) [
    | inl old ↦ inl (left_one (number_of node.problem u) old)
    | inr new ↦ inr (same_forced node u op forced between.op_forced (sym (sym on.from_is ∙ new)))
  ]

  in_one : (arc : Arc) → Contains arcs arc → Contains one arc
  in_one arc there = Contains-append_left arcs (first ∷ []) arc there

  in_both : (arc : Arc) → Contains one arc → Contains both arc
  in_both arc there = Contains-append_left one (second ∷ []) arc there

  old_way : (u v : Op) → LeadsOver arcs (number_of node.problem u) (number_of node.problem v) 0 → LeadsOver both (number_of node.problem u) (number_of node.problem v) 0
  old_way u v way = leads_kept arcs both (number_of node.problem u) (number_of node.problem v) 0 (λ arc there. in_both arc (in_one arc there)) way

  first_way : LeadsOver both (number_of node.problem before) (number_of node.problem op) 0
  first_way = leads_numbers node both first before op 0 (in_both first (pushed_there arcs first)) to_op.from_is to_op.to_is (omega arith)

  second_way : LeadsOver both (number_of node.problem op) (number_of node.problem behind) 0
  second_way = leads_numbers node both second op behind 0 (pushed_there one second) on.from_is on.to_is (omega arith)

  to_it : (u : Op) (sum : ℕ) → IsForced node u → IsArcLeft arcs (number_of node.problem u) → IsTrainArc node u op sum → LeadsOver both (number_of node.problem u) (number_of node.problem op) 0
  to_it u sum forced left arc = elim (between.from u sum forced left arc) [
    | inl same ↦ subst (λ (o : Op). LeadsOver both (number_of node.problem o) (number_of node.problem op) 0) (sym same) first_way
    | inr far ↦ leads_then both (number_of node.problem u) (number_of node.problem before) (number_of node.problem op) 0 0 (old_way u before (spans.way u before far.0 forced between.before_forced far.1 left between.left)) first_way
  ]

  from_it : (v : Op) (sum : ℕ) → IsForced node v → IsArcLeft arcs (number_of node.problem v) → IsTrainArc node op v sum → LeadsOver both (number_of node.problem op) (number_of node.problem v) 0
  from_it v sum forced left arc = elim (between.to v sum forced left arc) [
    | inl same ↦ subst (λ (o : Op). LeadsOver both (number_of node.problem op) (number_of node.problem o) 0) (sym same) second_way
    | inr far ↦ leads_then both (number_of node.problem op) (number_of node.problem behind) (number_of node.problem v) 0 0 second_way (old_way behind v (spans.way behind v far.1.0 between.behind_forced forced far.1.1 far.0 left))
  ]

  pub spans_to : SpansTrains node one
  spans_to = record {
    way = λ u v sum forced other arc left right.
        leads_kept arcs one (number_of node.problem u) (number_of node.problem v) 0 in_one (spans.way u v sum forced other arc (left_one (number_of node.problem u) left) (left_one (number_of node.problem v) right));
  }

  pub spans_on : SpansTrains node both
  spans_on = record {
    way = λ u v sum forced other arc left right. elim (left_both u forced left) [
      | inl old ↦ elim (left_both v other right) [
        | inl too ↦ old_way u v (spans.way u v sum forced other arc old too)
        | inr same ↦ subst (λ (o : Op). LeadsOver both (number_of node.problem u) (number_of node.problem o) 0) (sym same) (to_it u sum forced old (subst (λ (o : Op). IsTrainArc node u o sum) same arc))
      ]
      | inr same ↦ elim (left_both v other right) [
        | inl old ↦ subst (λ (o : Op). LeadsOver both (number_of node.problem o) (number_of node.problem v) 0) (sym same) (from_it v sum other old (subst (λ (o : Op). IsTrainArc node o v sum) same arc))
        | inr too ↦
            let round = subst (λ (o : Op). IsTrainArc node u o sum) (too ∙ sym same) arc in
            absurd (no_arc_to_itself node u sum (record { from_forced = forced; to_forced = forced; kind = inl round }))
      ]
    ];
  }
