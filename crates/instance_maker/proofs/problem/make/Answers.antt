use Rattle.std.proofs.Common.{◌∙◌, ap, arith, length, List}
use Rattle.instance_maker.specs.declared.draws.Pair.{Pair}
use Rattle.instance_maker.specs.Made.{pair_count}
use Rattle.instance_maker.proofs.Drawn.{pairs_count}
use Rattle.instance_maker.proofs.Fitting.{made_is_well_formed}
use Rattle.instance_maker.proofs.problem.make.Goals as goal

pub trains_of-requires-clause-enough : goal.trains_of-requires-clause-enough
trains_of-requires-clause-enough c =
    omega (
      arith,
      pairs_count c.args.number (pair_count c.args.trains),
      ap (λ (l : List Pair). length l) (c.deref.ensures.value ∙ c.in_ok-pairs.ensures),
    )

pub components_of-requires-clause-enough : goal.components_of-requires-clause-enough
components_of-requires-clause-enough c =
    omega (
      arith,
      pairs_count c.args.number (pair_count c.args.trains),
      ap (λ (l : List Pair). length l) (c.deref-2.ensures.value ∙ c.in_ok-pairs.ensures),
    )

pub invariant_of-result : goal.invariant_of-result
invariant_of-result c =
    let trains = c.in_ok-trains_of.ensures c.args.number
    (c.deref.ensures.value ∙ c.in_ok-pairs.ensures) in
    let components = c.in_ok-components_of.ensures c.args.number
    (c.deref-2.ensures.value ∙ c.in_ok-pairs.ensures) in
    record {
      well_formed = rw (trains, components, c.in_ok-names_of.ensures)
          (made_is_well_formed c.args.number c.args.trains c.requires.trains);
    }
