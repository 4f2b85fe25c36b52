-- The bases of a train's operations lie one behind another among the lengths of all paths.
use Rattle.std.proofs.Common.{◌≡◌, ℕ, ◌+◌, ◌-◌, ◌<◌, ◌≤◌, List, [], length, drop, sym, ap, subst, ◌∙◌, arith}
use Rattle.std.specs.Prelude.{slice_index, slice_range}
use Rattle.std.proofs.lemmas.List.{get_or-take, get_or-drop, length-take-le, length-drop}
use Rattle.std.proofs.lemmas.List.Elements.{Contains-get_or, All-contains}
use Rattle.disp_model.specs.declared.problem.Problem.{Problem}
use Rattle.disp_model.specs.WellFormed.{IsAcyclic, operation_count}
use Rattle.disp_model.specs.Numbers.{number_of}
use Rattle.disp_model.specs.Valid.{train_at}
use Rattle.disp_model.specs.Node.{Node}
use Rattle.disp_model.specs.Walks.{HasCycle}
use Rattle.disp_model.specs.Shares.{IsBase}
use Rattle.disp_laws.proofs.Numbered.{below_count}
use Rattle.incremental_paths.specs.declared.arc.Arc.{Arc}
use Rattle.incremental_paths.specs.Walks.{IsLongestLength}
use Rattle.event_arcs.specs.Listed.{AreArcsOf, AreLowersOf}
use Rattle.event_windows.specs.Operations.{HasOperation}
use Rattle.event_graph.specs.Joined.{IsOfEdition}
use Rattle.share_bound.specs.Bases.{AreBasesTo}
use Rattle.share_bound.proofs.Basing.{edition_small, base_found}
use Rattle.share_bound.proofs.Fitting.{base_within}

-- a train has a first operation
pub first_there : (problem : Problem) (t : ℕ) → t < length problem.trains
    → HasOperation problem (record { train = t; op = 0 })
first_there problem t lt = record {
  train = lt;
  op = (All-contains IsAcyclic problem.trains (train_at problem t) problem.well_formed.acyclic
      (Contains-get_or problem.trains t [] lt)).entered;
}

-- the number of the first operation, and how many there are, are within the numbers of all
pub lies_within : (problem : Problem) (t first count : ℕ) → t < length problem.trains
    → first ≡ number_of problem (record { train = t; op = 0 })
    → count ≡ length (train_at problem t) → first + count ≤ operation_count problem.trains
lies_within problem t first count lt is long =
    let there = first_there problem t lt in
    let last : number_of problem (record { train = t; op = length (train_at problem t) - 1 })
    < operation_count problem.trains = below_count problem
    (record { train = t; op = length (train_at problem t) - 1 }) lt
    (omega (arith, there.op)) in
    omega (arith, is, long, last, there.op)

pub bases_lie : (node : Node) (arcs : List Arc) (lowers lengths part : List ℕ) (t first count : ℕ)
    → AreArcsOf node arcs → AreLowersOf node lowers → (HasCycle node → ⊥) → IsOfEdition node
    → t < length node.problem.trains
    → first ≡ number_of node.problem (record { train = t; op = 0 })
    → count ≡ length (train_at node.problem t) → length lengths ≡ length lowers
    → ((n : ℕ) → n < length lowers → IsLongestLength lowers arcs n (slice_index lengths n))
    → part ≡ slice_range lengths first (first + count) → AreBasesTo node t count part
bases_lie node arcs lowers lengths part t first count are_arcs are_lowers no_cycle edition lt is long
    sized longest same = record {
      long = ap (λ (l : List ℕ). length l) same ∙ cut_long;
      are = based;
      within = λ o less. base_within node (record { train = t; op = o }) (slice_index part o)
          (edition_small node edition) no_cycle lt (based o less);
    }
  where
    inside : first + count ≤ length lengths
    inside = omega (arith, lies_within node.problem t first count lt is long, sized, are_lowers.long)

    cut_long : length (slice_range lengths first (first + count)) ≡ count
    cut_long = length-take-le (first + count - first) (drop first lengths)
        (omega (arith, length-drop first lengths, inside)) ∙ omega arith

    read : (o : ℕ) → o < count → slice_index part o ≡ slice_index lengths (first + o)
    read o less = ap (λ (l : List ℕ). slice_index l o) same
        ∙ get_or-take (first + count - first) (drop first lengths) o 0 (omega (arith, less))
        ∙ get_or-drop first lengths o 0

    based : (o : ℕ) → o < count → IsBase node (record { train = t; op = o }) (slice_index part o)
    based o less =
        let there : HasOperation node.problem (record { train = t; op = o }) = record {
          train = lt;
          op = omega (arith, less, long);
        } in
        let number : first + o ≡ number_of node.problem (record { train = t; op = o }) = omega (
          arith,
          is,
        ) in
        base_found node arcs lowers (record { train = t; op = o }) (first + o) (slice_index part o)
        are_arcs are_lowers no_cycle there number
        (subst (IsLongestLength lowers arcs (first + o)) (sym (read o less))
        (longest (first + o) (omega (arith, inside, less, sized))))
