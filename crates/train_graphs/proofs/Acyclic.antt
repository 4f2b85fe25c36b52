-- Trains with one entry, one exit and no cycle each are acyclic.
use Rattle.std.proofs.Common.{◌≡◌, ℕ, ◌+◌, List, [], ◌∷◌, Option, Some, None, Bool, true, false, cond, refl}
use Rattle.std.specs.Prelude.{All, ◌==◌}
use Rattle.std.specs.List.{AllByRecursion}
use Rattle.std.proofs.lemmas.Bool.{eqb-true}
use Rattle.std.proofs.lemmas.List.Elements.{All-from_recursion, recursion_from_All}
use Rattle.disp_model.specs.declared.train.Operation.{Operation}
use Rattle.disp_model.specs.WellFormed.{IsAcyclic}
use Rattle.train_graphs.specs.Graphs.{entry_count, exit_count, first_not_one, HasNoCycle, HaveGraphs}
use Rattle.train_graphs.proofs.Marks.{one_entry, one_exit, entered}

one_by : (b : Bool) (x : ℕ × ℕ) (rest : Option (ℕ × ℕ)) → cond b rest (Some x) ≡ None → (b ≡ true) × (rest ≡ None)
one_by true x rest e = (refl, e)
one_by false x rest e = absurd cc

all_one : (count : List Operation → ℕ) (t : ℕ) (trains : List (List Operation)) → first_not_one count t trains ≡ None → AllByRecursion (λ train. count train ≡ 1) trains
all_one count t [] e = tt
all_one count t (train ∷ trains) e = let p = one_by (count train == 1) (t, count train) (first_not_one count (t + 1) trains) e in (eqb-true (count train) 1 p.0, all_one count (t + 1) trains p.1)

acyclic : (trains : List (List Operation)) → AllByRecursion (λ train. entry_count train ≡ 1) trains → AllByRecursion (λ train. exit_count train ≡ 1) trains → AllByRecursion HasNoCycle trains → AllByRecursion IsAcyclic trains
acyclic [] entries exits cycles = tt
acyclic (train ∷ trains) entries exits cycles = (
  record { entered = entered train entries.0; one_entry = one_entry train entries.0; one_exit = one_exit train exits.0; no_cycle = λ n o h. cycles.0 o (n, h) },
  acyclic trains entries.1 exits.1 cycles.1,
)

-- trains whose graphs are in order are acyclic, by the definition of well formed problems
pub all_acyclic : (trains : List (List Operation)) → HaveGraphs trains → All IsAcyclic trains
all_acyclic trains graphs =
    All-from_recursion IsAcyclic trains (acyclic trains (all_one entry_count 0 trains graphs.entries) (all_one exit_count 0 trains graphs.exits) (recursion_from_All HasNoCycle trains graphs.no_cycle))
