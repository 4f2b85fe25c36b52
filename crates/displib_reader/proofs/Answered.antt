-- Each text has an answer beside want of memory.
use Rattle.std.proofs.Common.{◌≡◌, ◌⊎◌, ℕ, ◌<◌, ◌≤◌, List, Option, Some, None, refl, inl, inr}
use Rattle.std.specs.Prelude.{All, codes}
use Rattle.std.proofs.lemmas.Bool.{cases_lt}
use Rattle.serde_json.specs.Data.{Data}
use Rattle.disp_model.specs.declared.problem.Problem.{Problem}
use Rattle.disp_model.specs.declared.train.Operation.{Operation}
use Rattle.disp_model.specs.declared.train.Component.{Component}
use Rattle.disp_model.specs.declared.limits.TheConstants.{GREATEST_COST}
use Rattle.json_claims.specs.declared.rule.Rule.TheVariants as rule
use Rattle.json_claims.specs.Json.{IsJson, IsNoJson}
use Rattle.json_claims.specs.Field.{members_at}
use Rattle.json_claims.proofs.Readable.{json_or_not}
use Rattle.train_graphs.specs.Graphs.{entry_count, exit_count, first_not_one, HasNoCycle, IsFirstLoop, HaveGraphs}
use Rattle.train_graphs.specs.Costs.{greatest_sum}
use Rattle.train_graphs.proofs.Decided.{first_loop_or_none}
use Rattle.displib_reader.specs.declared.place.Place.{Place}
use Rattle.displib_reader.specs.declared.fault.Kind.{Kind}
use Rattle.displib_reader.specs.declared.fault.ProblemNo.TheVariants.{NotJson, Shape, NotWhole, TooLarge, TooMany, BadIndex, NotOneEntry, NotOneExit, Loop, UnknownObjective, TooCostly}
use Rattle.displib_reader.specs.Counts.{too_many}
use Rattle.displib_reader.specs.Types.{first_unknown}
use Rattle.displib_reader.specs.ProblemOf.{names_in}
use Rattle.displib_reader.specs.Outcome.{broken_at, IsPlain, IsLinked, HasTrains, HasComponents, KeepsRules, HasAnswer}
use Rattle.displib_reader.proofs.Trains.{read_trains}
use Rattle.displib_reader.proofs.Components.{read_components}
use Rattle.displib_reader.proofs.Whole.{all_inside, well_formed}

by_cost : (bytes : List ℕ) (d : Data) → IsJson bytes d → (trains : List (List Operation)) (components : List Component) → HasTrains d trains → HaveGraphs trains → HasComponents d components
    → (GREATEST_COST < greatest_sum trains components) ⊎ (greatest_sum trains components ≤ GREATEST_COST) → HasAnswer bytes
by_cost bytes d json trains components has graphs parts (inl above) = inr (
  TooCostly (greatest_sum trains components),
  record { value = d; json = json; breaks = record { trains = trains; components = components; has_trains = has; graphs = graphs; has_components = parts; sum_is = refl; above = above } },
  λ e. absurd cc,
)
by_cost bytes d json trains components has graphs parts (inr cheap) =
    let keeps : KeepsRules d trains components = record { has_trains = has; graphs = graphs; has_components = parts; cheap = cheap } in
    let problem : Problem = record { trains = trains; components = components; names = names_in d; well_formed = well_formed d trains components (names_in d) keeps refl } in
    inl (problem, record { value = d; json = json; keeps = keeps; problem_is = record { trains = has.trains_are; components = parts.components_are; names = refl } })

by_types : (bytes : List ℕ) (d : Data) → IsJson bytes d → (trains : List (List Operation)) → HasTrains d trains → HaveGraphs trains → (unknown : Option ℕ) → first_unknown 0 (members_at (codes "objective") d) ≡ unknown → HasAnswer bytes
by_types bytes d json trains has graphs (Some c) e = inr (UnknownObjective c, record { value = d; json = json; breaks = record { trains = trains; has_trains = has; graphs = graphs; unknown = e } }, λ f. absurd cc)
by_types bytes d json trains has graphs None e =
    let read = read_components d has.linked e in
    by_cost bytes d json trains read.0 has graphs (record { types = e; components_are = read.1 }) (cases_lt GREATEST_COST (greatest_sum trains read.0))

by_loops : (bytes : List ℕ) (d : Data) → IsJson bytes d → (trains : List (List Operation)) → HasTrains d trains → first_not_one entry_count 0 trains ≡ None → first_not_one exit_count 0 trains ≡ None
    → ((t : ℕ) × (o : ℕ) × IsFirstLoop trains t o) ⊎ All HasNoCycle trains → HasAnswer bytes
by_loops bytes d json trains has entries exits (inl p) =
    inr (Loop p.0 p.1, record { value = d; json = json; breaks = record { trains = trains; has_trains = has; broken = (entries, exits, p.2) } }, λ f. absurd cc)
by_loops bytes d json trains has entries exits (inr none) =
    by_types bytes d json trains has (record { entries = entries; exits = exits; no_cycle = none }) (first_unknown 0 (members_at (codes "objective") d)) refl

by_ends : (bytes : List ℕ) (d : Data) → IsJson bytes d → (trains : List (List Operation)) → HasTrains d trains → (entry exit : Option (ℕ × ℕ)) → first_not_one entry_count 0 trains ≡ entry → first_not_one exit_count 0 trains ≡ exit → HasAnswer bytes
by_ends bytes d json trains has (Some x) exit e f = inr (NotOneEntry x.0 x.1, record { value = d; json = json; breaks = record { trains = trains; has_trains = has; broken = e } }, λ g. absurd cc)
by_ends bytes d json trains has None (Some x) e f = inr (NotOneExit x.0 x.1, record { value = d; json = json; breaks = record { trains = trains; has_trains = has; broken = (e, f) } }, λ g. absurd cc)
by_ends bytes d json trains has None None e f = by_loops bytes d json trains has e f (first_loop_or_none trains (all_inside d has.linked trains has.trains_are))

by_links : (bytes : List ℕ) (d : Data) → IsJson bytes d → IsPlain d → (many : Option (Kind × ℕ)) (index : Option Place) → too_many d ≡ many → broken_at rule.Index d ≡ index → HasAnswer bytes
by_links bytes d json plain (Some x) index m i = inr (TooMany x.0 x.1, record { value = d; json = json; breaks = (plain, m) }, λ f. absurd cc)
by_links bytes d json plain None (Some place) m i = inr (BadIndex place, record { value = d; json = json; breaks = (plain, m, i) }, λ f. absurd cc)
by_links bytes d json plain None None m i =
    let linked : IsLinked d = record { plain = plain; few = m; index = i } in
    let read = read_trains d linked in
    by_ends bytes d json read.0 (record { linked = linked; trains_are = read.1 }) (first_not_one entry_count 0 read.0) (first_not_one exit_count 0 read.0) refl refl

by_rules : (bytes : List ℕ) (d : Data) → IsJson bytes d → (shape whole limit : Option Place) → broken_at rule.Shape d ≡ shape → broken_at rule.Whole d ≡ whole → broken_at rule.Limit d ≡ limit → HasAnswer bytes
by_rules bytes d json (Some place) whole limit s w l = inr (Shape place, record { value = d; json = json; breaks = s }, λ e. absurd cc)
by_rules bytes d json None (Some place) limit s w l = inr (NotWhole place, record { value = d; json = json; breaks = (s, w) }, λ e. absurd cc)
by_rules bytes d json None None (Some place) s w l = inr (TooLarge place, record { value = d; json = json; breaks = (s, w, l) }, λ e. absurd cc)
by_rules bytes d json None None None s w l = by_links bytes d json (record { shape = s; whole = w; limit = l }) (too_many d) (broken_at rule.Index d) refl refl

by_json : (bytes : List ℕ) → ((d : Data) × IsJson bytes d) ⊎ IsNoJson bytes → HasAnswer bytes
by_json bytes (inl (d, json)) = by_rules bytes d json (broken_at rule.Shape d) (broken_at rule.Whole d) (broken_at rule.Limit d) refl refl refl
by_json bytes (inr none) = inr (NotJson, none, λ e. absurd cc)

pub has_answer : (bytes : List ℕ) → HasAnswer bytes
has_answer bytes = by_json bytes (json_or_not bytes)
