-- Each text has one answer, beside want of memory.
use Rattle.std.proofs.Common.{◌≡◌, ◌⊎◌, ℕ, ◌<◌, ◌≤◌, List, Option, Some, None, refl, sym, ap, subst, ◌∙◌, inl, inr, arith}
use Rattle.std.specs.Prelude.{All, codes}
use Rattle.std.proofs.lemmas.Option.{same_Some}
use Rattle.serde_json.specs.Data.{Data}
use Rattle.displib_reader.specs.declared.fault.ProblemNo.{ProblemNo}
use Rattle.displib_reader.specs.declared.fault.ProblemNo.TheVariants.{NotJson, Shape, NotWhole, TooLarge, TooMany, BadIndex, NotOneEntry, NotOneExit, Loop, UnknownObjective, TooCostly, Memory}
use Rattle.json_claims.specs.declared.rule.Rule.TheVariants as rule
use Rattle.disp_model.specs.declared.problem.Problem.{Problem}
use Rattle.disp_model.specs.declared.train.Operation.{Operation}
use Rattle.disp_model.specs.declared.train.Component.{Component}
use Rattle.disp_model.specs.declared.limits.TheConstants.{GREATEST_COST}
use Rattle.json_claims.proofs.OneAnswer.{same_value, At, same_at, AtPlaces, same_at_places, Agree, Cases, chain_agrees, chain_refuses_none, refusals_agree as texts_agree, kept_is_not_refused}
use Rattle.displib_reader.specs.Claims.{problem_claims}
use Rattle.json_claims.specs.Field.{members_at}
use Rattle.displib_reader.specs.Counts.{too_many}
use Rattle.train_graphs.specs.Graphs.{entry_count, exit_count, first_not_one, HasNoCycle, IsFirstLoop}
use Rattle.train_graphs.specs.Costs.{greatest_sum}
use Rattle.train_graphs.proofs.FirstLoops.{first_loops_agree, loop_is_cycle}
use Rattle.displib_reader.specs.Types.{first_unknown}
use Rattle.displib_reader.specs.ProblemOf.{trains_of, components_of, IsProblemOf}
use Rattle.displib_reader.specs.Outcome.{broken_at, IsLinked, KeepsRules, Breaks, IsReadAs, IsRefused}

-- ---- the rules in their order, as one chain

abbrev Cheap : List (List Operation) → List Component → Option ProblemNo → Type 0
Cheap trains components answer =
    ((GREATEST_COST < greatest_sum trains components) × (answer ≡ Some (TooCostly (greatest_sum trains components)))) ⊎ ((greatest_sum trains components ≤ GREATEST_COST) × (answer ≡ None))

abbrev Priced : Data → List (List Operation) → Option ProblemNo → Type 0
Priced d trains answer = (components : List Component) × (components_of d ≡ Some components) × Cheap trains components answer

abbrev Typed : Data → List (List Operation) → Option ProblemNo → Type 0
Typed d trains answer = At (first_unknown 0 (members_at (codes "objective") d)) UnknownObjective (Priced d trains answer) answer

abbrev Looped : List (List Operation) → Option ProblemNo → Type 0
Looped trains answer = (t : ℕ) × (o : ℕ) × IsFirstLoop trains t o × (answer ≡ Some (Loop t o))

abbrev Straight : Data → List (List Operation) → Option ProblemNo → Type 0
Straight d trains answer = Looped trains answer ⊎ (All HasNoCycle trains × Typed d trains answer)

abbrev Linked : Data → List (List Operation) → Option ProblemNo → Type 0
Linked d trains answer =
    At (first_not_one entry_count 0 trains) (λ p. NotOneEntry p.0 p.1) (At (first_not_one exit_count 0 trains) (λ p. NotOneExit p.0 p.1) (Straight d trains answer) answer) answer

abbrev Graphed : Data → Option ProblemNo → Type 0
Graphed d answer = (trains : List (List Operation)) × (trains_of d ≡ Some trains) × Linked d trains answer

abbrev Counted : Data → Option ProblemNo → Type 0
Counted d answer = At (too_many d) (λ p. TooMany p.0 p.1) (At (broken_at rule.Index d) BadIndex (Graphed d answer) answer) answer

abbrev Chain : Data → Option ProblemNo → Type 0
Chain d answer = AtPlaces (problem_claims d) Shape NotWhole TooLarge (Counted d answer) answer

-- ---- one answer

same_cheap : (trains : List (List Operation)) (components : List Component) (a b : Option ProblemNo) → Cheap trains components a → Cheap trains components b → a ≡ b
same_cheap trains components a b (inl (x, p)) (inl (y, q)) = p ∙ sym q
same_cheap trains components a b (inl (x, p)) (inr (y, q)) = absurd (omega (arith, x, y))
same_cheap trains components a b (inr (x, p)) (inl (y, q)) = absurd (omega (arith, x, y))
same_cheap trains components a b (inr (x, p)) (inr (y, q)) = p ∙ sym q

same_priced : (d : Data) (trains : List (List Operation)) (a b : Option ProblemNo) → Priced d trains a → Priced d trains b → a ≡ b
same_priced d trains a b (cs, e, p) (ds, f, q) = same_cheap trains ds a b (subst (λ l. Cheap trains l a) (same_Some cs ds (sym e ∙ f)) p) q

same_straight : (d : Data) (trains : List (List Operation)) (a b : Option ProblemNo) → Straight d trains a → Straight d trains b → a ≡ b
same_straight d trains a b (inl (t, o, x, p)) (inl (t', o', y, q)) =
    let same = first_loops_agree trains t o t' o' x y in
    p ∙ ap (λ n. Some (Loop n o)) same.0 ∙ ap (λ n. Some (Loop t' n)) same.1 ∙ sym q
same_straight d trains a b (inl (t, o, x, p)) (inr (none, q)) = absurd (loop_is_cycle trains t o x none)
same_straight d trains a b (inr (none, p)) (inl (t, o, y, q)) = absurd (loop_is_cycle trains t o y none)
same_straight d trains a b (inr (none, p)) (inr (none', q)) =
    same_at (first_unknown 0 (members_at (codes "objective") d)) UnknownObjective (Priced d trains a) (Priced d trains b) a b p q (same_priced d trains a b)

same_linked : (d : Data) (trains : List (List Operation)) (a b : Option ProblemNo) → Linked d trains a → Linked d trains b → a ≡ b
same_linked d trains a b p q =
    same_at (first_not_one entry_count 0 trains) (λ x. NotOneEntry x.0 x.1) _ _ a b p q
    (λ p' q'. same_at (first_not_one exit_count 0 trains) (λ x. NotOneExit x.0 x.1) (Straight d trains a) (Straight d trains b) a b p' q' (same_straight d trains a b))

same_graphed : (d : Data) (a b : Option ProblemNo) → Graphed d a → Graphed d b → a ≡ b
same_graphed d a b (ts, e, p) (us, f, q) = same_linked d us a b (subst (λ l. Linked d l a) (same_Some ts us (sym e ∙ f)) p) q

same_counted : (d : Data) (a b : Option ProblemNo) → Counted d a → Counted d b → a ≡ b
same_counted d a b p q =
    same_at (too_many d) (λ x. TooMany x.0 x.1) _ _ a b p q (λ p' q'. same_at (broken_at rule.Index d) BadIndex (Graphed d a) (Graphed d b) a b p' q' (same_graphed d a b))

same_chain : (d : Data) (a b : Option ProblemNo) → Chain d a → Chain d b → a ≡ b
same_chain d a b p q = same_at_places (problem_claims d) Shape NotWhole TooLarge (Counted d a) (Counted d b) a b p q (same_counted d a b)

-- ---- each answer is that of the chain

linked_chain : (d : Data) (answer : Option ProblemNo) → IsLinked d → Graphed d answer → Chain d answer
linked_chain d answer linked graphed = rw (linked.plain.shape, linked.plain.whole, linked.plain.limit, linked.few, linked.index) graphed

breaks_chain : (d : Data) (why : ProblemNo) → Breaks d why → (why ≡ Memory) ⊎ Chain d (Some why)
breaks_chain d NotJson h = absurd h
breaks_chain d (Shape place) h = inr (rw h refl)
breaks_chain d (NotWhole place) h = inr (rw (h.0, h.1) refl)
breaks_chain d (TooLarge place) h = inr (rw (h.0, h.1, h.2) refl)
breaks_chain d (TooMany kind count) h = inr (rw (h.0.shape, h.0.whole, h.0.limit, h.1) refl)
breaks_chain d (BadIndex place) h = inr (rw (h.0.shape, h.0.whole, h.0.limit, h.1, h.2) refl)
breaks_chain d (NotOneEntry t count) h = inr (linked_chain d (Some (NotOneEntry t count)) h.has_trains.linked (h.trains, h.has_trains.trains_are, rw h.broken refl))
breaks_chain d (NotOneExit t count) h = inr (linked_chain d (Some (NotOneExit t count)) h.has_trains.linked (h.trains, h.has_trains.trains_are, rw (h.broken.0, h.broken.1) refl))
breaks_chain d (Loop t o) h = inr (linked_chain d (Some (Loop t o)) h.has_trains.linked (h.trains, h.has_trains.trains_are, rw (h.broken.0, h.broken.1) (inl (t, o, h.broken.2, refl))))
breaks_chain d (UnknownObjective c) h =
    inr (linked_chain d (Some (UnknownObjective c)) h.has_trains.linked (h.trains, h.has_trains.trains_are, rw (h.graphs.entries, h.graphs.exits) (inr (h.graphs.no_cycle, rw h.unknown refl))))
breaks_chain d (TooCostly sum) h =
    let cheap : Cheap h.trains h.components (Some (TooCostly sum)) = inl (omega (arith, h.sum_is, h.above), ap (λ n. Some (TooCostly n)) (sym h.sum_is)) in
    inr (linked_chain d (Some (TooCostly sum)) h.has_trains.linked
    (h.trains, h.has_trains.trains_are, rw (h.graphs.entries, h.graphs.exits) (inr (h.graphs.no_cycle, rw h.has_components.types (h.components, h.has_components.components_are, cheap)))))
breaks_chain d Memory h = inl refl

keeps_chain : (d : Data) (trains : List (List Operation)) (components : List Component) → KeepsRules d trains components → Chain d None
keeps_chain d trains components h =
    linked_chain d None h.has_trains.linked
    (trains, h.has_trains.trains_are, rw (h.graphs.entries, h.graphs.exits) (inr (h.graphs.no_cycle, rw h.has_components.types (components, h.has_components.components_are, inr (h.cheap, refl)))))

-- ---- the answers exclude each other

refused_cases : (bytes : List ℕ) (why : ProblemNo) → IsRefused bytes why → Cases Breaks Memory NotJson bytes why
refused_cases bytes NotJson h = inl (refl, h)
refused_cases bytes (Shape place) h = inr (inr h)
refused_cases bytes (NotWhole place) h = inr (inr h)
refused_cases bytes (TooLarge place) h = inr (inr h)
refused_cases bytes (TooMany kind count) h = inr (inr h)
refused_cases bytes (BadIndex place) h = inr (inr h)
refused_cases bytes (NotOneEntry t count) h = inr (inr h)
refused_cases bytes (NotOneExit t count) h = inr (inr h)
refused_cases bytes (Loop t o) h = inr (inr h)
refused_cases bytes (UnknownObjective c) h = inr (inr h)
refused_cases bytes (TooCostly sum) h = inr (inr h)
refused_cases bytes Memory h = inr (inl refl)

-- two refusals of a text are one, but for want of memory
pub refusals_agree : (bytes : List ℕ) (why other : ProblemNo) → IsRefused bytes why → IsRefused bytes other → Agree Memory why other
refusals_agree bytes why other a b =
    texts_agree Breaks Memory NotJson why other bytes (λ d p q. chain_agrees Memory why other (Chain d) (same_chain d) (breaks_chain d why p) (breaks_chain d other q)) (refused_cases bytes why a) (refused_cases bytes other b)

-- a text of which a problem was read is not refused, but for want of memory
pub read_is_not_refused : (bytes : List ℕ) (problem : Problem) (why : ProblemNo) → IsReadAs bytes problem → IsRefused bytes why → why ≡ Memory
read_is_not_refused bytes problem why a b =
    kept_is_not_refused Breaks Memory NotJson why bytes a.value a.json
    (λ h. chain_refuses_none Memory why (Chain a.value) (same_chain a.value) (keeps_chain a.value problem.trains problem.components a.keeps) (breaks_chain a.value why h)) (refused_cases bytes why b)

-- one problem is read of a text
pub problems_agree : (bytes : List ℕ) (problem other : Problem) → IsReadAs bytes problem → IsReadAs bytes other → (problem.trains ≡ other.trains) × (problem.components ≡ other.components) × (problem.names ≡ other.names)
problems_agree bytes problem other a b =
    let is : IsProblemOf b.value problem = subst (λ d. IsProblemOf d problem) (same_value bytes a.value b.value a.json b.json) a.problem_is in
    (same_Some problem.trains other.trains (sym is.trains ∙ b.problem_is.trains), same_Some problem.components other.components (sym is.components ∙ b.problem_is.components), sym is.names ∙ b.problem_is.names)
