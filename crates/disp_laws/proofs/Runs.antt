-- A plan and the runs of its trains: an event ends where the next one of its run starts.
use Rattle.std.proofs.Common.{◌≡◌, ℕ, zero, suc, ◌+◌, ◌≤◌, List, [], ◌∷◌, ◌++◌, length, take, drop, Some, Bool, true, false, cond, refl, sym, ap, subst, ◌∙◌, arith, append_assoc}
use Rattle.std.specs.Prelude.{nat_eq, slice_get, slice_index_or}
use Rattle.std.proofs.lemmas.Bool.{eq-eqb, eqb-true}
use Rattle.std.proofs.lemmas.Option.{none-some, same_Some}
use Rattle.std.proofs.lemmas.List.Elements.{filter-append}
use Rattle.disp_model.specs.declared.plan.Event.{Event}
use Rattle.disp_model.specs.declared.train.Operation.{Operation}
use Rattle.disp_model.specs.Train.{duration_of}
use Rattle.disp_model.specs.Plan.{run_of, first_of, ending, end_of}

-- when an event ends, by what its train runs after it
abbrev pub next_time : List Operation → Event → List Event → ℕ
next_time train e [] = e.time + duration_of train e.operation
next_time train e (f ∷ run) = f.time

ending_time_at : (train : List Operation) (i : ℕ) (e : Event) (t from : ℕ) (g : Event) (rest : List Event) (b : Bool) → nat_eq g.train t ≡ b
    → ((from : ℕ) → (ending train i e (first_of t from rest)).time ≡ next_time train e (run_of t rest))
    → (ending train i e (cond b (Some (from, g)) (first_of t (from + 1) rest))).time ≡ next_time train e (cond b (g ∷ run_of t rest) (run_of t rest))
ending_time_at train i e t from g rest true is later = refl
ending_time_at train i e t from g rest false is later = later (from + 1)

-- an event ends where the next one of its train starts
pub ending_time : (train : List Operation) (i : ℕ) (e : Event) (t from : ℕ) (rest : List Event) → (ending train i e (first_of t from rest)).time ≡ next_time train e (run_of t rest)
ending_time train i e t from [] = refl
ending_time train i e t from (g ∷ rest) = ending_time_at train i e t from g rest (nat_eq g.train t) refl (λ f. ending_time train i e t f rest)

-- each event of a run lasts until the next one starts
abbrev pub Spaced : List Operation → List Event → Type 0
Spaced train [] = Unit {0}
Spaced train (e ∷ []) = Unit {0}
Spaced train (e ∷ f ∷ run) = (e.time + duration_of train e.operation ≤ f.time) × Spaced train (f ∷ run)

Spaced-tail : (train : List Operation) (e : Event) (run : List Event) → Spaced train (e ∷ run) → Spaced train run
Spaced-tail train e [] h = tt
Spaced-tail train e (f ∷ run) h = h.1

pub Spaced-suffix : (train : List Operation) (before after : List Event) → Spaced train (before ++ after) → Spaced train after
Spaced-suffix train [] after h = h
Spaced-suffix train (e ∷ before) after h = Spaced-suffix train before after (Spaced-tail train e (before ++ after) h)

-- an event of a spaced run lasts as long as its operation
spaced_lasts : (train : List Operation) (e : Event) (run : List Event) → Spaced train (e ∷ run) → e.time + duration_of train e.operation ≤ next_time train e run
spaced_lasts train e [] h = omega arith
spaced_lasts train e (f ∷ run) h = h.0

-- a list around the element at an index
pub split_at : (plan : List Event) (i : ℕ) (e : Event) → slice_get plan i ≡ Some e → plan ≡ take i plan ++ e ∷ drop (i + 1) plan
split_at [] i e h = absurd (none-some e h)
split_at (g ∷ plan) zero e h = let same : g ≡ e = same_Some g e h in ap (λ (x : Event). x ∷ plan) same
split_at (g ∷ plan) (suc i) e h =
    let more : suc i + 1 ≡ suc (i + 1) = omega arith in
    rw more (ap (λ (xs : List Event). g ∷ xs) (split_at plan i e h))

-- what the plan says of each event's end: it comes after the duration
abbrev pub Lasts : List (List Operation) → List Event → Type 0
Lasts trains plan = (i : ℕ) (e : Event) → slice_get plan i ≡ Some e
    → e.time + duration_of (slice_index_or trains e.train []) e.operation ≤ (end_of trains plan i e).time

own_first : (e : Event) (rest : List Event) → run_of e.train (e ∷ rest) ≡ e ∷ run_of e.train rest
own_first e rest = rw (eq-eqb e.train e.train refl) refl

-- where each train's run is spaced, each event lasts
pub lasts_from_runs : (trains : List (List Operation)) (plan : List Event) → ((t : ℕ) → Spaced (slice_index_or trains t []) (run_of t plan)) → Lasts trains plan
lasts_from_runs trains plan spaced i e at =
    let train = slice_index_or trains e.train [] in
    let rest = drop (i + 1) plan in
    let parts : run_of e.train plan ≡ run_of e.train (take i plan) ++ run_of e.train (e ∷ rest) =
    ap (run_of e.train) (split_at plan i e at) ∙ filter-append (λ g. nat_eq g.train e.train) (take i plan) (e ∷ rest) in
    let here : Spaced train (run_of e.train (e ∷ rest)) = Spaced-suffix train (run_of e.train (take i plan)) (run_of e.train (e ∷ rest)) (subst (Spaced train) parts (spaced e.train)) in
    rw (ending_time train i e e.train (i + 1) rest) (spaced_lasts train e (run_of e.train rest) (subst (Spaced train) (own_first e rest) here))

get_behind : (before : List Event) (e : Event) (rest : List Event) → slice_get (before ++ e ∷ rest) (length before) ≡ Some e
get_behind [] e rest = refl
get_behind (g ∷ before) e rest = get_behind before e rest

drop_behind : (before : List Event) (e : Event) (rest : List Event) → drop (length before + 1) (before ++ e ∷ rest) ≡ rest
drop_behind [] e rest = refl
drop_behind (g ∷ before) e rest =
    let more : suc (length before) + 1 ≡ suc (length before + 1) = omega arith in
    rw more (drop_behind before e rest)

spaced_more : (train : List Operation) (e : Event) (run : List Event) → e.time + duration_of train e.operation ≤ next_time train e run → Spaced train run → Spaced train (e ∷ run)
spaced_more train e [] h rest = tt
spaced_more train e (f ∷ run) h rest = (h, rest)

runs_at : (trains : List (List Operation)) (t : ℕ) (before : List Event) (e : Event) (rest : List Event) (b : Bool) → nat_eq e.train t ≡ b
    → Lasts trains (before ++ e ∷ rest) → Spaced (slice_index_or trains t []) (run_of t rest) → Spaced (slice_index_or trains t []) (cond b (e ∷ run_of t rest) (run_of t rest))
runs_at trains t before e rest false is lasts spaced = spaced
runs_at trains t before e rest true is lasts spaced =
    let same : e.train ≡ t = eqb-true e.train t is in
    let train = slice_index_or trains e.train [] in
    let ends : (end_of trains (before ++ e ∷ rest) (length before) e).time ≡ next_time train e (run_of e.train rest) =
    ap (λ (l : List Event). (ending train (length before) e (first_of e.train (length before + 1) l)).time) (drop_behind before e rest)
    ∙ ending_time train (length before) e e.train (length before + 1) rest in
    let lasting : e.time + duration_of train e.operation ≤ next_time train e (run_of e.train rest) = rw ends at (lasts (length before) e (get_behind before e rest)) in
    subst (λ (u : ℕ). Spaced (slice_index_or trains u []) (e ∷ run_of u rest)) same
    (spaced_more train e (run_of e.train rest) lasting (subst (λ (u : ℕ). Spaced (slice_index_or trains u []) (run_of u rest)) (sym same) spaced))

runs_from : (trains : List (List Operation)) (t : ℕ) (before rest : List Event) → Lasts trains (before ++ rest) → Spaced (slice_index_or trains t []) (run_of t rest)
runs_from trains t before [] lasts = tt
runs_from trains t before (e ∷ rest) lasts =
    let again : Lasts trains ((before ++ e ∷ []) ++ rest) = subst (Lasts trains) (sym (append_assoc before (e ∷ []) rest)) lasts in
    runs_at trains t before e rest (nat_eq e.train t) refl lasts (runs_from trains t (before ++ e ∷ []) rest again)

-- where each event lasts, each train's run is spaced
pub runs_are_spaced : (trains : List (List Operation)) (plan : List Event) (t : ℕ) → Lasts trains plan → Spaced (slice_index_or trains t []) (run_of t plan)
runs_are_spaced trains plan t lasts = runs_from trains t [] plan lasts
