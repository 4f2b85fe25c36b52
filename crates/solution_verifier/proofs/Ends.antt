-- The last of a list of events, and of the events of one train.
use Rattle.std.proofs.Common.{◌≡◌, ℕ, ◌+◌, ◌≤◌, List, [], ◌∷◌, ◌++◌, length, take, drop, Option, Some, None, refl, sym, ap, subst, ◌∙◌, arith}
use Rattle.std.specs.Prelude.{nat_eq, slice_get, IfSome}
use Rattle.std.proofs.lemmas.Bool.{eq-eqb}
use Rattle.std.proofs.lemmas.List.{drop_all, length_push, same_from_push}
use Rattle.std.proofs.lemmas.List.Elements.{filter-append}
use Rattle.disp_model.specs.declared.plan.Event.{Event}
use Rattle.disp_model.specs.Plan.{run_of}
use Rattle.disp_laws.proofs.Runs.{split_at}
use Rattle.solution_verifier.specs.Rules.{EndsWith}
use Rattle.solution_verifier.specs.Judged.{IsLast}

pub one_end : (xs : List Event) (c d : Event) → EndsWith xs c → EndsWith xs d → c ≡ d
one_end xs c d (front, at) (other, too) = (same_from_push front other c d (sym at ∙ too)).1

pub none_ends : (xs : List Event) (d : Event) → xs ≡ [] → EndsWith xs d → ⊥
none_ends xs d none (front, at) = let counted : length xs ≡ length front + 1 = ap length at ∙ length_push front d in omega (arith, counted, ap length none)

drop_last : (xs : List Event) (n : ℕ) → length xs ≤ n → drop n xs ≡ []
drop_last xs n h = drop_all n xs h

pub ends_at : (xs : List Event) (i : ℕ) (d : Event) → slice_get xs i ≡ Some d → length xs ≤ i + 1 → EndsWith xs d
ends_at xs i d at last = (take i xs, split_at xs i d at ∙ ap (λ (rest : List Event). take i xs ++ d ∷ rest) (drop_last xs (i + 1) last))

-- a fact of the last, where there is one, is a fact of each that is last
pub of_each_end : (P : Event → Type 0) (xs : List Event) (found : Option Event) → IsLast xs found → IfSome found P → (d : Event) → EndsWith xs d → P d
of_each_end P xs None none h d ends = absurd (none_ends xs d none ends)
of_each_end P xs (Some c) last h d ends = subst P (one_end xs c d last ends) h

pub of_the_end : (P : Event → Type 0) (xs : List Event) (found : Option Event) → IsLast xs found → ((d : Event) → EndsWith xs d → P d) → IfSome found P
of_the_end P xs None none h = tt
of_the_end P xs (Some c) last h = h c last

-- the run of a train around an event of it
pub run_split : (t : ℕ) (plan : List Event) (i : ℕ) (e : Event) → slice_get plan i ≡ Some e → e.train ≡ t → run_of t plan ≡ run_of t (take i plan) ++ e ∷ run_of t (drop (i + 1) plan)
run_split t plan i e at same =
    ap (run_of t) (split_at plan i e at) ∙ filter-append (λ g. nat_eq g.train t) (take i plan) (e ∷ drop (i + 1) plan)
    ∙ ap (λ (l : List Event). run_of t (take i plan) ++ l) (own_run t e (drop (i + 1) plan) same)
  where
    own_run : (t : ℕ) (e : Event) (rest : List Event) → e.train ≡ t → run_of t (e ∷ rest) ≡ e ∷ run_of t rest
    own_run t e rest same = rw (same, eq-eqb t t refl) refl

pub run_ends_at : (t : ℕ) (plan : List Event) (i : ℕ) (e : Event) → slice_get plan i ≡ Some e → e.train ≡ t → run_of t (drop (i + 1) plan) ≡ [] → EndsWith (run_of t plan) e
run_ends_at t plan i e at same none = (run_of t (take i plan), run_split t plan i e at same ∙ ap (λ (l : List Event). run_of t (take i plan) ++ e ∷ l) none)
