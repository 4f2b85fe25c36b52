-- A walk that names only where it enters and leaves trains is one, as long, with the same end.
use Rattle.std.proofs.Common.{◌≡◌, ℕ, List, [], ◌∷◌, ◌++◌, Bool, true, false, Option, Some, None, refl, sym, ap, subst, ◌∙◌, append_assoc}
use Rattle.std.specs.Prelude.{nat_eq, not, ◌&&◌, if◌then◌else◌}
use Rattle.std.proofs.lemmas.Bool.{eqb-true, eq-eqb, false≢true}
use Rattle.disp_model.specs.declared.train.Op.{Op}
use Rattle.disp_model.specs.Node.{Node}
use Rattle.disp_model.specs.Walks.{IsWalk, EndsIn}
use Rattle.disp_laws.proofs.Composed.{walk_skips}
use Rattle.cost_bound.specs.Shortened.{is_end, ends_from, ends_of, NamesEnds}

-- ---- an operation that is kept, or not

choose : (P : List Op → Type 0) (kept : Bool) (o : Op) (rest : List Op) → (kept ≡ true → P (o ∷ rest)) → (kept ≡ false → P rest) → P (if kept then o ∷ rest else rest)
choose P true o rest with_it without = with_it refl
choose P false o rest with_it without = without refl

both_true : (x y : Bool) → not (x && y) ≡ false → (x ≡ true) × (y ≡ true)
both_true true true is = (refl, refl)
both_true true false is = absurd (false≢true (sym is))
both_true false y is = absurd (false≢true (sym is))

same_trains : (before o next : Op) → is_end (Some before) o (Some next) ≡ false → (before.train ≡ o.train) × (o.train ≡ next.train)
same_trains before o next is =
    let both = both_true (nat_eq before.train o.train) (nat_eq o.train next.train) is in
    (eqb-true before.train o.train both.0, eqb-true o.train next.train both.1)

not_same : (before o next : Op) → is_end (Some before) o (Some next) ≡ true → before.train ≡ o.train → o.train ≡ next.train → ⊥
not_same before o next is one other =
    let no : is_end (Some before) o (Some next) ≡ false = rw (eq-eqb before.train o.train one, eq-eqb o.train next.train other) refl in
    false≢true (sym no ∙ is)

-- ---- the walk

walk_from : (node : Node) (front : List Op) (kept before : Op) (rest : List Op) (total : ℕ) → kept.train ≡ before.train → IsWalk node (front ++ kept ∷ rest) total → IsWalk node (front ++ kept ∷ ends_from (Some before) rest) total
walk_from node front kept before [] total same is = is
walk_from node front kept before (o ∷ []) total same is = is
walk_from node front kept before (o ∷ next ∷ rest) total same is =
    choose (λ l. IsWalk node (front ++ kept ∷ l) total) (is_end (Some before) o (Some next)) o (ends_from (Some o) (next ∷ rest))
    (λ end. subst (λ (l : List Op). IsWalk node l total) (append_assoc front (kept ∷ []) (o ∷ ends_from (Some o) (next ∷ rest)))
    (walk_from node (front ++ kept ∷ []) o o (next ∷ rest) total refl (subst (λ (l : List Op). IsWalk node l total) (sym (append_assoc front (kept ∷ []) (o ∷ next ∷ rest))) is)))
    (λ inner. let trains = same_trains before o next inner in walk_from node front kept o (next ∷ rest) total (same ∙ trains.0) (walk_skips node front kept o next rest total (same ∙ trains.0) trains.1 is))

pub ends_walk : (node : Node) (walk : List Op) (total : ℕ) → IsWalk node walk total → IsWalk node (ends_of walk) total
ends_walk node [] total is = is
ends_walk node (o ∷ rest) total is = walk_from node [] o o rest total refl is

-- ---- its end

-- the last operation of a walk
abbrev pub IsLast : List Op → Op → Type 0
IsLast [] o = ⊥
IsLast (u ∷ []) o = u ≡ o
IsLast (u ∷ v ∷ rest) o = IsLast (v ∷ rest) o

last_more : (u : Op) (walk : List Op) (o : Op) → IsLast walk o → IsLast (u ∷ walk) o
last_more u [] o last = absurd last
last_more u (v ∷ walk) o last = last

pub ends_in : (walk : List Op) (o : Op) → IsLast walk o → EndsIn walk o
ends_in [] o last = absurd last
ends_in (u ∷ []) o last = ([], ap (λ (x : Op). x ∷ []) last)
ends_in (u ∷ v ∷ rest) o last = let later = ends_in (v ∷ rest) o last in (u ∷ later.0, ap (λ (l : List Op). u ∷ l) later.1)

last_from : (before : Option Op) (walk : List Op) (o : Op) → IsLast walk o → IsLast (ends_from before walk) o
last_from before [] o last = absurd last
last_from None (u ∷ []) o last = last
last_from (Some before) (u ∷ []) o last = last
last_from before (u ∷ v ∷ rest) o last =
    choose (λ l. IsLast l o) (is_end before u (Some v)) u (ends_from (Some u) (v ∷ rest)) (λ end. last_more u (ends_from (Some u) (v ∷ rest)) o (last_from (Some u) (v ∷ rest) o last)) (λ inner. last_from (Some u) (v ∷ rest) o last)

pub ends_last : (walk : List Op) (o : Op) → IsLast walk o → IsLast (ends_of walk) o
ends_last walk o last = last_from None walk o last

-- ---- what it names

-- it begins with an operation of the train
record BeginsOn (train : ℕ) (walk : List Op) : Type 0 where
  pub first : Op
  pub rest : List Op
  pub is : walk ≡ first ∷ rest
  pub train_is : first.train ≡ train

begins_on : (before o : Op) (rest : List Op) → BeginsOn o.train (ends_from (Some before) (o ∷ rest))
begins_on before o [] = record { first = o; rest = []; is = refl; train_is = refl }
begins_on before o (next ∷ rest) =
    choose (BeginsOn o.train) (is_end (Some before) o (Some next)) o (ends_from (Some o) (next ∷ rest)) (λ end. record { first = o; rest = ends_from (Some o) (next ∷ rest); is = refl; train_is = refl })
    (λ inner. let later = begins_on o next rest in record { first = later.first; rest = later.rest; is = later.is; train_is = later.train_is ∙ sym (same_trains before o next inner).1 })

named_from : (kept before : Op) (rest : List Op) → kept.train ≡ before.train → NamesEnds (kept ∷ ends_from (Some before) rest)
named_from kept before [] same = tt
named_from kept before (o ∷ []) same = tt
named_from kept before (o ∷ next ∷ rest) same =
    choose (λ l. NamesEnds (kept ∷ l)) (is_end (Some before) o (Some next)) o (ends_from (Some o) (next ∷ rest)) (λ end. behind end (begins_on o next rest) (named_from o o (next ∷ rest) refl))
    (λ inner. named_from kept o (next ∷ rest) (same ∙ (same_trains before o next inner).0))
  where
    behind : is_end (Some before) o (Some next) ≡ true → BeginsOn next.train (ends_from (Some o) (next ∷ rest)) → NamesEnds (o ∷ ends_from (Some o) (next ∷ rest)) → NamesEnds (kept ∷ o ∷ ends_from (Some o) (next ∷ rest))
    behind end begins later =
        let own : NamesEnds (o ∷ begins.first ∷ begins.rest) = subst (λ (l : List Op). NamesEnds (o ∷ l)) begins.is later in
        subst (λ (l : List Op). NamesEnds (kept ∷ o ∷ l)) (sym begins.is) (λ one other. not_same before o next end (sym same ∙ one) (other ∙ begins.train_is), own)

pub ends_named : (walk : List Op) → NamesEnds (ends_of walk)
ends_named [] = tt
ends_named (o ∷ rest) = named_from o o rest refl
