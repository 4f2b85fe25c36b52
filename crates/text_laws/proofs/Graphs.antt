-- The trains of a problem have one entry and one exit each by the reader's counts too.
use Rattle.std.proofs.Common.{◌≡◌, ℕ, zero, suc, ◌+◌, ◌<◌, ◌||◌, List, [], ◌∷◌, length, get_or, not, Bool, true, false, Some, None, refl, sym, ◌∙◌, subst, arith}
use Rattle.std.specs.Prelude.{nat_eq, ◌==◌, Contains, count_by, slice_get}
use Rattle.std.specs.List.{AllByRecursion, list_any, range_with_len}
use Rattle.std.proofs.lemmas.Bool.{eq-eqb, eqb-true}
use Rattle.std.proofs.lemmas.Option.{same_Some, none-some, slice_get_within, slice_get-get_or}
use Rattle.std.proofs.lemmas.List.Elements.{All-contains, All-from_recursion}
use Rattle.std.proofs.lemmas.List.FromFn.{length-range_with_len}
use Rattle.disp_model.specs.declared.train.Operation.{Operation}
use Rattle.disp_model.specs.Train.{next_of, IsSuccessor, IsEntry, IsExit}
use Rattle.disp_model.specs.WellFormed.{RefersInside, IsAcyclic}
use Rattle.disp_laws.proofs.Ends.{has_entry, has_exit}
use Rattle.train_graphs.specs.Graphs.{is_named, entry_count, exit_count, first_not_one, HasNoCycle, HaveGraphs}
use Rattle.train_graphs.proofs.Marks.{count_cons, range_at}

-- ---- a count of one

pub not_true : (b : Bool) → (b ≡ true → ⊥) → b ≡ false
not_true true none = absurd (none refl)
not_true false none = refl

count_zero : {A : Type 0} (p : A → Bool) (xs : List A) → ((i : ℕ) (x : A) → slice_get xs i ≡ Some x → p x ≡ true → ⊥) → count_by p xs ≡ 0
count_zero p [] none = refl
count_zero p (x ∷ xs) none =
    let here : p x ≡ false = not_true (p x) (none 0 x refl) in
    let rest : count_by p xs ≡ 0 = count_zero p xs (λ i y at is. none (suc i) y at is) in
    count_cons p x xs ∙ rw (here, rest) refl

-- where one place passes, and no other
count_is_one : {A : Type 0} (p : A → Bool) (xs : List A) (i : ℕ) (x : A) → slice_get xs i ≡ Some x → p x ≡ true → ((j : ℕ) (y : A) → slice_get xs j ≡ Some y → p y ≡ true → j ≡ i) → count_by p xs ≡ 1
count_is_one p [] i x at is one = absurd (none-some x at)
count_is_one p (z ∷ zs) zero x at is one =
    let here : p z ≡ true = subst (λ w. p w ≡ true) (sym (same_Some z x at)) is in
    let rest : count_by p zs ≡ 0 = count_zero p zs (λ j y there passes. let same : suc j ≡ 0 = one (suc j) y there passes in omega (arith, same)) in
    count_cons p z zs ∙ rw (here, rest) refl
count_is_one p (z ∷ zs) (suc i) x at is one =
    let here : p z ≡ false = not_true (p z) (λ passes. let same : 0 ≡ suc i = one 0 z refl passes in omega (arith, same)) in
    let rest : count_by p zs ≡ 1 = count_is_one p zs i x at is (λ j y there passes. let same : suc j ≡ suc i = one (suc j) y there passes in omega (arith, same)) in
    count_cons p z zs ∙ rw (here, rest) refl

-- ---- entries

or_true : (b : Bool) → (b || true) ≡ true
or_true true = refl
or_true false = refl

contained_is_any : (o : ℕ) (xs : List ℕ) → Contains xs o → list_any (nat_eq o) xs ≡ true
contained_is_any o [] (k, lt, e) = absurd (omega (arith, lt))
contained_is_any o (x ∷ xs) (zero, lt, e) = let here : nat_eq o x ≡ true = eq-eqb o x (sym e) in rw here refl
contained_is_any o (x ∷ xs) (suc k, lt, e) = let rest : list_any (nat_eq o) xs ≡ true = contained_is_any o xs (k, omega (arith, lt), e) in rw rest (or_true (nat_eq o x))

successor_is_named : (train : List Operation) (p o : ℕ) → IsSuccessor train p o → is_named train o ≡ true
successor_is_named [] p o (k, lt, e) = absurd (omega (arith, lt))
successor_is_named (q ∷ train) zero o next = let here : list_any (nat_eq o) q.next ≡ true = contained_is_any o q.next next in rw here refl
successor_is_named (q ∷ train) (suc p) o next = let rest : is_named train o ≡ true = successor_is_named train p o next in rw rest (or_true (list_any (nat_eq o) q.next))

any_is_contained : (o : ℕ) (xs : List ℕ) → list_any (nat_eq o) xs ≡ true → Contains xs o
any_is_contained o [] e = absurd cc
any_is_contained o (x ∷ xs) e = by (nat_eq o x) refl (any_is_contained o xs)
  where
    by : (b : Bool) → nat_eq o x ≡ b → (list_any (nat_eq o) xs ≡ true → Contains xs o) → Contains (x ∷ xs) o
    by true is rest = (0, omega arith, sym (eqb-true o x is))
    by false is rest = let r = rest (rw is at e) in (suc r.0, omega (arith, r.1), r.2)

named_comes_after : (train : List Operation) (o : ℕ) → is_named train o ≡ true → (p : ℕ) × IsSuccessor train p o
named_comes_after [] o e = absurd cc
named_comes_after (p ∷ train) o e = by (list_any (nat_eq o) p.next) refl (named_comes_after train o)
  where
    by : (b : Bool) → list_any (nat_eq o) p.next ≡ b → (is_named train o ≡ true → (q : ℕ) × IsSuccessor train q o) → (q : ℕ) × IsSuccessor (p ∷ train) q o
    by true is rest = (0, any_is_contained o p.next is)
    by false is rest = let r = rest (rw is at e) in (suc r.0, r.1)

not_not : (b : Bool) → not b ≡ true → b ≡ false
not_not true e = absurd cc
not_not false e = refl

one_entry : (train : List Operation) (o : ℕ) → IsEntry train o → ((p : ℕ) → IsEntry train p → p ≡ o) → entry_count train ≡ 1
one_entry train o entry one =
    count_is_one (λ p. not (is_named train p)) (range_with_len 0 (length train)) o (0 + o) (range_at 0 (length train) o entry.there) (unnamed (0 + o) (omega arith)) only
  where
    unnamed : (p : ℕ) → p ≡ o → not (is_named train p) ≡ true
    unnamed p same =
        let none : is_named train p ≡ false = not_true (is_named train p) (λ named. let before = named_comes_after train p named in entry.first before.0 (subst (λ (q : ℕ). IsSuccessor train before.0 q) same before.1)) in
        rw none refl

    only : (j p : ℕ) → slice_get (range_with_len 0 (length train)) j ≡ Some p → not (is_named train p) ≡ true → j ≡ o
    only j p at passes =
        let within : j < length train = omega (arith, slice_get_within (range_with_len 0 (length train)) j p at, length-range_with_len 0 (length train)) in
        let same : 0 + j ≡ p = same_Some (0 + j) p (sym (range_at 0 (length train) j within) ∙ at) in
        let is : IsEntry train p = record { there = omega (arith, within, same); first = λ q next. let named = successor_is_named train q p next in let none : is_named train p ≡ false = not_not (is_named train p) passes in (let f : true ≡ false = sym named ∙ none in absurd cc) } in
        omega (arith, same, one p is)

-- ---- exits

no_more : (xs : List ℕ) → (length xs == 0) ≡ true → xs ≡ []
no_more [] e = refl
no_more (x ∷ xs) e = absurd (let none : length (x ∷ xs) ≡ 0 = eqb-true (length (x ∷ xs)) 0 e in omega (arith, none))

next_at : (train : List Operation) (o : ℕ) (p : Operation) → slice_get train o ≡ Some p → next_of train o ≡ p.next
next_at train o p at = rw at refl

nothing : Operation
nothing = record { lower = 0; upper = None; min = 0; listings = []; next = [] }

one_exit : (train : List Operation) (o : ℕ) → IsExit train o → ((p : ℕ) → IsExit train p → p ≡ o) → exit_count train ≡ 1
one_exit train o exit one =
    let p = get_or train o nothing in
    let at : slice_get train o ≡ Some p = slice_get-get_or train o nothing exit.there in
    let none : p.next ≡ [] = sym (next_at train o p at) ∙ exit.last in
    count_is_one (λ q. length q.next == 0) train o p at (rw none refl) (λ j q there passes. one j (record { there = slice_get_within train j q there; last = next_at train j q there ∙ no_more q.next passes }))

-- ---- trains

stays : (count resources : ℕ) (train : List Operation) (o s : ℕ) → AllByRecursion (RefersInside count resources) train → IsSuccessor train o s → s < count
stays count resources [] o s each (k, lt, e) = absurd (omega (arith, lt))
stays count resources (p ∷ train) zero s each next = All-contains (λ (n : ℕ). n < count) p.next s each.0.next next
stays count resources (p ∷ train) (suc o) s each next = stays count resources train o s each.1 next

-- a train that is acyclic, and whose operations refer to what is there
pub record IsSound (resources : ℕ) (train : List Operation) : Type 0 where
  pub acyclic : IsAcyclic train
  pub refers : AllByRecursion (RefersInside (length train) resources) train

entry_once : (resources : ℕ) (train : List Operation) → IsSound resources train → entry_count train ≡ 1
entry_once resources train sound =
    let found = has_entry train sound.acyclic (λ o s next. stays (length train) resources train o s sound.refers next) in
    one_entry train found.0 found.1 (λ p entry. sound.acyclic.one_entry p found.0 entry found.1)

exit_once : (resources : ℕ) (train : List Operation) → IsSound resources train → exit_count train ≡ 1
exit_once resources train sound =
    let found = has_exit train sound.acyclic (λ o s next. stays (length train) resources train o s sound.refers next) in
    one_exit train found.0 found.1 (λ p exit. sound.acyclic.one_exit p found.0 exit found.1)

all_one : (count : List Operation → ℕ) (t : ℕ) (trains : List (List Operation)) → AllByRecursion (λ train. count train ≡ 1) trains → first_not_one count t trains ≡ None
all_one count t [] all = refl
all_one count t (train ∷ trains) all = let here : (count train == 1) ≡ true = eq-eqb (count train) 1 all.0 in rw here (all_one count (t + 1) trains all.1)

each_sound : (resources : ℕ) (P : List Operation → Type 0) (trains : List (List Operation)) → ((train : List Operation) → IsSound resources train → P train) → AllByRecursion (IsSound resources) trains → AllByRecursion P trains
each_sound resources P [] of all = tt
each_sound resources P (train ∷ trains) of all = (of train all.0, each_sound resources P trains of all.1)

pub have_graphs : (resources : ℕ) (trains : List (List Operation)) → AllByRecursion (IsSound resources) trains → HaveGraphs trains
have_graphs resources trains all = record {
  entries = all_one entry_count 0 trains (each_sound resources (λ train. entry_count train ≡ 1) trains (entry_once resources) all);
  exits = all_one exit_count 0 trains (each_sound resources (λ train. exit_count train ≡ 1) trains (exit_once resources) all);
  no_cycle = All-from_recursion HasNoCycle trains (each_sound resources HasNoCycle trains (λ train sound o on. sound.acyclic.no_cycle on.0 o on.1) all);
}
