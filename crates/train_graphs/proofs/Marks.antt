-- Entries, exits and marks, counted.
use Rattle.std.proofs.Common.{◌≡◌, ℕ, zero, suc, ◌+◌, ◌<◌, List, [], ◌∷◌, ◌++◌, length, get_or, take, Option, Some, None, Bool, true, false, not, cond, refl, sym, ap, subst, ◌∙◌, arith, replicate, append-nil, append_assoc}
use Rattle.std.specs.Prelude.{nat_eq, slice_get, slice_set, count_by, Contains, ◌||◌}
use Rattle.std.specs.List.{list_any, flat_map, range_with_len}
use Rattle.std.proofs.lemmas.Bool.{eq-eqb, eqb-true, false≢true}
use Rattle.std.proofs.lemmas.List.{length-set, length-replicate, get_or-set_same, get_or-set_other, get_or-replicate}
use Rattle.std.proofs.lemmas.List.Folds.{list_any-append}
use Rattle.std.proofs.Common.{set}
use Rattle.std.proofs.lemmas.Option.{same_Some, none-some, slice_get-get_or}
use Rattle.std.proofs.lemmas.List.Sums.{sum_by-cons}
use Rattle.disp_model.specs.declared.train.Operation.{Operation}
use Rattle.disp_model.specs.Train.{IsSuccessor, IsEntry, IsExit}
use Rattle.train_graphs.specs.Graphs.{is_named, entry_count, exit_count, marked_all}

-- ---- a count of one

pub count_cons : {A : Type 0} (p : A → Bool) (x : A) (xs : List A) → count_by p (x ∷ xs) ≡ cond (p x) 1 0 + count_by p xs
count_cons p x xs = sum_by-cons (λ y. cond (p y) 1 0) x xs

count_none : {A : Type 0} (p : A → Bool) (xs : List A) → count_by p xs ≡ 0 → (i : ℕ) (x : A) → slice_get xs i ≡ Some x → p x ≡ true → ⊥
count_none p [] zeroes i x at is = none-some x at
count_none {A} p (y ∷ ys) zeroes i x at is = by (p y) refl (count_none p ys)
  where
    by : (b : Bool) → p y ≡ b → (count_by p ys ≡ 0 → (j : ℕ) (z : A) → slice_get ys j ≡ Some z → p z ≡ true → ⊥) → ⊥
    by true e rest = let s : cond (p y) 1 0 + count_by p ys ≡ 0 = sym (count_cons p y ys) ∙ zeroes in omega (arith, rw e at s)
    by false e rest = at_place i at
      where
        left : count_by p ys ≡ 0
        left = let s : cond (p y) 1 0 + count_by p ys ≡ 0 = sym (count_cons p y ys) ∙ zeroes in omega (arith, rw e at s)

        at_place : (k : ℕ) → slice_get (y ∷ ys) k ≡ Some x → ⊥
        at_place zero h = let same : y ≡ x = same_Some y x h in let t : p y ≡ true = subst (λ z. p z ≡ true) (sym same) is in (let f : true ≡ false = sym t ∙ e in absurd cc)
        at_place (suc k) h = rest left k x h is

-- where the count is one, two that pass stand at one place
pub count_one : {A : Type 0} (p : A → Bool) (xs : List A) → count_by p xs ≡ 1 → (i j : ℕ) (x y : A) → slice_get xs i ≡ Some x → p x ≡ true → slice_get xs j ≡ Some y → p y ≡ true → i ≡ j
count_one p [] one i j x y a ax b bx = absurd (none-some x a)
count_one {A} p (z ∷ zs) one i j x y a ax b bx = by (p z) refl i j a b (count_one p zs)
  where
    total : cond (p z) 1 0 + count_by p zs ≡ 1
    total = sym (count_cons p z zs) ∙ one

    by : (t : Bool) → p z ≡ t → (k l : ℕ) → slice_get (z ∷ zs) k ≡ Some x → slice_get (z ∷ zs) l ≡ Some y
        → (count_by p zs ≡ 1 → (i j : ℕ) (x y : A) → slice_get zs i ≡ Some x → p x ≡ true → slice_get zs j ≡ Some y → p y ≡ true → i ≡ j) → k ≡ l
    by true e zero zero h g rest = refl
    by true e zero (suc l) h g rest = absurd (count_none p zs (omega (arith, rw e at total)) l y g bx)
    by true e (suc k) l h g rest = absurd (count_none p zs (omega (arith, rw e at total)) k x h ax)
    by false e zero l h g rest = let same : z ≡ x = same_Some z x h in let t : p z ≡ true = subst (λ w. p w ≡ true) (sym same) ax in (let f : true ≡ false = sym t ∙ e in absurd cc)
    by false e (suc k) zero h g rest = let same : z ≡ y = same_Some z y g in let t : p z ≡ true = subst (λ w. p w ≡ true) (sym same) bx in (let f : true ≡ false = sym t ∙ e in absurd cc)
    by false e (suc k) (suc l) h g rest = ap suc (rest (omega (arith, rw e at total)) k l x y h ax g bx)

-- ---- entries and exits

pub range_at : (a n o : ℕ) → o < n → slice_get (range_with_len a n) o ≡ Some (a + o)
range_at a zero o lt = absurd (omega arith)
range_at a (suc n) zero lt = ap Some (omega arith)
range_at a (suc n) (suc o) lt = range_at (a + 1) n o (omega arith) ∙ ap Some (omega arith)

any_contains : (o : ℕ) (xs : List ℕ) → list_any (nat_eq o) xs ≡ true → Contains xs o
any_contains o [] e = absurd cc
any_contains o (x ∷ xs) e = by (nat_eq o x) refl (any_contains o xs)
  where
    by : (b : Bool) → nat_eq o x ≡ b → (list_any (nat_eq o) xs ≡ true → Contains xs o) → Contains (x ∷ xs) o
    by true is rest = (0, omega arith, sym (eqb-true o x is))
    by false is rest = let r = rest (rw is at e) in (suc r.0, omega (arith, r.1), r.2)

-- an operation that is named is a successor
named_is_successor : (train : List Operation) (o : ℕ) → is_named train o ≡ true → (p : ℕ) × IsSuccessor train p o
named_is_successor [] o e = absurd cc
named_is_successor (p ∷ train) o e = by (list_any (nat_eq o) p.next) refl (named_is_successor train o)
  where
    by : (b : Bool) → list_any (nat_eq o) p.next ≡ b → (is_named train o ≡ true → (q : ℕ) × IsSuccessor train q o) → (q : ℕ) × IsSuccessor (p ∷ train) q o
    by true is rest = (0, any_contains o p.next is)
    by false is rest = let r = rest (rw is at e) in (suc r.0, r.1)

entry_is_unnamed : (train : List Operation) (o : ℕ) → IsEntry train o → not (is_named train o) ≡ true
entry_is_unnamed train o entry = by (is_named train o) refl
  where
    by : (b : Bool) → is_named train o ≡ b → not b ≡ true
    by true e = let p = named_is_successor train o e in absurd (entry.first p.0 p.1)
    by false e = refl

pub one_entry : (train : List Operation) → entry_count train ≡ 1 → (o p : ℕ) → IsEntry train o → IsEntry train p → o ≡ p
one_entry train one o p a b =
    count_one (λ q. not (is_named train q)) (range_with_len 0 (length train)) one o p (0 + o) (0 + p)
    (range_at 0 (length train) o a.there) (subst (λ q. not (is_named train q) ≡ true) (let e : o ≡ 0 + o = omega arith in e) (entry_is_unnamed train o a))
    (range_at 0 (length train) p b.there) (subst (λ q. not (is_named train q) ≡ true) (let e : p ≡ 0 + p = omega arith in e) (entry_is_unnamed train p b))

pub entered : (train : List Operation) → entry_count train ≡ 1 → 0 < length train
entered [] one = absurd (omega arith)
entered (p ∷ train) one = omega arith

none : Operation
none = record { lower = 0; upper = None; min = 0; listings = []; next = [] }

exit_at : (train : List Operation) (o : ℕ) → IsExit train o → (p : Operation) × (slice_get train o ≡ Some p) × (nat_eq (length p.next) 0 ≡ true)
exit_at train o exit = by (slice_get train o) refl
  where
    by : (found : Option Operation) → slice_get train o ≡ found → (p : Operation) × (slice_get train o ≡ Some p) × (nat_eq (length p.next) 0 ≡ true)
    by None e = absurd (none-some (get_or train o none) (sym e ∙ slice_get-get_or train o none exit.there))
    by (Some p) e = let last : p.next ≡ [] = rw e at exit.last in (p, e, rw last refl)

pub one_exit : (train : List Operation) → exit_count train ≡ 1 → (o p : ℕ) → IsExit train o → IsExit train p → o ≡ p
one_exit train one o p a b =
    let x = exit_at train o a in
    let y = exit_at train p b in
    count_one (λ q. nat_eq (length q.next) 0) train one o p x.0 y.0 x.1 x.2 y.1 y.2

-- ---- marks

pub marked_length : (marks : List Bool) (ns : List ℕ) → length (marked_all marks ns) ≡ length marks
marked_length marks [] = refl
marked_length marks (n ∷ ns) = marked_length (set marks n true) ns ∙ length-set marks n true

pub marked_append : (marks : List Bool) (a b : List ℕ) → marked_all marks (a ++ b) ≡ marked_all (marked_all marks a) b
marked_append marks [] b = refl
marked_append marks (n ∷ a) b = marked_append (slice_set marks n true) a b

flat_more : (train : List Operation) (i : ℕ) (d : Operation) → i < length train → flat_map (λ p. p.next) (take (i + 1) train) ≡ flat_map (λ p. p.next) (take i train) ++ (get_or train i d).next
flat_more [] i d lt = absurd (omega arith)
flat_more (p ∷ train) zero d lt = append-nil p.next
flat_more (p ∷ train) (suc i) d lt =
    let more : suc i + 1 ≡ suc (i + 1) = omega arith in
    rw more (ap (λ l. p.next ++ l) (flat_more train i d (omega arith)) ∙ sym (append_assoc p.next (flat_map (λ q. q.next) (take i train)) (get_or train i d).next))

-- the successors of one more operation
pub marked_more : (marks : List Bool) (train : List Operation) (i : ℕ) (d : Operation) → i < length train
    → marked_all marks (flat_map (λ p. p.next) (take (i + 1) train)) ≡ marked_all (marked_all marks (flat_map (λ p. p.next) (take i train))) (get_or train i d).next
marked_more marks train i d lt = ap (marked_all marks) (flat_more train i d lt) ∙ marked_append marks (flat_map (λ p. p.next) (take i train)) (get_or train i d).next

swapped : (a b c : Bool) → ((a || b) || c) ≡ (b || (a || c))
swapped true true c = refl
swapped true false c = refl
swapped false true c = refl
swapped false false c = refl

-- the mark of an operation after one is set
set_get : (marks : List Bool) (n o : ℕ) → o < length marks → get_or (set marks n true) o false ≡ (nat_eq o n || get_or marks o false)
set_get marks n o lt = by (nat_eq o n) refl
  where
    by : (b : Bool) → nat_eq o n ≡ b → get_or (set marks n true) o false ≡ (b || get_or marks o false)
    by true e = let same : o ≡ n = eqb-true o n e in subst (λ i. get_or (set marks i true) o false ≡ true) same (get_or-set_same marks o true false lt)
    by false e = get_or-set_other marks n o true false (λ same. let t : nat_eq o n ≡ true = eq-eqb o n same in false≢true (sym e ∙ t))

-- the mark of an operation: it had one, or is among the numbers
marked_get : (marks : List Bool) (ns : List ℕ) (o : ℕ) → o < length marks → get_or (marked_all marks ns) o false ≡ (get_or marks o false || list_any (nat_eq o) ns)
marked_get marks [] o lt = or_false (get_or marks o false)
  where
    or_false : (b : Bool) → b ≡ (b || false)
    or_false true = refl
    or_false false = refl
marked_get marks (n ∷ ns) o lt =
    let within : o < length (set marks n true) = omega (arith, length-set marks n true) in
    marked_get (set marks n true) ns o within ∙ ap (λ b. b || list_any (nat_eq o) ns) (set_get marks n o lt) ∙ swapped (nat_eq o n) (get_or marks o false) (list_any (nat_eq o) ns)

-- a count over marks is one over the operations
count_marks : (marks : List Bool) (g : ℕ → Bool) (a : ℕ) → ((o : ℕ) → o < length marks → get_or marks o false ≡ g (a + o)) → count_by (λ b. not b) marks ≡ count_by (λ o. not (g o)) (range_with_len a (length marks))
count_marks [] g a same = refl
count_marks (b ∷ marks) g a same =
    let here : b ≡ g (a + 0) = same 0 (omega arith) in
    let zero_more : a + 0 ≡ a = omega arith in
    let head : b ≡ g a = here ∙ ap g zero_more in
    let rest = count_marks marks g (a + 1) (λ o lt. let e : a + suc o ≡ (a + 1) + o = omega arith in same (suc o) (omega arith) ∙ ap g e) in
    count_cons (λ x. not x) b marks
    ∙ ap (λ x. cond (not x) 1 0 + count_by (λ y. not y) marks) head
    ∙ ap (λ n. cond (not (g a)) 1 0 + n) rest
    ∙ sym (count_cons (λ o. not (g o)) a (range_with_len (a + 1) (length marks)))

named_flat : (train : List Operation) (o : ℕ) → list_any (nat_eq o) (flat_map (λ p. p.next) train) ≡ is_named train o
named_flat [] o = refl
named_flat (p ∷ train) o = list_any-append (nat_eq o) p.next (flat_map (λ q. q.next) train) ∙ ap (λ b. list_any (nat_eq o) p.next || b) (named_flat train o)

-- the operations that have no mark, once the successors of all are marked_all
pub count_entries : (train : List Operation) → count_by (λ b. not b) (marked_all (replicate (length train) false) (flat_map (λ p. p.next) train)) ≡ entry_count train
count_entries train =
    let n = length train in
    let ns = flat_map (λ (p : Operation). p.next) train in
    let clear = replicate n false in
    let long : length (marked_all clear ns) ≡ n = marked_length clear ns ∙ length-replicate n false in
    count_marks (marked_all clear ns) (is_named train) 0 (λ o lt.
    let within : o < n = omega (arith, long) in
    let there : o < length clear = omega (arith, length-replicate n false) in
    let zero_more : o ≡ 0 + o = omega arith in
    marked_get clear ns o there ∙ ap (λ b. b || list_any (nat_eq o) ns) (get_or-replicate n o false false within) ∙ named_flat train o ∙ ap (is_named train) zero_more)
    ∙ ap (λ k. count_by (λ o. not (is_named train o)) (range_with_len 0 k)) long
