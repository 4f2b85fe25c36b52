-- Reading one thing after the other, as a loop does.
use Rattle.std.proofs.Common.{◌≡◌, ℕ, suc, ◌-◌, ◌+◌, ◌/◌, ◌%◌, ◌≤◌, ◌<◌, List, [], ◌∷◌, ◌++◌, length, take, drop, get_or, Option, Some, None, refl, sym, ap, ◌∙◌, append_assoc, arith}
use Rattle.std.proofs.lemmas.List.{append-nil, take_more, take_all, take-append-drop, length_push, get_or_push}
use Rattle.std.proofs.lemmas.Option.{slice_get-get_or}
use Rattle.std.specs.Prelude.{slice_get}
use Rattle.disp_model.specs.declared.train.Op.{Op}
use Rattle.packed_nodes.specs.declared.unread.Unread.{Unread}
use Rattle.packed_nodes.specs.declared.unread.Unread.TheVariants as unread
use Rattle.packed_nodes.specs.Reading.{◌>>=◌, RefusesBytes}
use Rattle.packed_nodes.specs.Packed.{packed_number_at, packed_op_at, packed_items_at, packed_ops_behind, packed_walk_at, packed_items_behind, last_walk}

-- ---- so many of one kind

-- what was read before, and what is still read
abbrev pub with_front : {A : Type 0} → List A → Option (List A × List ℕ) → Option (List A × List ℕ)
with_front front read = read >>= λ x. Some (front ++ x.0, x.1)

regroup : {A : Type 0} (front : List A) (n : A) (read : Option (List A × List ℕ))
    → with_front front (read >>= λ x. Some (n ∷ x.0, x.1)) ≡ with_front (front ++ n ∷ []) read
regroup {A} front n (Some x) = ap (λ (ns : List A). Some (ns, x.1)) (simp append_assoc)
regroup {A} front n None = refl

-- one more is read
pub goes_on : {A : Type 0} (item : List ℕ → Option (A × List ℕ)) (front : List A) (count i : ℕ)
    (bytes : List ℕ) (n : A) (after : List ℕ) (total : Option (List A × List ℕ)) → i < count
    → item bytes ≡ Some (n, after) → with_front front (packed_items_at item (count - i) bytes) ≡ total
    → with_front (front ++ n ∷ []) (packed_items_at item (count - (i + 1)) after) ≡ total
unfolding packed_items_at
goes_on {A} item front count i bytes n after total lt h so_far =
    let k : count - i ≡ suc (count - (i + 1)) = omega arith in
    let left = packed_items_at item (count - (i + 1)) after in
    let one : with_front front (packed_items_at item (count - i) bytes)
    ≡ with_front (front ++ n ∷ []) left = rw (k, h) (regroup front n left) in
    sym one ∙ so_far

-- nothing more is read
pub ends : {A : Type 0} (item : List ℕ → Option (A × List ℕ)) (e : Unread) (front : List A)
    (count i : ℕ) (bytes : List ℕ) (total : Option (List A × List ℕ)) → i < count
    → RefusesBytes e (item bytes) → with_front front (packed_items_at item (count - i) bytes) ≡ total
    → RefusesBytes e total
unfolding packed_items_at
ends item unread.Memory front count i bytes total lt h so_far = tt
ends item unread.Nothing front count i bytes total lt h so_far =
    let k : count - i ≡ suc (count - (i + 1)) = omega arith in
    let one : with_front front (packed_items_at item (count - i) bytes) ≡ None = rw (k, h) refl in
    sym so_far ∙ one

-- all are read
pub is_done : {A : Type 0} (item : List ℕ → Option (A × List ℕ)) (front : List A) (count i : ℕ)
    (bytes : List ℕ) (total : Option (List A × List ℕ)) → count ≤ i
    → with_front front (packed_items_at item (count - i) bytes) ≡ total → total ≡ Some (front, bytes)
unfolding packed_items_at
is_done {A} item front count i bytes total le so_far =
    let k : count - i ≡ 0 = omega arith in
    let one : with_front front (packed_items_at item (count - i) bytes) ≡ Some (front, bytes) =
    rw k (ap (λ (ns : List A). Some (ns, bytes)) (append-nil front)) in
    sym so_far ∙ one

-- ---- a list that is compared with what is read

-- one more of the list is what is read next
pub goes_on_in : {A : Type 0} (item : List ℕ → Option (A × List ℕ)) (xs : List A) (i : ℕ) (d x : A)
    (bytes after : List ℕ) (total : Option (List A × List ℕ)) → i < length xs → get_or xs i d ≡ x
    → item bytes ≡ Some (x, after)
    → with_front (take i xs) (packed_items_at item (length xs - i) bytes) ≡ total
    → with_front (take (i + 1) xs) (packed_items_at item (length xs - (i + 1)) after) ≡ total
goes_on_in item xs i d x bytes after total lt is h so_far =
    rw (take_more xs i d lt, is)
    (goes_on item (take i xs) (length xs) i bytes x after total lt h so_far)

-- all of the list are read
pub is_done_in : {A : Type 0} (item : List ℕ → Option (A × List ℕ)) (xs : List A) (i : ℕ)
    (bytes : List ℕ) (total : Option (List A × List ℕ)) → length xs ≤ i
    → with_front (take i xs) (packed_items_at item (length xs - i) bytes) ≡ total
    → total ≡ Some (xs, bytes)
is_done_in {A} item xs i bytes total le so_far =
    is_done item (take i xs) (length xs) i bytes total le so_far
    ∙ ap (λ (ns : List A). Some (ns, bytes)) (take_all i xs le)

-- ---- so many of one kind, each behind the walk of the one before it

-- what is read next is read behind the one that was read last
last_push : {A : Type 0} (walk : A → List Op) (xs : List A) (x : A)
    → last_walk walk (xs ++ x ∷ []) ≡ walk x
last_push {A} walk xs x =
    let long : length (xs ++ x ∷ []) ≡ length xs + 1 = length_push xs x in
    let k : length (xs ++ x ∷ []) - 1 ≡ length xs = omega (arith, long) in
    let lt : length xs < length (xs ++ x ∷ []) = omega (arith, long) in
    let is : slice_get (xs ++ x ∷ []) (length xs) ≡ Some x =
    slice_get-get_or (xs ++ x ∷ []) (length xs) x lt
    ∙ ap (λ (y : A). Some y) (get_or_push xs x x (length xs) refl) in
    rw (k, is) refl

-- one more is read
walk_goes_on : {A : Type 0} (walk : A → List Op) (item : List Op → List ℕ → Option (A × List ℕ))
    (front : List Op) (done : List A) (count i : ℕ) (bytes : List ℕ) (n : A) (after : List ℕ)
    (total : Option (List A × List ℕ)) → i < count → item front bytes ≡ Some (n, after)
    → with_front done (packed_items_behind walk item front (count - i) bytes) ≡ total
    → with_front (done ++ n ∷ [])
    (packed_items_behind walk item (walk n) (count - (i + 1)) after) ≡ total
unfolding packed_items_behind
walk_goes_on {A} walk item front done count i bytes n after total lt h so_far =
    let k : count - i ≡ suc (count - (i + 1)) = omega arith in
    let left = packed_items_behind walk item (walk n) (count - (i + 1)) after in
    let one : with_front done (packed_items_behind walk item front (count - i) bytes)
    ≡ with_front (done ++ n ∷ []) left = rw (k, h) (regroup done n left) in
    sym one ∙ so_far

-- one more is read and kept
pub next_goes_on : {A : Type 0} (walk : A → List Op)
    (item : List Op → List ℕ → Option (A × List ℕ)) (done : List A) (count i : ℕ)
    (bytes : List ℕ) (n : A) (after : List ℕ) (total : Option (List A × List ℕ)) → i < count
    → item (last_walk walk done) bytes ≡ Some (n, after)
    → with_front done (packed_items_behind walk item (last_walk walk done) (count - i) bytes)
    ≡ total
    → with_front (done ++ n ∷ [])
    (packed_items_behind walk item (last_walk walk (done ++ n ∷ [])) (count - (i + 1)) after)
    ≡ total
next_goes_on walk item done count i bytes n after total lt h so_far =
    rw (last_push walk done n)
    (walk_goes_on walk item (last_walk walk done) done count i bytes n after total lt h so_far)

-- nothing more is read
pub walk_ends : {A : Type 0} (walk : A → List Op)
    (item : List Op → List ℕ → Option (A × List ℕ)) (e : Unread) (front : List Op)
    (done : List A) (count i : ℕ) (bytes : List ℕ) (total : Option (List A × List ℕ)) → i < count
    → RefusesBytes e (item front bytes)
    → with_front done (packed_items_behind walk item front (count - i) bytes) ≡ total
    → RefusesBytes e total
unfolding packed_items_behind
walk_ends walk item unread.Memory front done count i bytes total lt h so_far = tt
walk_ends walk item unread.Nothing front done count i bytes total lt h so_far =
    let k : count - i ≡ suc (count - (i + 1)) = omega arith in
    let one : with_front done (packed_items_behind walk item front (count - i) bytes) ≡ None =
    rw (k, h) refl in
    sym so_far ∙ one

-- all are read
pub walk_is_done : {A : Type 0} (walk : A → List Op)
    (item : List Op → List ℕ → Option (A × List ℕ)) (front : List Op) (done : List A)
    (count i : ℕ) (bytes : List ℕ) (total : Option (List A × List ℕ)) → count ≤ i
    → with_front done (packed_items_behind walk item front (count - i) bytes) ≡ total
    → total ≡ Some (done, bytes)
unfolding packed_items_behind
walk_is_done {A} walk item front done count i bytes total le so_far =
    let k : count - i ≡ 0 = omega arith in
    let one : with_front done (packed_items_behind walk item front (count - i) bytes)
    ≡ Some (done, bytes) = rw k (ap (λ (ns : List A). Some (ns, bytes)) (append-nil done)) in
    sym so_far ∙ one

-- one more of the list is what is read next
pub walk_goes_on_in : {A : Type 0} (walk : A → List Op)
    (item : List Op → List ℕ → Option (A × List ℕ)) (front : List Op) (xs : List A) (i : ℕ)
    (d x : A) (bytes after : List ℕ) (total : Option (List A × List ℕ)) → i < length xs
    → get_or xs i d ≡ x → item front bytes ≡ Some (x, after)
    → with_front (take i xs) (packed_items_behind walk item front (length xs - i) bytes) ≡ total
    → with_front (take (i + 1) xs)
    (packed_items_behind walk item (walk x) (length xs - (i + 1)) after) ≡ total
walk_goes_on_in walk item front xs i d x bytes after total lt is h so_far =
    rw (take_more xs i d lt, is)
    (walk_goes_on walk item front (take i xs) (length xs) i bytes x after total lt h so_far)

-- all of the list are read
pub walk_is_done_in : {A : Type 0} (walk : A → List Op)
    (item : List Op → List ℕ → Option (A × List ℕ)) (front : List Op) (xs : List A) (i : ℕ)
    (bytes : List ℕ) (total : Option (List A × List ℕ)) → length xs ≤ i
    → with_front (take i xs) (packed_items_behind walk item front (length xs - i) bytes) ≡ total
    → total ≡ Some (xs, bytes)
walk_is_done_in {A} walk item front xs i bytes total le so_far =
    walk_is_done walk item front (take i xs) (length xs) i bytes total le so_far
    ∙ ap (λ (ns : List A). Some (ns, bytes)) (take_all i xs le)

-- ---- one walk

-- what is left of a list behind its front, behind that front
pub stripped : {A : Type 0} (front others whole : List A) → take (length front) whole ≡ front
    → others ≡ drop (length front) whole → front ++ others ≡ whole
stripped {A} front others whole same rest =
    rw rest (ap (λ (xs : List A). xs ++ drop (length front) whole) (sym same)
    ∙ take-append-drop (length front) whole)

-- what a walk shares and what it lists itself are the walk
pub is_walk : (front others walk : List Op) (head : ℕ) (bytes rest after : List ℕ)
    → packed_number_at bytes ≡ Some (head, rest) → take (head % 16) front ++ others ≡ walk
    → length others ≡ head / 16
    → packed_items_at packed_op_at (length others) rest ≡ Some (others, after)
    → packed_walk_at front bytes ≡ Some (walk, after)
unfolding packed_walk_at packed_ops_behind
is_walk front others walk head bytes rest after h is count read =
    rw (h, ← count, read, is) refl
