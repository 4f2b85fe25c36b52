-- Readers one after another, and a reader over a list.
use Rattle.std.proofs.Common.{◌≡◌, List, ◌∷◌, ◌++◌, Option, Some, None, refl}
use Rattle.json_claims.specs.Field.{◌>>=◌, with_first, each}

-- the step before one that gave something gave something
pub bind_some : {A B : Type 0} (o : Option A) (f : A → Option B) (y : B) → (o >>= f) ≡ Some y → (x : A) × (o ≡ Some x) × (f x ≡ Some y)
bind_some None f y e = absurd cc
bind_some (Some x) f y e = (x, refl, e)

first_some : {B : Type 0} (b : B) (rest : Option (List B)) (ys : List B) → with_first b rest ≡ Some ys → (bs : List B) × (rest ≡ Some bs) × (ys ≡ b ∷ bs)
first_some b None ys e = absurd cc
first_some b (Some bs) ys e = (bs, refl, cc)

-- what each gives, at the head and behind it
pub each_some : {A B : Type 0} (f : A → Option B) (x : A) (xs : List A) (ys : List B) → each f (x ∷ xs) ≡ Some ys
    → (b : B) × (bs : List B) × (f x ≡ Some b) × (each f xs ≡ Some bs) × (ys ≡ b ∷ bs)
each_some f x xs ys e =
    let p = bind_some (f x) (λ b. with_first b (each f xs)) ys e in
    let q = first_some p.0 (each f xs) ys p.2 in
    (p.0, q.0, p.1, q.1, q.2)

pub each_cons : {A B : Type 0} (f : A → Option B) (x : A) (xs : List A) (b : B) (bs : List B) → f x ≡ Some b → each f xs ≡ Some bs → each f (x ∷ xs) ≡ Some (b ∷ bs)
each_cons f x xs b bs read rest = rw (read, rest) refl

-- what is done, before what is left
abbrev pub with_front : {B : Type 0} → List B → Option (List B) → Option (List B)
with_front done None = None
with_front done (Some bs) = Some (done ++ bs)
