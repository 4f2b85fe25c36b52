-- The shares of all passes, under one scale.
use Rattle.std.proofs.Common.{◌≡◌, ℕ, zero, suc, ◌+◌, ◌-◌, ◌*◌, ◌^◌, ◌<◌, ◌≤◌, ◌≢◌, List, [], ◌∷◌, ◌++◌, set, sym, refl, ap, ◌∙◌, arith}
use Rattle.std.proofs.Math.Nat.{mul_assoc, mul_comm, mul-pos, le-mul_of_pos_right, eq_of_mul-eq-mul_right}
use Rattle.std.proofs.lemmas.Nat.{pow_pos, pow-add}
use mathlib.Core.Option.{some, some-injective, some-ne-none}
use lib.ListN.{get_elem?}
use Rattle.atomic_table.proofs.Lists.{set_else}
use Rattle.incumbent_cell.specs.declared.pass.Known.{Known}
use Rattle.incumbent_cell.specs.Knowledge.{halved, joined_known, spent, weight, weights, IsWhole, HasShare}

pub weights-set : (n : ℕ) (l : List Known) (i : ℕ) (v w : Known) → get_elem? l i ≡ some v → weights n (set l i w) + weight n v ≡ weights n l + weight n w
weights-set n [] i v w e = absurd (some-ne-none v (sym e))
weights-set n (x ∷ xs) zero v w e = let is : weight n x ≡ weight n v = ap (weight n) (some-injective x v e) in omega arith
weights-set n (x ∷ xs) (suc i) v w e = let r = weights-set n xs i v w e in omega arith

pub weights-snoc : (n : ℕ) (l : List Known) (w : Known) → weights n (l ++ w ∷ []) ≡ weights n l + weight n w
weights-snoc n [] w = omega arith
weights-snoc n (x ∷ xs) w = let r = weights-snoc n xs w in omega arith

weight_le : (n : ℕ) (l : List Known) (i : ℕ) (v : Known) → get_elem? l i ≡ some v → weight n v ≤ weights n l
weight_le n [] i v e = absurd (some-ne-none v (sym e))
weight_le n (x ∷ xs) zero v e = let is : weight n x ≡ weight n v = ap (weight n) (some-injective x v e) in omega arith
weight_le n (x ∷ xs) (suc i) v e = let r = weight_le n xs i v e in omega arith

abbrev Scaled : ℕ → List Known → Type 0
Scaled n l = (i : ℕ) (v : Known) → get_elem? l i ≡ some v → v.share.halvings ≤ n

split_power : (h n k : ℕ) → h ≤ n → 2 ^ (k + n - h) ≡ 2 ^ k * 2 ^ (n - h)
split_power h n k le = let e : k + n - h ≡ k + (n - h) = omega arith in ap (λ (x : ℕ). 2 ^ x) e ∙ pow-add 2 k (n - h)

-- at a scale that is greater by k, each weight is 2 ^ k times as great
weight_more : (n k : ℕ) (v : Known) → v.share.halvings ≤ n → weight (k + n) v ≡ 2 ^ k * weight n v
weight_more n k v le = let p : ℕ = v.share.parts in let h : ℕ = v.share.halvings in let a : ℕ = 2 ^ k in let b : ℕ = 2 ^ (n - h) in
    ap (λ (x : ℕ). p * x) (split_power h n k le) ∙ (sym (mul_assoc p a b) ∙ (ap (λ (x : ℕ). x * b) (mul_comm p a) ∙ mul_assoc a p b))

pub weights_more : (n k : ℕ) (l : List Known) → Scaled n l → weights (k + n) l ≡ 2 ^ k * weights n l
weights_more n k [] s = omega arith
weights_more n k (x ∷ xs) s = let a : weight (k + n) x ≡ 2 ^ k * weight n x = weight_more n k x (s 0 x refl) in
    let b : weights (k + n) xs ≡ 2 ^ k * weights n xs = weights_more n k xs (λ i v e. s (suc i) v e) in
    let c : 2 ^ k * (weight n x + weights n xs) ≡ 2 ^ k * weight n x + 2 ^ k * weights n xs = omega arith in omega arith

-- a pass with the whole share leaves none for others
pub whole_alone : (n : ℕ) (l : List Known) (i j : ℕ) (v u : Known) → Scaled n l → weights n l ≡ 2 ^ n → get_elem? l i ≡ some v → IsWhole v → get_elem? l j ≡ some u → j ≢ i → u.share.parts ≡ 0
whole_alone n l i j v u s total at whole there apart =
    let h : ℕ = v.share.halvings in let le : h ≤ n = s i v at in
    let all : weight n v ≡ 2 ^ n = ap (λ (x : ℕ). x * 2 ^ (n - h)) whole ∙ (sym (pow-add 2 h (n - h)) ∙ (let e : h + (n - h) ≡ n = omega arith in ap (λ (x : ℕ). 2 ^ x) e)) in
    let sum = weights-set n l i v spent at in
    let nothing : weight n spent ≡ 0 = omega arith in
    let part = weight_le n (set l i spent) j u (set_else l i j spent apart ∙ there) in
    let more : u.share.parts ≤ weight n u = le-mul_of_pos_right u.share.parts (pow_pos (n - u.share.halvings)) in
    omega arith

-- cutting a share in two keeps the sum
pub weights-split : (n : ℕ) (l : List Known) (i : ℕ) (v : Known) → Scaled n l → get_elem? l i ≡ some v → weights n l ≡ 2 ^ n
    → weights (1 + n) (set l i (halved v) ++ halved v ∷ []) ≡ 2 ^ (1 + n)
weights-split n l i v s at total =
    let h : ℕ = v.share.halvings in
    let half : weight (1 + n) (halved v) ≡ weight n v = (let e : 1 + n - (h + 1) ≡ n - h = omega arith in ap (λ (x : ℕ). v.share.parts * 2 ^ x) e) in
    let twice : weight (1 + n) v ≡ 2 ^ 1 * weight n v = weight_more n 1 v (s i v at) in
    let all : weights (1 + n) l ≡ 2 ^ 1 * weights n l = weights_more n 1 l s in
    let one = weights-set (1 + n) l i v (halved v) at in
    let two = weights-snoc (1 + n) (set l i (halved v)) (halved v) in
    let power : 2 ^ (1 + n) ≡ 2 ^ 1 * 2 ^ n = pow-add 2 1 n in
    omega arith

weight-joined : (n : ℕ) (v w : Known) → v.share.halvings ≤ n → w.share.halvings ≤ n → weight (n + n) (joined_known v w) ≡ weight (n + n) v + weight (n + n) w
weight-joined n v w a b =
    let p : ℕ = v.share.parts in let q : ℕ = w.share.parts in let h : ℕ = v.share.halvings in let k : ℕ = w.share.halvings in
    let r : ℕ = n + n - (h + k) in
    let left : k + r ≡ n + n - h = omega arith in
    let right : h + r ≡ n + n - k = omega arith in
    let x : 2 ^ k * 2 ^ r ≡ 2 ^ (n + n - h) = sym (pow-add 2 k r) ∙ ap (λ (z : ℕ). 2 ^ z) left in
    let y : 2 ^ h * 2 ^ r ≡ 2 ^ (n + n - k) = sym (pow-add 2 h r) ∙ ap (λ (z : ℕ). 2 ^ z) right in
    let x' : p * 2 ^ k * 2 ^ r ≡ p * 2 ^ (n + n - h) = mul_assoc p (2 ^ k) (2 ^ r) ∙ ap (λ (z : ℕ). p * z) x in
    let y' : q * 2 ^ h * 2 ^ r ≡ q * 2 ^ (n + n - k) = mul_assoc q (2 ^ h) (2 ^ r) ∙ ap (λ (z : ℕ). q * z) y in
    let spread : (p * 2 ^ k + q * 2 ^ h) * 2 ^ r ≡ p * 2 ^ k * 2 ^ r + q * 2 ^ h * 2 ^ r = omega arith in
    spread ∙ (ap (λ (z : ℕ). z + q * 2 ^ h * 2 ^ r) x' ∙ ap (λ (z : ℕ). p * 2 ^ (n + n - h) + z) y')

-- putting two shares together keeps the sum
pub weights-join : (n : ℕ) (l : List Known) (i j : ℕ) (v w : Known) → Scaled n l → get_elem? l i ≡ some v → get_elem? l j ≡ some w → get_elem? (set l i (joined_known v w)) j ≡ some w → weights n l ≡ 2 ^ n
    → weights (n + n) (set (set l i (joined_known v w)) j spent) ≡ 2 ^ (n + n)
weights-join n l i j v w s at there still total =
    let all : weights (n + n) l ≡ 2 ^ n * weights n l = weights_more n n l s in
    let both : weight (n + n) (joined_known v w) ≡ weight (n + n) v + weight (n + n) w = weight-joined n v w (s i v at) (s j w there) in
    let one = weights-set (n + n) l i v (joined_known v w) at in
    let two = weights-set (n + n) (set l i (joined_known v w)) j w spent still in
    let nothing : weight (n + n) spent ≡ 0 = omega arith in
    let power : 2 ^ (n + n) ≡ 2 ^ n * 2 ^ n = pow-add 2 n n in
    let same : 2 ^ n * weights n l ≡ 2 ^ n * 2 ^ n = ap (λ (z : ℕ). 2 ^ n * z) total in
    omega arith

pub joined_live : (v w : Known) → zero < v.share.parts → zero < (joined_known v w).share.parts
joined_live v w l = let p : zero < v.share.parts * 2 ^ w.share.halvings = mul-pos l (pow_pos w.share.halvings) in omega arith

-- For callers that split and join in a loop: a split halves a share, a join adds two, and all parts are the whole
pub HasShare-halved : (v : Known) (n d : ℕ) → HasShare v n d → HasShare (halved v) n (2 * d)
HasShare-halved v n d e = let p : ℕ = v.share.parts in let a : ℕ = 2 ^ v.share.halvings in let b : ℕ = 2 ^ (v.share.halvings + 1) in
    let e' : p * d ≡ n * a = e in let power : b ≡ a * 2 = pow-add 2 v.share.halvings 1 in let power' : n * b ≡ n * (a * 2) = ap (λ (z : ℕ). n * z) power in
    let r : p * (2 * d) ≡ n * b = omega arith in r

crossed : (p q n m d a b : ℕ) → p * d ≡ n * a → q * d ≡ m * b → (p * b + q * a) * d ≡ (n + m) * (a * b)
crossed p q n m d a b e f = let e' : p * d * b ≡ n * a * b = ap (λ (z : ℕ). z * b) e in let f' : q * d * a ≡ m * b * a = ap (λ (z : ℕ). z * a) f in omega arith

pub HasShare-joined : (v w : Known) (n m d : ℕ) → HasShare v n d → HasShare w m d → HasShare (joined_known v w) (n + m) d
HasShare-joined v w n m d e f = let h : ℕ = v.share.halvings in let k : ℕ = w.share.halvings in
    crossed v.share.parts w.share.parts n m d (2 ^ h) (2 ^ k) e f ∙ ap (λ (z : ℕ). (n + m) * z) (sym (pow-add 2 h k))

pub HasShare-scaled : (v : Known) (n d k : ℕ) → HasShare v n d → HasShare v (k * n) (k * d)
HasShare-scaled v n d k e = let p : ℕ = v.share.parts in let a : ℕ = 2 ^ v.share.halvings in let e' : k * (p * d) ≡ k * (n * a) = ap (λ (z : ℕ). k * z) e in
    let r : p * (k * d) ≡ k * n * a = omega arith in r

pub IsWhole-all : (v : Known) (d : ℕ) → zero < d → HasShare v d d → IsWhole v
IsWhole-all v d some_parts e = eq_of_mul-eq-mul_right d some_parts v.share.parts (2 ^ v.share.halvings) (e ∙ mul_comm d (2 ^ v.share.halvings))
