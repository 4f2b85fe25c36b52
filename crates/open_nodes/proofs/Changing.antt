-- What has changed where one place is replaced, or a leaf has grown.
use Rattle.std.proofs.Common.{◌≡◌, ◌∙◌, ℕ, zero, suc, ◌+◌, ◌-◌, ◌<◌, ◌≤◌, List, [], ◌∷◌, ◌++◌, length, set, get_or, refl, sym, ap, subst, arith}
use Rattle.std.specs.Prelude.{cond, Option, Some, None, slice_get, is_some, sum_by}
use Rattle.std.proofs.lemmas.Option.{slice_get_within, get_or_from_slice_get}
use Rattle.std.proofs.lemmas.List.{length-set, length-append}
use Rattle.std.proofs.lemmas.List.Sums.{sum_by-set, sum_by-append, sum_by-cons}
use Rattle.open_nodes.specs.declared.place.Place.{Place}
use Rattle.open_nodes.specs.declared.blocks.Blocks.{Blocks}
use Rattle.open_nodes.specs.States.{out_count}
use Rattle.open_nodes.specs.Grafts.{AllStand, placed}
use Rattle.open_nodes.specs.Blocks.{one_if_out, HaveChanged, AreReckoned, AreSameBlocks, HaveRoom}
use Rattle.open_nodes.proofs.Places.{get_set_same, get_set_other}
use Rattle.open_nodes.proofs.Growing.{get_more}
use Rattle.open_nodes.proofs.Reckoning.{least_same}

count_set : (places : List Place) (n : ℕ) (x q : Place) → slice_get places n ≡ Some x
    → out_count (set places n q) + one_if_out (is_some x.out) ≡ out_count places + one_if_out (is_some q.out)
count_set places n x q there =
    let f : Place → ℕ = λ p. cond (is_some p.out) 1 0 in
    let same : sum_by f (set places n q) + f (get_or places n x) ≡ sum_by f places + f q = sum_by-set {X = Place} f places n q x (slice_get_within places n x there) in
    let here : f (get_or places n x) ≡ f x = ap f (get_or_from_slice_get places n x x there) in
    omega (arith, same, here)

-- one place is replaced
pub one_changed : (places : List Place) (n first : ℕ) (x q : Place) → slice_get places n ≡ Some x → first ≡ length places → HaveChanged places (set places n q) n first x q
one_changed places n first x q there e = record {
  there = there;
  here = get_set_same places n q x there;
  first_is = e;
  longer = omega (arith, length-set places n q);
  same = λ m other lt. get_set_other places n m q other;
  counts = count_set places n x q there;
}

-- there are as many blocks as before
pub same_room : (places : List Place) (edition n : ℕ) (q : Place) (blocks : Blocks) → AreReckoned places edition blocks → HaveRoom (length (set places n q)) blocks
same_room places edition n q blocks are =
    let long = length-set places n q in
    record { alive = omega (arith, long, are.alive.long); inside = omega (arith, long, are.inside.long); unmarked = omega (arith, long, are.unmarked.long) }

get_left : (places fresh : List Place) (m : ℕ) → m < length places → slice_get (places ++ fresh) m ≡ slice_get places m
get_left [] fresh m lt = absurd (omega (arith, lt))
get_left (p ∷ places) fresh zero lt = refl
get_left (p ∷ places) fresh (suc m) lt = get_left places fresh m (omega (arith, lt))

none_out : (fresh : List Place) → ((i : ℕ) (p : Place) → slice_get fresh i ≡ Some p → p.out ≡ None) → out_count fresh ≡ 0
none_out [] inside = refl
none_out (p ∷ fresh) inside =
    let f : Place → ℕ = λ q. cond (is_some q.out) 1 0 in
    let first : f p ≡ 0 = ap (λ (o : Option _). cond (is_some o) 1 0) (inside 0 p refl) in
    let rest : sum_by f fresh ≡ 0 = none_out fresh (λ i. inside (suc i)) in
    omega (arith, sum_by-cons f p fresh, first, rest)

-- a leaf has grown
pub grown_changed : (places : List Place) (n first : ℕ) (x : Place) (grown : List Place) → slice_get places n ≡ Some x → first ≡ length places → 0 < length grown
    → AllStand (length places - 1) x.above grown → (now : Place) × HaveChanged places (placed places n grown) n first x now
grown_changed places n first x [] there e some all = absurd (omega (arith, some))
grown_changed places n first x (root ∷ fresh) there e some all =
    let here : slice_get (places ++ fresh) n ≡ Some x = get_more places fresh n x there in
    let long = length-append places fresh in
    let zero_new : out_count fresh ≡ 0 = none_out fresh (λ i p at. (all (suc i) p at).inside) in
    let joined : out_count (places ++ fresh) ≡ out_count places + out_count fresh = sum_by-append (λ (p : Place). cond (is_some p.out) 1 0) places fresh in (
      root,
      record {
        there = there;
        here = get_set_same (places ++ fresh) n root x here;
        first_is = e;
        longer = omega (arith, length-set (places ++ fresh) n root, long);
        same = λ m other lt. get_set_other (places ++ fresh) n m root other ∙ get_left places fresh m (omega (arith, lt, e));
        counts = omega (arith, count_set (places ++ fresh) n x root here, joined, zero_new);
      },
    )

pub grown_long : (places : List Place) (n : ℕ) (grown : List Place) → length (placed places n grown) ≤ length places + length grown
grown_long places n [] = omega arith
grown_long places n (root ∷ fresh) = omega (arith, length-set (places ++ fresh) n root, length-append places fresh)

pub grown_within : (places : List Place) (n : ℕ) (grown : List Place) → n < length places → n < length (placed places n grown)
grown_within places n [] lt = lt
grown_within places n (root ∷ fresh) lt = omega (arith, length-set (places ++ fresh) n root, length-append places fresh, lt)

-- more blocks, without bounds
pub reckoned_same : (places : List Place) (edition : ℕ) (blocks after : Blocks) → AreSameBlocks blocks after → AreReckoned places edition blocks → AreReckoned places edition after
reckoned_same places edition blocks after same are = record {
  alive = least_same _ places blocks.alive after.alive same.alive are.alive;
  inside = least_same _ places blocks.inside after.inside same.inside are.inside;
  unmarked = least_same _ places blocks.unmarked after.unmarked same.unmarked are.unmarked;
  out = same.out ∙ are.out;
}

pub less_room : (few many : ℕ) (blocks : Blocks) → few ≤ many → HaveRoom many blocks → HaveRoom few blocks
less_room few many blocks le room = record { alive = omega (arith, le, room.alive); inside = omega (arith, le, room.inside); unmarked = omega (arith, le, room.unmarked) }

-- what a call owes that reckons anew, where one place has been replaced
pub after_one : (places after : List Place) (edition n first : ℕ) (x q : Place) (blocks : Blocks) → after ≡ set places n q → slice_get places n ≡ Some x → first ≡ length places
    → AreReckoned places edition blocks → (old : List Place) × (now : Place) × HaveChanged old after n first x now × AreReckoned old edition blocks
after_one places after edition n first x q blocks e there len are =
    (places, q, subst (λ (ps : List Place). HaveChanged places ps n first x q) (sym e) (one_changed places n first x q there len), are)
