-- What the fields of `Paths` say of its walks, and how each call keeps it.
use Rattle.std.proofs.Common.{◌≡◌, ℕ, ◌<◌, ◌≤◌, ◌^◌, Bool, false, List, [], ◌∷◌, ◌++◌, length, get_or, set, take, drop, map, refl, sym, ap, ◌∙◌, subst, inl, inr, ◌⊎◌, ◌+◌, get_or-set_same, arith, Option, None, Some, Vec, Global}
use Rattle.std.specs.Prelude.{All, IfNone}
use Rattle.std.proofs.lemmas.List.{take_at, length-append, get_or_past, get_or-map, length-take-le, get_or-take, length-set, set-get_or, map-append, take-map}
use Rattle.std.proofs.lemmas.List.{set-set}
use Rattle.std.proofs.lemmas.Bool.{cases_lt}
use Rattle.std.proofs.lemmas.List.Elements.{All-contains, All-take, All-push, All-nil, Contains-append_left}
use Rattle.incremental_paths.specs.declared.arc.Arc.{Arc}
use Rattle.incremental_paths.specs.declared.changes.Change.{Change}
use Rattle.incremental_paths.specs.Threaded.{Threaded, threaded_with}
use Rattle.incremental_paths.specs.Walks.{IsWalkTo, walk_length, HasNoNodeTwice, IsLongestLength, ArcsHaveCycle, WalksAreShort, Leads}
use Rattle.incremental_paths.specs.Marked.{begins, ends, AreWithin, AreRising}
use Rattle.incremental_paths.specs.Spread.{AreLengths, AreReached, AreSpread, WalksFit, Told, TellsMore, nothing_told, restored}
use Rattle.incremental_paths.specs.Kept.{AreKept, AreUndone}
use Rattle.incremental_paths.proofs.Members.{IsPart, Contains-nil, joining}
use Rattle.incremental_paths.proofs.Walking.{walk_part, walk_length_part, walk_no_node_twice}
use Rattle.incremental_paths.proofs.Reordering.{rising_free}
use Rattle.incremental_paths.proofs.WaysBack.{way_back}
use Rattle.incremental_paths.proofs.Pairs.{contains_at}
use Rattle.incremental_paths.proofs.Tracing.{arc_bound, spread_lengths}
use Rattle.incremental_paths.proofs.Undoing.{undone_stale, undone_add, undone_withdraw}

pub fits_part : (lowers : List ℕ) (xs ys : List Arc) → IsPart xs ys → WalksFit lowers ys → WalksFit lowers xs
fits_part lowers xs ys part fit v nodes walk = omega (arith, walk_length_part lowers xs ys part nodes, fit v nodes (walk_part lowers xs ys part v nodes walk))

-- walks that are short fit
pub fits_from_short : (lowers : List ℕ) (arcs : List Arc) → WalksAreShort lowers arcs → WalksFit lowers arcs
fits_from_short lowers arcs short v nodes walk = omega (arith, short v nodes walk)

pub front_part : (arcs : List Arc) (n : ℕ) → n ≤ length arcs → IsPart (take n arcs) arcs
front_part arcs n le a c =
    let long = length-take-le n arcs le in
    (c.0, omega (arith, c.1, long, le), sym (get_or-take n arcs c.0 a (omega (arith, c.1, long))) ∙ c.2)

-- the lengths of the longest walks are reached, and spread
pub longest_reached : (lowers : List ℕ) (arcs : List Arc) (lengths : List ℕ) → length lengths ≡ length lowers → AreLengths lowers arcs lengths → AreReached lowers arcs lengths
longest_reached lowers arcs lengths long are = record {
  sized = long;
  lowest = λ v. elim (cases_lt v (length lowers)) [
    | inl lt ↦ omega (arith, are.greatest v (v ∷ []) (lt, tt, refl))
    | inr le ↦ omega (arith, get_or_past lowers v 0 le)
  ];
  attained = λ v lt. let h = are.reached v lt in (h.0, h.1, omega (arith, h.2));
}

pub longest_spread : (lowers : List ℕ) (arcs : List Arc) (lengths : List ℕ) → AreWithin (length lowers) arcs → AreLengths lowers arcs lengths → AreSpread arcs lengths
longest_spread lowers arcs lengths within are k d lt = arc_bound lowers arcs within lengths are (get_or arcs k d) (contains_at arcs k d lt)

-- lengths that are reached still are with one arc more
pub reached_more : (lowers : List ℕ) (arcs : List Arc) (a : Arc) (lengths : List ℕ) → AreReached lowers arcs lengths → AreReached lowers (arcs ++ a ∷ []) lengths
reached_more lowers arcs a lengths reached =
    let part : IsPart arcs (arcs ++ a ∷ []) = λ b c. Contains-append_left arcs (a ∷ []) b c in
    record {
      sized = reached.sized;
      lowest = reached.lowest;
      attained = λ v lt.
          let h = reached.attained v lt in
          (h.0, walk_part lowers arcs (arcs ++ a ∷ []) part v h.0 h.1, omega (arith, h.2, walk_length_part lowers arcs (arcs ++ a ∷ []) part h.0));
    }

module _ (lowers : List ℕ) (arcs : List Arc) (begun ended : Threaded) (places : List ℕ) (marks : List Bool) (lengths : List ℕ) (trail : List Change) (starts : List ℕ) (stale room : ℕ)
    (kept : AreKept lowers arcs begun ended places marks lengths trail starts stale room) where
  pub kept_room : (new_room : ℕ) → new_room ≡ room → AreKept lowers arcs begun ended places marks lengths trail starts stale new_room
  kept_room new_room same = rw same kept

  pub kept_no_cycle : ArcsHaveCycle arcs → ⊥
  kept_no_cycle = rising_free arcs places kept.rising

  pub kept_no_node_twice : (v : ℕ) (nodes : List ℕ) → IsWalkTo lowers arcs v nodes → HasNoNodeTwice nodes
  kept_no_node_twice v nodes walk = walk_no_node_twice lowers arcs (λ u. get_or places u 0) (λ a c. All-contains (λ (z : Arc). get_or places z.from 0 < get_or places z.to 0) arcs a kept.rising c) v nodes walk

  pub kept_longest : (v : ℕ) → v < length lowers → IsLongestLength lowers arcs v (get_or lengths v 0)
  kept_longest v lt =
      let h = kept.longest.reached v lt in
      record {
        reached = (h.0, h.1, kept_no_node_twice v h.0 h.1, h.2);
        greatest = λ nodes walk once. kept.longest.greatest v nodes walk;
      }

  pub kept_no_cycle_back : (u v : ℕ) (found : Option (Vec ℕ Global)) → IfNone found ((way : List ℕ) → Leads arcs u v way → ⊥)
      → IfNone found ((by : ℕ) → ArcsHaveCycle (arcs ++ record { from = v; to = u; length = by } ∷ []) → ⊥)
  kept_no_cycle_back u v None none = λ by c. way_back arcs (record { from = v; to = u; length = by }) kept_no_cycle c none
  kept_no_cycle_back u v (Some x) none = tt

pub raised_before : (lowers : List ℕ) (arcs : List Arc) (lengths : List ℕ) (node lower : ℕ) → node < length lowers → get_or lowers node 0 < lower → AreReached lowers arcs lengths
    → (before : ℕ) × (before ≤ get_or (set lowers node lower) node 0) × AreReached (set (set lowers node lower) node before) arcs lengths
raised_before lowers arcs lengths node lower lt above reached =
    let here = get_or-set_same lowers node lower 0 lt in
    let back : set (set lowers node lower) node (get_or lowers node 0) ≡ lowers = set-set lowers node lower (get_or lowers node 0) ∙ set-get_or lowers node 0 in
    (get_or lowers node 0, omega (arith, above, here), subst (λ z. AreReached z arcs lengths) (sym back) reached)

module _ (lowers : List ℕ) (arcs : List Arc) (begun ended : Threaded) (places : List ℕ) (marks : List Bool) (lengths : List ℕ) (trail : List Change) (starts : List ℕ) (stale room : ℕ)
    (kept : AreKept lowers arcs begun ended places marks lengths trail starts stale room) where
  -- with the lower of a node raised
  pub kept_raised : (node lower : ℕ) (new : List ℕ) (cleared : List Change) (count new_room : ℕ) → WalksFit (set lowers node lower) arcs → AreReached (set lowers node lower) arcs new → AreSpread arcs new → cleared ≡ [] → count ≡ length arcs → new_room ≡ room
      → AreKept (set lowers node lower) arcs begun ended places marks new cleared starts count new_room
  kept_raised node lower new cleared count new_room fit reached spread none all same_room =
      let long = length-set lowers node lower in
      record {
        few = omega (arith, long, kept.few);
        a_place_each = omega (arith, long, kept.a_place_each);
        a_mark_each = omega (arith, long, kept.a_mark_each);
        a_length_each = reached.sized;
        room_for_each = omega (arith, long, same_room, kept.room_for_each);
        within = rw long kept.within;
        rising = kept.rising;
        begun_is = rw long kept.begun_is;
        ended_is = rw long kept.ended_is;
        longest = spread_lengths (set lowers node lower) arcs new reached spread;
        fit = fit;
        undone = undone_stale (set lowers node lower) arcs new starts cleared count kept.undone.sized none (omega (arith, all));
      }

  -- with an arc more
  pub kept_more : (a : Arc) (new_places : List ℕ) (new_marks : List Bool) (new : List ℕ) (told : Told) (new_trail : List Change) (new_stale count : ℕ) (tells : TellsMore (nothing_told room) told lengths new)
      → a.from < length lowers → a.to < length lowers → length new_places ≡ length lowers → length new_marks ≡ length lowers → AreRising (arcs ++ a ∷ []) new_places → WalksFit lowers (arcs ++ a ∷ [])
      → AreReached lowers (arcs ++ a ∷ []) new → AreSpread (arcs ++ a ∷ []) new → count ≡ length arcs + 1
      → ((new_stale ≡ stale) × (told.lost ≡ false) × (new_trail ≡ trail ++ told.entries)) ⊎ ((new_stale ≡ count) × (new_trail ≡ []))
      → AreKept lowers (arcs ++ a ∷ []) (threaded_with begun a.from) (threaded_with ended a.to) new_places new_marks new new_trail (starts ++ length trail ∷ []) new_stale told.grown.size
  kept_more a new_places new_marks new told new_trail new_stale count tells from to a_place a_mark rising fit reached spread is_count choice =
      let all = length-append arcs (a ∷ []) in
      record {
        few = kept.few;
        a_place_each = a_place;
        a_mark_each = a_mark;
        a_length_each = reached.sized;
        room_for_each = omega (arith, tells.room, kept.room_for_each);
        within = All-push (λ (z : Arc). (z.from < length lowers) × (z.to < length lowers)) arcs a kept.within (from, to);
        rising = rising;
        begun_is = rw (kept.begun_is, map-append (λ (z : Arc). z.from) arcs (a ∷ [])) refl;
        ended_is = rw (kept.ended_is, map-append (λ (z : Arc). z.to) arcs (a ∷ [])) refl;
        longest = spread_lengths lowers (arcs ++ a ∷ []) new reached spread;
        fit = fit;
        undone = elim choice [
          | inl h ↦
              let same : told.entries ≡ tells.more = tells.all h.1 in
              let nodes : All (λ c. c.node < length lowers) told.entries = λ k d lt. omega (arith, tells.within k (omega (arith, lt, ap length same)), kept.a_length_each, get_or-map (λ (c : Change). c.node) told.entries k d 0 lt, ap (λ (l : List Change). get_or (map (λ (c : Change). c.node) l) k 0) same) in
              rw (h.0, h.2) (undone_add lowers arcs lengths trail starts stale kept.undone a kept.longest new told.entries (ap (restored new) same ∙ tells.undone h.1) nodes)
          | inr h ↦ undone_stale lowers (arcs ++ a ∷ []) new (starts ++ length trail ∷ []) new_trail new_stale (omega (arith, all, length-append starts (length trail ∷ []), kept.undone.sized)) h.1 (omega (arith, all, h.0, is_count))
        ];
      }

  -- with the last arcs taken away
  module _ (left : ℕ) (less : left < length arcs) (old_begun old_ended : Threaded) (is_begun : old_begun ≡ record { size = begun.size; keys = take left begun.keys }) (is_ended : old_ended ≡ record { size = ended.size; keys = take left ended.keys }) where
    pub front_begun : old_begun ≡ record { size = length lowers; keys = begins (take left arcs) }
    front_begun = is_begun ∙ rw (kept.begun_is, take-map (λ (z : Arc). z.from) left arcs) refl

    front_ended : old_ended ≡ record { size = length lowers; keys = ends (take left arcs) }
    front_ended = is_ended ∙ rw (kept.ended_is, take-map (λ (z : Arc). z.to) left arcs) refl

    pub front_fits : WalksFit lowers (take left arcs)
    front_fits = fits_part lowers (take left arcs) arcs (front_part arcs left (omega (arith, less))) kept.fit

    kept_front : (new : List ℕ) (new_trail : List Change) (new_stale new_room : ℕ) → new_room ≡ room → length new ≡ length lowers → AreLengths lowers (take left arcs) new → AreUndone lowers (take left arcs) new new_trail (take left starts) new_stale
        → AreKept lowers (take left arcs) old_begun old_ended places marks new new_trail (take left starts) new_stale new_room
    kept_front new new_trail new_stale new_room same_room long longest undone = record {
      few = kept.few;
      a_place_each = kept.a_place_each;
      a_mark_each = kept.a_mark_each;
      a_length_each = long;
      room_for_each = omega (arith, same_room, kept.room_for_each);
      within = All-take (λ (z : Arc). (z.from < length lowers) × (z.to < length lowers)) left arcs kept.within;
      rising = All-take (λ (z : Arc). get_or places z.from 0 < get_or places z.to 0) left arcs kept.rising;
      begun_is = front_begun;
      ended_is = front_ended;
      longest = longest;
      fit = front_fits;
      undone = undone;
    }

    pub kept_undone : (new : List ℕ) (new_trail : List Change) (new_room : ℕ) → new_room ≡ room → stale ≤ left → length new ≡ length lowers → new ≡ restored lengths (drop (get_or starts left 0) trail) → new_trail ≡ take (get_or starts left 0) trail
        → AreKept lowers (take left arcs) old_begun old_ended places marks new new_trail (take left starts) stale new_room
    kept_undone new new_trail new_room same_room le long is_new is_trail =
        kept_front new new_trail stale new_room same_room long (rw is_new (kept.undone.each left le less)) (rw (is_new, is_trail) (undone_withdraw lowers arcs lengths trail starts stale kept.undone left le less))

    pub kept_anew : (new : List ℕ) (new_trail : List Change) (new_room : ℕ) → new_room ≡ room → AreReached lowers (take left arcs) new → AreSpread (take left arcs) new → new_trail ≡ []
        → AreKept lowers (take left arcs) old_begun old_ended places marks new new_trail (take left starts) left new_room
    kept_anew new new_trail new_room same_room reached spread none =
        let kept_arcs = length-take-le left arcs (omega (arith, less)) in
        let kept_starts = length-take-le left starts (omega (arith, less, kept.undone.sized)) in
        kept_front new new_trail left new_room same_room reached.sized (spread_lengths lowers (take left arcs) new reached spread) (undone_stale lowers (take left arcs) new (take left starts) new_trail left (omega (arith, kept_arcs, kept_starts)) none (omega (arith, kept_arcs)))

lone_fits : (lowers : List ℕ) → ((v : ℕ) → get_or lowers v 0 < 2 ^ 64) → WalksFit lowers []
lone_fits lowers each v [] walk = absurd walk
lone_fits lowers each v (u ∷ []) walk = omega (arith, each u)
lone_fits lowers each v (u ∷ w ∷ rest) walk = let a = joining [] u w walk.1.0 in absurd (Contains-nil a.0 a.1)

lone_bound : (lowers : List ℕ) (v : ℕ) (nodes : List ℕ) → IsWalkTo lowers [] v nodes → walk_length lowers [] nodes ≤ get_or lowers v 0
lone_bound lowers v [] walk = absurd walk
lone_bound lowers v (u ∷ []) walk = omega (arith, ap (λ z. get_or lowers z 0) walk.2)
lone_bound lowers v (u ∷ w ∷ rest) walk = let a = joining [] u w walk.1.0 in absurd (Contains-nil a.0 a.1)

lone_longest : (lowers : List ℕ) → AreLengths lowers [] lowers
lone_longest lowers = record {
  reached = λ v lt. (v ∷ [], (lt, tt, refl), omega arith);
  greatest = λ v nodes walk. lone_bound lowers v nodes walk;
}

pub kept_new : (lowers : List ℕ) (places : List ℕ) (marks : List Bool) (begun ended : Threaded) (room : ℕ) → room ≡ length lowers → length lowers < 2 ^ 32 → ((v : ℕ) → get_or lowers v 0 < 2 ^ 64) → length places ≡ length lowers → length marks ≡ length lowers
    → begun ≡ record { size = length lowers; keys = [] } → ended ≡ record { size = length lowers; keys = [] } → AreKept lowers [] begun ended places marks lowers [] [] 0 room
kept_new lowers places marks begun ended room a_room few each a_place a_mark is_begun is_ended = record {
  few = few;
  a_place_each = a_place;
  a_mark_each = a_mark;
  a_length_each = refl;
  room_for_each = a_room;
  within = All-nil (λ (a : Arc). (a.from < length lowers) × (a.to < length lowers));
  rising = All-nil (λ (a : Arc). get_or places a.from 0 < get_or places a.to 0);
  begun_is = is_begun;
  ended_is = is_ended;
  longest = lone_longest lowers;
  fit = lone_fits lowers each;
  undone = undone_stale lowers [] lowers [] [] 0 refl refl (omega arith);
}

-- what a write through a lent slice leaves in its `Vec`
pub written_back : {X : Type 0} (old new : List X) (n : ℕ) → length new ≡ n → take n (new ++ drop (length new) old) ≡ new
written_back old new n e = take_at new (drop (length new) old) n e

pub threads_are : (threads : Threaded) (n : ℕ) (keys : List ℕ) → threads.size ≡ n → threads.keys ≡ keys → threads ≡ record { size = n; keys = keys }
threads_are threads n keys e f = subst (λ z. threads ≡ record { size = z; keys = keys }) e (subst (λ w. threads ≡ record { size = threads.size; keys = w }) f refl)
