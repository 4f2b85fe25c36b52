-- Feeds that are opened, one after the other.
use Rattle.std.proofs.Common.{◌≡◌, ◌≢◌, ◌∙◌, ◌+◌, ◌<◌, ℕ, Bool, false, List, [], ◌∷◌, ◌++◌, All, Option, Some, length, map, take, get_or, slice_get, sym, ap, subst, arith}
use Rattle.std.proofs.lemmas.List.{map-append}
use Rattle.std.proofs.lemmas.List.Elements.{All-append}
use Rattle.disp_outside.specs.Lines.{HasLinesOf}
use Rattle.disp_outside.specs.States.{Holdings, Counts}
use Rattle.text_puts.proofs.Counting.{one_more, same_all}
use Rattle.rolling_driver.specs.Opened.{AreNew}
use Rattle.dispatch_cli.specs.declared.roll_no.RollNo.{RollNo}
use Rattle.dispatch_cli.specs.declared.roll_no.RollNo.TheVariants.{TooManyFeeds, Problem, FeedFailed, Memory}
use Rattle.dispatch_cli.specs.Feeds.{AreOpened, OpensOne, StopsFeed, StopsFeeds}

-- one element of a list of one
pub all_one : {X : Type 0} (P : X → Type 0) (x : X) → P x → All P (x ∷ [])
all_one P x holds = λ k d within. let at : k ≡ 0 = omega (arith, within) in rw at holds

-- what stops the next feed stops all
pub stops_more : (names : List (List ℕ)) (i : ℕ) (one : List ℕ) (number : ℕ) (old mid new : Counts) (why : RollNo) → slice_get names i ≡ Some one → number ≡ i
    → ((name : List ℕ) → mid name ≡ old name) → ((other : List ℕ) → other ≢ one → new other ≡ mid other) → StopsFeed one number mid new why → StopsFeeds names old new why
stops_more names i one number old mid new (TooManyFeeds count) at place quiet others stops = stops
stops_more names i one number old mid new (Problem cause) at place quiet others stops = stops
stops_more names i one number old mid new (FeedFailed told) at place quiet others stops = record {
  name = one;
  is = ap (slice_get names) (stops.0 ∙ place) ∙ at;
  risen = subst (λ (n : ℕ). n < new one) (quiet one) stops.1;
  others = λ other apart. others other apart ∙ quiet other;
}
stops_more names i one number old mid new Memory at place quiet others stops = λ name. same_all one mid new stops others name ∙ quiet name

-- where no count changed behind it, it stops them still
pub stops_still : (names : List (List ℕ)) (old mid new : Counts) (why : RollNo) → ((name : List ℕ) → new name ≡ mid name) → StopsFeeds names old mid why → StopsFeeds names old new why
stops_still names old mid new (TooManyFeeds count) same stops = stops
stops_still names old mid new (Problem cause) same stops = stops
stops_still names old mid new (FeedFailed number) same stops = record {
  name = stops.name;
  is = stops.is;
  risen = subst (λ (n : ℕ). old stops.name < n) (sym (same stops.name)) stops.risen;
  others = λ other apart. same other ∙ stops.others other apart;
}
stops_still names old mid new Memory same stops = λ name. same name ∙ stops name

module _ {F : Type 0} (name : F → List ℕ) (told : F → Option (List (List ℕ))) (has_ended : F → Bool) (faults : F → ℕ) where
  -- one more feed is open
  pub opened_more : (holds mid : Holdings) (names : List (List ℕ)) (i : ℕ) (one : List ℕ) (old new : List F) → i < length names → one ≡ get_or names i one
      → ((n : List ℕ) → mid n ≡ holds n) → AreOpened name told has_ended faults holds (take i names) old → OpensOne name told has_ended faults mid one old new
      → AreOpened name told has_ended faults holds (take (i + 1) names) new
  opened_more holds mid names i one old new within is held opened opens = record {
    names_are =
        ap (map name) opens.is ∙ map-append name old (opens.feed ∷ [])
        ∙ ap (λ (l : List (List ℕ)). l ++ name opens.feed ∷ []) opened.names_are
        ∙ ap (λ (n : List ℕ). take i names ++ n ∷ []) opens.name_is
        ∙ sym (one_more names i one within is);
    lines = subst (All (λ feed. HasLinesOf (holds (name feed)) (told feed))) (sym opens.is)
        (All-append (λ feed. HasLinesOf (holds (name feed)) (told feed)) old (opens.feed ∷ []) opened.lines
        (all_one (λ feed. HasLinesOf (holds (name feed)) (told feed)) opens.feed
        (subst (λ (file : Option (Option (List ℕ))). HasLinesOf file (told opens.feed)) (sym (ap holds opens.name_is ∙ sym (held one))) opens.lines)));
    are_new = subst (AreNew has_ended faults) (sym opens.is)
        (All-append (λ feed. (has_ended feed ≡ false) × (faults feed ≡ 0)) old (opens.feed ∷ []) opened.are_new
        (all_one (λ feed. (has_ended feed ≡ false) × (faults feed ≡ 0)) opens.feed (opens.is_open, opens.unbroken)));
  }

  -- the shelf knows the names of all
  pub known_more : (knows mid : List ℕ → Type 0) (holds : Holdings) (one : List ℕ) (old new : List F) → ((n : List ℕ) → knows n → mid n) → mid one
      → All (λ feed. knows (name feed)) old → OpensOne name told has_ended faults holds one old new → All (λ feed. mid (name feed)) new
  known_more knows mid holds one old new still known before opens =
      subst (All (λ feed. mid (name feed))) (sym opens.is)
      (All-append (λ feed. mid (name feed)) old (opens.feed ∷ [])
      (λ k d within. still (name (get_or old k d)) (before k d within))
      (all_one (λ feed. mid (name feed)) opens.feed (subst mid (sym opens.name_is) known)))

-- an item of a list, by another expression for it
pub read_at : (names : List (List ℕ)) (i : ℕ) (item one : List ℕ) → item ≡ get_or names i item → one ≡ item → one ≡ get_or names i one
read_at names i item one is same = subst (λ (n : List ℕ). n ≡ get_or names i n) (sym same) is
