-- Which changes are taken back, and which fixings stand, one change after the other.
use Rattle.std.proofs.Common.{◌≡◌, ◌≢◌, ◌∙◌, ℕ, zero, suc, ◌+◌, ◌<◌, ◌≤◌, Bool, true, false, inl, inr, List, [], ◌∷◌, ◌++◌, length, take, drop, get_or, set, add-one, drop-cons, ne_eqb, refl, sym, ap, subst, arith}
use Rattle.std.specs.Prelude.{◌||◌, Some, slice_get, map, replicate}
use Rattle.std.proofs.Math.Bool.{or-false}
use Rattle.std.proofs.lemmas.Bool.{cases_Bool, cases_eq, eq-eqb}
use Rattle.std.proofs.lemmas.List.{append_assoc, length-replicate, length-set, get_or-replicate, length-take, take_all, take_more}
use Rattle.std.proofs.lemmas.List.Folds.{list_any-append, list_any_none}
use Rattle.std.proofs.lemmas.Option.{get_or_from_slice_get, same_Some, slice_get_read, slice_get_within, slice_get-get_or}
use Rattle.disp_model.specs.declared.fixing.Change.{Change}
use Rattle.disp_model.specs.declared.fixing.Change.TheVariants.{Fix, Withdraw}
use Rattle.disp_model.specs.declared.fixing.Fixing.{Fixing}
use Rattle.disp_model.specs.declared.problem.Problem.{Problem}
use Rattle.disp_model.specs.declared.reply.Reply.TheVariants.{Accepted}
use Rattle.disp_model.specs.Changes.{withdraws, is_withdrawn, standing_from, standing_of}
use Rattle.disp_model.specs.Replies.{IsReply, IsEdition}
use Rattle.fixing_editions.proofs.Accepting.{accepted_back, change_within}
use Rattle.open_nodes.proofs.Places.{get_set_same, get_set_other}
use Rattle.dispatch_core.specs.Falling.{noted_by, fixings_left_standing, AreTakenBack}

-- ---- one more change

-- what takes a fixing back is an earlier change or the last one
withdrawn_push : (n : ℕ) (changes : List Change) (change : Change) → is_withdrawn n (changes ++ change ∷ []) ≡ (is_withdrawn n changes || withdraws n change)
withdrawn_push n changes change = list_any-append (withdraws n) changes (change ∷ []) ∙ ap (λ (b : Bool). is_withdrawn n changes || b) (or-false (withdraws n change))

or_true : (b : Bool) → (b || true) ≡ true
or_true true = refl
or_true false = refl

-- of the first changes, the flag of each change is set exactly where one of them takes it back
pub record AreNoted (changes : List Change) (taken : List Bool) (count : ℕ) : Type 0 where
  pub long : length taken ≡ length changes
  pub each : (i : ℕ) (flag : Bool) → slice_get taken i ≡ Some flag → flag ≡ is_withdrawn (i + 1) (take count changes)

pub none_noted : (changes : List Change) → AreNoted changes (replicate (length changes) false) 0
none_noted changes = record {
  long = length-replicate (length changes) false;
  each = λ i flag at. let lt : i < length changes = omega (arith, slice_get_within (replicate (length changes) false) i flag at, length-replicate (length changes) false) in
      sym (get_or_from_slice_get (replicate (length changes) false) i flag false at) ∙ get_or-replicate (length changes) i false false lt;
}

-- a flag after one more change, by the flag before
flag_by : (taken : List Bool) (front : List Change) (change : Change) → ((i : ℕ) (flag : Bool) → slice_get taken i ≡ Some flag → flag ≡ is_withdrawn (i + 1) front)
    → (i : ℕ) (flag : Bool) → slice_get (noted_by taken change) i ≡ Some flag → flag ≡ (is_withdrawn (i + 1) front || withdraws (i + 1) change)
flag_by taken front (Fix fixing) each i flag at = each i flag at ∙ sym (or-false (is_withdrawn (i + 1) front))
flag_by taken front (Withdraw zero) each i flag at =
    each i flag at ∙ sym (ap (λ (b : Bool). is_withdrawn (i + 1) front || b) (ne_eqb 0 (i + 1) (λ e. omega (arith, e))) ∙ or-false (is_withdrawn (i + 1) front))
flag_by taken front (Withdraw (suc p)) each i flag at = elim (cases_eq i p) [
  | inl e ↦
      let lt : i < length taken = omega (arith, slice_get_within (set taken p true) i flag at, length-set taken p true) in
      let was : slice_get taken i ≡ Some (get_or taken i false) = slice_get-get_or taken i false lt in
      let now : slice_get (set taken p true) i ≡ Some true = subst (λ (n : ℕ). slice_get (set taken n true) i ≡ Some true) e (get_set_same taken i true (get_or taken i false) was) in
      let one : suc p ≡ i + 1 = omega (arith, e) in
      same_Some flag true (sym at ∙ now) ∙ sym (ap (λ (b : Bool). is_withdrawn (i + 1) front || b) (eq-eqb (suc p) (i + 1) one) ∙ or_true (is_withdrawn (i + 1) front))
  | inr other ↦
      let ne : suc p ≢ i + 1 = λ e. other (omega (arith, e)) in
      each i flag (sym (get_set_other taken p i true other) ∙ at)
      ∙ sym (ap (λ (b : Bool). is_withdrawn (i + 1) front || b) (ne_eqb (suc p) (i + 1) ne) ∙ or-false (is_withdrawn (i + 1) front))
]

pub long_by : (taken : List Bool) (change : Change) → length (noted_by taken change) ≡ length taken
long_by taken (Fix fixing) = refl
long_by taken (Withdraw zero) = refl
long_by taken (Withdraw (suc p)) = length-set taken p true

pub more_noted : (changes : List Change) (taken : List Bool) (k : ℕ) (d : Change) → k < length changes → AreNoted changes taken k → AreNoted changes (noted_by taken (get_or changes k d)) (k + 1)
more_noted changes taken k d lt noted = record {
  long = long_by taken (get_or changes k d) ∙ noted.long;
  each = λ i flag at.
      flag_by taken (take k changes) (get_or changes k d) noted.each i flag at
      ∙ sym (ap (is_withdrawn (i + 1)) (take_more changes k d lt) ∙ withdrawn_push (i + 1) (take k changes) (get_or changes k d));
}

pub all_noted : (changes : List Change) (taken : List Bool) (k : ℕ) → length changes ≤ k → AreNoted changes taken k → AreTakenBack changes taken
all_noted changes taken k le noted = (noted.long, λ i flag at. noted.each i flag at ∙ ap (is_withdrawn (i + 1)) (take_all k changes le))

-- ---- what stands of the changes from a place on

abbrev pub standing_rest : List Change → ℕ → List Fixing
standing_rest changes place = map (λ p. p.1) (standing_from changes (place + 1) (drop place changes))

stands_first : (all rest : List Change) (n : ℕ) (change : Change) (taken : Bool) → taken ≡ is_withdrawn n all
    → map (λ p. p.1) (standing_from all n (change ∷ rest)) ≡ fixings_left_standing change taken ++ map (λ p. p.1) (standing_from all (n + 1) rest)
stands_first all rest n (Withdraw number) taken is = refl
stands_first all rest n (Fix fixing) true is = rw (sym is) refl
stands_first all rest n (Fix fixing) false is = rw (sym is) refl

rest_opens : (changes : List Change) (taken : List Bool) (k : ℕ) (d : Change) (flag : Bool) → AreTakenBack changes taken → flag ≡ get_or taken k flag → k < length changes
    → standing_rest changes k ≡ fixings_left_standing (get_or changes k d) flag ++ standing_rest changes (k + 1)
rest_opens changes taken k d flag are flag_is lt =
    let opens : drop k changes ≡ get_or changes k d ∷ drop (k + 1) changes = rw (add-one, drop-cons changes k d) refl in
    let is : flag ≡ is_withdrawn (k + 1) changes = are.1 k flag (slice_get_read taken (length taken) k flag refl (omega (arith, lt, are.0)) flag_is) in
    ap (λ (l : List Change). map (λ p. p.1) (standing_from changes (k + 1) l)) opens ∙ stands_first changes (drop (k + 1) changes) (k + 1) (get_or changes k d) flag is

-- the loop's step: what is kept, before what stands of the rest, is what stands
pub stands_more : (changes : List Change) (taken : List Bool) (k : ℕ) (d : Change) (flag : Bool) (kept : List Fixing) → AreTakenBack changes taken → flag ≡ get_or taken k flag → k < length changes
    → kept ++ standing_rest changes k ≡ standing_of changes → (kept ++ fixings_left_standing (get_or changes k d) flag) ++ standing_rest changes (k + 1) ≡ standing_of changes
stands_more changes taken k d flag kept are flag_is lt all =
    append_assoc kept (fixings_left_standing (get_or changes k d) flag) (standing_rest changes (k + 1)) ∙ ap (λ (l : List Fixing). kept ++ l) (sym (rest_opens changes taken k d flag are flag_is lt)) ∙ all

-- ---- a fixing at the end

-- an accepted withdrawal takes back no later change
no_later : (problem : Problem) (before : List Change) (change : Change) (n number : ℕ) → IsReply problem before change (Accepted n) → length before < number → withdraws number change ≡ false
no_later problem before (Fix fixing) n number reply lt = refl
no_later problem before (Withdraw k) n number reply lt =
    let back = accepted_back before k n reply in
    let found = change_within before k (Fix back.fixing) back.there in
    ne_eqb k number (λ e. omega (arith, found.1, found.2, lt, e))

next_stays : (problem : Problem) (changes : List Change) → IsEdition problem changes → is_withdrawn (1 + length changes) changes ≡ false
next_stays problem changes edition = list_any_none (withdraws (1 + length changes)) changes (λ k d lt.
    no_later problem (take k changes) (get_or changes k d) (k + 1) (1 + length changes) (edition k (get_or changes k d) (slice_get-get_or changes k d lt)) (omega (arith, lt, length-take k changes)))

behind_from : (all other : List Change) → ((n : ℕ) → is_withdrawn n all ≡ is_withdrawn n other) → (m : ℕ) (changes : List Change) (fixing : Fixing) → is_withdrawn (m + length changes) other ≡ false
    → map (λ p. p.1) (standing_from all m (changes ++ Fix fixing ∷ [])) ≡ map (λ p. p.1) (standing_from other m changes) ++ fixing ∷ []
behind_from all other same m [] fixing none =
    let here : is_withdrawn m all ≡ false = same m ∙ subst (λ (n : ℕ). is_withdrawn n other ≡ false) (omega arith) none in
    rw here refl
behind_from all other same m (Withdraw k ∷ changes) fixing none =
    behind_from all other same (m + 1) changes fixing (subst (λ (n : ℕ). is_withdrawn n other ≡ false) (omega arith) none)
behind_from all other same m (Fix own ∷ changes) fixing none =
    let later : map (λ p. p.1) (standing_from all (m + 1) (changes ++ Fix fixing ∷ [])) ≡ map (λ p. p.1) (standing_from other (m + 1) changes) ++ fixing ∷ [] =
    behind_from all other same (m + 1) changes fixing (subst (λ (n : ℕ). is_withdrawn n other ≡ false) (omega arith) none) in
    elim (cases_Bool (is_withdrawn m other)) [
      | inl is ↦ rw (same m, is) later
      | inr is ↦ rw (same m, is) (ap (λ (l : List Fixing). own ∷ l) later)
    ]

-- an accepted fixing stands behind the others
pub stands_behind : (problem : Problem) (changes : List Change) (fixing : Fixing) → IsEdition problem changes → standing_of (changes ++ Fix fixing ∷ []) ≡ standing_of changes ++ fixing ∷ []
stands_behind problem changes fixing edition =
    behind_from (changes ++ Fix fixing ∷ []) changes (λ n. withdrawn_push n changes (Fix fixing) ∙ or-false (is_withdrawn n changes)) 1 changes fixing (next_stays problem changes edition)
