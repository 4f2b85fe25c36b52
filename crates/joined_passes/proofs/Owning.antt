-- Whose an entry is, once all passes are joined.
use Rattle.std.proofs.Common.{◌≡◌, ◌≢◌, ◌∙◌, ℕ, zero, suc, ◌+◌, Bool, true, ◌<◌, ◌⊎◌, inl, inr, ⊎_elim, List, [], ◌∷◌, All, AllPairs, Contains, length, get_or, refl, sym, ap, arith}
use Rattle.std.specs.Prelude.{Some, slice_get, if◌then◌else◌}
use Rattle.std.proofs.lemmas.List.Sums.{sum_by-append}
use Rattle.std.proofs.lemmas.Bool.{cases_lt}
use Rattle.std.proofs.lemmas.List.{get_or_default}
use Rattle.std.proofs.lemmas.List.Elements.{All-contains, All-contains_itself, Contains-append_cases}
use Rattle.std.proofs.lemmas.Option.{slice_get_within}
use Rattle.plain_values.proofs.Lists.{contains_none_where}
use Rattle.disp_model.specs.declared.entry.Entry.{Entry}
use Rattle.turn_lock.specs.Known.{Known, StartsWith, joined_known}
use Rattle.turn_lock.specs.Section.{OwnsPlaces}
use Rattle.turn_lock.proofs.Beginnings.{starts_back, starts_none}
use Rattle.shared_board.specs.declared.terms.Terms.{Terms}
use Rattle.shared_board.specs.Callers.{caller_of, is_line_of, lines_of}
use Rattle.shared_board.specs.Onward.{entries_by}
use Rattle.shared_board.proofs.Onward.{fresh_entries}
use Rattle.shared_board.proofs.LineCounts.{lines_at}
use Rattle.joined_passes.specs.Joined.{joined_all, AreAllJoined}

module _ {E T : Type 0} where
  later : (w : Known E T) (ws : List (Known E T)) (u : Known E T) → Contains ws u → Contains (w ∷ ws) u
  later w ws u (k, within, is) = (suc k, omega arith, is)

  -- a place that the first pass has then was its own, or one of the others'
  pub place_of : (v : Known E T) (ws : List (Known E T)) (place : ℕ) → Contains (joined_all v ws).mine place → Contains v.mine place ⊎ ((w : Known E T) × Contains ws w × Contains w.mine place)
  place_of v [] place there = inl there
  place_of v (w ∷ ws) place there = ⊎_elim
      (λ front. ⊎_elim (λ own. inl own) (λ one. inr (w, (0, omega arith, refl), one)) (Contains-append_cases v.mine w.mine place front))
      (λ (rest : (u : Known E T) × Contains ws u × Contains u.mine place). inr (rest.0, later w ws rest.0 rest.1, rest.2))
      (place_of (joined_known v w) ws place there)

  -- of one caller there is one pass
  same_one : (ws : List (Known E T)) (w u : Known E T) → AllPairs (λ x y. x.caller ≢ y.caller) ws → Contains ws w → Contains ws u → w.caller ≡ u.caller → w ≡ u
  same_one ws w u apart (i, i_within, w_is) (j, j_within, u_is) same = ⊎_elim
      (λ below. absurd (apart i j w below j_within (caller_is w_is ∙ (same ∙ sym (caller_is (get_or_default ws j w u j_within ∙ u_is))))))
      (λ above. ⊎_elim
      (λ below. absurd (apart j i u below i_within (caller_is u_is ∙ (sym same ∙ sym (caller_is (get_or_default ws i u w i_within ∙ w_is))))))
      (λ under. let at : i ≡ j = omega arith in sym w_is ∙ (get_or_default ws i w u i_within ∙ (ap (λ (n : ℕ). get_or ws n u) at ∙ u_is)))
      (cases_lt j i))
      (cases_lt i j)
    where
      caller_is : {x y : Known E T} → x ≡ y → x.caller ≡ y.caller
      caller_is is = ap (λ (k : Known E T). k.caller) is

-- none of the entries is a line where there are none
pub no_line : (caller : ℕ) (entries : List Entry) (place : ℕ) (e : Entry) → lines_of caller entries ≡ 0 → slice_get entries place ≡ Some e → is_line_of caller e ≡ true → ⊥
no_line caller [] place e none there line = absurd (cc)
no_line caller (one ∷ entries) zero e none there line =
    let is : one ≡ e = cc in
    let counted : lines_at caller one ≡ 1 = ap (λ (b : Bool). if b then 1 else 0) (ap (is_line_of caller) is ∙ line) in
    omega (arith, counted, none, sum_by-append (λ e. lines_at caller e) (one ∷ []) entries)
no_line caller (one ∷ entries) (suc place) e none there line =
    no_line caller entries place e (omega (arith, none, sum_by-append (λ e. lines_at caller e) (one ∷ []) entries)) there line

module _ (v : Known Entry Terms) (ws : List (Known Entry Terms)) (history : List Entry) (are : AreAllJoined v ws history) where
  pub begins : (w : Known Entry Terms) → Contains ws w → StartsWith history w.seen
  begins w one = All-contains (λ u. StartsWith history u.seen) ws w are.starts one

  -- an entry that names a caller is one that the caller's pass has seen
  pub owner : (place : ℕ) (e : Entry) (caller : ℕ) → slice_get history place ≡ Some e → caller_of e ≡ Some caller
      → (w : Known Entry Terms) × Contains ws w × (w.caller ≡ caller) × (place < length w.seen)
  owner place e caller there names = by_place (place_of v ws place (are.covered place (slice_get_within history place e there)))
    where
      by_place : Contains v.mine place ⊎ ((w : Known Entry Terms) × Contains ws w × Contains w.mine place)
          → (w : Known Entry Terms) × Contains ws w × (w.caller ≡ caller) × (place < length w.seen)
      by_place (inl own) = absurd (contains_none_where v.mine place are.none own)
      by_place (inr (w, one, mine)) =
          let owns = All-contains (OwnsPlaces caller_of) ws w are.own one in let within = owns.within place mine in
          let seen = starts_back history w.seen (begins w one) place e within there in
          let its : w.caller ≡ caller = ⊎_elim
          (λ is. sym is)
          (λ back. absurd (contains_none_where w.back caller (All-contains (λ u. u.back ≡ []) ws w are.alone one) back))
          (owns.others place e caller mine seen names) in (w, one, its, within)

  own_one : (w : Known Entry Terms) → Contains ws w → entries_by w.caller history ≡ entries_by w.caller w.seen
  own_one w one = fresh_entries w.caller w.seen history (begins w one) (λ place e past there names.
      let found = owner place e w.caller there names in let same = same_one ws found.0 w are.apart found.1 one found.2 in
      let long : length found.0.seen ≡ length w.seen = ap (λ (k : Known Entry Terms). length k.seen) same in
      let within = found.3 in omega arith)

  pub own_all : All (λ w. entries_by w.caller history ≡ entries_by w.caller w.seen) ws
  own_all k d within = own_one (get_or ws k d) (All-contains_itself ws k d within)

  pub none_of : (caller : ℕ) → All (λ w. w.caller ≢ caller) ws → entries_by caller history ≡ []
  none_of caller other = fresh_entries caller [] history (starts_none history) (λ place e past there names.
      let found = owner place e caller there names in All-contains (λ w. w.caller ≢ caller) ws found.0 other found.1 found.2)
