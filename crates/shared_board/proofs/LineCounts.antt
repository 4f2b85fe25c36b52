-- Lines of a caller in a history that goes on.
use Rattle.std.proofs.Common.{◌≡◌, ◌≢◌, ◌∙◌, ℕ, suc, ◌+◌, ⊎_elim, Bool, true, false, List, [], ◌∷◌, ◌++◌, length, refl, sym, ap, subst, arith}
use Rattle.std.specs.Prelude.{Some, slice_get, if◌then◌else◌, nat_lt}
use Rattle.std.proofs.lemmas.List.Sums.{sum_by-append}
use Rattle.std.proofs.lemmas.Bool.{eqb-true}
use Rattle.plain_values.proofs.Lists.{contains_none_where}
use Rattle.disp_model.specs.declared.entry.Entry.{Entry}
use Rattle.disp_model.specs.declared.entry.Entry.TheVariants.{Asked, Unread, Shown, Grown, Published, Settled, Stopped}
use Rattle.turn_lock.specs.Known.{StartsWith, longer_of, shorter_of}
use Rattle.turn_lock.specs.Section.{IsFreshFrom, OwnsAt}
use Rattle.turn_lock.proofs.Beginnings.{either_bool, starts_refl}
use Rattle.shared_board.specs.Callers.{caller_of, is_line_of, lines_of}

-- the lines of an entry
abbrev pub lines_at : ℕ → Entry → ℕ
lines_at caller entry = if is_line_of caller entry then 1 else 0

pub lines_more : (caller : ℕ) (history : List Entry) (entry : Entry) → lines_of caller (history ++ entry ∷ []) ≡ lines_of caller history + lines_at caller entry
lines_more caller history entry = omega (arith, sum_by-append (λ e. lines_at caller e) history (entry ∷ []))

-- a line's entry names its caller
pub named_line : (caller : ℕ) (entry : Entry) → is_line_of caller entry ≡ true → caller_of entry ≡ Some caller
named_line caller (Asked feed line change reply) is = ap Some (eqb-true feed caller is)
named_line caller (Unread feed line why) is = ap Some (eqb-true feed caller is)
named_line caller (Shown feed line standing) is = ap Some (eqb-true feed caller is)
named_line caller (Grown searcher edition seen node splits) is = absurd (cc)
named_line caller (Published edition plan cost) is = absurd (cc)
named_line caller (Settled edition verdict tree) is = absurd (cc)
named_line caller (Stopped edition spent bound) is = absurd (cc)

-- entries that do not name the caller are no lines of it
none_named : (caller : ℕ) (entries : List Entry) → ((place : ℕ) (e : Entry) → slice_get entries place ≡ Some e → caller_of e ≢ Some caller) → lines_of caller entries ≡ 0
none_named caller [] fresh = refl
none_named caller (entry ∷ entries) fresh =
    let rest = none_named caller entries (λ place e there. fresh (suc place) e there) in
    let none : is_line_of caller entry ≡ false = ⊎_elim (λ (yes : is_line_of caller entry ≡ true). absurd (fresh 0 entry refl (named_line caller entry yes))) (λ (no : is_line_of caller entry ≡ false). no) (either_bool (is_line_of caller entry)) in
    let zero_here : lines_at caller entry ≡ 0 = ap (λ (b : Bool). if b then 1 else 0) none in
    omega (arith, sum_by-append (λ e. lines_at caller e) (entry ∷ []) entries)

pub behind_get : (seen rest : List Entry) (place : ℕ) → slice_get (seen ++ rest) (length seen + place) ≡ slice_get rest place
behind_get [] rest place = ap (slice_get rest) (omega arith)
behind_get (entry ∷ seen) rest place = ap (slice_get (entry ∷ seen ++ rest)) (shift (length seen) place) ∙ behind_get seen rest place
  where
    shift : (n m : ℕ) → suc n + m ≡ suc (n + m)
    shift n m = omega arith

-- past what was seen nothing names the caller, so what was seen has all its lines
pub fresh_lines : (caller : ℕ) (seen history : List Entry) → StartsWith history seen → IsFreshFrom caller_of caller (length seen) history → lines_of caller history ≡ lines_of caller seen
fresh_lines caller seen history (rest, is) fresh =
    let none = none_named caller rest (λ place e there. fresh (length seen + place) e (omega arith) (ap (λ (l : List Entry). slice_get l (length seen + place)) is ∙ (behind_get seen rest place ∙ there))) in
    ap (lines_of caller) is ∙ omega (arith, sum_by-append (λ e. lines_at caller e) seen rest, none)

-- a caller that owns no place has no line
pub no_lines : (caller : ℕ) (seen : List Entry) (back : List ℕ) → OwnsAt caller_of caller seen [] back → lines_of caller seen ≡ 0
no_lines caller seen back owns = none_named caller seen (λ place e there names. contains_none_where [] place refl (owns.own place e there names))

-- what two passes have seen begins with what either has
pub longer_begins : (xs ys : List Entry) → StartsWith (longer_of xs ys) (shorter_of xs ys) → StartsWith (longer_of xs ys) xs
longer_begins xs ys one = ⊎_elim
    (λ (yes : nat_lt (length xs) (length ys) ≡ true).
    let l : longer_of xs ys ≡ ys = ap (λ (b : Bool). if b then ys else xs) yes in let s : shorter_of xs ys ≡ xs = ap (λ (b : Bool). if b then xs else ys) yes in
    subst (StartsWith (longer_of xs ys)) s one)
    (λ (no : nat_lt (length xs) (length ys) ≡ false). let l : longer_of xs ys ≡ xs = ap (λ (b : Bool). if b then ys else xs) no in subst (λ (h : List Entry). StartsWith h xs) (sym l) (starts_refl xs))
    (either_bool (nat_lt (length xs) (length ys)))
