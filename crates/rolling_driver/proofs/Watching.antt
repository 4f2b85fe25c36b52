-- A pass that looks, again and again.
use Rattle.std.proofs.Common.{
  ◌≡◌,
  ◌∙◌,
  ℕ,
  ◌≤◌,
  List,
  [],
  ◌∷◌,
  ◌++◌,
  length,
  drop,
  refl,
  sym,
  ap,
  subst,
}
use Rattle.std.proofs.lemmas.List.{append_assoc, drop-append-le}
use Rattle.disp_model.specs.declared.entry.Entry.{Entry}
use Rattle.turn_lock.specs.Known.{Known, StartsWith}
use Rattle.turn_lock.proofs.Beginnings.{starts_refl}
use Rattle.shared_board.specs.declared.pass.Pass.{Pass}
use Rattle.shared_board.specs.declared.terms.Terms.{Terms}
use Rattle.shared_board.specs.Board.{own_board, known, lines}
use Rattle.shared_board.specs.Calls.{Looked}
use Rattle.shared_board.proofs.Entries.{role_looked}
use Rattle.rolling_driver.specs.Printed.{Watches}

pub watches_refl : (pass : Pass) → Watches pass pass
watches_refl pass = record {
  board_is = refl;
  lines_are = refl;
  role = record { first = refl; caller = refl; terms = refl; given = refl; back = refl };
  starts = starts_refl (known pass).seen;
  mine_is = refl;
  owns = λ own. own;
}

pub watches_watches : (one two three : Pass) → Watches one two → Watches two three
    → Watches one three
watches_watches one two three first second = record {
  board_is = second.board_is ∙ first.board_is;
  lines_are = second.lines_are ∙ first.lines_are;
  role = record {
    first = second.role.first ∙ first.role.first;
    caller = second.role.caller ∙ first.role.caller;
    terms = second.role.terms ∙ first.role.terms;
    given = second.role.given ∙ first.role.given;
    back = second.role.back ∙ first.role.back;
  };
  starts = (
    first.starts.0 ++ second.starts.0,
    second.starts.1 ∙ ap (λ (l : List Entry). l ++ second.starts.0) first.starts.1
        ∙ append_assoc (known one).seen first.starts.0 second.starts.0,
  );
  mine_is = second.mine_is ∙ first.mine_is;
  owns = λ own. second.owns (first.owns own);
}

-- one look
pub looked_watches : (before after : Pass) → own_board after ≡ own_board before
    → lines after ≡ lines before → Looked (known before) (known after) → Watches before after
looked_watches before after same counted (core, looks) = record {
  board_is = same;
  lines_are = counted;
  role = role_looked (known before) core (known after) looks;
  starts = subst (λ (l : List Entry). StartsWith l (known before).seen)
      (sym (ap (λ (k : Known Entry Terms). k.seen) looks.knows)) looks.found.begins.starts;
  mine_is = ap (λ (k : Known Entry Terms). k.mine) looks.knows;
  owns = λ own. looks.owns;
}

-- what is behind some of those seen, and then what comes
pub seen_behind : (fetched : ℕ) (seen more : List Entry) → fetched ≤ length seen
    → StartsWith more seen → drop fetched more ≡ drop fetched seen ++ drop (length seen) more
seen_behind fetched seen more within (rest, is) =
    ap (drop fetched) is ∙ drop-append-le fetched seen rest within
    ∙ ap (λ (l : List Entry). drop fetched seen ++ l)
    (sym (ap (drop (length seen)) is ∙ whole seen rest))
  where
    whole : (xs ys : List Entry) → drop (length xs) (xs ++ ys) ≡ ys
    whole [] [] = refl
    whole [] (y ∷ ys) = refl
    whole (x ∷ xs) ys = whole xs ys
