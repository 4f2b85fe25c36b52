-- What the lock's rule keeps of passes, and how steps change that.
use Rattle.std.specs.Prelude.{ℕ, true, false, [], ◌∷◌, ◌++◌, length, max, None, Some}
use Rattle.turn_lock.specs.declared.pass.View.{View}
use Rattle.turn_lock.specs.declared.pass.Meeting.{Meeting}
use Rattle.turn_lock.specs.Known.{Known, longer_of, shorter_of}

module _ {E : Type 0} where
  abbrev pub no_meeting : Meeting E
  no_meeting = record { past = 0; kept = []; brought = []; longer = []; shorter = [] }

module _ {E T : Type 0} where
  -- what the pass knows
  abbrev pub known_of : View E T → Known E T
  known_of v = record {
    first = v.first;
    caller = v.caller;
    terms = v.terms;
    seen = v.seen;
    mine = v.mine;
    count = v.count;
    tries = v.tries;
    given = v.given;
    back = v.back;
  }

  abbrev pub first_view : ℕ → T → View E T
  first_view caller terms = record {
    first = true;
    spent = false;
    caller = caller;
    terms = Some terms;
    seen = [];
    mine = [];
    count = 0;
    tries = 0;
    given = [];
    back = [];
    holding = false;
    held = [];
    met = no_meeting;
  }

  abbrev pub given_view : View E T → ℕ → View E T
  given_view v caller = record {
    first = false;
    spent = false;
    caller = caller;
    terms = v.terms;
    seen = v.seen;
    mine = [];
    count = v.count;
    tries = 0;
    given = [];
    back = [];
    holding = false;
    held = [];
    met = no_meeting;
  }

  abbrev pub spent_view : View E T
  spent_view = record {
    first = false;
    spent = true;
    caller = 0;
    terms = None;
    seen = [];
    mine = [];
    count = 0;
    tries = 0;
    given = [];
    back = [];
    holding = false;
    held = [];
    met = no_meeting;
  }

  -- after a pass was given to the caller
  abbrev pub giving : View E T → ℕ → View E T
  giving v caller = record v { given = v.given ++ caller ∷ [] }

  -- after the other pass was joined
  abbrev pub joining : View E T → View E T → View E T
  joining v w = record v {
    seen = longer_of v.seen w.seen;
    mine = v.mine ++ w.mine;
    count = max v.count w.count;
    back = v.back ++ w.caller ∷ [];
    met = record {
      past = length v.seen;
      kept = v.mine;
      brought = w.mine;
      longer = longer_of v.seen w.seen;
      shorter = shorter_of v.seen w.seen;
    };
  }
