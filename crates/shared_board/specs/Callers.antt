-- What the lock reads off the core, and off an entry.
use Rattle.std.specs.Prelude.{ℕ, ◌+◌, ◌-◌, ◌==◌, Bool, false, List, length, count_by, Option, None, Some}
use Rattle.disp_model.specs.declared.entry.Entry.{Entry}
use Rattle.disp_model.specs.declared.entry.Entry.TheVariants.{Asked, Unread, Shown, Grown, Published, Settled, Stopped}
use Rattle.dispatch_core.specs.States.{Core}
use Rattle.shared_board.specs.declared.terms.Terms.{Terms}

-- what never changes of a core
abbrev pub terms_of : Core → Terms
terms_of core = record {
  problem = core.problem;
  settings = core.settings;
  feeds = length core.ended;
  searchers = length core.left;
}

-- the caller of a searcher
abbrev pub searcher_caller : ℕ → ℕ
searcher_caller searcher = 256 + searcher

-- the searcher of a caller
abbrev pub searcher_of : ℕ → ℕ
searcher_of caller = caller - 256

-- the caller that an entry names
abbrev pub caller_of : Entry → Option ℕ
caller_of (Asked feed line change reply) = Some feed
caller_of (Unread feed line why) = Some feed
caller_of (Shown feed line standing) = Some feed
caller_of (Grown searcher edition seen node splits) = Some (searcher_caller searcher)
caller_of (Published edition plan cost) = None
caller_of (Settled edition verdict tree) = None
caller_of (Stopped edition spent bound) = None

-- the entry is of a line of this caller
abbrev pub is_line_of : ℕ → Entry → Bool
is_line_of caller (Asked feed line change reply) = feed == caller
is_line_of caller (Unread feed line why) = feed == caller
is_line_of caller (Shown feed line standing) = feed == caller
is_line_of caller (Grown searcher edition seen node splits) = false
is_line_of caller (Published edition plan cost) = false
is_line_of caller (Settled edition verdict tree) = false
is_line_of caller (Stopped edition spent bound) = false

-- how many lines of the caller have an entry
abbrev pub lines_of : ℕ → List Entry → ℕ
lines_of caller history = count_by (is_line_of caller) history
