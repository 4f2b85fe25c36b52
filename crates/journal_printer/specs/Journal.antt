-- The journal as text, and the trees that are put beside it.
use Rattle.std.specs.Prelude.{ℕ, List, [], ◌∷◌, ◌++◌, Option, Some, None}
use Rattle.std.specs.Fmt.{decimal}
use Rattle.std.specs.List.{flat_map}
use Rattle.disp_model.specs.declared.entry.Entry.{Entry}
use Rattle.disp_model.specs.declared.entry.Entry.TheVariants.{
  Asked,
  Unread,
  Shown,
  Grown,
  Published,
  Settled,
  Stopped,
}
use Rattle.disp_model.specs.declared.tree.TreeNode.{TreeNode}
use Rattle.disp_model.specs.declared.tree.Verdict.{Verdict}
use Rattle.fixing_lines.specs.Entries.{entry_text}
use Rattle.text_puts.specs.declared.put.Put.{Put}
use Rattle.tree_certificate.specs.TreeTexts.{tree_text}

-- the lines of entries, one after the other
abbrev pub journal_text : List Entry → List ℕ
journal_text entries = flat_map entry_text entries

-- the text of the tree of an edition, as a file
abbrev pub tree_file : ℕ → Verdict × List TreeNode → List ℕ
tree_file edition settled = tree_text edition settled.0 settled.1

-- the name for the tree of an edition
abbrev pub tree_name : List ℕ → ℕ → List ℕ
tree_name prefix edition = prefix ++ decimal edition

-- what is to be put before the line of an entry, where trees are asked for: the tree of a settled
-- edition
abbrev pub entry_puts : Option (List ℕ) → Entry → List Put
entry_puts None entry = []
entry_puts (Some prefix) (Asked feed line change reply) = []
entry_puts (Some prefix) (Unread feed line why) = []
entry_puts (Some prefix) (Shown feed line standing) = []
entry_puts (Some prefix) (Grown searcher edition seen node splits) = []
entry_puts (Some prefix) (Published edition plan cost) = []
entry_puts (Some prefix) (Settled edition verdict tree) =
    record { name = tree_name prefix edition; bytes = tree_file edition (verdict, tree) } ∷ []
entry_puts (Some prefix) (Stopped edition spent bound) = []

-- the trees of entries, one after the other
abbrev pub tree_puts : Option (List ℕ) → List Entry → List Put
tree_puts trees entries = flat_map (entry_puts trees) entries
