-- The texts of the three versions, and what has one.
use Rattle.std.specs.Prelude.{◌≡◌, ℕ, zero, suc, ◌+◌, ◌≤◌, List, [], ◌∷◌, ◌++◌, codes, Bool, true, false, Option, Some, None, All}
use Rattle.std.specs.Fmt.{decimal}
use Rattle.disp_model.specs.declared.tree.TreeNode.{TreeNode}
use Rattle.disp_model.specs.Trees.{FitsNode, FitsVerdict}
use Rattle.tree_certificate.specs.declared.word.Version.{Version}
use Rattle.tree_certificate.specs.declared.word.Version.TheVariants.{First, Second, Third}
use Rattle.tree_certificate.specs.TreeTexts.{body_text, needs_third}
use Rattle.tree_certificate.specs.NodesRead.{places_opened}
use Rattle.tree_certificate.specs.TreesRead.{TreeRead}

abbrev pub version_line : Version → List ℕ
version_line First = codes "displib-tree 1\n"
version_line Second = codes "displib-tree 2\n"
version_line Third = codes "displib-tree 3\n"

-- the version of what is written
abbrev pub later_version : Bool → Version
later_version true = Third
later_version false = Second

abbrev pub edition_head : Option ℕ → List ℕ
edition_head None = []
edition_head (Some edition) = codes "edition " ++ decimal edition ++ codes "\n"

abbrev pub version_text : Version → TreeRead → List ℕ
version_text version read = version_line version ++ edition_head read.edition
    ++ body_text read.verdict read.tree

-- the first version names no edition, the others one up to 65535
abbrev pub FitsEdition : Version → Option ℕ → Type 0
FitsEdition First None = Unit {0}
FitsEdition First (Some edition) = ⊥
FitsEdition Second None = ⊥
FitsEdition Second (Some edition) = edition ≤ 65535
FitsEdition Third None = ⊥
FitsEdition Third (Some edition) = edition ≤ 65535

-- the version has lines for the nodes
abbrev pub VersionHasLines : Version → List TreeNode → Type 0
VersionHasLines First tree = needs_third tree ≡ false
VersionHasLines Second tree = needs_third tree ≡ false
VersionHasLines Third tree = Unit {0}

-- the nodes, in preorder, fill so many open places: each has its children, and no node is left
abbrev pub CompletesTree : ℕ → List TreeNode → Type 0
CompletesTree zero [] = Unit {0}
CompletesTree (suc places) [] = ⊥
CompletesTree zero (n ∷ tree) = ⊥
CompletesTree (suc places) (n ∷ tree) = CompletesTree (places + places_opened n) tree

-- the bytes are the text of a tree within the limits, each of whose branches has its children
pub record IsText (bytes : List ℕ) (version : Version) (read : TreeRead) : Type 0 where
  pub edition_fits : FitsEdition version read.edition
  pub verdict_fits : FitsVerdict read.verdict
  pub nodes_fit : All FitsNode read.tree
  pub complete : CompletesTree 1 read.tree
  pub lines : VersionHasLines version read.tree
  pub text : bytes ≡ version_text version read
