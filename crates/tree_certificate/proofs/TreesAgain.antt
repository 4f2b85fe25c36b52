-- What was written is read again as the same.
use Rattle.std.proofs.Common.{◌≡◌, inl, inr, ℕ, ◌≤◌, Bool, true, false, List, [], ◌∷◌, ◌++◌, length, All, Option, Some, None, Result, Ok, Err, refl, sym, ap, ◌∙◌, append_assoc, arith, length-append}
use Rattle.std.specs.Prelude.{codes, ◌||◌, MatchResult}
use Rattle.std.specs.List.{flat_map}
use Rattle.std.specs.Fmt.{decimal}
use Rattle.std.proofs.lemmas.List.Elements.{All-nil, All-cons, All-append}
use Rattle.disp_model.specs.declared.decision.Choice.TheVariants.{Route, Order, Run}
use Rattle.disp_model.specs.declared.tree.Leaf.TheVariants.{NoRoute, Cycle, Late, Costs, Shares}
use Rattle.disp_model.specs.declared.tree.TreeNode.{TreeNode}
use Rattle.disp_model.specs.declared.tree.TreeNode.TheVariants.{Branch, Leaf}
use Rattle.disp_model.specs.declared.tree.Verdict.{Verdict}
use Rattle.disp_model.specs.declared.tree.Verdict.TheVariants.{Optimal, Infeasible}
use Rattle.disp_model.specs.declared.limits.TheConstants.{GREATEST_COST}
use Rattle.disp_model.specs.Trees.{FitsNode, FitsVerdict}
use Rattle.tree_certificate.specs.declared.fault.TreeNo.{TreeNo}
use Rattle.tree_certificate.specs.declared.fault.TreeNo.TheVariants as no
use Rattle.tree_certificate.specs.declared.word.Version.{Version}
use Rattle.tree_certificate.specs.declared.word.Version.TheVariants.{First, Second, Third}
use Rattle.tree_certificate.specs.TreeTexts.{node_text, verdict_line, is_third, needs_third, later_text, body_text, tree_text}
use Rattle.tree_certificate.specs.FieldsRead.{HasNone, line_ended}
use Rattle.tree_certificate.specs.TreesRead.{TreeRead, version_word_at, version_at, edition_line_at, edition_at, optimal_at, infeasible_at, verdict_at, end_at, is_third_version, tree_at, read_of, AnswersTree}
use Rattle.tree_certificate.specs.Versions.{version_line, edition_head, FitsEdition, VersionHasLines, CompletesTree, IsText, later_version}
use Rattle.tree_certificate.proofs.FieldsAgain.{none_by, none_in_number, last_again}
use Rattle.tree_certificate.proofs.FieldsTaken.{ok_is}
use Rattle.tree_certificate.proofs.LinesAgain.{NotEnd, line_again, three}
use Rattle.tree_certificate.proofs.NodesAgain.{HasLine, nodes_again}

version_again : (version : Version) (rest : List ℕ) → version_at (version_line version ++ rest) ≡ Ok (version, rest)
unfolding version_at version_word_at line_ended
version_again First rest = rw (line_again (codes "displib-tree 1") rest (none_by 10 (codes "displib-tree 1") refl)) refl
version_again Second rest = rw (line_again (codes "displib-tree 2") rest (none_by 10 (codes "displib-tree 2") refl)) refl
version_again Third rest = rw (line_again (codes "displib-tree 3") rest (none_by 10 (codes "displib-tree 3") refl)) refl

edition_line_again : (e : ℕ) (rest : List ℕ) → e ≤ 65535 → edition_line_at (edition_head (Some e) ++ rest) ≡ Ok (Some e, rest)
unfolding edition_line_at line_ended
edition_line_again e rest within =
    let none : HasNone 10 (codes "edition " ++ decimal e) = All-append NotEnd (codes "edition ") (decimal e) (none_by 10 (codes "edition ") refl) (none_in_number 10 e (omega (arith, within)) (omega arith)) in
    ap edition_line_at (three (codes "edition ") (decimal e) (codes "\n") rest)
    ∙ rw (line_again (codes "edition " ++ decimal e) rest none, last_again _ 65535 e within (omega arith)) refl

edition_again : (version : Version) (edition : Option ℕ) (rest : List ℕ) → FitsEdition version edition → edition_at version (edition_head edition ++ rest) ≡ Ok (edition, rest)
unfolding edition_at
edition_again First None rest fits = refl
edition_again First (Some e) rest fits = absurd fits
edition_again Second None rest fits = absurd fits
edition_again Second (Some e) rest fits = edition_line_again e rest fits
edition_again Third None rest fits = absurd fits
edition_again Third (Some e) rest fits = edition_line_again e rest fits

verdict_again : (verdict : Verdict) (rest : List ℕ) → FitsVerdict verdict → verdict_at (verdict_line verdict ++ rest) ≡ Ok (verdict, rest)
unfolding verdict_at optimal_at infeasible_at line_ended
verdict_again (Optimal cost) rest fits =
    let none : HasNone 10 (codes "verdict optimal " ++ decimal cost) = All-append NotEnd (codes "verdict optimal ") (decimal cost) (none_by 10 (codes "verdict optimal ") refl) (none_in_number 10 cost (omega (arith, fits)) (omega arith)) in
    ap verdict_at (three (codes "verdict optimal ") (decimal cost) (codes "\n") rest)
    ∙ rw (line_again (codes "verdict optimal " ++ decimal cost) rest none, last_again _ GREATEST_COST cost fits (omega arith)) refl
verdict_again Infeasible rest fits = rw (line_again (codes "verdict infeasible") rest (none_by 10 (codes "verdict infeasible") refl)) refl

end_again : end_at (codes "end\n") ≡ Ok tt
unfolding end_at line_ended
end_again = rw (line_again (codes "end") [] (none_by 10 (codes "end") refl)) refl

node_some : (n : TreeNode) → 1 ≤ length (node_text n)
node_some (Branch (Route o) k) = omega arith
node_some (Branch (Order a b) k) = omega arith
node_some (Branch (Run o) k) = omega arith
node_some (Leaf NoRoute) = omega arith
node_some (Leaf (Cycle ops)) = omega arith
node_some (Leaf (Late ops)) = omega arith
node_some (Leaf (Costs walks)) = omega arith
node_some (Leaf (Shares walks trains)) = omega arith

nodes_len : (tree : List TreeNode) → length tree ≤ length (flat_map node_text tree)
nodes_len [] = omega arith
nodes_len (n ∷ tree) = omega (arith, length-append (node_text n) (flat_map node_text tree), node_some n, nodes_len tree)

none_third : (tree : List TreeNode) → needs_third tree ≡ false → All (HasLine false) tree
none_third [] none = All-nil (HasLine false)
none_third (n ∷ tree) none = All-cons (HasLine false) n tree (inr (left_false (is_third n) (needs_third tree) none)) (none_third tree (right_false (is_third n) (needs_third tree) none))
  where
    left_false : (a b : Bool) → (a || b) ≡ false → a ≡ false
    left_false true b e = absurd cc
    left_false false b e = refl

    right_false : (a b : Bool) → (a || b) ≡ false → b ≡ false
    right_false true b e = absurd cc
    right_false false b e = e

all_third : (tree : List TreeNode) → All (HasLine true) tree
all_third tree k d lt = inl refl

have_lines : (version : Version) (tree : List TreeNode) → VersionHasLines version tree → All (HasLine (is_third_version version)) tree
have_lines First tree lines = none_third tree lines
have_lines Second tree lines = none_third tree lines
have_lines Third tree lines = all_third tree

start : (a b c d : List ℕ) → a ++ b ++ c ++ d ≡ a ++ (b ++ c ++ d)
start a b c d = simp append_assoc

pub regroup : (a b c d e : List ℕ) → a ++ b ++ (c ++ d ++ e) ≡ a ++ (b ++ (c ++ (d ++ e)))
regroup a b c d e = simp append_assoc

pub tree_again : (bytes : List ℕ) (version : Version) (read : TreeRead) → IsText bytes version read → tree_at bytes ≡ Ok read
unfolding tree_at
tree_again bytes version read is =
    let long : length read.tree ≤ length (flat_map node_text read.tree ++ codes "end\n") = omega (arith, nodes_len read.tree, length-append (flat_map node_text read.tree) (codes "end\n")) in
    ap tree_at (is.text ∙ regroup (version_line version) (edition_head read.edition) (verdict_line read.verdict) (flat_map node_text read.tree) (codes "end\n"))
    ∙ rw (
      version_again version (edition_head read.edition ++ (verdict_line read.verdict ++ (flat_map node_text read.tree ++ codes "end\n"))),
      edition_again version read.edition (verdict_line read.verdict ++ (flat_map node_text read.tree ++ codes "end\n")) is.edition_fits,
      verdict_again read.verdict (flat_map node_text read.tree ++ codes "end\n") is.verdict_fits,
      nodes_again (is_third_version version) (length (flat_map node_text read.tree ++ codes "end\n")) 1 read.tree (codes "end\n") long is.complete is.nodes_fit (have_lines version read.tree is.lines),
      end_again,
    ) refl

-- a text is answered by what it says, unless memory runs out
pub only_text : (bytes : List ℕ) (version : Version) (read : TreeRead) (answer : Result (Option ℕ × Verdict × List TreeNode) TreeNo)
    → MatchResult answer (λ x. tree_at bytes ≡ Ok (read_of x.0 x.1 x.2)) (λ why. AnswersTree bytes why (tree_at bytes)) → IsText bytes version read
    → MatchResult answer (λ x. read_of x.0 x.1 x.2 ≡ read) (λ why. why ≡ no.Memory)
only_text bytes version read (Ok x) exact is = let t = tree_again bytes version read is in ok_is (read_of x.0 x.1 x.2) read (sym exact ∙ t)
only_text bytes version read (Err no.Memory) exact is = refl
only_text bytes version read (Err (no.BadLine n)) exact is = let t = tree_again bytes version read is in let e = sym exact.1 ∙ t in absurd cc
only_text bytes version read (Err (no.TooLarge n)) exact is = let t = tree_again bytes version read is in let e = sym exact.1 ∙ t in absurd cc
only_text bytes version read (Err no.Truncated) exact is = let t = tree_again bytes version read is in let e = sym exact.1 ∙ t in absurd cc
only_text bytes version read (Err (no.Trailing n)) exact is = let t = tree_again bytes version read is in let e = sym exact.1 ∙ t in absurd cc

-- what is written is a text of the version that the nodes need
written_by : (third : Bool) (edition : ℕ) (verdict : Verdict) (tree : List TreeNode) → needs_third tree ≡ third → edition ≤ 65535 → FitsVerdict verdict → All FitsNode tree → CompletesTree 1 tree
    → IsText (later_text third edition ++ body_text verdict tree) (later_version third) (read_of (Some edition) verdict tree)
written_by true edition verdict tree is within verdict_fits fits complete = record {
  edition_fits = within;
  verdict_fits = verdict_fits;
  nodes_fit = fits;
  complete = complete;
  lines = tt;
  text = ap (λ (l : List ℕ). l ++ body_text verdict tree) (start (codes "displib-tree 3\n") (codes "edition ") (decimal edition) (codes "\n"));
}
written_by false edition verdict tree is within verdict_fits fits complete = record {
  edition_fits = within;
  verdict_fits = verdict_fits;
  nodes_fit = fits;
  complete = complete;
  lines = is;
  text = ap (λ (l : List ℕ). l ++ body_text verdict tree) (start (codes "displib-tree 2\n") (codes "edition ") (decimal edition) (codes "\n"));
}

pub written_text : (edition : ℕ) (verdict : Verdict) (tree : List TreeNode) → edition ≤ 65535 → FitsVerdict verdict → All FitsNode tree → CompletesTree 1 tree
    → IsText (tree_text edition verdict tree) (later_version (needs_third tree)) (read_of (Some edition) verdict tree)
written_text edition verdict tree within verdict_fits fits complete = written_by (needs_third tree) edition verdict tree refl within verdict_fits fits complete

pub written_again : (edition : ℕ) (verdict : Verdict) (tree : List TreeNode) → edition ≤ 65535 → FitsVerdict verdict → All FitsNode tree → CompletesTree 1 tree
    → tree_at (tree_text edition verdict tree) ≡ Ok (read_of (Some edition) verdict tree)
written_again edition verdict tree within verdict_fits fits complete =
    tree_again (tree_text edition verdict tree) (later_version (needs_third tree)) (read_of (Some edition) verdict tree) (written_text edition verdict tree within verdict_fits fits complete)

pub says_one : (bytes : List ℕ) (v w : Version) (one other : TreeRead) → IsText bytes v one → IsText bytes w other → one ≡ other
says_one bytes v w one other is also = ok_is one other (sym (tree_again bytes v one is) ∙ tree_again bytes w other also)
