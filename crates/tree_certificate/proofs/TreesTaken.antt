-- What is read is a text of what it is read as.
use Rattle.std.proofs.Common.{◌≡◌, inl, inr, ℕ, Bool, true, false, List, [], ◌∷◌, ◌++◌, length, All, Option, Some, None, Result, Ok, Err, refl, sym, ap, subst, ◌∙◌, arith}
use Rattle.std.specs.Prelude.{codes, ⊤, ◌||◌, IfOk, MatchResult}
use Rattle.std.specs.List.{flat_map}
use Rattle.std.specs.Fmt.{decimal}
use Rattle.std.proofs.lemmas.List.{append-nil}
use Rattle.std.proofs.lemmas.List.Elements.{All-head, All-tail}
use Rattle.disp_model.specs.declared.tree.TreeNode.{TreeNode}
use Rattle.disp_model.specs.declared.tree.Verdict.{Verdict}
use Rattle.disp_model.specs.declared.tree.Verdict.TheVariants.{Optimal, Infeasible}
use Rattle.disp_model.specs.declared.limits.TheConstants.{GREATEST_COST}
use Rattle.disp_model.specs.Trees.{FitsVerdict}
use Rattle.tree_certificate.specs.declared.fault.TreeNo.{TreeNo}
use Rattle.tree_certificate.specs.declared.word.Version.{Version}
use Rattle.tree_certificate.specs.declared.word.Version.TheVariants.{First, Second, Third}
use Rattle.tree_certificate.specs.TreeTexts.{node_text, verdict_line, is_third, needs_third}
use Rattle.tree_certificate.specs.FieldsRead.{behind, field_number, line_ended, word_at}
use Rattle.tree_certificate.specs.LinesRead.{line_at}
use Rattle.tree_certificate.specs.NodesRead.{nodes_at}
use Rattle.tree_certificate.specs.TreesRead.{TreeRead, version_word_at, version_at, edition_line_at, edition_at, optimal_at, infeasible_at, verdict_by, verdict_at, nothing_behind, end_at, is_third_version, tree_at, read_of, AnswersTree}
use Rattle.tree_certificate.specs.Versions.{version_line, edition_head, version_text, FitsEdition, VersionHasLines, IsText}
use Rattle.tree_certificate.proofs.FieldsTaken.{bind_ok, ok_is, field_taken, end_taken, behind_taken, word_taken, or_word_taken}
use Rattle.tree_certificate.proofs.LinesAgain.{three}
use Rattle.tree_certificate.proofs.LinesTaken.{line_taken}
use Rattle.tree_certificate.proofs.NodesAgain.{HasLine}
use Rattle.tree_certificate.proofs.NodesTaken.{nodes_taken}
use Rattle.tree_certificate.proofs.TreesAgain.{regroup}

-- the first line without its end
abbrev version_word : Version → List ℕ
version_word First = codes "displib-tree 1"
version_word Second = codes "displib-tree 2"
version_word Third = codes "displib-tree 3"

took : (line : List ℕ) (v : Version) (x : Version × List ℕ) → (behind (version_word v) line ≡ Some x.1) × (v ≡ x.0) → line ≡ version_word x.0 ++ x.1
took line v x h = subst (λ (w : Version). line ≡ version_word w ++ x.1) h.1 (behind_taken (version_word v) line x.1 h.0)

version_word_taken : (left : ℕ) (line : List ℕ) (x : Version × List ℕ) → version_word_at left line ≡ Ok x → line ≡ version_word x.0 ++ x.1
unfolding version_word_at
version_word_taken left line x e =
    elim (or_word_taken (behind (codes "displib-tree 1") line) First _ x e) [
      | inl h ↦ took line First x h
      | inr e1 ↦
          elim (or_word_taken (behind (codes "displib-tree 2") line) Second _ x e1) [
            | inl h ↦ took line Second x h
            | inr e2 ↦
                elim (or_word_taken (behind (codes "displib-tree 3") line) Third _ x e2) [ inl h ↦ took line Third x h | inr e3 ↦ absurd cc ]
          ]
    ]

version_ends : (version : Version) (rest : List ℕ) → (version_word version ++ []) ++ 10 ∷ rest ≡ version_line version ++ rest
version_ends First rest = refl
version_ends Second rest = refl
version_ends Third rest = refl

version_taken : (bytes : List ℕ) (x : Version × List ℕ) → version_at bytes ≡ Ok x → bytes ≡ version_line x.0 ++ x.1
unfolding version_at
version_taken bytes x e =
    let l = bind_ok (line_at bytes) _ x e in
    let v = bind_ok (version_word_at (length bytes) l.0.0) _ x l.2 in
    let d = bind_ok (line_ended (length bytes) v.0.1) _ x v.2 in
    let line = line_taken bytes l.0.0 l.0.1 l.1 in
    let word = version_word_taken (length bytes) l.0.0 v.0 v.1 in
    let none = end_taken (length bytes) v.0.1 d.0 d.1 in
    let text : bytes ≡ version_line v.0.0 ++ l.0.1 =
    line ∙ ap (λ (k : List ℕ). k ++ 10 ∷ l.0.1) (word ∙ ap (λ (k : List ℕ). version_word v.0.0 ++ k) none) ∙ version_ends v.0.0 l.0.1 in
    subst (λ (y : Version × List ℕ). bytes ≡ version_line y.0 ++ y.1) (ok_is {A = Version × List ℕ} (v.0.0, l.0.1) x d.2) text

-- the edition's line
abbrev IsLaterEdition : List ℕ → (Option ℕ × List ℕ) → Type 0
IsLaterEdition bytes x = (bytes ≡ edition_head x.0 ++ x.1) × FitsEdition Third x.0

edition_line_taken : (bytes : List ℕ) (x : Option ℕ × List ℕ) → edition_line_at bytes ≡ Ok x → IsLaterEdition bytes x
unfolding edition_line_at
edition_line_taken bytes x e =
    let l = bind_ok (line_at bytes) _ x e in
    let f = bind_ok (word_at (length bytes) (codes "edition") l.0.0) _ x l.2 in
    let n = bind_ok (field_number (length bytes) 65535 f.0) _ x f.2 in
    let d = bind_ok (line_ended (length bytes) n.0.1) _ x n.2 in
    let line = line_taken bytes l.0.0 l.0.1 l.1 in
    let word = word_taken (length bytes) (codes "edition") l.0.0 f.0 f.1 in
    let number = field_taken (length bytes) 65535 f.0 n.0.0 n.0.1 (omega arith) n.1 in
    let none = end_taken (length bytes) n.0.1 d.0 d.1 in
    let text : bytes ≡ edition_head (Some n.0.0) ++ l.0.1 =
    line ∙ ap (λ (k : List ℕ). k ++ 10 ∷ l.0.1) (word ∙ ap (λ (k : List ℕ). codes "edition" ++ k) (number.0 ∙ ap (λ (k : List ℕ). 32 ∷ (decimal n.0.0 ++ k)) none ∙ ap (λ (k : List ℕ). 32 ∷ k) (append-nil (decimal n.0.0))))
    ∙ sym (three (codes "edition ") (decimal n.0.0) (codes "\n") l.0.1) in
    subst (IsLaterEdition bytes) (ok_is {A = Option ℕ × List ℕ} (Some n.0.0, l.0.1) x d.2) (text, number.1)

same_limit : (edition : Option ℕ) → FitsEdition Third edition → FitsEdition Second edition
same_limit None fits = fits
same_limit (Some e) fits = fits

edition_taken : (version : Version) (bytes : List ℕ) (x : Option ℕ × List ℕ) → edition_at version bytes ≡ Ok x → (bytes ≡ edition_head x.0 ++ x.1) × FitsEdition version x.0
unfolding edition_at
edition_taken First bytes x e = subst (λ (y : Option ℕ × List ℕ). (bytes ≡ edition_head y.0 ++ y.1) × FitsEdition First y.0) (ok_is {A = Option ℕ × List ℕ} (None, bytes) x e) (refl, tt)
edition_taken Second bytes x e = let is = edition_line_taken bytes x e in (is.0, same_limit x.0 is.1)
edition_taken Third bytes x e = edition_line_taken bytes x e

-- the verdict's line
abbrev IsVerdict : List ℕ → Verdict → Type 0
IsVerdict line verdict = ((rest : List ℕ) → line ++ 10 ∷ rest ≡ verdict_line verdict ++ rest) × FitsVerdict verdict

optimal_taken : (left : ℕ) (fields : List ℕ) (verdict : Verdict) → optimal_at left fields ≡ Ok verdict → IsVerdict (codes "verdict optimal" ++ fields) verdict
unfolding optimal_at
optimal_taken left fields verdict e =
    let n = bind_ok (field_number left GREATEST_COST fields) _ verdict e in
    let d = bind_ok (line_ended left n.0.1) _ verdict n.2 in
    let number = field_taken left GREATEST_COST fields n.0.0 n.0.1 (omega arith) n.1 in
    let none = end_taken left n.0.1 d.0 d.1 in
    let text : fields ≡ 32 ∷ decimal n.0.0 = number.0 ∙ ap (λ (k : List ℕ). 32 ∷ (decimal n.0.0 ++ k)) none ∙ ap (λ (k : List ℕ). 32 ∷ k) (append-nil (decimal n.0.0)) in
    subst (IsVerdict (codes "verdict optimal" ++ fields)) (ok_is (Optimal n.0.0) verdict d.2)
    (λ rest. ap (λ (k : List ℕ). (codes "verdict optimal" ++ k) ++ 10 ∷ rest) text ∙ sym (three (codes "verdict optimal ") (decimal n.0.0) (codes "\n") rest), number.1)

infeasible_taken : (left : ℕ) (line : List ℕ) (verdict : Verdict) → infeasible_at left line ≡ Ok verdict → IsVerdict line verdict
unfolding infeasible_at
infeasible_taken left line verdict e =
    let f = bind_ok (word_at left (codes "verdict infeasible") line) _ verdict e in
    let d = bind_ok (line_ended left f.0) _ verdict f.2 in
    let word = word_taken left (codes "verdict infeasible") line f.0 f.1 in
    let none = end_taken left f.0 d.0 d.1 in
    subst (IsVerdict line) (ok_is Infeasible verdict d.2)
    (λ rest. ap (λ (k : List ℕ). k ++ 10 ∷ rest) (word ∙ ap (λ (k : List ℕ). codes "verdict infeasible" ++ k) none), tt)

verdict_by_taken : (o : Option (List ℕ)) (left : ℕ) (line : List ℕ) (verdict : Verdict) → behind (codes "verdict optimal") line ≡ o → verdict_by o left line ≡ Ok verdict → IsVerdict line verdict
verdict_by_taken None left line verdict is e = infeasible_taken left line verdict e
verdict_by_taken (Some fields) left line verdict is e =
    subst (λ (l : List ℕ). IsVerdict l verdict) (sym (behind_taken (codes "verdict optimal") line fields is)) (optimal_taken left fields verdict e)

verdict_taken : (bytes : List ℕ) (x : Verdict × List ℕ) → verdict_at bytes ≡ Ok x → (bytes ≡ verdict_line x.0 ++ x.1) × FitsVerdict x.0
unfolding verdict_at
verdict_taken bytes x e =
    let l = bind_ok (line_at bytes) _ x e in
    let v = bind_ok (verdict_by (behind (codes "verdict optimal") l.0.0) (length bytes) l.0.0) _ x l.2 in
    let line = line_taken bytes l.0.0 l.0.1 l.1 in
    let is = verdict_by_taken (behind (codes "verdict optimal") l.0.0) (length bytes) l.0.0 v.0 refl v.1 in
    subst (λ (y : Verdict × List ℕ). (bytes ≡ verdict_line y.0 ++ y.1) × FitsVerdict y.0) (ok_is {A = Verdict × List ℕ} (v.0, l.0.1) x v.2) (line ∙ is.0 l.0.1, is.1)

none_behind : (rest : List ℕ) (x : ⊤) → nothing_behind rest ≡ Ok x → rest ≡ []
none_behind [] x e = refl
none_behind (b ∷ rest) x e = absurd cc

last_taken : (bytes : List ℕ) (x : ⊤) → end_at bytes ≡ Ok x → bytes ≡ codes "end\n"
unfolding end_at
last_taken bytes x e =
    let l = bind_ok (line_at bytes) _ x e in
    let f = bind_ok (word_at (length bytes) (codes "end") l.0.0) _ x l.2 in
    let d = bind_ok (line_ended (length bytes) f.0) _ x f.2 in
    let line = line_taken bytes l.0.0 l.0.1 l.1 in
    let word = word_taken (length bytes) (codes "end") l.0.0 f.0 f.1 in
    let none = end_taken (length bytes) f.0 d.0 d.1 in
    let last = none_behind l.0.1 x d.2 in
    line ∙ ap (λ (k : List ℕ). k ++ 10 ∷ l.0.1) (word ∙ ap (λ (k : List ℕ). codes "end" ++ k) none) ∙ ap (λ (k : List ℕ). codes "end\n" ++ k) last

-- no node needs the third version where all have lines without it
none_needs : (tree : List TreeNode) → All (HasLine false) tree → needs_third tree ≡ false
none_needs [] have = refl
none_needs (n ∷ tree) have = neither (is_third n) (needs_third tree) (not_third n (All-head (HasLine false) n tree have)) (none_needs tree (All-tail (HasLine false) n tree have))
  where
    neither : (a b : Bool) → a ≡ false → b ≡ false → (a || b) ≡ false
    neither true b e f = absurd cc
    neither false b e f = f

    not_third : (m : TreeNode) → HasLine false m → is_third m ≡ false
    not_third m (inl e) = absurd cc
    not_third m (inr e) = e

have_lines : (version : Version) (tree : List TreeNode) → All (HasLine (is_third_version version)) tree → VersionHasLines version tree
have_lines First tree have = none_needs tree have
have_lines Second tree have = none_needs tree have
have_lines Third tree have = tt

abbrev Says : List ℕ → TreeRead → Type 0
Says bytes read = (version : Version) × IsText bytes version read

pub tree_taken : (bytes : List ℕ) (read : TreeRead) → tree_at bytes ≡ Ok read → (version : Version) × IsText bytes version read
unfolding tree_at
tree_taken bytes read e =
    let v = bind_ok (version_at bytes) _ read e in
    let ed = bind_ok (edition_at v.0.0 v.0.1) _ read v.2 in
    let vd = bind_ok (verdict_at ed.0.1) _ read ed.2 in
    let ns = bind_ok (nodes_at (is_third_version v.0.0) (length vd.0.1) 1 vd.0.1) _ read vd.2 in
    let d = bind_ok (end_at ns.0.1) _ read ns.2 in
    let first = version_taken bytes v.0 v.1 in
    let second = edition_taken v.0.0 v.0.1 ed.0 ed.1 in
    let third = verdict_taken ed.0.1 vd.0 vd.1 in
    let nodes = nodes_taken (is_third_version v.0.0) (length vd.0.1) 1 vd.0.1 ns.0 ns.1 in
    let last = last_taken ns.0.1 d.0 d.1 in
    let text : bytes ≡ version_text v.0.0 (read_of ed.0.0 vd.0.0 ns.0.0) =
    first ∙ ap (λ (k : List ℕ). version_line v.0.0 ++ k) (second.0 ∙ ap (λ (k : List ℕ). edition_head ed.0.0 ++ k) (third.0 ∙ ap (λ (k : List ℕ). verdict_line vd.0.0 ++ k) (nodes.0 ∙ ap (λ (k : List ℕ). flat_map node_text ns.0.0 ++ k) last)))
    ∙ sym (regroup (version_line v.0.0) (edition_head ed.0.0) (verdict_line vd.0.0) (flat_map node_text ns.0.0) (codes "end\n")) in
    let is : IsText bytes v.0.0 (read_of ed.0.0 vd.0.0 ns.0.0) = record {
      edition_fits = second.1;
      verdict_fits = third.1;
      nodes_fit = nodes.1;
      complete = nodes.3;
      lines = have_lines v.0.0 ns.0.0 nodes.2;
      text = text;
    } in
    subst (Says bytes) (ok_is (read_of ed.0.0 vd.0.0 ns.0.0) read d.2) (v.0.0, is)

pub found_text : (bytes : List ℕ) (answer : Result (Option ℕ × Verdict × List TreeNode) TreeNo)
    → MatchResult answer (λ x. tree_at bytes ≡ Ok (read_of x.0 x.1 x.2)) (λ why. AnswersTree bytes why (tree_at bytes))
    → IfOk answer (λ x. (version : Version) × IsText bytes version (read_of x.0 x.1 x.2))
found_text bytes (Ok x) exact = tree_taken bytes (read_of x.0 x.1 x.2) exact
found_text bytes (Err why) exact = tt
