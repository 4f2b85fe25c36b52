-- The passes of a run that are joined.
use Rattle.std.proofs.Common.{◌≡◌, ◌∙◌, ℕ, inl, List, [], ◌∷◌, ◌++◌, All, Contains, map, refl, sym, ap, subst, append_assoc}
use Rattle.disp_model.specs.declared.entry.Entry.{Entry}
use Rattle.turn_lock.specs.Known.{Known, IsLast, StartsWith, joined_known}
use Rattle.turn_lock.specs.Section.{OwnsPlaces}
use Rattle.shared_board.specs.declared.board.Board.{Board}
use Rattle.shared_board.specs.declared.pass.Pass.{Pass}
use Rattle.shared_board.specs.declared.terms.Terms.{Terms}
use Rattle.shared_board.specs.Board.{own_board, known}
use Rattle.shared_board.specs.Callers.{caller_of}
use Rattle.joined_passes.specs.Joined.{caller_at, joined_all, Joins}
use Rattle.crew_runs.specs.declared.searcher.Searcher.{Searcher}
use Rattle.feed_runs.specs.declared.reader.Reader.{Reader}
use Rattle.rolling_driver.specs.Ended.{MayEnd, known_of, reader_passes, searcher_passes}
use Rattle.rolling_driver.specs.Printed.{Watches}

-- joining these and then those is joining both
joined_both : (v : Known Entry Terms) (us ws : List (Known Entry Terms)) → joined_all v (us ++ ws) ≡ joined_all (joined_all v us) ws
joined_both v [] ws = refl
joined_both v (u ∷ us) ws = joined_both (joined_known v u) us ws

starts_on : (l m n : List Entry) → StartsWith l m → StartsWith m n → StartsWith l n
starts_on l m n (more, one) (rest, two) = (rest ++ more, one ∙ ap (λ (x : List Entry). x ++ more) two ∙ append_assoc n rest more)

module _ {F : Type 0} (board : Board) (first then both last : Pass) (readers : List (Reader F)) (searchers : List Searcher) (may : MayEnd board first readers searchers)
    (one : Joins first (reader_passes readers) then) (two : Joins then (searcher_passes searchers) both) (watches : Watches both last) where
  pub last_board : own_board last ≡ own_board first
  last_board = watches.board_is ∙ (two.board_is ∙ one.board_is)

  pub last_owns : OwnsPlaces caller_of (known last)
  last_owns = watches.owns (two.owns (inl (one.owns (inl may.owns))))

  back : (known last).back ≡ (known first).back ++ map caller_at (reader_passes readers) ++ map caller_at (searcher_passes searchers)
  back = watches.role.back ∙ (two.back ∙ ap (λ (l : List ℕ). l ++ map caller_at (searcher_passes searchers)) one.back)

  pub last_one : IsLast (known last)
  last_one = (
    watches.role.first ∙ (two.first ∙ (one.first ∙ may.is_first)),
    λ caller there. subst (λ (l : List ℕ). Contains l caller) (sym back)
        (may.given caller (subst (λ (l : List ℕ). Contains l caller) (watches.role.given ∙ (two.given ∙ one.given)) there)),
  )

  pub last_terms : (known last).terms ≡ (known first).terms
  last_terms = watches.role.terms ∙ (two.terms ∙ one.terms)

  pub last_mine : (known last).mine ≡ (joined_all (known first) (known_of readers searchers)).mine
  last_mine =
      watches.mine_is
      ∙ ap (λ (k : Known Entry Terms). k.mine)
      (two.knows ∙ (ap (λ (k : Known Entry Terms). joined_all k (map known (searcher_passes searchers))) one.knows
      ∙ sym (joined_both (known first) (map known (reader_passes readers)) (map known (searcher_passes searchers)))))

  pub last_starts : StartsWith (known last).seen (known first).seen
  last_starts = starts_on (known last).seen (known both).seen (known first).seen watches.starts (starts_on (known both).seen (known then).seen (known first).seen two.starts one.starts)

  pub last_readers : All (λ pass. StartsWith (known last).seen (known pass).seen) (reader_passes readers)
  last_readers k d within =
      starts_on (known last).seen (known both).seen _ watches.starts (starts_on (known both).seen (known then).seen _ two.starts (one.each k d within))

  pub last_searchers : All (λ pass. StartsWith (known last).seen (known pass).seen) (searcher_passes searchers)
  last_searchers k d within = starts_on (known last).seen (known both).seen _ watches.starts (two.each k d within)
