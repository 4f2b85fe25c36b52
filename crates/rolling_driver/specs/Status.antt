-- The status of a run.
use Rattle.std.specs.Prelude.{◌≡◌, ◌⊎◌, ◌↔◌, ℕ, List, Contains, IsTrue, Result, Err}
use Rattle.disp_model.specs.declared.entry.Mark.{Mark}
use Rattle.disp_model.specs.declared.entry.Mark.TheVariants.{Working, Optimal, Infeasible, Stopped}
use Rattle.feed_reader.specs.declared.read.Reading.{Reading}
use Rattle.feed_reader.specs.declared.read.Reading.TheVariants as reading
use Rattle.rolling_driver.specs.declared.status.Ended.{Ended}
use Rattle.journal_printer.specs.declared.no.PrintNo.{PrintNo}
use Rattle.journal_printer.specs.declared.no.PrintNo.TheVariants.{Unput, Unwritten, Memory}

-- the status for a mark
abbrev pub roll_status_of_mark : Mark → ℕ
roll_status_of_mark Working = 5
roll_status_of_mark (Optimal cost) = 0
roll_status_of_mark Infeasible = 1
roll_status_of_mark (Stopped spent bound) = 3

-- memory ran out where the printing stopped or a feed was read, or an edition is still worked on
abbrev pub WantsMemory : Mark → List Reading → Result (Unit {0}) PrintNo → Type 0
WantsMemory mark readings printed = (mark ≡ Working)
    ⊎ ((printed ≡ Err Memory) ⊎ Contains readings reading.Memory)

-- a putting, a write, or a reading of a feed failed
abbrev pub HasFailed : List Reading → Result (Unit {0}) PrintNo → Type 0
HasFailed readings printed = (printed ≡ Err Unput)
    ⊎ ((printed ≡ Err Unwritten) ⊎ Contains readings reading.Failed)

-- what is not want of memory: 2 where a feed has too many lines, else 4 where something failed,
-- else that of the mark
abbrev pub IsOtherStatus : Mark → List Reading → Result (Unit {0}) PrintNo → ℕ → Type 0
IsOtherStatus mark readings printed status =
    (Contains readings reading.TooMany × (status ≡ 2))
    ⊎ ((Contains readings reading.TooMany → ⊥)
    × ((HasFailed readings printed × (status ≡ 4))
    ⊎ ((HasFailed readings printed → ⊥) × (status ≡ roll_status_of_mark mark))))

abbrev pub IsStatus : Mark → List Reading → Result (Unit {0}) PrintNo → ℕ → Type 0
IsStatus mark readings printed status = (WantsMemory mark readings printed × (status ≡ 5))
    ⊎ ((WantsMemory mark readings printed → ⊥) × IsOtherStatus mark readings printed status)

-- what is noted of how readings ended
pub record AreEnded (readings : List Reading) (ended : Ended) : Type 0 where
  pub memory : IsTrue ended.memory ↔ Contains readings reading.Memory
  pub too_many : IsTrue ended.too_many ↔ Contains readings reading.TooMany
  pub failed : IsTrue ended.failed ↔ Contains readings reading.Failed
