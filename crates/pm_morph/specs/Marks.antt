-- Marks on the records of a hierarchy, and how a geomorph ends.
use Rattle.std.specs.Prelude.{◌≡◌, ℕ, Bool, List, length, Option, Some, None, Result, Ok, Err}
use Rattle.pm_io.specs.Bytes.{Gains, GainsPart}
use Rattle.pm_io.specs.Causes.{Rose}
use Rattle.pm_forest.specs.Forest.{Hierarchy, record_count}
use Rattle.pm_base.specs.Counts.{set_of}
use Rattle.pm_beyond.specs.Moves.{IsClosed}
use Rattle.pm_morph.specs.declared.marker.MorphFail.{MorphFail}
use Rattle.pm_morph.specs.declared.marker.MorphFail.TheVariants as fails

-- There is a mark for each record of the hierarchy, and the marked ones are a closed set.
pub record AreMarksOf (h : Hierarchy) (marks : List Bool) : Type 0 where
  pub mark_len : length marks ≡ record_count h
  pub closed : IsClosed h (set_of marks)

-- How a geomorph ends, by the marked record that isn't split, if there is one, and the text that is
-- due.
abbrev pub MorphEnds : Option ℕ → List ℕ → Result (Unit {0}) MorphFail → Option (List ℕ)
    → Option (List ℕ) → Type 0
MorphEnds None text (Ok done) old new = Gains old new text
MorphEnds None text (Err fails.Write) old new = GainsPart old new text
MorphEnds (Some k) text (Err (fails.NotFiner j)) old new = (j ≡ k) × (new ≡ old)
MorphEnds unsplit text result old new = ⊥

-- What the sink's count did then.
abbrev pub MorphCounts : Result (Unit {0}) MorphFail → ℕ → ℕ → Type 0
MorphCounts (Err fails.Write) before now = Rose before now
MorphCounts result before now = now ≡ before
