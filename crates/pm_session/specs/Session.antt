-- A session, and what one line leaves of it.
use Rattle.std.specs.Prelude.{◌≡◌, ◌*◌, ℕ, Bool, true, false, List, Option, Result, Ok, Err}
use Rattle.pm_io.specs.Bytes.{Gains, GainsPart}
use Rattle.pm_io.specs.Causes.{Rose}
use Rattle.pm_forest.specs.Forest.{Hierarchy, record_count}
use Rattle.pm_base.specs.Counts.{set_of}
use Rattle.pm_forest.specs.Faces.{face_count}
use Rattle.pm_deviation.specs.Deviations.{Measures, AreMeasuresOf, has_deviations}
use Rattle.pm_pick.specs.Lists.{CornerLists, AreListsOf}
use Rattle.pm_morph.specs.Marks.{AreMarksOf}
use Rattle.pm_change.specs.Room.{Room, room_of}
use Rattle.pm_change.specs.Changes.{Change, change_of}
use Rattle.pm_session.specs.declared.grammar.Grammar.{Grammar}
use Rattle.pm_session.specs.declared.grammar.Grammar.TheVariants as grammars
use Rattle.pm_session.specs.declared.ending.Next.{Next}
use Rattle.pm_session.specs.declared.ending.Next.TheVariants as nexts
use Rattle.pm_session.specs.declared.ending.LineFail.{LineFail}
use Rattle.pm_session.specs.declared.ending.LineFail.TheVariants as fails
use Rattle.pm_session.specs.Script.{State, Deed, Replies, Ends, IsBad, NamesNoRecord}

-- The hierarchy that is shown, which lines a script may have, a flag for each record that is set
-- where it is split, a mark for each that is set where it is marked, and the budget of moves a
-- view.
pub record Shown : Type 0 where
  pub h : Hierarchy
  pub grammar : Grammar
  pub flags : List Bool
  pub marks : List Bool
  pub budget : ℕ

-- The state of a session.
abbrev pub state_of : Shown → State
state_of s = record { split = set_of s.flags; marked = set_of s.marks; budget = s.budget }

-- What changed since the marked front, which the line `d` tells.
abbrev pub change_since : Shown → Change
change_since s = change_of s.h (set_of s.marks) (set_of s.flags)

-- What the tools of a session have: the measures of nodes, for how many records there is room, for
-- how many sides there is a mark, the lists of the faces at each leaf, for how many faces there is
-- a flag, and how large the sets of a change are.
pub record Toolbox : Type 0 where
  pub measures : Measures
  pub room : ℕ
  pub marks : ℕ
  pub lists : CornerLists
  pub flags : ℕ
  pub sets : Room

-- They are those of the hierarchy.
pub record AreToolsOf (h : Hierarchy) (tools : Toolbox) : Type 0 where
  pub are_its_measures : AreMeasuresOf h tools.measures
  pub room_fits : tools.room ≡ record_count h
  pub marks_fit : tools.marks ≡ 3 * face_count h
  pub are_its_lists : AreListsOf h tools.lists
  pub flags_fit : tools.flags ≡ face_count h
  pub sets_fit : tools.sets ≡ room_of h

-- The measures have what views of such a script are judged by, and no more.
abbrev pub HasItsMeasures : Grammar → Measures → Type 0
HasItsMeasures grammars.View measures = has_deviations measures ≡ false
HasItsMeasures grammars.Live measures = has_deviations measures ≡ true

-- The tools and the marks are those of the hierarchy, and the tools serve the script.
pub record IsFitting (h : Hierarchy) (grammar : Grammar) (tools : Toolbox) (marks : List Bool) :
    Type 0 where
  pub tools_fit : AreToolsOf h tools
  pub tools_serve : HasItsMeasures grammar tools.measures
  pub marks_fit : AreMarksOf h marks

-- How a line ends, by its deed: `before` and `after` are the states, and `old` and `new` what the
-- sink had taken.
abbrev pub LineEnds : Deed → Result Next LineFail → State → State → Option (List ℕ)
    → Option (List ℕ) → Type 0
LineEnds (Replies reply s) (Ok nexts.More) before after old new = (after ≡ s) × Gains old new reply
LineEnds (Replies reply s) (Err fails.Write) before after old new = (after ≡ s)
    × GainsPart old new reply
LineEnds Ends (Ok nexts.Quit) before after old new = (after ≡ before) × (new ≡ old)
LineEnds IsBad (Err fails.BadLine) before after old new = (after ≡ before) × (new ≡ old)
LineEnds NamesNoRecord (Err fails.NoRecord) before after old new = (after ≡ before) × (new ≡ old)
LineEnds deed result before after old new = ⊥

-- What the sink's count did then.
abbrev pub LineCounts : Result Next LineFail → ℕ → ℕ → Type 0
LineCounts (Err fails.Write) before now = Rose before now
LineCounts result before now = now ≡ before
