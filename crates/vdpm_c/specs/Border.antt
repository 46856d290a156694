-- What crosses to C: what C owes, and what each exported function came to.
use Rattle.std.specs.Prelude.{◌≡◌, ℕ, ◌≤◌, List, [], length, take, drop, Option, Some, None, IsSome}
use Rattle.std.specs.Prelude.{Result, Ok, Err}
use Rattle.pm_base.specs.Counts.{set_of}
use Rattle.pm_forest.specs.Forest.{node_count, leaf_count, record_count}
use Rattle.pm_front.specs.Shown.{active_nodes, kept_faces}
use Rattle.pm_commands.specs.declared.fault.Fault.{Fault}
use Rattle.pm_commands.specs.Input.{IsFaulty}
use Rattle.pm_commands.specs.Beginning.{IsHierarchyText}
use Rattle.pm_session.specs.declared.ending.Next.{Next}
use Rattle.pm_session.specs.declared.ending.Next.TheVariants as nexts
use Rattle.pm_session.specs.declared.ending.LineFail.{LineFail}
use Rattle.pm_session.specs.declared.ending.LineFail.TheVariants as fails
use Rattle.pm_change.specs.declared.fitting.ChangeSizes.{ChangeSizes}
use Rattle.pm_session.specs.Script.{at_first, now_marked}
use Rattle.pm_session.specs.Session.{LineEnds}
use Rattle.pm_session.specs.Level.{split_count, greatest_error, greatest_deviation}
use Rattle.pm_viewer.specs.Viewing.{Viewed, viewer_state, live_deed}
use Rattle.pm_viewer.specs.Causes.{Tells}
use Rattle.pm_viewer.specs.declared.measuring.Extent.{Extent}
use Rattle.vdpm_c.specs.declared.tables.Handle.{Handle}
use Rattle.vdpm_c.specs.declared.tables.Counts.{Counts}
use Rattle.vdpm_c.specs.declared.tables.ChangeCounts.{ChangeCounts}
use Rattle.vdpm_c.specs.declared.tables.ExtentTold.{ExtentTold}
use Rattle.vdpm_c.specs.declared.tables.LevelTold.{LevelTold}

-- A handle that is open has a viewer. C owes it, and each function leaves it so.
abbrev pub IsSound : Handle → Type 0
IsSound handle = handle.open ≡ 1 → IsSome handle.slot.value

-- The handle is open, with this viewer.
abbrev pub Has : Handle → Viewed → Type 0
Has handle v = (handle.open ≡ 1) × (handle.slot.value ≡ Some v)

-- These items stand at the front of an array, and what stands behind them is as it was.
pub record IsCopied {A : Type 0} (items old new : List A) : Type 0 where
  pub front : take (length items) new ≡ items
  pub behind : drop (length items) new ≡ drop (length items) old

-- The status of a line.
abbrev pub line_status : Result Next LineFail → ℕ
line_status (Ok nexts.More) = 0
line_status (Ok nexts.Quit) = 9
line_status (Err fails.BadLine) = 30
line_status (Err fails.NoRecord) = 31
line_status (Err fails.Write) = 5

-- What a line came to: how it ended is told by the status, and the viewer has what it leaves. Where
-- memory was wanting, the first 64 bytes of the reply are there, or more.
pub record LineDone (before : Viewed) (line : List ℕ) (status : ℕ) (after : Viewed) : Type 0 where
  pub result : Result Next LineFail
  pub told : status ≡ line_status result
  pub ends : LineEnds (live_deed before.shown.h (viewer_state before) line) result
      (viewer_state before) (viewer_state after) (Some []) (Some after.reply)
  pub hierarchy : after.shown.h ≡ before.shown.h
  pub digits : after.digits ≡ before.digits
  pub cut : result ≡ Err fails.Write → 64 ≤ length after.reply

-- What an opening came to where all was done: the bytes are the stream text of the viewer's
-- hierarchy, as `check` reads them, and it shows the base front.
pub record Opened (bytes : List ℕ) (budget : ℕ) (v : Viewed) : Type 0 where
  pub text : IsHierarchyText bytes (Ok
      (record { digits = v.digits; h = v.shown.h; rest = [] })) None
  pub first : viewer_state v ≡ at_first budget
  pub reply : v.reply ≡ []

-- The place that is told of a fault, which is 0 where it has none.
abbrev pub place_told : Option ℕ → ℕ
place_told None = 0
place_told (Some place) = place

-- The bytes were refused as `check` refuses them, and the line that it says has this number and
-- this place.
pub record Refused (bytes : List ℕ) (status place : ℕ) : Type 0 where
  pub fault : Fault
  pub is : IsFaulty IsHierarchyText bytes fault
  pub told : Option ℕ
  pub place_is : place ≡ place_told told
  pub tells : Tells fault status told

-- How large a hierarchy and the mesh that is shown of it are.
pub record AreCountsOf (v : Viewed) (counts : Counts) : Type 0 where
  pub shown_nodes : counts.shown_nodes ≡ length (active_nodes v.shown.h (set_of v.shown.flags))
  pub shown_faces : counts.shown_faces ≡ length (kept_faces v.shown.h (set_of v.shown.flags))
  pub nodes : counts.nodes ≡ node_count v.shown.h
  pub leaves : counts.leaves ≡ leaf_count v.shown.h
  pub records : counts.records ≡ record_count v.shown.h
  pub digits : counts.digits ≡ v.digits

-- An extent, as C takes it.
abbrev pub extent_told : Extent → ExtentTold
extent_told e = record {
  low_x = e.low.x;
  low_y = e.low.y;
  low_z = e.low.z;
  high_x = e.high.x;
  high_y = e.high.y;
  high_z = e.high.z;
}

-- How fine the mesh that is shown is.
pub record IsLevelOf (v : Viewed) (told : LevelTold) : Type 0 where
  pub error : told.error ≡ greatest_error v.shown.h (set_of v.shown.flags)
  pub deviation : told.deviation ≡ greatest_deviation v.shown.h (set_of v.shown.flags)
  pub split : told.split ≡ split_count v.shown.h (set_of v.shown.flags)

-- How many entries each list of a change has, as C takes them.
abbrev pub change_counts : ChangeSizes → ChangeCounts
change_counts s = record {
  gone_faces = s.gone_faces;
  gone_nodes = s.gone_nodes;
  new_nodes = s.new_nodes;
  put_faces = s.put_faces;
}

-- What a change that was told leaves: the front is marked, and all else is as before.
pub record IsMarked (before after : Viewed) : Type 0 where
  pub state : viewer_state after ≡ now_marked (viewer_state before)
  pub hierarchy : after.shown.h ≡ before.shown.h
  pub digits : after.digits ≡ before.digits
  pub reply : after.reply ≡ before.reply

-- The record that is told, which is 4,294,967,295 where there is none.
abbrev pub record_told : Option ℕ → ℕ
record_told None = 4294967295
record_told (Some k) = k
