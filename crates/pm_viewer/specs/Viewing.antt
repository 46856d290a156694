-- A viewer, and what a line does to it.
use Rattle.std.specs.Prelude.{◌≡◌, ℕ, ℤ, ◌*◌, ◌≤◌, nat_lt, Bool, List, [], length, drop}
use Rattle.std.specs.Prelude.{if◌then◌else◌}
use Rattle.pm_forest.specs.Forest.{Hierarchy}
use Rattle.pm_front.specs.Shown.{active_nodes, kept_faces}
use Rattle.pm_session.specs.declared.grammar.Grammar.TheVariants as grammars
use Rattle.pm_session.specs.Script.{State, Deed, IsBad, line_deed}
use Rattle.pm_session.specs.Session.{Shown, state_of}

-- What a sink took, and how often it has failed.
pub record Replied : Type 0 where
  pub got : List ℕ
  pub faults : ℕ

abbrev pub no_reply : Replied
no_reply = record { got = []; faults = 0 }

-- The session, how many decimals the coordinates have, and the reply to the last line.
pub record Viewed : Type 0 where
  pub shown : Shown
  pub digits : ℕ
  pub reply : List ℕ

-- Which records are split, which are marked, and the budget.
abbrev pub viewer_state : Viewed → State
viewer_state v = state_of v.shown

-- What a line does: what it does in a script of `live`, where a line has at most 1,024 bytes before
-- its LF.
unfoldable pub live_deed : Hierarchy → State → List ℕ → Deed
live_deed h s line = if nat_lt 1024 (length line) then IsBad else line_deed h grammars.Live s line

-- The mesh that a front shows fits into arrays of these lengths: a number for each active node and
-- three for its place, a number for each kept face, and three, twice, for its corners.
pub record FrameFits (h : Hierarchy) (T : ℕ → Bool)
    (nodes places faces corners corner_nodes : ℕ) : Type 0 where
  pub nodes_fit : length (active_nodes h T) ≤ nodes
  pub places_fit : 3 * length (active_nodes h T) ≤ places
  pub faces_fit : length (kept_faces h T) ≤ faces
  pub corners_fit : 3 * length (kept_faces h T) ≤ corners
  pub corner_nodes_fit : 3 * length (kept_faces h T) ≤ corner_nodes

-- Behind the mesh that a front shows, arrays are as they were.
pub record FrameLeaves (h : Hierarchy) (T : ℕ → Bool) (nodes : List ℕ) (places : List ℤ)
    (faces corners corner_nodes : List ℕ) (nodes_now : List ℕ) (places_now : List ℤ)
    (faces_now corners_now corner_nodes_now : List ℕ) : Type 0 where
  pub nodes_stay : drop (length (active_nodes h T)) nodes_now
      ≡ drop (length (active_nodes h T)) nodes
  pub places_stay : drop (3 * length (active_nodes h T)) places_now
      ≡ drop (3 * length (active_nodes h T)) places
  pub faces_stay : drop (length (kept_faces h T)) faces_now ≡ drop (length (kept_faces h T)) faces
  pub corners_stay : drop (3 * length (kept_faces h T)) corners_now
      ≡ drop (3 * length (kept_faces h T)) corners
  pub corner_nodes_stay : drop (3 * length (kept_faces h T)) corner_nodes_now
      ≡ drop (3 * length (kept_faces h T)) corner_nodes
