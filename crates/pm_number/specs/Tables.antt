-- The tables of a run's numbers, and what a shaper has taken in of its hierarchy.
use Rattle.std.specs.Prelude.{◌≡◌, ℕ, ℤ, ◌+◌, ◌*◌, ◌<◌, ◌≤◌, List, [], ◌∷◌, Bool, not, Option, Some}
use Rattle.std.specs.Prelude.{None, false, length, take, slice_index_or, slice_set}
use Rattle.pm_base.specs.Meshes.{mesh_of}
use Rattle.pm_base.specs.declared.limits.TheConstants.{MOST_FACES, MOST_VERTICES}
use Rattle.pm_base.specs.Place.{Place}
use Rattle.pm_base.specs.declared.log.Gone.{Gone}
use Rattle.pm_forest.specs.declared.parts.NewFace.{NewFace}
use Rattle.pm_forest.specs.declared.parts.Unfinished.{Unfinished}
use Rattle.pm_forest.specs.Forest.{Hierarchy}
use Rattle.pm_forest.specs.Rules.{counts_of, new_face_fault, word_of}
use Rattle.pm_forest.specs.Shaping.{Shaping, so_far, with_face, settled}
use Rattle.pm_beyond.specs.Walks.{number_of}
use Rattle.pm_number.specs.declared.run.Run.{Run as HeldRun}
use Rattle.pm_number.specs.declared.tables.Numbers.{Numbers}
use Rattle.pm_number.specs.Stages.{Run, run_of, steps, IsMerging}
use Rattle.pm_number.specs.Numbering.{left_over, base_faces, width_number, node_number, start_after}
use Rattle.pm_number.specs.Numbering.{leaf_number, face_number, hierarchy_of}

-- The run that is held in memory, the run whose numbers are held, and its hierarchy.
abbrev pub run_in : HeldRun → Run
run_in held = run_of (mesh_of held.mesh.now) held.log.now

abbrev pub run_by : Numbers → Run
run_by n = run_in n.run

abbrev pub hierarchy_by : Numbers → Hierarchy
hierarchy_by n = hierarchy_of (run_by n)

-- A run that fits the limits of meshes.
pub record IsSmallRun (r : Run) : Type 0 where
  pub merging : IsMerging r
  pub few_vertices : r.vertices ≤ MOST_VERTICES
  pub few_steps : steps r ≤ MOST_VERTICES
  pub few_faces : r.net.faces ≤ MOST_FACES

-- How many vertices there are in all, those that collapses make among them.
abbrev pub all_vertices : Run → ℕ
all_vertices r = r.vertices + steps r

-- A table has the number of each of the first n.
pub record HasNumbers (table : List ℕ) (number : ℕ → ℕ) (n : ℕ) : Type 0 where
  pub len : length table ≡ n
  pub each : (v : ℕ) → v < n → slice_index_or table v 0 ≡ number v

-- The three coordinates of a place.
abbrev pub coordinates : Place → List ℤ
coordinates p = p.x ∷ p.y ∷ p.z ∷ []

-- The flag of a number isn't set.
abbrev pub is_unset : List Bool → ℕ → Bool
is_unset flags k = not (slice_index_or flags k false)

-- The run fits the limits, and the tables have its numbers.
pub record AreNumbers (n : Numbers) : Type 0 where
  pub run : IsSmallRun (run_by n)
  pub left_is : n.left.items ≡ left_over (run_by n)
  pub bases_are : n.bases.items ≡ base_faces (run_by n)
  pub widths_are : HasNumbers n.widths.items (width_number (run_by n)) (all_vertices (run_by n))
  pub nodes_are : HasNumbers n.nodes.items (node_number (run_by n)) (all_vertices (run_by n))
  pub leaves_are : HasNumbers n.leaves.items (leaf_number (run_by n)) (all_vertices (run_by n))
  pub faces_are : HasNumbers n.faces.items (face_number (run_by n)) (run_by n).net.faces

-- A shaper that took in the first roots, the first base faces or the first records.
abbrev pub took_roots : Hierarchy → ℕ → Shaping
took_roots h i = record {
  counts = counts_of h;
  h = record { roots = take i h.roots; bases = []; records = [] };
  coming = None;
}

abbrev pub took_bases : Hierarchy → ℕ → Shaping
took_bases h i = record {
  counts = counts_of h;
  h = record { roots = h.roots; bases = take i h.bases; records = [] };
  coming = None;
}

abbrev pub first_records : Hierarchy → ℕ → Hierarchy
first_records h k = record { roots = h.roots; bases = h.bases; records = take k h.records }

abbrev pub took_records : Hierarchy → ℕ → Shaping
took_records h k = record { counts = counts_of h; h = first_records h k; coming = None }

-- A dropped face and the sides that the log keeps beside it, as numbers below those of n faces.
pub record IsAmong (n : ℕ) (g : Gone) : Type 0 where
  pub face : g.face.0 < n
  pub first : (e : ℕ) → number_of g.first ≡ Some e → e < 3 * n
  pub second : (e : ℕ) → number_of g.second ≡ Some e → e < 3 * n

-- A shaper waits for a face, and this one has no fault.
pub record IsDue (s : Shaping) (n : NewFace) : Type 0 where
  pub coming : Unfinished
  pub is : s.coming ≡ Some coming
  pub fits : new_face_fault (so_far s.h s.coming) coming.left_due n.face (word_of n.first)
      (word_of n.second) ≡ None

-- The shaper once it took in the face that it waited for, where there is one.
abbrev pub settled_with : Shaping → Option Unfinished → NewFace → Shaping
settled_with s None n = s
settled_with s (Some p) n = settled s.counts s.h (with_face p n)

abbrev pub with_due : Shaping → Option NewFace → Shaping
with_due s None = s
with_due s (Some n) = settled_with s s.coming n

-- The table has the number of entry j of a list.
abbrev pub RootsHave : List ℕ → (ℕ → ℕ) → List ℕ → ℕ → Type 0
RootsHave table number left j = let v =
    slice_index_or left j 0 in slice_index_or table v 0 ≡ number v

-- The table has the number of the dropped face, where there is one.
abbrev pub GoneHas : List ℕ → (ℕ → ℕ) → Option Gone → Type 0
GoneHas table number None = Unit {0}
GoneHas table number (Some g) = slice_index_or table g.face.0 0 ≡ number g.face.0

-- The table has the first leaves of the nodes that are there once d records have given their
-- children.
pub record HasStarts (r : Run) (table : List ℕ) (d : ℕ) : Type 0 where
  pub len : length table ≡ all_vertices r
  pub each : (v : ℕ) → v < all_vertices r → node_number r v < length (left_over r) + 2 * d
      → slice_index_or table v 0 ≡ start_after r d v

-- The table with the number of a dropped face, where there is one.
abbrev pub with_gone : List ℕ → Option Gone → ℕ → List ℕ
with_gone table None number = table
with_gone table (Some g) number = slice_set table g.face.0 number
