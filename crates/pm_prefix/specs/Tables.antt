-- The table of how many active nodes begin before each leaf, and what a shaper took in.
use Rattle.std.specs.Prelude.{◌≡◌, ℕ, ◌+◌, ◌^◌, ◌<◌, ◌≤◌, [], Option, Some, None, take, length}
use Rattle.std.specs.Prelude.{slice_index_or}
use Rattle.pm_base.specs.declared.limits.TheConstants.{MOST_VERTICES}
use Rattle.pm_forest.specs.declared.parts.Face.{Face}
use Rattle.pm_forest.specs.declared.parts.NewFace.{NewFace}
use Rattle.pm_forest.specs.declared.parts.Unfinished.{Unfinished}
use Rattle.pm_forest.specs.Forest.{Hierarchy, record_count, leaf_count}
use Rattle.pm_forest.specs.Rules.{counts_of, new_face_fault, word_of}
use Rattle.pm_forest.specs.Shaping.{Shaping, so_far, with_face, settled, HasBegun}
use Rattle.pm_prefix.specs.declared.units.Prefix.{Prefix}
use Rattle.pm_prefix.specs.Prefix.{begun_before, first_records}

-- The hierarchy whose first records they are, and the one that they are themselves.
abbrev pub whole : Prefix → Hierarchy
whole p = p.forest.now.h

abbrev pub hierarchy_by : Prefix → Hierarchy
hierarchy_by p = first_records (whole p) p.n

-- The table has a number for each leaf and for the end.
pub record IsPrefix (p : Prefix) : Type 0 where
  pub begun : HasBegun p.forest.now.counts (whole p)
  pub few : p.n ≤ record_count (whole p)
  pub most : leaf_count (whole p) ≤ MOST_VERTICES
  pub len : length p.begun.items ≡ leaf_count (whole p) + 1
  pub each : (x : ℕ) → x ≤ leaf_count (whole p)
      → slice_index_or p.begun.items x 0 ≡ begun_before (whole p) p.n x

-- The corners are leaves.
pub record HasCorners (h : Hierarchy) (f : Face) : Type 0 where
  pub a : f.a < leaf_count h
  pub b : f.b < leaf_count h
  pub c : f.c < leaf_count h

-- So are those of a new face, and its neighbours have words.
pub record IsNew (h : Hierarchy) (x : NewFace) : Type 0 where
  pub corners : HasCorners h x.face
  pub first : word_of x.first < 2 ^ 32
  pub second : word_of x.second < 2 ^ 32

-- A shaper that took in the first roots, the first base faces or the first records.
abbrev pub took_roots : Hierarchy → ℕ → Shaping
took_roots h i = record {
  counts = counts_of h;
  h = record { roots = take i h.roots; bases = []; records = [] };
  coming = None;
}

abbrev pub took_bases : Hierarchy → ℕ → Shaping
took_bases h i = record {
  counts = counts_of h;
  h = record { roots = h.roots; bases = take i h.bases; records = [] };
  coming = None;
}

abbrev pub took_records : Hierarchy → ℕ → Shaping
took_records h k = record {
  counts = counts_of h;
  h = record { roots = h.roots; bases = h.bases; records = take k h.records };
  coming = None;
}

-- A shaper waits for a face, and this one has no fault.
pub record IsDue (s : Shaping) (n : NewFace) : Type 0 where
  pub coming : Unfinished
  pub is : s.coming ≡ Some coming
  pub fits : new_face_fault (so_far s.h s.coming) coming.left_due n.face (word_of n.first)
      (word_of n.second) ≡ None

-- The shaper once it took in the face that it waited for, where there is one.
abbrev pub settled_with : Shaping → Option Unfinished → NewFace → Shaping
settled_with s None n = s
settled_with s (Some p) n = settled s.counts s.h (with_face p n)

abbrev pub with_due : Shaping → Option NewFace → Shaping
with_due s None = s
with_due s (Some n) = settled_with s s.coming n
