-- A hierarchy that is being taken in, as contracts see it.
use Rattle.std.specs.Prelude.{◌≡◌, ◌<◌, ◌≤◌, ℕ, ℤ, ◌+◌, ◌-◌, ◌==◌, List, [], length, Bool, true}
use Rattle.std.specs.Prelude.{false, ◌||◌, not, nat_lt, Option, Some, None, is_some, if◌then◌else◌}
use Rattle.pm_base.specs.declared.limits.TheConstants.{MOST_FACES}
use Rattle.pm_base.specs.Place.{place_of}
use Rattle.pm_base.specs.declared.ids.Side.{Side}
use Rattle.pm_forest.specs.declared.parts.Counts.{Counts}
use Rattle.pm_forest.specs.declared.parts.Root.{Root}
use Rattle.pm_forest.specs.declared.parts.Face.{Face}
use Rattle.pm_forest.specs.declared.parts.Head.{Head}
use Rattle.pm_forest.specs.declared.parts.NewFace.{NewFace}
use Rattle.pm_forest.specs.declared.parts.Record.{Record}
use Rattle.pm_forest.specs.declared.parts.Unfinished.{Unfinished}
use Rattle.pm_forest.specs.declared.parts.UnitKind.{UnitKind}
use Rattle.pm_forest.specs.declared.parts.UnitKind.TheVariants as kinds
use Rattle.pm_forest.specs.Marks.{AreMarked}
use Rattle.pm_forest.specs.Forest.{Hierarchy, node_count, interval_of, splitter_of}
use Rattle.pm_forest.specs.Faces.{faces_of}
use Rattle.pm_forest.specs.Rules.{with_record, bare, head_with, counts_are_bad, root_fault}
use Rattle.pm_forest.specs.Rules.{base_fault, head_fault, face_fault, record_fault_after}
use Rattle.pm_forest.specs.Rules.{node_inputs, face_inputs, AllFit}
use Rattle.pm_forest.specs.Tables.{Grown, grown}

-- The counts, the whole units that were taken in, and the record whose faces are coming.
pub record Shaping : Type 0 where
  pub counts : Counts
  pub h : Hierarchy
  pub coming : Option Unfinished

-- The hierarchy so far, the record whose faces are coming last.
abbrev pub so_far : Hierarchy → Option Unfinished → Hierarchy
so_far h None = h
so_far h (Some p) = with_record h p.split

abbrev pub expects_face : Unfinished → UnitKind
expects_face p = if p.left_due then kinds.LeftFace else kinds.RightFace

-- What kind of unit comes next.
abbrev pub expects_after : Counts → Hierarchy → Option Unfinished → UnitKind
expects_after c h (Some p) = expects_face p
expects_after c h None =
    if nat_lt (length h.roots) c.roots then kinds.Root
    else if nat_lt (length h.bases) c.bases then kinds.Base
    else if nat_lt (length h.records) c.records then kinds.Head
    else kinds.Nothing

abbrev pub expects : Shaping → UnitKind
expects s = expects_after s.counts s.h s.coming

abbrev pub nothing_in : Counts → Shaping
nothing_in c = record {
  counts = c;
  h = record { roots = []; bases = []; records = [] };
  coming = None;
}

abbrev pub next_root : List ℤ → ℕ → ℕ → Root
next_root r width input = record { place = place_of r; width = width; input = input }

-- The record of a head, with no face yet, and the faces that its presence word promises.
abbrev pub started : Head → Unfinished
started d = record {
  split = record {
    s = d.s;
    width = d.width;
    t = record { place = place_of d.t; input = d.t_input };
    u = record { place = place_of d.u; input = d.u_input };
    left = None;
    right = None;
  };
  left_due = not (d.presence == 2);
  right_due = not (d.presence == 1);
}

-- The neighbour that a word names: none for 0.
abbrev pub side_of : ℕ → Option Side
side_of word = if word == 0 then None else Some (record { 0 = word - 1 })

abbrev pub next_face : Face → ℕ → ℕ → NewFace
next_face f first second = record { face = f; first = side_of first; second = side_of second }

-- The record with the face that was due.
abbrev pub with_face : Unfinished → NewFace → Unfinished
with_face p n =
    if p.left_due then record p { split = record p.split { left = Some n }; left_due = false }
    else record p { split = record p.split { right = Some n }; right_due = false }

-- What a record's place in the forest has to be.
pub record SplitFits (h : Hierarchy) (s width : ℕ) : Type 0 where
  pub node : s < node_count h
  pub unsplit : splitter_of h s ≡ None
  pub first : 0 < width
  pub rest : (interval_of h s).from + width < (interval_of h s).until

-- A record goes to the others once all its faces are there.
abbrev pub settled : Counts → Hierarchy → Unfinished → Shaping
settled c h p =
    if p.left_due || p.right_due then record { counts = c; h = h; coming = Some p }
    else record { counts = c; h = with_record h p.split; coming = None }

-- A record some of whose faces are due: what is there has no fault, its place in the forest fits,
-- and the head is that of a record with all of them.
pub record ComingFits (h : Hierarchy) (r : Record) (left_due right_due : Bool) : Type 0 where
  pub head : head_fault h (head_with r (is_some r.left || left_due) (is_some r.right || right_due))
      ≡ None
  pub split : SplitFits h r.s r.width
  pub left : face_fault (with_record h (bare r)) true r.left ≡ None
  pub no_right : is_some r.right ≡ false
  pub no_left : left_due ≡ true → is_some r.left ≡ false
  pub due : left_due || right_due ≡ true

abbrev pub ComingFit : Hierarchy → Option Record → Bool → Bool → Type 0
ComingFit h None left_due right_due = (left_due ≡ false) × (right_due ≡ false)
ComingFit h (Some r) left_due right_due = ComingFits h r left_due right_due

-- The units that were taken in have no fault, and the flags are those of their input numbers.
pub record IsShaping (g : Grown) (left_due right_due : Bool) (vertices faces : List Bool) : Type 0
  where
    pub counts_fit : counts_are_bad g.counts ≡ false
    pub roots_fit : AllFit (root_fault g.counts) [] g.h.roots
    pub bases_fit : AllFit (base_fault g.h.roots) [] g.h.bases
    pub records_fit : AllFit (record_fault_after g.h.roots g.h.bases) [] g.h.records
    pub coming_fits : ComingFit g.h g.coming left_due right_due
    pub roots_most : length g.h.roots ≤ g.counts.roots
    pub bases_most : length g.h.bases ≤ g.counts.bases
    pub records_most : length (grown g).records ≤ g.counts.records
    pub roots_first : 0 < length g.h.bases + length (grown g).records
        → length g.h.roots ≡ g.counts.roots
    pub bases_next : 0 < length (grown g).records → length g.h.bases ≡ g.counts.bases
    pub nodes_marked : AreMarked vertices (node_inputs (grown g))
    pub node_flags : length vertices ≡ g.counts.leaves
    pub faces_marked : AreMarked faces (face_inputs (faces_of (grown g)))
    pub face_flags : length faces ≡ MOST_FACES

-- All roots and base faces are there, and the first records, and no unit has a fault.
pub record HasBegun (c : Counts) (h : Hierarchy) : Type 0 where
  pub counts : counts_are_bad c ≡ false
  pub roots : AllFit (root_fault c) [] h.roots
  pub bases : AllFit (base_fault h.roots) [] h.bases
  pub records : AllFit (record_fault_after h.roots h.bases) [] h.records
  pub all_roots : length h.roots ≡ c.roots
  pub all_bases : length h.bases ≡ c.bases
  pub few : length h.records ≤ c.records

-- A record whose faces are due, as contracts see it.
abbrev pub unfinished : Bool → Bool → Record → Unfinished
unfinished left_due right_due r = record { split = r; left_due = left_due; right_due = right_due }
