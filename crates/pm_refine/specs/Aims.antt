-- What a view is to do to a front, and the sets in which its plan is found.
use Rattle.std.specs.Prelude.{ℕ, Bool, ◌&&◌, not, List}
use Rattle.pm_base.specs.Counts.{set_of}
use Rattle.pm_forest.specs.Forest.{Hierarchy, record_count}
use Rattle.pm_beyond.specs.Moves.{IsClosed}
use Rattle.pm_beyond.specs.Plans.{differs}
use Rattle.pm_beyond.specs.Targets.{target_of}
use Rattle.pm_beyond.specs.Valid.{IsValid}
use Rattle.pm_candidates.specs.Needed.{is_unneeded}
use Rattle.pm_view.specs.Wanted.{Serves, is_wanted}
use Rattle.pm_refine.specs.Holding.{HoldsMoves}
use Rattle.pm_refine.specs.declared.plan.Plan.{Plan}
use Rattle.pm_refine.specs.declared.sight.Sight.{Sight}

-- A hierarchy, which of its records are split, and which of its nodes are wanted.
pub record Aim : Type 0 where
  pub h : Hierarchy
  pub split : ℕ → Bool
  pub wanted : ℕ → Bool

-- That of a front as a view sees it.
abbrev pub aim_of : Sight → Aim
aim_of s = record {
  h = s.front.now.h;
  split = set_of s.front.now.flags;
  wanted = is_wanted s.front.now.h s.view.now;
}

-- The hierarchy is valid, and what split records need is split.
pub record IsFit (aim : Aim) : Type 0 where
  pub valid : IsValid aim.h
  pub closed : IsClosed aim.h aim.split

-- The measures are those that the view goes by.
abbrev pub IsServed : Sight → Type 0
IsServed s = Serves s.front.now.h s.view.now s.measures.now

-- The least closed set that has each record whose node is wanted.
abbrev pub aimed : Aim → ℕ → Bool
aimed aim = target_of aim.h aim.wanted

-- A move is made of record j.
abbrev pub is_moved : Aim → ℕ → Bool
is_moved aim = differs aim.split (aimed aim)

-- Record j is split, and a split record needs it.
abbrev pub is_used : Aim → ℕ → Bool
is_used aim j = aim.split j && not (is_unneeded aim.h aim.split j)

-- The records that are marked, that are still to be decided, that will be split, and that will be
-- collapsed.
pub record Sets : Type 0 where
  pub marks : List Bool
  pub work : List Bool
  pub splits : List Bool
  pub collapses : List Bool

abbrev pub sets : List Bool → List Bool → List Bool → List Bool → Sets
sets marks work splits collapses = record {
  marks = marks;
  work = work;
  splits = splits;
  collapses = collapses;
}

-- Those of a plan.
abbrev pub sets_of : Plan → Sets
sets_of p = sets p.marks.items p.work p.splits p.collapses.records

-- They hold the moves of all records from b on.
abbrev pub HoldsAimed : Aim → ℕ → Sets → Type 0
HoldsAimed aim b held =
    HoldsMoves (record_count aim.h) aim.split (aimed aim) b held.splits held.collapses
