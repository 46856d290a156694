-- Legal splits and collapses, what records need, and closed sets (Hoppe 1997, with borders: a
-- missing neighbour asks nothing of a split).
use Rattle.std.specs.Prelude.{◌≡◌, ℕ, ◌+◌, ◌*◌, ◌<◌, ◌==◌, Bool, true, false, cond, ◌&&◌, ◌||◌}
use Rattle.std.specs.Prelude.{List, [], ◌∷◌, ◌++◌, Option, Some, None, is_some}
use Rattle.std.specs.List.{list_any}
use Rattle.pm_base.specs.Sides.{face_of, next}
use Rattle.pm_base.specs.Counts.{one_if}
use Rattle.pm_forest.specs.Forest.{Hierarchy, record_at, record_count, s_of, t_of, u_of, Makes}
use Rattle.pm_forest.specs.Forest.{maker_of}
use Rattle.pm_forest.specs.Fronts.{IsActive, is_active}
use Rattle.pm_forest.specs.Faces.{first_face, face_count, inner_of, record_of}
use Rattle.pm_forest.specs.Kept.{is_kept}
use Rattle.pm_forest.specs.Moves.{may_try, blocking}
use Rattle.pm_beyond.specs.declared.moves.MoveFault.{MoveFault}
use Rattle.pm_beyond.specs.declared.moves.MoveFault.TheVariants as faults
use Rattle.pm_beyond.specs.Walks.{IsOuter, Beyond, beyond_of, expected}

-- Record k may be split: its node is active, it isn't split, and the face of each of its recorded
-- neighbours is kept.
pub record MaySplit (h : Hierarchy) (T : ℕ → Bool) (k : ℕ) : Type 0 where
  pub active : IsActive h T (s_of h k)
  pub unsplit : T k ≡ false
  pub present : (e b : ℕ) → e < 3 * face_count h → IsOuter h k e → expected h e ≡ Some b
      → is_kept h T (face_of b) ≡ true

-- Record k may be collapsed: it is split, both children are active, and beyond each outer side of
-- its faces stands exactly the recorded neighbour, or nothing where none is recorded.
pub record MayCollapse (h : Hierarchy) (T : ℕ → Bool) (k : ℕ) : Type 0 where
  pub is_split : T k ≡ true
  pub t_active : IsActive h T (t_of h k)
  pub u_active : IsActive h T (u_of h k)
  pub as_recorded : (e : ℕ) → e < 3 * face_count h → IsOuter h k e → Beyond h T e (expected h e)

-- Record j needs the record that made its node, and those that reveal the faces of its recorded
-- neighbours.
pub data Needs (h : Hierarchy) (j k : ℕ) : Type 0 where
  as_maker : Makes h k (s_of h j) → Needs h j k
  as_neighbour :
      (e b : ℕ) → e < 3 * face_count h → IsOuter h j e → expected h e ≡ Some b
      → record_of h b ≡ Some k
      → Needs h j k

-- A set is closed if it has all that its records need.
abbrev pub IsClosed : Hierarchy → (ℕ → Bool) → Type 0
IsClosed h T = (j k : ℕ) → j < record_count h → T j ≡ true → Needs h j k → T k ≡ true

-- The first and the second outer side of face f of record k.
abbrev pub outer_pair : Hierarchy → ℕ → ℕ → List ℕ
outer_pair h k f = next (inner_of h k f) ∷ next (next (inner_of h k f)) ∷ []

-- The outer sides of record k's faces: left first, left second, right first, right second, as far
-- as the faces are there.
unfoldable pub outer_sides : Hierarchy → ℕ → List ℕ
outer_sides h k =
    let left = is_some (record_at h k).left in
    cond left (outer_pair h k (first_face h k)) []
    ++ cond (is_some (record_at h k).right) (outer_pair h k (first_face h k + one_if left)) []

-- Whether record j needs record k, as a test.
abbrev pub is_at : ℕ → Option ℕ → Bool
is_at k None = false
is_at k (Some m) = m == k

abbrev pub record_beyond : Hierarchy → Option ℕ → Option ℕ
record_beyond h None = None
record_beyond h (Some b) = record_of h b

unfoldable pub needs : Hierarchy → ℕ → ℕ → Bool
needs h j k =
    is_at k (maker_of h (s_of h j)) || list_any (λ e. is_at k (record_beyond h (expected h e)))
    (outer_sides h j)

-- What forbids a move that may be tried: the face that is in the way, if any.
abbrev pub blocked_by : Option ℕ → Option MoveFault
blocked_by None = None
blocked_by (Some f) = Some (faults.Blocked (record { 0 = f }))

-- What forbids the split of record k, if anything: its node isn't active, or it is split; else the
-- first face of a recorded neighbour that isn't kept.
unfoldable pub split_fault : Hierarchy → (ℕ → Bool) → ℕ → Option MoveFault
split_fault h T k = cond (may_try h T k) (blocked_by (blocking h T k)) (Some faults.NotActive)

-- A collapse of record k may be tried where it is split and both children are active.
abbrev pub may_try_collapse : Hierarchy → (ℕ → Bool) → ℕ → Bool
may_try_collapse h T k = T k && (is_active h T (t_of h k) && is_active h T (u_of h k))

-- Two sides, or two times none, are the same.
abbrev pub same_side : Option ℕ → Option ℕ → Bool
same_side None None = true
same_side None (Some y) = false
same_side (Some x) None = false
same_side (Some x) (Some y) = x == y

-- The face of the side that stands beyond another one, if any does.
abbrev pub face_beyond : Option ℕ → Option ℕ
face_beyond None = None
face_beyond (Some b) = Some (face_of b)

-- The face that stands beyond the first of these sides beyond which something else stands than is
-- recorded.
abbrev pub first_other : Hierarchy → (ℕ → Bool) → List ℕ → Option ℕ
first_other h T [] = None
first_other h T (e ∷ es) =
    let beyond = beyond_of h T e in
    cond (same_side beyond (expected h e)) (first_other h T es) (face_beyond beyond)

-- What forbids the collapse of record k, if anything.
unfoldable pub collapse_fault : Hierarchy → (ℕ → Bool) → ℕ → Option MoveFault
collapse_fault h T k =
    cond (may_try_collapse h T k) (blocked_by (first_other h T (outer_sides h k)))
    (Some faults.NotActive)
