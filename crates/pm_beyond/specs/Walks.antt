-- What stands beyond a side of a kept face: the walk from it through dropped faces.
use Rattle.std.specs.Prelude.{◌≡◌, ◌≢◌, ℕ, zero, suc, ◌+◌, ◌*◌, ◌==◌, ◌&&◌, Bool, true, false, cond}
use Rattle.std.specs.Prelude.{List, [], ◌∷◌, Option, Some, None, is_some}
use Rattle.pm_base.specs.declared.ids.Side.{Side}
use Rattle.pm_base.specs.Sides.{Net, face_of, next, twin_of}
use Rattle.pm_forest.specs.Forest.{Hierarchy, record_at}
use Rattle.pm_forest.specs.Fronts.{ancestor_of}
use Rattle.pm_forest.specs.Faces.{first_face, face_count, is_left, new_face, from_leaf, to_leaf}
use Rattle.pm_forest.specs.Faces.{inner_of, record_of}
use Rattle.pm_forest.specs.Kept.{is_kept, is_shown}

-- The leaf mesh by its sides: all faces, with a vertex for each leaf.
abbrev pub leaf_net : Hierarchy → Net
leaf_net h = record { faces = face_count h; from = from_leaf h }

-- The twin of a side in the leaf mesh.
abbrev pub leaf_twin : Hierarchy → ℕ → Option ℕ
leaf_twin h e = twin_of (leaf_net h) e

-- From side c of a dropped face the way out is that face's other side whose two ends have different
-- ancestors.
abbrev pub IsWayOut : Hierarchy → (ℕ → Bool) → ℕ → ℕ → Type 0
IsWayOut h T c o =
    (face_of o ≡ face_of c) × (o ≢ c)
    × (ancestor_of h T (from_leaf h o) ≢ ancestor_of h T (to_leaf h o))

-- From side a to its twin, out of each of these dropped faces in turn, to side r or to no side.
abbrev pub Crosses : Hierarchy → (ℕ → Bool) → ℕ → List ℕ → Option ℕ → Type 0
Crosses h T a [] r = leaf_twin h a ≡ r
Crosses h T a (f ∷ fs) r =
    (c : ℕ) × (o : ℕ) × (leaf_twin h a ≡ Some c) × (face_of c ≡ f) × (is_kept h T f ≡ false)
    × IsWayOut h T c o × Crosses h T o fs r

-- The side is one of a kept face, where there is one.
abbrev pub IsOfKept : Hierarchy → (ℕ → Bool) → Option ℕ → Type 0
IsOfKept h T None = Unit {0}
IsOfKept h T (Some b) = is_kept h T (face_of b) ≡ true

-- Beyond side a of a kept face stands side b of a kept face, or nothing.
pub record StandsBeyond (h : Hierarchy) (T : ℕ → Bool) (a : ℕ) (r : Option ℕ) : Type 0 where
  pub crossed : List ℕ
  pub crosses : Crosses h T a crossed r
  pub kept : IsOfKept h T r

-- What follows says the same by records and without ancestors. Record k reveals the face of side e,
-- and the side is the face's inner side, or one of its two outer sides.
abbrev pub IsInner : Hierarchy → ℕ → ℕ → Type 0
IsInner h k e = (record_of h e ≡ Some k) × (e ≡ inner_of h k (face_of e))

abbrev pub IsOuter : Hierarchy → ℕ → ℕ → Type 0
IsOuter h k e = (record_of h e ≡ Some k) × (e ≢ inner_of h k (face_of e))

-- From one outer side of a record's face to the other.
abbrev pub across_at : Hierarchy → ℕ → Option ℕ → Option ℕ
across_at h e None = None
across_at h e (Some k) =
    let i = inner_of h k (face_of e) in
    cond (e == i) None (cond (e == next i) (Some (next (next i))) (Some (next i)))

unfoldable pub across : Hierarchy → ℕ → Option ℕ
across h e = across_at h e (record_of h e)

-- From side a to its twin, across each face on the way that isn't shown, to side r or to no side.
-- In every front this is a part of one fixed chain, since neither twins nor ways across depend on
-- the front.
pub data Reaches (h : Hierarchy) (T : ℕ → Bool) : ℕ → Option ℕ → Type 0 where
  here : {a : ℕ} {r : Option ℕ} → leaf_twin h a ≡ r → Reaches h T a r
  past :
      {a c o : ℕ} {r : Option ℕ} → leaf_twin h a ≡ Some c → is_shown h T c ≡ false
      → across h c ≡ Some o
      → Reaches h T o r → Reaches h T a r

-- The faces that a walk crosses.
abbrev pub crossed : {h : Hierarchy} {T : ℕ → Bool} {a : ℕ} {r : Option ℕ} → Reaches h T a r
    → List ℕ
crossed (here t) = []
crossed (past {c = c} t d x w) = face_of c ∷ crossed w

-- A walk ends at a side of a shown face, or at no side.
abbrev pub StopsAt : Hierarchy → (ℕ → Bool) → Option ℕ → Type 0
StopsAt h T None = Unit {0}
StopsAt h T (Some b) = is_shown h T b ≡ true

-- In a front this says the same as `StandsBeyond` of each side of a kept face.
pub record Beyond (h : Hierarchy) (T : ℕ → Bool) (a : ℕ) (r : Option ℕ) : Type 0 where
  pub reaches : Reaches h T a r
  pub stops : StopsAt h T r

-- From side a to its twin and across the twin's face, where that face isn't shown.
abbrev pub out_at : Hierarchy → (ℕ → Bool) → Option ℕ → Option ℕ
out_at h T None = None
out_at h T (Some c) = cond (is_shown h T c) None (across h c)

unfoldable pub way_out : Hierarchy → (ℕ → Bool) → ℕ → Option ℕ
way_out h T a = out_at h T (leaf_twin h a)

-- The side after at most n steps from side a; where there is no step the walk stays.
abbrev pub go_on : Option ℕ → ℕ → (ℕ → ℕ) → ℕ
go_on None a more = a
go_on (Some o) a more = more o

unfoldable pub walk : (ℕ → Option ℕ) → ℕ → ℕ → ℕ
walk step zero a = a
walk step (suc n) a = go_on (step a) a (walk step n)

-- What stands beyond side a: the twin of the side at which the walk from it ends. No walk takes
-- more steps than there are sides.
unfoldable pub beyond_of : Hierarchy → (ℕ → Bool) → ℕ → Option ℕ
beyond_of h T a = leaf_twin h (walk (way_out h T) (3 * face_count h) a)

-- The number of a recorded side.
abbrev pub number_of : Option Side → Option ℕ
number_of None = None
number_of (Some e) = Some e.0

-- The inner side of the other face of record k, where it has two faces.
unfoldable pub mate_of : Hierarchy → ℕ → ℕ → Option ℕ
mate_of h k f =
    cond (is_some (record_at h k).left && is_some (record_at h k).right)
    (Some (inner_of h k (cond (is_left h k f) (first_face h k + 1) (first_face h k)))) None

-- What a record tells of side e of one of its faces: the side recorded beyond it, where it is an
-- outer side, and the inner side of the record's other face, where it is the inner side.
abbrev pub expected_at : Hierarchy → ℕ → Option ℕ → Option ℕ
expected_at h e None = None
expected_at h e (Some k) =
    let i = inner_of h k (face_of e) in
    let n = new_face h k (face_of e) in
    cond (e == i) (mate_of h k (face_of e))
    (cond (e == next i) (number_of n.first) (number_of n.second))

unfoldable pub expected : Hierarchy → ℕ → Option ℕ
expected h e = expected_at h e (record_of h e)
