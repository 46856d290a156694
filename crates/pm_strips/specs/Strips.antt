-- Triangle strips, as display hardware takes them. A mesh is told here by what stands beyond each
-- side, by the node at which each side begins, and by the faces that are free: those that no strip
-- has yet.
use Rattle.std.specs.Prelude.{◌≡◌, ℕ, zero, suc, ◌+◌, ◌*◌, Bool, true, cond, not, List, [], ◌∷◌}
use Rattle.std.specs.Prelude.{map, Option, Some, None, is_some, ◌⊎◌}
use Rattle.pm_base.specs.declared.mesh.Corners.{Corners}
use Rattle.pm_base.specs.Sides.{face_of, next}
use Rattle.pm_forest.specs.Fronts.{without}

abbrev pub if_free : (ℕ → Bool) → Option ℕ → Option ℕ
if_free free None = None
if_free free (Some g) = cond (free (face_of g)) (Some g) None

-- The side of a free face that stands beyond side e, if one does.
abbrev pub free_beyond : (ℕ → Option ℕ) → (ℕ → Bool) → ℕ → Option ℕ
free_beyond beyond free e = if_free free (beyond e)

-- Where a strip leaves the triangle that it entered by side g: by the side two after g where the
-- triangle is an odd one, and by the side after g where it is an even one.
abbrev pub exit_of : Bool → ℕ → ℕ
exit_of is_odd g = cond is_odd (next (next g)) (next g)

abbrev pub enter_by : (ℕ → List ℕ) → Option ℕ → List ℕ
enter_by more None = []
enter_by more (Some g) = g ∷ more g

-- The sides by which a strip enters its further triangles from an exit on, at most n of them. The
-- next triangle is an odd one, or it isn't.
abbrev pub entered : (ℕ → Option ℕ) → ℕ → (ℕ → Bool) → Bool → ℕ → List ℕ
entered beyond zero free is_odd exit = []
entered beyond (suc n) free is_odd exit =
    enter_by (λ g. entered beyond n (without free (face_of g)) (not is_odd) (exit_of is_odd g))
    (free_beyond beyond free exit)

-- Beyond the side that follows side e there stands a free face.
abbrev pub leads_on : (ℕ → Option ℕ) → (ℕ → Bool) → ℕ → Bool
leads_on beyond free e = is_some (free_beyond beyond free (next e))

-- The side with which a strip from face f begins: the first of its three that leads on, and the
-- first of all where none does.
abbrev pub first_side : (ℕ → Option ℕ) → (ℕ → Bool) → ℕ → ℕ
first_side beyond free f =
    cond (leads_on beyond free (3 * f)) (3 * f)
    (cond (leads_on beyond free (3 * f + 1)) (3 * f + 1)
    (cond (leads_on beyond free (3 * f + 2)) (3 * f + 2) (3 * f)))

-- A strip from face f, which is free no longer: the side with which it begins, and those by which
-- it enters further triangles.
abbrev pub strip_from : (ℕ → Option ℕ) → ℕ → (ℕ → Bool) → ℕ → List ℕ
strip_from beyond n free f =
    let others = without free f in
    let e = first_side beyond others f in
    e ∷ entered beyond n others true (next e)

-- What a strip leaves free.
abbrev pub left_by : (ℕ → Bool) → List ℕ → ℕ → Bool
left_by free [] = free
left_by free (g ∷ gs) = left_by (without free (face_of g)) gs

-- The strips of the m faces from face f on: each begins at the least face that is free.
abbrev pub strips_from : (ℕ → Option ℕ) → ℕ → ℕ → (ℕ → Bool) → ℕ → List (List ℕ)
strips_from beyond n zero free f = []
strips_from beyond n (suc m) free f =
    let s = strip_from beyond n free f in
    cond (free f) (s ∷ strips_from beyond n m (left_by free s) (suc f))
    (strips_from beyond n m free (suc f))

-- The nodes that a strip lists: three for its first triangle, and for each further one the node
-- that isn't on the side by which it was entered.
abbrev pub listed_nodes : (ℕ → ℕ) → List ℕ → List ℕ
listed_nodes node [] = []
listed_nodes node (e ∷ gs) =
    node e ∷ node (next e) ∷ node (next (next e)) ∷ map (λ g. node (next (next g))) gs

-- The triangles that a list of nodes stands for: each three that follow one another, the first two
-- swapped where it is odd.
abbrev pub decoded : Bool → List ℕ → List Corners
decoded is_odd (p ∷ q ∷ r ∷ rest) =
    cond is_odd (record { a = q; b = p; c = r }) (record { a = p; b = q; c = r })
    ∷ decoded (not is_odd) (q ∷ r ∷ rest)
decoded is_odd _ = []

-- The corners of a side's face, from where the side begins.
abbrev pub corners_from : (ℕ → ℕ) → ℕ → Corners
corners_from node e = record { a = node e; b = node (next e); c = node (next (next e)) }

-- The same corners in the same cyclic order.
abbrev pub turned : Corners → Corners
turned t = record { a = t.b; b = t.c; c = t.a }

abbrev pub IsTurnOf : Corners → Corners → Type 0
IsTurnOf t s = (t ≡ s) ⊎ ((t ≡ turned s) ⊎ (t ≡ turned (turned s)))
