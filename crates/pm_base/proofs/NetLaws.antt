-- The sides of a list of faces, and of a well-formed mesh.
use Rattle.std.proofs.Common.{◌≡◌, ◌≢◌, ℕ, ◌+◌, ◌*◌, ◌/◌, ◌%◌, ◌<◌, ◌⊎◌, inl, inr, refl, ap}
use Rattle.std.proofs.lemmas.Grind.{common_steps}
use Rattle.std.proofs.Common.{◌∙◌, List, length, arith}
use Rattle.std.specs.Prelude.{slice_index_or}
use Rattle.std.proofs.lemmas.List.Elements.{All-get_or}
use Rattle.pm_base.specs.declared.mesh.Corners.{Corners}
use Rattle.pm_base.specs.Meshes.{Mesh, IsFace, IsWellFormed}
use Rattle.pm_base.specs.Sides.{Net, next, prev, to, third, net_of, corner_in, no_corners, Stands}
use Rattle.pm_base.proofs.Sides.{next_cases}

-- The corners of face f.
abbrev pub face_at : List Corners → ℕ → Corners
face_at fs f = slice_index_or fs f no_corners

pub from-corner : (fs : List Corners) (e f i : ℕ) → e / 3 ≡ f → e % 3 ≡ i
    → (net_of fs).from e ≡ corner_in (face_at fs f) i
from-corner fs e f i at is =
    ap (λ (k : ℕ). corner_in (face_at fs k) (e % 3)) at ∙ ap (corner_in (face_at fs f)) is

-- Each corner of a face begins the side with its number, which runs to the face's next corner.
pub first_side : (fs : List Corners) (f : ℕ) → ((net_of fs).from (3 * f) ≡ (face_at fs f).a)
    × (to (net_of fs) (3 * f) ≡ (face_at fs f).b)
first_side fs f =
    let a = next_cases (3 * f) in (
      from-corner fs (3 * f) f 0 (omega arith) (omega arith),
      from-corner fs (next (3 * f)) f 1
          (omega arith) (omega arith),
    )

pub second_side : (fs : List Corners) (f : ℕ) → ((net_of fs).from (3 * f + 1) ≡ (face_at fs f).b)
    × (to (net_of fs) (3 * f + 1) ≡ (face_at fs f).c)
second_side fs f =
    let a = next_cases (3 * f + 1) in (
      from-corner fs (3 * f + 1) f 1 (omega arith) (omega arith),
      from-corner fs (next (3 * f + 1)) f
          2 (omega arith) (omega arith),
    )

pub third_side : (fs : List Corners) (f : ℕ) → ((net_of fs).from (3 * f + 2) ≡ (face_at fs f).c)
    × (to (net_of fs) (3 * f + 2) ≡ (face_at fs f).a)
third_side fs f =
    let a = next_cases (3 * f + 2) in (
      from-corner fs (3 * f + 2) f 2 (omega arith) (omega arith),
      from-corner fs (next (3 * f + 2)) f
          0 (omega arith) (omega arith),
    )

-- The corners of a side's face, from the side on: one of the three turns.
record AreTurned (m : Net) (e a b c : ℕ) : Type 0 where
  from_is : m.from e ≡ a
  to_is : to m e ≡ b
  third_is : third m e ≡ c

side_cases : (fs : List Corners) (e f : ℕ) → e / 3 ≡ f → let k =
    face_at fs f in
    AreTurned (net_of fs) e k.a k.b k.c
    ⊎ (AreTurned (net_of fs) e k.b k.c k.a ⊎ AreTurned (net_of fs) e k.c k.a k.b)
side_cases fs e f at =
    grind (
      arith,
      common_steps,
      from-corner fs e f 0 at,
      from-corner fs (next e) f 1,
      from-corner fs (prev e) f 2,
      from-corner fs e f 1 at,
      from-corner fs (next e) f 2,
      from-corner fs (prev e) f 0,
      from-corner fs e f 2 at,
      from-corner fs (next e) f 0,
      from-corner fs (prev e) f 1,
      next_cases e,
      next_cases (next e),
    )

turned_stands : (m : Net) (e a b c n : ℕ) → AreTurned m e a b c → e < 3 * m.faces → a < n → a ≢ b
    → b ≢ c → c ≢ a → Stands m e × (m.from e < n)
turned_stands m e a b c n t l low ab bc ca = grind (arith, common_steps)

-- Every side of a well-formed mesh stands, and runs from one of its points.
pub mesh_side : (m : Mesh) → IsWellFormed m → (e : ℕ) → e < 3 * length m.faces
    → Stands (net_of m.faces) e × ((net_of m.faces).from e < length m.points)
mesh_side m formed e l =
    let n : ℕ = length m.points in
    let net : Net = net_of m.faces in
    let k : Corners = face_at m.faces (e / 3) in
    let f : IsFace n k =
    All-get_or (IsFace n) m.faces (e / 3) no_corners (omega arith) formed.corners in
    elim (side_cases m.faces e (e / 3) refl) [
      | inl t ↦ turned_stands net e k.a k.b k.c n t l f.a f.ab f.bc f.ca
      | inr h ↦
          elim h [
            | inl t ↦ turned_stands net e k.b k.c k.a n t l f.b f.bc f.ca f.ab
            | inr t ↦ turned_stands net e k.c k.a k.b n t l f.c f.ca f.ab f.bc
          ]
    ]
