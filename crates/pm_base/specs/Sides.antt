-- A mesh by its sides: the textbook half-edge structure, with three half edges a face. Side 3f + i
-- of face f runs from corner i to the next corner of the face.
use Rattle.std.specs.Prelude.{◌≡◌, ◌≢◌, ℕ, zero, suc, ◌+◌, ◌-◌, ◌*◌, ◌/◌, ◌%◌, ◌<◌, ◌==◌, nat_lt}
use Rattle.std.specs.Prelude.{Bool, cond, not, ◌&&◌, Option, Some, None, List, length}
use Rattle.std.specs.Prelude.{slice_index_or, ◌⊎◌}
use Rattle.pm_base.specs.declared.mesh.Corners.{Corners}

-- How many faces there were at first, and the vertex from which each side runs. Merging two
-- vertices changes this one function: a face is there while its three corners are three vertices.
pub record Net : Type 0 where
  pub faces : ℕ
  pub from : ℕ → ℕ

abbrev pub side_count : Net → ℕ
side_count m = 3 * m.faces

-- The face that has side e.
abbrev pub face_of : ℕ → ℕ
face_of e = e / 3

-- The side that follows side e in its face, and the one before it.
unfoldable pub next : ℕ → ℕ
next e = cond (e % 3 == 2) (e - 2) (e + 1)

abbrev pub prev : ℕ → ℕ
prev e = next (next e)

-- The vertex to which side e runs, and the third corner of its face.
abbrev pub to : Net → ℕ → ℕ
to m e = m.from (next e)

abbrev pub third : Net → ℕ → ℕ
third m e = m.from (prev e)

-- The corner of a face with number 0, 1 or 2.
abbrev pub corner_in : Corners → ℕ → ℕ
corner_in f i = cond (i == 0) f.a (cond (i == 1) f.b f.c)

abbrev pub no_corners : Corners
no_corners = record { a = 0; b = 0; c = 0 }

-- What a table has beside side e: a side, or none.
abbrev pub beside_side : List (Option ℕ) → ℕ → Option ℕ
beside_side table e = slice_index_or table e None

-- The sides of a list of faces.
abbrev pub net_of : List Corners → Net
net_of fs = record {
  faces = length fs;
  from = λ e. corner_in (slice_index_or fs (face_of e) no_corners) (e % 3);
}

-- Side e is one of a face that is there.
pub record Stands (m : Net) (e : ℕ) : Type 0 where
  pub is_side : e < side_count m
  pub first : m.from e ≢ to m e
  pub second : to m e ≢ third m e
  pub last : third m e ≢ m.from e

-- The same as a test.
unfoldable pub stands : Net → ℕ → Bool
stands m e =
    nat_lt e (side_count m) &&
    (not (m.from e == to m e) && (not (to m e == third m e) && not (third m e == m.from e)))

-- No directed side stands twice.
abbrev pub NoSideTwice : Net → Type 0
NoSideTwice m = (e g : ℕ) → Stands m e → Stands m g → m.from e ≡ m.from g → to m e ≡ to m g → e ≡ g

-- A twin of side e: it joins the same two vertices in the other order. It is a side of another
-- face.
pub record IsTwin (m : Net) (e g : ℕ) : Type 0 where
  pub stands : Stands m g
  pub begins : m.from g ≡ to m e
  pub ends : to m g ≡ m.from e

abbrev pub HasNoTwin : Net → ℕ → Type 0
HasNoTwin m e = (g : ℕ) → IsTwin m e g → ⊥

-- The greatest number below n that passes, if any.
abbrev pub find_below : (ℕ → Bool) → ℕ → Option ℕ
find_below p zero = None
find_below p (suc n) = cond (p n) (Some n) (find_below p n)

abbrev pub runs_back : Net → ℕ → ℕ → Bool
runs_back m e g = stands m g && ((m.from g == to m e) && (to m g == m.from e))

-- The twin of side e. There is one at most where no directed side stands twice.
unfoldable pub twin_of : Net → ℕ → Option ℕ
twin_of m e = find_below (runs_back m e) (side_count m)

-- The next side round the vertex from which side e runs: the twin of the side before e in its face.
unfoldable pub around : Net → ℕ → Option ℕ
around m e = twin_of m (prev e)

-- A side of a face that is there, without a twin.
pub record IsBorderSide (m : Net) (e : ℕ) : Type 0 where
  pub stands : Stands m e
  pub alone : HasNoTwin m e

-- A vertex is on the border if a side at it has no twin.
abbrev pub IsBorder : Net → ℕ → Type 0
IsBorder m v = (e : ℕ) × IsBorderSide m e × ((m.from e ≡ v) ⊎ (to m e ≡ v))
