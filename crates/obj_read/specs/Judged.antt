-- A line judged alone: what it gives, or its first fault.
use Rattle.std.specs.Prelude.{ℕ, List, [], ◌∷◌, ◌==◌, ◌||◌, nat_le, Result, Ok, Err, if◌then◌else◌}
use Rattle.pm_base.specs.declared.limits.TheConstants.{MOST_FACES, MOST_VERTICES}
use Rattle.obj_lines.specs.Text.{is_continued}
use Rattle.obj_read.specs.declared.fault.ObjFault.{ObjFault}
use Rattle.obj_read.specs.declared.fault.ObjFault.TheVariants as faults
use Rattle.obj_read.specs.declared.found.Found.{Found}
use Rattle.obj_read.specs.declared.found.Found.TheVariants as found
use Rattle.obj_read.specs.Fields.{fields, is_letter}
use Rattle.obj_read.specs.Coordinates.{coordinate}
use Rattle.obj_read.specs.Indices.{index, index_text}
use Rattle.pm_io.specs.Letters.{letter_f, letter_v}

-- The first fault, or what follows from the value.
infixl 10 ◌>>=◌
abbrev pub ◌>>=◌ : {A B : Type 0} → Result A ObjFault → (A → Result B ObjFault) → Result B ObjFault
(Ok x) >>= f = f x
(Err e) >>= f = Err e

-- The vertex with these three fields.
unfoldable pub vertex_of : ℕ → ℕ → List ℕ → List ℕ → List ℕ → Result Found ObjFault
vertex_of digits vertices a b c =
    coordinate digits a >>= λ x. coordinate digits b >>= λ y. coordinate digits c >>= λ z.
    if nat_le MOST_VERTICES vertices then Err faults.TooMany
    else Ok (found.Vertex (record { x = x; y = y; z = z }))

-- The face with these three fields.
unfoldable pub face_read : ℕ → ℕ → List ℕ → List ℕ → List ℕ → Result Found ObjFault
face_read vertices faces x y z =
    index vertices (index_text x) >>= λ a. index vertices (index_text y) >>=
    λ b. index vertices (index_text z) >>= λ c.
    if a == b || b == c || c == a then Err faults.RepeatedCorner
    else if nat_le MOST_FACES faces then Err faults.TooMany
    else Ok (found.Face (record { a = a; b = b; c = c }))

-- The fields after `v`. Those after the third aren't read.
abbrev pub vertex_line : ℕ → ℕ → List (List ℕ) → Result Found ObjFault
vertex_line digits vertices (x ∷ y ∷ z ∷ more) = vertex_of digits vertices x y z
vertex_line digits vertices _ = Err faults.TooFewFields

-- The fields after `f`.
abbrev pub face_line : ℕ → ℕ → List (List ℕ) → Result Found ObjFault
face_line vertices faces (a ∷ b ∷ c ∷ []) = face_read vertices faces a b c
face_line vertices faces (a ∷ b ∷ c ∷ d ∷ more) = Err faults.NotTriangle
face_line vertices faces _ = Err faults.TooFewFields

-- The fields of a line. One that begins with neither `v` nor `f` is skipped, as is one without
-- fields.
abbrev pub fields_found : ℕ → ℕ → ℕ → List (List ℕ) → Result Found ObjFault
fields_found digits vertices faces [] = Ok found.Nothing
fields_found digits vertices faces (keyword ∷ more) =
    if is_letter letter_v keyword then vertex_line digits vertices more
    else if is_letter letter_f keyword then face_line vertices faces more
    else Ok found.Nothing

-- What is read of a line after so many vertices and faces, with so many decimals a coordinate.
unfoldable pub line_found : ℕ → ℕ → ℕ → List ℕ → Result Found ObjFault
line_found digits vertices faces line = if is_continued line then Err faults.Continuation
    else fields_found digits vertices faces (fields line)
