-- Which way round a patch is turned. Where its neighbours can be made to agree, they can in two
-- ways, each the reverse of the other.
use Rattle.std.specs.Prelude.{◌≡◌, ℕ, ℤ, zero, suc, pos, ◌+◌, ◌*◌, ◌<◌, ◌≤◌, ◌+ℤ◌, ◌≤ℤ◌, ◌==◌, Bool}
use Rattle.std.specs.Prelude.{true, false, not, ◌&&◌, List, length, slice_index_or, if◌then◌else◌}
use Rattle.std.specs.Prelude.{unsigned_abs}
use Rattle.pm_base.specs.Place.{Place, origin}
use Rattle.pm_base.specs.Geometry.{Direction, dot_of, cross_of}
use Rattle.pm_base.specs.Sides.{Net, face_of, side_count}
use Rattle.pm_turn.specs.Turning.{flag_of, AreMates, clash, Way, AgreeOnceTurned}

-- The least face of each face's patch.
pub record AreLeast (m : Net) (least : ℕ → ℕ) : Type 0 where
  pub way : (f : ℕ) → f < m.faces → (p : Bool) × Way m f (least f) p
  pub low : (f g : ℕ) (p : Bool) → f < m.faces → Way m f g p → least f ≤ g

-- Below, a patch is named by its least face r.

-- A side of the patch has no mate.
pub record IsOpen (m : Net) (least : ℕ → ℕ) (r : ℕ) : Type 0 where
  pub side : ℕ
  pub in_range : side < side_count m
  pub here : least (face_of side) ≡ r
  pub none : (k : ℕ) → AreMates m side k → ⊥

-- Each of its sides has one.
abbrev pub IsClosed : Net → (ℕ → ℕ) → ℕ → Type 0
IsClosed m least r = IsOpen m least r → ⊥

-- No two neighbours in the patch clash.
abbrev pub Agrees : Net → (ℕ → ℕ) → ℕ → Type 0
Agrees m least r = (e k : ℕ) → AreMates m e k → least (face_of e) ≡ r → clash m e k ≡ false

-- Two do.
pub record HasClash (m : Net) (least : ℕ → ℕ) (r : ℕ) : Type 0 where
  pub side : ℕ
  pub mate : ℕ
  pub mates : AreMates m side mate
  pub here : least (face_of side) ≡ r
  pub clashes : clash m side mate ≡ true

-- A vertex past the list stands in the middle of space.
abbrev pub place_at : List Place → ℕ → Place
place_at places v = slice_index_or places v origin

-- Twice the areas of what three places show along the three axes, added up: the numbers of
-- (b - a) x (c - a) without their signs. 0 where the places are on a line; below 2^35 on the grid.
unfoldable pub area_of : Place → Place → Place → ℕ
area_of a b c =
    let n : Direction = cross_of a b c in unsigned_abs n.x + unsigned_abs n.y + unsigned_abs n.z

-- That of face f, whichever way round it is.
abbrev pub area_at : Net → List Place → ℕ → ℕ
area_at m places f =
    area_of (place_at places (m.from (3 * f))) (place_at places (m.from (3 * f + 1)))
    (place_at places (m.from (3 * f + 2)))

-- What those of the first n that pass weigh together.
unfoldable pub weight : (ℕ → ℕ) → (ℕ → Bool) → ℕ → ℕ
weight w p zero = 0
weight w p (suc n) = (if p n then w n else 0) + weight w p n

-- How much area of the patch is turned, and how much stays.
abbrev pub area_turned_in : Net → List Place → (ℕ → ℕ) → (ℕ → Bool) → ℕ → ℕ
area_turned_in m places least turned r =
    weight (area_at m places) (λ f. (least f == r) && turned f) m.faces

abbrev pub area_staying_in : Net → List Place → (ℕ → ℕ) → (ℕ → Bool) → ℕ → ℕ
area_staying_in m places least turned r =
    weight (area_at m places) (λ f. (least f == r) && not (turned f)) m.faces

-- No more area of the patch is turned than stays; where as much is, the face of least number stays.
pub record IsSmaller (m : Net) (places : List Place) (least : ℕ → ℕ) (turned : ℕ → Bool)
    (r : ℕ) : Type 0 where
  pub small : area_turned_in m places least turned r ≤ area_staying_in m places least turned r
  pub first : area_turned_in m places least turned r ≡ area_staying_in m places least turned r
      → turned r ≡ false

-- Each vertex that a face names has a place.
abbrev pub ArePlaced : Net → List Place → Type 0
ArePlaced m places = (e : ℕ) → e < side_count m → m.from e < length places

-- The determinant of three places, a . ((b - a) x (c - a)): six times the volume between the middle
-- of space and the face, with the face's sign.
unfoldable pub determinant_of : Place → Place → Place → ℤ
determinant_of a b c = dot_of (record { x = a.x; y = a.y; z = a.z }) (cross_of a b c)

-- That of face f as it stands, and once it is turned.
abbrev pub volume_at : Net → List Place → Bool → ℕ → ℤ
volume_at m places true f =
    determinant_of (place_at places (m.from (3 * f))) (place_at places (m.from (3 * f + 2)))
    (place_at places (m.from (3 * f + 1)))
volume_at m places false f =
    determinant_of (place_at places (m.from (3 * f))) (place_at places (m.from (3 * f + 1)))
    (place_at places (m.from (3 * f + 2)))

-- The sum of the first n.
unfoldable pub total : (ℕ → ℤ) → ℕ → ℤ
total g zero = pos 0
total g (suc n) = g n +ℤ total g n

-- Six times the signed volume of the patch, of which these faces are turned (the theorem of Gauss).
abbrev pub volume_in : Net → List Place → (ℕ → ℕ) → (ℕ → Bool) → ℕ → ℤ
volume_in m places least turned r =
    total (λ f. if least f == r then volume_at m places (turned f) f else pos 0) m.faces

-- The patch isn't inside out; where it has no volume, the least of its area is turned.
pub record IsOutward (m : Net) (places : List Place) (least : ℕ → ℕ) (turned : ℕ → Bool)
    (r : ℕ) : Type 0 where
  pub volume : pos 0 ≤ℤ volume_in m places least turned r
  pub flat : volume_in m places least turned r ≡ pos 0 → IsSmaller m places least turned r

-- The flags by which neighbours agree once the flagged faces are turned, and by which, in each
-- patch,
-- * no face is turned where neighbours agree already;
-- * the least area is, where the patch is open;
-- * the way round is outward, where it is closed, has a clash, and can be turned at all.
pub record AreChosenTurns (m : Net) (places : List Place) (flags : List Bool) : Type 0 where
  pub agreeing : AgreeOnceTurned m flags
  pub least : ℕ → ℕ
  pub patches : AreLeast m least
  pub same : (f : ℕ) → f < m.faces → Agrees m least (least f) → flag_of flags f ≡ false
  pub smaller : (r : ℕ) → IsOpen m least r → IsSmaller m places least (flag_of flags) r
  pub outward : (r : ℕ) → IsClosed m least r → HasClash m least r → agreeing.twisted r ≡ false
      → IsOutward m places least (flag_of flags) r
