-- What is added up over the faces of each patch.
use Rattle.std.specs.Prelude.{◌≡◌, ℕ, ℤ, pos, ◌+◌, ◌*◌, ◌^◌, ◌<◌, ◌≤◌, ◌+ℤ◌, ◌==◌, nat_lt, int_lt}
use Rattle.std.specs.Prelude.{Bool, true, false, not, ◌&&◌, ◌||◌, List, Option, is_none, length}
use Rattle.std.specs.Prelude.{slice_index_or, if◌then◌else◌, unsigned_abs}
use Rattle.std.specs.Ordering.{int_eq}
use Rattle.pm_base.specs.Place.{Place}
use Rattle.pm_base.specs.declared.mesh.Corners.{Corners}
use Rattle.pm_base.specs.Counts.{one_if, count}
use Rattle.pm_base.specs.Sides.{Net, beside_side}
use Rattle.pm_turn.specs.declared.patches.Root.{Root}
use Rattle.pm_turn.specs.declared.choice.Sums.{Sums}
use Rattle.pm_turn.specs.Turning.{flipped_if}
use Rattle.pm_turn.specs.Unions.{Elders, Up}
use Rattle.pm_turn.specs.Choice.{weight, total, place_at, area_of, area_at, determinant_of}
use Rattle.pm_turn.specs.Choice.{volume_at}

abbrev pub no_root : Root
no_root = record { face = 0; parity = false }

-- The face that stands for the patch of face f, and whether the way to it is odd.
abbrev pub root_at : List Root → ℕ → ℕ
root_at roots f = (slice_index_or roots f no_root).face

abbrev pub parity_at : List Root → ℕ → Bool
parity_at roots f = (slice_index_or roots f no_root).parity

-- The first n faces have their roots.
pub record AreRooted (t : Elders) (n : ℕ) (roots : List Root) : Type 0 where
  pub long : length roots ≡ n
  pub below : (f : ℕ) → root_at roots f ≤ f
  pub way : (f : ℕ) → f < n → Up t f (root_at roots f) (parity_at roots f)

-- A side of face f has no mate.
abbrev pub is_bare : List (Option ℕ) → ℕ → Bool
is_bare mates f =
    is_none (beside_side mates (3 * f)) || is_none (beside_side mates (3 * f + 1))
    || is_none (beside_side mates (3 * f + 2))

-- The area of a face.
abbrev pub face_area : List Place → Corners → ℕ
face_area places f = area_of (place_at places f.a) (place_at places f.b) (place_at places f.c)

-- The determinant of a face's corners, once it is turned if told so.
abbrev pub face_volume : List Place → Bool → Corners → ℤ
face_volume places true f =
    determinant_of (place_at places f.a) (place_at places f.c) (place_at places f.b)
face_volume places false f =
    determinant_of (place_at places f.a) (place_at places f.b) (place_at places f.c)

abbrev pub no_sums : Sums
no_sums = record { even_area = 0; odd_area = 0; odd = 0; bare = 0; volume = pos 0 }

-- The sums with one more face of the patch.
abbrev pub with_face : Sums → Bool → Bool → ℕ → ℤ → Sums
with_face s parity bare area volume = record {
  even_area = s.even_area + (if not parity then area else 0);
  odd_area = s.odd_area + (if parity then area else 0);
  odd = s.odd + one_if parity;
  bare = s.bare + one_if bare;
  volume = s.volume +ℤ volume;
}

-- Sums over n faces fit their numbers.
pub record IsSmall (n : ℕ) (s : Sums) : Type 0 where
  pub even_area : s.even_area ≤ n * 2 ^ 35
  pub odd_area : s.odd_area ≤ n * 2 ^ 35
  pub odd : s.odd ≤ n
  pub bare : s.bare ≤ n
  pub volume : unsigned_abs s.volume ≤ n * 2 ^ 51

-- The sums over those of the first n faces for whose patch face r stands.
pub record IsSums (m : Net) (places : List Place) (mates : List (Option ℕ)) (roots : List Root)
    (n r : ℕ) (s : Sums) : Type 0 where
  pub even_area : s.even_area
      ≡ weight (area_at m places) (λ f. (root_at roots f == r) && not (parity_at roots f)) n
  pub odd_area : s.odd_area
      ≡ weight (area_at m places) (λ f. (root_at roots f == r) && parity_at roots f) n
  pub odd : s.odd ≡ count (λ f. (root_at roots f == r) && parity_at roots f) n
  pub bare : s.bare ≡ count (λ f. (root_at roots f == r) && is_bare mates f) n
  pub volume : s.volume ≡ total
      (λ f. if root_at roots f == r then volume_at m places (parity_at roots f) f else pos 0) n

pub record AreSums (m : Net) (places : List Place) (mates : List (Option ℕ)) (roots : List Root)
    (n : ℕ) (sums : List Sums) : Type 0 where
  pub long : length sums ≡ m.faces
  pub each : (r : ℕ) → r < m.faces → IsSums m places mates roots n r (slice_index_or sums r no_sums)

-- Whether the way round by parities is to be reversed.
abbrev pub is_reversed : Sums → Bool
is_reversed s =
    if (s.bare == 0) && not (s.odd == 0) && not (int_eq s.volume (pos 0))
    then int_lt s.volume (pos 0) else nat_lt s.even_area s.odd_area

-- The flag of a face.
abbrev pub chosen_flag : Bool → Bool → Bool → Bool
chosen_flag odd reversed parity = if odd then false else flipped_if reversed parity
