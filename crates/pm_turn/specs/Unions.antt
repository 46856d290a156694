-- Patches found by joining faces that are mates, pair by pair: each face has an elder, which is at
-- most itself, and the face that is its own elder stands for its patch.
use Rattle.std.specs.Prelude.{◌≡◌, ◌≢◌, ℕ, ◌<◌, ◌≤◌, ◌==◌, Bool, true, false, ◌||◌, if◌then◌else◌}
use Rattle.std.specs.Prelude.{List, length, slice_index_or, Option, MatchOption}
use Rattle.pm_base.specs.Sides.{Net, face_of, side_count, beside_side}
use Rattle.pm_turn.specs.Turning.{AreMates, clash, flipped_if, flag_with, Way}

-- What each face has: its elder, whether the way to that is odd, and of a face that stands for a
-- patch whether an odd closed way was found in it.
pub record Elders : Type 0 where
  pub elder : ℕ → ℕ
  pub parity : ℕ → Bool
  pub odd : ℕ → Bool

-- From face x up to the face that stands for its patch, and the parity of the way.
pub data Up (t : Elders) : ℕ → ℕ → Bool → Type 0 where
  top : {x : ℕ} → t.elder x ≡ x → Up t x x false
  up : {x r : ℕ} {p : Bool} → t.elder x ≢ x → Up t (t.elder x) r p
      → Up t x r (flipped_if p (t.parity x))

-- Two mates are in one patch, and agree unless that has an odd closed way.
pub record AreJoined (m : Net) (t : Elders) (e k : ℕ) : Type 0 where
  pub root : ℕ
  pub one : Bool
  pub other : Bool
  pub one_up : Up t (face_of e) root one
  pub other_up : Up t (face_of k) root other
  pub agree : t.odd root ≡ false → other ≡ flipped_if (clash m e k) one

-- The mates of the first n sides are joined.
pub record AreElders (m : Net) (n : ℕ) (t : Elders) : Type 0 where
  pub below : (x : ℕ) → t.elder x ≤ x
  pub step : (x : ℕ) → x < m.faces → Way m x (t.elder x) (t.parity x)
  pub twisted : (x : ℕ) → x < m.faces → t.odd x ≡ true → Way m x x true
  pub joined : (e k : ℕ) → e < n → AreMates m e k → AreJoined m t e k

abbrev pub put : {A : Type 0} → (ℕ → A) → ℕ → A → ℕ → A
put f i v j = if j == i then v else f j

-- The patch for which `high` stands goes under `low`, by a way of this parity.
abbrev pub under : Elders → ℕ → ℕ → Bool → Elders
under t low high d = record {
  elder = put t.elder high low;
  parity = put t.parity high d;
  odd = put t.odd low (t.odd low || t.odd high);
}

-- An odd closed way was found.
abbrev pub marked : Elders → ℕ → Elders
marked t r = record { elder = t.elder; parity = t.parity; odd = put t.odd r true }

-- Each face its own elder.
abbrev pub all_own : Elders
all_own = record { elder = λ x. x; parity = λ x. false; odd = λ x. false }

-- What tables by face say.
abbrev pub elders_of : List ℕ → List Bool → List Bool → Elders
elders_of elders parities odd = record {
  elder = λ x. slice_index_or elders x 0;
  parity = λ x. slice_index_or parities x false;
  odd = λ x. slice_index_or odd x false;
}

-- Tables of so many faces.
pub record AreTables (faces : ℕ) (elders : List ℕ) (parities odd : List Bool) : Type 0 where
  pub elders_long : length elders ≡ faces
  pub parities_long : length parities ≡ faces
  pub odd_long : length odd ≡ faces

-- A table that has beside each side its mate, if it has one.
pub record AreMated (m : Net) (mates : List (Option ℕ)) : Type 0 where
  pub sides : length mates ≡ side_count m
  pub each : (e : ℕ) → e < side_count m
      → MatchOption (beside_side mates e) ((k : ℕ) → AreMates m e k → ⊥) (λ k. AreMates m e k)

-- The ways up were shortened: each face has the root and the parity that it had.
pub record AreShorter (s t : Elders) : Type 0 where
  pub ups : (x r : ℕ) (p : Bool) → Up s x r p → Up t x r p
  pub back : (x r : ℕ) (p : Bool) → Up t x r p → Up s x r p
  pub low : ((x : ℕ) → s.elder x ≤ x) → (x : ℕ) → t.elder x ≤ x
  pub apart : (x : ℕ) → s.elder x ≢ x → t.elder x ≢ x
  pub odd : (x : ℕ) → t.odd x ≡ s.odd x
  pub stay : (m : Net) (n : ℕ) → AreElders m n s → AreElders m n t

-- The flag of a face is told by the way up from it.
pub record IsFlagged (t : Elders) (f : ℕ) (flag : Bool) : Type 0 where
  pub root : ℕ
  pub parity : Bool
  pub way : Up t f root parity
  pub is : flag ≡ flag_with (t.odd root) parity
