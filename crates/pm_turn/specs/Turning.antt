-- Faces turned round so that neighbours agree. Two faces are neighbours where they share an edge
-- that no third face has.
use Rattle.std.specs.Prelude.{◌≡◌, ◌≢◌, ℕ, ◌+◌, ◌-◌, ◌*◌, ◌%◌, ◌<◌, ◌≤◌, ◌⊎◌, Bool, true, false}
use Rattle.std.specs.Prelude.{not, ◌==◌, List, [], ◌∷◌, length, slice_index_or, if◌then◌else◌}
use Rattle.pm_base.specs.declared.mesh.Corners.{Corners}
use Rattle.pm_base.specs.Sides.{Net, face_of, to, Stands}

-- A face turned round. Its first corner stays.
abbrev pub turned_face : Corners → Corners
turned_face f = record { a = f.a; b = f.c; c = f.b }

abbrev pub turned_if : Bool → Corners → Corners
turned_if flag f = if flag then turned_face f else f

-- The faces, of which those are turned whose flag is set.
abbrev pub turned_by : List Bool → List Corners → List Corners
turned_by _ [] = []
turned_by [] (f ∷ fs) = f ∷ fs
turned_by (flag ∷ flags) (f ∷ fs) = turned_if flag f ∷ turned_by flags fs

abbrev pub flag_of : List Bool → ℕ → Bool
flag_of flags f = slice_index_or flags f false

-- Side k joins the two vertices that side e joins, one way or the other.
pub record JoinsSame (m : Net) (e k : ℕ) : Type 0 where
  pub stands : Stands m k
  pub ends : ((m.from k ≡ m.from e) × (to m k ≡ to m e)) ⊎
      ((m.from k ≡ to m e) × (to m k ≡ m.from e))

-- Sides e and k alone join their two vertices: the two faces are neighbours there.
pub record AreMates (m : Net) (e k : ℕ) : Type 0 where
  pub stands : Stands m e
  pub differ : e ≢ k
  pub same : JoinsSame m e k
  pub alone : (g : ℕ) → JoinsSame m e g → (g ≡ e) ⊎ (g ≡ k)

-- Two such sides run the same way: one of the two faces is turned against the other.
abbrev pub clash : Net → ℕ → ℕ → Bool
clash m e k = m.from e == m.from k

abbrev pub flipped_if : Bool → Bool → Bool
flipped_if true b = not b
flipped_if false b = b

-- From face f from neighbour to neighbour, and whether an odd number of these steps clash.
pub data Way (m : Net) (f : ℕ) : ℕ → Bool → Type 0 where
  stay : Way m f f false
  over : {e k : ℕ} {p : Bool} → Way m f (face_of e) p → AreMates m e k
      → Way m f (face_of k) (flipped_if (clash m e k) p)

-- Neighbours agree once the flagged faces are turned, but in a patch that has an odd closed way, as
-- that of a Moebius strip: of such a patch no face is turned. A patch is all that is reached from a
-- face.
pub record AgreeOnceTurned (m : Net) (flags : List Bool) : Type 0 where
  pub long : length flags ≡ m.faces
  -- whether a face's patch has an odd closed way
  pub twisted : ℕ → Bool
  pub odd : (f : ℕ) → f < m.faces → twisted f ≡ true → Way m f f true × (flag_of flags f ≡ false)
  pub agree : (e k : ℕ) → AreMates m e k → twisted (face_of e) ≡ false
      → (twisted (face_of k) ≡ false)
      × (flag_of flags (face_of k) ≡ flipped_if (clash m e k) (flag_of flags (face_of e)))

-- The flags of that kind by which each patch's face of least number stays.
pub record AreTurns (m : Net) (flags : List Bool) : Type 0 where
  pub agreeing : AgreeOnceTurned m flags
  -- the least face of a face's patch
  pub least : ℕ → ℕ
  pub parity : ℕ → Bool
  pub way : (f : ℕ) → f < m.faces → Way m f (least f) (parity f)
  pub low : (f g : ℕ) (p : Bool) → f < m.faces → Way m f g p → least f ≤ g
  pub first : (f : ℕ) → f < m.faces → flag_of flags (least f) ≡ false

-- Neighbours agree: no two sides that alone join two vertices run the same way.
abbrev pub AllAgree : Net → Type 0
AllAgree m = (e k : ℕ) → AreMates m e k → clash m e k ≡ false

-- Where a side of a face comes to stand when flagged faces are turned.
abbrev pub moved : List Bool → ℕ → ℕ
moved flags e = if flag_of flags (face_of e) then 3 * face_of e + (2 - e % 3) else e

-- What tables by face have to say so that flags can be read from them: the least face of a face's
-- patch, the parity of a way to it, and for a patch's least face whether the patch has an odd
-- closed way.
pub record AreTraced (m : Net) (root : ℕ → ℕ) (parity odd : ℕ → Bool) : Type 0 where
  pub way : (f : ℕ) → f < m.faces → Way m f (root f) (parity f)
  pub below : (f : ℕ) → root f ≤ f
  pub own : (f : ℕ) → f < m.faces → parity (root f) ≡ false
  pub same : (e k : ℕ) → AreMates m e k → root (face_of e) ≡ root (face_of k)
  pub twisted : (f : ℕ) → f < m.faces → odd (root f) ≡ true → Way m (root f) (root f) true
  pub straight : (e k : ℕ) → AreMates m e k → odd (root (face_of e)) ≡ false
      → parity (face_of k) ≡ flipped_if (clash m e k) (parity (face_of e))

-- The flag of a face: its parity, but in a patch with an odd closed way.
abbrev pub flag_with : Bool → Bool → Bool
flag_with odd parity = if odd then false else parity

abbrev pub traced_flag : (ℕ → ℕ) → (ℕ → Bool) → (ℕ → Bool) → ℕ → Bool
traced_flag root parity odd f = flag_with (odd (root f)) (parity f)
