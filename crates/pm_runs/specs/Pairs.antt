-- Neighbours, and the pairs of vertices that may be collapsed: the link condition (Dey,
-- Edelsbrunner, Guha and Nekhayev 1999), with its border cases, and the test for faces that turn
-- over.
use Rattle.std.specs.Prelude.{◌≡◌, ◌≢◌, ℕ, pos, ◌≤ℤ◌, ◌⊎◌, ◌↔◌}
use Rattle.pm_base.specs.Place.{Place}
use Rattle.pm_base.specs.Geometry.{cross_of, dot_of}
use Rattle.pm_base.specs.Sides.{Net, face_of, next, prev, to, third, Stands, IsBorderSide, IsBorder}
use Rattle.pm_runs.specs.Surfaces.{Surface, net_of_surface, place_at}

-- Side e of a face that is there runs from p to q.
pub record Runs (m : Net) (e p q : ℕ) : Type 0 where
  pub stands : Stands m e
  pub begins : m.from e ≡ p
  pub ends : to m e ≡ q

-- Some face has a side from p to q: in its cyclic order p is followed by q.
abbrev pub HasSide : Net → ℕ → ℕ → Type 0
HasSide m p q = (e : ℕ) × Runs m e p q

-- Some face holds both: they are neighbours.
abbrev pub Joined : Net → ℕ → ℕ → Type 0
Joined m p q = HasSide m p q ⊎ HasSide m q p

-- Side e runs from one of the two to the other. A face that holds both has one such side.
abbrev pub Links : Net → ℕ → ℕ → ℕ → Type 0
Links m e p q = Runs m e p q ⊎ Runs m e q p

-- w is the third corner of a face that holds both.
abbrev pub IsThird : Net → ℕ → ℕ → ℕ → Type 0
IsThird m p q w = (e : ℕ) × Links m e p q × (third m e ≡ w)

-- Some face has these three corners, in either order.
abbrev pub HasFace : Net → ℕ → ℕ → ℕ → Type 0
HasFace m a b c = (e : ℕ) × Stands m e × (m.from e ≡ a) ×
    (((to m e ≡ b) × (third m e ≡ c)) ⊎ ((to m e ≡ c) × (third m e ≡ b)))

-- The common neighbours are exactly the third corners of the faces that hold both.
abbrev pub HaveCommonThirds : Net → ℕ → ℕ → Type 0
HaveCommonThirds m a b = (w : ℕ) → (Joined m a w × Joined m b w) ↔ IsThird m a b w

-- If both lie on the border, only one face holds both.
abbrev pub AreOnceOnBorder : Net → ℕ → ℕ → Type 0
AreOnceOnBorder m a b = IsBorder m a → IsBorder m b → (e g : ℕ) → Links m e a b → Links m g a b →
    face_of e ≡ face_of g

-- If two faces hold both, with third corners v and w, then not both a, v, w and b, v, w are the
-- corners of faces.
abbrev pub ShareNoTriangle : Net → ℕ → ℕ → Type 0
ShareNoTriangle m a b =
    (e g : ℕ) → Runs m e a b → Runs m g b a → HasFace m a (third m e) (third m g) →
    HasFace m b (third m e) (third m g) → ⊥

-- If one face holds both, not both of its other sides are border sides.
abbrev pub AreNotAlone : Net → ℕ → ℕ → Type 0
AreNotAlone m a b = (e : ℕ) → Links m e a b → IsBorderSide m e → IsBorderSide m (next e)
    → IsBorderSide m (prev e) → ⊥

-- The face with corners p, v and w doesn't turn over when p moves to the place: the product of the
-- two normals is at least 0.
abbrev pub StaysUpright : Surface → Place → ℕ → ℕ → ℕ → Type 0
StaysUpright s place p v w =
    let q = place_at s v in
    let r = place_at s w in
    pos 0 ≤ℤ dot_of (cross_of place q r) (cross_of (place_at s p) q r)

-- The two vertices of a pair, in either order.
abbrev pub IsPair : ℕ → ℕ → ℕ → ℕ → Type 0
IsPair t u a b = ((a ≡ t) × (b ≡ u)) ⊎ ((a ≡ u) × (b ≡ t))

-- No face that holds exactly one of the two turns over when that corner moves to the place.
abbrev pub StayUpright : Surface → ℕ → ℕ → Place → Type 0
StayUpright s a b place =
    let m = net_of_surface s in
    (e p q : ℕ) → IsPair a b p q → Stands m e → m.from e ≡ p → to m e ≢ q → third m e ≢ q →
    StaysUpright s place p (to m e) (third m e)

-- The pair may be collapsed to the place.
pub record IsLegalPair (s : Surface) (a b : ℕ) (place : Place) : Type 0 where
  pub joined : Joined (net_of_surface s) a b
  pub common : HaveCommonThirds (net_of_surface s) a b
  pub border : AreOnceOnBorder (net_of_surface s) a b
  pub triangles : ShareNoTriangle (net_of_surface s) a b
  pub single : AreNotAlone (net_of_surface s) a b
  pub upright : StayUpright s a b place
