-- What a walk over the corners at a vertex looks for, as tests of one corner.
use Rattle.std.specs.Prelude.{◌≡◌, ◌≢◌, ℕ, ◌⊎◌, ◌==◌, Bool, ◌&&◌, ◌||◌, true, is_none}
use Rattle.pm_base.specs.Place.{Place}
use Rattle.pm_base.specs.Sides.{Net, next, prev, to, third, Stands, IsBorderSide, twin_of}
use Rattle.pm_runs.specs.Surfaces.{Surface, net_of_surface}
use Rattle.pm_runs.specs.Pairs.{Runs, Joined, IsThird, StaysUpright}

-- The face at the corner holds vertex w.
abbrev pub holds_vertex : Net → ℕ → ℕ → Bool
holds_vertex m w e = to m e == w || third m e == w

-- The other two corners of the face at the corner are b and c.
abbrev pub has_two : Net → ℕ → ℕ → ℕ → Bool
has_two m b c e = (to m e == b && third m e == c) || (to m e == c && third m e == b)

-- Of the two sides at the corner one has nothing across it.
abbrev pub is_open_corner : Net → ℕ → Bool
is_open_corner m e = is_none (twin_of m e) || is_none (twin_of m (prev e))

-- A face has a side from p to q, and nothing stands across any of its sides.
abbrev pub IsAloneAlong : Net → ℕ → ℕ → Type 0
IsAloneAlong m p q =
    (e : ℕ) × Runs m e p q × IsBorderSide m e × IsBorderSide m (next e) × IsBorderSide m (prev e)

-- w is a neighbour of b, and no third corner of a face that holds both a and b.
abbrev pub IsStray : Net → ℕ → ℕ → ℕ → Type 0
IsStray m a b w = Joined m b w × (IsThird m a b w → ⊥)

-- Such a one follows in the face at the corner; or it comes before there, and nothing stands across
-- the side between. Else it follows in the face that stands there.
abbrev pub HasStray : Net → ℕ → ℕ → ℕ → Type 0
HasStray m a b e =
    IsStray m a b (to m e) ⊎ ((is_none (twin_of m (prev e)) ≡ true) × IsStray m a b (third m e))

-- The face at the corner, if it doesn't hold q, stays upright when the corner moves to the place.
abbrev pub KeepsUpright : Surface → ℕ → Place → ℕ → Type 0
KeepsUpright s q place e =
    let m = net_of_surface s in
    to m e ≢ q → third m e ≢ q → StaysUpright s place (m.from e) (to m e) (third m e)

-- The face at the corner doesn't hold q, and turns over when the corner moves to the place.
abbrev pub TurnsAt : Surface → ℕ → Place → ℕ → Type 0
TurnsAt s q place e =
    let m = net_of_surface s in
    (to m e ≢ q) × (third m e ≢ q) × (StaysUpright s place (m.from e) (to m e) (third m e) → ⊥)

-- No face that holds p and not q turns over when p moves to the place.
abbrev pub StayUprightAt : Surface → ℕ → ℕ → Place → Type 0
StayUprightAt s p q place =
    let m = net_of_surface s in
    (e : ℕ) → Stands m e → m.from e ≡ p → to m e ≢ q → third m e ≢ q →
    StaysUpright s place p (to m e) (third m e)
