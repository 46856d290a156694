-- A mesh cut along its singular sides, and its vertices split by what is left of their fans
-- (Guéziec, Taubin, Lazarus and Horn 1998: cutting).
use Rattle.std.specs.Prelude.{◌≡◌, ℕ, ◌<◌, ◌≤◌, Option, None, List, length, slice_index_or}
use Rattle.std.specs.Prelude.{MatchOption}
use Rattle.pm_base.specs.declared.limits.TheConstants.{MOST_FACES}
use Rattle.pm_base.specs.Sides.{Net, side_count, prev, to, Stands, IsTwin}
use Rattle.pm_base.specs.Rounds.{NoMirrorAt}

-- Each side is one of a face that is there.
abbrev pub AllStand : Net → Type 0
AllStand m = (e : ℕ) → e < side_count m → Stands m e

-- No two faces have the same three corners in opposite orders.
abbrev pub NoMirroredFaces : Net → Type 0
NoMirroredFaces m = (v : ℕ) → NoMirrorAt m v

-- Sides e and g are glued: they join the same two vertices in opposite orders, and no other side
-- joins these two. Every other side is cut open: one without a twin, one that stands twice, and one
-- with two twins.
pub record IsGlued (m : Net) (e g : ℕ) : Type 0 where
  pub stands : Stands m e
  pub twin : IsTwin m e g
  pub one : (k : ℕ) → Stands m k → m.from k ≡ m.from e → to m k ≡ to m e → k ≡ e
  pub other : (k : ℕ) → IsTwin m e k → k ≡ g

-- From side s on, from side to side round the vertex from which all of them run, over glued sides.
pub data Turns (m : Net) (s : ℕ) : ℕ → Type 0 where
  stay : Turns m s s
  on : {e g : ℕ} → Turns m s e → Stands m e → IsGlued m (prev e) g → Turns m s g

-- Net n has the faces of net m, and the vertex of each corner is one of those that the old vertex
-- was split into.
pub record IsSplitByFans (m n : Net) : Type 0 where
  pub faces : n.faces ≡ m.faces
  -- the vertex of m that a vertex of n was
  pub old : ℕ → ℕ
  pub back : (e : ℕ) → e < side_count m → old (n.from e) ≡ m.from e
  -- sides that follow one another round a vertex stay at one vertex
  pub along : (e g : ℕ) → Stands m e → IsGlued m (prev e) g → n.from g ≡ n.from e
  -- and all sides of one new vertex follow one another from one of them on
  pub apart : (e : ℕ) → Stands m e
      → (s : ℕ) × Stands m s × ((g : ℕ) → Stands m g → n.from g ≡ n.from e → Turns m s g)

-- The same by a first side of each new vertex, from which all its sides are met by going round.
pub record IsNumberedBy (m n : Net) (first : ℕ → ℕ) : Type 0 where
  pub faces : n.faces ≡ m.faces
  pub along : (e g : ℕ) → Stands m e → IsGlued m (prev e) g → n.from g ≡ n.from e
  pub stands : (e : ℕ) → Stands m e → Stands m (first (n.from e))
  pub met : (e : ℕ) → Stands m e → Turns m (first (n.from e)) e

-- A mesh that can be cut: each face has three different corners of 32 bits, and there are no more
-- than a mesh can have.
pub record IsCuttable (m : Net) : Type 0 where
  pub short : m.faces ≤ MOST_FACES
  pub stand : AllStand m
  pub low : (e : ℕ) → e < side_count m → m.from e < 4294967296

-- The side to which each side is glued, if any.
pub record AreGlued (m : Net) (n : ℕ) (glued : List (Option ℕ)) : Type 0 where
  pub sides : length glued ≡ n
  pub each : (e : ℕ) → e < n
      → MatchOption (slice_index_or glued e None) ((g : ℕ) → IsGlued m e g → ⊥) (λ g. IsGlued m e g)
