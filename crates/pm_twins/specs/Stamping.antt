-- Stamps: at some vertices a side that leaves them. They are good for the sides that arrive at one
-- vertex at a time.
use Rattle.std.specs.Prelude.{◌≡◌, ℕ, ◌<◌, ◌≤◌, ◌==◌, cond, min, max, Option, None, Some, List}
use Rattle.std.specs.Prelude.{length, replicate, slice_index_or, slice_set}
use Rattle.std.specs.Option.{IfSome, option_map}
use Rattle.pm_base.specs.declared.ids.Side.{Side}
use Rattle.pm_base.specs.Sides.{Net, side_count, to, beside_side}
use Rattle.pm_twins.specs.SideLists.{link_of}
use Rattle.pm_twins.specs.declared.stamps.Stamp.{Stamp}
use Rattle.pm_twins.specs.declared.stamps.TheConstants.{NOWHERE}

-- What a vertex has before a side is stamped there.
abbrev pub no_stamp : Stamp
no_stamp = record { side = record { 0 = 0 }; target = NOWHERE }

-- The stamped side, where it runs to vertex v.
abbrev pub side_to : ℕ → Stamp → Option Side
side_to v stamp = cond (stamp.target == v) (Some stamp.side) None

-- What is stamped at each vertex, and the least side so far that runs between the same vertices as
-- an earlier one.
pub record Stamps : Type 0 where
  pub at : List Stamp
  pub repeat : Option Side

-- No side stamped at any of so many vertices.
abbrev pub no_stamps : ℕ → Stamps
no_stamps n = record { at = replicate n no_stamp; repeat = None }

-- The side to vertex v that is stamped at vertex w, if there is one.
abbrev pub stamped : Stamps → ℕ → ℕ → Option Side
stamped stamps v w = side_to v (slice_index_or stamps.at w no_stamp)

-- No side to vertex n or a later one is stamped.
abbrev pub NoneStampedFrom : ℕ → Stamps → Type 0
NoneStampedFrom n stamps = (v w : ℕ) → n ≤ v → v < NOWHERE → stamped stamps v w ≡ None

-- Of two sides the one with the lesser number, and the one with the greater.
abbrev pub lesser : Side → Side → Side
lesser g e = record { 0 = min g.0 e.0 }

abbrev pub greater : Side → Side → Side
greater g e = record { 0 = max g.0 e.0 }

-- Two sides that run between the same vertices, or one alone.
pub record Ordered : Type 0 where
  pub first : Side
  pub later : Option Side

-- Side e with the one that was stamped before, if any, the earlier first.
abbrev pub in_order : Option Side → Side → Ordered
in_order None e = record { first = e; later = None }
in_order (Some g) e = record { first = lesser g e; later = Some (greater g e) }

-- The lesser of two sides, where there are two.
abbrev pub lesser_of : Option Side → Option Side → Option Side
lesser_of a None = a
lesser_of None (Some b) = Some b
lesser_of (Some a) (Some b) = Some (lesser a b)

-- The stamps with side e to vertex v from vertex w.
abbrev pub with_side : Stamps → ℕ → ℕ → Side → Stamps
with_side stamps v w e = record {
  at = slice_set stamps.at w
      (record { side = (in_order (stamped stamps v w) e).first; target = v });
  repeat = lesser_of stamps.repeat (in_order (stamped stamps v w) e).later;
}

-- A side before side e has the same two vertices in the same order.
abbrev pub IsRepeat : Net → ℕ → Type 0
IsRepeat m e = (g : ℕ) × (g < e) × (m.from g ≡ m.from e) × (to m g ≡ to m e)

-- There is a side, and its number is e at most.
abbrev pub IsUpTo : Option Side → ℕ → Type 0
IsUpTo None e = ⊥
IsUpTo (Some g) e = g.0 ≤ e

-- This side is a repeat, and no lesser one that arrives at one of the first n vertices is.
pub record IsLeastRepeat (m : Net) (n : ℕ) (repeat : Option Side) : Type 0 where
  pub is_one : IfSome repeat (λ g. (g.0 < side_count m) × IsRepeat m g.0)
  pub least : (e : ℕ) → e < side_count m → to m e < n → IsRepeat m e → IsUpTo repeat e

-- This side runs from p to q, or none does.
abbrev pub IsSideBetween : Net → ℕ → ℕ → Option ℕ → Type 0
IsSideBetween m p q None = (e : ℕ) → e < side_count m → m.from e ≡ p → to m e ≡ q → ⊥
IsSideBetween m p q (Some e) = (e < side_count m) × (m.from e ≡ p) × (to m e ≡ q)

-- At each vertex from which a side runs to vertex v such a side is stamped, and at no other one.
abbrev pub AreAllStamped : Net → ℕ → Stamps → Type 0
AreAllStamped m v stamps =
    (w : ℕ) → IsSideBetween m w v (option_map (λ s. s.0) (stamped stamps v w))

-- The table has a side that runs back for each that leaves one of the first n vertices, and the
-- links of the others.
pub record ArePaired (m : Net) (n : ℕ) (table : List (Option ℕ)) : Type 0 where
  pub sides : length table ≡ side_count m
  pub each : (e : ℕ) → e < side_count m → m.from e < n
      → IsSideBetween m (to m e) (m.from e) (beside_side table e)
  pub others : (e : ℕ) → e < side_count m → n ≤ m.from e → beside_side table e ≡ link_of m e
