-- The edges of a mesh: the pairs of vertices that its sides join, in either order, and the sides of
-- each.
use Rattle.std.specs.Prelude.{◌≡◌, ◌≢◌, ℕ, ◌+◌, ◌*◌, ◌<◌, ◌⊎◌, ◌==◌, nat_lt, Bool, true, false}
use Rattle.std.specs.Prelude.{Option, None, Some, if◌then◌else◌}
use Rattle.std.specs.Ordering.{nat_cmp}
use Rattle.std.specs.BTreeMap.{BTreeMap, get}
use Rattle.pm_base.specs.declared.ids.Side.{Side}
use Rattle.pm_base.specs.Counts.{count}
use Rattle.pm_base.specs.Sides.{Net, to}
use Rattle.pm_turn.specs.declared.edges.Edge.{Edge}
use Rattle.pm_turn.specs.declared.edges.TheConstants.{SHIFT}

-- A side's two ends in ascending order, as one number.
abbrev pub edge_key : ℕ → ℕ → ℕ
edge_key p q = if nat_lt p q then p * SHIFT + q else q * SHIFT + p

abbrev pub edge_key_at : Net → ℕ → ℕ
edge_key_at m e = edge_key (m.from e) (to m e)

-- Of the first n sides this one alone has the key.
pub record IsOnly (m : Net) (n k v : ℕ) : Type 0 where
  pub in_range : v < n
  pub has : edge_key_at m v ≡ k
  pub alone : (e : ℕ) → e < n → edge_key_at m e ≡ k → e ≡ v

-- These two have it, and no third.
pub record AreTwo (m : Net) (n k v w : ℕ) : Type 0 where
  pub one_in : v < n
  pub other_in : w < n
  pub differ : v ≢ w
  pub one_has : edge_key_at m v ≡ k
  pub other_has : edge_key_at m w ≡ k
  pub alone : (e : ℕ) → e < n → edge_key_at m e ≡ k → (e ≡ v) ⊎ (e ≡ w)

-- Three have it, or more.
pub record AreMore (m : Net) (n k : ℕ) : Type 0 where
  pub one : ℕ
  pub two : ℕ
  pub three : ℕ
  pub one_in : one < n
  pub two_in : two < n
  pub three_in : three < n
  pub one_two : one ≢ two
  pub one_three : one ≢ three
  pub two_three : two ≢ three
  pub one_has : edge_key_at m one ≡ k
  pub two_has : edge_key_at m two ≡ k
  pub three_has : edge_key_at m three ≡ k

abbrev pub IsEdge : Net → ℕ → ℕ → Option Edge → Type 0
IsEdge m n k None = (e : ℕ) → e < n → edge_key_at m e ≢ k
IsEdge m n k (Some (Edge.One v)) = IsOnly m n k v.0
IsEdge m n k (Some (Edge.Two v w)) = AreTwo m n k v.0 w.0
IsEdge m n k (Some Edge.More) = AreMore m n k

-- The map says of each key which of the first n sides have it.
abbrev pub AreEdges : Net → ℕ → BTreeMap ℕ Edge → Type 0
AreEdges m n map = (k : ℕ) → IsEdge m n k (get nat_cmp map k)

-- An edge with one more side.
abbrev pub edge_with : Option Edge → Side → Edge
edge_with None e = Edge.One e
edge_with (Some (Edge.One v)) e = Edge.Two v e
edge_with (Some (Edge.Two v w)) e = Edge.More
edge_with (Some Edge.More) e = Edge.More

-- The other side of an edge of two.
abbrev pub mate_in : Option Edge → Side → Option Side
mate_in None e = None
mate_in (Some (Edge.One v)) e = None
mate_in (Some (Edge.Two v w)) e = Some (if v.0 == e.0 then w else v)
mate_in (Some Edge.More) e = None

-- Whether two sides were noted of an edge, and no third.
abbrev pub has_two : Option Edge → Bool
has_two None = false
has_two (Some (Edge.One v)) = false
has_two (Some (Edge.Two v w)) = true
has_two (Some Edge.More) = false

-- Two of the sides before side e have its key, and no third.
abbrev pub comes_third : Net → ℕ → Bool
comes_third m e = count (λ g. edge_key_at m g == edge_key_at m e) e == 2
