-- What is told of turning beside the flags: how many faces and patches there are of a kind.
use Rattle.std.specs.Prelude.{◌≡◌, ℕ, pos, ◌<◌, ◌<ℤ◌, ◌==◌, int_lt, Bool, true, false, not, ◌&&◌}
use Rattle.std.specs.Prelude.{◌||◌, List}
use Rattle.pm_base.specs.Place.{Place}
use Rattle.pm_base.specs.Counts.{count}
use Rattle.pm_base.specs.Sides.{Net, to, side_count}
use Rattle.pm_turn.specs.declared.counts.TurnCounts.{TurnCounts}
use Rattle.pm_turn.specs.declared.choice.Sums.{Sums}
use Rattle.pm_turn.specs.Turning.{flag_of, Way}
use Rattle.pm_turn.specs.Choice.{AreLeast, IsClosed, Agrees, volume_in}

-- Of the numbers below n, k have the property.
pub record IsCount (P : ℕ → Type 0) (n k : ℕ) : Type 0 where
  pub test : ℕ → Bool
  pub yes : (i : ℕ) → i < n → test i ≡ true → P i
  pub no : (i : ℕ) → i < n → P i → test i ≡ true
  pub is : k ≡ count test n

-- Face f lies in a patch that has an odd closed way.
abbrev pub IsTwisted : Net → ℕ → Type 0
IsTwisted m f = Way m f f true

-- Face r stands for a closed patch whose neighbours agree as they are, and which is inside out.
pub record IsInsideOut (m : Net) (places : List Place) (least : ℕ → ℕ) (r : ℕ) : Type 0 where
  pub own : least r ≡ r
  pub closed : IsClosed m least r
  pub agrees : Agrees m least r
  pub inward : volume_in m places least (λ _. false) r <ℤ pos 0

-- k patches are.
pub record AreInsideOut (m : Net) (places : List Place) (k : ℕ) : Type 0 where
  pub least : ℕ → ℕ
  pub patches : AreLeast m least
  pub count : IsCount (IsInsideOut m places least) m.faces k

-- Sides e and g join the same two vertices, in either order.
abbrev pub join_same : Net → ℕ → ℕ → Bool
join_same m e g =
    ((m.from g == m.from e) && (to m g == to m e)) || ((m.from g == to m e) && (to m g == m.from e))

-- Side e is the third of its edge: two sides of lower number join the same two vertices.
abbrev pub is_third : Net → ℕ → Bool
is_third m e = count (join_same m e) e == 2

-- How many edges have three sides or more: each has one third side.
abbrev pub crowded_of : Net → ℕ
crowded_of m = count (is_third m) (side_count m)

-- What is told of turning, where these flags tell which faces are turned.
pub record AreTurnCounts (m : Net) (places : List Place) (flags : List Bool)
    (c : TurnCounts) : Type 0 where
  pub turned : c.turned ≡ count (flag_of flags) m.faces
  pub twisted : IsCount (IsTwisted m) m.faces c.twisted
  pub crowded : c.crowded ≡ crowded_of m
  pub inside_out : AreInsideOut m places c.inside_out

-- Whether a face that stands for a patch tells, by the patch's sums, that it is closed, agrees as
-- it is, and is inside out.
abbrev pub is_inward : Bool → Bool → Sums → Bool
is_inward own odd s = own && not odd && (s.bare == 0) && (s.odd == 0) && int_lt s.volume (pos 0)
