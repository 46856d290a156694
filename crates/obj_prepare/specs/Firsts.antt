-- The first vertex at each place, in a map from a place as one number.
use Rattle.std.specs.Prelude.{◌≡◌, ◌≢◌, ℕ, ◌+◌, ◌*◌, ◌<◌, ℤ, pos, ◌+ℤ◌, unsigned_abs, true, List}
use Rattle.std.specs.Option.{MatchOption}
use Rattle.std.specs.Ordering.{nat_cmp}
use Rattle.std.specs.BTreeMap.{BTreeMap, get}
use Rattle.pm_base.specs.declared.limits.TheConstants.{GREATEST_COORDINATE}
use Rattle.pm_base.specs.declared.mesh.Corners.{Corners}
use Rattle.pm_base.specs.Place.{Place, IsPlace}
use Rattle.obj_prepare.specs.Named.{is_some_corner}
use Rattle.obj_prepare.specs.Joining.{place_in_list}

-- How far a coordinate is above the least one.
abbrev pub raised : ℤ → ℕ
raised n = unsigned_abs (n +ℤ pos GREATEST_COORDINATE)

-- A place as one number: 16 bits a coordinate.
unfoldable pub place_key : Place → ℕ
place_key p = (raised p.x * 65536 + raised p.y) * 65536 + raised p.z

-- Of the first n vertices v is the first that a face names where the place has this key.
pub record IsFirstOf (places : List Place) (faces : List Corners) (n key v : ℕ) : Type 0 where
  pub in_range : v < n
  pub named : is_some_corner faces v ≡ true
  pub place : IsPlace (place_in_list places v)
  pub has : place_key (place_in_list places v) ≡ key
  pub least : (w : ℕ) → w < v → is_some_corner faces w ≡ true
      → place_key (place_in_list places w) ≢ key

-- None of the first n vertices that a face names is at a place with this key.
abbrev pub HasNone : List Place → List Corners → ℕ → ℕ → Type 0
HasNone places faces n key =
    (w : ℕ) → w < n → is_some_corner faces w ≡ true → place_key (place_in_list places w) ≢ key

-- The map has the first of the first n vertices for each key.
abbrev pub AreFirsts : List Place → List Corners → ℕ → BTreeMap ℕ ℕ → Type 0
AreFirsts places faces n map =
    (key : ℕ) → MatchOption (get nat_cmp map key) (HasNone places faces n key)
    (IsFirstOf places faces n key)
