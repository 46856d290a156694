-- Different numbers below a bound in a list, as contracts see them.
use Rattle.std.specs.Prelude.{◌≡◌, ℕ, ◌≤◌, Bool, List, length}
use Rattle.pm_links.specs.Lists.{has, IsOnce}
use Rattle.pm_links.specs.declared.links.TheConstants.{LIMIT}
use Rattle.pm_sets.specs.Counted.{members_in}

pub record Members : Type 0 where
  pub bound : ℕ
  pub list : List ℕ

-- The numbers of one list, each once.
pub record AreSameNumbers (xs ys : List ℕ) : Type 0 where
  pub same : (x : ℕ) → has xs x ≡ has ys x
  pub once : IsOnce xs

-- Those of a set of numbers, ascending.
abbrev pub members_of : List Bool → List ℕ
members_of flags = members_in flags 0 (length flags)

-- What is kept beside the set: how many are in it.
pub record AreMembers (flags : List Bool) (count : ℕ) : Type 0 where
  pub few : length flags ≤ LIMIT
  pub counted : count ≡ length (members_of flags)
