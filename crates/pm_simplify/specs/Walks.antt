-- Walks over the corners at a vertex.
use Rattle.std.specs.Prelude.{◌≡◌, ℕ, true, Option, None, IfSome, List, ◌⊎◌}
use Rattle.std.specs.Option.{option_map}
use Rattle.pm_base.specs.declared.ids.Side.{Side}
use Rattle.pm_base.specs.declared.log.Collapse.{Collapse}
use Rattle.pm_base.specs.Meshes.{Mesh}
use Rattle.pm_base.specs.Sides.{prev, twin_of}
use Rattle.pm_links.specs.Lists.{has, rest_of_walk}
use Rattle.pm_queue.specs.Entries.{Entries}
use Rattle.pm_policies.specs.Policies.{Policy}
use Rattle.pm_simplify.specs.Items.{item_of}
use Rattle.pm_simplify.specs.Choices.{net_after, IsRightAt}

-- The corners that a walk has still to see.
abbrev pub still : Option Side → List ℕ → List ℕ
still at fan = rest_of_walk (option_map (λ c. c.0) at) fan

-- The walk stands at one of the corners, or at its end; of those that it has seen each is done.
pub record IsWalk (fan : List ℕ) (Done : ℕ → Type 0) (at : Option Side) : Type 0 where
  pub held : IfSome at (λ c. has fan c.0 ≡ true)
  pub seen : (e : ℕ) → has fan e ≡ true → (has (still at fan) e ≡ true) ⊎ Done e

-- Of the two sides at a corner the first is right, and so is the second where nothing stands across
-- it.
pub record IsRightBeside
    (p : Policy) (m : Mesh) (log : List Collapse) (entries : Entries) (e : ℕ) : Type 0 where
  pub out : IsRightAt p m log entries (item_of (net_after m log) e)
  pub back : twin_of (net_after m log) (prev e) ≡ None →
      IsRightAt p m log entries (item_of (net_after m log) (prev e))
