-- A list as contracts see it, with the room that was taken for more items.
use Rattle.std.specs.Prelude.{ℕ, List}

pub record Held (T : Type 0) : Type 0 where
  pub items : List T
  pub spare : ℕ
