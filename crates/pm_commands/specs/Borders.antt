-- What frames show of a border that was kept.
use Rattle.std.specs.Prelude.{ℕ, Bool, List, Option, None, Ok}
use Rattle.pm_base.specs.Meshes.{Mesh}
use Rattle.pm_beyond.specs.Moves.{IsClosed}
use Rattle.pm_firm.specs.Firm.{IsFirm}
use Rattle.pm_session.specs.declared.grammar.Grammar.{Grammar}
use Rattle.pm_session.specs.Script.{at_first}
use Rattle.pm_session.specs.Serving.{played}
use Rattle.pm_tiles.specs.Borders.{ShowsBorder}
use Rattle.pm_commands.specs.declared.asked.Border.TheVariants as borders
use Rattle.pm_commands.specs.Surface.{IsSurfaceRead}
use Rattle.pm_commands.specs.Simplified.{IsSimplifiedText}
use Rattle.pm_commands.specs.Frames.{ShowsSurfacesOf}

-- The sink gained the stream text of an OBJ text's mesh that was simplified with its border kept. A
-- `w` after any lines of a script on that stream shows a mesh with exactly the border sides of the
-- OBJ text's mesh, each between the same two places, as every closed set of split records does. The
-- hierarchy is firm.
pub record FramesShowBorder (target digits : ℕ) (bytes : List ℕ) (old new : Option (List ℕ)) : Type
    0 where
  pub shown : ShowsSurfacesOf (IsSimplifiedText borders.Kept target digits) digits bytes old new
  pub firm : IsFirm shown.h
  pub m : Mesh
  pub read : IsSurfaceRead digits bytes (Ok m) None
  pub frames :
      (grammar : Grammar) (budget : ℕ) (front : List ℕ) →
      ShowsBorder shown.h (played shown.h grammar (at_first budget) front).state.split m
  pub fronts : (T : ℕ → Bool) → IsClosed shown.h T → ShowsBorder shown.h T m
