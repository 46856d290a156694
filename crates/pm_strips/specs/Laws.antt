-- The laws of strips, each as a statement.
use Rattle.std.specs.Prelude.{◌≡◌, ℕ, ◌<◌, Bool, true, not, List, [], ◌∷◌, Option, Some, None}
use Rattle.pm_base.specs.Sides.{face_of, next}
use Rattle.pm_forest.specs.Forest.{Hierarchy}
use Rattle.pm_forest.specs.Fronts.{without}
use Rattle.pm_beyond.specs.Valid.{IsValid}
use Rattle.pm_beyond.specs.Moves.{IsClosed}
use Rattle.pm_strips.specs.Strips.{free_beyond, exit_of, entered}
use Rattle.pm_strips.specs.Shown.{beyond_in, node_of_corner, ShowTheMesh}

-- The lists of a closed front stand for the mesh that it shows.
abbrev pub StripsShowTheMesh : Type 0
StripsShowTheMesh = (h : Hierarchy) → IsValid h → (T : ℕ → Bool) → IsClosed h T → ShowTheMesh h T

-- What stands beyond a side has the side's ends, the other way round. So a strip's next triangle
-- shares two nodes with the one before.
abbrev pub CarriesEnds : (ℕ → Option ℕ) → (ℕ → ℕ) → Type 0
CarriesEnds beyond node =
    (e g : ℕ) → beyond e ≡ Some g → (node g ≡ node (next e)) × (node (next g) ≡ node e)

abbrev pub FrontsCarryEnds : Type 0
FrontsCarryEnds = (h : Hierarchy) → IsValid h → (T : ℕ → Bool) → IsClosed h T
    → CarriesEnds (beyond_in h T) (node_of_corner h T)

-- A strip goes on for as long as a free face stands beyond its exit: what `entered` says, without a
-- number of turns.
abbrev pub StripGoesOn : (ℕ → Option ℕ) → (ℕ → Bool) → Bool → ℕ → List ℕ → Type 0
StripGoesOn beyond free is_odd exit [] = free_beyond beyond free exit ≡ None
StripGoesOn beyond free is_odd exit (g ∷ gs) =
    (free_beyond beyond free exit ≡ Some g)
    × StripGoesOn beyond (without free (face_of g)) (not is_odd) (exit_of is_odd g) gs

-- As many turns as there are faces are enough.
abbrev pub StripsGoOn : Type 0
StripsGoOn =
    (beyond : ℕ → Option ℕ) (m : ℕ) (free : ℕ → Bool) (is_odd : Bool) (exit : ℕ)
    → ((f : ℕ) → free f ≡ true → f < m)
    → StripGoesOn beyond free is_odd exit (entered beyond m free is_odd exit)
