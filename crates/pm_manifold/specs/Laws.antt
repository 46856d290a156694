-- The laws of the measure, each as a statement.
use Rattle.std.specs.Prelude.{◌≡◌, ℕ, ◌*◌, ◌<◌, ◌↔◌, Bool, true, Some, None}
use Rattle.pm_base.specs.Sides.{face_of, next}
use Rattle.pm_forest.specs.Forest.{Hierarchy, leaf_count}
use Rattle.pm_forest.specs.Fronts.{ancestor_of}
use Rattle.pm_forest.specs.Faces.{face_count, from_leaf}
use Rattle.pm_forest.specs.Kept.{is_kept}
use Rattle.pm_beyond.specs.Walks.{StandsBeyond, leaf_net}
use Rattle.pm_beyond.specs.Valid.{IsValid}
use Rattle.pm_beyond.specs.Moves.{IsClosed}
use Rattle.pm_firm.specs.Firm.{IsFirm}
use Rattle.pm_manifold.specs.Measure.{is_border_side, euler_of, euler_of_mesh, next_border}
use Rattle.pm_manifold.specs.Measure.{begins_loop}
use Rattle.pm_manifold.specs.Tracing.{IsBorderSideIn, IsInLoop}

-- A border side is a side of a kept face beyond which nothing stands.
abbrev pub BorderSidesStandAlone : Type 0
BorderSidesStandAlone =
    (h : Hierarchy) → IsValid h → (T : ℕ → Bool) → IsClosed h T → (e : ℕ) → e < 3 * face_count h
    → (is_border_side h T e ≡ true) ↔ ((is_kept h T (face_of e) ≡ true) × StandsBeyond h T e None)

-- While a side stands beyond, on to the side that follows that one in its face.
pub data TurnsTo (h : Hierarchy) (T : ℕ → Bool) : ℕ → ℕ → Type 0 where
  stops : {a : ℕ} → StandsBeyond h T a None → TurnsTo h T a a
  goes : {a g b : ℕ} → StandsBeyond h T a (Some g) → TurnsTo h T (next g) b → TurnsTo h T a b

-- The border side after a border side is the one to which the side leads that follows it in its
-- face.
abbrev pub NextBordersAreTurnedTo : Type 0
NextBordersAreTurnedTo =
    (h : Hierarchy) → IsValid h → (T : ℕ → Bool) → IsClosed h T → (e : ℕ) → e < 3 * face_count h
    → is_border_side h T e ≡ true
    → (g : ℕ) → TurnsTo h T (next e) g ↔ (g ≡ next_border h T e)

-- The border side after a border side is one, and no two have the same after them.
abbrev pub NextBordersAreOneToOne : Type 0
NextBordersAreOneToOne =
    (h : Hierarchy) → IsValid h → (T : ℕ → Bool) → IsClosed h T
    → ((e : ℕ) → e < 3 * face_count h → is_border_side h T e ≡ true
    → (next_border h T e < 3 * face_count h) × (is_border_side h T (next_border h T e) ≡ true))
    × ((e g : ℕ) → e < 3 * face_count h → g < 3 * face_count h → is_border_side h T e ≡ true
    → is_border_side h T g ≡ true
    → next_border h T e ≡ next_border h T g → e ≡ g)

-- Every closed front of a firm hierarchy, the full one among them, has the Euler number of the leaf
-- mesh,
abbrev pub EulerNumbersStay : Type 0
EulerNumbersStay =
    (h : Hierarchy) → IsFirm h → (T : ℕ → Bool) → IsClosed h T
    → euler_of h T ≡ euler_of_mesh (leaf_net h) (leaf_count h)

-- and at most one border side runs from each active node.
abbrev pub OneBorderSideAtEachNode : Type 0
OneBorderSideAtEachNode =
    (h : Hierarchy) → IsFirm h → (T : ℕ → Bool) → IsClosed h T → (e g : ℕ)
    → e < 3 * face_count h → g < 3 * face_count h → is_border_side h T e ≡ true
    → is_border_side h T g ≡ true
    → ancestor_of h T (from_leaf h e) ≡ ancestor_of h T (from_leaf h g) → e ≡ g

-- Each border side is in the loop of just one side that begins a loop, so there are as many loops
-- as such sides.
pub record HasOneLoop (h : Hierarchy) (T : ℕ → Bool) (e : ℕ) : Type 0 where
  pub least : ℕ
  pub begins : begins_loop h T least ≡ true
  pub leads : IsInLoop h T least e
  pub only : (g : ℕ) → g < 3 * face_count h → begins_loop h T g ≡ true → IsInLoop h T g e
      → g ≡ least

abbrev pub EachLoopHasOneLeast : Type 0
EachLoopHasOneLeast =
    (h : Hierarchy) → IsValid h → (T : ℕ → Bool) → IsClosed h T → (e : ℕ) → IsBorderSideIn h T e
    → HasOneLoop h T e
