-- Sides of a face: the next one and the one after it, and the inner side of a record's face.
use Rattle.std.proofs.Common.{◌≡◌, ◌≢◌, ℕ, ◌⊎◌, arith}
use Rattle.std.proofs.lemmas.Grind.{common_steps}
use Rattle.std.proofs.lemmas.Bool.{cond-true, cond-false}
use Rattle.pm_base.specs.Sides.{face_of, next}
use Rattle.pm_base.proofs.Sides.{next_cases}
use Rattle.pm_forest.specs.Forest.{Hierarchy}
use Rattle.pm_forest.specs.Faces.{inner_of}

pub next-differs : (e : ℕ) → next e ≢ e
next-differs e = let a = next_cases e in omega arith

pub next_next-differs : (e : ℕ) → next (next e) ≢ e
next_next-differs e = let a = next_cases e in let b = next_cases (next e) in omega arith

-- A side of the same face is this side, the next one or the one after that.
pub three_sides : (e g : ℕ) → face_of e ≡ face_of g → (e ≡ g) ⊎ ((e ≡ next g) ⊎ (e ≡ next (next g)))
three_sides e g f = grind (arith, common_steps, next_cases g, next_cases (next g))

-- The inner side of a face is a side of that face.
module _ (h : Hierarchy) where
  pub inner-face : (k f : ℕ) → face_of (inner_of h k f) ≡ f
  unfolding inner_of
  inner-face k f = grind (arith, common_steps, cond-false, cond-true)
