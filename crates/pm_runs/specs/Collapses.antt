-- What a collapse does to the sides of a surface: which stand after it, and which stand back to
-- back.
use Rattle.std.specs.Prelude.{◌≡◌, ◌≢◌, ℕ, Some}
use Rattle.pm_base.specs.Sides.{Net, face_of, next, prev, Stands, twin_of}
use Rattle.pm_runs.specs.Surfaces.{merge}
use Rattle.pm_runs.specs.Pairs.{Links}

-- The faces that hold both a and b go, and no others. In those that stay a and b become the vertex
-- s.
pub record DropsFaces (m n : Net) (a b s : ℕ) : Type 0 where
  pub stood : (e : ℕ) → Stands n e → Stands m e
  pub stays : (e : ℕ) → Stands m e → ((x : ℕ) → Links m x a b → face_of x ≢ face_of e) → Stands n e
  pub goes : (e x : ℕ) → Links m x a b → face_of x ≡ face_of e → Stands n e → ⊥
  pub corners : (e : ℕ) → Stands n e → n.from e ≡ merge a b s (m.from e)

-- The twins of the two other sides of a face that goes become each other's twins, or have none. The
-- twins of all other sides stay.
pub record RelinksTwins (m n : Net) (a b : ℕ) : Type 0 where
  pub first : (x g : ℕ) → Links m x a b → twin_of m (next x) ≡ Some g → Stands n g ×
      (twin_of n g ≡ twin_of m (prev x))
  pub second : (x g : ℕ) → Links m x a b → twin_of m (prev x) ≡ Some g → Stands n g ×
      (twin_of n g ≡ twin_of m (next x))
  pub others : (e : ℕ) → Stands n e →
      ((x : ℕ) → Links m x a b → (twin_of m (next x) ≢ Some e) × (twin_of m (prev x) ≢ Some e)) →
      twin_of n e ≡ twin_of m e
