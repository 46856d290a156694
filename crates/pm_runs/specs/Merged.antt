-- Collapses on nets, in the form in which proofs treat them: a merge of two vertices changes the
-- vertices from which sides run, and nothing else. The law `CollapsesAreMerges` joins it to
-- `collapsed`.
use Rattle.std.specs.Prelude.{◌≡◌, ◌≢◌, ℕ, ◌⊎◌, Option, Some, None, List, [], ◌∷◌}
use Rattle.pm_base.specs.declared.log.Collapse.{Collapse}
use Rattle.pm_base.specs.Sides.{Net, next, prev, to, third, Stands, NoSideTwice, IsTwin, HasNoTwin}
use Rattle.pm_base.specs.Sides.{IsBorder}
use Rattle.pm_runs.specs.Surfaces.{merge}
use Rattle.pm_runs.specs.Pairs.{Runs, HasSide, Joined, Links, IsThird, HasFace}

-- No two faces with the same three corners. Where no directed side stands twice they could only be
-- in opposite orders.
abbrev pub NoMirror : Net → Type 0
NoMirror m = (e g : ℕ) → Stands m e → Stands m g → m.from g ≡ to m e → to m g ≡ m.from e
    → third m g ≢ third m e

-- Neither a side nor a face comes twice.
pub record IsProper (m : Net) : Type 0 where
  pub once : NoSideTwice m
  pub no_mirror : NoMirror m

-- What stands across side e: its twin, or nothing.
abbrev pub StandsAcross : Net → ℕ → Option ℕ → Type 0
StandsAcross m e None = HasNoTwin m e
StandsAcross m e (Some g) = IsTwin m e g

-- Both vertices of the pair become s.
abbrev pub merged : Net → ℕ → ℕ → ℕ → Net
merged m t u s = record { faces = m.faces; from = λ e. merge t u s (m.from e) }

-- No face that is there has s as a corner.
abbrev pub IsFresh : Net → ℕ → Type 0
IsFresh m s = (e : ℕ) → Stands m e → m.from e ≢ s

-- The two parts of the link condition that keep sides and faces from coming twice.
pub record KeepsApart (m : Net) (t u : ℕ) : Type 0 where
  pub common : (w : ℕ) → Joined m t w → Joined m u w → IsThird m t u w
  pub thirds : (e g : ℕ) → Runs m e t u → Runs m g u t → HasFace m t (third m e) (third m g) →
      HasFace m u (third m e) (third m g) → ⊥

-- The link condition with its border cases, where no directed side stands twice: `LinkableIsLegal`.
pub record IsLinkable (m : Net) (t u : ℕ) : Type 0 where
  pub joined : Joined m t u
  pub apart : KeepsApart m t u
  pub border : IsBorder m t → IsBorder m u → HasSide m t u → HasSide m u t → ⊥
  pub single : (e : ℕ) → Links m e t u → HasNoTwin m e → HasNoTwin m (next e) → HasNoTwin m (prev e)
      → ⊥

-- From one other side of a face that holds both vertices to its other one.
abbrev pub Past : Net → ℕ → ℕ → ℕ → ℕ → Type 0
Past m t u c o =
    (x : ℕ) × Links m x t u × (((c ≡ next x) × (o ≡ prev x)) ⊎ ((c ≡ prev x) × (o ≡ next x)))

-- Two nets agree around vertex p: the same faces hold it, with the same other corners.
pub record AgreesAt (m n : Net) (p : ℕ) : Type 0 where
  pub forth : (e : ℕ) → Stands m e → m.from e ≡ p → Stands n e × (n.from e ≡ p) × (to n e ≡ to m e)
      ×
      (third n e ≡ third m e)
  pub back : (e : ℕ) → Stands n e → n.from e ≡ p → Stands m e × (m.from e ≡ p) × (to m e ≡ to n e) ×
      (third m e ≡ third n e)

-- The same faces are there, with the same corners, whatever is kept of dropped ones.
abbrev pub Alike : Net → Net → Type 0
Alike m n = (p : ℕ) → AgreesAt m n p

-- All merges of a log, one after the other. The law `RunsAreMerges` joins it to `surface_after`.
abbrev pub net_from : Net → List Collapse → Net
net_from m [] = m
net_from m (c ∷ cs) = net_from (merged m c.t c.u c.s) cs
