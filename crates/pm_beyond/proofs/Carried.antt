-- The ends of a side are carried along a walk.
use Rattle.std.proofs.Common.{◌≡◌, ℕ, ◌*◌, ◌<◌, Bool, false, Option, Some, ap, ◌∙◌}
use Rattle.std.proofs.lemmas.Grind.{common_steps}
use Rattle.std.proofs.Common.{arith}
use Rattle.std.proofs.lemmas.Option.{same_Some}
use Rattle.pm_base.proofs.Sides.{next-next-next}
use Rattle.pm_forest.specs.Forest.{Hierarchy}
use Rattle.pm_forest.specs.Fronts.{ancestor_of}
use Rattle.pm_forest.specs.Faces.{face_count, from_leaf, to_leaf, IsForest}
use Rattle.pm_forest.specs.Kept.{is_shown}
use Rattle.pm_forest.proofs.Ends.{inner-joined}
use Rattle.pm_forest.proofs.Shown.{hidden-parts}
use Rattle.pm_beyond.specs.Walks.{across, Reaches, here, past}
use Rattle.pm_beyond.proofs.Twins.{twin-is}
use Rattle.pm_beyond.proofs.Across.{across_cases}

module _ (h : Hierarchy) (shape : IsForest h) where
  -- Going across a face that isn't shown turns the ends round.
  pub across-ends : (T : ℕ → Bool) (c o : ℕ) → c < 3 * face_count h → is_shown h T c ≡ false
      → across h c ≡ Some o → (ancestor_of h T (from_leaf h o) ≡ ancestor_of h T (to_leaf h c))
      × (ancestor_of h T (to_leaf h o) ≡ ancestor_of h T (from_leaf h c))
  across-ends T c o l d x =
      grind (
        arith,
        common_steps,
        next-next-next,
        same_Some,
        across_cases h c o x,
        hidden-parts h T c d,
        inner-joined h shape T,
      )

  -- The ends of a side are carried along a walk, the other way round.
  pub ends-carried : (T : ℕ → Bool) {a : ℕ} {r : Option ℕ} (b : ℕ) → Reaches h T a r → r ≡ Some b
      → (ancestor_of h T (from_leaf h b) ≡ ancestor_of h T (to_leaf h a))
      × (ancestor_of h T (to_leaf h b) ≡ ancestor_of h T (from_leaf h a))
  ends-carried T b (here {a = a} t) q = let p =
      twin-is h a b (t ∙ q) in (ap (ancestor_of h T) p.0, ap (ancestor_of h T) p.1)
  ends-carried T b (past {a = a} {c = c} {o = o} t d x w) q =
      grind (arith, common_steps, across-ends T c o, twin-is h a c t, ends-carried T b w q)
