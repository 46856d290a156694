-- What is read from the table of sides.
use Rattle.std.proofs.Common.{◌≡◌, ℕ, ◌*◌, ◌<◌, Bool, true, Option, Some, None, IfSome, List, refl}
use Rattle.std.proofs.Common.{sym, ◌∙◌, subst}
use Rattle.std.specs.Option.{option_map}
use Rattle.pm_base.specs.declared.ids.Side.{Side}
use Rattle.pm_base.specs.Sides.{NoSideTwice, beside_side}
use Rattle.pm_forest.specs.Forest.{Hierarchy}
use Rattle.pm_forest.specs.Fronts.{IsFront}
use Rattle.pm_forest.specs.Faces.{face_count}
use Rattle.pm_forest.specs.Kept.{is_shown}
use Rattle.pm_forest.specs.Rules.{HasShape}
use Rattle.pm_forest.proofs.ShapeLaws.{shape_is_forest}
use Rattle.pm_beyond.specs.Walks.{leaf_net, Beyond, beyond_of, number_of}
use Rattle.pm_beyond.proofs.Reaching.{reaches-lt}
use Rattle.pm_beyond.proofs.WalkTheory.{one_beyond}
use Rattle.pm_sides.specs.Stored.{AreStored}

pub number_is : (r : Option Side) → option_map (λ s. s.0) r ≡ number_of r
number_is None = refl
number_is (Some s) = refl

-- what is stored is what the walk finds
module _ (h : Hierarchy) (shape : HasShape h) (once : NoSideTwice (leaf_net h)) (T : ℕ
    → Bool) (front : IsFront h T) (table : List (Option ℕ)) (right : AreStored h T table) (a : ℕ)
    (l : a < 3 * face_count h) (shown : is_shown h T a ≡ true) (r : Option Side)
    (read : beside_side table a ≡ number_of r) where
  pub read-beyond : number_of r ≡ beyond_of h T a
  read-beyond =
      sym read ∙ (one_beyond h (shape_is_forest h shape) once T front a l shown).1
      (beside_side table a) (right.shown a l shown)

  pub read-there : IfSome r (λ s. s.0 < 3 * face_count h)
  read-there = there r (subst (Beyond h T a) read (right.shown a l shown))
    where
      there : (o : Option Side) → Beyond h T a (number_of o)
          → IfSome o (λ s. s.0 < 3 * face_count h)
      there None b = tt
      there (Some s) b = reaches-lt h (shape_is_forest h shape) once T s.0 b.reaches refl
