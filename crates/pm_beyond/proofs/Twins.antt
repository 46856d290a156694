-- Twins in the leaf mesh: every side of it stands, so a twin's twin is the side itself.
use Rattle.std.proofs.Common.{◌≡◌, ◌≢◌, ℕ, ◌*◌, ◌<◌, true, Some, ap, arith}
use Rattle.std.proofs.lemmas.Grind.{common_steps}
use Rattle.pm_base.specs.Sides.{Stands, NoSideTwice}
use Rattle.pm_base.proofs.Search.{option_cases}
use Rattle.pm_base.proofs.TwinLaws as twins
use Rattle.pm_base.proofs.Sides.{next-next-next}
use Rattle.pm_forest.specs.Forest.{Hierarchy}
use Rattle.pm_forest.specs.Fronts.{every, ancestor_of}
use Rattle.pm_forest.specs.Faces.{face_count, from_leaf, to_leaf, IsForest}
use Rattle.pm_forest.specs.Kept.{is_shown}
use Rattle.pm_forest.proofs.Ancestors.{every-front}
use Rattle.pm_forest.proofs.Ends.{next-lt}
use Rattle.pm_forest.proofs.Shown.{shown-apart, shown_base, shown_record}
use Rattle.pm_beyond.specs.Walks.{leaf_net, leaf_twin}

-- Every face is shown where all records are split.
pub shown_every : (h : Hierarchy) (e : ℕ) → is_shown h every e ≡ true
shown_every h e = grind (arith, common_steps, option_cases, shown_base, shown_record)

-- So the two ends of a side are two leaves.
leaves_apart : (h : Hierarchy) → IsForest h → (e : ℕ) → e < 3 * face_count h
    → from_leaf h e ≢ to_leaf h e
leaves_apart h shape e l is =
    shown-apart h shape every (every-front h) e l (shown_every h e) (ap (ancestor_of h every) is)

pub side-stands : (h : Hierarchy) → IsForest h → (e : ℕ) → e < 3 * face_count h
    → Stands (leaf_net h) e
side-stands h shape e l = grind (arith, common_steps, leaves_apart, next-lt, next-next-next)

pub twin-is : (h : Hierarchy) (e g : ℕ) → leaf_twin h e ≡ Some g → (from_leaf h g ≡ to_leaf h e)
    × (to_leaf h g ≡ from_leaf h e) × (g < 3 * face_count h)
twin-is h e g t = let w = twins.twin-is (leaf_net h) e g t in (w.begins, w.ends, w.stands.is_side)

pub twin_back : (h : Hierarchy) → IsForest h → NoSideTwice (leaf_net h) → (e g : ℕ)
    → e < 3 * face_count h → leaf_twin h e ≡ Some g → leaf_twin h g ≡ Some e
twin_back h shape once e g l t = twins.twin_back (leaf_net h) once e g (side-stands h shape e l) t
