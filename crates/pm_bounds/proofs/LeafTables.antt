-- The table of leaves while faces are gone through.
use Rattle.std.proofs.Common.{◌≡◌, ℕ, ◌+◌, ◌<◌, max, cond, List, length, get_or, sym}
use Rattle.std.proofs.lemmas.Grind.{common_steps}
use Rattle.std.proofs.Common.{ap, ◌∙◌, arith}
use Rattle.std.proofs.lemmas.List.{get_or_default}
use Rattle.pm_base.specs.Place.{origin}
use Rattle.pm_forest.specs.declared.parts.Face.{Face}
use Rattle.pm_forest.specs.Forest.{Hierarchy, leaf_count}
use Rattle.pm_forest.specs.Faces.{face_count, corners_of}
use Rattle.pm_forest.specs.Rules.{HasShape}
use Rattle.pm_forest.specs.Meshes.{leaf_place}
use Rattle.pm_bounds.specs.declared.leaves.LeafBounds.{LeafBounds}
use Rattle.pm_bounds.specs.Leaves.{bare_leaf_at, widened_by, is_leaf_corner}
use Rattle.pm_bounds.specs.Leaves.{AreBareLeaves, AreSmallLeaves, AreSeen}
use Rattle.pm_bounds.proofs.BoxLaws.{join-twice}
use Rattle.pm_bounds.proofs.LeafLaws.{seen_at, seen_at-none, seen_at-more, square_in-all}
use Rattle.pm_bounds.proofs.LeafLaws.{box_in-all}

-- A face that is taken in twice is taken in once.
max_twice : (x y : ℕ) → max (max x y) y ≡ max x y
max_twice x y = omega arith

pub widened-twice : (h : Hierarchy) (f : Face) (l : ℕ) (b : LeafBounds)
    → widened_by h l f (widened_by h l f b) ≡ widened_by h l f b
widened-twice h f l b = grind (arith, common_steps, join-twice, max_twice)

-- The place of a leaf that is read.
pub place_read : (h : Hierarchy) (leaves : List LeafBounds) (l : ℕ) (b : LeafBounds)
    → length leaves ≡ leaf_count h →
    ((l : ℕ) → l < leaf_count h → (get_or leaves l (bare_leaf_at origin)).place ≡ leaf_place h l)
    → l < leaf_count h → b ≡ get_or leaves l b → b.place ≡ leaf_place h l
place_read h leaves l b len places below is =
    ap (λ (b : LeafBounds). b.place)
    (is ∙ sym (get_or_default leaves l (bare_leaf_at origin) b (omega arith))) ∙ places l below

-- The table by the first n faces.
pub record AreSeenTo (h : Hierarchy) (n : ℕ) (leaves : List LeafBounds) : Type 0 where
  pub len : length leaves ≡ leaf_count h
  pub each : (l : ℕ) → l < leaf_count h → get_or leaves l (bare_leaf_at origin) ≡ seen_at h n l
  pub small : AreSmallLeaves leaves

-- before any face
pub seen_none : (h : Hierarchy) (leaves : List LeafBounds) → AreBareLeaves h (leaf_count h) leaves
    → AreSeenTo h 0 leaves
seen_none h leaves bare = grind (arith, common_steps, seen_at-none)

-- the places stay
pub seen_place : (h : Hierarchy) (n : ℕ) (leaves : List LeafBounds) → AreSeenTo h n leaves → (l : ℕ)
    → l < leaf_count h → (get_or leaves l (bare_leaf_at origin)).place ≡ leaf_place h l
seen_place h n leaves was l m = ap (λ (b : LeafBounds). b.place) (was.each l m)

-- one face more
pub seen_more : (h : Hierarchy) → HasShape h → (n : ℕ) → n < face_count h
    → (old new : List LeafBounds) → AreSeenTo h n old → length new ≡ leaf_count h →
    ((l : ℕ) → l < leaf_count h → get_or new l (bare_leaf_at origin)
    ≡ cond (is_leaf_corner l (corners_of h n))
    (widened_by h l (corners_of h n) (get_or old l (bare_leaf_at origin)))
    (get_or old l (bare_leaf_at origin))) →
    AreSmallLeaves new → AreSeenTo h (n + 1) new
seen_more h shape n below old new was len wider small = record {
  len = len;
  each = λ l m.
      wider l m
      ∙ ap (λ b. cond (is_leaf_corner l (corners_of h n)) (widened_by h l (corners_of h n) b) b)
      (was.each l m)
      ∙ sym (seen_at-more h shape n l below m);
  small = small;
}

-- all faces
pub seen_all : (h : Hierarchy) (n : ℕ) (leaves : List LeafBounds) → n ≡ face_count h
    → AreSeenTo h n leaves → AreSeen h leaves
seen_all h n leaves all part = grind (arith, common_steps, box_in-all, square_in-all)
