-- The laws of walks through dropped faces, each as a statement. They ask for a hierarchy whose
-- nodes and faces have the right shape, and in whose leaf mesh no directed side stands twice.
use Rattle.std.specs.Prelude.{◌≡◌, ℕ, ◌*◌, ◌<◌, ◌≤◌, ◌==◌, ◌↔◌, Bool, true, length, Option, Some}
use Rattle.std.specs.List.{IsDistinct}
use Rattle.pm_base.specs.Sides.{NoSideTwice}
use Rattle.pm_forest.specs.Forest.{Hierarchy}
use Rattle.pm_forest.specs.Fronts.{IsFront, ancestor_of, every}
use Rattle.pm_forest.specs.Faces.{face_count, from_leaf, to_leaf, IsForest}
use Rattle.pm_forest.specs.Kept.{is_shown}
use Rattle.pm_beyond.specs.Walks.{leaf_net, leaf_twin, Crosses, StandsBeyond, Reaches, crossed}
use Rattle.pm_beyond.specs.Walks.{StopsAt, Beyond, beyond_of}

-- Beyond each side of a shown face stands one side, or nothing: what the walk from it finds.
abbrev pub OneStandsBeyond : Type 0
OneStandsBeyond =
    (h : Hierarchy) → IsForest h → NoSideTwice (leaf_net h) → (T : ℕ → Bool) → IsFront h T → (a : ℕ)
    → a < 3 * face_count h → is_shown h T a ≡ true
    → Beyond h T a (beyond_of h T a) × ((r : Option ℕ) → Beyond h T a r → r ≡ beyond_of h T a)

-- Each walk can be walked back.
abbrev pub WalksGoBack : Type 0
WalksGoBack =
    (h : Hierarchy) → IsForest h → NoSideTwice (leaf_net h) → (T : ℕ → Bool) → (a b : ℕ)
    → a < 3 * face_count h → is_shown h T a ≡ true
    → Beyond h T a (Some b) → Beyond h T b (Some a)

-- No side stands beyond two.
abbrev pub NoTwoShareABeyond : Type 0
NoTwoShareABeyond =
    (h : Hierarchy) → IsForest h → NoSideTwice (leaf_net h) → (T : ℕ → Bool) → (a b c : ℕ)
    → a < 3 * face_count h → b < 3 * face_count h → is_shown h T a ≡ true → is_shown h T b ≡ true
    → Beyond h T a (Some c) → Beyond h T b (Some c) → a ≡ b

-- The side that a walk comes to has the ancestors of the ends of the side from which it goes, the
-- other way round.
abbrev pub EndsAreCarried : Type 0
EndsAreCarried =
    (h : Hierarchy) → IsForest h → (T : ℕ → Bool) → (a b : ℕ) → Reaches h T a (Some b)
    → (ancestor_of h T (from_leaf h b) ≡ ancestor_of h T (to_leaf h a))
    × (ancestor_of h T (to_leaf h b) ≡ ancestor_of h T (from_leaf h a))

-- No walk from a side of a shown face meets a face twice, so it crosses at most as many faces as
-- there are.
abbrev pub NoFaceIsMetTwice : Type 0
NoFaceIsMetTwice =
    (h : Hierarchy) → IsForest h → NoSideTwice (leaf_net h) → (T : ℕ → Bool) → IsFront h T
    → (a : ℕ) (r : Option ℕ)
    → a < 3 * face_count h → is_shown h T a ≡ true
    → (w : Reaches h T a r) → StopsAt h T r → IsDistinct ◌==◌ (crossed w)
    × (length (crossed w) ≤ face_count h)

-- The walk by records is the walk by ancestors, through the same faces.
abbrev pub WalksGoByAncestors : Type 0
WalksGoByAncestors =
    (h : Hierarchy) → IsForest h → NoSideTwice (leaf_net h) → (T : ℕ → Bool) → IsFront h T
    → (a : ℕ) (r : Option ℕ)
    → a < 3 * face_count h → is_shown h T a ≡ true
    → (Beyond h T a r ↔ StandsBeyond h T a r)
    × ((w : Reaches h T a r) → Crosses h T a (crossed w) r)

-- Where all records are split, the twin of a side stands beyond it.
abbrev pub TwinsStandInTheFullFront : Type 0
TwinsStandInTheFullFront =
    (h : Hierarchy) → IsForest h → NoSideTwice (leaf_net h) → (a : ℕ) → a < 3 * face_count h
    → Beyond h every a (leaf_twin h a)
