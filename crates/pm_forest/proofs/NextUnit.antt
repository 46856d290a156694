-- What the kind of the next unit says of the units so far.
use Rattle.std.proofs.Common.{◌≡◌, ◌<◌, ◌≤◌, ltb, Bool, true, false, if◌then◌else◌, length, Option}
use Rattle.std.proofs.Common.{arith}
use Rattle.std.proofs.lemmas.Grind.{common_steps}
use Rattle.std.proofs.Common.{None, Some, is_some, ◌⊎◌, inl, inr, refl}
use Rattle.std.specs.Option.{option_map}
use Rattle.std.proofs.lemmas.Bool.{ltb-true, ltb-false}
use Rattle.pm_forest.specs.declared.parts.Counts.{Counts}
use Rattle.pm_forest.specs.declared.parts.Record.{Record}
use Rattle.pm_forest.specs.declared.parts.UnitKind.{UnitKind}
use Rattle.pm_forest.specs.declared.parts.UnitKind.TheVariants as kinds
use Rattle.pm_forest.specs.Forest.{Hierarchy}
use Rattle.pm_forest.specs.Shaping.{Shaping, expects, unfinished}

-- The kind of the next unit, by the tests whether a root, a base face and a record are still to
-- come.
abbrev kind_of : Bool → Bool → Bool → UnitKind
kind_of root base head = if root then kinds.Root else if base then kinds.Base
    else if head then kinds.Head else kinds.Nothing

is_root : (root base head : Bool) → kind_of root base head ≡ kinds.Root → root ≡ true
is_root true base head is = refl
is_root false true head is = absurd cc
is_root false false true is = absurd cc
is_root false false false is = absurd cc

is_base : (root base head : Bool) → kind_of root base head ≡ kinds.Base
    → (root ≡ false) × (base ≡ true)
is_base true base head is = absurd cc
is_base false true head is = (refl, refl)
is_base false false true is = absurd cc
is_base false false false is = absurd cc

is_head : (root base head : Bool) → kind_of root base head ≡ kinds.Head
    → (root ≡ false) × (base ≡ false) × (head ≡ true)
is_head true base head is = absurd cc
is_head false true head is = absurd cc
is_head false false true is = (refl, refl, refl)
is_head false false false is = absurd cc

is_nothing : (root base head : Bool) → kind_of root base head ≡ kinds.Nothing
    → (root ≡ false) × (base ≡ false) × (head ≡ false)
is_nothing true base head is = absurd cc
is_nothing false true head is = absurd cc
is_nothing false false true is = absurd cc
is_nothing false false false is = (refl, refl, refl)

is_no_face : (root base head : Bool) → (kind_of root base head ≡ kinds.LeftFace)
    ⊎ (kind_of root base head ≡ kinds.RightFace) → ⊥
is_no_face true base head is = elim is [ inl l ↦ cc | inr r ↦ cc ]
is_no_face false true head is = elim is [ inl l ↦ cc | inr r ↦ cc ]
is_no_face false false true is = elim is [ inl l ↦ cc | inr r ↦ cc ]
is_no_face false false false is = elim is [ inl l ↦ cc | inr r ↦ cc ]

-- What contracts see of a shaper.
abbrev seen : Counts → Hierarchy → Option Record → Bool → Bool → Shaping
seen c h coming left right = record {
  counts = c;
  h = h;
  coming = option_map (unfinished left right) coming;
}

pub expects_root : (c : Counts) (h : Hierarchy) (coming : Option Record) (left right : Bool)
    → expects (seen c h coming left right) ≡ kinds.Root →
    (coming ≡ None) × (length h.roots < c.roots)
expects_root c h (Some r) true right is = absurd cc
expects_root c h (Some r) false right is = absurd cc
expects_root c h None left right is = grind (arith, common_steps, is_root, ltb-true)

pub expects_base : (c : Counts) (h : Hierarchy) (coming : Option Record) (left right : Bool)
    → expects (seen c h coming left right) ≡ kinds.Base →
    (coming ≡ None) × (c.roots ≤ length h.roots) × (length h.bases < c.bases)
expects_base c h (Some r) true right is = absurd cc
expects_base c h (Some r) false right is = absurd cc
expects_base c h None left right is = grind (arith, common_steps, is_base, ltb-false, ltb-true)

pub expects_head : (c : Counts) (h : Hierarchy) (coming : Option Record) (left right : Bool)
    → expects (seen c h coming left right) ≡ kinds.Head →
    (coming ≡ None) × (c.roots ≤ length h.roots) × (c.bases ≤ length h.bases)
    × (length h.records < c.records)
expects_head c h (Some r) true right is = absurd cc
expects_head c h (Some r) false right is = absurd cc
expects_head c h None left right is = grind (arith, common_steps, is_head, ltb-false, ltb-true)

pub expects_nothing : (c : Counts) (h : Hierarchy) (coming : Option Record) (left right : Bool)
    → expects (seen c h coming left right) ≡ kinds.Nothing →
    (coming ≡ None) × (c.roots ≤ length h.roots) × (c.bases ≤ length h.bases)
    × (c.records ≤ length h.records)
expects_nothing c h (Some r) true right is = absurd cc
expects_nothing c h (Some r) false right is = absurd cc
expects_nothing c h None left right is = grind (arith, common_steps, is_nothing, ltb-false)

pub expects_face : (c : Counts) (h : Hierarchy) (coming : Option Record) (left right : Bool) →
    (expects (seen c h coming left right) ≡ kinds.LeftFace)
    ⊎ (expects (seen c h coming left right) ≡ kinds.RightFace) → is_some coming ≡ true
expects_face c h (Some r) left right is = refl
expects_face c h None left right is =
    absurd (is_no_face (ltb (length h.roots) c.roots) (ltb (length h.bases) c.bases)
    (ltb (length h.records) c.records) is)
