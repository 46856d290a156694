-- What a shaper keeps with each root and base face that it takes in.
use Rattle.std.proofs.Common.{◌≡◌, ℕ, ◌+◌, ◌<◌, ◌≤◌, Bool, false, List, [], ◌∷◌, ◌++◌, length, sum}
use Rattle.std.proofs.lemmas.Grind.{common_steps}
use Rattle.std.proofs.Common.{Option, None, ap, ◌∙◌, arith}
use Rattle.std.proofs.lemmas.Bool.Decides.{nat_tests}
use Rattle.std.proofs.lemmas.List.{append-nil, nil_from_length, length_push, map_push}
use Rattle.std.proofs.lemmas.List.Sums.{sum_by_push}
use Rattle.pm_forest.specs.declared.parts.Counts.{Counts}
use Rattle.pm_forest.specs.declared.parts.Root.{Root}
use Rattle.pm_forest.specs.declared.parts.Face.{Face}
use Rattle.pm_forest.specs.declared.parts.Record.{Record}
use Rattle.pm_forest.specs.Marks.{AreMarked}
use Rattle.pm_forest.specs.Forest.{Hierarchy, widths_of, leaf_count}
use Rattle.pm_forest.specs.Faces.{faces_of}
use Rattle.pm_forest.specs.Rules.{counts_are_bad, width_is_bad, root_inputs, face_inputs}
use Rattle.pm_forest.specs.Rules.{root_fault, base_fault, AllFit}
use Rattle.pm_forest.specs.Tables.{Grown, grown, all_of}
use Rattle.pm_forest.specs.Shaping.{IsShaping}
use Rattle.pm_forest.proofs.OwnerLaws.{sum-cons}
use Rattle.pm_forest.proofs.UnitLaws.{AllFit-push}

-- The start

pub nothing_fits : (c : Counts) (g : Grown) (vertices faces : List Bool) → counts_are_bad c ≡ false
    →
    g ≡ record { counts = c; h = record { roots = []; bases = []; records = [] }; coming = None } →
    AreMarked vertices [] → length vertices ≡ c.leaves → AreMarked faces [] → length faces ≡ 1048576
    →
    IsShaping g false false vertices faces
unfolding faces_of
nothing_fits c g vertices faces fit is nodes_marked node_flags faces_marked face_flags =
    grind (arith, common_steps)

-- where a kind of units isn't complete, none that comes later is there
not_begun : (later now all : ℕ) → (0 < later → now ≡ all) → now < all → later ≡ 0
not_begun later now all complete lt = grind (arith, common_steps)

no_records : (h : Hierarchy) (coming : Option Record) → coming ≡ None
    → length (all_of h coming).records ≡ 0 → h.records ≡ []
no_records h coming none empty = nil_from_length h.records (rw none at empty)

-- Roots and base faces alone.
abbrev without_records : Counts → List Root → List Face → Grown
without_records c roots bases = record {
  counts = c;
  h = record { roots = roots; bases = bases; records = [] };
  coming = None;
}

-- A root more

-- where no record is there, the input numbers are those of the roots
pub roots_marked : (g : Grown) (left right : Bool) (vertices faces : List Bool) →
    IsShaping g left right vertices faces → g.coming ≡ None → length g.h.roots < g.counts.roots
    → AreMarked vertices (root_inputs g.h.roots)
roots_marked g left right vertices faces s none lt =
    grind (arith, common_steps, append-nil, no_records, not_begun)

root_to : (c : Counts) (roots : List Root) (left right : Bool)
    (vertices vertices' faces : List Bool) (r : Root) →
    IsShaping (without_records c roots []) left right vertices faces → length roots < c.roots →
    root_fault c roots r ≡ None → AreMarked vertices' (root_inputs roots ++ r.input ∷ [])
    → length vertices' ≡ length vertices →
    IsShaping (without_records c (roots ++ r ∷ []) []) left right vertices' faces
unfolding faces_of
root_to c roots left right vertices vertices' faces r s lt fits marked flags =
    grind (arith, common_steps, AllFit-push, append-nil, length_push, map_push)

pub root_added : (g g' : Grown) (left right : Bool) (vertices vertices' faces : List Bool)
    (r : Root) →
    IsShaping g left right vertices faces → g.coming ≡ None → length g.h.roots < g.counts.roots
    → root_fault g.counts g.h.roots r ≡ None →
    g' ≡ record g { h = record g.h { roots = g.h.roots ++ r ∷ [] } } →
    AreMarked vertices' (root_inputs g.h.roots ++ r.input ∷ []) → length vertices' ≡ length vertices
    →
    IsShaping g' left right vertices' faces
root_added g g' left right vertices vertices' faces r s none lt fits is marked flags =
    let later : length g.h.bases + length (grown g).records ≡ 0 =
    not_begun _ _ _ s.roots_first lt in
    let alone = no_records g.h g.coming none (omega arith) in
    let no_bases : g.h.bases ≡ [] = nil_from_length g.h.bases (omega arith) in
    rw (is, none, alone, no_bases)
    (root_to g.counts g.h.roots left right vertices vertices' faces r
    (rw (← none, ← alone, ← no_bases) s) lt fits marked flags)

-- A base face more

-- where no record is there, the faces are the base faces
pub bases_marked : (g : Grown) (left right : Bool) (vertices faces : List Bool) →
    IsShaping g left right vertices faces → g.coming ≡ None → length g.h.bases < g.counts.bases
    → AreMarked faces (face_inputs g.h.bases)
unfolding faces_of
bases_marked g left right vertices faces s none lt =
    grind (arith, common_steps, append-nil, no_records, not_begun)

base_to : (c : Counts) (roots : List Root) (bases : List Face) (left right : Bool)
    (vertices faces faces' : List Bool) (f : Face) →
    IsShaping (without_records c roots bases) left right vertices faces → c.roots ≤ length roots
    → length bases < c.bases →
    base_fault roots bases f ≡ None → AreMarked faces' (face_inputs bases ++ f.input ∷ [])
    → length faces' ≡ length faces →
    IsShaping (without_records c roots (bases ++ f ∷ [])) left right vertices faces'
unfolding faces_of
base_to c roots bases left right vertices faces faces' f s all lt fits marked flags =
    grind (arith, common_steps, AllFit-push, append-nil, length_push, map_push)

pub base_added : (g g' : Grown) (left right : Bool) (vertices faces faces' : List Bool) (f : Face) →
    IsShaping g left right vertices faces → g.coming ≡ None → g.counts.roots ≤ length g.h.roots
    → length g.h.bases < g.counts.bases →
    base_fault g.h.roots g.h.bases f ≡ None →
    g' ≡ record g { h = record g.h { bases = g.h.bases ++ f ∷ [] } } →
    AreMarked faces' (face_inputs g.h.bases ++ f.input ∷ []) → length faces' ≡ length faces →
    IsShaping g' left right vertices faces'
base_added g g' left right vertices faces faces' f s none all lt fits is marked flags =
    let alone = no_records g.h g.coming none (not_begun _ _ _ s.bases_next lt) in
    rw (is, none, alone)
    (base_to g.counts g.h.roots g.h.bases left right vertices faces faces' f
    (rw (← none, ← alone) s) all lt fits marked flags)

-- The leaves of all roots

pub widths_push : (before : List Root) (r : Root) → sum (widths_of (before ++ r ∷ []))
    ≡ sum (widths_of before) + r.width
widths_push before r =
    ap sum (map_push (λ (x : Root). x.width) before r)
    ∙ sum_by_push (λ x. x) (widths_of before) r.width

-- the last root takes all that is left
last_width : (c : Counts) (before : List Root) (r : Root) → length before + 1 ≡ c.roots
    → root_fault c before r ≡ None →
    sum (widths_of before) + r.width ≡ c.leaves
unfolding root_fault width_is_bad
last_width c before r last fits = grind (arith, nat_tests)

-- the widths of all roots add up to the leaves
all_wide : (c : Counts) (before rs : List Root) → length before + length rs ≡ c.roots
    → 0 < length rs → AllFit (root_fault c) before rs →
    sum (widths_of before) + sum (widths_of rs) ≡ c.leaves
all_wide c before [] count some all = absurd (omega arith)
all_wide c before (r ∷ []) count some all =
    omega (arith, sum-cons r.width [], last_width c before r (omega arith) all.0)
all_wide c before (r ∷ q ∷ rs) count some all =
    let rest = all_wide c (before ++ r ∷ []) (q ∷ rs) (omega (arith, length_push before r))
    (omega arith) all.1 in
    omega (arith, sum-cons r.width (widths_of (q ∷ rs)), rest, widths_push before r)

no_leaves : (c : Counts) → counts_are_bad c ≡ false → c.roots ≡ 0 → c.leaves ≡ 0
unfolding counts_are_bad
no_leaves c fit none = grind (arith, nat_tests)

-- the widths of all roots are the leaves
pub leaves_all : (c : Counts) (roots : List Root) → counts_are_bad c ≡ false
    → AllFit (root_fault c) [] roots → length roots ≡ c.roots →
    sum (widths_of roots) ≡ c.leaves
leaves_all c roots fit fits count =
    grind (arith, common_steps, all_wide, nil_from_length, no_leaves)

pub leaves_complete : (g : Grown) (left right : Bool) (vertices faces : List Bool)
    → IsShaping g left right vertices faces →
    g.counts.roots ≤ length g.h.roots → leaf_count g.h ≡ g.counts.leaves
leaves_complete g left right vertices faces s all =
    leaves_all g.counts g.h.roots s.counts_fit s.roots_fit (omega (arith, s.roots_most))
