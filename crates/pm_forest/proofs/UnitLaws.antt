-- What it means that a unit has no fault.
use Rattle.std.proofs.Common.{◌≡◌, ◌≢◌, ℕ, zero, suc, ◌+◌, ◌<◌, ◌≤◌, Bool, true}
use Rattle.std.proofs.lemmas.Grind.{common_steps}
use Rattle.std.proofs.Common.{false, cond, List, [], ◌∷◌, ◌++◌, length, sum}
use Rattle.std.proofs.Common.{get_or, take, All, Option, None, Some, is_some, refl, subst}
use Rattle.std.proofs.Common.{arith, append_assoc}
use Rattle.std.proofs.lemmas.Bool.{eqb-true, eqb-false, leb-false, ltb-false, or_parts, not-false}
use Rattle.std.proofs.lemmas.List.{append-nil}
use Rattle.std.proofs.lemmas.List.Elements.{All-nil, All-cons}
use Rattle.pm_base.proofs.Search.{not_some}
use Rattle.pm_forest.specs.declared.parts.Counts.{Counts}
use Rattle.pm_forest.specs.declared.parts.Root.{Root}
use Rattle.pm_forest.specs.declared.parts.Face.{Face}
use Rattle.pm_forest.specs.declared.parts.Shape.{Shape}
use Rattle.pm_forest.specs.Forest.{Hierarchy, widths_of, root_of}
use Rattle.pm_forest.specs.Rules.{counts_are_bad, width_is_bad, root_fault, base_is_bad}
use Rattle.pm_forest.specs.Rules.{split_is_bad, first_fault_of, AllFit}
use Rattle.pm_forest.specs.Shaping.{SplitFits}

-- Units in a row

pub AllFit-push : {X : Type 0} (fault : List X → X → Option Shape) (before xs : List X) (x : X) →
    AllFit fault before xs → fault (before ++ xs) x ≡ None → AllFit fault before (xs ++ x ∷ [])
AllFit-push fault before [] x all fits =
    (subst (λ (l : List _). fault l x ≡ None) (append-nil before) fits, tt)
AllFit-push fault before (y ∷ xs) x all fits =
    grind (arith, common_steps, append_assoc, AllFit-push fault (before ++ y ∷ []) xs x all.1)

-- each unit fits after those before it
pub AllFit-at : {X : Type 0} (fault : List X → X → Option Shape) (before xs : List X) (i : ℕ)
    (x : X) →
    AllFit fault before xs → i < length xs → x ≡ get_or xs i x
    → fault (before ++ take i xs) x ≡ None
AllFit-at fault before [] i x all lt is = absurd (omega arith)
AllFit-at fault before (y ∷ xs) zero x all lt is = rw (append-nil before, is) all.0
AllFit-at fault before (y ∷ xs) (suc i) x all lt is =
    subst (λ (l : List _). fault l x ≡ None) (append_assoc before (y ∷ []) (take i xs))
    (AllFit-at fault (before ++ y ∷ []) xs i x all.1 (omega arith) is)

-- what any unit has that fits, all have
pub AllFit-all : {X : Type 0} (fault : List X → X → Option Shape) (P : X → Type 0) →
    ((before : List X) (x : X) → fault before x ≡ None → P x) →
    (before xs : List X) → AllFit fault before xs → All P xs
AllFit-all fault P has before [] all = All-nil P
AllFit-all fault P has before (x ∷ xs) all =
    All-cons P x xs (has before x all.0) (AllFit-all fault P has (before ++ x ∷ []) xs all.1)

-- a test that finds no fault, and what comes after it
pub passed : {A : Type 0} (b : Bool) (e : A) (later : Option A) → cond b (Some e) later ≡ None →
    (b ≡ false) × (later ≡ None)
passed false e later is = (refl, is)
passed true e later is = absurd cc

pub first_none : (a b : Option Shape) → first_fault_of a b ≡ None → (a ≡ None) × (b ≡ None)
first_none None b is = (refl, is)
first_none (Some e) b is = absurd cc

-- One unit

pub counts_fit : (c : Counts) → counts_are_bad c ≡ false →
    (c.leaves ≤ 1048576) × (c.bases ≤ 1048576) × (c.roots ≤ c.leaves)
    × (c.records + c.roots ≡ c.leaves)
unfolding counts_are_bad
counts_fit c fit = grind (arith, common_steps, eqb-true, ltb-false, not-false, or_parts)

pub width_fits : (c : Counts) (taken before width : ℕ) → width_is_bad c taken before width ≡ false
    → 0 < width
unfolding width_is_bad
width_fits c taken before width fits = grind (arith, common_steps, eqb-false, or_parts)

pub root_wide : (c : Counts) (before : List Root) (r : Root) → root_fault c before r ≡ None
    → 0 < r.width
unfolding root_fault
root_wide c before r fits =
    width_fits c (sum (widths_of before)) (length before) r.width
    (passed _ _ _ (passed _ _ _ fits).1).0

-- A base face whose corners are leaves under three different roots.
pub record BaseFits (roots : List Root) (f : Face) : Type 0 where
  pub a : f.a < sum (widths_of roots)
  pub b : f.b < sum (widths_of roots)
  pub c : f.c < sum (widths_of roots)
  pub ab : root_of (widths_of roots) 0 f.a ≢ root_of (widths_of roots) 0 f.b
  pub bc : root_of (widths_of roots) 0 f.b ≢ root_of (widths_of roots) 0 f.c
  pub ca : root_of (widths_of roots) 0 f.c ≢ root_of (widths_of roots) 0 f.a

pub base_fits : (roots : List Root) (f : Face) → base_is_bad roots f ≡ false → BaseFits roots f
unfolding base_is_bad
base_fits roots f fits = grind (arith, common_steps, eqb-false, leb-false, or_parts)

pub split_fits : (h : Hierarchy) (s width : ℕ) → split_is_bad h s width ≡ false
    → SplitFits h s width
unfolding split_is_bad
split_fits h s width fits =
    grind (arith, common_steps, eqb-false, is_some, leb-false, not_some, or_parts)
