-- The corner lists while a hierarchy is being opened, from the full front down to the base front.
use Rattle.std.proofs.Common.{◌≡◌, ℕ, zero, suc, ◌+◌, ◌-◌, ◌<◌, ◌≤◌, Bool, List, inl, inr, refl}
use Rattle.std.proofs.lemmas.Grind.{common_steps}
use Rattle.std.proofs.Common.{sym, ap, ◌∙◌, subst, arith}
use Rattle.std.proofs.Math.Path.{fun_ext}
use Rattle.std.proofs.lemmas.Bool.{lt-ltb, le-ltb}
use Rattle.pm_forest.specs.Forest.{Hierarchy, record_count, t_of, u_of}
use Rattle.pm_forest.specs.Fronts.{below, no_records}
use Rattle.pm_forest.specs.Rules.{HasShape}
use Rattle.pm_forest.proofs.Ancestors.{below-front, last_child-active}
use Rattle.pm_forest.proofs.Flags.{without-below}
use Rattle.pm_forest.proofs.ShapeLaws.{shape_of_nodes, shape_is_forest}
use Rattle.pm_front.specs.Corners.{full_lists, collapsed_lists, lowered_lists, base_lists}
use Rattle.pm_front.specs.Corners.{AreCorners}
use Rattle.pm_front.proofs.CollapsedCorners.{collapsed-corners}
use Rattle.pm_front.proofs.FullLaws.{all-corners}

-- The lists while a hierarchy is being opened, once its last d records are collapsed.
unfoldable pub opened_after : Hierarchy → ℕ → List (List ℕ)
opened_after h zero = full_lists h
opened_after h (suc d) = collapsed_lists h (record_count h - suc d) (opened_after h d)

-- And while the first `left` are still split.
abbrev pub opened_lists : Hierarchy → ℕ → List (List ℕ)
opened_lists h left = opened_after h (record_count h - left)

pub opened-full : (h : Hierarchy) → opened_lists h (record_count h) ≡ full_lists h
unfolding opened_after
opened-full h = let none : record_count h - record_count h ≡ 0 =
    omega arith in ap (opened_after h) none

-- one record fewer is split
pub opened-next : (h : Hierarchy) (n : ℕ) → n < record_count h
    → opened_lists h n ≡ collapsed_lists h n (opened_lists h (suc n))
unfolding opened_after
opened-next h n l = grind (arith, common_steps)

-- the collapses that are still to come lead to the base front
opened-lowered : (h : Hierarchy) (n : ℕ) → n ≤ record_count h → lowered_lists h n (opened_lists h n)
    ≡ opened_lists h 0
unfolding lowered_lists
opened-lowered h zero l = refl
opened-lowered h (suc n) l =
    ap (lowered_lists h n) (sym (opened-next h n (omega arith))) ∙ opened-lowered h n (omega arith)

pub opened-base : (h : Hierarchy) → opened_lists h 0 ≡ base_lists h
opened-base h =
    sym (opened-lowered h (record_count h) (omega arith))
    ∙ ap (lowered_lists h (record_count h)) (opened-full h)

-- they are the corner lists of the front in which the first records are split
opened-corners_from : (h : Hierarchy) → HasShape h → (d n : ℕ) → n + d ≡ record_count h
    → AreCorners h (below n) (opened_lists h n)
opened-corners_from h shape zero n is =
    let all : n ≡ record_count h = omega arith in
    subst (λ m. AreCorners h (below m) (opened_lists h m)) (sym all)
    (subst (AreCorners h (below (record_count h))) (sym (opened-full h)) (all-corners h shape))
opened-corners_from h shape (suc d) n is =
    let nodes = shape_of_nodes h shape in
    let l : n < record_count h = omega arith in
    let old = opened-corners_from h shape d (suc n) (omega arith) in
    let new = collapsed-corners h (shape_is_forest h shape) (below (suc n))
    (below-front h nodes (suc n)) n l (opened_lists h (suc n)) old
    (lt-ltb n (suc n) (omega arith)) (last_child-active h nodes n (t_of h n) l (inl refl))
    (last_child-active h nodes n (u_of h n) l (inr refl)) in
    subst (AreCorners h (below n)) (sym (opened-next h n l))
    (subst (λ (T : ℕ → Bool). AreCorners h T (collapsed_lists h n (opened_lists h (suc n))))
    (without-below n) new)

pub opened-corners : (h : Hierarchy) → HasShape h → (n : ℕ) → n ≤ record_count h
    → AreCorners h (below n) (opened_lists h n)
opened-corners h shape n l = opened-corners_from h shape (record_count h - n) n (omega arith)

-- and in the end those of the base front
pub base-right : (h : Hierarchy) → HasShape h → AreCorners h no_records (base_lists h)
base-right h shape =
    grind (arith, common_steps, fun_ext, le-ltb, opened-base h, opened-corners h shape 0)
