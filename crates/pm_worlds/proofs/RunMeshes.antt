-- The leaf mesh of the hierarchy of a run is the mesh that the run began with.
use Rattle.std.proofs.Common.{◌≡◌, ℕ, zero, suc, ◌*◌, ◌<◌, ◌≤◌, eqb, cond, ◌&&◌}
use Rattle.std.proofs.Common.{inl, inr, refl, sym, ap, ◌∙◌, subst, arith}
use Rattle.std.proofs.lemmas.Bool.{lt-ltb}
use Rattle.pm_base.specs.Sides.{next, to, IsBorder, IsBorderSide}
use Rattle.pm_base.proofs.Sides.{next-lt}
use Rattle.pm_forest.specs.Forest.{Hierarchy, record_count, s_of}
use Rattle.pm_forest.specs.Fronts.{ancestor_after, ancestor_of, child_of, every, below}
use Rattle.pm_forest.specs.Faces.{from_leaf, to_leaf, IsForest}
use Rattle.pm_beyond.specs.Walks.{leaf_net}
use Rattle.pm_beyond.proofs.Twins.{side-stands}
use Rattle.pm_firm.specs.Firm.{shown_net}
use Rattle.pm_number.specs.Stages.{Run, steps, net_of_run_after, IsMerging, Renames}
use Rattle.pm_number.specs.Stages.{side_by}
use Rattle.pm_number.specs.Shown.{IsNumbered}
use Rattle.pm_number.proofs.Stages.{leaf-node, stage}
use Rattle.pm_number.proofs.Undoing.{undoes}
use Rattle.pm_seams.specs.Joined.{renamed}
use Rattle.pm_seams.proofs.Copies.{IsCopied}
use Rattle.pm_seams.proofs.Alike.{AreAlike, copies_alike}
use Rattle.pm_tiles.specs.Fixed.{root_over, IsFixed, HasFixedBorder}
use Rattle.pm_tiles.proofs.FixedLeaves.{leaves_stay}

-- Only records below their number tell.
every_below :
    (h : Hierarchy) (n : ℕ) → record_count h ≡ n → (k x : ℕ) → k ≤ record_count h →
    ancestor_after h every k x ≡ ancestor_after h (below n) k x
unfolding ancestor_after
every_below h n is zero x l = refl
every_below h n is (suc k) x l =
    let v = ancestor_after h (below n) k x in
    let so_far = every_below h n is k x (omega arith) in
    ap (λ w. cond (every k && eqb (s_of h k) w) (child_of h k x) w) so_far
    ∙ ap (λ b. cond (b && eqb (s_of h k) v) (child_of h k x) v) (sym (lt-ltb k n (omega arith)))

-- The leaf mesh of a numbered run's hierarchy is the mesh that the run began with, with other
-- numbers.
module _
    (r : Run) (h : Hierarchy) (node leaf face : ℕ → ℕ)
    (told : IsMerging r) (num : IsNumbered r h node leaf face)
  where
    abbrev side : ℕ → ℕ
    side e = side_by face e

    tree : IsForest h
    tree = (undoes r h node leaf face told num).shape

    names :
        Renames (net_of_run_after r 0) (shown_net h (below (steps r))) (λ e. side_by face e) node
    names = stage r h node leaf face told num 0 (steps r) (omega arith)

    whole : (x : ℕ) → ancestor_of h every x ≡ ancestor_of h (below (steps r)) x
    whole x = every_below h (steps r) num.count (record_count h) x (omega arith)

    copied :
        (vertex : ℕ → ℕ) →
        IsCopied (renamed (λ v. vertex (node v)) r.net)
        (renamed (λ x. vertex (ancestor_of h every x)) (leaf_net h)) (λ x. x) (λ e. side_by face e)
    copied vertex = record {
      is_side = names.is_side;
      turns = λ e l. sym (names.turns e l);
      named = λ e l. ap vertex (whole (from_leaf h (side e)) ∙ names.from e l);
    }

    pub leaf_alike :
        (vertex : ℕ → ℕ) →
        AreAlike (renamed (λ v. vertex (node v)) r.net)
        (renamed (λ x. vertex (ancestor_of h every x)) (leaf_net h))
    leaf_alike vertex = copies_alike _ _ (λ e. side_by face e) (copied vertex) names.back

    -- The leaves at both ends of a side of the mesh.
    from_is : (e : ℕ) → e < 3 * r.net.faces → from_leaf h (side e) ≡ leaf (r.net.from e)
    from_is e l = num.corner e l

    to_is : (e : ℕ) → e < 3 * r.net.faces → to_leaf h (side e) ≡ leaf (to r.net e)
    to_is e l =
        ap (from_leaf h) (sym (names.turns e l)) ∙ num.corner (next e) (next-lt r.net.faces e l)

    leaf_once : (v w : ℕ) → v < r.vertices → w < r.vertices → leaf v ≡ leaf w → v ≡ w
    leaf_once v w lv lw is =
        num.node_once v w (omega arith) (omega arith)
        (sym (leaf-node r h node leaf face told num v (steps r) refl lv)
        ∙ ap (ancestor_of h (below (steps r))) is
        ∙ leaf-node r h node leaf face told num w (steps r) refl lw)

    leaf_border : (e : ℕ) → IsBorderSide r.net e → IsBorderSide (leaf_net h) (side e)
    leaf_border e b =
        let l = b.stands.is_side in
        record {
          stands = side-stands h tree (side e) (names.is_side e l);
          alone = λ g t.
              let (k, m, is) = names.back g t.stands.is_side in
              let m' = next-lt r.net.faces k m in
              b.alone k (record {
                stands = told.whole k m;
                begins =
                    leaf_once (r.net.from k) (to r.net e) (told.vertex k m)
                    (told.vertex (next e) (next-lt r.net.faces e l))
                    (sym (from_is k m) ∙ ap (from_leaf h) is ∙ t.begins ∙ to_is e l);
                ends =
                    leaf_once (to r.net k) (r.net.from e)
                    (told.vertex (next k) m') (told.vertex e l)
                    (sym (to_is k m) ∙ ap (to_leaf h) is ∙ t.ends ∙ from_is e l);
              });
        }

    -- So a vertex on the border is a leaf on the border. Where the border is fixed its root is the
    -- vertex's node.
    pub border_leaf : (v : ℕ) → IsBorder r.net v → IsBorder (leaf_net h) (leaf v)
    border_leaf v (e, b, at) =
        let l = b.stands.is_side in (
          side e,
          leaf_border e b,
          elim at [
            | inl is ↦ inl (from_is e l ∙ ap leaf is)
            | inr is ↦ inr (to_is e l ∙ ap leaf is)
          ],
        )

    border_lt : (v : ℕ) → IsBorder r.net v → v < r.vertices
    border_lt v (e, b, at) =
        let l = b.stands.is_side in
        elim at [
          | inl is ↦ subst (λ i. i < r.vertices) is (told.vertex e l)
          | inr is ↦ subst (λ i. i < r.vertices) is (told.vertex (next e) (next-lt r.net.faces e l))
        ]

    leaf_fixed : HasFixedBorder h → (v : ℕ) → IsBorder r.net v → IsFixed h (leaf v)
    leaf_fixed fixed v border =
        let (e, b, at) = border_leaf v border in
        let ends = fixed e b in
        elim at [ inl is ↦ subst (IsFixed h) is ends.from | inr is ↦ subst (IsFixed h) is ends.to ]

    pub border_root :
        HasFixedBorder h → (v : ℕ) → IsBorder r.net v → root_over h (leaf v) ≡ node v
    border_root fixed v border =
        let l = border_lt v border in
        let lx = num.leaf_there v l in
        sym (leaves_stay h tree (below (steps r)) (leaf v) lx (leaf_fixed fixed v border)).0
        ∙ leaf-node r h node leaf face told num v (steps r) refl l
