-- What a tile shows of two closed sets: each may stand in the other's place.
use Rattle.std.proofs.Common.{◌≡◌, ℕ, ◌*◌, ◌<◌, Bool, inl, inr, refl, sym, ap, ◌∙◌, subst, arith}
use Rattle.std.proofs.lemmas.Grind.{common_steps}
use Rattle.pm_base.specs.Sides.{Net, next, prev, third, Stands, IsBorder}
use Rattle.pm_base.specs.Fans.{IsPairAt, IsUsed, IsOrientedManifold}
use Rattle.pm_base.proofs.Sides.{stands_next}
use Rattle.pm_forest.specs.Forest.{Hierarchy, leaf_count, node_count}
use Rattle.pm_forest.specs.Fronts.{ancestor_of}
use Rattle.pm_forest.specs.Faces.{face_count, from_leaf, to_leaf, IsForest}
use Rattle.pm_forest.proofs.Ancestors.{ancestor-lt}
use Rattle.pm_forest.proofs.Ends.{next-lt}
use Rattle.pm_runs.specs.Pairs.{Runs}
use Rattle.pm_beyond.specs.Moves.{IsClosed}
use Rattle.pm_beyond.proofs.Standing.{forest_of}
use Rattle.pm_firm.specs.Firm.{shown_net, IsFirm}
use Rattle.pm_firm.proofs.FirmFronts.{firm_fronts}
use Rattle.pm_seams.specs.Joined.{renamed, IsOneToOneOn, HasBorderSide, MayStandFor}
use Rattle.pm_seams.proofs.Renaming as names
use Rattle.pm_tiles.specs.Fixed.{root_over, IsFixed, HasFixedBorder}
use Rattle.pm_tiles.proofs.FixedLeaves.{leaves_stay}
use Rattle.pm_tiles.proofs.FixedBorders.{sides_stay, borders_stay}
use Rattle.pm_worlds.specs.Worlds.{IsBorderNode}

module _ (h : Hierarchy) (firm : IsFirm h) (fixed : HasFixedBorder h) where
  tree : IsForest h
  tree = forest_of h firm.valid

  leaf_lt : (e : ℕ) → e < 3 * face_count h → from_leaf h e < leaf_count h
  leaf_lt e l = tree.faces.leaves e l

  to_lt : (e : ℕ) → e < 3 * face_count h → to_leaf h e < leaf_count h
  to_lt e l = leaf_lt (next e) (next-lt h tree e l)

  abbrev shown : (ℕ → Bool) → Net
  shown T = shown_net h T

  -- In any set a fixed leaf has its root as its ancestor, and it alone.
  root_is :
      (T : ℕ → Bool) (x : ℕ) → x < leaf_count h → IsFixed h x →
      ancestor_of h T x ≡ root_over h x
  root_is T x l f = (leaves_stay h tree T x l f).0

  module _ (T : ℕ → Bool) (closed : IsClosed h T) where
    pub used_node : (v : ℕ) → IsUsed (shown T) v → v < node_count h
    used_node v (e, s, at) = grind (arith, common_steps, ancestor-lt, leaf_lt, tree)

    -- A leaf whose ancestor is on the border shown is fixed.
    on_border_fixed :
        (y : ℕ) → y < leaf_count h → IsBorder (shown T) (ancestor_of h T y) → IsFixed h y
    on_border_fixed y l (g, b, at) =
        let k = b.stands.is_side in
        let ends = fixed g ((borders_stay h firm fixed T closed g).0 b) in
        elim at [
          | inl is ↦
              let stays = leaves_stay h tree T (from_leaf h g) (leaf_lt g k) ends.from in
              subst (IsFixed h) (sym (stays.1 y l (sym is))) ends.from
          | inr is ↦
              let stays = leaves_stay h tree T (to_leaf h g) (to_lt g k) ends.to in
              subst (IsFixed h) (sym (stays.1 y l (sym is))) ends.to
        ]

    -- The root of a leaf on the border is on the border shown.
    node_on_border : (v : ℕ) → IsBorderNode h v → IsBorder (shown T) v
    node_on_border v n =
        let (e, b, at) = n.border in
        let k = b.stands.is_side in
        let ends = fixed e b in (
          e,
          (borders_stay h firm fixed T closed e).1 b,
          elim at [
            | inl is ↦
                let root = root_is T (from_leaf h e) (leaf_lt e k) ends.from in
                inl (root ∙ ap (root_over h) is ∙ n.root)
            | inr is ↦
                let root = root_is T (to_leaf h e) (to_lt e k) ends.to in
                inr (root ∙ ap (root_over h) is ∙ n.root)
          ],
        )

  module _
      (name : ℕ → ℕ)
      (distinct : (v w : ℕ) → v < node_count h → w < node_count h → name v ≡ name w → v ≡ w)
    where
      abbrev pub named : (ℕ → Bool) → Net
      named T = renamed name (shown T)

      pub one_to_one : (T : ℕ → Bool) → IsClosed h T → IsOneToOneOn name (shown T)
      one_to_one T closed x y ux uy is =
          distinct x y (used_node T closed x ux) (used_node T closed y uy) is

      pub manifold : (T : ℕ → Bool) → IsClosed h T → IsOrientedManifold (named T)
      manifold T closed =
          let surface = firm_fronts h firm T closed in
          names.renamed_surfaces name (shown T) (one_to_one T closed) surface.manifold

      -- Where a node that is shown is on the border of its tile, its vertex is on the border shown.
      pub vertex_on_border :
          (T : ℕ → Bool) (closed : IsClosed h T) (v : ℕ) → IsBorderNode h v →
          IsBorder (named T) (name v)
      vertex_on_border T closed v n =
          let (e, b, at) = node_on_border T closed v n in
          let border = names.border_named name (shown T) (one_to_one T closed) e b in
          (e, border, elim at [ inl is ↦ inl (ap name is) | inr is ↦ inr (ap name is) ])

      module _ (S T : ℕ → Bool) (first : IsClosed h S) (second : IsClosed h T) where
        old : (e : ℕ) → Stands (named T) e → Stands (shown T) e
        old = names.old_stands name (shown T) (one_to_one T second)

        -- A corner that is shown on the border is a fixed leaf.
        corner_fixed :
            (e : ℕ) → Stands (named T) e → IsBorder (named T) ((named T).from e) →
            IsFixed h (from_leaf h e)
        corner_fixed e s b =
            let used : IsUsed (shown T) ((shown T).from e) = (e, old e s, refl) in
            on_border_fixed T second (from_leaf h e) (leaf_lt e s.is_side)
            (names.on_border name (shown T) (one_to_one T second) ((shown T).from e) used b)

        same_node : (y : ℕ) → y < leaf_count h → IsFixed h y → ancestor_of h S y ≡ ancestor_of h T y
        same_node y l f = root_is S y l f ∙ sym (root_is T y l f)

        -- A side with fixed ends is shown in both sets.
        shown_too :
            (e : ℕ) → Stands (shown T) e → IsFixed h (from_leaf h e) → IsFixed h (to_leaf h e) →
            Stands (shown S) e
        shown_too e s f t =
            let l = s.is_side in
            let x : ℕ = from_leaf h e in
            let y : ℕ = to_leaf h e in
            let runs : Runs (shown T) e (root_over h x) (root_over h y) =
            grind (arith, common_steps, leaf_lt, root_is, to_lt) in
            let leaf = (sides_stay h tree T x y (leaf_lt e l) (to_lt e l) f t e).0 runs in
            ((sides_stay h tree S x y (leaf_lt e l) (to_lt e l) f t e).1 leaf).stands

        moved_border : (x y : ℕ) → HasBorderSide (named S) x y → HasBorderSide (named T) x y
        moved_border x y b =
            let e : ℕ = b.side in
            let was = names.border_was name (shown S) (one_to_one S first) e b.border in
            let leaf = (borders_stay h firm fixed S first e).0 was in
            let l = leaf.stands.is_side in
            let ends = fixed e leaf in
            record {
              side = e;
              border =
                  names.border_named name (shown T) (one_to_one T second) e
                  ((borders_stay h firm fixed T second e).1 leaf);
              begins = ap name (sym (same_node (from_leaf h e) (leaf_lt e l) ends.from)) ∙ b.begins;
              ends = ap name (sym (same_node (to_leaf h e) (to_lt e l) ends.to)) ∙ b.ends;
            }

        -- The corners of a pair of T, the first two on the border, as those of the same side in S.
        moved_pair :
            (x y z : ℕ) (f : IsPairAt (named T) x y z) → IsBorder (named T) x →
            IsBorder (named T) y → IsPairAt (named S) x y (name (third (shown S) f.side))
        moved_pair x y z f bx by =
            let e : ℕ = f.side in
            let l = f.stands.is_side in
            let s' = stands_next (named T) e f.stands in
            let from = corner_fixed e f.stands (subst (IsBorder (named T)) (sym f.at) bx) in
            let to = corner_fixed (next e) s' (subst (IsBorder (named T)) (sym f.one) by) in
            record {
              side = e;
              stands =
                  names.named_stands name (shown S) (one_to_one S first) e
                  (shown_too e (old e f.stands) from to);
              at = ap name (same_node (from_leaf h e) (leaf_lt e l) from) ∙ f.at;
              one = ap name (same_node (to_leaf h e) (to_lt e l) to) ∙ f.one;
              two = refl;
            }

        moved_face :
            (x y z : ℕ) → IsBorder (named T) x → IsBorder (named T) y → IsBorder (named T) z →
            IsPairAt (named T) x y z → IsPairAt (named S) x y z
        moved_face x y z bx by bz f =
            let e : ℕ = f.side in
            let s'' = stands_next (named T) (next e) (stands_next (named T) e f.stands) in
            let last = corner_fixed (prev e) s'' (subst (IsBorder (named T)) (sym f.two) bz) in
            let node = same_node (from_leaf h (prev e)) (leaf_lt (prev e) s''.is_side) last in
            subst (IsPairAt (named S) x y) (ap name node ∙ f.two) (moved_pair x y z f bx by)

      pub may_stand :
          (S T : ℕ → Bool) → IsClosed h S → IsClosed h T → MayStandFor (named S) (named T)
      may_stand S T first second = record {
        border = λ x y. (moved_border S T first second x y, moved_border T S second first x y);
        sides = λ x y bx by (z, f). (_, moved_pair S T first second x y z f bx by);
        faces = moved_face S T first second;
      }
