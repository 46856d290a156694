-- A front of a firm hierarchy with a fixed border shows the border of the input mesh.
use Rattle.std.proofs.Common.{◌≡◌, ℕ, ◌*◌, ◌-◌, ◌<◌, Bool, sym, ap, ◌∙◌, subst}
use Rattle.pm_base.specs.Sides.{Net, next, to, net_of, IsBorderSide}
use Rattle.pm_base.proofs.Sides.{next-lt}
use Rattle.pm_forest.specs.Forest.{Hierarchy, leaf_count}
use Rattle.pm_forest.specs.Fronts.{ancestor_of, every}
use Rattle.pm_forest.specs.Faces.{from_leaf, to_leaf, IsForest}
use Rattle.pm_forest.specs.Places.{place_of_node}
use Rattle.pm_forest.specs.Meshes.{leaf_input, face_of_input, leaf_of_input}
use Rattle.pm_forest.specs.Meshes.{input_mesh_of, HasInputNumbers}
use Rattle.pm_forest.proofs.MeshLaws.{has_input_numbers}
use Rattle.pm_beyond.specs.Walks.{leaf_net}
use Rattle.pm_beyond.specs.Moves.{IsClosed}
use Rattle.pm_beyond.proofs.Standing.{forest_of}
use Rattle.pm_firm.specs.Firm.{IsFirm}
use Rattle.pm_number.specs.Stages.{side_by, Renames}
use Rattle.pm_tiles.specs.Fixed.{IsFixed, HasFixedEnds, HasFixedBorder}
use Rattle.pm_tiles.specs.Borders.{place_in, ShowsBorder}
use Rattle.pm_tiles.specs.Laws as law
use Rattle.pm_tiles.proofs.FixedLeaves.{is_root}
use Rattle.pm_tiles.proofs.FixedBorders.{borders_stay}
use Rattle.pm_tiles.proofs.InputSides.{from_input, side-once, input_renamed}
use Rattle.pm_tiles.proofs.RenamedBorders.{border-moved, border-before}

module _ (h : Hierarchy) (firm : IsFirm h) (fixed : HasFixedBorder h) (T : ℕ → Bool) where
  tree : IsForest h
  tree = forest_of h firm.valid

  numbers : HasInputNumbers h
  numbers = has_input_numbers h firm.valid.shape

  abbrev input : Net
  input = net_of (input_mesh_of h).faces

  abbrev side : ℕ → ℕ
  side e = side_by (face_of_input h) e

  names : Renames input (leaf_net h) (λ e. side_by (face_of_input h) e) (λ v. leaf_of_input h v)
  names = input_renamed h tree numbers

  -- The node that shows a fixed leaf stands at the leaf's place, which the input mesh has.
  shown-place :
      (x v : ℕ) → x < leaf_count h → IsFixed h x → v ≡ leaf_input h x - 1 →
      place_of_node h (ancestor_of h T x) ≡ place_in (input_mesh_of h) v
  shown-place x v l here is =
      ap (place_of_node h) (is_root h tree x here T ∙ sym (is_root h tree x here every))
      ∙ sym (ap (place_in (input_mesh_of h)) is ∙ numbers.mesh.vertex x l)

  moved : (e : ℕ) → IsBorderSide input e → IsBorderSide (leaf_net h) (side e)
  moved e border = border-moved input (leaf_net h) side _ names e border

  -- The leaf at each end of a side of the input's border is fixed.
  ends : (e : ℕ) → IsBorderSide input e → HasFixedEnds h (side e)
  ends e border = fixed (side e) (moved e border)

  leaf_at : (e : ℕ) → e < 3 * input.faces → from_leaf h (side e) < leaf_count h
  leaf_at e l = tree.faces.leaves (side e) (names.is_side e l)

  pub shows : IsClosed h T → ShowsBorder h T (input_mesh_of h)
  shows closed =
      let stay = borders_stay h firm fixed T closed in
      record {
        side = side;
        stands = λ e border. (stay (side e)).1 (moved e border);
        all = λ g border.
            let here = (stay g).0 border in
            let (e, l, is) = names.back g here.stands.is_side in
            let there = subst (IsBorderSide (leaf_net h)) (sym is) here in
            (e, border-before input (leaf_net h) side _ names e l there, is);
        once = λ e g first second same.
            side-once h tree numbers e g first.stands.is_side second.stands.is_side same;
        begins = λ e border.
            let l = border.stands.is_side in
            shown-place (from_leaf h (side e)) (input.from e) (leaf_at e l) (ends e border).from
            (from_input h tree numbers e l);
        ends = λ e border.
            let l = border.stands.is_side in
            let m = next-lt input.faces e l in
            let turn = names.turns e l in
            let low = subst (λ f. from_leaf h f < leaf_count h) turn (leaf_at (next e) m) in
            let is : to input e ≡ leaf_input h (to_leaf h (side e)) - 1 =
            from_input h tree numbers (next e) m
            ∙ ap (λ f. leaf_input h (from_leaf h f) - 1) turn in
            shown-place (to_leaf h (side e)) (to input e) low (ends e border).to is;
      }

pub borders_are_shown : law.FixedBordersAreShown
borders_are_shown h firm fixed T closed = shows h firm fixed T closed
