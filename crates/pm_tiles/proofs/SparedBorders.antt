-- A run that spares the border has a hierarchy with a fixed border.
use Rattle.std.proofs.Common.{◌≡◌, ℕ, ◌*◌, ◌<◌, List, length, inl, inr, refl, sym, ap, ◌∙◌, subst}
use Rattle.std.proofs.Common.{arith}
use Rattle.pm_base.specs.Meshes.{Mesh}
use Rattle.pm_base.specs.Sides.{Net, next, to, net_of, IsBorderSide}
use Rattle.pm_base.proofs.Sides.{next-lt}
use Rattle.pm_base.specs.declared.log.Collapse.{Collapse}
use Rattle.pm_forest.specs.Forest.{Hierarchy}
use Rattle.pm_forest.specs.Fronts.{below}
use Rattle.pm_forest.specs.Faces.{from_leaf, to_leaf, IsForest}
use Rattle.pm_runs.specs.Runs.{IsStartOfRun, IsRun}
use Rattle.pm_beyond.specs.Walks.{leaf_net}
use Rattle.pm_beyond.proofs.Twins.{side-stands}
use Rattle.pm_firm.specs.Firm.{shown_net}
use Rattle.pm_number.specs.Stages.{Run, run_of, IsMerging, net_of_run_after, Renames, side_by}
use Rattle.pm_number.specs.Shown.{IsNumbered}
use Rattle.pm_number.specs.Numbering.{node_number, leaf_number, face_number, hierarchy_of}
use Rattle.pm_number.specs.Numbering.{hierarchy_of_run}
use Rattle.pm_number.proofs.Stages.{stage}
use Rattle.pm_number.proofs.Undoing.{undoes}
use Rattle.pm_tiles.specs.Fixed.{IsFixed, HasFixedEnds}
use Rattle.pm_tiles.specs.RunLaws as law
use Rattle.pm_tiles.proofs.SparedLeaves.{told, num, vertex_fixed}

module _ (m : Mesh) (start : IsStartOfRun m) (log : List Collapse) (run : IsRun m log) where
  abbrev r : Run
  r = run_of m log

  abbrev h : Hierarchy
  h = hierarchy_of (run_of m log)

  abbrev net : Net
  net = net_of m.faces

  abbrev side : ℕ → ℕ
  side x = side_by (face_number (run_of m log)) x

  merges : IsMerging (run_of m log)
  merges = told m start log run

  numbers :
      IsNumbered (run_of m log) (hierarchy_of (run_of m log)) (node_number (run_of m log))
      (leaf_number (run_of m log)) (face_number (run_of m log))
  numbers = num m start log run

  tree : IsForest h
  tree =
      (undoes r h (node_number r) (leaf_number r) (face_number r) merges numbers).shape

  names :
      Renames (net_of_run_after r 0) (shown_net h (below (length log)))
      (λ x. side_by (face_number r) x) (node_number r)
  names =
      stage r h (node_number r) (leaf_number r) (face_number r) merges numbers 0 (length log)
      (omega arith)

  -- The leaves at both ends of a side of the mesh.
  from_is : (x : ℕ) → x < 3 * length m.faces → from_leaf h (side x) ≡ leaf_number r (net.from x)
  from_is x l = numbers.corner x l

  to_is : (x : ℕ) → x < 3 * length m.faces → to_leaf h (side x) ≡ leaf_number r (to net x)
  to_is x l =
      ap (from_leaf h) (sym (names.turns x l))
      ∙ numbers.corner (next x) (next-lt (length m.faces) x l)

  -- A side of the mesh that is on the border of the leaf mesh is on the mesh's border.
  on_border :
      (g : ℕ) → g < 3 * length m.faces → IsBorderSide (leaf_net h) (side g) → IsBorderSide net g
  on_border g l border = record {
    stands = merges.whole g l;
    alone = λ x twin.
        let xl = twin.stands.is_side in
        border.alone (side x) (record {
          stands = side-stands h tree (side x) (names.is_side x xl);
          begins = from_is x xl ∙ ap (leaf_number r) twin.begins ∙ sym (to_is g l);
          ends = to_is x xl ∙ ap (leaf_number r) twin.ends ∙ sym (from_is g l);
        });
  }

  ends_fixed :
      law.SparesBorder m log → (g : ℕ) → g < 3 * length m.faces → IsBorderSide net g →
      HasFixedEnds h (side g)
  ends_fixed spares g l border =
      let v = net.from g in
      let w = to net g in
      let first = spares v (g, border, inl refl) in
      let second = spares w (g, border, inr refl) in
      let next_in = next-lt (length m.faces) g l in
      record {
        from =
            subst (IsFixed h) (sym (from_is g l))
            (vertex_fixed m start log run v (merges.vertex g l) first);
        to =
            subst (IsFixed h) (sym (to_is g l))
            (vertex_fixed m start log run w (merges.vertex (next g) next_in) second);
      }

  pub side_fixed :
      law.SparesBorder m log → (e : ℕ) → IsBorderSide (leaf_net h) e → HasFixedEnds h e
  side_fixed spares e border =
      let (g, l, is) = names.back e border.stands.is_side in
      let here : IsBorderSide (leaf_net h) (side g) =
      subst (IsBorderSide (leaf_net h)) (sym is) border in
      subst (HasFixedEnds h) is (ends_fixed spares g l (on_border g l here))

pub borders_fixed : law.SparedBordersAreFixed
unfolding hierarchy_of_run
borders_fixed m start log run spares e border = side_fixed m start log run spares e border
