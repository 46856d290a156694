-- The definitions at an octahedron with two records: they compute, and the premises of the laws can
-- be met.
use Rattle.std.proofs.Common.{◌≡◌, ℕ, eqb, ℤ, pos, negsuc, true, false, Option, Some, None, [], ◌∷◌}
use Rattle.std.proofs.Common.{map, refl}
use Rattle.pm_base.specs.Place.{Place}
use Rattle.pm_base.specs.Sides.{next, stands, twin_of}
use Rattle.pm_forest.specs.declared.parts.Root.{Root}
use Rattle.pm_forest.specs.declared.parts.Child.{Child}
use Rattle.pm_forest.specs.declared.parts.Face.{Face}
use Rattle.pm_forest.specs.declared.parts.NewFace.{NewFace}
use Rattle.pm_forest.specs.Forest.{Hierarchy, s_of, splitter_of, interval_after, holds}
use Rattle.pm_forest.specs.Fronts.{below, is_active, ancestor_after}
use Rattle.pm_forest.specs.Faces.{faces_of, first_face, revealed_after, is_left, corners_of}
use Rattle.pm_forest.specs.Faces.{from_leaf, inner_of}
use Rattle.pm_forest.specs.Kept.{is_kept, is_shown}
use Rattle.pm_forest.specs.Rules.{counts_are_bad, vertex_input_is_bad, face_input_is_bad}
use Rattle.pm_forest.specs.Rules.{width_is_bad, root_fault, base_is_bad, base_fault, split_is_bad}
use Rattle.pm_forest.specs.Rules.{head_is_bad, children_fault, head_fault, runs, new_face_is_bad}
use Rattle.pm_forest.specs.Rules.{new_face_fault, record_fault, past_fault, HasShape}
use Rattle.pm_beyond.specs.declared.moves.MoveFault.TheVariants as faults
use Rattle.pm_beyond.specs.Walks.{across, way_out, walk, beyond_of, mate_of, expected}
use Rattle.pm_beyond.specs.Valid.{IsValid}
use Rattle.pm_beyond.specs.Moves.{outer_sides, needs, split_fault, collapse_fault}
use Rattle.pm_beyond.specs.Targets.{taken_after, target_of}
use Rattle.pm_beyond.specs.Plans.{Split, Collapse, ascending, descending, plan}
use Rattle.pm_beyond.proofs.Checked.{no_side_twice, all_told}

abbrev at : ℤ → ℤ → ℤ → Place
at x y z = record { x = x; y = y; z = z }

abbrev root : Place → ℕ → ℕ → Root
root p width input = record { place = p; width = width; input = input }

abbrev child : Place → ℕ → Child
child p input = record { place = p; input = input }

abbrev corners : ℕ → ℕ → ℕ → ℕ → Face
corners a b c input = record { a = a; b = b; c = c; input = input }

abbrev face : Face → ℕ → ℕ → Option NewFace
face f p q = Some (record {
  face = f;
  first = Some (record { 0 = p });
  second = Some (record { 0 = q });
})

-- The octahedron, where the side recorded beyond the first outer side of record 0's left face is p.
abbrev pub octahedron_with : ℕ → Hierarchy
octahedron_with p = record {
  roots = root (at (pos 0) (negsuc 99) (pos 0)) 1 4 ∷ root (at (pos 0) (pos 0) (negsuc 99)) 1 6
      ∷ root (at (pos 50) (pos 50) (pos 0)) 2 0 ∷ root (at (negsuc 49) (pos 0) (pos 50)) 2 0 ∷ [];
  bases = corners 0 2 5 4 ∷ corners 4 3 1 6 ∷ corners 0 4 1 7 ∷ corners 2 0 1 8 ∷ [];
  records =
      record {
        s = 3;
        width = 1;
        t = child (at (negsuc 99) (pos 0) (pos 0)) 2;
        u = child (at (pos 0) (pos 0) (pos 100)) 5;
        left = face (corners 3 4 5 2) p 3;
        right = face (corners 4 0 5 3) 6 2;
      }
      ∷ record {
        s = 2;
        width = 1;
        t = child (at (pos 100) (pos 0) (pos 0)) 1;
        u = child (at (pos 0) (pos 100) (pos 0)) 3;
        left = face (corners 2 3 5 1) 14 1;
        right = face (corners 3 2 1 5) 11 4;
      } ∷ [];
}

abbrev pub octahedron : Hierarchy
octahedron = octahedron_with 1

once : no_side_twice octahedron ≡ true
unfolding from_leaf next corners_of is_left revealed_after first_face
once = refl

told : all_told octahedron ≡ true
unfolding beyond_of walk way_out is_shown across stands twin_of expected mate_of inner_of holds
    interval_after s_of from_leaf next corners_of is_left revealed_after first_face
told = refl

-- With another recorded neighbour a record isn't as told.
damaged : all_told (octahedron_with 0) ≡ false
unfolding beyond_of walk way_out is_shown across stands twin_of expected mate_of inner_of holds
    interval_after s_of from_leaf next corners_of is_left revealed_after first_face
damaged = refl

in_order : split_fault octahedron (below 0) 0 ≡ None
unfolding split_fault is_active is_kept ancestor_after holds interval_after s_of splitter_of
    from_leaf next corners_of is_left revealed_after first_face
in_order = refl

-- What is needed isn't collapsed: the face of a greater record stands in the way.
blocked : collapse_fault octahedron (below 2) 0 ≡ Some (faults.Blocked (record { 0 = 6 }))
unfolding collapse_fault is_active splitter_of outer_sides beyond_of walk way_out is_shown across
    stands twin_of expected mate_of inner_of holds interval_after s_of from_leaf next corners_of
    is_left revealed_after first_face
blocked = refl

last_first : collapse_fault octahedron (below 2) 1 ≡ None
unfolding collapse_fault is_active splitter_of outer_sides beyond_of walk way_out is_shown across
    stands twin_of expected mate_of inner_of holds interval_after s_of from_leaf next corners_of
    is_left revealed_after first_face
last_first = refl

unsplit : collapse_fault octahedron (below 0) 0 ≡ Some faults.NotActive
unfolding collapse_fault
unsplit = refl

-- To see node 2 split, record 1 is taken and record 0, which it needs; the plan splits them in
-- order.
needed : map (λ k. needs octahedron 1 k) (0 ∷ 1 ∷ []) ≡ true ∷ false ∷ []
unfolding needs outer_sides expected mate_of inner_of holds interval_after s_of from_leaf next
    corners_of is_left revealed_after first_face
needed = refl

undone : plan octahedron (below 2) (target_of octahedron (λ v. eqb v 3)) ≡ Collapse 1 ∷ []
unfolding plan ascending descending taken_after needs outer_sides expected mate_of inner_of holds
    interval_after s_of from_leaf next corners_of is_left revealed_after first_face
undone = refl
