-- The hierarchy of a run has the right shape where its places are on the grid.
use Rattle.std.proofs.Common.{suc, ◌≡◌, ℕ, ◌+◌, ◌-◌, ◌<◌, ◌≤◌, ltb, true, false, List, [], length}
use Rattle.std.proofs.lemmas.Grind.{common_steps}
use Rattle.std.proofs.Common.{get_or, Option, None, Some, refl, arith}
use Rattle.std.proofs.lemmas.Bool.{and_from, le-leb, lt-ltb, le-ltb, cond-true}
use Rattle.std.proofs.lemmas.Bool.{cond-false}
use Rattle.pm_base.specs.Place.{Place, is_place, IsPlace, place_of}
use Rattle.pm_base.specs.Meshes.{Mesh}
use Rattle.pm_base.specs.declared.log.Collapse.{Collapse}
use Rattle.pm_forest.specs.declared.parts.NewFace.{NewFace}
use Rattle.pm_forest.specs.declared.parts.Shape.{Shape}
use Rattle.pm_forest.specs.Forest.{Hierarchy, no_record, record_at}
use Rattle.pm_forest.specs.Faces.{no_face_corners}
use Rattle.pm_forest.specs.Places.{no_root}
use Rattle.pm_forest.specs.Rules.{root_fault, base_fault, new_face_fault, face_fault, record_fault}
use Rattle.pm_forest.specs.Rules.{record_fault_after, bare, left_only, with_record, word_of}
use Rattle.pm_forest.specs.Rules.{first_fault_of, counts_of, HasShape}
use Rattle.pm_forest.proofs.Prefix.{cut}
use Rattle.pm_number.specs.Stages.{Run, run_of, steps, entry_at, IsMerging}
use Rattle.pm_number.specs.Numbering.{left_over, step_of, place_number, hierarchy_of}
use Rattle.pm_number.specs.Laws.{AreOnGrid}
use Rattle.pm_number.proofs.RunLaws.{ends_given}
use Rattle.pm_number.proofs.NodeNumbers.{root-count, count}
use Rattle.pm_number.proofs.UnitsPass.{AllFit-from}
use Rattle.pm_number.proofs.Fitting.{counts_fit, root_vertex, root_fits, head_fits}
use Rattle.pm_number.proofs.FaceFitting.{base_fits, past_fits}
use Rattle.pm_number.proofs.NewFaceFitting.{left_fits, right_fits}

pub place-true : (p : Place) → IsPlace p → is_place p ≡ true
place-true p is = and_from _ _ (and_from _ _ (le-leb _ _ is.0) (le-leb _ _ is.1)) (le-leb _ _ is.2)

-- a face that is there has no fault, nor has one that isn't
face_none : (h : Hierarchy) (left : _) (o : Option NewFace)
    → ((n : NewFace) → o ≡ Some n
    → new_face_fault h left n.face (word_of n.first) (word_of n.second) ≡ None)
    → face_fault h left o ≡ None
face_none h left None fits = refl
face_none h left (Some n) fits = fits n refl

none_first : (a b : Option Shape) → a ≡ None → b ≡ None → first_fault_of a b ≡ None
none_first a b e f = rw (e, f) refl

module _ (r : Run) (run : IsMerging r) (few : r.vertices ≤ 1048576)
    (few_faces : r.net.faces ≤ 1048576) (placed : (v : ℕ) → v < r.vertices + steps r
    → is_place (place_number r v) ≡ true) where
  pub shaped : HasShape (hierarchy_of r)
  unfolding record_fault
  shaped =
      let h = hierarchy_of r in
      let roots = root-count r in
      let all = count r in
      record {
        counts = counts_fit r run few few_faces;
        roots = AllFit-from (root_fault (counts_of h)) no_root [] h.roots (λ i l.
            let i_lt : i < length (left_over r) = omega arith in
            root_fits r run i i_lt
            (placed (get_or (left_over r) i 0) (root_vertex r run i i_lt).0));
        bases = AllFit-from (base_fault h.roots) no_face_corners [] h.bases
            (λ j l. base_fits r run few_faces j l);
        records = AllFit-from (record_fault_after h.roots h.bases) no_record [] h.records (λ k l.
            let k_lt : k < steps r = omega arith in
            let x = record_at h k in
            let j = steps r - suc k in
            let given = ends_given r run j (omega arith) in
            let t = placed (step_of r k).t (let a = given.0 in omega arith) in
            let u = placed (step_of r k).u (let a = given.1 in omega arith) in
            none_first _ _ (head_fits r run k k_lt t u)
            (none_first _ _
            (face_none (with_record (cut h k) (bare x)) true x.left
            (λ n is. left_fits r run few_faces k l n is))
            (face_none (with_record (cut h k) (left_only x)) false x.right
            (λ n is. right_fits r run few_faces k l n is))));
        inputs = past_fits r run few_faces;
      }

-- a vertex of a run on the grid is on it
pub on_grid : (m : Mesh) (log : List Collapse) → AreOnGrid m log → (v : ℕ)
    → v < length m.points + length log → is_place (place_number (run_of m log) v) ≡ true
unfolding place_number entry_at
on_grid m log are v l =
    grind (
      arith,
      common_steps,
      place-true,
      cond-false (ltb v (length m.points)) (get_or m.points v (place_of [])),
      cond-true (ltb v (length m.points)) (get_or m.points v (place_of [])),
      get_or m.points v (place_of []),
      le-ltb v (length m.points),
      lt-ltb v (length m.points),
    )
