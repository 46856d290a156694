-- The parts of units, read from the tables of a run's numbers.
use Rattle.std.proofs.lemmas.Grind.{common_steps}
use Rattle.std.proofs.Common.{◌≡◌, ℕ, ◌+◌, ◌-◌, ◌*◌, ◌/◌, ◌%◌, ◌<◌, ◌≤◌, List, [], ◌∷◌}
use Rattle.std.proofs.Common.{length, get_or, Option, Some, is_some, refl, sym, ap, ◌∙◌, arith}
use Rattle.std.proofs.Common.{w32, to_z, of_z}
use Rattle.std.specs.Prelude.{ℤ}
use Rattle.std.proofs.lemmas.Bool.{lt-ltb, le-ltb, cond-true, cond-false}
use Rattle.std.proofs.lemmas.List.{get_or_read, get_or_default}
use Rattle.pm_base.specs.Place.{Place, IsPlace}
use Rattle.pm_base.specs.Sides.{no_corners}
use Rattle.pm_base.specs.declared.mesh.Corners.{Corners}
use Rattle.pm_base.specs.declared.ids.Side.{Side}
use Rattle.pm_base.specs.Counts.{one_if}
use Rattle.pm_base.specs.declared.log.Collapse.{Collapse}
use Rattle.pm_base.proofs.NetLaws.{first_side, second_side, third_side}
use Rattle.pm_base.proofs.Range.{coordinate_kept}
use Rattle.pm_forest.specs.declared.parts.Face.{Face}
use Rattle.pm_forest.specs.declared.parts.Head.{Head}
use Rattle.pm_forest.specs.Forest.{record_at}
use Rattle.pm_forest.specs.Places.{no_root}
use Rattle.pm_forest.specs.Shaping.{next_root}
use Rattle.pm_forest.specs.Rules.{word_of, head_of}
use Rattle.pm_number.specs.declared.run.Run.{Run as HeldRun}
use Rattle.pm_number.specs.Stages.{Run, steps, entry_at, side_by, IsMerging}
use Rattle.pm_number.specs.Numbering.{left_over, step_of, node_number, width_number}
use Rattle.pm_number.specs.Numbering.{leaf_number, face_number}
use Rattle.pm_number.specs.Numbering.{place_number, input_number, numbered_face, numbered_side}
use Rattle.pm_number.specs.Numbering.{hierarchy_of}
use Rattle.pm_number.specs.Tables.{run_in, IsSmallRun, HasNumbers, all_vertices, coordinates}
use Rattle.pm_number.proofs.NumberLaws.{number_read}
use Rattle.pm_number.proofs.NodeNumbers.{record-at}
use Rattle.pm_number.proofs.FacePositions.{face-there}
use Rattle.pm_number.proofs.RunCounts.{face-count}
use Rattle.pm_number.proofs.NumberedFaces.{numbered-some}
use Rattle.pm_number.proofs.Fitting.{root_vertex}

-- Places

-- the three numbers of a place are its place
pub place_same : (p : Place) (x y z : ℤ) → IsPlace p → x ≡ p.x → y ≡ p.y → z ≡ p.z →
    to_z w32 (of_z w32 x) ∷ to_z w32 (of_z w32 y) ∷ to_z w32 (of_z w32 z) ∷ [] ≡ coordinates p
place_same p x y z on x_is y_is z_is =
    grind (arith, common_steps, coordinate_kept)

pub first_place : (run : HeldRun) {v : ℕ} {p : Place} → v < length run.mesh.now.points.items
    → p ≡ get_or run.mesh.now.points.items v p → p ≡ place_number (run_in run) v
unfolding place_number
first_place run {v} {p} l is =
    grind (arith, common_steps, cond-true, get_or_read, lt-ltb)

pub later_place : (run : HeldRun) {v n : ℕ} (d : Collapse) → n ≡ length run.mesh.now.points.items
    → n ≤ v → v - n < length run.log.now
    → (get_or run.log.now (v - n) d).place ≡ place_number (run_in run) v
unfolding place_number entry_at
later_place run {v} {n} d is l inside =
    grind (arith, common_steps, cond-false, get_or_default, le-ltb)

-- Faces

pub face_is : (run : HeldRun) (f : ℕ) {k : Corners} → f < length run.mesh.now.faces.items
    → k ≡ get_or run.mesh.now.faces.items f k →
    ◌≡◌ {A = Face} (record {
      a = leaf_number (run_in run) k.a;
      b = leaf_number (run_in run) k.b;
      c = leaf_number (run_in run) k.c;
      input = f + 1;
    }) (numbered_face (run_in run) f)
face_is run f {k} l is =
    let faces = run.mesh.now.faces.items in
    let k_is = get_or_read faces f k l is no_corners in
    rw ((first_side faces f).0, (second_side faces f).0, (third_side faces f).0, ← k_is) refl

-- the corners of a face are vertices
pub corners_inside : (run : HeldRun) {f : ℕ} {k : Corners} → IsMerging (run_in run)
    → f < length run.mesh.now.faces.items → k ≡ get_or run.mesh.now.faces.items f k →
    let n = length run.mesh.now.points.items in (k.a < n) × (k.b < n) × (k.c < n)
corners_inside run {f} {k} merging l is =
    let faces = run.mesh.now.faces.items in
    let k_is = get_or_read faces f k l is no_corners in
    let from_a = (first_side faces f).0 ∙ ap (λ (x : Corners). x.a) (sym k_is) in
    let from_b = (second_side faces f).0 ∙ ap (λ (x : Corners). x.b) (sym k_is) in
    let from_c = (third_side faces f).0 ∙ ap (λ (x : Corners). x.c) (sym k_is) in (
      (let w = merging.vertex (3 * f) (omega arith) in omega arith),
      (let w = merging.vertex (3 * f + 1) (omega arith) in omega arith),
      (let w = merging.vertex (3 * f + 2) (omega arith) in omega arith),
    )

-- Neighbours

pub word_is : (r : Run) {o : Option Side} {s : Side} {n : ℕ} → o ≡ Some s
    → n ≡ face_number r (s.0 / 3) → 3 * n + s.0 % 3 + 1 ≡ word_of (numbered_side r o)
unfolding side_by
word_is r is number = rw (is, number) refl

-- the number of the face of a side, as it is read
pub face_number_read : {faces : List ℕ} {number : ℕ → ℕ} {n f e x : ℕ}
    → HasNumbers faces number n → f ≡ e / 3 → e < 3 * n → x ≡ get_or faces f x → x ≡ number (e / 3)
face_number_read {faces} {number} {n} {f} {e} {x} has is l read =
    number_read has (e / 3) x (omega arith) (read ∙ ap (λ g. get_or faces g x) is)

-- no word passes the limits
pub word_small : {r : Run} {e n : ℕ} → IsSmallRun r → e < 3 * r.net.faces
    → n ≡ face_number r (e / 3) → 3 * n + e % 3 + 1 ≤ 3145728
word_small {r} {e} {n} small l number =
    grind (arith, common_steps, face-count, face-there)

-- Heads

pub head_is : (r : Run) (k : ℕ) (c : Collapse) → k < steps r → c ≡ step_of r k →
    ◌≡◌ {A = Head} (record {
      s = node_number r c.s;
      width = width_number r c.t;
      t = coordinates (place_number r c.t);
      t_input = input_number r c.t;
      u = coordinates (place_number r c.u);
      u_input = input_number r c.u;
      presence = one_if (is_some c.left) + 2 * one_if (is_some c.right);
    }) (head_of (record_at (hierarchy_of r) k))
head_is r k c l is =
    grind (arith, common_steps, numbered-some, record-at)

-- Roots

-- What is read of the list of what is left.
pub record IsLeft (r : Run) (i v : ℕ) : Type 0 where
  pub inside : v < all_vertices r
  pub is : v ≡ get_or (left_over r) i 0
  pub root : next_root (coordinates (place_number r v)) (width_number r v) (input_number r v)
      ≡ get_or (hierarchy_of r).roots i no_root

pub left_read : {r : Run} {left : List ℕ} {i v : ℕ} → IsMerging r → left ≡ left_over r
    → i < length left → v ≡ get_or left i v → IsLeft r i v
left_read {r} {left} {i} {v} run left_is l read =
    let is = get_or_read left i v l read 0 ∙ ap (λ xs. get_or xs i 0) left_is in
    let at = root_vertex r run i (rw left_is at l) in
    record { inside = rw is at.0; is = is; root = rw is (sym at.2) }
