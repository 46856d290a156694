-- Numberings that are one to one keep counts.
use Rattle.std.proofs.Common.{zero, suc, ◌≡◌, ℕ, ◌+◌, ◌*◌, ◌<◌, eqb, true, length, refl}
use Rattle.std.proofs.lemmas.Grind.{common_steps}
use Rattle.std.proofs.Common.{sym, ap, ◌∙◌, subst, arith}
use Rattle.std.specs.List.{list_any}
use Rattle.std.proofs.lemmas.Bool.{eq-eqb, or_left, or_right}
use Rattle.std.proofs.lemmas.Map.Steps.{length-le_from_distinct_below, le-length_from_below}
use Rattle.pm_forest.specs.Faces.{face_count}
use Rattle.pm_forest.specs.Forest.{leaf_count}
use Rattle.pm_forest.specs.Fronts.{ancestor_of, below}
use Rattle.pm_forest.proofs.OneToOne.{images, length-images, images-parts, images-distinct}
use Rattle.pm_number.proofs.NodeNumbers.{node-once, node-there, node-back}
use Rattle.pm_number.proofs.Stages.{leaf-node}
use Rattle.pm_number.proofs.Whole.{numbered}
use Rattle.pm_number.specs.Numbering.{left_over, node_number, leaf_number, face_number}
use Rattle.pm_number.specs.Numbering.{hierarchy_of}
use Rattle.pm_number.specs.Stages.{Run, steps, IsMerging}

images-has : (f : ℕ → ℕ) (n x : ℕ) → x < n → list_any (eqb (f x)) (images f n) ≡ true
images-has f zero x l = absurd (omega arith)
images-has f (suc n) x l = grind (arith, common_steps, eq-eqb, or_left, or_right, images-has f n x)

pub same_count : (f : ℕ → ℕ) (a b : ℕ) → ((x y : ℕ) → x < a → y < a → f x ≡ f y → x ≡ y)
    → ((x : ℕ) → x < a → f x < b) → ((y : ℕ) → y < b → (x : ℕ) × (x < a) × (f x ≡ y)) → a ≡ b
same_count f a b once there back =
    let up = length-le_from_distinct_below (images f a) b (images-distinct f a once)
    (λ q e. let (x, l, is) = images-parts f a q e in subst (λ n. n < b) (sym is) (there x l)) in
    let down = le-length_from_below (images f a) b (λ q l. let (x, m, is) = back q l in
    subst (λ n. list_any (eqb n) (images f a) ≡ true) is (images-has f a x m)) in
    let n = length-images f a in
    omega arith

module _ (r : Run) (run : IsMerging r) where
  pub node-count : r.vertices ≡ length (left_over r) + steps r
  node-count =
      let n = same_count (node_number r) (r.vertices + steps r) (length (left_over r) + 2 * steps r)
      (node-once r run) (node-there r run) (node-back r run) in
      omega arith

  pub face-count : r.net.faces ≡ face_count (hierarchy_of r)
  face-count = let num =
      numbered r run in
      same_count (face_number r) r.net.faces (face_count (hierarchy_of r)) num.face_once
      num.face_there num.face_back

  leaf-once : (x y : ℕ) → x < r.vertices → y < r.vertices → leaf_number r x ≡ leaf_number r y
      → x ≡ y
  leaf-once x y l m e =
      let num = numbered r run in
      let h = hierarchy_of r in
      num.node_once x y (omega arith) (omega arith)
      (sym (leaf-node r h _ _ _ run num x (steps r) refl l) ∙ ap (ancestor_of h (below (steps r))) e
      ∙ leaf-node r h _ _ _ run num y (steps r) refl m)

  pub leaf-number-count : r.vertices ≡ leaf_count (hierarchy_of r)
  leaf-number-count = let num =
      numbered r run in
      same_count (leaf_number r) r.vertices (leaf_count (hierarchy_of r)) leaf-once num.leaf_there
      num.leaf_back
