-- The first records of a hierarchy don't change while more of its records come.
use Rattle.std.proofs.Common.{◌≡◌, ℕ, zero, suc, ◌+◌, ◌-◌, ◌<◌, ◌≤◌, eqb, List, length, map}
use Rattle.std.proofs.Common.{take, Option, None, Some, is_some, refl, sym, ap, ◌∙◌, arith}
use Rattle.std.proofs.Common.{get_or}
use Rattle.std.proofs.lemmas.Bool.{ltb-true}
use Rattle.std.proofs.lemmas.List.{length-take}
use Rattle.std.proofs.lemmas.List.Elements.{All-get_or}
use Rattle.std.specs.List.{range_with_len}
use Rattle.pm_base.specs.Counts.{one_if}
use Rattle.pm_base.proofs.Counts.{count_same}
use Rattle.pm_forest.specs.declared.parts.Root.{Root}
use Rattle.pm_forest.specs.declared.parts.Face.{Face}
use Rattle.pm_forest.specs.declared.parts.NewFace.{NewFace}
use Rattle.pm_forest.specs.declared.parts.Record.{Record}
use Rattle.pm_forest.specs.Forest.{Hierarchy, record_at, record_count, leaf_count, t_of, u_of}
use Rattle.pm_forest.specs.Forest.{interval_of, holds}
use Rattle.pm_forest.specs.Fronts.{ancestor_after, ancestor_of, below, child_of}
use Rattle.pm_forest.specs.Faces.{no_face_corners, first_face}
use Rattle.pm_forest.specs.Rules.{HasShape}
use Rattle.pm_forest.proofs.Nodes.{interval-kept}
use Rattle.pm_forest.proofs.Ancestors.{ancestor-lt}
use Rattle.pm_forest.proofs.Prefix.{cut, record_count-cut, record_at-cut, s_of-cut}
use Rattle.pm_forest.proofs.Prefix.{interval_of-cut, first_face-cut}
use Rattle.pm_forest.proofs.UnitLaws.{BaseFits}
use Rattle.pm_forest.proofs.ShapeLaws.{shape_of_nodes, bases_fit, left_fits, right_fits}
use Rattle.pm_prefix.specs.Prefix.{first_records, begins, begun_before, leaf_in}
use Rattle.pm_prefix.specs.Prefix.{root_in, face_in, new_face_in, record_in, base_in}
use Rattle.pm_prefix.specs.Laws.{IsAmong, BeginsWith}
use Rattle.pm_prefix.proofs.Nodes.{nodes_of_shape, node_within}
use Rattle.pm_prefix.proofs.FirstFronts.{ancestor_rest}

same_map : {X : Type 0} (f g : ℕ → X) (a n : ℕ) → ((x : ℕ) → a ≤ x → x < a + n → f x ≡ g x)
    → map f (range_with_len a n) ≡ map g (range_with_len a n)
same_map f g a zero same = refl
same_map f g a (suc n) same =
    rw (
      same a (omega arith) (omega arith),
      same_map f g (a + 1) n (λ x low high. same x (omega arith) (omega arith)),
    ) refl

-- The first m records are there, and the first n of them are taken.
module _ (h : Hierarchy) (shape : HasShape h) (m n : ℕ) (l : m ≤ record_count h) (few : n ≤ m) where
  abbrev early : Hierarchy
  early = cut h m

  interval_of-early : (v : ℕ) → v < t_of h m → interval_of early v ≡ interval_of h v
  interval_of-early v lt =
      interval_of-cut h m v l ∙ sym (interval-kept h m (record_count h) v l lt)

  child_of-early : (k x : ℕ) → k < m → child_of early k x ≡ child_of h k x
  unfolding holds
  child_of-early k x lt = rw (interval_of-early (t_of h k) (omega arith)) refl

  ancestor_after-early : (k x : ℕ) → k ≤ m
      → ancestor_after early (below n) k x ≡ ancestor_after h (below n) k x
  unfolding ancestor_after
  ancestor_after-early zero x lt = refl
  ancestor_after-early (suc k) x lt =
      rw (
        ancestor_after-early k x (omega arith),
        s_of-cut h m k lt,
        child_of-early k x lt,
      ) refl

  ancestor_at : (x : ℕ) → ancestor_of h (below n) x ≡ ancestor_after h (below n) m x
  ancestor_at x =
      let nodes = nodes_of_shape h shape in
      let among : IsAmong n (below n) = λ k e. ltb-true k n e in
      ancestor_rest h nodes n (omega arith) (below n) among (record_count h) x (omega arith)
      ∙ sym (ancestor_rest h nodes n (omega arith) (below n) among m x few)

  ancestor_of-early : (x : ℕ) → ancestor_of early (below n) x ≡ ancestor_of h (below n) x
  ancestor_of-early x =
      ap (λ k. ancestor_after early (below n) k x) (record_count-cut h m l)
      ∙ ancestor_after-early m x (omega arith) ∙ sym (ancestor_at x)

  begins-early : (x : ℕ) → x < leaf_count h → begins early n x ≡ begins h n x
  unfolding begins
  begins-early x lt =
      let v = ancestor_of h (below n) x in
      let there = ancestor-lt h (shape_of_nodes h shape) (below n) m x lt in
      let v_lt : v < t_of h m = omega (arith, ancestor_at x) in
      ap (λ w. eqb (interval_of early w).from x) (ancestor_of-early x)
      ∙ ap (λ i. eqb i.from x) (interval_of-early v v_lt)

  begun-early : (x : ℕ) → x ≤ leaf_count h → begun_before early n x ≡ begun_before h n x
  begun-early x lt =
      count_same (begins early n) (begins h n) x (λ i i_lt. begins-early i (omega arith))

  leaf_in-early : (x : ℕ) → x < leaf_count h → leaf_in early n x ≡ leaf_in h n x
  unfolding leaf_in
  leaf_in-early x lt = ap (λ c. c - 1) (begun-early (x + 1) (omega arith))

  -- A node's new interval: both its ends.
  from-early : (v : ℕ) → v < t_of h m
      → begun_before early n (interval_of h v).from ≡ begun_before h n (interval_of h v).from
  from-early v lt =
      let (a, b) = node_within h (nodes_of_shape h shape) v (omega arith) in
      begun-early (interval_of h v).from (omega arith)

  until-early : (v : ℕ) → v < t_of h m
      → begun_before early n (interval_of h v).until ≡ begun_before h n (interval_of h v).until
  until-early v lt =
      let (a, b) = node_within h (nodes_of_shape h shape) v (omega arith) in
      begun-early (interval_of h v).until b

  root-early : (v : ℕ) → v < length h.roots → root_in early n v ≡ root_in h n v
  unfolding root_in
  root-early v lt =
      let made : v < t_of h m = omega arith in
      rw (interval_of-early v made, from-early v made, until-early v made) refl

  abbrev HasLeaves : Face → Type 0
  HasLeaves x = (x.a < leaf_count h) × (x.b < leaf_count h) × (x.c < leaf_count h)

  face-early : (f : ℕ) (x : Face) → HasLeaves x → face_in early n f x ≡ face_in h n f x
  face-early f x leaves =
      rw (
        leaf_in-early x.a leaves.0,
        leaf_in-early x.b leaves.1,
        leaf_in-early x.c leaves.2,
      ) refl

  base-early : (f : ℕ) → f < length h.bases → base_in early n f ≡ base_in h n f
  unfolding base_in
  base-early f lt =
      let fits = All-get_or (BaseFits h.roots) h.bases f no_face_corners lt (bases_fit h shape) in
      face-early f (get_or h.bases f no_face_corners) (fits.a, fits.b, fits.c)

  new_face-early : (f : ℕ) (o : Option NewFace) → ((x : NewFace) → o ≡ Some x → HasLeaves x.face)
      → new_face_in early n f o ≡ new_face_in h n f o
  new_face-early f None leaves = refl
  new_face-early f (Some x) leaves =
      ap (λ y. Some (record x { face = y })) (face-early f x.face (leaves x refl))

  record-early : (k : ℕ) → k < n → record_in early n k ≡ record_in h n k
  unfolding record_in
  record-early k lt =
      let r = record_at h k in
      let first = first_face h k in
      let k_lt : k < record_count h = omega arith in
      let t : t_of h k < t_of h m = omega arith in
      let u : u_of h k < t_of h m = omega arith in
      let left = new_face-early first r.left
      (λ x is. let c = (left_fits h shape k k_lt x is).0.corners in (c.a, c.b, c.c)) in
      let right = new_face-early (first + one_if (is_some r.left)) r.right
      (λ x is. let c = (right_fits h shape k k_lt x is).0.corners in (c.a, c.b, c.c)) in
      rw (
        record_at-cut h m k (omega arith),
        first_face-cut h m k (omega arith),
        interval_of-early (t_of h k) t,
        from-early (t_of h k) t,
        until-early (t_of h k) t,
        interval_of-early (u_of h k) u,
        from-early (u_of h k) u,
        until-early (u_of h k) u,
        left,
        right,
      ) refl

  pub first_records-cut : first_records early n ≡ first_records h n
  first_records-cut =
      let roots = same_map (root_in early n) (root_in h n) 0 (length h.roots)
      (λ v low high. root-early v (omega arith)) in
      let bases = same_map (base_in early n) (base_in h n) 0 (length h.bases)
      (λ f low high. base-early f (omega arith)) in
      let records = same_map (record_in early n) (record_in h n) 0 n
      (λ k low high. record-early k (omega arith)) in
      rw (roots, bases, records) refl

-- What has begun is the whole, cut.
hierarchy_of : List Root → List Face → List Record → Hierarchy
hierarchy_of roots bases records = record { roots = roots; bases = bases; records = records }

is_cut : (h a : Hierarchy) → BeginsWith h a → a ≡ cut h (record_count a)
unfolding hierarchy_of
is_cut h a begun =
    ap (λ r. hierarchy_of r a.bases a.records) (sym begun.roots)
    ∙ ap (λ b. hierarchy_of h.roots b a.records) (sym begun.bases)
    ∙ ap (λ r. hierarchy_of h.roots h.bases r) (sym begun.records)

pub of_the_whole : (h a : Hierarchy) → HasShape h → BeginsWith h a → (n : ℕ) → n ≤ record_count a
    → first_records a n ≡ first_records h n
of_the_whole h a shape begun n few =
    let m = record_count a in
    let len : length (take m h.records) ≡ m = ap length begun.records in
    let cut_len = length-take m h.records in
    ap (λ g. first_records g n) (is_cut h a begun)
    ∙ first_records-cut h shape m n (omega arith) few
