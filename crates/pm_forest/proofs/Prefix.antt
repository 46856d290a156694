-- A hierarchy cut after its first records, and a hierarchy with one record more: what they share
-- with the whole.
use Rattle.std.proofs.Common.{◌≡◌, ◌≢◌, ℕ, zero, suc, ◌+◌, ◌<◌, ◌≤◌, eqb, leb, Bool, cond, List, []}
use Rattle.std.proofs.lemmas.Grind.{common_steps}
use Rattle.std.proofs.Common.{◌∷◌, ◌++◌, length, take, Some, is_some, refl, sym, ap, ◌∙◌, arith}
use Rattle.std.proofs.Common.{append_assoc}
use Rattle.std.proofs.lemmas.Bool.{eq-eqb, ne_eqb}
use Rattle.std.proofs.lemmas.List.{get_or-take, get_or_append_left, get_or_push, length_push}
use Rattle.std.proofs.lemmas.List.{length-take-le, take_more, append-nil}
use Rattle.std.specs.List.{flat_map}
use Rattle.pm_base.specs.Sides.{find_below}
use Rattle.pm_base.specs.Counts.{one_if}
use Rattle.pm_forest.specs.declared.parts.Record.{Record}
use Rattle.pm_forest.specs.Forest.{Hierarchy, no_record, record_at, record_count, s_of, t_of, u_of}
use Rattle.pm_forest.specs.Forest.{node_count, first_part, rest, interval_after, interval_of}
use Rattle.pm_forest.specs.Forest.{splitter_of}
use Rattle.pm_forest.specs.Faces.{faces_in, faces_of, first_face, face_count, revealed_after}
use Rattle.pm_forest.specs.Faces.{revealed_by}
use Rattle.pm_forest.specs.Rules.{with_record}
use Rattle.pm_forest.proofs.Nodes.{interval-kept}

-- The hierarchy with its first k records alone.
abbrev pub cut : Hierarchy → ℕ → Hierarchy
cut h k = record h { records = take k h.records }

-- Two hierarchies with the same roots: the first k records split the same nodes in the same way.
pub record SplitsAlike (g h : Hierarchy) (k : ℕ) : Type 0 where
  pub roots : g.roots ≡ h.roots
  pub node : (j : ℕ) → j < k → s_of g j ≡ s_of h j
  pub width : (j : ℕ) → j < k → (record_at g j).width ≡ (record_at h j).width

pub interval_after-alike : (g h : Hierarchy) (k : ℕ) → SplitsAlike g h k → (v : ℕ) →
    interval_after g k v ≡ interval_after h k v
unfolding interval_after
interval_after-alike g h zero same v = rw same.roots refl
interval_after-alike g h (suc k) same v =
    let fewer : SplitsAlike g h k = record {
      roots = same.roots;
      node = λ j l. same.node j (omega arith);
      width = λ j l. same.width j (omega arith);
    } in
    let node = same.node k (omega arith) in
    let width = same.width k (omega arith) in
    rw (
      node,
      width,
      interval_after-alike g h k fewer (s_of h k),
      interval_after-alike g h k fewer
          v,
      same.roots,
    ) refl

-- Two hierarchies with as many base faces: the first k records bring in as many faces.
pub record RevealsAlike (g h : Hierarchy) (k : ℕ) : Type 0 where
  pub bases : length g.bases ≡ length h.bases
  pub left : (j : ℕ) → j < k → is_some (record_at g j).left ≡ is_some (record_at h j).left
  pub right : (j : ℕ) → j < k → is_some (record_at g j).right ≡ is_some (record_at h j).right

fewer_reveals : (g h : Hierarchy) (k : ℕ) → RevealsAlike g h (suc k) → RevealsAlike g h k
fewer_reveals g h k same = record {
  bases = same.bases;
  left = λ j l. same.left j (omega arith);
  right = λ j l. same.right j (omega arith);
}

pub first_face-alike : (g h : Hierarchy) (k : ℕ) → RevealsAlike g h k
    → first_face g k ≡ first_face h k
unfolding first_face
first_face-alike g h zero same = same.bases
first_face-alike g h (suc k) same =
    rw (
      first_face-alike g h k (fewer_reveals g h k same),
      same.left k (omega arith),
      same.right k (omega arith),
    ) refl

pub revealed_after-alike : (g h : Hierarchy) (k : ℕ) → RevealsAlike g h k → (f : ℕ) →
    revealed_after g k f ≡ revealed_after h k f
unfolding revealed_after
revealed_after-alike g h zero same f = refl
revealed_after-alike g h (suc k) same f =
    let fewer = fewer_reveals g h k same in
    rw (first_face-alike g h k fewer, revealed_after-alike g h k fewer f) refl

pub find_below-alike : (p q : ℕ → Bool) (n : ℕ) → ((k : ℕ) → k < n → p k ≡ q k)
    → find_below p n ≡ find_below q n
find_below-alike p q zero same = refl
find_below-alike p q (suc n) same =
    rw (same n (omega arith), find_below-alike p q n (λ k l. same k (omega arith))) refl

-- Cut after k records

pub record_count-cut : (h : Hierarchy) (k : ℕ) → k ≤ record_count h → record_count (cut h k) ≡ k
record_count-cut h k l = length-take-le k h.records l

pub record_at-cut : (h : Hierarchy) (k j : ℕ) → j < k → record_at (cut h k) j ≡ record_at h j
record_at-cut h k j l = get_or-take k h.records j no_record l

pub s_of-cut : (h : Hierarchy) (k j : ℕ) → j < k → s_of (cut h k) j ≡ s_of h j
unfolding s_of
s_of-cut h k j l = ap (λ r. r.s) (record_at-cut h k j l)

cut_splits_alike : (h : Hierarchy) (k j : ℕ) → j ≤ k → SplitsAlike (cut h k) h j
cut_splits_alike h k j l = grind (arith, common_steps, record_at-cut, s_of-cut)

cut_reveals_alike : (h : Hierarchy) (k j : ℕ) → j ≤ k → RevealsAlike (cut h k) h j
cut_reveals_alike h k j l = grind (arith, common_steps, is_some, record_at-cut)

pub interval_after-cut : (h : Hierarchy) (k j v : ℕ) → j ≤ k
    → interval_after (cut h k) j v ≡ interval_after h j v
interval_after-cut h k j v l = interval_after-alike (cut h k) h j (cut_splits_alike h k j l) v

pub interval_of-cut : (h : Hierarchy) (k v : ℕ) → k ≤ record_count h
    → interval_of (cut h k) v ≡ interval_after h k v
interval_of-cut h k v l =
    ap (λ n. interval_after (cut h k) n v) (record_count-cut h k l)
    ∙ interval_after-cut h k k v (omega arith)

pub first_face-cut : (h : Hierarchy) (k j : ℕ) → j ≤ k → first_face (cut h k) j ≡ first_face h j
first_face-cut h k j l = first_face-alike (cut h k) h j (cut_reveals_alike h k j l)

pub face_count-cut : (h : Hierarchy) (k : ℕ) → k ≤ record_count h
    → face_count (cut h k) ≡ first_face h k
face_count-cut h k l =
    ap (first_face (cut h k)) (record_count-cut h k l) ∙ first_face-cut h k k (omega arith)

-- the record that comes next gives the hierarchy that is cut after it
pub cut-more : (h : Hierarchy) (k : ℕ) → k < record_count h
    → cut h (suc k) ≡ with_record (cut h k) (record_at h k)
cut-more h k l = grind (arith, common_steps, take_more)

-- One record more

pub record_count-with_record : (h : Hierarchy) (r : Record)
    → record_count (with_record h r) ≡ suc (record_count h)
record_count-with_record h r = length_push h.records r ∙ omega arith

pub record_at-with_record : (h : Hierarchy) (r : Record) (j : ℕ) → j < record_count h
    → record_at (with_record h r) j ≡ record_at h j
record_at-with_record h r j l = get_or_append_left h.records (r ∷ []) no_record j l

pub record_at-with_record_last : (h : Hierarchy) (r : Record)
    → record_at (with_record h r) (record_count h) ≡ r
record_at-with_record_last h r = get_or_push h.records r no_record (record_count h) refl

pub s_of-with_record : (h : Hierarchy) (r : Record) (j : ℕ) → j < record_count h
    → s_of (with_record h r) j ≡ s_of h j
unfolding s_of
s_of-with_record h r j l = ap (λ q. q.s) (record_at-with_record h r j l)

pub s_of-with_record_last : (h : Hierarchy) (r : Record) → s_of (with_record h r) (record_count h)
    ≡ r.s
unfolding s_of
s_of-with_record_last h r = ap (λ q. q.s) (record_at-with_record_last h r)

with_record_splits_alike : (h : Hierarchy) (r : Record) (k : ℕ) → k ≤ record_count h →
    SplitsAlike (with_record h r) h k
with_record_splits_alike h r k l =
    grind (arith, common_steps, record_at-with_record, s_of-with_record)

with_record_reveals_alike : (h : Hierarchy) (r : Record) (k : ℕ) → k ≤ record_count h →
    RevealsAlike (with_record h r) h k
with_record_reveals_alike h r k l = grind (arith, common_steps, is_some, record_at-with_record)

pub interval_after-with_record : (h : Hierarchy) (r : Record) (k v : ℕ) → k ≤ record_count h →
    interval_after (with_record h r) k v ≡ interval_after h k v
interval_after-with_record h r k v l =
    interval_after-alike (with_record h r) h k (with_record_splits_alike h r k l) v

-- the nodes that were there keep their intervals
pub interval_of-with_record : (h : Hierarchy) (r : Record) (v : ℕ) → v < node_count h →
    interval_of (with_record h r) v ≡ interval_of h v
interval_of-with_record h r v l =
    interval-kept (with_record h r) (record_count h) (record_count (with_record h r)) v
    (omega (arith, record_count-with_record h r)) l
    ∙ interval_after-with_record h r (record_count h) v (omega arith)

-- and the leaves of the node that is split go to its children
pub interval_of-with_record_t : (h : Hierarchy) (r : Record) →
    interval_of (with_record h r) (t_of h (record_count h)) ≡ first_part (interval_of h r.s) r.width
unfolding interval_after
interval_of-with_record_t h r =
    let n = record_count h in
    let node = s_of-with_record_last h r in
    let last = record_at-with_record_last h r in
    let old = interval_after-with_record h r n r.s (omega arith) in
    ap (λ k. interval_after (with_record h r) k (t_of h n)) (record_count-with_record h r)
    ∙ rw (eq-eqb (t_of h n) (t_of h n) refl, node, last, old) refl

pub interval_of-with_record_u : (h : Hierarchy) (r : Record) →
    interval_of (with_record h r) (u_of h (record_count h)) ≡ rest (interval_of h r.s) r.width
unfolding interval_after
interval_of-with_record_u h r =
    let n = record_count h in
    let node = s_of-with_record_last h r in
    let last = record_at-with_record_last h r in
    let old = interval_after-with_record h r n r.s (omega arith) in
    let differs : u_of h n ≢ t_of h n = omega arith in
    ap (λ k. interval_after (with_record h r) k (u_of h n)) (record_count-with_record h r)
    ∙ rw (ne_eqb (u_of h n) (t_of h n) differs, eq-eqb (u_of h n) (u_of h n) refl, node, last, old)
    refl

pub splitter_of-with_record : (h : Hierarchy) (r : Record) (v : ℕ) →
    splitter_of (with_record h r) v ≡ cond (eqb r.s v) (Some (record_count h)) (splitter_of h v)
unfolding splitter_of
splitter_of-with_record h r v =
    let splits = λ (j : ℕ). eqb (s_of h j) v in
    let splits' = λ (j : ℕ). eqb (s_of (with_record h r) j) v in
    let earlier =
    find_below-alike splits' splits (record_count h)
    (λ j m. ap (λ s. eqb s v) (s_of-with_record h r j m)) in
    ap (find_below splits') (record_count-with_record h r)
    ∙ rw (s_of-with_record_last h r, earlier) refl

pub first_face-with_record : (h : Hierarchy) (r : Record) (k : ℕ) → k ≤ record_count h →
    first_face (with_record h r) k ≡ first_face h k
first_face-with_record h r k l =
    first_face-alike (with_record h r) h k (with_record_reveals_alike h r k l)

pub face_count-with_record : (h : Hierarchy) (r : Record) →
    face_count (with_record h r) ≡ face_count h + one_if (is_some r.left) + one_if (is_some r.right)
unfolding first_face
face_count-with_record h r =
    ap (first_face (with_record h r)) (record_count-with_record h r)
    ∙ rw (first_face-with_record h r (record_count h) (omega arith), record_at-with_record_last h r)
    refl

pub revealed_by-with_record : (h : Hierarchy) (r : Record) (f : ℕ) →
    revealed_by (with_record h r) f ≡ cond (leb (face_count h) f) (Some (record_count h))
    (revealed_by h f)
unfolding revealed_after
revealed_by-with_record h r f =
    let n = record_count h in
    let earlier =
    revealed_after-alike (with_record h r) h n (with_record_reveals_alike h r n (omega arith))
    f in
    ap (λ k. revealed_after (with_record h r) k f) (record_count-with_record h r)
    ∙ rw (first_face-with_record h r n (omega arith), earlier) refl

flat_map-push : {X A : Type 0} (f : X → List A) (xs : List X) (x : X) →
    flat_map f (xs ++ x ∷ []) ≡ flat_map f xs ++ f x
flat_map-push f [] x = append-nil (f x)
flat_map-push f (y ∷ xs) x =
    rw (flat_map-push f xs x) (sym (append_assoc (f y) (flat_map f xs) (f x)))

pub faces_of-with_record : (h : Hierarchy) (r : Record) → faces_of (with_record h r) ≡ faces_of h
    ++ faces_in r
unfolding faces_of
faces_of-with_record h r =
    rw (flat_map-push faces_in h.records r)
    (sym (append_assoc h.bases (flat_map faces_in h.records) (faces_in r)))
