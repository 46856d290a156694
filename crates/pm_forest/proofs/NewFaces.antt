-- What it means that a record's new face has no fault.
use Rattle.std.proofs.Common.{◌≡◌, ℕ, suc, ◌+◌, ◌-◌, ◌*◌, ◌<◌, ◌≤◌, leb, ltb, Bool, true, false}
use Rattle.std.proofs.lemmas.Grind.{common_steps}
use Rattle.std.proofs.Common.{cond, not, ◌||◌, None, is_some, refl, sym, ap, ◌∙◌, arith}
use Rattle.std.proofs.lemmas.Bool.{leb-false, ltb-false, or_parts, not-false}
use Rattle.pm_base.specs.Counts.{one_if}
use Rattle.pm_forest.specs.declared.parts.Face.{Face}
use Rattle.pm_forest.specs.declared.parts.Record.{Record}
use Rattle.pm_forest.specs.Forest.{Hierarchy, record_at, record_count, Interval, leaf_count, s_of}
use Rattle.pm_forest.specs.Forest.{t_of, u_of, interval_of, HasForestShape}
use Rattle.pm_forest.specs.Faces.{first_face, face_count}
use Rattle.pm_forest.specs.Rules.{with_record, runs, new_face_is_bad, new_face_fault}
use Rattle.pm_forest.proofs.Nodes.{interval-kept}
use Rattle.pm_forest.proofs.UnitLaws.{passed}
use Rattle.pm_forest.proofs.Corners.{CornersFit}
use Rattle.pm_forest.proofs.Prefix.{cut, cut-more, record_count-cut, interval_of-cut}
use Rattle.pm_forest.proofs.Prefix.{first_face-cut, face_count-cut, record_count-with_record}
use Rattle.pm_forest.proofs.Prefix.{s_of-with_record_last, first_face-with_record}
use Rattle.pm_forest.proofs.Prefix.{face_count-with_record}
use Rattle.pm_forest.proofs.SameSplit.{interval_of-same_split}

-- Record k with some of its faces, after those before it.
module _ (h : Hierarchy) (nodes : HasForestShape h) (k : ℕ) (l : k < record_count h) (q : Record)
    (node : q.s ≡ s_of h k) (width : q.width ≡ (record_at h k).width) where
  abbrev pub coming : Hierarchy
  coming = with_record (cut h k) q

  pub coming_count : record_count coming ≡ suc k
  coming_count = omega (arith, record_count-with_record (cut h k) q, record_count-cut h k)

  pub coming_s : s_of coming k ≡ s_of h k
  coming_s = ap (s_of coming) (sym (record_count-cut h k (omega arith)))
      ∙ s_of-with_record_last (cut h k) q ∙ node

  pub coming_interval : (v : ℕ) → v < t_of h (suc k) → interval_of coming v ≡ interval_of h v
  unfolding s_of
  coming_interval v m =
      interval_of-same_split (cut h k) q (record_at h k) node width v
      ∙ ap (λ g. interval_of g v) (sym (cut-more h k l))
      ∙ interval_of-cut h (suc k) v l
      ∙ sym (interval-kept h (suc k) (record_count h) v l m)

  pub coming_first_face : first_face coming k ≡ first_face h k
  coming_first_face = first_face-with_record (cut h k) q k (omega (arith, record_count-cut h k))
      ∙ first_face-cut h k k (omega arith)

  pub coming_face_count : face_count coming ≡ first_face h k + one_if (is_some q.left) + one_if
      (is_some q.right)
  coming_face_count =
      omega (arith, face_count-with_record (cut h k) q, face_count-cut h k (omega arith))

-- The corners of a new face of record k, running from p to q, and the words by which it names its
-- neighbours.
pub record NewFaceFits (h : Hierarchy) (k p q : ℕ) (f : Face) (first second : ℕ) : Type 0 where
  pub corners : CornersFit h p q (s_of h k) f
  pub first_older : first ≤ 3 * first_face h k
  pub second_older : second ≤ 3 * first_face h k

pub runs_as : (left : Bool) (i : ℕ → Interval) (t u : ℕ) (s : Interval) (f : Face) →
    cond left (runs (i t) (i u) s f) (runs (i u) (i t) s f)
    ≡ runs (i (cond left t u)) (i (cond left u t)) s f
runs_as true i t u s f = refl
runs_as false i t u s f = refl

pub new_face_fits : (h : Hierarchy) → HasForestShape h → (k : ℕ) → k < record_count h → (r : Record)
    →
    r.s ≡ s_of h k → r.width ≡ (record_at h k).width →
    (left : Bool) (f : Face) (first second : ℕ) →
    new_face_fault (with_record (cut h k) r) left f first second ≡ None →
    NewFaceFits h k (cond left (t_of h k) (u_of h k)) (cond left (u_of h k) (t_of h k)) f first
    second × (face_count (with_record (cut h k) r) < 1048576)
unfolding new_face_fault new_face_is_bad
new_face_fits h nodes k l r node width left f first second fits =
    let g = with_record (cut h k) r in
    let n = leaf_count h in
    let number : record_count g - 1 ≡ k = omega (arith, coming_count h nodes k l r node width) in
    let limit = 3 * first_face g (record_count g - 1) in
    let s = interval_of g (s_of g (record_count g - 1)) in
    let t = interval_of g (t_of g (record_count g - 1)) in
    let u = interval_of g (u_of g (record_count g - 1)) in
    let run = cond left (runs t u s f) (runs u t s f) in
    let tested = (passed (new_face_is_bad g left f first second) _ _ fits).0 in
    let p = or_parts (leb n f.a || leb n f.b || leb n f.c || not run || ltb limit first || ltb limit
    second) (leb 1048576 (face_count g)) tested in
    let q = or_parts (leb n f.a || leb n f.b || leb n f.c || not run || ltb limit first)
    (ltb limit second) p.0 in
    let v = or_parts (leb n f.a || leb n f.b || leb n f.c || not run) (ltb limit first) q.0 in
    let w = or_parts (leb n f.a || leb n f.b || leb n f.c) (not run) v.0 in
    let x = or_parts (leb n f.a || leb n f.b) (leb n f.c) w.0 in
    let y = or_parts (leb n f.a) (leb n f.b) x.0 in
    let is_s : interval_of g (s_of g k) ≡ interval_of h (s_of h k) =
    ap (interval_of g) (coming_s h nodes k l r node width)
    ∙ coming_interval h nodes k l r node width (s_of h k) (omega (arith, nodes.older k l)) in
    let is_t : interval_of g (t_of g k) ≡ interval_of h (t_of h k) =
    coming_interval h nodes k l r node width (t_of h k) (omega arith) in
    let is_u : interval_of g (u_of g k) ≡ interval_of h (u_of h k) =
    coming_interval h nodes k l r node width (u_of h k) (omega arith) in
    let ran = rw (number, is_s, is_t, is_u) at (not-false run w.1) in
    let older : limit ≡ 3 * first_face h k = grind (arith, common_steps, coming_first_face) in
    let fit_first = ltb-false limit first v.1 in
    let fit_second = ltb-false limit second q.1 in (
      record {
        corners = record {
          a = leb-false n f.a y.0;
          b = leb-false n f.b y.1;
          c = leb-false n f.c x.1;
          runs = sym (runs_as left (interval_of h) (t_of h k) (u_of h k) (interval_of h (s_of h k))
              f) ∙ ran;
        };
        first_older = omega arith;
        second_older = omega arith;
      },
      leb-false 1048576 (face_count g) p.1,
    )
