-- The next record of a hierarchy that is cut before it: when its split and its new faces have no
-- fault.
use Rattle.std.proofs.Common.{◌≡◌, ℕ, zero, suc, ◌*◌, ◌-◌, ◌<◌, eqb, Bool, false}
use Rattle.std.proofs.Common.{cond, None, refl, sym}
use Rattle.std.proofs.Common.{ap, ◌∙◌, arith}
use Rattle.std.proofs.lemmas.Bool.{ne_eqb, lt-leb, le-ltb}
use Rattle.pm_base.specs.Sides.{find_below}
use Rattle.pm_forest.specs.declared.parts.Face.{Face}
use Rattle.pm_forest.specs.declared.parts.Record.{Record}
use Rattle.pm_forest.specs.Forest.{Hierarchy, record_at, record_count, leaf_count, s_of}
use Rattle.pm_forest.specs.Forest.{t_of, u_of, interval_of, splitter_of, HasForestShape}
use Rattle.pm_forest.specs.Faces.{first_face, face_count, faces_of}
use Rattle.pm_forest.specs.Rules.{face_input_is_bad, face_inputs}
use Rattle.pm_forest.specs.Rules.{split_is_bad}
use Rattle.pm_forest.specs.Rules.{new_face_is_bad, new_face_fault}
use Rattle.pm_forest.specs.Rules.{with_record}
use Rattle.pm_forest.specs.Shaping.{SplitFits}
use Rattle.pm_forest.proofs.Nodes.{interval-kept}
use Rattle.pm_forest.proofs.Prefix.{cut, record_count-cut, s_of-cut, interval_of-cut}
use Rattle.pm_forest.proofs.NewFaces.{NewFaceFits, coming_count, coming_s, coming_interval}
use Rattle.pm_forest.proofs.NewFaces.{coming_first_face, runs_as}
use Rattle.pm_prefix.proofs.ShapeTests.{split_passes}

none_below : (p : ℕ → Bool) (n : ℕ) → ((j : ℕ) → j < n → p j ≡ false) → find_below p n ≡ None
none_below p zero none = refl
none_below p (suc n) none =
    rw (none n (omega arith)) (none_below p n (λ j l. none j (omega arith)))

module _ (g : Hierarchy) (nodes : HasForestShape g) (k : ℕ) (l : k < record_count g) where
  pub same_interval : interval_of (cut g k) (s_of g k) ≡ interval_of g (s_of g k)
  same_interval =
      let older = nodes.older k l in
      interval_of-cut g k (s_of g k) (omega arith)
      ∙ sym (interval-kept g k (record_count g) (s_of g k) (omega arith) older)

  not_split : splitter_of (cut g k) (s_of g k) ≡ None
  unfolding splitter_of
  not_split =
      let p : ℕ → Bool = λ j. eqb (s_of (cut g k) j) (s_of g k) in
      let count = record_count-cut g k (omega arith) in
      none_below p (record_count (cut g k))
      (λ j m. rw (s_of-cut g k j (omega arith)) (ne_eqb _ _ (nodes.once j k (omega arith) l)))

  pub split_again : SplitFits (cut g k) (s_of g k) (record_at g k).width
  split_again =
      let width = nodes.width k l in
      let older = nodes.older k l in
      let count = record_count-cut g k (omega arith) in
      record {
        node = omega arith;
        unsplit = not_split;
        first = width.0;
        rest = rw same_interval width.1;
      }

  pub split_not_bad : split_is_bad (cut g k) (s_of g k) (record_at g k).width ≡ false
  split_not_bad = split_passes (cut g k) (s_of g k) (record_at g k).width split_again

  pub new_face_unfaulted : (q : Record) → q.s ≡ s_of g k → q.width ≡ (record_at g k).width →
      (left : Bool) (f : Face) (first second : ℕ) →
      NewFaceFits g k (cond left (t_of g k) (u_of g k)) (cond left (u_of g k) (t_of g k)) f first
      second → face_count (with_record (cut g k) q) < 1048576 →
      face_input_is_bad (face_inputs (faces_of (with_record (cut g k) q))) f.input ≡ false →
      new_face_fault (with_record (cut g k) q) left f first second ≡ None
  unfolding new_face_fault new_face_is_bad
  new_face_unfaulted q node width left f first second fits most input =
      let c = with_record (cut g k) q in
      let older = nodes.older k l in
      let corners = fits.corners in
      let number : record_count c - 1 ≡ k = omega (arith, coming_count g nodes k l q node width) in
      let is_s : interval_of c (s_of c k) ≡ interval_of g (s_of g k) =
      ap (interval_of c) (coming_s g nodes k l q node width)
      ∙ coming_interval g nodes k l q node width (s_of g k) (omega arith) in
      let is_t : interval_of c (t_of c k) ≡ interval_of g (t_of g k) =
      coming_interval g nodes k l q node width (t_of g k) (omega arith) in
      let is_u : interval_of c (u_of c k) ≡ interval_of g (u_of g k) =
      coming_interval g nodes k l q node width (u_of g k) (omega arith) in
      let ran = runs_as left (interval_of g) (t_of g k) (u_of g k) (interval_of g (s_of g k)) f
      ∙ corners.runs in
      rw (
        number,
        is_s,
        is_t,
        is_u,
        coming_first_face g nodes k l q node width,
        ran,
        lt-leb (leaf_count g) f.a corners.a,
        lt-leb (leaf_count g) f.b corners.b,
        lt-leb (leaf_count g) f.c corners.c,
        le-ltb (3 * first_face g k) first fits.first_older,
        le-ltb (3 * first_face g k) second fits.second_older,
        lt-leb 1048576 (face_count c) most,
        input,
      ) refl
