-- The units of the first records as a shaper takes them in.
use Rattle.std.proofs.Common.{◌≡◌, ℕ, suc, ◌+◌, ◌<◌, length, true, false, Option}
use Rattle.std.proofs.Common.{Bool, None, Some, is_some, refl, sym, ap, ◌∙◌, arith}
use Rattle.std.specs.Prelude.{IfSome}
use Rattle.pm_base.specs.Counts.{one_if}
use Rattle.pm_base.proofs.Counts.{one_if-le}
use Rattle.pm_forest.specs.declared.parts.Counts.{Counts}
use Rattle.pm_forest.specs.declared.parts.Head.{Head}
use Rattle.pm_forest.specs.declared.parts.NewFace.{NewFace}
use Rattle.pm_forest.specs.declared.parts.Record.{Record}
use Rattle.pm_forest.specs.Forest.{record_at, record_count, s_of, leaf_count}
use Rattle.pm_forest.specs.Faces.{first_face}
use Rattle.pm_forest.specs.Rules.{bare, left_only, with_record, word_of, new_face_fault, counts_of}
use Rattle.pm_forest.specs.Rules.{head_of, HasShape}
use Rattle.pm_forest.specs.Shaping.{Shaping, started}
use Rattle.pm_forest.proofs.FaceLists.{first_face-le}
use Rattle.pm_forest.proofs.NewFaces.{new_face_fits}
use Rattle.pm_forest.proofs.Prefix.{cut}
use Rattle.pm_forest.proofs.ShapeLaws.{record_count-roots}
use Rattle.pm_prefix.specs.declared.units.Prefix.{Prefix}
use Rattle.pm_prefix.specs.Prefix.{new_face_in, record_in}
use Rattle.pm_prefix.specs.Tables.{whole, hierarchy_by, IsPrefix, IsNew, IsDue, with_due}
use Rattle.pm_prefix.specs.Tables.{took_records}
use Rattle.pm_prefix.proofs.FeedLaws.{with_head, head_taken, left_due, right_due, record_taken}
use Rattle.pm_prefix.proofs.Parts.{root_count-first, base_count-first, record_count-first}
use Rattle.pm_prefix.proofs.Parts.{record_at-first}
use Rattle.pm_prefix.proofs.PrefixLaws.{few_nodes, units_of}
use Rattle.pm_prefix.proofs.Shape.{first_records_have_shape}

module _ (p : Prefix) (is : IsPrefix p) where
  pub shaped : HasShape (hierarchy_by p)
  shaped = first_records_have_shape p.forest.now.counts (whole p) is.begun p.n is.few

  pub counts_are : {leaves roots bases records : ℕ} → leaves ≡ roots + records
      → roots ≡ length (whole p).roots → bases ≡ length (whole p).bases → records ≡ p.n
      → ◌≡◌ {A = Counts} (record {
        leaves = leaves;
        roots = roots;
        bases = bases;
        records = records;
      }) (counts_of (hierarchy_by p))
  counts_are {leaves} {roots} {bases} {records} leaves_are roots_are bases_are records_are =
      let all = record_count-roots (hierarchy_by p) shaped in
      let root_len = root_count-first (whole p) p.n in
      let base_len = base_count-first (whole p) p.n in
      let record_len = record_count-first (whole p) p.n in
      let leaf_len : leaves ≡ leaf_count (hierarchy_by p) = omega arith in
      rw (leaf_len, roots_are, bases_are, records_are, root_len, base_len, record_len) refl

  -- The faces of record k
  module _ (k : ℕ) (l : k < p.n) where
    there : k < record_count (whole p)
    there = let few = is.few in omega arith

    few_faces : first_face (whole p) k + 1 < 3145728
    few_faces =
        let nodes = few_nodes p is in
        let bases = (units_of p is).base_most in
        let few = is.few in
        let le = first_face-le (whole p) k in
        omega arith

    new_from : (q : Record) → q.s ≡ s_of (whole p) k → q.width ≡ (record_at (whole p) k).width
        → (left : Bool) (x : NewFace)
        → new_face_fault (with_record (cut (whole p) k) q) left x.face (word_of x.first)
        (word_of x.second) ≡ None → IsNew (whole p) x
    new_from q s_is width_is left x fits =
        let both = new_face_fits (whole p) (units_of p is).forest k there q s_is width_is left
        x.face (word_of x.first) (word_of x.second) fits in
        let few = few_faces in
        let new = both.0 in
        record {
          corners = record { a = new.corners.a; b = new.corners.b; c = new.corners.c };
          first = omega (arith, new.first_older);
          second = omega (arith, new.second_older);
        }

    left_new : (o : Option NewFace) → (record_at (whole p) k).left ≡ o
        → IfSome o (IsNew (whole p))
    unfolding s_of
    left_new None e = tt
    left_new (Some x) e =
        new_from (bare (record_at (whole p) k)) refl refl true x
        (rw e at ((units_of p is).records k there).left)

    right_new : (o : Option NewFace) → (record_at (whole p) k).right ≡ o
        → IfSome o (IsNew (whole p))
    unfolding s_of
    right_new None e = tt
    right_new (Some x) e =
        new_from (left_only (record_at (whole p) k)) refl refl false x
        (rw e at ((units_of p is).records k there).right)

    pub new_left : {x : Record} → x ≡ record_at (whole p) k → IfSome x.left (IsNew (whole p))
    new_left {x} at = left_new x.left (ap (λ (r : Record). r.left) (sym at))

    pub new_right : {x : Record} → x ≡ record_at (whole p) k → IfSome x.right (IsNew (whole p))
    new_right {x} at = right_new x.right (ap (λ (r : Record). r.right) (sym at))

    -- The numbers of the faces

    pub few_left : {f : ℕ} → f ≡ first_face (whole p) k → f < 3145728
    few_left {f} e = let few = few_faces in omega arith

    pub few_right : {f g : ℕ} (left : Option NewFace) → f ≡ first_face (whole p) k
        → g ≡ f + one_if (is_some left) → g < 3145728
    few_right {f} {g} left e next =
        let few = few_faces in omega (arith, one_if-le (is_some left))

    pub next_face_is : {f g h : ℕ} {x : Record} → f ≡ first_face (whole p) k
        → x ≡ record_at (whole p) k → g ≡ f + one_if (is_some x.left)
        → h ≡ g + one_if (is_some x.right) → h ≡ first_face (whole p) (k + 1)
    unfolding first_face
    next_face_is {f} {g} {h} {x} e at left right =
        let step : k + 1 ≡ suc k = omega arith in
        rw (step, right, left, e, at) refl

    -- The record as the shaper takes it in

    left_is : (record_at (hierarchy_by p) k).left
        ≡ new_face_in (whole p) p.n (first_face (whole p) k) (record_at (whole p) k).left
    unfolding record_in
    left_is = ap (λ (r : Record). r.left) (record_at-first (whole p) p.n k l)

    right_is : (record_at (hierarchy_by p) k).right
        ≡ new_face_in (whole p) p.n
        (first_face (whole p) k + one_if (is_some (record_at (whole p) k).left))
        (record_at (whole p) k).right
    unfolding record_in
    right_is = ap (λ (r : Record). r.right) (record_at-first (whole p) p.n k l)

    inside : k < record_count (hierarchy_by p)
    inside = omega (arith, record_count-first (whole p) p.n)

    pub head_fed : {s : Shaping} {d : Head} → s ≡ took_records (hierarchy_by p) k
        → d ≡ head_of (record_in (whole p) p.n k)
        → record s { coming = Some (started d) } ≡ with_head (hierarchy_by p) k
    head_fed {s} {d} s_is d_is =
        head_taken (hierarchy_by p) shaped k inside s_is
        (d_is ∙ ap head_of (sym (record_at-first (whole p) p.n k l)))

    pub left_fed : {s : Shaping} {f : ℕ} {x : Record} → s ≡ with_head (hierarchy_by p) k
        → f ≡ first_face (whole p) k → x ≡ record_at (whole p) k
        → IfSome (new_face_in (whole p) p.n f x.left) (IsDue s)
    left_fed {s} {f} {x} s_is f_is at =
        rw (s_is, f_is, at) (left_due (hierarchy_by p) shaped k inside _ left_is)

    pub right_fed : {s t : Shaping} {f g : ℕ} {x : Record} → s ≡ with_head (hierarchy_by p) k
        → f ≡ first_face (whole p) k → x ≡ record_at (whole p) k
        → t ≡ with_due s (new_face_in (whole p) p.n f x.left) → g ≡ f + one_if (is_some x.left)
        → IfSome (new_face_in (whole p) p.n g x.right) (IsDue t)
    right_fed {s} {t} {f} {g} {x} s_is f_is at t_is g_is =
        rw (t_is, g_is, s_is, f_is, at)
        (right_due (hierarchy_by p) shaped k inside _ _ left_is right_is)

    pub record_fed : {s t w : Shaping} {f g : ℕ} {x : Record} → s ≡ with_head (hierarchy_by p) k
        → f ≡ first_face (whole p) k → x ≡ record_at (whole p) k
        → t ≡ with_due s (new_face_in (whole p) p.n f x.left) → g ≡ f + one_if (is_some x.left)
        → w ≡ with_due t (new_face_in (whole p) p.n g x.right)
        → w ≡ took_records (hierarchy_by p) (k + 1)
    record_fed {s} {t} {w} {f} {g} {x} s_is f_is at t_is g_is w_is =
        rw (w_is, t_is, g_is, s_is, f_is, at)
        (record_taken (hierarchy_by p) shaped k inside _ _ left_is right_is)
