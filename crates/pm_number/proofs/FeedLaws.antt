-- What a shaper has taken in of the hierarchy of a run, one unit more at a time.
use Rattle.std.proofs.Common.{◌≡◌, ℕ, ◌+◌, ◌*◌, ◌<◌, ◌⊎◌, eqb, Bool, true, false, not}
use Rattle.std.proofs.Common.{[], ◌∷◌, ◌++◌}
use Rattle.std.proofs.Common.{length, get_or, Option, None, Some, is_some, inl, inr, refl, sym}
use Rattle.std.proofs.Common.{ap, ◌∙◌, arith}
use Rattle.std.proofs.lemmas.Grind.{common_steps}
use Rattle.std.proofs.lemmas.Bool.{lt-ltb, le-ltb}
use Rattle.std.proofs.lemmas.Option.{none-some}
use Rattle.std.proofs.lemmas.List.{length-map, length-take-le, take_more}
use Rattle.std.specs.Prelude.{IfSome, if◌then◌else◌}
use Rattle.pm_base.specs.Counts.{one_if}
use Rattle.pm_base.specs.Place.{is_place}
use Rattle.pm_base.specs.declared.log.Gone.{Gone}
use Rattle.pm_forest.specs.declared.parts.Root.{Root}
use Rattle.pm_forest.specs.declared.parts.Face.{Face}
use Rattle.pm_forest.specs.declared.parts.Head.{Head}
use Rattle.pm_forest.specs.declared.parts.NewFace.{NewFace}
use Rattle.pm_forest.specs.declared.parts.Record.{Record}
use Rattle.pm_forest.specs.declared.parts.Shape.{Shape}
use Rattle.pm_forest.specs.declared.parts.UnitKind.TheVariants as kinds
use Rattle.pm_forest.specs.Forest.{Hierarchy, record_at, record_count}
use Rattle.pm_forest.specs.Faces.{no_face_corners}
use Rattle.pm_forest.specs.Places.{no_root}
use Rattle.pm_forest.specs.Rules.{root_fault, base_fault, head_of, head_fault, presence_is_bad}
use Rattle.pm_forest.specs.Rules.{new_face_fault, bare, left_only, with_record, word_of, counts_of}
use Rattle.pm_forest.specs.Shaping.{Shaping, expects, so_far, next_face, started, settled}
use Rattle.pm_forest.specs.Shaping.{with_face}
use Rattle.pm_forest.proofs.Prefix.{cut, cut-more}
use Rattle.pm_forest.proofs.FacesTaken.{side_of-word}
use Rattle.pm_number.specs.declared.tables.Numbers.{Numbers}
use Rattle.pm_number.specs.Stages.{Run, steps, IsGone, IsMerging}
use Rattle.pm_base.specs.Sides.{Net}
use Rattle.pm_number.specs.Numbering.{step_of, numbered_gone, hierarchy_of, left_over, base_faces}
use Rattle.pm_number.specs.Numbering.{place_number, numbered_face}
use Rattle.pm_number.specs.Tables.{run_by, hierarchy_by, AreNumbers, IsSmallRun, took_roots}
use Rattle.pm_number.specs.Tables.{took_bases, first_records, took_records, IsAmong, IsDue}
use Rattle.pm_number.specs.Tables.{with_due}
use Rattle.pm_number.proofs.NodeNumbers.{root-count, record-at, count}
use Rattle.pm_number.proofs.FacePositions.{gone-lt}
use Rattle.pm_number.proofs.FaceFitting.{base_fits}
use Rattle.pm_number.proofs.NewFaceFitting.{left_fits, right_fits}
use Rattle.pm_number.proofs.Fitting.{presence_fits, root_fits, head_fits}

-- Roots

pub root_len : {n : Numbers} → AreNumbers n → length n.left.items ≡ length (hierarchy_by n).roots
root_len {n} own = ap length own.left_is ∙ sym (root-count (run_by n))

pub expects_root : (h : Hierarchy) (i : ℕ) {s : Shaping} → s ≡ took_roots h i → i < length h.roots
    → expects s ≡ kinds.Root
expects_root h i {s} is l = grind (arith, common_steps, length-take-le, lt-ltb)

pub root_passes : (r : Run) (i : ℕ) {s : Shaping} {x : Root} {e : Shape} → IsMerging r
    → i < length (hierarchy_of r).roots
    → is_place (place_number r (get_or (left_over r) i 0)) ≡ true
    → s ≡ took_roots (hierarchy_of r) i → x ≡ get_or (hierarchy_of r).roots i no_root
    → root_fault s.counts s.h.roots x ≡ Some e → ⊥
root_passes r i {s} {x} {e} run l place is x_is fault =
    let fits = root_fits r run i (omega (arith, root-count r)) place in
    none-some e (sym (rw (is, x_is) fits) ∙ fault)

pub root_taken : (h : Hierarchy) (i : ℕ) {s : Shaping} {x : Root} → s ≡ took_roots h i
    → i < length h.roots → x ≡ get_or h.roots i no_root
    → record s { h = record s.h { roots = s.h.roots ++ x ∷ [] } } ≡ took_roots h (i + 1)
root_taken h i {s} {x} is l x_is = grind (arith, common_steps, take_more)

-- Base faces

pub base_len : {n : Numbers} → AreNumbers n → length n.bases.items ≡ length (hierarchy_by n).bases
base_len {n} own =
    ap length own.bases_are ∙ sym (length-map (base_faces (run_by n)) (numbered_face (run_by n)))

pub expects_base : (h : Hierarchy) (i : ℕ) {s : Shaping} → s ≡ took_bases h i → i < length h.bases
    → expects s ≡ kinds.Base
expects_base h i {s} is l = grind (arith, common_steps, le-ltb, length-take-le, lt-ltb)

pub base_passes : (r : Run) (i : ℕ) {s : Shaping} {x : Face} {e : Shape} → IsSmallRun r
    → i < length (hierarchy_of r).bases → s ≡ took_bases (hierarchy_of r) i
    → x ≡ get_or (hierarchy_of r).bases i no_face_corners
    → base_fault s.h.roots s.h.bases x ≡ Some e → ⊥
base_passes r i {s} {x} {e} small l is x_is fault =
    let fits = base_fits r small.merging small.few_faces i l in
    none-some e (sym (rw (is, x_is) fits) ∙ fault)

pub base_taken : (h : Hierarchy) (i : ℕ) {s : Shaping} {x : Face} → s ≡ took_bases h i
    → i < length h.bases → x ≡ get_or h.bases i no_face_corners
    → record s { h = record s.h { bases = s.h.bases ++ x ∷ [] } } ≡ took_bases h (i + 1)
base_taken h i {s} {x} is l x_is = grind (arith, common_steps, take_more)

-- Records

-- A shaper that has the first k records, and the head of record k.
abbrev pub with_head : Hierarchy → ℕ → Shaping
with_head h k = let x = record_at h k in record {
  counts = counts_of h;
  h = first_records h k;
  coming = Some (record {
    split = bare x;
    left_due = is_some x.left;
    right_due = is_some x.right;
  });
}

due_is : (l r : Option NewFace) → presence_is_bad (one_if (is_some l) + 2 * one_if (is_some r))
    ≡ false →
    (not (eqb (one_if (is_some l) + 2 * one_if (is_some r)) 2) ≡ is_some l)
    × (not (eqb (one_if (is_some l) + 2 * one_if (is_some r)) 1) ≡ is_some r)
due_is None None bad = absurd cc
due_is None (Some n) bad = (refl, refl)
due_is (Some m) None bad = (refl, refl)
due_is (Some m) (Some n) bad = (refl, refl)

started_is : (x : Record) → presence_is_bad (head_of x).presence ≡ false
    → started (head_of x) ≡ record {
      split = bare x;
      left_due = is_some x.left;
      right_due =
          is_some x.right;
    }
started_is x fits = let due = due_is x.left x.right fits in rw (due.0, due.1) refl

-- New faces

-- a shaper that waits for a face expects one
pub expects_due : {s : Shaping} {n : NewFace} → IsDue s n
    → (expects s ≡ kinds.LeftFace) ⊎ (expects s ≡ kinds.RightFace)
expects_due {s} {n} due = rw due.is (expects_side due.coming.left_due)
  where
    expects_side : (left : Bool) →
        ((if left then kinds.LeftFace else kinds.RightFace) ≡ kinds.LeftFace)
        ⊎ ((if left then kinds.LeftFace else kinds.RightFace) ≡ kinds.RightFace)
    expects_side true = inl refl
    expects_side false = inr refl

pub due_passes : {s : Shaping} {n : NewFace} (e : Shape) → IsDue s n
    → IfSome s.coming
    (λ p. new_face_fault (so_far s.h s.coming) p.left_due n.face (word_of n.first)
    (word_of n.second) ≡ Some e) → ⊥
due_passes {s} {n} e due fault =
    none-some e (sym (rw due.is at due.fits) ∙ rw due.is at fault)

pub due_taken : {s new : Shaping} (n : NewFace) → IsDue s n
    → IfSome s.coming
    (λ p. new ≡ settled s.counts s.h
    (with_face p (next_face n.face (word_of n.first) (word_of n.second))))
    → new ≡ with_due s (Some n)
due_taken {s} {new} n due taken =
    rw due.is (rw (due.is, side_of-word n.first, side_of-word n.second) at taken)

-- the faces of a record are due once its head is there, and then the record is there
module _ (h : Hierarchy) (k : ℕ) where
  abbrev x : Record
  x = record_at h k

  due_left : (o : Option NewFace) → x.left ≡ o
      → ((n : NewFace) → x.left ≡ Some n →
      new_face_fault (with_record (cut h k) (bare x)) true n.face (word_of n.first)
      (word_of n.second) ≡ None) →
      IfSome o (IsDue (with_head h k))
  due_left None is fits = tt
  due_left (Some n) is fits = record {
    coming = record { split = bare x; left_due = is_some x.left; right_due = is_some x.right };
    is = refl;
    fits = rw is (fits n is);
  }

  due_right : (l r : Option NewFace) → x.left ≡ l → x.right ≡ r
      → ((n : NewFace) → x.right ≡ Some n →
      new_face_fault (with_record (cut h k) (left_only x)) false n.face (word_of n.first)
      (word_of n.second) ≡ None) →
      IfSome r (IsDue (with_due (with_head h k) l))
  due_right l None left right fits = tt
  due_right None (Some n) left right fits = record {
    coming = record { split = bare x; left_due = is_some x.left; right_due = is_some x.right };
    is = refl;
    fits = rw left (rw left at (fits n right));
  }
  due_right (Some m) (Some n) left right fits = record {
    coming = record { split = left_only x; left_due = false; right_due = true };
    is = rw (left, right) refl;
    fits = rw (left, right) (rw left at (fits n right));
  }

  both_taken : (l r : Option NewFace) → x.left ≡ l → x.right ≡ r → k < record_count h
      → presence_is_bad (head_of x).presence ≡ false
      → with_due (with_due (with_head h k) l) r ≡ took_records h (k + 1)
  both_taken None None left right inside fits = absurd (let bad = rw (left, right) at fits in cc)
  both_taken None (Some n) left right inside fits =
      grind (arith, common_steps, cut, cut-more, is_some)
  both_taken (Some m) None left right inside fits =
      grind (arith, common_steps, cut, cut-more, is_some)
  both_taken (Some m) (Some n) left right inside fits =
      grind (arith, common_steps, cut, cut-more, is_some)

-- what the log keeps of a dropped face is of the mesh
among : (m : Net) (p q : ℕ) (o : Option Gone) → IsGone m p q o
    → ((g : Gone) → o ≡ Some g → g.face.0 < m.faces) → IfSome o (IsAmong m.faces)
among m p q None gone inside = tt
among m p q (Some g) (e, runs, on, first, second) inside = record {
  face = inside g refl;
  first = λ a is. grind (arith, common_steps);
  second = λ a is. grind (arith, common_steps);
}

-- the faces of the collapse that becomes record k
module _ (r : Run) (small : IsSmallRun r) (k : ℕ) (l : k < steps r) where
  left_is : (record_at (hierarchy_of r) k).left ≡ numbered_gone r (step_of r k).left
  left_is = ap (λ (y : Record). y.left) (record-at r k l)

  right_is : (record_at (hierarchy_of r) k).right ≡ numbered_gone r (step_of r k).right
  right_is = ap (λ (y : Record). y.right) (record-at r k l)

  here : k < record_count (hierarchy_of r)
  here = omega (arith, count r)

  pub expects_head : {s : Shaping} → s ≡ took_records (hierarchy_of r) k → expects s ≡ kinds.Head
  expects_head {s} is =
      let inside = here in
      grind (arith, common_steps, le-ltb, length-take-le, lt-ltb)

  pub head_passes : {s : Shaping} {d : Head} {e : Shape} → s ≡ took_records (hierarchy_of r) k
      → d ≡ head_of (record_at (hierarchy_of r) k)
      → is_place (place_number r (step_of r k).t) ≡ true
      → is_place (place_number r (step_of r k).u) ≡ true → head_fault s.h d ≡ Some e → ⊥
  head_passes {s} {d} {e} is d_is first second fault =
      let fits = head_fits r small.merging k l first second in
      none-some e (sym (rw (is, d_is) fits) ∙ fault)

  pub head_taken : {s : Shaping} {d : Head} → s ≡ took_records (hierarchy_of r) k
      → d ≡ head_of (record_at (hierarchy_of r) k)
      → record s { coming = Some (started d) } ≡ with_head (hierarchy_of r) k
  head_taken {s} {d} is d_is =
      let some = presence_fits r small.merging k l in
      rw (is, d_is, started_is (record_at (hierarchy_of r) k) some) refl

  pub left_among : IfSome (step_of r k).left (IsAmong r.net.faces)
  left_among =
      grind (arith, common_steps, among, gone-lt)

  pub right_among : IfSome (step_of r k).right (IsAmong r.net.faces)
  right_among =
      grind (arith, common_steps, among, gone-lt)

  pub left_due : IfSome (numbered_gone r (step_of r k).left) (IsDue (with_head (hierarchy_of r) k))
  left_due =
      due_left (hierarchy_of r) k _ left_is (left_fits r small.merging small.few_faces k here)

  pub right_due : IfSome (numbered_gone r (step_of r k).right)
      (IsDue (with_due (with_head (hierarchy_of r) k) (numbered_gone r (step_of r k).left)))
  right_due =
      due_right (hierarchy_of r) k _ _ left_is right_is
      (right_fits r small.merging small.few_faces k here)

  pub record_taken : with_due (with_due (with_head (hierarchy_of r) k)
      (numbered_gone r (step_of r k).left)) (numbered_gone r (step_of r k).right)
      ≡ took_records (hierarchy_of r) (k + 1)
  record_taken =
      both_taken (hierarchy_of r) k _ _ left_is right_is here
      (presence_fits r small.merging k l)
