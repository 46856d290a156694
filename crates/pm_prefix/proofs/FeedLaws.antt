-- What a shaper has taken in of a hierarchy of the right shape, one unit more at a time.
use Rattle.std.proofs.Common.{◌≡◌, ℕ, ◌+◌, ◌*◌, ◌<◌, ◌⊎◌, eqb, Bool, true, false, not, [], ◌∷◌}
use Rattle.std.proofs.Common.{◌++◌, length, get_or, take, Option, None, Some, is_some, inl, inr}
use Rattle.std.proofs.Common.{refl, sym, ap, ◌∙◌, arith}
use Rattle.std.proofs.lemmas.Grind.{common_steps}
use Rattle.std.proofs.lemmas.Bool.{lt-ltb, le-ltb, or_parts, false≢true}
use Rattle.std.proofs.lemmas.Option.{none-some}
use Rattle.std.proofs.lemmas.List.{length-take-le, take_more, take_all, get_or_default}
use Rattle.std.specs.Prelude.{IfSome, if◌then◌else◌}
use Rattle.pm_base.specs.Counts.{one_if}
use Rattle.pm_forest.specs.declared.parts.Counts.{Counts}
use Rattle.pm_forest.specs.declared.parts.Root.{Root}
use Rattle.pm_forest.specs.declared.parts.Face.{Face}
use Rattle.pm_forest.specs.declared.parts.Head.{Head}
use Rattle.pm_forest.specs.declared.parts.NewFace.{NewFace}
use Rattle.pm_forest.specs.declared.parts.Record.{Record}
use Rattle.pm_forest.specs.declared.parts.Shape.{Shape}
use Rattle.pm_forest.specs.declared.parts.UnitKind.TheVariants as kinds
use Rattle.pm_forest.specs.Forest.{Hierarchy, record_at, record_count}
use Rattle.pm_forest.specs.Faces.{no_face_corners}
use Rattle.pm_forest.specs.Places.{no_root}
use Rattle.pm_forest.specs.Rules.{root_fault, base_fault, head_of, head_fault, head_is_bad}
use Rattle.pm_forest.specs.Rules.{presence_is_bad, new_face_fault, bare, left_only}
use Rattle.pm_forest.specs.Rules.{word_of, counts_of, counts_are_bad, past_fault, HasShape}
use Rattle.pm_forest.specs.Shaping.{Shaping, expects, so_far, next_face, started, settled}
use Rattle.pm_forest.specs.Shaping.{with_face}
use Rattle.pm_forest.proofs.Prefix.{cut, cut-more}
use Rattle.pm_forest.proofs.FacesTaken.{side_of-word}
use Rattle.pm_forest.proofs.UnitLaws.{AllFit-at, passed}
use Rattle.pm_forest.proofs.ShapeLaws.{record_fits}
use Rattle.pm_prefix.specs.Tables.{took_roots, took_bases, took_records, IsDue, with_due}

-- The head of a record

-- A shaper that has the first k records, and the head of record k.
abbrev pub with_head : Hierarchy → ℕ → Shaping
with_head g k = let x = record_at g k in record {
  counts = counts_of g;
  h = record { roots = g.roots; bases = g.bases; records = take k g.records };
  coming = Some (record {
    split = bare x;
    left_due = is_some x.left;
    right_due = is_some x.right;
  });
}

due_is : (l r : Option NewFace) → presence_is_bad (one_if (is_some l) + 2 * one_if (is_some r))
    ≡ false →
    (not (eqb (one_if (is_some l) + 2 * one_if (is_some r)) 2) ≡ is_some l)
    × (not (eqb (one_if (is_some l) + 2 * one_if (is_some r)) 1) ≡ is_some r)
due_is None None bad = absurd cc
due_is None (Some n) bad = (refl, refl)
due_is (Some m) None bad = (refl, refl)
due_is (Some m) (Some n) bad = (refl, refl)

started_is : (x : Record) → presence_is_bad (head_of x).presence ≡ false
    → started (head_of x) ≡ record {
      split = bare x;
      left_due = is_some x.left;
      right_due =
          is_some x.right;
    }
started_is x fits = let due = due_is x.left x.right fits in rw (due.0, due.1) refl

presence_fits : (g : Hierarchy) (d : Head) → head_fault g d ≡ None
    → presence_is_bad d.presence ≡ false
unfolding head_fault head_is_bad
presence_fits g d fits = grind (arith, common_steps, or_parts, passed)

-- New faces

-- a shaper that waits for a face expects one
pub expects_due : {s : Shaping} {n : NewFace} → IsDue s n
    → (expects s ≡ kinds.LeftFace) ⊎ (expects s ≡ kinds.RightFace)
expects_due {s} {n} due = rw due.is (expects_side due.coming.left_due)
  where
    expects_side : (left : Bool) →
        ((if left then kinds.LeftFace else kinds.RightFace) ≡ kinds.LeftFace)
        ⊎ ((if left then kinds.LeftFace else kinds.RightFace) ≡ kinds.RightFace)
    expects_side true = inl refl
    expects_side false = inr refl

pub due_passes : {s : Shaping} {n : NewFace} (e : Shape) → IsDue s n
    → IfSome s.coming
    (λ p. new_face_fault (so_far s.h s.coming) p.left_due n.face (word_of n.first)
    (word_of n.second) ≡ Some e) → ⊥
due_passes {s} {n} e due fault =
    none-some e (sym (rw due.is at due.fits) ∙ rw due.is at fault)

pub due_taken : {s new : Shaping} (n : NewFace) → IsDue s n
    → IfSome s.coming
    (λ p. new ≡ settled s.counts s.h
    (with_face p (next_face n.face (word_of n.first) (word_of n.second))))
    → new ≡ with_due s (Some n)
due_taken {s} {new} n due taken =
    rw due.is (rw (due.is, side_of-word n.first, side_of-word n.second) at taken)

module _ (g : Hierarchy) (shape : HasShape g) where
  -- Counts

  pub not_bad : {c : Counts} → c ≡ counts_of g → counts_are_bad c ≡ true → ⊥
  not_bad {c} is bad = false≢true (sym shape.counts ∙ rw is at bad)

  -- Roots

  pub expects_root : (i : ℕ) {s : Shaping} → s ≡ took_roots g i → i < length g.roots
      → expects s ≡ kinds.Root
  expects_root i {s} is l = grind (arith, common_steps, length-take-le, lt-ltb)

  pub root_passes : (i : ℕ) {s : Shaping} {x : Root} {e : Shape} → s ≡ took_roots g i
      → i < length g.roots → x ≡ get_or g.roots i no_root
      → root_fault s.counts s.h.roots x ≡ Some e → ⊥
  root_passes i {s} {x} {e} is l x_is fault =
      let r = get_or g.roots i no_root in
      let fits : root_fault (counts_of g) (take i g.roots) r ≡ None =
      AllFit-at (root_fault (counts_of g)) [] g.roots i r shape.roots l
      (get_or_default g.roots i no_root r l) in
      none-some e (sym (rw (is, x_is) fits) ∙ fault)

  pub root_taken : (i : ℕ) {s : Shaping} {x : Root} → s ≡ took_roots g i → i < length g.roots
      → x ≡ get_or g.roots i no_root
      → record s { h = record s.h { roots = s.h.roots ++ x ∷ [] } } ≡ took_roots g (i + 1)
  root_taken i {s} {x} is l x_is = grind (arith, common_steps, take_more)

  -- Base faces

  pub expects_base : (i : ℕ) {s : Shaping} → s ≡ took_bases g i → i < length g.bases
      → expects s ≡ kinds.Base
  expects_base i {s} is l = grind (arith, common_steps, le-ltb, length-take-le, lt-ltb)

  pub base_passes : (i : ℕ) {s : Shaping} {x : Face} {e : Shape} → s ≡ took_bases g i
      → i < length g.bases → x ≡ get_or g.bases i no_face_corners
      → base_fault s.h.roots s.h.bases x ≡ Some e → ⊥
  base_passes i {s} {x} {e} is l x_is fault =
      let f = get_or g.bases i no_face_corners in
      let fits : base_fault g.roots (take i g.bases) f ≡ None =
      AllFit-at (base_fault g.roots) [] g.bases i f shape.bases l
      (get_or_default g.bases i no_face_corners f l) in
      none-some e (sym (rw (is, x_is) fits) ∙ fault)

  pub base_taken : (i : ℕ) {s : Shaping} {x : Face} → s ≡ took_bases g i → i < length g.bases
      → x ≡ get_or g.bases i no_face_corners
      → record s { h = record s.h { bases = s.h.bases ++ x ∷ [] } } ≡ took_bases g (i + 1)
  base_taken i {s} {x} is l x_is = grind (arith, common_steps, take_more)

  -- Records

  module _ (k : ℕ) (l : k < record_count g) where
    abbrev x : Record
    x = record_at g k

    pub expects_head : {s : Shaping} → s ≡ took_records g k → expects s ≡ kinds.Head
    expects_head {s} is = grind (arith, common_steps, le-ltb, length-take-le, lt-ltb)

    pub head_passes : {s : Shaping} {d : Head} {e : Shape} → s ≡ took_records g k
        → d ≡ head_of (record_at g k) → head_fault s.h d ≡ Some e → ⊥
    head_passes {s} {d} {e} is d_is fault =
        let fits = (record_fits g shape k l).head in
        none-some e (sym (rw (is, d_is) fits) ∙ fault)

    some_face : presence_is_bad (head_of x).presence ≡ false
    some_face = presence_fits (cut g k) (head_of x) (record_fits g shape k l).head

    pub head_taken : {s : Shaping} {d : Head} → s ≡ took_records g k
        → d ≡ head_of (record_at g k) → record s { coming = Some (started d) } ≡ with_head g k
    head_taken {s} {d} is d_is = rw (is, d_is, started_is (record_at g k) some_face) refl

    pub left_due : (o : Option NewFace) → (record_at g k).left ≡ o
        → IfSome o (IsDue (with_head g k))
    left_due None is = tt
    left_due (Some n) is = record {
      coming = record { split = bare x; left_due = is_some x.left; right_due = is_some x.right };
      is = refl;
      fits = rw is (rw is at (record_fits g shape k l).left);
    }

    pub right_due : (o q : Option NewFace) → (record_at g k).left ≡ o → (record_at g k).right ≡ q
        → IfSome q (IsDue (with_due (with_head g k) o))
    right_due o None left right = tt
    right_due None (Some n) left right = record {
      coming = record { split = bare x; left_due = is_some x.left; right_due = is_some x.right };
      is = refl;
      fits = rw left (rw (left, right) at (record_fits g shape k l).right);
    }
    right_due (Some m) (Some n) left right = record {
      coming = record { split = left_only x; left_due = false; right_due = true };
      is = rw (left, right) refl;
      fits = rw (left, right) (rw (left, right) at (record_fits g shape k l).right);
    }

    pub record_taken : (o q : Option NewFace) → (record_at g k).left ≡ o
        → (record_at g k).right ≡ q
        → with_due (with_due (with_head g k) o) q ≡ took_records g (k + 1)
    record_taken None None left right = absurd (let bad = rw (left, right) at some_face in cc)
    record_taken None (Some n) left right = grind (arith, common_steps, cut, cut-more, is_some)
    record_taken (Some m) None left right = grind (arith, common_steps, cut, cut-more, is_some)
    record_taken (Some m) (Some n) left right =
        grind (arith, common_steps, cut, cut-more, is_some)

  -- All of them

  pub whole_is : {s : Shaping} (n : ℕ) → n ≡ record_count g → s ≡ took_records g n → s.h ≡ g
  whole_is {s} n all is =
      ap (λ (t : Shaping). t.h) is
      ∙ ap (λ rs. record g { records = rs }) (take_all n g.records (omega arith))

  pub expects_nothing : {s : Shaping} (n : ℕ) → n ≡ record_count g → s ≡ took_records g n
      → expects s ≡ kinds.Nothing
  expects_nothing {s} n all is = grind (arith, common_steps, le-ltb, length-take-le)

  pub not_past : {s : Shaping} {e : Shape} (n : ℕ) → n ≡ record_count g → s ≡ took_records g n
      → past_fault s.h ≡ Some e → ⊥
  not_past {s} {e} n all is fault =
      none-some e (sym (rw (whole_is n all is) shape.inputs) ∙ fault)
