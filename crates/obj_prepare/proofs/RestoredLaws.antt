-- Where a mesh is made of itself no triangle goes, and as many vertices are split off as were
-- joined.
use Rattle.std.proofs.Common.{◌≡◌, ℕ, ◌+◌, ◌/◌, ◌<◌, true, not, ◌&&◌, ◌||◌, ◌==◌, inl, inr}
use Rattle.std.proofs.lemmas.Grind.{common_steps}
use Rattle.std.proofs.Common.{refl, sym, ap, ◌∙◌, subst, List, [], ◌∷◌, ◌++◌, length, get_or, arith}
use Rattle.std.proofs.Common.{length-append, append_assoc}
use Rattle.std.specs.List.{All}
use Rattle.std.proofs.lemmas.Bool.{cases_Bool, cases_order, cond-true, cond-false, and_parts}
use Rattle.std.proofs.lemmas.Bool.{or_cases, or_left, or_right, eq-eqb, eqb-true, ne_eqb}
use Rattle.std.proofs.lemmas.Bool.{false≢true, true≢false}
use Rattle.std.proofs.lemmas.List.{length-map, append-nil}
use Rattle.std.proofs.lemmas.List.Elements.{All-head, All-tail}
use Rattle.pm_base.specs.declared.mesh.Corners.{Corners}
use Rattle.pm_base.specs.Meshes.{Mesh}
use Rattle.pm_base.specs.Sides.{net_of}
use Rattle.pm_base.specs.Fans.{IsUsed}
use Rattle.pm_base.specs.Counts.{count}
use Rattle.pm_base.proofs.Counts.{count_same}
use Rattle.pm_fans.specs.Kept.{is_corner, kept_after, kept_of}
use Rattle.pm_base.proofs.Counted.{count_never}
use Rattle.obj_prepare.specs.Named.{is_some_corner, AreVerticesBelow}
use Rattle.obj_prepare.specs.Joining.{place_in_list, renamed, joined_faces}
use Rattle.obj_prepare.specs.Prepared.{staying, IsPrepared, joined_count, flat_count, double_count}
use Rattle.obj_prepare.specs.Prepared.{unnamed_count, split_count, gone_count}
use Rattle.pm_turn.proofs.TurnedFaces.{turned_length}
use Rattle.pm_base.proofs.Counted.{count_both}
use Rattle.obj_prepare.proofs.KeptCounts.{kept_and_flat}
use Rattle.pm_base.proofs.NetLaws.{face_at}
use Rattle.obj_prepare.proofs.PieceLaws.{corners_named, corner_in_has}

-- A used vertex is named.
pub used_named : (faces : List Corners) (v : ℕ) → IsUsed (net_of faces) v
    → is_some_corner faces v ≡ true
used_named faces v (e, t, at) =
    grind (arith, common_steps, corner_in_has, corners_named faces (e / 3), face_at faces (e / 3))

-- Where as many stay, all do.
all_kept : (before fs : List Corners) → length (kept_after before fs) ≡ length before + length fs
    → kept_after before fs ≡ before ++ fs
all_kept before [] as_many = sym (append-nil before)
all_kept before (f ∷ fs) as_many =
    grind (
      arith,
      common_steps,
      append_assoc,
      cond-false,
      cond-true,
      kept_and_flat,
      length-append,
      all_kept (before ++ f ∷ []) fs,
    )

-- The vertices of joined faces are those that stand for others.
module _ (names : List ℕ) where
  abbrev name : ℕ → ℕ
  name v = get_or names v 0

  corner_joined : (f : Corners) (v : ℕ) → is_corner f v ≡ true
      → is_corner (renamed names f) (name v) ≡ true
  corner_joined f v is =
      let same : (u : ℕ) → (u == v) ≡ true → (name u == name v) ≡ true =
      λ u e. eq-eqb _ _ (ap name (eqb-true u v e)) in
      elim (or_cases (f.a == v || f.b == v) (f.c == v) is) [
        | inl ab ↦
            elim (or_cases (f.a == v) (f.b == v) ab) [
              | inl a ↦ or_left (name f.a == name v || name f.b == name v) (name f.c == name v)
                  (or_left (name f.a == name v) (name f.b == name v) (same f.a a))
              | inr b ↦ or_left (name f.a == name v || name f.b == name v) (name f.c == name v)
                  (or_right (name f.a == name v) (name f.b == name v) (same f.b b))
            ]
        | inr c ↦ or_right (name f.a == name v || name f.b == name v) (name f.c == name v)
            (same f.c c)
      ]

  joined_named : (fs : List Corners) (v : ℕ) → is_some_corner fs v ≡ true
      → is_some_corner (joined_faces names fs) (name v) ≡ true
  joined_named [] v is = absurd (false≢true is)
  joined_named (f ∷ fs) v is =
      grind (arith, common_steps, corner_joined, or_cases, or_left, or_right, joined_named fs v)

  -- A vertex below n for which this one stands.
  abbrev StandsFor : ℕ → ℕ → Type 0
  StandsFor n v = (w : ℕ) × (w < n) × (name w ≡ v)

  joined_corner : (n : ℕ) (f : Corners) (v : ℕ) → AreVerticesBelow n f
      → is_corner (renamed names f) v ≡ true → StandsFor n v
  joined_corner n f v are is =
      elim (or_cases (name f.a == v || name f.b == v) (name f.c == v) is) [
        | inl ab ↦
            elim (or_cases (name f.a == v) (name f.b == v) ab) [
              | inl a ↦ (f.a, are.a, eqb-true _ _ a)
              | inr b ↦ (f.b, are.b, eqb-true _ _ b)
            ]
        | inr c ↦ (f.c, are.c, eqb-true _ _ c)
      ]

  named_joined : (n : ℕ) (fs : List Corners) (v : ℕ) → All (AreVerticesBelow n) fs
      → is_some_corner (joined_faces names fs) v ≡ true → StandsFor n v
  named_joined n [] v are is = absurd (false≢true is)
  named_joined n (f ∷ fs) v are is =
      elim (or_cases (is_corner (renamed names f) v) (is_some_corner (joined_faces names fs) v)
      is) [
        | inl c ↦ joined_corner n f v (All-head (AreVerticesBelow n) f fs are) c
        | inr more ↦ named_joined n fs v (All-tail (AreVerticesBelow n) f fs are) more
      ]

module _ (m : Mesh) (used : (v : ℕ) → v < length m.points → IsUsed (net_of m.faces) v)
    (p : IsPrepared m.points m.faces m) where
  abbrev joined : List Corners
  joined = joined_faces p.names m.faces

  joined_long : length joined ≡ length m.faces
  joined_long = length-map m.faces (renamed p.names)

  stay_long : length (staying p.names m.faces) ≡ length m.faces
  stay_long = sym (p.split.split.faces ∙ turned_length p.flags (staying p.names m.faces))

  pub all_stay : staying p.names m.faces ≡ joined
  unfolding kept_of
  all_stay = all_kept [] joined (omega (arith, joined_long, stay_long))

  pub none_flat : flat_count p.names m.faces ≡ 0
  unfolding flat_count kept_of
  none_flat = omega (arith, joined_long, stay_long, kept_and_flat [] joined)

  pub none_double : double_count p.names m.faces ≡ 0
  unfolding double_count
  none_double = omega (arith, stay_long)

  pub all_named : (v : ℕ) → v < length m.points → is_some_corner m.faces v ≡ true
  all_named v l = used_named m.faces v (used v l)

  pub none_unnamed : unnamed_count (length m.points) m.faces ≡ 0
  unfolding unnamed_count
  none_unnamed = count_never _ (length m.points)
      (λ v l t. true≢false (sym t ∙ ap not (all_named v l)))

  pub none_gone : gone_count p.names m.faces ≡ 0
  unfolding gone_count
  none_gone =
      grind (
        arith,
        common_steps,
        all_stay,
        and_parts,
        count_never,
        eqb-true,
        joined_named p.names m.faces,
      )

  -- One that stands for another stands for itself.
  own_name : (v w : ℕ) → v < length m.points → w < length m.points → name p.names w ≡ v
      → name p.names v ≡ v
  own_name v w l low is =
      let a = p.joined.each w low (all_named w low) in
      let b = p.joined.each v l (all_named v l) in
      let here : place_in_list m.points v ≡ place_in_list m.points w =
      ap (place_in_list m.points) (sym is) ∙ a.same in
      elim (cases_order (name p.names v) v) [
        | inl same ↦ same
        | inr k ↦ elim k [
          | inl less ↦
              absurd (a.least (name p.names v) (omega (arith, less, is)) b.named (b.same ∙ here))
          | inr more ↦ absurd (b.least v more (all_named v l) refl)
        ]
      ]

  named_own : (corners : All (AreVerticesBelow (length m.points)) m.faces) (v : ℕ)
      → v < length m.points → is_some_corner joined v ≡ (name p.names v == v)
  named_own corners v l =
      elim (cases_Bool (is_some_corner joined v)) [
        | inl t ↦ (let (w, low, is) = named_joined p.names (length m.points) m.faces v corners t in
            t ∙ sym (eq-eqb _ _ (own_name v w l low is)))
        | inr out ↦ out ∙ sym (ne_eqb _ _
            (λ own. true≢false (sym (subst (λ u. is_some_corner joined u ≡ true) own
            (joined_named p.names m.faces v (all_named v l))) ∙ out)))
      ]

  pub split_as_joined : All (AreVerticesBelow (length m.points)) m.faces
      → split_count p.names m.faces p.old ≡ joined_count p.names m.faces
  unfolding split_count joined_count
  split_as_joined corners =
      let n : ℕ = length p.names in
      let old_long : length p.old ≡ length m.points =
      sym (length-map p.old (place_in_list m.points)) ∙ sym (ap length p.stand) in
      let others : count (λ v. is_some_corner m.faces v && not (name p.names v == v)) n ≡ count
      (λ v. not (is_some_corner joined v)) n =
      count_same _ _ n (λ v l.
      let low : v < length m.points = omega (arith, l, p.joined.all) in
      ap (λ b. b && not (name p.names v == v)) (all_named v low)
      ∙ ap not (sym (named_own corners v low))) in
      let stay : count (is_some_corner (staying p.names m.faces)) n ≡ count
      (is_some_corner joined) n =
      ap (λ (fs : List Corners). count (is_some_corner fs) n) all_stay in
      omega (arith, old_long, p.joined.all, others, stay, count_both (is_some_corner joined) n)
