-- Faces that stayed stay, and so they do where each vertex has another number, no two the same.
use Rattle.std.proofs.Common.{◌≡◌, ℕ, inl, inr, refl, sym, ap, ◌∙◌, List, [], ◌∷◌, ◌++◌, map, ◌==◌}
use Rattle.std.proofs.Common.{arith}
use Rattle.std.proofs.lemmas.Grind.{common_steps}
use Rattle.std.specs.List.{list_any}
use Rattle.std.proofs.lemmas.Bool.{cases_Bool, cond-true, cond-false, eq-eqb, ne_eqb}
use Rattle.std.proofs.lemmas.List.{map-append}
use Rattle.pm_base.specs.declared.mesh.Corners.{Corners}
use Rattle.pm_fans.specs.Kept.{is_flat, is_corner, is_alike, is_kept_after, kept_after, kept_of}

kept_append : (before fs gs : List Corners)
    → kept_after before (fs ++ gs) ≡ kept_after (kept_after before fs) gs
kept_append before [] gs = refl
kept_append before (f ∷ fs) gs =
    elim (cases_Bool (is_kept_after before f)) [
      | inl t ↦ cond-true _ _ _ t ∙ kept_append (before ++ f ∷ []) fs gs
          ∙ ap (λ b. kept_after b gs) (sym (cond-true _ _ _ t))
      | inr n ↦ cond-false _ _ _ n ∙ kept_append before fs gs
          ∙ ap (λ b. kept_after b gs) (sym (cond-false _ _ _ n))
    ]

all_again : (before fs : List Corners) → kept_after [] before ≡ before
    → kept_after [] (kept_after before fs) ≡ kept_after before fs
all_again before [] same = same
all_again before (f ∷ fs) same =
    grind (
      arith,
      common_steps,
      cond-false,
      cond-true,
      kept_append,
      all_again (before ++ f ∷ []) fs,
      all_again before fs same,
    )

pub kept_again : (fs : List Corners) → kept_of (kept_of fs) ≡ kept_of fs
unfolding kept_of
kept_again fs = all_again [] fs refl

-- A face over other numbers of its vertices.
abbrev pub renumbered : (ℕ → ℕ) → Corners → Corners
renumbered r f = record { a = r f.a; b = r f.b; c = r f.c }

module _ (r : ℕ → ℕ) (apart : (x y : ℕ) → r x ≡ r y → x ≡ y) where
  same_test : (x y : ℕ) → (r x == r y) ≡ (x == y)
  same_test x y = grind (arith, common_steps, eq-eqb, ne_eqb)

  flat_same : (f : Corners) → is_flat (renumbered r f) ≡ is_flat f
  flat_same f = rw (same_test f.a f.b, same_test f.b f.c, same_test f.c f.a) refl

  corner_same : (f : Corners) (v : ℕ) → is_corner (renumbered r f) (r v) ≡ is_corner f v
  corner_same f v = rw (same_test f.a v, same_test f.b v, same_test f.c v) refl

  alike_same : (f g : Corners) → is_alike (renumbered r f) (renumbered r g) ≡ is_alike f g
  unfolding is_alike
  alike_same f g = rw (corner_same f g.a, corner_same f g.b, corner_same f g.c) refl

  any_same : (f : Corners) (fs : List Corners)
      → list_any (is_alike (renumbered r f)) (map (renumbered r) fs) ≡ list_any (is_alike f) fs
  any_same f [] = refl
  any_same f (g ∷ fs) = rw (alike_same f g, any_same f fs) refl

  test_same : (before : List Corners) (f : Corners)
      → is_kept_after (map (renumbered r) before) (renumbered r f) ≡ is_kept_after before f
  unfolding is_kept_after
  test_same before f = rw (flat_same f, any_same f before) refl

  all_renumbered : (before fs : List Corners)
      → kept_after (map (renumbered r) before) (map (renumbered r) fs)
      ≡ map (renumbered r) (kept_after before fs)
  all_renumbered before [] = refl
  all_renumbered before (f ∷ fs) =
      elim (cases_Bool (is_kept_after before f)) [
        | inl t ↦
            cond-true _ _ _ (test_same before f ∙ t)
            ∙ ap (λ b. kept_after b (map (renumbered r) fs))
            (sym (map-append (renumbered r) before (f ∷ [])))
            ∙ all_renumbered (before ++ f ∷ []) fs
            ∙ ap (map (renumbered r)) (sym (cond-true _ _ _ t))
        | inr n ↦ cond-false _ _ _ (test_same before f ∙ n) ∙ all_renumbered before fs
            ∙ ap (map (renumbered r)) (sym (cond-false _ _ _ n))
      ]

  pub kept_renumbered : (fs : List Corners)
      → kept_of (map (renumbered r) fs) ≡ map (renumbered r) (kept_of fs)
  unfolding kept_of
  kept_renumbered fs = all_renumbered [] fs
