-- The words of a unit, as an array of them.
use Rattle.std.proofs.Common.{◌≡◌, ℕ, ℤ, ◌<◌, List, [], ◌∷◌, ◌++◌, length, get_or, Some, None}
use Rattle.std.proofs.lemmas.Grind.{common_steps}
use Rattle.std.proofs.Common.{refl, arith}
use Rattle.pm_forest.specs.declared.parts.Head.{Head}
use Rattle.pm_format.specs.Reading.{root_at, base_at, head_at, new_face_at, counts_at}
use Rattle.pm_format.specs.Reading.{signed_place}

-- Too few words are no root.
pub no_root : (ws : List ℕ) → length ws < 5 → root_at ws ≡ None
no_root [] few = refl
no_root (_ ∷ []) few = refl
no_root (_ ∷ _ ∷ []) few = refl
no_root (_ ∷ _ ∷ _ ∷ []) few = refl
no_root (_ ∷ _ ∷ _ ∷ _ ∷ []) few = refl
no_root (_ ∷ _ ∷ _ ∷ _ ∷ _ ∷ ws) few = absurd (omega (arith, few))

pub no_base : (ws : List ℕ) → length ws < 4 → base_at ws ≡ None
no_base [] few = refl
no_base (_ ∷ []) few = refl
no_base (_ ∷ _ ∷ []) few = refl
no_base (_ ∷ _ ∷ _ ∷ []) few = refl
no_base (_ ∷ _ ∷ _ ∷ _ ∷ ws) few = absurd (omega (arith, few))

pub no_counts : (ws : List ℕ) → length ws < 4 → counts_at ws ≡ None
no_counts [] few = refl
no_counts (_ ∷ []) few = refl
no_counts (_ ∷ _ ∷ []) few = refl
no_counts (_ ∷ _ ∷ _ ∷ []) few = refl
no_counts (_ ∷ _ ∷ _ ∷ _ ∷ ws) few = absurd (omega (arith, few))

pub no_face : (ws : List ℕ) → length ws < 6 → new_face_at ws ≡ None
no_face [] few = refl
no_face (_ ∷ []) few = refl
no_face (_ ∷ _ ∷ []) few = refl
no_face (_ ∷ _ ∷ _ ∷ []) few = refl
no_face (_ ∷ _ ∷ _ ∷ _ ∷ []) few = refl
no_face (_ ∷ _ ∷ _ ∷ _ ∷ _ ∷ []) few = refl
no_face (_ ∷ _ ∷ _ ∷ _ ∷ _ ∷ _ ∷ ws) few = absurd (omega (arith, few))

pub no_head : (ws : List ℕ) → length ws < 11 → head_at ws ≡ None
no_head [] few = refl
no_head (_ ∷ []) few = refl
no_head (_ ∷ _ ∷ []) few = refl
no_head (_ ∷ _ ∷ _ ∷ []) few = refl
no_head (_ ∷ _ ∷ _ ∷ _ ∷ []) few = refl
no_head (_ ∷ _ ∷ _ ∷ _ ∷ _ ∷ []) few = refl
no_head (_ ∷ _ ∷ _ ∷ _ ∷ _ ∷ _ ∷ []) few = refl
no_head (_ ∷ _ ∷ _ ∷ _ ∷ _ ∷ _ ∷ _ ∷ []) few = refl
no_head (_ ∷ _ ∷ _ ∷ _ ∷ _ ∷ _ ∷ _ ∷ _ ∷ []) few = refl
no_head (_ ∷ _ ∷ _ ∷ _ ∷ _ ∷ _ ∷ _ ∷ _ ∷ _ ∷ []) few = refl
no_head (_ ∷ _ ∷ _ ∷ _ ∷ _ ∷ _ ∷ _ ∷ _ ∷ _ ∷ _ ∷ []) few = refl
no_head (_ ∷ _ ∷ _ ∷ _ ∷ _ ∷ _ ∷ _ ∷ _ ∷ _ ∷ _ ∷ _ ∷ ws) few = absurd (omega (arith, few))

-- The head that eleven words give.
abbrev head_of : List ℕ → List ℤ → List ℤ → Head
head_of unit t u = record {
  s = get_or unit 0 0;
  width = get_or unit 1 0;
  t = t;
  t_input = get_or unit 5 0;
  u = u;
  u_input = get_or unit 9 0;
  presence = get_or unit 10 0;
}

pub some_head : (ws unit rest : List ℕ) (t u : List ℤ) → length unit ≡ 11 → ws ≡ unit ++ rest
    → t ≡ signed_place (get_or unit 2 0) (get_or unit 3 0) (get_or unit 4 0)
    → u ≡ signed_place (get_or unit 6 0) (get_or unit 7 0) (get_or unit 8 0)
    → head_at ws ≡ Some (head_of unit t u, rest)
some_head ws (a ∷ b ∷ c ∷ d ∷ e ∷ f ∷ g ∷ h ∷ i ∷ j ∷ k ∷ []) rest t u size is t_is u_is =
    grind (arith, common_steps)
some_head ws [] rest t u size is t_is u_is = absurd (omega (arith, size))
some_head ws (_ ∷ []) rest t u size is t_is u_is = absurd (omega (arith, size))
some_head ws (_ ∷ _ ∷ []) rest t u size is t_is u_is = absurd (omega (arith, size))
some_head ws (_ ∷ _ ∷ _ ∷ []) rest t u size is t_is u_is = absurd (omega (arith, size))
some_head ws (_ ∷ _ ∷ _ ∷ _ ∷ []) rest t u size is t_is u_is = absurd (omega (arith, size))
some_head ws (_ ∷ _ ∷ _ ∷ _ ∷ _ ∷ []) rest t u size is t_is u_is = absurd (omega (arith, size))
some_head ws (_ ∷ _ ∷ _ ∷ _ ∷ _ ∷ _ ∷ []) rest t u size is t_is u_is = absurd (omega (arith, size))
some_head ws (_ ∷ _ ∷ _ ∷ _ ∷ _ ∷ _ ∷ _ ∷ []) rest t u size is t_is u_is =
    absurd (omega (arith, size))
some_head ws (_ ∷ _ ∷ _ ∷ _ ∷ _ ∷ _ ∷ _ ∷ _ ∷ []) rest t u size is t_is u_is =
    absurd (omega (arith, size))
some_head ws (_ ∷ _ ∷ _ ∷ _ ∷ _ ∷ _ ∷ _ ∷ _ ∷ _ ∷ []) rest t u size is t_is u_is =
    absurd (omega (arith, size))
some_head ws (_ ∷ _ ∷ _ ∷ _ ∷ _ ∷ _ ∷ _ ∷ _ ∷ _ ∷ _ ∷ []) rest t u size is t_is u_is =
    absurd (omega (arith, size))
some_head ws (_ ∷ _ ∷ _ ∷ _ ∷ _ ∷ _ ∷ _ ∷ _ ∷ _ ∷ _ ∷ _ ∷ _ ∷ _) rest t u size is t_is u_is =
    absurd (omega (arith, size))
