-- Sides without a mate, and the faces that have one.
use Rattle.std.proofs.Common.{◌≡◌, ℕ, ◌+◌, ◌*◌, ◌⊎◌, inl, inr, refl, sym, true, ◌||◌}
use Rattle.std.proofs.Common.{Bool, List, Option, Some, None, arith}
use Rattle.std.proofs.lemmas.Grind.{common_steps}
use Rattle.std.specs.Option.{is_none, MatchOption}
use Rattle.std.proofs.lemmas.Bool.{true≢false, or_cases, or_left, or_right}
use Rattle.pm_base.specs.Sides.{Net, face_of, beside_side}
use Rattle.pm_turn.specs.Turning.{AreMates}
use Rattle.pm_turn.specs.Sums.{is_bare}

-- A face has a side without a mate.
pub bare_side : (mates : List (Option ℕ)) (f e : ℕ) → face_of e ≡ f → beside_side mates e ≡ None
    → is_bare mates f ≡ true
bare_side mates f e at none =
    let near : (e ≡ 3 * f) ⊎ ((e ≡ 3 * f + 1) ⊎ (e ≡ 3 * f + 2)) = grind arith in
    grind (arith, common_steps, or_left, or_right, none)

pub side_bare : (mates : List (Option ℕ)) (f : ℕ) → is_bare mates f ≡ true
    → (e : ℕ) × (face_of e ≡ f) × (is_none (beside_side mates e) ≡ true)
side_bare mates f t =
    let none : ℕ → Bool = λ e. is_none (beside_side mates e) in
    elim (or_cases (none (3 * f) || none (3 * f + 1)) (none (3 * f + 2)) t) [
      | inr c ↦ (3 * f + 2, omega arith, c)
      | inl ab ↦
          elim (or_cases _ _ ab) [
            | inl a ↦ (3 * f, omega arith, a)
            | inr b ↦ (3 * f + 1, omega arith, b)
          ]
    ]

pub no_mate : (m : Net) (e : ℕ) (o : Option ℕ) → is_none o ≡ true
    → MatchOption o ((k : ℕ) → AreMates m e k → ⊥) (λ k. AreMates m e k) → (k : ℕ) → AreMates m e k
    → ⊥
no_mate m e None t none = none
no_mate m e (Some k) t mate = absurd (true≢false (sym t))

pub none_beside : (m : Net) (e : ℕ) (o : Option ℕ)
    → MatchOption o ((k : ℕ) → AreMates m e k → ⊥) (λ k. AreMates m e k)
    → ((k : ℕ) → AreMates m e k → ⊥) → o ≡ None
none_beside m e None h none = refl
none_beside m e (Some k) mate none = absurd (none k mate)
