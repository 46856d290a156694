-- The border under a node that is split is that under its children; and whether there is a border,
-- side after side.
use Rattle.std.proofs.Common.{◌≡◌, ℕ, ◌+◌, ◌*◌, ◌<◌, Bool, true, false, ◌||◌, ◌&&◌, [], ◌∷◌, refl}
use Rattle.std.proofs.Common.{ap, ◌∙◌, arith}
use Rattle.std.proofs.lemmas.Grind.{common_steps}
use Rattle.std.proofs.lemmas.List.Folds.{list_any-append}
use Rattle.std.specs.List.{list_any, range_with_len}
use Rattle.std.specs.Option.{is_none}
use Rattle.pm_base.proofs.Numbers.{numbers_next}
use Rattle.pm_forest.specs.Forest.{Hierarchy, record_count, s_of, t_of, u_of}
use Rattle.pm_forest.specs.Faces.{face_count}
use Rattle.pm_forest.specs.Rules.{HasShape}
use Rattle.pm_beyond.specs.Walks.{leaf_twin}
use Rattle.pm_bounds.proofs.Nodes.{children_hold}
use Rattle.pm_deviation.specs.Borders.{is_border_side_under, has_border}

module _ (h : Hierarchy) (shape : HasShape h) where
  mixed : (n a b c d : Bool) → (n && ((a || b) || (c || d))) ≡ ((n && (a || c)) || (n && (b || d)))
  mixed n a b c d = grind (arith, common_steps)

  pub side-split : (k e : ℕ) → k < record_count h →
      is_border_side_under h (s_of h k) e
      ≡ (is_border_side_under h (t_of h k) e || is_border_side_under h (u_of h k) e)
  side-split k e l = grind (arith, common_steps, children_hold, mixed)

-- One of the first n sides has no twin.
unfoldable pub has_border_in : Hierarchy → ℕ → Bool
has_border_in h n = list_any (λ e. is_none (leaf_twin h e)) (range_with_len 0 n)

pub has_border_in-none : (h : Hierarchy) → has_border_in h 0 ≡ false
unfolding has_border_in
has_border_in-none h = refl

any_one : (p : ℕ → Bool) (n : ℕ) → list_any p (n ∷ []) ≡ p n
any_one p n = grind (arith, common_steps)

any_more : (p : ℕ → Bool) (n : ℕ) → list_any p (range_with_len 0 (n + 1))
    ≡ (list_any p (range_with_len 0 n) || p n)
any_more p n =
    ap (λ ns. list_any p ns) (numbers_next n) ∙ list_any-append p (range_with_len 0 n) (n ∷ [])
    ∙ ap (λ b. list_any p (range_with_len 0 n) || b) (any_one p n)

has_border_in-more : (h : Hierarchy) (n : ℕ) →
    has_border_in h (n + 1) ≡ (has_border_in h n || is_none (leaf_twin h n))
unfolding has_border_in
has_border_in-more h n = any_more (λ e. is_none (leaf_twin h e)) n

either_kept : (a b : Bool) → b ≡ false → (a || b) ≡ a
either_kept a b is = grind (arith, common_steps)

either_gained : (a b : Bool) → b ≡ true → (a || b) ≡ true
either_gained a b is = grind (arith, common_steps)

-- a side with a twin
pub has_border_in-passed : (h : Hierarchy) (n : ℕ) → is_none (leaf_twin h n) ≡ false
    → has_border_in h (n + 1) ≡ has_border_in h n
has_border_in-passed h n twin = has_border_in-more h n ∙ either_kept _ _ twin

-- a side without one
pub has_border_in-found : (h : Hierarchy) (n : ℕ) → is_none (leaf_twin h n) ≡ true
    → has_border_in h (n + 1) ≡ true
has_border_in-found h n alone = has_border_in-more h n ∙ either_gained _ _ alone

pub has_border_in-all : (h : Hierarchy) (n : ℕ) → n ≡ 3 * face_count h
    → has_border_in h n ≡ has_border h
unfolding has_border_in has_border
has_border_in-all h n all =
    ap (λ m. list_any (λ e. is_none (leaf_twin h e)) (range_with_len 0 m)) all
