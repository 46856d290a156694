-- The number of an edge: both of its sides have the same one, and it is that of one of them.
use Rattle.std.proofs.Common.{◌≡◌, ℕ, ◌<◌, ltb, Option, Some, None, ◌⊎◌, inl, inr, sym, ap, ◌∙◌}
use Rattle.std.proofs.lemmas.Grind.{common_steps}
use Rattle.std.proofs.Common.{subst, arith}
use Rattle.std.proofs.lemmas.Bool.{cases_Bool, cond-true, cond-false, ltb-true, ltb-false}
use Rattle.pm_base.specs.Sides.{Net, next, prev, to, Stands, NoSideTwice, IsTwin, twin_of}
use Rattle.pm_base.proofs.Search.{option_cases}
use Rattle.pm_base.proofs.Sides.{next-next-next, stands_next}
use Rattle.pm_base.proofs.TwinLaws.{twin-is, twin-twin}
use Rattle.pm_runs.specs.Pairs.{Runs, Links}
use Rattle.pm_runs.proofs.Sides.{across-twin}
use Rattle.pm_simplify.specs.Items.{lesser_of_pair, item_of, IsSideAt}

module _ (m : Net) where
  pub item_by : (e : ℕ) (r : Option ℕ) → twin_of m e ≡ r → item_of m e ≡ lesser_of_pair e r
  unfolding item_of
  item_by e r t = ap (lesser_of_pair e) t

  pub item_cases : (e : ℕ)
      → (item_of m e ≡ e) ⊎ ((g : ℕ) × (twin_of m e ≡ Some g) × (item_of m e ≡ g))
  item_cases e =
      elim (option_cases (twin_of m e)) [
        | inl n ↦ inl (item_by e None n)
        | inr (g, t) ↦
            elim (cases_Bool (ltb g e)) [
              | inl a ↦ inr (g, t, item_by e (Some g) t ∙ cond-true _ _ _ a)
              | inr a ↦ inl (item_by e (Some g) t ∙ cond-false _ _ _ a)
            ]
      ]

  pub twin_back : NoSideTwice m → (e g : ℕ) → Stands m e → twin_of m e ≡ Some g
      → twin_of m g ≡ Some e
  twin_back once e g st t = across-twin m once g (Some e) (twin-twin m e g st (twin-is m e g t))

  lesser_turned : (e g : ℕ) → lesser_of_pair g (Some e) ≡ lesser_of_pair e (Some g)
  lesser_turned e g = grind (arith, common_steps, cond-false, cond-true, ltb-false, ltb-true)

  pub item_twin : NoSideTwice m → (e g : ℕ) → Stands m e → twin_of m e ≡ Some g
      → item_of m g ≡ item_of m e
  item_twin once e g st t =
      item_by g (Some e) (twin_back once e g st t) ∙ lesser_turned e g ∙ sym (item_by e (Some g) t)

  pub item_item : NoSideTwice m → (e : ℕ) → Stands m e → item_of m (item_of m e) ≡ item_of m e
  item_item once e st = grind (arith, common_steps, item_cases, item_twin)

  pub item_stands : (e : ℕ) → Stands m e → Stands m (item_of m e)
  item_stands e st =
      elim (item_cases e) [
        | inl is ↦ subst (Stands m) (sym is) st
        | inr (g, t, is) ↦ subst (Stands m) (sym is) (twin-is m e g t).stands
      ]

  twin_runs : (e g p q : ℕ) → IsTwin m e g → Runs m e p q → Runs m g q p
  twin_runs e g p q t r = grind (arith, common_steps)

  twin_links : (e g a b : ℕ) → IsTwin m e g → Links m e a b → Links m g a b
  twin_links e g a b t l =
      elim l [ inl r ↦ inr (twin_runs e g a b t r) | inr r ↦ inl (twin_runs e g b a t r) ]

  pub links_item : (e a b : ℕ) → Links m e a b → Links m (item_of m e) a b
  links_item e a b l = grind (arith, common_steps, item_cases, twin-is, twin_links)

  -- The two ends of a side, the lesser one first, are these.
  pub same_ends : (e a b c d : ℕ) → Links m e a b → Links m e c d → a < b → c < d
      → (a ≡ c) × (b ≡ d)
  same_ends e a b c d l k x y = grind (arith, common_steps)

  -- A side at a vertex runs from it, or the next side in the face does.
  pub side_corner : (v e : ℕ) → IsSideAt m v e → (Stands m e × (m.from e ≡ v))
      ⊎ (Stands m (next e) × (m.from (next e) ≡ v) × (prev (next e) ≡ e))
  side_corner v e at = grind (arith, common_steps, next-next-next, stands_next)

  -- Its twin runs from the vertex to which it runs.
  pub twin_corner : (e g : ℕ) → twin_of m e ≡ Some g → Stands m g × (m.from g ≡ to m e)
      × (to m g ≡ m.from e)
  twin_corner e g t = let w = twin-is m e g t in (w.stands, w.begins, w.ends)
