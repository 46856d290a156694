-- The side from one vertex to another, found by search.
use Rattle.std.proofs.Common.{◌≡◌, ℕ, eqb, ◌&&◌, Some, None, inl, inr, sym, ap, ◌∙◌, arith}
use Rattle.std.proofs.lemmas.Grind.{common_steps}
use Rattle.std.proofs.lemmas.Bool.{eqb-true, eq-eqb, and_parts, and_from}
use Rattle.std.proofs.lemmas.Option.{none-some}
use Rattle.pm_base.specs.Sides.{Net, side_count, to, stands, NoSideTwice}
use Rattle.pm_base.proofs.Search.{option_cases, find_below-some, find_below-has}
use Rattle.pm_base.proofs.TwinLaws.{stands-true, stands_is_true}
use Rattle.pm_runs.specs.Pairs.{Runs, HasSide}
use Rattle.pm_runs.specs.Steps.{runs_from_to, side_from_to}

module _ (m : Net) (p q : ℕ) where
  pub found-runs : (e : ℕ) → side_from_to m p q ≡ Some e → Runs m e p q
  unfolding side_from_to
  found-runs e is = grind (arith, common_steps, and_parts, eqb-true, find_below-some, stands-true)

  pub runs-has : (e : ℕ) → Runs m e p q → (k : ℕ) × (side_from_to m p q ≡ Some k)
  unfolding side_from_to
  runs-has e r =
      find_below-has (runs_from_to m p q) (side_count m) e r.stands.is_side
      (and_from (stands m e) (eqb (m.from e) p && eqb (to m e) q) (stands_is_true m e r.stands)
      (and_from (eqb (m.from e) p) (eqb (to m e) q) (eq-eqb (m.from e) p r.begins)
      (eq-eqb (to m e) q r.ends)))

  pub runs-found : NoSideTwice m → (e : ℕ) → Runs m e p q → side_from_to m p q ≡ Some e
  runs-found once e r =
      let (k, is) = runs-has e r in
      let w = found-runs k is in
      is ∙ ap Some (once k e w.stands r.stands (w.begins ∙ sym r.begins) (w.ends ∙ sym r.ends))

  pub none-side : side_from_to m p q ≡ None → HasSide m p q → ⊥
  none-side none (e, r) = let (k, is) = runs-has e r in none-some k (sym none ∙ is)

  pub side-none : (HasSide m p q → ⊥) → side_from_to m p q ≡ None
  side-none never =
      elim (option_cases (side_from_to m p q)) [
        | inl none ↦ none
        | inr (e, is) ↦
            absurd (never (e, found-runs e is))
      ]
