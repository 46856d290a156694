-- Nets with the same faces there, whatever they keep of dropped ones: all that is said of one holds
-- of the other.
use Rattle.std.proofs.Common.{◌≡◌, ℕ, Option, Some, None, refl, sym, ◌∙◌, arith}
use Rattle.std.proofs.lemmas.Grind.{common_steps}
use Rattle.pm_base.specs.Sides.{Net, to, third, Stands}
use Rattle.pm_runs.specs.Surfaces.{merge}
use Rattle.pm_runs.specs.Merged.{IsProper, StandsAcross, Alike, merged}
use Rattle.pm_runs.proofs.Around.{agrees-sym}

module _ (m n : Net) (alike : Alike m n) where
  pub same_side : (e : ℕ) → Stands m e → Stands n e × (n.from e ≡ m.from e) × (to n e ≡ to m e)
      × (third n e ≡ third m e)
  same_side e st = let f = (alike (m.from e)).forth e st refl in (f.0, f.1, f.2, f.3)

  pub back_side : (e : ℕ) → Stands n e → Stands m e × (m.from e ≡ n.from e) × (to m e ≡ to n e)
      × (third m e ≡ third n e)
  back_side e st = (alike (n.from e)).back e st refl

  pub alike-across : (e : ℕ) (r : Option ℕ) → Stands m e → StandsAcross m e r → StandsAcross n e r
  alike-across e None st border = grind (arith, common_steps, back_side, same_side e st)
  alike-across e (Some g) st w = grind (arith, common_steps, same_side e st, same_side g w.stands)

  pub alike-proper : IsProper m → IsProper n
  alike-proper proper = record {
    once = λ e g st st' a b. let f = back_side e st in let k =
        back_side g st' in proper.once e g f.0 k.0 (f.1 ∙ a ∙ sym k.1) (f.2 ∙ b ∙ sym k.2);
    no_mirror = λ e g st st' a b c. let f = back_side e st in let k =
        back_side g st' in
        proper.no_mirror e g f.0 k.0 (k.1 ∙ a ∙ sym f.2) (k.2 ∙ b ∙ sym f.1) (k.3 ∙ c ∙ sym f.3);
  }

merged_half : (m n : Net) → Alike m n → (t u s p e : ℕ) → Stands (merged m t u s) e
    → merge t u s (m.from e) ≡ p → Stands (merged n t u s) e × (merge t u s (n.from e) ≡ p)
    × (merge t u s (to n e) ≡ merge t u s (to m e))
    × (merge t u s (third n e) ≡ merge t u s (third m e))
merged_half m n alike t u s p e st is = grind (arith, common_steps, same_side m n alike e)

pub alike-merged : (m n : Net) → Alike m n → (t u s : ℕ) → Alike (merged m t u s) (merged n t u s)
alike-merged m n alike t u s p = record {
  forth = λ e st is. merged_half m n alike t u s p e st is;
  back = λ e st is. merged_half n m (λ q. agrees-sym m n q (alike q)) t u s p e st is;
}
