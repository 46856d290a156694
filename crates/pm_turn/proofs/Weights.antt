-- What numbers that pass a test weigh together, and those of one patch.
use Rattle.std.proofs.Common.{◌≡◌, ℕ, zero, suc, ◌+◌, ◌<◌, refl, sym, ap, ◌∙◌, Bool, true, false}
use Rattle.std.proofs.lemmas.Grind.{common_steps}
use Rattle.std.proofs.Common.{◌&&◌, arith}
use Rattle.std.specs.Prelude.{◌==◌, if◌then◌else◌}
use Rattle.pm_turn.specs.Choice.{weight}
use Rattle.pm_turn.proofs.Totals.{in_patch, out_of_patch}

pub weight-zero : (w : ℕ → ℕ) (p : ℕ → Bool) → weight w p zero ≡ 0
unfolding weight
weight-zero w p = refl

pub weight-true : (w : ℕ → ℕ) (p : ℕ → Bool) (n : ℕ) → p n ≡ true
    → weight w p (suc n) ≡ w n + weight w p n
unfolding weight
weight-true w p n e = ap (λ (b : Bool). (if b then w n else 0) + weight w p n) e

pub weight-false : (w : ℕ → ℕ) (p : ℕ → Bool) (n : ℕ) → p n ≡ false
    → weight w p (suc n) ≡ weight w p n
unfolding weight
weight-false w p n e =
    let h : (if p n then w n else 0) + weight w p n ≡ 0 + weight w p n =
    ap (λ (b : Bool). (if b then w n else 0) + weight w p n) e in
    omega (arith, h)

pub weight_same : (v w : ℕ → ℕ) (p q : ℕ → Bool) (n : ℕ) → ((i : ℕ) → i < n → v i ≡ w i)
    → ((i : ℕ) → i < n → p i ≡ q i) → weight v p n ≡ weight w q n
weight_same v w p q zero e h = weight-zero v p ∙ sym (weight-zero w q)
weight_same v w p q (suc n) e h =
    grind (arith, common_steps, weight-false, weight-true, weight_same v w p q n)

weight_none : (w : ℕ → ℕ) (p : ℕ → Bool) (n : ℕ) → ((i : ℕ) → i < n → p i ≡ false)
    → weight w p n ≡ 0
weight_none w p zero h = weight-zero w p
weight_none w p (suc n) h =
    weight-false w p n (h n (omega arith)) ∙ weight_none w p n (λ i l. h i (omega (arith, l)))

-- Tests of the faces of one patch.
pub patch_weight : (w root : ℕ → ℕ) (r n : ℕ) (p q : ℕ → Bool)
    → ((f : ℕ) → f < n → root f ≡ r → p f ≡ q f)
    → weight w (λ f. (root f == r) && p f) n ≡ weight w (λ f. (root f == r) && q f) n
patch_weight w root r n p q h = grind (arith, common_steps, weight_same, in_patch, out_of_patch)

pub no_weight : (w root : ℕ → ℕ) (r n : ℕ) (p : ℕ → Bool)
    → ((f : ℕ) → f < n → root f ≡ r → p f ≡ false)
    → weight w (λ f. (root f == r) && p f) n ≡ 0
no_weight w root r n p h = grind (arith, common_steps, weight_none, in_patch, out_of_patch)
