-- Each loop of border sides has one least side.
use Rattle.std.proofs.Common.{◌≡◌, ℕ, zero, suc, ◌*◌, ◌<◌, Bool, true, false, inl, inr, refl}
use Rattle.std.proofs.lemmas.Grind.{common_steps}
use Rattle.std.proofs.Common.{arith}
use Rattle.std.proofs.lemmas.Bool.{cases_Bool, true≢false, and_parts}
use Rattle.std.proofs.lemmas.Bool.{and_cases, leb-false}
use Rattle.pm_forest.specs.Forest.{Hierarchy}
use Rattle.pm_forest.specs.Faces.{face_count}
use Rattle.pm_beyond.specs.Valid.{IsValid}
use Rattle.pm_beyond.specs.Moves.{IsClosed}
use Rattle.pm_manifold.specs.Measure.{border_after, is_least_within, begins_loop}
use Rattle.pm_manifold.specs.Tracing.{IsBorderSideIn, IsInLoop}
use Rattle.pm_manifold.specs.Laws as law
use Rattle.pm_manifold.proofs.Loops.{after-zero, after_border, joins, turns, begins_not}

-- Where a side isn't the least, a lesser one is reached.
lesser : (h : Hierarchy) (T : ℕ → Bool) (e n : ℕ) → is_least_within h T e n ≡ false
    → (i : ℕ) × (i < n) × (border_after h T e i < e)
lesser h T e zero off = absurd (true≢false off)
lesser h T e (suc n) off = grind (arith, common_steps, and_cases, leb-false, lesser h T e n)

module _ (h : Hierarchy) (valid : IsValid h) (T : ℕ → Bool) (closed : IsClosed h T) where
  border-of : (e : ℕ) → e < 3 * face_count h → begins_loop h T e ≡ true → IsBorderSideIn h T e
  unfolding begins_loop
  border-of e l t = grind (arith, common_steps, and_parts)

  not_least : (e : ℕ) → IsBorderSideIn h T e → begins_loop h T e ≡ false
      → is_least_within h T e (3 * face_count h) ≡ false
  unfolding begins_loop
  not_least e b off = grind (arith, common_steps, and_cases)

  record Least (e : ℕ) : Type 0 where
    least : ℕ
    low : least < 3 * face_count h
    begins : begins_loop h T least ≡ true
    leads : IsInLoop h T least e

  find : (n e : ℕ) → e < n → IsBorderSideIn h T e → Least e
  find zero e l b = absurd (omega arith)
  find (suc n) e l b =
      elim (cases_Bool (begins_loop h T e)) [
        | inl t ↦ record { least = e; low = b.low; begins = t; leads = (0, after-zero h T e) }
        | inr off ↦
            let (i, il, less) = lesser h T e (3 * face_count h) (not_least e b off) in
            let x = border_after h T e i in
            let r = find n x (omega arith) (after_border h valid T closed e i b) in
            record {
              least = r.least;
              low = r.low;
              begins = r.begins;
              leads =
                  joins h valid T closed r.least x e r.leads
                  (turns h valid T closed e x b (i, refl));
            }
      ]

  same_least : (g k e : ℕ) → IsBorderSideIn h T g → IsBorderSideIn h T k → begins_loop h T g ≡ true
      → begins_loop h T k ≡ true → IsInLoop h T g e → IsInLoop h T k e → g ≡ k
  same_least g k e bg bk tg tk a b =
      grind (
        arith,
        common_steps,
        begins_not h valid T closed k g,
        begins_not h valid T closed g k,
        joins h valid T closed g e k a (turns h valid T closed k e bk b),
        joins h valid T closed k e g b (turns h valid T closed g e bg a),
        turns h valid T closed k e bk b,
        turns h valid T closed g e bg a,
      )

pub one_least : law.EachLoopHasOneLeast
one_least h valid T closed e b =
    let r = find h valid T closed (suc e) e (omega arith) b in
    record {
      least = r.least;
      begins = r.begins;
      leads = r.leads;
      only = λ g l t a. same_least h valid T closed g r.least e (border-of h valid T closed g l t)
          (border-of h valid T closed r.least r.low r.begins) t r.begins a r.leads;
    }
