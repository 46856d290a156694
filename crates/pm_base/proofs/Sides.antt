-- Sides of a face, and the pairs at a vertex: turning a face, and what stands once.
use Rattle.std.proofs.Common.{◌≡◌, ◌≢◌, ℕ, ◌+◌, ◌-◌, ◌*◌, ◌%◌, ◌<◌, ◌⊎◌, refl, sym, ap}
use Rattle.std.proofs.lemmas.Grind.{common_steps}
use Rattle.std.proofs.Common.{◌∙◌, subst, arith}
use Rattle.std.proofs.lemmas.Bool.{eq-eqb, ne_eqb, cond-true, cond-false}
use Rattle.pm_base.specs.Sides.{Net, face_of, next, prev, to, third, Stands, NoSideTwice}
use Rattle.pm_base.specs.Fans.{IsPairAt}

pub next_cases : (e : ℕ) → ((e % 3 ≡ 2) × (next e ≡ e - 2)) ⊎ ((e % 3 ≢ 2) × (next e ≡ e + 1))
unfolding next
next_cases e = grind (arith, common_steps, cond-false, cond-true, eq-eqb, ne_eqb)

pub next-next-next : (e : ℕ) → next (next (next e)) ≡ e
next-next-next e = let a = next_cases e in let b = next_cases (next e) in let c =
    next_cases (next (next e)) in omega arith

pub next-lt : (n e : ℕ) → e < 3 * n → next e < 3 * n
next-lt n e l = let a = next_cases e in omega arith

pub face_of-next : (e : ℕ) → face_of (next e) ≡ face_of e
face_of-next e = let a = next_cases e in omega arith

-- A side of the same face is the side itself or one of the other two.
pub face_cases : (e g : ℕ) → face_of e ≡ face_of g → (g ≡ e) ⊎ ((g ≡ next e) ⊎ (g ≡ prev e))
face_cases e g f = grind (arith, common_steps, next_cases e, next_cases (next e))

-- The next side stands with its face.
pub stands_next : (m : Net) (e : ℕ) → Stands m e → Stands m (next e)
stands_next m e t = grind (arith, common_steps, next-lt m.faces e t.is_side, next-next-next e)

-- A face is seen from each of its corners.
abbrev pub turn : (m : Net) (v x y : ℕ) → IsPairAt m v x y → IsPairAt m x y v
turn m v x y f = record {
  side = next f.side;
  stands = stands_next m f.side f.stands;
  at = f.one;
  one = f.two;
  two = ap m.from (next-next-next f.side) ∙ f.at;
}

abbrev pub back : (m : Net) (v x y : ℕ) → IsPairAt m v x y → IsPairAt m y v x
back m v x y f = turn m x y v (turn m v x y f)

pub corner-first : (m : Net) (v x y : ℕ) → IsPairAt m v x y → v ≢ x
corner-first m v x y f is = f.stands.first (f.at ∙ is ∙ sym f.one)

pub first-second : (m : Net) (v x y : ℕ) → IsPairAt m v x y → x ≢ y
first-second m v x y f is = f.stands.second (f.one ∙ is ∙ sym f.two)

pub second-corner : (m : Net) (v x y : ℕ) → IsPairAt m v x y → y ≢ v
second-corner m v x y f is = f.stands.last (f.two ∙ is ∙ sym f.at)

-- The pair of a side's own face at the vertex from which it runs.
abbrev pub pair_at : (m : Net) (e : ℕ) → Stands m e → IsPairAt m (m.from e) (to m e) (third m e)
pair_at m e t = record { side = e; stands = t; at = refl; one = refl; two = refl }

module _ (m : Net) (once : NoSideTwice m) where
  -- The firsts of the pairs at a vertex are distinct, each with its face.
  pub one_side : {v x y z : ℕ} (f : IsPairAt m v x y) (g : IsPairAt m v x z) → f.side ≡ g.side
  one_side f g = once f.side g.side f.stands g.stands (f.at ∙ sym g.at) (f.one ∙ sym g.one)

  pub one_second : {v x y z : ℕ} → IsPairAt m v x y → IsPairAt m v x z → y ≡ z
  one_second f g = sym f.two ∙ ap (λ e. third m e) (one_side f g) ∙ g.two

  pub one_first : {v x y z : ℕ} → IsPairAt m v x z → IsPairAt m v y z → x ≡ y
  one_first {v} {x} {y} {z} f g = one_second (back m v x z f) (back m v y z g)

  -- And the seconds.
  pub one_side_in : {v x y z : ℕ} (f : IsPairAt m v x z) (g : IsPairAt m v y z) → f.side ≡ g.side
  one_side_in {v} {x} {y} {z} f g =
      one_side f (subst (λ i. IsPairAt m v i z) (sym (one_first f g)) g)
