-- The sides of two meshes put together: those of the one and those of the other.
use Rattle.std.proofs.Common.{◌≡◌, ℕ, ◌+◌, ◌-◌, ◌*◌, ◌≤◌, ◌⊎◌, inl, inr, refl, sym, ap, ◌∙◌, arith}
use Rattle.std.proofs.lemmas.Grind.{common_steps}
use Rattle.std.proofs.lemmas.Bool.{cases_lt, cond-true, cond-false, lt-ltb, le-ltb}
use Rattle.pm_base.specs.Sides.{Net, side_count, to, third, NoSideTwice}
use Rattle.pm_base.specs.Fans.{IsPairAt}
use Rattle.pm_base.proofs.Sides.{next_cases, pair_at}
use Rattle.pm_seams.specs.Joined.{together, IsOneToOneOn}
use Rattle.pm_seams.proofs.Copies.{IsCopied, pair_in, pair_from, once_in}

-- No side stands in both.
abbrev pub AreApart : Net → Net → Type 0
AreApart a r = (v x y z : ℕ) → IsPairAt a v x y → IsPairAt r v x z → ⊥

-- Each pair of m is one of a or of r, and a side stands twice in m where it does in a or in r, or
-- where it stands in both.
pub record IsSum (m a r : Net) : Type 0 where
  pub left : (v x y : ℕ) → IsPairAt a v x y → IsPairAt m v x y
  pub right : (v x y : ℕ) → IsPairAt r v x y → IsPairAt m v x y
  pub parts : (v x y : ℕ) → IsPairAt m v x y → IsPairAt a v x y ⊎ IsPairAt r v x y
  pub once_left : NoSideTwice m → NoSideTwice a
  pub once_right : NoSideTwice m → NoSideTwice r
  pub apart : NoSideTwice m → AreApart a r
  pub once : NoSideTwice a → NoSideTwice r → AreApart a r → NoSideTwice m

module _ (a r : Net) where
  abbrev m : Net
  m = together a r

  abbrev on : ℕ → ℕ
  on e = 3 * a.faces + e

  itself : {n : Net} → IsOneToOneOn (λ x. x) n
  itself x y p q is = is

  first_copied : IsCopied a (together a r) (λ x. x) (λ e. e)
  first_copied = grind (arith, common_steps, cond-true, lt-ltb)

  second_copied : IsCopied r (together a r) (λ x. x) (λ e. 3 * a.faces + e)
  second_copied = record {
    is_side = λ e l. omega arith;
    turns = λ e l. let p = next_cases e in let q = next_cases (3 * a.faces + e) in omega arith;
    named = λ e l.
        let back : 3 * a.faces + e - side_count a ≡ e = omega arith in
        cond-false _ _ _ (le-ltb (3 * a.faces + e) (side_count a) (omega arith)) ∙ ap r.from back;
  }

  abbrev from_second :
      (v x y : ℕ) (f : IsPairAt (together a r) v x y) → 3 * a.faces ≤ f.side → IsPairAt r v x y
  from_second v x y f high =
      let l = f.stands.is_side in
      pair_from r m on second_copied v x y f (f.side - 3 * a.faces) (omega arith) (omega arith)

  pair_parts : (v x y : ℕ) → IsPairAt (together a r) v x y → IsPairAt a v x y ⊎ IsPairAt r v x y
  pair_parts v x y f =
      let l = f.stands.is_side in
      elim (cases_lt f.side (3 * a.faces)) [
        | inl low ↦ inl (pair_from a m (λ e. e) first_copied v x y f f.side low refl)
        | inr high ↦ inr (from_second v x y f high)
      ]

  no_side_in_both : NoSideTwice (together a r) → AreApart a r
  no_side_in_both once v x y z f g =
      let p = pair_in a m (λ i. i) (λ e. e) first_copied itself v x y f in
      let q = pair_in r m (λ i. i) on second_copied itself v x z g in
      let is : f.side ≡ on g.side =
      once p.side q.side p.stands q.stands (p.at ∙ sym q.at) (p.one ∙ sym q.one) in
      let l = f.stands.is_side in
      omega arith

  once_whole : NoSideTwice a → NoSideTwice r → AreApart a r → NoSideTwice (together a r)
  once_whole first second apart e g se sg begins ends =
      let le = se.is_side in
      let lg = sg.is_side in
      let f : IsPairAt m (m.from e) (to m e) (third m e) = pair_at m e se in
      let h : IsPairAt m (m.from e) (to m e) (third m g) = grind (arith, common_steps) in
      elim (cases_lt e (3 * a.faces)) [
        | inl el ↦
            let fa = pair_from a m (λ i. i) first_copied _ _ _ f e el refl in
            elim (cases_lt g (3 * a.faces)) [
              | inl gl ↦
                  let ha = pair_from a m (λ i. i) first_copied _ _ _ h g gl refl in
                  first e g fa.stands ha.stands (fa.at ∙ sym ha.at) (fa.one ∙ sym ha.one)
              | inr gh ↦
                  let hr = from_second _ _ _ h gh in
                  absurd (apart _ _ _ _ fa hr)
            ]
        | inr eh ↦
            let fr = from_second _ _ _ f eh in
            elim (cases_lt g (3 * a.faces)) [
              | inl gl ↦
                  let ha = pair_from a m (λ i. i) first_copied _ _ _ h g gl refl in
                  absurd (apart _ _ _ _ ha fr)
              | inr gh ↦
                  let hr = from_second _ _ _ h gh in
                  let is : e - 3 * a.faces ≡ g - 3 * a.faces =
                  second (e - 3 * a.faces) (g - 3 * a.faces) fr.stands hr.stands
                  (fr.at ∙ sym hr.at) (fr.one ∙ sym hr.one) in
                  omega arith
            ]
      ]

  pub sums : IsSum (together a r) a r
  sums = record {
    left = pair_in a m (λ i. i) (λ e. e) first_copied itself;
    right = pair_in r m (λ i. i) on second_copied itself;
    parts = pair_parts;
    once_left = once_in a m (λ i. i) (λ e. e) first_copied itself (λ e g is. is);
    once_right = once_in r m (λ i. i) on second_copied itself (λ e g is. omega arith);
    apart = no_side_in_both;
    once = once_whole;
  }
