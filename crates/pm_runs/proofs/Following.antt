-- How two sides that follow one another round a vertex before a split stand after it.
use Rattle.std.proofs.Common.{◌≡◌, ◌≢◌, ℕ, Option, inl, inr, refl, sym, ap, ◌∙◌, subst, arith}
use Rattle.std.proofs.lemmas.Grind.{common_steps}
use Rattle.pm_base.specs.Sides.{Net, next, prev, to, third, Stands, NoSideTwice}
use Rattle.pm_base.specs.Fans.{IsPairAt}
use Rattle.pm_base.proofs.Sides.{next-next-next, stands_next, pair_at}
use Rattle.pm_runs.specs.Pairs.{IsPair as AreEnds}
use Rattle.pm_runs.proofs.Apart.{stood}
use Rattle.pm_runs.proofs.Merges.{turned}
use Rattle.pm_runs.proofs.MergedPairs.{unmoved}
use Rattle.pm_runs.specs.Splits.{IsSplit}
use Rattle.pm_runs.proofs.Facts.{one_twin, twin_beyond, HasNoMirror}
use Rattle.pm_runs.proofs.Split.{merged_name, merged_net, other_end, renamed_face}

module _ (n : Net) (t u s : ℕ) (beyond : ℕ → Option ℕ) (h : IsSplit n t u s beyond)
    (once : NoSideTwice (merged_net n t u s beyond h)) (plain : HasNoMirror n) where
  abbrev net_before : Net
  net_before = merged_net n t u s beyond h

  abbrev name_before : ℕ → ℕ
  name_before x = merged_name n t u s beyond h x

  -- how two sides that follow one another before the split stand after it
  pub data Meets (e g : ℕ) : Type 0 where
    direct : n.from g ≡ n.from e → to n g ≡ third n e → Meets e g
    fan : n.from g ≡ n.from e → IsPairAt n (n.from e) (third n e) (to n g) → Meets e g
    cut : to n g ≡ third n e → IsPairAt n (n.from e) (third n e) (n.from g) → Meets e g

  pub meets : (e g : ℕ) → Stands net_before e → Stands net_before g
      → name_before (n.from e) ≡ name_before (n.from g)
      → name_before (third n e) ≡ name_before (to n g) → Meets e g
  meets e g et gt a b =
      let pt = stands_next net_before (next e) (stands_next net_before e et) in
      let pn = stands_next n (next e) (stands_next n e (stood n t u s h.fresh e et)) in
      let c = ap n.from (next-next-next e) in
      elim (h.kept (prev e) g pt
      (one_twin net_before once (prev e) g (gt, sym a ∙ sym (ap name_before c), sym b))) [
        | inl l ↦ (let (gn, gf, gto) = twin_beyond h (prev e) g pn l in direct (gf ∙ c) gto)
        | inr k ↦
            let (on_there, of, oto) = twin_beyond h (prev e) k.o pn k.meets in
            let O = pair_at n k.o on_there in
            elim k.sides [
              | inl is ↦
                  let (gn, gf, gto) =
                  twin_beyond h k.r g (subst (Stands n) (sym is) (stands_next n k.o on_there))
                  k.leaves in
                  cut (gto ∙ ap n.from is ∙ oto)
                  (renamed_face n t u s beyond h (n.from k.o) (to n k.o) (third n k.o)
                  (n.from e) (third n e) (n.from g) O (of ∙ c) oto (sym (gf ∙ ap (to n) is)))
              | inr is ↦
                  let (gn, gf, gto) =
                  twin_beyond h k.r g
                  (subst (Stands n) (sym is)
                  (stands_next n (next k.o) (stands_next n k.o on_there))) k.leaves in
                  fan (gf ∙ ap (to n) is ∙ ap n.from (next-next-next k.o) ∙ of ∙ c)
                  (renamed_face n t u s beyond h (n.from k.o) (to n k.o) (third n k.o)
                  (n.from e) (third n e) (to n g) O (of ∙ c) oto (sym (gto ∙ ap n.from is)))
            ]
      ]

  pub cut_between : (e g : ℕ) → Stands net_before e → Stands net_before g
      → name_before (n.from e) ≡ name_before (n.from g)
      → name_before (third n e) ≡ name_before (to n g) → n.from e ≢ n.from g
      → IsPairAt n (n.from e) (third n e) (n.from g)
  cut_between e g et gt a b apart =
      elim (meets e g et gt a b) [
        | direct x y ↦ absurd (apart (sym x))
        | fan x y ↦ absurd (apart (sym x))
        | cut x k ↦ k
      ]

  pub stays : (x0 x : ℕ) → name_before x0 ≡ x → x ≢ s → x0 ≡ x
  stays x0 x is ne = (unmoved n t u s h.fresh x0 x is ne).0

  -- a face with two vertices of one new number, and another
  pub old_face : {a b c : ℕ} (f : IsPairAt n a b c) → name_before a ≢ name_before b
      → name_before b ≢ name_before c → name_before c ≢ name_before a → Stands net_before f.side
  old_face f a b c = grind (arith, common_steps)

  -- which end takes the other place
  pub second_end : (p q z : ℕ) → AreEnds t u p q → AreEnds t u z p → z ≡ q
  second_end p q z ends e =
      sym (other_end n t u s beyond h p q p z ends (turned t u z p e) refl)

  pub other_of : (p q p' q' : ℕ) → AreEnds t u p q → AreEnds t u p' q' → p' ≢ p
      → (p' ≡ q) × (q' ≡ p)
  other_of p q p' q' (inl (a, b)) (inl (c, d)) ne = absurd (ne (c ∙ sym a))
  other_of p q p' q' (inl (a, b)) (inr (c, d)) ne = (c ∙ sym b, d ∙ sym a)
  other_of p q p' q' (inr (a, b)) (inl (c, d)) ne = (c ∙ sym b, d ∙ sym a)
  other_of p q p' q' (inr (a, b)) (inr (c, d)) ne = absurd (ne (c ∙ sym a))
