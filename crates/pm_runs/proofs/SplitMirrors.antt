-- A split keeps that no two faces have the same corners.
use Rattle.std.proofs.Common.{◌≡◌, ℕ, Option, ◌⊎◌, inl, inr, sym, ap, ◌∙◌, subst, arith}
use Rattle.std.proofs.lemmas.Grind.{common_steps}
use Rattle.pm_base.specs.Sides.{Net, next, prev, to, third, Stands, NoSideTwice}
use Rattle.pm_base.specs.Fans.{IsPairAt}
use Rattle.pm_base.proofs.Sides.{turn, back}
use Rattle.pm_runs.proofs.Merges.{turned}
use Rattle.pm_runs.specs.Pairs.{IsPair as AreEnds}
use Rattle.pm_runs.specs.Splits.{IsSplit}
use Rattle.pm_runs.proofs.Facts.{HasNoMirror}
use Rattle.pm_runs.proofs.Split.{merged_name, merged_net, old_or_new, next_ends, prev_ends}
use Rattle.pm_runs.proofs.Split.{meets_old, by_next, by_prev, new_next, new_prev, renamed_face}
use Rattle.pm_runs.proofs.Split.{no_side_twice_after}

module _ (n : Net) (t u s : ℕ) (beyond : ℕ → Option ℕ) (h : IsSplit n t u s beyond)
    (once : NoSideTwice (merged_net n t u s beyond h)) where
  abbrev net_before : Net
  net_before = merged_net n t u s beyond h

  abbrev name_before : ℕ → ℕ
  name_before x = merged_name n t u s beyond h x

  -- No two new faces have the same corners
  no_two : (p q w : ℕ) → AreEnds t u p q → IsPairAt n p q w → IsPairAt n q p w → ⊥
  no_two p q w k f g =
      let (a1', a2', a3', at') = next_ends n t u s beyond h g in
      let (c1', c2', c3', ct') = prev_ends n t u s beyond h g in
      elim (meets_old n t u s beyond h p q w k f) [
        | by_next b bt bn l bf bto ↦
            new_prev n t u s beyond h q p w (turned t u p q k) g
            (subst (Stands net_before)
            (no_side_twice_after n t u s beyond h once b (prev g.side) bn ct'
            (bf ∙ sym c1') (bto ∙ sym c2')) bt)
        | by_prev b bt bn l bf bto ↦
            new_next n t u s beyond h q p w (turned t u p q k) g
            (subst (Stands net_before)
            (no_side_twice_after n t u s beyond h once b (next g.side) bn at'
            (bf ∙ sym a1') (bto ∙ sym a2')) bt)
      ]

  -- the corners of a face, as its side stands in another form of it
  new_mirror : (v x y : ℕ) (f : IsPairAt n v x y) → IsPairAt n v y x → (p q w : ℕ) → AreEnds t u p q
      → (k : IsPairAt n p q w)
      → ((f.side ≡ k.side) ⊎ ((f.side ≡ next k.side) ⊎ (f.side ≡ prev k.side))) → ⊥
  new_mirror v x y f g p q w ends k which =
      let (a1, a2, a3, at) = next_ends n t u s beyond h k in
      let (c1, c2, c3, ct) = prev_ends n t u s beyond h k in
      elim which [
        | inl is ↦
            -- v = p, x = q, y = w
            let vp = sym f.at ∙ ap n.from is ∙ k.at in
            let xq = sym f.one ∙ ap (to n) is ∙ k.one in
            let yw = sym f.two ∙ ap (third n) is ∙ k.two in
            no_two p q w ends k
            (back n p w q (renamed_face n t u s beyond h v y x p w q g vp yw xq))
        | inr o ↦
            elim o [
              | inl is ↦
                  -- v = q, x = w, y = p
                  let vq = sym f.at ∙ ap n.from is ∙ a1 in
                  let xw = sym f.one ∙ ap (to n) is ∙ a2 in
                  let yp = sym f.two ∙ ap (third n) is ∙ a3 in
                  no_two p q w ends k (renamed_face n t u s beyond h v y x q p w g vq yp xw)
              | inr is ↦
                  -- v = w, x = p, y = q
                  let vw = sym f.at ∙ ap n.from is ∙ c1 in
                  let xp = sym f.one ∙ ap (to n) is ∙ c2 in
                  let yq = sym f.two ∙ ap (third n) is ∙ c3 in
                  no_two p q w ends k
                  (turn n w q p (renamed_face n t u s beyond h v y x w q p g vw yq xp))
            ]
      ]

  pub no_mirror_after : HasNoMirror net_before → HasNoMirror n
  no_mirror_after plain v x y f g =
      elim (old_or_new n t u s beyond h f.side f.stands) [
        | inl fo ↦
            let f' : IsPairAt net_before (name_before v) (name_before x)
            (name_before y) = record {
              side = f.side;
              stands = fo;
              at = ap name_before f.at;
              one = ap name_before f.one;
              two = ap name_before f.two;
            } in
            let go : Stands net_before g.side = grind (arith, common_steps) in
            plain (name_before v) (name_before x) (name_before y) f'
            (record {
              side = g.side;
              stands = go;
              at = ap name_before g.at;
              one = ap name_before g.one;
              two = ap name_before g.two;
            })
        | inr k ↦ new_mirror v x y f g k.p k.q k.w k.are_ends k.face k.which
      ]
