-- After a split what stands beyond a side is its twin; and the whole law.
use Rattle.std.proofs.Common.{◌≡◌, ◌≢◌, ℕ, Option, Some, None, ◌⊎◌, inl, inr, refl, sym, ap, ◌∙◌}
use Rattle.std.proofs.Common.{arith}
use Rattle.std.proofs.lemmas.Grind.{common_steps}
use Rattle.std.proofs.Common.{subst}
use Rattle.std.proofs.lemmas.Bool.{cases_eq}
use Rattle.std.proofs.lemmas.Option.{none-some, same_Some}
use Rattle.pm_base.specs.Sides.{Net, next, prev, to, third, Stands, NoSideTwice, twin_of}
use Rattle.pm_base.specs.Fans.{IsPairAt, IsOrientedManifold}
use Rattle.pm_base.proofs.Search.{option_cases}
use Rattle.pm_base.proofs.Sides.{next-next-next, stands_next, back, first-second, second-corner}
use Rattle.pm_base.proofs.Sides.{pair_at}
use Rattle.pm_base.proofs.FanLaws.{round_fan, every_round, no_mirror}
use Rattle.pm_runs.specs.Pairs.{IsPair as AreEnds}
use Rattle.pm_runs.specs.Merged.{merged}
use Rattle.pm_runs.proofs.MergedPairs.{not_s}
use Rattle.pm_runs.specs.Splits.{IsSplit}
use Rattle.pm_runs.proofs.Facts.{RunsBack, is_twin, one_twin, twin_beyond, HasNoMirror}
use Rattle.pm_runs.proofs.Split.{merged_name, merged_net, IsNew, old_or_new, next_ends, prev_ends}
use Rattle.pm_runs.proofs.Split.{meets_old, by_next, by_prev}
use Rattle.pm_runs.proofs.Split.{new_next, new_prev, renamed_face, no_side_twice_after}
use Rattle.pm_runs.proofs.SplitMirrors.{no_mirror_after}
use Rattle.pm_runs.proofs.Following.{old_face}
use Rattle.pm_runs.proofs.RoundsAtEnds.{not_end, own_end-is, other_end-is}
use Rattle.pm_runs.proofs.SplitRounds.{rounds_after}

module _ (n : Net) (t u s : ℕ) (beyond : ℕ → Option ℕ) (h : IsSplit n t u s beyond)
    (once : NoSideTwice (merged_net n t u s beyond h)) (plain : HasNoMirror n) where
  abbrev net_before : Net
  net_before = merged_net n t u s beyond h

  abbrev name_before : ℕ → ℕ
  name_before x = merged_name n t u s beyond h x

  abbrev single : NoSideTwice n
  single = no_side_twice_after n t u s beyond h once

  -- a face with one end alone is old
  one_end : (p q a b c : ℕ) → AreEnds t u p q → (f : IsPairAt n a b c) → (b ≡ p) ⊎ (b ≡ q) → a ≢ p
      → a ≢ q → c ≢ p → c ≢ q → Stands net_before f.side
  one_end p q a b c ends f b_is ap_ aq cp cq =
      let ea = not_end n t u s beyond h once plain p q ends a ap_ aq in
      let ec = not_end n t u s beyond h once plain p q ends c cp cq in
      let eb : name_before b ≡ s =
      elim b_is [
        | inl i ↦ ap name_before i ∙ own_end-is n t u s beyond h once plain p q ends
        | inr i ↦ ap name_before i ∙ other_end-is n t u s beyond h once plain p q ends
      ] in
      let fresh_a = not_s n t u s h.fresh f in
      let fresh_c = not_s n t u s h.fresh (back n a b c f) in
      old_face n t u s beyond h once plain f (λ i. fresh_a (sym ea ∙ i ∙ eb))
      (λ i. fresh_c (sym ec ∙ sym i ∙ eb)) (λ i. second-corner n a b c f (sym ec ∙ i ∙ ea))

  beyond_new : (o g : ℕ) → IsNew n t u s beyond h o → beyond o ≡ None → RunsBack n o g → ⊥
  beyond_new o g k lo (gt, gf, gto) =
      let f = k.face in
      let p = k.p in
      let q = k.q in
      let w = k.w in
      let ends = k.are_ends in
      let (a1, a2, a3, at) = next_ends n t u s beyond h f in
      let (c1, c2, c3, ct) = prev_ends n t u s beyond h f in
      let G = pair_at n g gt in
      elim k.which [
        | inl is ↦
            let F : IsPairAt n q p (third n g) = grind (arith, common_steps, renamed_face) in
            none-some F.side (sym lo ∙ ap beyond is ∙ h.inner p q w (third n g) ends f F)
        | inr which ↦
            elim which [
              | inl is ↦
                  let g_w : n.from g ≡ w = gf ∙ ap (to n) is ∙ a2 in
                  let g_q : to n g ≡ q = gto ∙ ap n.from is ∙ a1 in
                  let F : IsPairAt n w q (third n g) = grind (arith, common_steps, renamed_face) in
                  elim (cases_eq (third n g) p) [
                    | inl e ↦ plain p q w f (back n w q p (subst (λ i. IsPairAt n w q i) e F))
                    | inr ne ↦
                        let old = one_end p q w q (third n g) ends F (inr refl)
                        (second-corner n p q w f) (λ i. first-second n p q w f (sym i)) ne
                        (λ i. first-second n w q (third n g) F (sym i)) in
                        elim (meets_old n t u s beyond h p q w ends f) [
                          | by_next b bt bn l bf bto ↦ none-some b (sym lo ∙ ap beyond is ∙ l)
                          | by_prev b bt bn l bf bto ↦
                              let lb = h.back (prev f.side) b ct l in
                              let tw : RunsBack net_before b g = (
                                old,
                                ap name_before (g_w ∙ sym bto),
                                ap name_before g_q
                                    ∙ other_end-is n t u s beyond h once plain p q ends
                                    ∙ sym (ap name_before bf
                                    ∙ own_end-is n t u s beyond h once plain p q ends),
                              ) in
                              elim (h.kept b g bt (one_twin net_before once b g tw)) [
                                | inl l' ↦ new_prev n t u s beyond h p q w ends f
                                    (subst (Stands net_before)
                                    (same_Some g (prev f.side) (sym l' ∙ lb)) old)
                                | inr m ↦
                                    let oo = same_Some m.o (prev f.side) (sym m.meets ∙ lb) in
                                    elim m.sides [
                                      | inl r ↦
                                          let r' : m.r ≡ f.side =
                                          r ∙ ap next oo ∙ next-next-next f.side in
                                          let (x, y, z) =
                                          twin_beyond h m.r g
                                          (subst (Stands n) (sym r') f.stands) m.leaves in
                                          first-second n p q w f
                                          (sym (sym g_w ∙ y ∙ ap (to n) r' ∙ f.one))
                                      | inr r ↦
                                          grind (arith, common_steps, next-next-next, none-some)
                                    ]
                              ]
                        ]
                  ]
              | inr is ↦
                  let g_p : n.from g ≡ p = gf ∙ ap (to n) is ∙ c2 in
                  let g_w : to n g ≡ w = gto ∙ ap n.from is ∙ c1 in
                  let F : IsPairAt n p w (third n g) = grind (arith, common_steps, renamed_face) in
                  elim (cases_eq (third n g) q) [
                    | inl e ↦ plain p q w f (subst (λ i. IsPairAt n p w i) e F)
                    | inr ne ↦
                        let F2 = back n p w (third n g) F in
                        let old2 = one_end p q (third n g) p w ends F2 (inl refl)
                        (second-corner n p w (third n g) F) ne (second-corner n p q w f)
                        (λ i. first-second n p q w f (sym i)) in
                        let old : Stands net_before g =
                        subst (Stands net_before) (next-next-next g)
                        (stands_next net_before (prev g) old2) in
                        elim (meets_old n t u s beyond h p q w ends f) [
                          | by_prev b bt bn l bf bto ↦ none-some b (sym lo ∙ ap beyond is ∙ l)
                          | by_next b bt bn l bf bto ↦
                              let lb = h.back (next f.side) b at l in
                              let tw : RunsBack net_before b g = (
                                old,
                                ap name_before g_p
                                    ∙ own_end-is n t u s beyond h once plain p q ends
                                    ∙ sym (ap name_before bto
                                    ∙ other_end-is n t u s beyond h once plain p q ends),
                                ap name_before (g_w ∙ sym bf),
                              ) in
                              elim (h.kept b g bt (one_twin net_before once b g tw)) [
                                | inl l' ↦ new_next n t u s beyond h p q w ends f
                                    (subst (Stands net_before)
                                    (same_Some g (next f.side) (sym l' ∙ lb)) old)
                                | inr m ↦
                                    let oo = same_Some m.o (next f.side) (sym m.meets ∙ lb) in
                                    elim m.sides [
                                      | inl r ↦ none-some g (sym lo ∙ ap beyond is
                                          ∙ ap beyond (sym (r ∙ ap next oo)) ∙ m.leaves)
                                      | inr r ↦
                                          let r' : m.r ≡ f.side =
                                          r ∙ ap prev oo ∙ next-next-next f.side in
                                          let (x, y, z) =
                                          twin_beyond h m.r g
                                          (subst (Stands n) (sym r') f.stands) m.leaves in
                                          second-corner n p q w f (sym g_w ∙ z ∙ ap n.from r'
                                          ∙ f.at)
                                    ]
                              ]
                        ]
                  ]
            ]
      ]

  beyond_none : (e g : ℕ) → Stands n e → beyond e ≡ None → RunsBack n e g → ⊥
  beyond_none e g et le (gt, gf, gto) =
      elim (old_or_new n t u s beyond h e et) [
        | inr k ↦ beyond_new e g k le (gt, gf, gto)
        | inl eo ↦
            elim (old_or_new n t u s beyond h g gt) [
              | inl go ↦
                  elim (h.kept e g eo
                  (one_twin net_before once e g (go, ap name_before gf, ap name_before gto))) [
                    | inl l ↦ none-some g (sym le ∙ l)
                    | inr m ↦ none-some m.o (sym le ∙ m.meets)
                  ]
              | inr k ↦
                  elim (option_cases (beyond g)) [
                    | inl lg ↦ beyond_new g e k lg (et, sym gto, sym gf)
                    | inr (x, lg) ↦
                        let same = same_Some x e
                        (sym (one_twin n single g x (twin_beyond h g x gt lg))
                        ∙ one_twin n single g e (et, sym gto, sym gf)) in
                        none-some g (sym le ∙ h.back g e gt (lg ∙ ap Some same))
                  ]
            ]
      ]

  pub beyond_is_twin : (e : ℕ) → Stands n e → beyond e ≡ twin_of n e
  beyond_is_twin e et =
      elim (option_cases (beyond e)) [
        | inr (g, l) ↦ l ∙ sym (one_twin n single e g (twin_beyond h e g et l))
        | inl le ↦
            elim (option_cases (twin_of n e)) [
              | inl none ↦ le ∙ sym none
              | inr (g, is) ↦ absurd (beyond_none e g et le (is_twin n e g is))
            ]
      ]

-- The law
pub splits_keep_manifolds : (n : Net) (t u s : ℕ) (beyond : ℕ → Option ℕ) → IsSplit n t u s beyond
    → IsOrientedManifold (merged n t u s)
    → IsOrientedManifold n × ((e : ℕ) → Stands n e → beyond e ≡ twin_of n e)
splits_keep_manifolds n t u s beyond h manifold =
    let once = manifold.no_side_twice in
    let single = no_side_twice_after n t u s beyond h once in
    let plain = no_mirror_after n t u s beyond h once (no_mirror (merged n t u s) manifold) in
    let rounds =
    rounds_after n t u s beyond h once plain (every_round (merged n t u s) manifold) in (
      record {
        no_side_twice = single;
        fans = λ v u. round_fan n single v (plain v) (rounds v);
      },
      beyond_is_twin n t u s beyond h once plain,
    )
