-- A split keeps the fan of each end.
use Rattle.std.proofs.Common.{◌≡◌, ◌≢◌, ℕ, eqb, cond, Option, ◌⊎◌, inl, inr, refl, sym, ap, ◌∙◌}
use Rattle.std.proofs.Common.{arith}
use Rattle.std.proofs.lemmas.Grind.{common_steps}
use Rattle.std.proofs.Common.{subst}
use Rattle.std.proofs.lemmas.Bool.{cases_eq, cond-true, cond-false, eq-eqb, ne_eqb}
use Rattle.pm_base.specs.Sides.{Net, side_count, next, prev, to, third, Stands, NoSideTwice}
use Rattle.pm_base.specs.Fans.{IsPairAt}
use Rattle.pm_base.specs.Rounds.{Goes, stay, on, IsRound}
use Rattle.pm_base.proofs.Search.{search_below}
use Rattle.pm_base.proofs.Sides.{next-next-next, stands_next, turn, back, corner-first}
use Rattle.pm_base.proofs.Sides.{first-second, second-corner, pair_at, one_side, one_first}
use Rattle.pm_base.proofs.Rounds.{IsFirst, append, uncons, ends_first}
use Rattle.pm_runs.specs.Pairs.{IsPair as AreEnds}
use Rattle.pm_runs.proofs.Apart.{stood}
use Rattle.pm_runs.proofs.Merges.{turned}
use Rattle.pm_runs.proofs.MergedPairs.{new-t, new-u, new-other, not_s, is_t, is_u, other, kind_of}
use Rattle.pm_runs.specs.Splits.{IsSplit}
use Rattle.pm_runs.proofs.Facts.{HasNoMirror, Leads, pair_from, leads_by, leads?, begins?}
use Rattle.pm_runs.proofs.Split.{merged_name, merged_net, prev_ends, new_prev, by_next}
use Rattle.pm_runs.proofs.Split.{by_prev}
use Rattle.pm_runs.proofs.Split.{meets_old, renamed_face, no_side_twice_after}
use Rattle.pm_runs.proofs.Following.{cut_between, stays, old_face}

module _ (n : Net) (t u s : ℕ) (beyond : ℕ → Option ℕ) (h : IsSplit n t u s beyond)
    (once : NoSideTwice (merged_net n t u s beyond h)) (plain : HasNoMirror n) where
  abbrev net_before : Net
  net_before = merged_net n t u s beyond h

  abbrev name_before : ℕ → ℕ
  name_before x = merged_name n t u s beyond h x

  abbrev single : NoSideTwice n
  single = no_side_twice_after n t u s beyond h once

  pub own_end-is : (p q : ℕ) → AreEnds t u p q → name_before p ≡ s
  own_end-is p q (inl (a, b)) = new-t n t u s h.fresh p a
  own_end-is p q (inr (a, b)) = new-u n t u s h.fresh p a

  pub other_end-is : (p q : ℕ) → AreEnds t u p q → name_before q ≡ s
  other_end-is p q ends = own_end-is q p (turned t u p q ends)

  pub not_end : (p q : ℕ) → AreEnds t u p q → (x : ℕ) → x ≢ p → x ≢ q → name_before x ≡ x
  not_end p q ends x xp xq = grind (arith, common_steps, new-other n t u s h.fresh x)

  end_at : (p q : ℕ) → AreEnds t u p q → (e : ℕ) → Stands n e → name_before (n.from e) ≡ s
      → (n.from e ≡ p) ⊎ (n.from e ≡ q)
  end_at p q ends e there is =
      elim (kind_of n t u s h.fresh (n.from e)) [
        | is_t a b ↦ elim ends [ inl (c, d) ↦ inl (a ∙ sym c) | inr (c, d) ↦ inr (a ∙ sym d) ]
        | is_u a b ↦ elim ends [ inl (c, d) ↦ inr (a ∙ sym d) | inr (c, d) ↦ inl (a ∙ sym c) ]
        | other a b c ↦ absurd (not_s n t u s h.fresh (pair_at n e there) (sym c ∙ is))
      ]

  -- With no face at s before there is no new face.
  none_new : ((e : ℕ) → Stands net_before e → net_before.from e ≡ s → ⊥) → (p q w : ℕ)
      → AreEnds t u p q → IsPairAt n p q w → ⊥
  none_new none p q w ends f =
      elim (meets_old n t u s beyond h p q w ends f) [
        | by_next b bt bn l bf bto ↦ none (next b) (stands_next net_before b bt)
            (ap name_before bto ∙ other_end-is p q ends)
        | by_prev b bt bn l bf bto ↦ none b bt (ap name_before bf ∙ own_end-is p q ends)
      ]

  -- At an end p; q is the other one
  module _ (p q : ℕ) (ends : AreEnds t u p q) where
    ends_apart : p ≢ q
    ends_apart is = grind (arith, common_steps)

    -- a pair at q counts as q
    reached : ℕ → ℕ
    reached e = cond (eqb (n.from e) p) (to n e) q

    reached-own : (e : ℕ) → n.from e ≡ p → reached e ≡ to n e
    unfolding reached
    reached-own e is = cond-true (eqb (n.from e) p) (to n e) q (eq-eqb (n.from e) p is)

    reached-other : (e : ℕ) → n.from e ≡ q → reached e ≡ q
    unfolding reached
    reached-other e is =
        cond-false (eqb (n.from e) p) (to n e) q
        (ne_eqb (n.from e) p (λ i. ends_apart (sym i ∙ is)))

    old_end : {x y : ℕ} (f : IsPairAt n p x y) → x ≢ q → y ≢ q → Stands net_before f.side
    old_end {x} {y} f xq yq =
        let ex = not_end p q ends x (λ i. corner-first n p x y f (sym i)) xq in
        let ey = not_end p q ends y (second-corner n p x y f) yq in
        let xs = not_s n t u s h.fresh (turn n p x y f) in
        let ys = not_s n t u s h.fresh (back n p x y f) in
        old_face n t u s beyond h once plain f (λ i. xs (sym ex ∙ sym i ∙ own_end-is p q ends))
        (λ i. first-second n p x y f (sym ex ∙ i ∙ ey)) (λ i. ys (sym ey ∙ i ∙ own_end-is p q ends))

    module _ (a y0 : ℕ) (f0 : IsPairAt net_before s a y0) where
      goes_to : {x y : ℕ} → x ≡ y → Goes n p (reached f0.side) x → Goes n p (reached f0.side) y
      goes_to is w = subst (λ i. Goes n p (reached f0.side) i) is w

      goes_at_end : {c x : ℕ} → Goes net_before s c x → c ≡ a
          → (y : ℕ) (f : IsPairAt net_before s x y) → Goes n p (reached f0.side) (reached f.side)
      goes_at_end {c} stay is y f =
          let same = one_side net_before once f0 (subst (λ i. IsPairAt net_before s i y) is f) in
          subst (λ i. Goes n p (reached f0.side) (reached i)) same stay
      goes_at_end (on {x = z} {y = x} w g) is y f =
          let r = goes_at_end w is x g in
          let xs : x ≢ s = λ i. corner-first net_before s x y f (sym i) in
          let tg = stays n t u s beyond h once plain (third n g.side) x g.two xs in
          let tf = stays n t u s beyond h once plain (to n f.side) x f.one xs in
          let gn = stood n t u s h.fresh g.side g.stands in
          let fn = stood n t u s h.fresh f.side f.stands in
          elim (end_at p q ends g.side gn g.at) [
            | inl gp ↦
                let r' = on (goes_to (reached-own g.side gp) r)
                (pair_from n p (to n g.side) g.side gn gp refl) in
                elim (end_at p q ends f.side fn f.at) [
                  | inl fp ↦ goes_to (tg ∙ sym tf ∙ sym (reached-own f.side fp)) r'
                  | inr fq ↦
                      let k = cut_between n t u s beyond h once plain g.side f.side g.stands
                      f.stands (g.at ∙ sym f.at) (g.two ∙ sym f.one)
                      (λ i. ends_apart (sym gp ∙ i ∙ fq)) in
                      let k' = renamed_face n t u s beyond h (n.from g.side) (third n g.side)
                      (n.from f.side) p (third n g.side) q k gp refl fq in
                      goes_to (sym (reached-other f.side fq)) (on r' k')
                ]
            | inr gq ↦
                let r' = goes_to (reached-other g.side gq) r in
                elim (end_at p q ends f.side fn f.at) [
                  | inr fq ↦ goes_to (sym (reached-other f.side fq)) r'
                  | inl fp ↦
                      let k = cut_between n t u s beyond h once plain g.side f.side g.stands
                      f.stands (g.at ∙ sym f.at) (g.two ∙ sym f.one)
                      (λ i. ends_apart (sym fp ∙ sym i ∙ gq)) in
                      let k' = renamed_face n t u s beyond h (n.from g.side) (third n g.side)
                      (n.from f.side) q (third n g.side) p k gq refl fp in
                      goes_to (tg ∙ sym tf ∙ sym (reached-own f.side fp))
                      (on r' (back n q (third n g.side) p k'))
                ]
          ]

      module _ (all : (x y : ℕ) → IsPairAt net_before s x y → Goes net_before s a x) where
        reach : (e : ℕ) → Stands net_before e → name_before (n.from e) ≡ s
            → Goes n p (reached f0.side) (reached e)
        reach e there at =
            let f = pair_from net_before s (name_before (to n e)) e there at refl in
            goes_at_end (all (name_before (to n e)) (name_before (third n e)) f) refl
            (name_before (third n e)) f

        reach_face : {x y : ℕ} (f : IsPairAt n p x y) → Stands net_before f.side
            → Goes n p (reached f0.side) x
        reach_face f there =
            goes_to (reached-own f.side f.at ∙ f.one)
            (reach f.side there (ap name_before f.at ∙ own_end-is p q ends))

        reach_q : (e : ℕ) → Stands net_before e → n.from e ≡ q → Goes n p (reached f0.side) q
        reach_q e there at =
            goes_to (reached-other e at) (reach e there (ap name_before at ∙ other_end-is p q ends))

        -- the third corner before q
        reaches_third : (x : ℕ) → IsPairAt n p x q → Leads n x p → Goes n p (reached f0.side) x
        reaches_third x f (z, g) =
            let g' = turn n x p z g in
            let old = old_end g' (λ i. plain p q x (subst (λ j. IsPairAt n p j x) i g') f)
            (first-second n p x q f) in
            on (reach_face g' old) g'

        -- q itself
        reaches_end : (w : ℕ) → IsPairAt n p q w → Leads n w q → Goes n p (reached f0.side) q
        reaches_end w f (z, g) =
            let zp : z ≢ p =
            λ i. plain p q w f (back n w q p (subst (λ j. IsPairAt n w q j) i g)) in
            let ew = not_end p q ends w (second-corner n p q w f)
            (λ i. first-second n p q w f (sym i)) in
            let ez = not_end p q ends z zp (λ i. first-second n w q z g (sym i)) in
            let ws = not_s n t u s h.fresh g in
            let zs = not_s n t u s h.fresh (back n w q z g) in
            let old = old_face n t u s beyond h once plain g
            (λ i. ws (sym ew ∙ i ∙ other_end-is p q ends))
            (λ i. zs (sym ez ∙ sym i ∙ other_end-is p q ends))
            (λ i. second-corner n w q z g (sym ez ∙ i ∙ ew)) in
            reach_q (next g.side) (stands_next net_before g.side old) g.one

        -- from an end to a third corner to which nothing leads there is an old side, the first
        starts_at : (p' q' w : ℕ) → AreEnds t u p' q' → IsPairAt n p' q' w → (Leads n w q' → ⊥)
            → (n.from f0.side ≡ p') × (to n f0.side ≡ w)
        starts_at p' q' w ends' f none =
            let (c1, c2, c3, ct) = prev_ends n t u s beyond h f in
            elim (meets_old n t u s beyond h p' q' w ends' f) [
              | by_next b bt bn l bf bto ↦ absurd (none (leads_by n w q' b bn bf bto))
              | by_prev b bt bn l bf bto ↦
                  let w_is = not_end p' q' ends' w (second-corner n p' q' w f)
                  (λ i. first-second n p' q' w f (sym i)) in
                  let ws = not_s n t u s h.fresh (back n p' q' w f) in
                  let first : IsFirst net_before s w = λ z g.
                  let gn = stood n t u s h.fresh g.side g.stands in
                  let tg = stays n t u s beyond h once plain (third n g.side) w g.two ws in
                  let pn = stands_next n (next g.side) (stands_next n g.side gn) in
                  let c = ap n.from (next-next-next g.side) in
                  elim (end_at p' q' ends' g.side gn g.at) [
                    | inr gq ↦ none (leads_by n w q' (prev g.side) pn tg (c ∙ gq))
                    | inl gp ↦
                        let same = single (prev g.side) (prev f.side) pn ct (tg ∙ sym c1)
                        (c ∙ gp ∙ sym c2) in
                        new_prev n t u s beyond h p' q' w ends' f
                        (subst (Stands net_before) same
                        (stands_next net_before (next g.side)
                        (stands_next net_before g.side g.stands)))
                  ] in
                  let F = pair_from net_before s w b bt (ap name_before bf ∙ own_end-is p' q' ends')
                  (ap name_before bto ∙ w_is) in
                  let is = ends_first net_before once s (all w (name_before (third n b)) F) first in
                  let same = one_side net_before once f0
                  (subst (λ i. IsPairAt net_before s i (name_before (third n b))) (sym is) F) in
                  rw same (bf, bto)
            ]

        starts_at_end : (x : ℕ) → IsPairAt n p x q → (Leads n x p → ⊥) → reached f0.side ≡ q
        starts_at_end x f none = reached-other f0.side
            (starts_at q p x (turned t u p q ends) (back n p x q f) none).0

        starts_at_third : (w : ℕ) → IsPairAt n p q w → (Leads n w q → ⊥) → reached f0.side ≡ w
        starts_at_third w f none =
            let (from_p, to_w) = starts_at p q w ends f none in
            reached-own f0.side from_p ∙ to_w

        gather_end : (a1 : ℕ) → Goes n p a1 (reached f0.side)
            → ((w : ℕ) → IsPairAt n p q w → Goes n p a1 q)
            → ((x : ℕ) → IsPairAt n p x q → Goes n p a1 x) → IsRound n p
        gather_end a1 w at_q before_q = (
          a1,
          λ x y f.
              elim (cases_eq x q) [
                | inl is ↦ subst (λ i. Goes n p a1 i) (sym is)
                    (at_q y (subst (λ i. IsPairAt n p i y) is f))
                | inr xq ↦
                    elim (cases_eq y q) [
                      | inl is ↦ before_q x (subst (λ i. IsPairAt n p x i) is f)
                      | inr yq ↦ append n p w (reach_face f (old_end f xq yq))
                    ]
              ],
        )

        round_at_end : IsRound n p
        round_at_end =
            elim (leads? n q p) [
              | inl (x, k) ↦
                  let f2 = turn n q p x k in
                  elim (leads? n x p) [
                    | inl has ↦
                        gather_end (reached f0.side) stay (λ w f. on (reaches_third x f2 has) f2)
                        (λ x' f'. goes_to (one_first n single f2 f') (reaches_third x f2 has))
                    | inr none ↦
                        gather_end x
                        (subst (λ i. Goes n p x i) (sym (starts_at_end x f2 none)) (on stay f2))
                        (λ w f. on stay f2)
                        (λ x' f'. subst (λ i. Goes n p x i) (one_first n single f2 f') stay)
                  ]
              | inr none ↦
                  let no_x : (x : ℕ) → IsPairAt n p x q → ⊥ = λ x f. none (x, back n p x q f) in
                  elim (leads? n p q) [
                    | inl (w, f) ↦
                        elim (leads? n w q) [
                          | inl has ↦ gather_end (reached f0.side) stay
                              (λ w' f'. reaches_end w f has) (λ x f'. absurd (no_x x f'))
                          | inr bad ↦ gather_end q
                              (subst (λ i. Goes n p q i) (sym (starts_at_third w f bad))
                              (on stay f)) (λ w' f'. stay) (λ x f'. absurd (no_x x f'))
                        ]
                    | inr never ↦ gather_end (reached f0.side) stay (λ w f. absurd (never (w, f)))
                        (λ x f'. absurd (no_x x f'))
                  ]
            ]

    none_at_end : ((e : ℕ) → Stands net_before e → net_before.from e ≡ s → ⊥) → IsRound n p
    none_at_end none = (
      0,
      λ x y f.
          elim (cases_eq x q) [
            | inl is ↦ absurd (none_new none p q y ends (subst (λ i. IsPairAt n p i y) is f))
            | inr xq ↦
                elim (cases_eq y q) [
                  | inr yq ↦ absurd
                      (none f.side (old_end f xq yq) (ap name_before f.at ∙ own_end-is p q ends))
                  | inl is ↦ absurd (none_new none q p x (turned t u p q ends)
                      (back n p x q (subst (λ i. IsPairAt n p x i) is f)))
                ]
          ],
    )

    pub round_end : IsRound net_before s → IsRound n p
    round_end (a, all) =
        elim (search_below (λ e. Stands net_before e × (net_before.from e ≡ s))
        (begins? net_before s) (side_count net_before)) [
          | inr none ↦ none_at_end (λ e et at. none e et.is_side (et, at))
          | inl (e, l, (et, at)) ↦
              let f = pair_from net_before s (to net_before e) e et at refl in
              elim (uncons net_before once s (all (to net_before e) (third net_before e) f)) [
                | inl is ↦ round_at_end a (third net_before e)
                    (subst (λ i. IsPairAt net_before s i (third net_before e)) (sym is) f) all
                | inr (b, g, w) ↦ round_at_end a b g all
              ]
        ]
