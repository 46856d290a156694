-- A split keeps the fan of each vertex that is no end.
use Rattle.std.proofs.Common.{◌≡◌, ◌≢◌, ℕ, Option, ◌⊎◌, inl, inr, refl, sym, ap, ◌∙◌, subst, arith}
use Rattle.std.proofs.lemmas.Grind.{common_steps}
use Rattle.std.proofs.lemmas.Bool.{cases_eq}
use Rattle.pm_base.specs.Sides.{Net, side_count, next, prev, to, third, Stands, NoSideTwice}
use Rattle.pm_base.specs.Fans.{IsPairAt}
use Rattle.pm_base.specs.Rounds.{Goes, stay, on, IsRound}
use Rattle.pm_base.proofs.Search.{search_below}
use Rattle.pm_base.proofs.Sides.{next-next-next, stands_next, turn, back, corner-first}
use Rattle.pm_base.proofs.Sides.{first-second, second-corner, one_side, one_second}
use Rattle.pm_base.proofs.Rounds.{IsFirst, append, uncons, ends_first}
use Rattle.pm_runs.specs.Pairs.{IsPair as AreEnds}
use Rattle.pm_runs.proofs.Apart.{stood}
use Rattle.pm_runs.proofs.Merges.{turned}
use Rattle.pm_runs.proofs.MergedPairs.{new-other, not_s, same_new}
use Rattle.pm_runs.specs.Splits.{IsSplit}
use Rattle.pm_runs.proofs.Facts.{HasNoMirror, Leads, pair_from, leads_by, leads?, begins?}
use Rattle.pm_runs.proofs.Split.{merged_name, merged_net, ends_of, next_ends, by_next}
use Rattle.pm_runs.proofs.Split.{by_prev}
use Rattle.pm_runs.proofs.Split.{meets_old, new_next, renamed_face, no_side_twice_after}
use Rattle.pm_runs.proofs.Following.{direct, fan, cut, meets, stays, old_face, second_end}
use Rattle.pm_runs.proofs.Following.{other_of}

module _ (n : Net) (t u s : ℕ) (beyond : ℕ → Option ℕ) (h : IsSplit n t u s beyond)
    (once : NoSideTwice (merged_net n t u s beyond h)) (plain : HasNoMirror n) where
  abbrev net_before : Net
  net_before = merged_net n t u s beyond h

  abbrev name_before : ℕ → ℕ
  name_before x = merged_name n t u s beyond h x

  abbrev single : NoSideTwice n
  single = no_side_twice_after n t u s beyond h once

  -- Away from the ends
  module _ (v : ℕ) (vs : v ≢ s) (vt : v ≢ t) (vu : v ≢ u) where
    v-is : name_before v ≡ v
    v-is = new-other n t u s h.fresh v vt vu

    apart_v : (x : ℕ) → v ≢ x → x ≢ s → name_before v ≢ name_before x
    apart_v x ne xs is = grind (arith, common_steps, same_new n t u s h.fresh v x vs xs is)

    old_away : {x y : ℕ} (f : IsPairAt n v x y) → name_before x ≢ name_before y
        → Stands net_before f.side
    old_away {x} {y} f ne =
        old_face n t u s beyond h once plain f
        (apart_v x (corner-first n v x y f) (not_s n t u s h.fresh (turn n v x y f)))
        ne
        (λ i. apart_v y (λ e. second-corner n v x y f (sym e))
        (not_s n t u s h.fresh (back n v x y f)) (sym i))

    before : {x y : ℕ} (f : IsPairAt n v x y) → Stands net_before f.side
        → IsPairAt net_before v (name_before x) (name_before y)
    before f there = grind (arith, common_steps, v-is)

    at_v : {x y : ℕ} (f : IsPairAt net_before v x y) → IsPairAt n v (to n f.side) (third n f.side)
    at_v f = pair_from n v (to n f.side) f.side (stood n t u s h.fresh f.side f.stands)
        (stays n t u s beyond h once plain (n.from f.side) v f.at vs) refl

    module _ (a y0 : ℕ) (f0 : IsPairAt net_before v a y0) where
      goes_after : {c x : ℕ} → Goes net_before v c x → c ≡ a
          → (y : ℕ) (f : IsPairAt net_before v x y) → Goes n v (to n f0.side) (to n f.side)
      goes_after {c} stay is y f =
          let same = one_side net_before once f0 (subst (λ i. IsPairAt net_before v i y) is f) in
          subst (λ i. Goes n v (to n f0.side) (to n i)) same stay
      goes_after (on {x = z} {y = x} w g) is y f =
          let r = on (goes_after w is x g) (at_v g) in
          let fv = stays n t u s beyond h once plain (n.from f.side) v f.at vs in
          let gv = stays n t u s beyond h once plain (n.from g.side) v g.at vs in
          elim (meets n t u s beyond h once plain g.side f.side g.stands f.stands (g.at ∙ sym f.at)
          (g.two ∙ sym f.one)) [
            | direct p q ↦ subst (λ i. Goes n v (to n f0.side) i) (sym q) r
            | fan p k ↦ on r (subst (λ i. IsPairAt n i (third n g.side) (to n f.side)) gv k)
            | cut p k ↦ absurd
                (second-corner n (n.from g.side) (third n g.side) (n.from f.side) k (fv ∙ sym gv))
          ]

      module _ (all : (x y : ℕ) → IsPairAt net_before v x y → Goes net_before v a x) where
        reach_side : (e : ℕ) → Stands net_before e → n.from e ≡ v → Goes n v (to n f0.side) (to n e)
        reach_side e there at =
            let f = pair_from net_before v (name_before (to n e)) e there
            (ap name_before at ∙ v-is) refl in
            goes_after (all (name_before (to n e)) (name_before (third n e)) f) refl
            (name_before (third n e)) f

        reach_old : {x y : ℕ} (f : IsPairAt n v x y) → Stands net_before f.side
            → Goes n v (to n f0.side) x
        reach_old f there =
            subst (λ i. Goes n v (to n f0.side) i) f.one (reach_side f.side there f.at)

        -- a new pair to whose first something leads
        reaches_new : (p q : ℕ) → AreEnds t u p q → IsPairAt n v p q → Leads n p v
            → Goes n v (to n f0.side) p
        reaches_new p q ends f (z, g) =
            let g' = back n z p v (back n p v z g) in
            elim (cases_eq z q) [
              | inl is ↦ absurd (plain v p q f (subst (λ i. IsPairAt n v i p) is g'))
              | inr ne ↦
                  let old = old_away g'
                  (λ i. elim (same_new n t u s h.fresh z p
                  (not_s n t u s h.fresh (turn n v z p g'))
                  (not_s n t u s h.fresh (back n v z p g')) i) [
                    | inl e ↦ first-second n v z p g' e
                    | inr (k, e) ↦ ne (second_end n t u s beyond h once plain p q z ends e)
                  ]) in
                  on (reach_old g' old) g'
            ]

        -- or to which nothing leads
        starts_after_new : (p q : ℕ) → AreEnds t u p q → (f : IsPairAt n v p q) → (Leads n p v → ⊥)
            → to n f0.side ≡ q
        starts_after_new p q ends f none =
            let k = turn n v p q f in
            let (a1, a2, a3, at) = next_ends n t u s beyond h k in
            elim (meets_old n t u s beyond h p q v ends k) [
              | by_prev b bt bn l b_p b_v ↦ absurd (none (leads_by n p v b bn b_p b_v))
              | by_next b bt bn l b_v b_q ↦
                  let F = pair_from net_before v (name_before q) b bt (ap name_before b_v ∙ v-is)
                  (ap name_before b_q) in
                  let first : IsFirst net_before v (name_before q) = λ z g.
                  let g_v = stays n t u s beyond h once plain (n.from g.side) v g.at vs in
                  let gn = stood n t u s h.fresh g.side g.stands in
                  let G : IsPairAt n v (to n g.side) (third n g.side) = at_v g in
                  elim (meets n t u s beyond h once plain g.side b g.stands bt
                  (g.at ∙ sym (ap name_before b_v ∙ v-is)) (g.two ∙ sym (ap name_before b_q))) [
                    | direct x y ↦
                        let pg = stands_next n (next g.side) (stands_next n g.side gn) in
                        let same = single (prev g.side) (next k.side) pg at (sym y ∙ b_q ∙ sym a1)
                        (ap n.from (next-next-next g.side) ∙ g_v ∙ sym a2) in
                        new_next n t u s beyond h p q v ends k
                        (subst (Stands net_before) same
                        (stands_next net_before (next g.side)
                        (stands_next net_before g.side g.stands)))
                    | fan x y ↦
                        elim (same_new n t u s h.fresh (third n g.side) q
                        (not_s n t u s h.fresh (back n v (to n g.side) (third n g.side) G))
                        (not_s n t u s h.fresh (turn n p q v k)) g.two) [
                          | inl e ↦ first-second n (n.from g.side) (third n g.side) (to n b) y
                              (e ∙ sym b_q)
                          | inr (i, e) ↦
                              let third_p : third n g.side ≡ p =
                              second_end n t u s beyond h once plain q p (third n g.side)
                              (turned t u p q ends) e in
                              none (
                                to n g.side,
                                subst (λ j. IsPairAt n j v (to n g.side)) third_p
                                    (back n v (to n g.side) (third n g.side) G),
                              )
                        ]
                    | cut x y ↦ second-corner n (n.from g.side) (third n g.side) (n.from b) y
                        (b_v ∙ sym g_v)
                  ] in
                  let is = ends_first net_before once v
                  (all (name_before q) (name_before (third n b)) F) first in
                  let same = one_side net_before once f0
                  (subst (λ i. IsPairAt net_before v i (name_before (third n b))) (sym is) F) in
                  rw same b_q
            ]

        gather : (a1 : ℕ) → Goes n v a1 (to n f0.side)
            → ((p q : ℕ) → AreEnds t u p q → IsPairAt n v p q → Goes n v a1 p) → IsRound n v
        gather a1 w new_pairs = (
          a1,
          λ x y f.
              elim (cases_eq (name_before x) (name_before y)) [
                | inl is ↦ new_pairs x y
                    (ends_of n t u s beyond h (turn n v x y f) (back n v x y f) is
                    (first-second n v x y f)) f
                | inr ne ↦ append n v w (reach_old f (old_away f ne))
              ],
        )

        -- starting at a new pair
        round_from_new : (p q : ℕ) → AreEnds t u p q → (f : IsPairAt n v p q) → (Leads n p v → ⊥)
            → IsRound n v
        round_from_new p q ends f none =
            let is = starts_after_new p q ends f none in
            gather p (subst (λ i. Goes n v p i) (sym is) (on stay f)) (λ p' q' ends' f'.
            elim (cases_eq p' p) [
              | inl e ↦ subst (λ i. Goes n v p i) (sym e) stay
              | inr ne ↦
                  let p'q = other_of n t u s beyond h once plain p q p' q' ends ends' ne in
                  absurd (plain v p q f
                  (renamed_face n t u s beyond h v p' q' v q p f' refl p'q.0 p'q.1))
            ])

        starts_new? : (p q : ℕ) → (IsPairAt n v p q × (Leads n p v → ⊥))
            ⊎ (IsPairAt n v p q → Leads n p v)
        starts_new? p q =
            elim (leads? n p v) [
              | inl has ↦ inr (λ f. has)
              | inr none ↦
                  elim (leads? n v p) [
                    | inr never ↦ inr (λ f. absurd (never (q, f)))
                    | inl (z, f) ↦
                        elim (cases_eq z q) [
                          | inl is ↦ inl (subst (λ i. IsPairAt n v p i) is f, none)
                          | inr ne ↦
                              inr (λ g. absurd (ne (one_second n single f g)))
                        ]
                  ]
            ]

        round_at : IsRound n v
        round_at =
            elim (starts_new? t u) [
              | inl (f, none) ↦ round_from_new t u (inl (refl, refl)) f none
              | inr fine ↦
                  elim (starts_new? u t) [
                    | inl (f, none) ↦ round_from_new u t (inr (refl, refl)) f none
                    | inr fine' ↦ gather (to n f0.side) stay (λ p q ends f.
                        elim ends [
                          | inl (x, y) ↦
                              let f' = subst (λ i. IsPairAt n v i u) x
                              (subst (λ i. IsPairAt n v p i) y f) in
                              subst (λ i. Goes n v (to n f0.side) i) (sym x)
                              (reaches_new t u (inl (refl, refl)) f' (fine f'))
                          | inr (x, y) ↦
                              let f' = subst (λ i. IsPairAt n v i t) x
                              (subst (λ i. IsPairAt n v p i) y f) in
                              subst (λ i. Goes n v (to n f0.side) i) (sym x)
                              (reaches_new u t (inr (refl, refl)) f' (fine' f'))
                        ])
                  ]
            ]

    -- with no face at v before there is none after
    none_at : ((e : ℕ) → Stands net_before e → net_before.from e ≡ v → ⊥) → IsRound n v
    none_at none = (
      0,
      λ x y f.
          elim (cases_eq (name_before x) (name_before y)) [
            | inr ne ↦ absurd (none f.side (old_away f ne) (ap name_before f.at ∙ v-is))
            | inl is ↦
                let ends = ends_of n t u s beyond h (turn n v x y f) (back n v x y f) is
                (first-second n v x y f) in
                elim (meets_old n t u s beyond h x y v ends (turn n v x y f)) [
                  | by_next b bt bn l b_v b_y ↦ absurd (none b bt (ap name_before b_v ∙ v-is))
                  | by_prev b bt bn l b_x b_v ↦ absurd
                      (none (next b) (stands_next net_before b bt) (ap name_before b_v ∙ v-is))
                ]
          ],
    )

    pub round_away : IsRound net_before v → IsRound n v
    round_away (a, all) =
        elim (search_below (λ e. Stands net_before e × (net_before.from e ≡ v))
        (begins? net_before v) (side_count net_before)) [
          | inr none ↦ none_at (λ e et at. none e et.is_side (et, at))
          | inl (e, l, (et, at)) ↦
              let f = pair_from net_before v (to net_before e) e et at refl in
              elim (uncons net_before once v (all (to net_before e) (third net_before e) f)) [
                | inl is ↦ round_at a (third net_before e)
                    (subst (λ i. IsPairAt net_before v i (third net_before e)) (sym is) f) all
                | inr (b, g, w) ↦ round_at a b g all
              ]
        ]
