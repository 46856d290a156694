-- The merge of a pair that meets the link condition keeps the chain of faces at each vertex.
use Rattle.std.proofs.Common.{◌≡◌, ◌≢◌, ℕ, ◌⊎◌, inl, inr, refl, sym, ◌∙◌, subst, arith}
use Rattle.std.proofs.lemmas.Grind.{common_steps}
use Rattle.std.proofs.lemmas.Bool.{cases_eq}
use Rattle.pm_base.specs.Sides.{Net, side_count, to, third, NoSideTwice, IsBorderSide, IsBorder}
use Rattle.pm_base.specs.Sides.{twin_of}
use Rattle.pm_base.specs.Fans.{IsPairAt}
use Rattle.pm_base.specs.Rounds.{Goes, stay, on, IsRound}
use Rattle.pm_base.proofs.Search.{Decided, option_cases, search_below}
use Rattle.pm_base.proofs.Sides.{turn, back, corner-first, second-corner}
use Rattle.pm_base.proofs.TwinLaws.{stands?, twin-is, twin-none}
use Rattle.pm_base.proofs.Rounds.{IsFirst, append, spins}
use Rattle.pm_runs.specs.Pairs.{HasSide, Joined}
use Rattle.pm_runs.specs.Steps.{side_from_to}
use Rattle.pm_runs.specs.Merged.{IsFresh, IsLinkable}
use Rattle.pm_runs.proofs.Found.{found-runs, none-side}
use Rattle.pm_runs.proofs.JoinedChains.{joined_round}
use Rattle.pm_runs.proofs.MergedPairs.{new, after, new-other, not_s, image, at_s, from_t, from_u}
use Rattle.pm_runs.proofs.MergedPairs.{away, same_new}

-- A side and its face, as a pair at the vertex from which it runs.
has_pair : (m : Net) (v x y : ℕ) → IsPairAt m v x y → HasSide m v x
has_pair m v x y f = (f.side, record { stands = f.stands; begins = f.at; ends = f.one })

pub side? : (m : Net) (v x : ℕ) → Decided ((y : ℕ) × IsPairAt m v x y)
side? m v x =
    elim (option_cases (side_from_to m v x)) [
      | inr (e, is) ↦ (let r =
          found-runs m v x e is in
          inl (
            third m e,
            record {
              side = e;
              stands = r.stands;
              at = r.begins;
              one = r.ends;
              two = refl;
            },
          ))
      | inl none ↦ inr (λ h. none-side m v x none (has_pair m v x h.0 h.1))
    ]

border_side? : (m : Net) (e : ℕ) → Decided (IsBorderSide m e)
border_side? m e =
    elim (stands? m e) [
      | inr never ↦ inr (λ b. never b.stands)
      | inl st ↦
          elim (option_cases (twin_of m e)) [
            | inl none ↦ inl (record { stands = st; alone = twin-none m e none })
            | inr (g, is) ↦ inr (λ b. b.alone g (twin-is m e g is))
          ]
    ]

pub border? : (m : Net) (v : ℕ) → Decided (IsBorder m v)
border? m v =
    elim (search_below (λ e. IsBorderSide m e × ((m.from e ≡ v) ⊎ (to m e ≡ v))) (λ e.
    elim (border_side? m e) [
      | inr never ↦ inr (λ h. never h.0)
      | inl b ↦ grind (arith, common_steps)
    ]) (side_count m)) [
      | inl (e, l, h) ↦ inl (e, h.0, h.1)
      | inr none ↦ inr (λ h. none h.0 h.1.stands.is_side (h.1, h.2))
    ]

-- At a vertex off the border something leads to each neighbour.
pub closed_or_border : (m : Net) (v : ℕ)
    → IsBorder m v ⊎ ((x y : ℕ) → IsPairAt m v x y → (z : ℕ) × IsPairAt m v z x)
closed_or_border m v =
    elim (border? m v) [
      | inl b ↦ inl b
      | inr never ↦ inr (λ x y f.
          elim (option_cases (twin_of m f.side)) [
            | inl none ↦
                absurd (never
                (f.side, record { stands = f.stands; alone = twin-none m f.side none }, inl f.at))
            | inr (g, is) ↦
                let w = twin-is m f.side g is in (
                  third m g,
                  turn m x v (third m g)
                      (record {
                        side = g;
                        stands = w.stands;
                        at = w.begins ∙ f.one;
                        one = w.ends ∙ f.at;
                        two = refl;
                      }),
                )
          ])
    ]

module _ (m : Net) (once : NoSideTwice m) (t u s : ℕ) (fresh : IsFresh m s)
    (link : IsLinkable m t u) where
  -- where t isn't followed by u, u is followed by t
  joined_pair : Joined m t u → (((y : ℕ) × IsPairAt m t u y) → ⊥) → (w : ℕ) × IsPairAt m u t w
  joined_pair j none =
      elim j [
        | inl (e, r) ↦
            absurd (none (
              third m e,
              record {
                side = e;
                stands = r.stands;
                at = r.begins;
                one = r.ends;
                two = refl;
              },
            ))
        | inr (e, r) ↦ (
          third m e,
          record {
            side = e;
            stands = r.stands;
            at = r.begins;
            one = r.ends;
            two = refl;
          },
        )
      ]

  -- Chains at vertices other than s are renamed
  step_away : (v x y : ℕ) → v ≢ t → v ≢ u → IsPairAt m v x y
      → Goes (after m t u s fresh) v (new m t u s fresh x) (new m t u s fresh y)
  step_away v x y vt vu f =
      let ev : new m t u s fresh v ≡ v = new-other m t u s fresh v vt vu in
      let xs = not_s m t u s fresh (turn m v x y f) in
      let ys = not_s m t u s fresh (back m v x y f) in
      let vs = not_s m t u s fresh f in
      elim (cases_eq (new m t u s fresh x) (new m t u s fresh y)) [
        | inl is ↦ subst (λ i. Goes (after m t u s fresh) v (new m t u s fresh x) i) is stay
        | inr ne ↦
            let a : new m t u s fresh v ≢ new m t u s fresh x =
            λ i. elim (same_new m t u s fresh v x vs xs i) [
              | inl j ↦ corner-first m v x y f j
              | inr (j, k) ↦ vs (sym ev ∙ j)
            ] in
            let b : new m t u s fresh y ≢ new m t u s fresh v =
            λ i. elim (same_new m t u s fresh y v ys vs i) [
              | inl j ↦ second-corner m v x y f j
              | inr (j, k) ↦ vs (sym ev ∙ sym i ∙ j)
            ] in
            on stay (subst
            (λ i. IsPairAt (after m t u s fresh) i (new m t u s fresh x) (new m t u s fresh y))
            ev (image m t u s fresh f a ne b))
      ]

  way_away : (v : ℕ) → v ≢ t → v ≢ u → {a x : ℕ} → Goes m v a x
      → Goes (after m t u s fresh) v (new m t u s fresh a) (new m t u s fresh x)
  way_away v vt vu stay = stay
  way_away v vt vu (on {x = x} {y = y} w f) =
      append (after m t u s fresh) v (way_away v vt vu w) (step_away v x y vt vu f)

  round_away : (v : ℕ) → v ≢ s → IsRound m v → IsRound (after m t u s fresh) v
  round_away v vs (a, all) = (
    new m t u s fresh a,
    λ x y f.
        let (x0, y0, g, ex, ey, vt, vu) = away m t u s fresh v x y vs f in
        subst (λ i. Goes (after m t u s fresh) v (new m t u s fresh a) i) ex
        (way_away v vt vu (all x0 y0 g)),
  )

  -- The chain at s
  at_s_tu : (x y : ℕ) → IsPairAt (after m t u s fresh) s x y → (IsPairAt m t x y × x ≢ u)
      ⊎ (IsPairAt m u x y × x ≢ t)
  at_s_tu x y f = let (k, xt, xu, yt, yu) =
      at_s m t u s fresh x y f in elim k [ inl a ↦ inl (a, xu) | inr a ↦ inr (a, xt) ]

  at_s_ut : (x y : ℕ) → IsPairAt (after m t u s fresh) s x y → (IsPairAt m u x y × x ≢ t)
      ⊎ (IsPairAt m t x y × x ≢ u)
  at_s_ut x y f = let (k, xt, xu, yt, yu) =
      at_s m t u s fresh x y f in elim k [ inl a ↦ inr (a, xu) | inr a ↦ inl (a, xt) ]

  into_t : IsRound m t → IsRound m u → (b : ℕ) → IsPairAt m t u b
      → (IsFirst m t u ⊎ ((x y : ℕ) → IsPairAt m t x y → (z : ℕ) × IsPairAt m t z x))
      → IsRound (after m t u s fresh) s
  into_t rt ru b f k =
      joined_round m (after m t u s fresh) once t u s (from_t m t u s fresh) (from_u m t u s fresh)
      at_s_tu b f rt ru (spins m once t rt u b f k)

  into_u : IsRound m t → IsRound m u → (b : ℕ) → IsPairAt m u t b
      → (IsFirst m u t ⊎ ((x y : ℕ) → IsPairAt m u x y → (z : ℕ) × IsPairAt m u z x))
      → IsRound (after m t u s fresh) s
  into_u rt ru b f k =
      joined_round m (after m t u s fresh) once u t s (from_u m t u s fresh) (from_t m t u s fresh)
      at_s_ut b f ru rt (spins m once u ru t b f k)

  round_s : IsRound m t → IsRound m u → IsRound (after m t u s fresh) s
  round_s rt ru =
      elim (side? m t u) [
        | inl (b, f) ↦
            elim (side? m u t) [
              | inl (c, g) ↦
                  elim (closed_or_border m t) [
                    | inr k ↦ into_t rt ru b f (inr k)
                    | inl bt ↦
                        elim (closed_or_border m u) [
                          | inr k ↦ into_u rt ru c g (inr k)
                          | inl bu ↦ absurd
                              (link.border bt bu (has_pair m t u b f) (has_pair m u t c g))
                        ]
                  ]
              | inr none ↦ into_t rt ru b f (inl (λ x h. none (x, back m t x u h)))
            ]
        | inr none ↦ (let (w, g) = joined_pair link.joined none in
            into_u rt ru w g (inl (λ x h. none (x, back m u x t h))))
      ]

  pub rounds_after : ((v : ℕ) → IsRound m v) → (v : ℕ) → IsRound (after m t u s fresh) v
  rounds_after all v =
      elim (cases_eq v s) [
        | inl is ↦ subst (λ i. IsRound (after m t u s fresh) i) (sym is) (round_s (all t) (all u))
        | inr ne ↦ round_away v ne (all v)
      ]
