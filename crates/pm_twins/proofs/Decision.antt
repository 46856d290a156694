-- A walk round a vertex that is counted decides whether the faces there are a fan.
use Rattle.std.proofs.Common.{◌≡◌, ◌≢◌, ℕ, suc, ◌+◌, ◌<◌, ◌≤◌, eqb, true, Option, Some, None, List}
use Rattle.std.proofs.lemmas.Grind.{common_steps}
use Rattle.std.proofs.Common.{◌⊎◌, ◌↔◌, inl, inr, refl, sym, ap, ◌∙◌, subst, arith}
use Rattle.std.proofs.lemmas.Bool.{eqb-true, eq-eqb, and_parts, and_from}
use Rattle.pm_base.specs.Sides.{Net, side_count, to, third, Stands, stands, NoSideTwice, twin_of}
use Rattle.pm_base.specs.Sides.{around}
use Rattle.pm_base.specs.Fans.{IsPairAt, IsFan}
use Rattle.pm_base.specs.Counts.{count}
use Rattle.pm_base.specs.Rounds.{Goes, IsRound}
use Rattle.pm_base.proofs.Search.{option_cases}
use Rattle.pm_base.proofs.Sides.{turn, back, pair_at}
use Rattle.pm_base.proofs.TwinLaws.{stands-true, stands_is_true, twin-is, twin-none, around-stands}
use Rattle.pm_base.proofs.TwinLaws.{around-injective}
use Rattle.pm_base.proofs.Counts.{count_more, count_full, met, met-parts, met-from, met-count}
use Rattle.pm_base.proofs.Rounds.{spins}
use Rattle.pm_base.proofs.Walks.{after_steps, IsTrail, Stops, Returns, trail-suc, trail-lt}
use Rattle.pm_base.proofs.Walks.{after_steps-suc}
use Rattle.pm_base.proofs.FanWalks.{on_trail, rim, rim-to, cover, trail_fan, three}
use Rattle.pm_base.proofs.FanLaws.{fan_no_mirror, fan_round}
use Rattle.pm_twins.specs.Walks.{begins_at, degree, IsStart, IsWalkable}

module _ (m : Net) (once : NoSideTwice m) (v a : ℕ) (start : Stands m a) (at_v : m.from a ≡ v)
    (k : ℕ) (trail : IsTrail (around m) a k) where
  abbrev at : ℕ → ℕ
  at i = after_steps (around m) a i

  -- Every pair at v is one that the walk has passed.
  abbrev PassesAll : Type 0
  PassesAll = (x y : ℕ) → IsPairAt m v x y → (i : ℕ) × (i < suc k)
      × (x ≡ rim m once v a start at_v k trail i) × (y ≡ rim m once v a start at_v k trail (suc i))

  here : (i : ℕ) → i ≤ k → Stands m (at i) × (m.from (at i) ≡ v)
  here i l = on_trail m once v a start at_v k trail i l

  met_begins : (e : ℕ) → e < side_count m → met at (suc k) e ≡ true → begins_at m v e ≡ true
  met_begins e l t = grind (arith, common_steps, and_from, eq-eqb, here, met-parts, stands_is_true)

  count-met : count (met at (suc k)) (side_count m) ≡ suc k
  count-met = met-count at (suc k) (side_count m) trail.distinct
      (λ i l. (here i (omega arith)).0.is_side)

  -- Where the walk has passed as many faces as there are, it has passed all.
  all_passed : suc k ≡ degree m v → PassesAll
  all_passed same x y f =
      let b = and_from (stands m f.side) (eqb (m.from f.side) v) (stands_is_true m f.side f.stands)
      (eq-eqb (m.from f.side) v f.at) in
      let t = count_full (met at (suc k)) (begins_at m v) (side_count m) met_begins
      (count-met ∙ same) f.side f.stands.is_side b in
      let (i, l, is) = met-parts at (suc k) f.side t in (
        i,
        l,
        sym f.one ∙ ap (to m) is ∙ sym (rim-to m once v a start at_v k trail i (omega arith)),
        sym f.two ∙ ap (third m) is,
      )

  passed_all : PassesAll → suc k ≡ degree m v
  passed_all all =
      let more = count_more (met at (suc k)) (begins_at m v) (side_count m) met_begins in
      let less = count_more (begins_at m v) (met at (suc k)) (side_count m) (λ e l t.
      let p = and_parts (stands m e) (eqb (m.from e) v) t in
      let e_stands = stands-true m e p.0 in
      let is_v = eqb-true (m.from e) v p.1 in
      let (i, i_lt, xi, yi) =
      all (to m e) (third m e) (record {
        side = e;
        stands = e_stands;
        at = is_v;
        one = refl;
        two = refl;
      }) in
      let h = here i (omega arith) in
      let same = once e (at i) e_stands h.0 (is_v ∙ sym h.1)
      (xi ∙ rim-to m once v a start at_v k trail i (omega arith)) in
      subst (λ q. met at (suc k) q ≡ true) (sym same) (met-from at (suc k) i i_lt)) in
      let c = count-met in
      omega arith

module _ (m : Net) (once : NoSideTwice m) (a : ℕ) (t : Stands m a) (start : IsStart m a) where
  -- From a start every pair is reached, where the faces are one round.
  reached : IsRound m (m.from a) → (x y : ℕ) → IsPairAt m (m.from a) x y
      → Goes m (m.from a) (to m a) x
  reached round x y f =
      spins m once (m.from a) round (to m a) (third m a) (pair_at m a t)
      (elim start [
        | inl none ↦ inl (λ z g. let h = back m (m.from a) z (to m a) g in
            twin-none m a none h.side (record { stands = h.stands; begins = h.at; ends = h.one }))
        | inr each ↦ inr (λ p q g.
            elim (option_cases (twin_of m g.side)) [
              | inl none ↦ absurd (each g.side g.stands.is_side g.at none)
              | inr (o, is) ↦
                  let w = twin-is m g.side o is in
                  let h : IsPairAt m p (m.from a) (third m o) = grind (arith, common_steps) in
                  (third m o, turn m p (m.from a) (third m o) h)
            ])
      ]) x y f

  module _ (k : ℕ) (trail : IsTrail (around m) a k) where
    passes : (Stops (around m) a k ⊎ Returns (around m) a k) → IsFan m (m.from a)
        → suc k ≡ degree m (m.from a)
    passes end fan =
        passed_all m once (m.from a) a t refl k trail
        (λ x y f. cover m once (m.from a) a t refl k trail end
        (reached (fan_round m (m.from a) fan) x y f) refl y f)

    -- The walk stops: the faces are a fan where it has passed them all.
    pub stops_decides : Stops (around m) a k → (suc k ≡ degree m (m.from a)) ↔ IsFan m (m.from a)
    stops_decides end = (
      (λ same. trail_fan m once (m.from a) a t refl k trail (inl end)
          (all_passed m once (m.from a) a t refl k trail same)),
      passes (inl end),
    )

    -- The walk comes back: it must have passed three faces at least as well.
    pub returns_decides : Returns (around m) a k → ((suc k ≡ degree m (m.from a)) × (3 ≤ suc k))
        ↔ IsFan m (m.from a)
    returns_decides end = (
      (λ h. trail_fan m once (m.from a) a t refl k trail (inr (end, h.1))
          (all_passed m once (m.from a) a t refl k trail h.0)),
      (λ fan. (
        passes (inr end) fan,
        three m once (m.from a) a t refl k trail
            (fan_no_mirror m (m.from a) fan) end,
      )),
    )

-- What the walk of the code decides, where it has passed k + 1 faces and stands at side e.
module _ (m : Net) (table : List (Option ℕ)) (h : IsWalkable m table) (a : ℕ) (l : a < side_count m)
    (start : IsStart m a) (e k passed faces : ℕ) (at : e ≡ after_steps (around m) a k)
    (trail : IsTrail (around m) a k) (is : passed ≡ k + 1) (all : faces ≡ degree m (m.from a)) where
  pub stopped : around m e ≡ None → (passed ≡ faces) ↔ IsFan m (m.from a)
  stopped end = grind (arith, common_steps, stops_decides m h.once a (h.stands a l) start k trail)

  pub returned : around m e ≡ Some a → ((passed ≡ faces) × (3 ≤ passed)) ↔ IsFan m (m.from a)
  returned end =
      grind (arith, common_steps, returns_decides m h.once a (h.stands a l) start k trail)

-- The walk goes on, and has fewer steps than there are sides.
module _ (m : Net) (once : NoSideTwice m) (a : ℕ) (t : Stands m a) where
  pub walk_on : (k at g : ℕ) → at ≡ after_steps (around m) a k → IsTrail (around m) a k
      → around m at ≡ Some g → g ≢ a → (g ≡ after_steps (around m) a (k + 1))
      × IsTrail (around m) a (k + 1)
  walk_on k at g is trail next apart =
      let e = ap (around m) (sym is) ∙ next in
      let longer =
      trail-suc (around m) (Stands m) (around-stands m once) (around-injective m once) a t k
      trail g e apart in
      let same : suc k ≡ k + 1 = omega arith in (
        sym (after_steps-suc (around m) a k g e) ∙ ap (after_steps (around m) a) same,
        subst (IsTrail (around m) a) same longer,
      )

  pub walk_lt : (k : ℕ) → IsTrail (around m) a k → k < side_count m
  walk_lt k trail =
      trail-lt (around m) (Stands m) (around-stands m once) (around-injective m once) a t
      (side_count m) (λ p h. h.is_side) k trail
