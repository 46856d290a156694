-- The sides that arrive at one vertex are stamped one by one.
use Rattle.std.proofs.Common.{◌≡◌, ◌≢◌, ℕ, ◌+◌, ◌<◌, ◌≤◌, min, max, Option, Some, None, length}
use Rattle.std.proofs.Common.{◌⊎◌, inl, inr, refl, sym, ap, ◌∙◌, subst, arith}
use Rattle.std.specs.Option.{IfSome, option_map}
use Rattle.std.proofs.lemmas.Bool.{cases_eq, cases_lt}
use Rattle.std.proofs.lemmas.Option.{none-some, same_Some}
use Rattle.pm_base.specs.declared.ids.Side.{Side}
use Rattle.pm_base.specs.Sides.{Net, side_count, next, prev, to, third}
use Rattle.pm_base.proofs.Sides.{next-lt, next-next-next}
use Rattle.pm_twins.specs.declared.stamps.TheConstants.{NOWHERE}
use Rattle.pm_twins.specs.SideLists.{last_from}
use Rattle.pm_twins.specs.Stamping.{stamped, in_order, lesser_of, NoneStampedFrom, IsSideBetween}
use Rattle.pm_twins.specs.Stamping.{AreAllStamped, IsRepeat, IsUpTo, IsLeastRepeat, Stamps}
use Rattle.pm_twins.specs.Stamping.{with_side}
use Rattle.pm_twins.proofs.ListLaws.{past, walk_low, walk_meets}
use Rattle.pm_twins.proofs.OneStamp.{up_to_first, up_to_second, lesser-either, with_stamp}
use Rattle.pm_twins.proofs.OneStamp.{same_slot, other_slot, none_later}

-- For side e to v a side with the same vertices is stamped that isn't later, and that is e itself
-- unless a repeat up to e is known.
abbrev pub IsStamped : Net → ℕ → Stamps → ℕ → Type 0
IsStamped m v stamps e =
    (s : Side) × (stamped stamps v (m.from e) ≡ Some s) × (s.0 ≤ e)
    × ((s.0 ≡ e) ⊎ IsUpTo stamps.repeat e)

-- The sides to v before those sides below k that leave v are still to be stamped.
pub record IsStamping (m : Net) (v k : ℕ) (stamps : Stamps) : Type 0 where
  pub each : (w : ℕ) (s : Side) → stamped stamps v w ≡ Some s
      → (s.0 < side_count m) × (m.from s.0 ≡ w) × (to m s.0 ≡ v) × (k ≤ next s.0)
  pub none : NoneStampedFrom (v + 1) stamps
  pub passed : (e : ℕ) → e < side_count m → to m e ≡ v → (next e < k) ⊎ IsStamped m v stamps e
  pub is_one : IfSome stamps.repeat (λ g. (g.0 < side_count m) × IsRepeat m g.0)
  pub below : (e : ℕ) → e < side_count m → to m e < v → IsRepeat m e → IsUpTo stamps.repeat e

-- A walk that comes to side `at` passes none over.
pub stamping_skips : {m : Net} {v k : ℕ} {stamps : Stamps} (at : Option Side)
    → option_map (λ s. s.0) at ≡ last_from m v k → IsStamping m v k stamps
    → IsStamping m v (past at) stamps
stamping_skips {m} {v} {k} at is i =
    let low = walk_low m v k at is in
    record {
      each = λ w s there. (let (l, from, ends, out) =
          i.each w s there in (l, from, ends, omega (arith, out, low)));
      none = i.none;
      passed = λ e l ends. elim (i.passed e l ends) [
        | inl less ↦ inl (walk_meets m v k at is (next e) less ends)
        | inr done ↦ inr done
      ];
      is_one = i.is_one;
      below = i.below;
    }

pub stamping_begins : {m : Net} {v : ℕ} {stamps : Stamps} (at : Option Side)
    → option_map (λ s. s.0) at ≡ last_from m v (side_count m) → v < NOWHERE
    → NoneStampedFrom v stamps → IsLeastRepeat m v stamps.repeat
    → IsStamping m v (past at) stamps
stamping_begins {m} {v} {stamps} at is short none r =
    stamping_skips at is (record {
      each = λ w s there. absurd (none-some s (sym (none v w (omega arith) short) ∙ there));
      none = λ u w le. none u w (omega (arith, le));
      passed = λ e l ends. inl (next-lt m.faces e l);
      is_one = r.is_one;
      below = r.least;
    })

-- What stamping side f for side x at vertex w brings, with another least repeat.
record Adds (m : Net) (v : ℕ) (x : Side) (w : ℕ) (f : Side) (k : ℕ) (stamps : Stamps)
    (next_repeat : Option Side) : Type 0 where
  is_side : f.0 < side_count m
  leaves : m.from f.0 ≡ w
  ends : to m f.0 ≡ v
  gone : k ≤ next f.0
  first : f.0 ≤ x.0
  itself : (f.0 ≡ x.0) ⊎ IsUpTo next_repeat x.0
  others : (e : ℕ) (s : Side) → stamped stamps v w ≡ Some s → s.0 ≤ e
      → (s.0 ≡ e) ⊎ IsUpTo stamps.repeat e
      → (f.0 ≤ e) × ((f.0 ≡ e) ⊎ IsUpTo next_repeat e)
  keeps : (e : ℕ) → IsUpTo stamps.repeat e → IsUpTo next_repeat e
  is_one : IfSome next_repeat (λ g. (g.0 < side_count m) × IsRepeat m g.0)

-- Side x is the one before side k, which leaves v.
module _ (m : Net) (v : ℕ) (x : Side) (w k : ℕ) (stamps : Stamps)
    (i : IsStamping m v (k + 1) stamps) (at : w ≡ m.from x.0) (low_x : x.0 < side_count m)
    (next_x : next x.0 ≡ k) (from_k : m.from k ≡ v) where
  ends_x : to m x.0 ≡ v
  ends_x = ap m.from next_x ∙ from_k

  -- No side with the same vertices is stamped.
  adds_alone : stamped stamps v w ≡ None → Adds m v x w x k stamps (lesser_of stamps.repeat None)
  adds_alone none = record {
    is_side = low_x;
    leaves = sym at;
    ends = ends_x;
    gone = omega (arith, next_x);
    first = omega arith;
    itself = inl refl;
    others = λ e s is le way. absurd (none-some s (sym none ∙ is));
    keeps = λ e l. up_to_first stamps.repeat None e l;
    is_one = lesser-either (λ g. (g < side_count m) × IsRepeat m g) stamps.repeat None i.is_one tt;
  }

  module _ (s : Side) (is : stamped stamps v w ≡ Some s) where
    there : (s.0 < side_count m) × (m.from s.0 ≡ w) × (to m s.0 ≡ v) × (k + 1 ≤ next s.0)
    there = i.each w s is

    -- An earlier one is.
    adds_after : s.0 < x.0 → Adds m v x w s k stamps (lesser_of stamps.repeat (Some x))
    adds_after lt =
        let (l, from, ends, out) = there in
        record {
          is_side = l;
          leaves = from;
          ends = ends;
          gone = omega (arith, out);
          first = omega (arith, lt);
          itself = inr (up_to_second stamps.repeat (Some x) x.0 (omega arith));
          others = λ e q here le way.
              let same : q.0 ≡ s.0 = ap (λ (k : Side). k.0) (same_Some q s (sym here ∙ is)) in (
                omega (arith, same, le),
                elim way [
                  | inl z ↦ inl (sym same ∙ z)
                  | inr z ↦
                      inr (up_to_first stamps.repeat (Some x) e z)
                ],
              );
          keeps = λ e k. up_to_first stamps.repeat (Some x) e k;
          is_one = lesser-either (λ g. (g < side_count m) × IsRepeat m g)
              stamps.repeat (Some x) i.is_one
              (low_x, (s.0, lt, from ∙ at, ends ∙ sym ends_x));
        }

    -- A later one is.
    adds_before : x.0 ≤ s.0 → Adds m v x w x k stamps (lesser_of stamps.repeat (Some s))
    adds_before le =
        let (l, from, ends, out) = there in
        let ne : s.0 ≢ x.0 =
        λ same. absurd (let nexts : next s.0 ≡ next x.0 = ap next same in
        omega (arith, nexts, next_x, out)) in
        let lt : x.0 < s.0 =
        elim (cases_lt x.0 s.0) [ inl h ↦ h | inr h ↦ absurd (ne (omega (arith, h, le))) ] in
        record {
          is_side = low_x;
          leaves = sym at;
          ends = ends_x;
          gone = omega (arith, next_x);
          first = omega arith;
          itself = inl refl;
          others = λ e q here q_le way.
              let same : q.0 ≡ s.0 = ap (λ (k : Side). k.0) (same_Some q s (sym here ∙ is)) in (
                omega (arith, same, q_le, le),
                inr (up_to_second stamps.repeat (Some s) e (omega (arith, same, q_le))),
              );
          keeps = λ e k. up_to_first stamps.repeat (Some s) e k;
          is_one = lesser-either (λ g. (g < side_count m) × IsRepeat m g)
              stamps.repeat (Some s) i.is_one
              (l, (x.0, lt, sym (from ∙ at), ends_x ∙ sym ends));
        }

  adds : (known : Option Side) → known ≡ stamped stamps v w
      → Adds m v x w (in_order known x).first k stamps
      (lesser_of stamps.repeat (in_order known x).later)
  adds None is = adds_alone (sym is)
  adds (Some s) is =
      elim (cases_lt s.0 x.0) [
        | inl lt ↦
            let least_is : min s.0 x.0 ≡ s.0 = omega (arith, lt) in
            let most_is : max s.0 x.0 ≡ x.0 = omega (arith, lt) in
            rw (least_is, most_is) (adds_after s (sym is) lt)
        | inr ge ↦
            let least_is : min s.0 x.0 ≡ x.0 = omega (arith, ge) in
            let most_is : max s.0 x.0 ≡ s.0 = omega (arith, ge) in
            rw (least_is, most_is) (adds_before s (sym is) ge)
      ]

  module _ (f : Side) (next_repeat : Option Side) (low : w < length stamps.at)
      (a : Adds m v x w f k stamps next_repeat) where
    abbrev now : Stamps
    now = with_stamp stamps v w f next_repeat low

    f_there : stamped now v w ≡ Some f
    f_there = same_slot stamps v w f next_repeat low

    stamped_x : IsStamped m v now x.0
    stamped_x = (f, ap (stamped now v) (sym at) ∙ f_there, a.first, a.itself)

    stamped_still : (e : ℕ) → IsStamped m v stamps e → IsStamped m v now e
    stamped_still e (s, is, le, way) =
        elim (cases_eq (m.from e) w) [
          | inl same ↦
              (let (first, more) = a.others e s (ap (stamped stamps v) (sym same) ∙ is) le way in
              (f, ap (stamped now v) same ∙ f_there, first, more))
          | inr ne ↦ (
            s,
            other_slot stamps v w f next_repeat low v (m.from e) ne
                ∙ is,
            le,
            elim way [ inl z ↦ inl z | inr z ↦ inr (a.keeps e z) ],
          )
        ]

    -- Only side x comes before side k.
    only_x : (e : ℕ) → next e ≡ k → x.0 ≡ e
    only_x e is =
        sym (next-next-next x.0) ∙ ap (λ (j : ℕ). next (next j)) (next_x ∙ sym is)
        ∙ next-next-next e

    stamping_adds : IsStamping m v k now
    stamping_adds = record {
      each = λ u s is. elim (cases_eq u w) [
        | inl same ↦
            let is_f : f ≡ s = same_Some f s (sym f_there ∙ ap (stamped now v) (sym same) ∙ is) in
            subst (λ (g : Side). (g.0 < side_count m) × (m.from g.0 ≡ u) × (to m g.0 ≡ v)
            × (k ≤ next g.0)) is_f
            (a.is_side, a.leaves ∙ sym same, a.ends, a.gone)
        | inr ne ↦ (let (l, from, ends, out) =
            i.each u s (sym (other_slot stamps v w f next_repeat low v u ne) ∙ is) in
            (l, from, ends, omega (arith, out)))
      ];
      none = none_later stamps v w f next_repeat low (v + 1) (omega arith) i.none;
      passed = λ e l ends. elim (i.passed e l ends) [
        | inl less ↦
            elim (cases_eq (next e) k) [
              | inl same ↦ inr (subst (IsStamped m v now) (only_x e same) stamped_x)
              | inr ne ↦ inl (omega (arith, less, ne))
            ]
        | inr old ↦ inr (stamped_still e old)
      ];
      is_one = a.is_one;
      below = λ e l ends r. a.keeps e (i.below e l ends r);
    }

-- The side before side y, which leaves v, is stamped.
pub stamping_more : {m : Net} {v w : ℕ} {x y : Side} {stamps : Stamps}
    → IsStamping m v (y.0 + 1) stamps → y.0 < side_count m → m.from y.0 ≡ v → x.0 ≡ prev y.0
    → w ≡ third m y.0 → w < length stamps.at → IsStamping m v y.0 (with_side stamps v w x)
stamping_more {m} {v} {w} {x} {y} {stamps} i l from before at low =
    let known = in_order (stamped stamps v w) x in
    let starts : w ≡ m.from x.0 = at ∙ ap m.from (sym before) in
    let low_x : x.0 < side_count m = subst (λ (e : ℕ). e < side_count m) (sym before)
    (next-lt m.faces (next y.0) (next-lt m.faces y.0 l)) in
    let next_x : next x.0 ≡ y.0 = ap next before ∙ next-next-next y.0 in
    stamping_adds m v x w y.0 stamps i starts low_x next_x from known.first
    (lesser_of stamps.repeat known.later) low
    (adds m v x w y.0 stamps i starts low_x next_x from (stamped stamps v w) refl)

-- All are stamped.
module _ (m : Net) (v : ℕ) (stamps : Stamps) (i : IsStamping m v 0 stamps) where
  all_passed : (e : ℕ) → e < side_count m → to m e ≡ v → IsStamped m v stamps e
  all_passed e l ends =
      elim (i.passed e l ends) [ inl less ↦ absurd (omega (arith, less)) | inr done ↦ done ]

  side_between : (w : ℕ) (r : Option Side) → stamped stamps v w ≡ r
      → IsSideBetween m w v (option_map (λ s. s.0) r)
  side_between w None is = λ e l from ends.
      let (s, there, le, way) = all_passed e l ends in
      none-some s (sym is ∙ ap (stamped stamps v) (sym from) ∙ there)
  side_between w (Some s) is = let (l, from, ends, out) = i.each w s is in (l, from, ends)

  pub all_stamped : AreAllStamped m v stamps
  all_stamped w = side_between w (stamped stamps v w) refl

  pub least_more : IsLeastRepeat m (v + 1) stamps.repeat
  least_more = record {
    is_one = i.is_one;
    least = λ e l low r. elim (cases_eq (to m e) v) [
      | inr ne ↦ i.below e l (omega (arith, low, ne)) r
      | inl ends ↦
          let (g, lt, gf, gt) = r in
          let (s, is, le, way) = all_passed e l ends in
          let (q, q_is, q_le, q_way) = all_passed g (omega (arith, lt, l)) (gt ∙ ends) in
          let same : q.0 ≡ s.0 =
          ap (λ (k : Side). k.0) (same_Some q s (sym q_is ∙ ap (stamped stamps v) gf ∙ is)) in
          elim way [ inl z ↦ absurd (omega (arith, z, same, q_le, lt)) | inr z ↦ z ]
    ];
  }
