-- The walk back along a closed chain, from its least side.
use Rattle.std.proofs.Common.{◌≡◌, ◌≢◌, ℕ, ◌<◌, ◌≤◌, ◌⊎◌, inl, inr, sym, ap, ◌∙◌, subst, Option}
use Rattle.std.proofs.Common.{Some, None, List, length, set}
use Rattle.std.proofs.lemmas.Bool.{cases_eq, cases_lt}
use Rattle.std.proofs.lemmas.List.{length-set, get_or-set_other}
use Rattle.pm_base.specs.Sides.{next, prev, beside_side}
use Rattle.pm_base.proofs.Search.{option_cases}
use Rattle.pm_fans.specs.Heads.{AreGluedInPairs, IsNextRound, Leads, here, further, AreHeaded}
use Rattle.pm_fans.specs.Heads.{HasHead, Keeps}
use Rattle.pm_fans.proofs.ChainLaws.{none_some, one_value, set_here, set_cases, set_keeps}
use Rattle.pm_fans.proofs.ChainLaws.{follows_one, before, next_in, leads_from}

-- The walk stands at its first side, or has left it.
pub record StandsAtLeast (glued heads : List (Option ℕ)) (least side : ℕ) : Type 0 where
  pub here : side ≡ least
  pub bare : beside_side heads least ≡ None
  pub after : (g h : ℕ) → IsNextRound glued side g → beside_side heads g ≡ Some h → ⊥

pub record HasLeft (glued heads : List (Option ℕ)) (least side : ℕ) : Type 0 where
  pub began : beside_side heads least ≡ Some least
  pub after : (g : ℕ) → IsNextRound glued side g → beside_side heads g ≡ Some least

-- As if whole chains had their heads, but that the chain of the walk has it only from the side that
-- was reached up to the least one.
pub record WalksBack (glued old heads : List (Option ℕ)) (least side : ℕ) : Type 0 where
  pub long : length heads ≡ length glued
  pub in_range : side < length glued
  pub led : (e h : ℕ) → beside_side heads e ≡ Some h → h ≢ least → Leads glued h e
  pub near : (e : ℕ) → beside_side heads e ≡ Some least → Leads glued side e
  pub own : (e h : ℕ) → beside_side heads e ≡ Some h → beside_side heads h ≡ Some h
  pub on : (e g h : ℕ) → IsNextRound glued e g → beside_side heads e ≡ Some h → e ≢ least
      → beside_side heads g ≡ Some h
  pub back : (e g h : ℕ) → IsNextRound glued e g → beside_side heads g ≡ Some h → e ≢ side
      → beside_side heads e ≡ Some h
  pub kind : (e h : ℕ) → beside_side heads e ≡ Some h → (beside_side glued h ≡ None) ⊎ (h ≤ e)
  pub keeps : Keeps old heads
  pub free : side ≢ least → beside_side heads side ≡ None
  pub began : StandsAtLeast glued heads least side ⊎ HasLeft glued heads least side

module _ (glued old heads : List (Option ℕ)) (least side : ℕ)
    (w : WalksBack glued old heads least side) (met : HasHead heads side) where
  at_least : side ≡ least
  at_least = elim (cases_eq side least) [
    | inl same ↦ same
    | inr other ↦
        absurd (met (w.free other))
  ]

  has_left : HasLeft glued heads least side
  has_left = elim w.began [
    | inl s ↦ absurd (met (ap (beside_side heads) at_least ∙ s.bare))
    | inr r ↦ r
  ]

module _ (glued old heads : List (Option ℕ)) (least side twin : ℕ) (p : AreGluedInPairs glued)
    (earlier : (k : ℕ) → k < least → HasHead old k) (w : WalksBack glued old heads least side)
    (bare : beside_side heads side ≡ None) (pair : beside_side glued side ≡ Some twin) where
  low : side < length heads
  low = subst (λ n. side < n) (sym w.long) w.in_range

  kept : Keeps heads (set heads side (Some least))
  kept = set_keeps heads side least low bare

  came : IsNextRound glued (next twin) side
  came = before glued p side twin pair

  now : beside_side (set heads side (Some least)) side ≡ Some least
  now = set_here heads side least low

  started : beside_side (set heads side (Some least)) least ≡ Some least
  started =
      elim w.began [
        | inl s ↦ ap (beside_side (set heads side (Some least))) (sym s.here) ∙ now
        | inr r ↦ kept least least r.began
      ]

  no_less : least ≤ side
  no_less =
      elim (cases_lt side least) [
        | inl less ↦
            elim (option_cases (beside_side old side)) [
              | inl none ↦ absurd (earlier side less none)
              | inr (h, is) ↦ absurd (none_some bare (w.keeps side h is))
            ]
        | inr le ↦ le
      ]

  -- What follows this side has the head already, unless the walk begins here.
  step_on : (e g h : ℕ) → IsNextRound glued e g → beside_side (set heads side (Some least)) e
      ≡ Some h → e ≢ least → beside_side (set heads side (Some least)) g ≡ Some h
  step_on e g h follows k ne =
      elim (set_cases heads side least low e h k) [
        | inl (is, v) ↦
            elim w.began [
              | inl s ↦ absurd (ne (is ∙ s.here))
              | inr r ↦ kept g h
                  (r.after g (ap (λ i. beside_side glued (prev i)) (sym is) ∙ follows)
                  ∙ ap Some (sym v))
            ]
        | inr (other, o) ↦ kept g h (w.on e g h follows o ne)
      ]

  step_back : (e g h : ℕ) → IsNextRound glued e g → beside_side (set heads side (Some least)) g
      ≡ Some h → e ≢ next twin → beside_side (set heads side (Some least)) e ≡ Some h
  step_back e g h follows k ne =
      elim (set_cases heads side least low g h k) [
        | inl (is, v) ↦
            absurd (ne (follows_one glued p e (next twin) side (follows ∙ ap Some is) came))
        | inr (other, o) ↦
            elim (cases_eq e side) [
              | inl is ↦
                  let f : IsNextRound glued side g =
                  ap (λ i. beside_side glued (prev i)) (sym is) ∙ follows in
                  elim w.began [
                    | inl s ↦ absurd (s.after g h f o)
                    | inr r ↦ ap (beside_side (set heads side (Some least))) is ∙ now
                        ∙ ap Some (one_value (r.after g f) o)
                  ]
              | inr differ ↦ kept e h (w.back e g h follows o differ)
            ]
      ]

  step_free : next twin ≢ least → beside_side (set heads side (Some least)) (next twin) ≡ None
  step_free ne =
      elim (cases_eq (next twin) side) [
        | inl same ↦
            let f : IsNextRound glued side side =
            ap (λ i. beside_side glued (prev i)) (sym same) ∙ came in
            elim w.began [
              | inl s ↦ absurd (ne (same ∙ s.here))
              | inr r ↦ absurd (none_some bare (r.after side f))
            ]
        | inr other ↦ get_or-set_other heads side (next twin) (Some least) None other
            ∙ elim (option_cases (beside_side heads (next twin))) [
              | inl none ↦ none
              | inr (h, is) ↦
                  absurd (none_some bare (w.on (next twin) side h came is ne))
            ]
      ]

  pub back_more : WalksBack glued old (set heads side (Some least)) least (next twin)
  back_more = record {
    long = length-set heads side (Some least) ∙ w.long;
    in_range = next_in glued p twin (p.back side twin pair).0;
    led = λ e h k ne. elim (set_cases heads side least low e h k) [
      | inl (is, v) ↦ absurd (ne v)
      | inr (other, o) ↦ w.led e h o ne
    ];
    near = λ e k. elim (set_cases heads side least low e least k) [
      | inl (is, v) ↦ subst (Leads glued (next twin)) (sym is) (further here came)
      | inr (other, o) ↦ leads_from glued (next twin) side e came (w.near e o)
    ];
    own = λ e h k. elim (set_cases heads side least low e h k) [
      | inl (is, v) ↦ subst (λ i. beside_side (set heads side (Some least)) i ≡ Some i) (sym v)
          started
      | inr (other, o) ↦ kept h h (w.own e h o)
    ];
    on = step_on;
    back = step_back;
    kind = λ e h k. elim (set_cases heads side least low e h k) [
      | inl (is, v) ↦ inr (subst (λ i. i ≤ e) (sym v) (subst (λ i. least ≤ i) (sym is) no_less))
      | inr (other, o) ↦ w.kind e h o
    ];
    keeps = λ e h k. kept e h (w.keeps e h k);
    free = step_free;
    began = inr (record {
      began = started;
      after = λ g f. ap (beside_side (set heads side (Some least))) (one_value f came) ∙ now;
    });
  }
