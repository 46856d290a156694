-- The walk on along an open chain, from its first side.
use Rattle.std.proofs.Common.{◌≡◌, ℕ, ◌<◌, ◌≤◌, ◌⊎◌, inl, inr, refl, sym, ap, ◌∙◌, subst, Option}
use Rattle.std.proofs.Common.{Some, None, List, length, set}
use Rattle.std.proofs.lemmas.Bool.{cases_eq}
use Rattle.std.proofs.lemmas.List.{length-set, get_or-set_other}
use Rattle.pm_base.specs.Sides.{prev, beside_side}
use Rattle.pm_base.proofs.Search.{option_cases}
use Rattle.pm_fans.specs.Heads.{AreGluedInPairs, IsNextRound, Leads, here, further, AreHeaded}
use Rattle.pm_fans.specs.Heads.{Keeps}
use Rattle.pm_fans.proofs.ChainLaws.{none_some, one_value, set_here, set_cases, set_keeps}
use Rattle.pm_fans.proofs.ChainLaws.{follows_one}

-- A side that the walk has reached and that has no head.
pub record IsReached (glued heads : List (Option ℕ)) (first g : ℕ) : Type 0 where
  pub in_range : g < length glued
  pub bare : beside_side heads g ≡ None
  pub after : (e : ℕ) → IsNextRound glued e g → beside_side heads e ≡ Some first
  pub led : Leads glued first g

-- As if whole chains had their heads, but that the chain of the walk has it only up to the side
-- that was reached.
pub record WalksOn (glued old heads : List (Option ℕ)) (first : ℕ) (reached : Option ℕ) : Type 0
  where
    pub long : length heads ≡ length glued
    pub led : (e h : ℕ) → beside_side heads e ≡ Some h → Leads glued h e
    pub own : (e h : ℕ) → beside_side heads e ≡ Some h → beside_side heads h ≡ Some h
    pub on : (e g h : ℕ) → IsNextRound glued e g → beside_side heads e ≡ Some h
        → (reached ≡ Some g → ⊥) → beside_side heads g ≡ Some h
    pub back : (e g h : ℕ) → IsNextRound glued e g → beside_side heads g ≡ Some h
        → beside_side heads e ≡ Some h
    pub kind : (e h : ℕ) → beside_side heads e ≡ Some h → (beside_side glued h ≡ None) ⊎ (h ≤ e)
    pub keeps : Keeps old heads
    pub only : (e h : ℕ) → beside_side heads e ≡ Some h → (beside_side old e ≡ Some h) ⊎ (h ≡ first)
    pub free : (g : ℕ) → reached ≡ Some g → IsReached glued heads first g
    pub began : (reached ≡ Some first) ⊎ (beside_side heads first ≡ Some first)

pub on_begins : (glued old : List (Option ℕ)) (first : ℕ) → AreHeaded glued old
    → first < length glued → beside_side glued first ≡ None → beside_side old first ≡ None
    → (p : AreGluedInPairs glued) → WalksOn glued old old first (Some first)
on_begins glued old first a l bare_end bare p = record {
  long = a.long;
  led = a.led;
  own = a.own;
  on = λ e g h f k _. a.on e g h f k;
  back = a.back;
  kind = a.kind;
  keeps = λ e h k. k;
  only = λ e h k. inl k;
  free = λ g r.
      let same : first ≡ g = one_value refl r in
      subst (IsReached glued old first) same (record {
        in_range = l;
        bare = bare;
        after = λ e f. absurd (none_some bare_end (p.back (prev e) first f).1);
        led = here;
      });
  began = inl refl;
}

module _ (glued old heads : List (Option ℕ)) (first side : ℕ) (p : AreGluedInPairs glued)
    (bare_end : beside_side glued first ≡ None) (w : WalksOn glued old heads first (Some side))
  where
    f : IsReached glued heads first side
    f = w.free side refl

    heads' : List (Option ℕ)
    heads' = set heads side (Some first)

    low : side < length heads
    low = subst (λ n. side < n) (sym w.long) f.in_range

    kept : Keeps heads (set heads side (Some first))
    kept = set_keeps heads side first low f.bare

    started : beside_side (set heads side (Some first)) first ≡ Some first
    started =
        elim w.began [
          | inl r ↦ ap (beside_side (set heads side (Some first))) (sym (one_value refl r))
              ∙ set_here heads side first low
          | inr k ↦ kept first first k
        ]

    step_free : (g : ℕ) → IsNextRound glued side g
        → IsReached glued (set heads side (Some first)) first g
    step_free g follows = record {
      in_range = (p.back (prev side) g follows).0;
      bare =
          elim (cases_eq g side) [
            | inl same ↦ absurd (none_some f.bare (f.after side (follows ∙ ap Some same)))
            | inr other ↦ get_or-set_other heads side g (Some first) None other
                ∙ elim (option_cases (beside_side heads g)) [
                  | inl none ↦ none
                  | inr (h, is) ↦
                      absurd (none_some f.bare (w.back side g h follows is))
                ]
          ];
      after = λ e k. ap (beside_side (set heads side (Some first)))
          (follows_one glued p e side g k follows) ∙ set_here heads side first low;
      led = further f.led follows;
    }

    step_on : (e g h : ℕ) → IsNextRound glued e g → beside_side (set heads side (Some first)) e
        ≡ Some h → (beside_side glued (prev side) ≡ Some g → ⊥)
        → beside_side (set heads side (Some first)) g ≡ Some h
    step_on e g h follows k other =
        elim (set_cases heads side first low e h k) [
          | inl (is, v) ↦ absurd (other (ap (λ i. beside_side glued (prev i)) (sym is) ∙ follows))
          | inr (ne, o) ↦
              elim (cases_eq g side) [
                | inl same ↦
                    let v : first ≡ h = one_value (f.after e (follows ∙ ap Some same)) o in
                    ap (beside_side (set heads side (Some first))) same
                    ∙ set_here heads side first low ∙ ap Some v
                | inr differ ↦
                    kept g h (w.on e g h follows o (λ r. differ (sym (one_value refl r))))
              ]
        ]

    step_back : (e g h : ℕ) → IsNextRound glued e g → beside_side (set heads side (Some first)) g
        ≡ Some h → beside_side (set heads side (Some first)) e ≡ Some h
    step_back e g h follows k =
        elim (set_cases heads side first low g h k) [
          | inl (is, v) ↦ kept e h (f.after e (follows ∙ ap Some is) ∙ ap Some (sym v))
          | inr (ne, o) ↦ kept e h (w.back e g h follows o)
        ]

    pub on_more : WalksOn glued old (set heads side (Some first)) first
        (beside_side glued (prev side))
    on_more = record {
      long = length-set heads side (Some first) ∙ w.long;
      led = λ e h k. elim (set_cases heads side first low e h k) [
        | inl (is, v) ↦
            subst (λ i. Leads glued i e) (sym v) (subst (Leads glued first) (sym is) f.led)
        | inr (ne, o) ↦ w.led e h o
      ];
      own = λ e h k. elim (set_cases heads side first low e h k) [
        | inl (is, v) ↦ subst (λ i. beside_side (set heads side (Some first)) i ≡ Some i) (sym v)
            started
        | inr (ne, o) ↦ kept h h (w.own e h o)
      ];
      on = step_on;
      back = step_back;
      kind = λ e h k. elim (set_cases heads side first low e h k) [
        | inl (is, v) ↦ inl (ap (beside_side glued) v ∙ bare_end)
        | inr (ne, o) ↦ w.kind e h o
      ];
      keeps = λ e h k. kept e h (w.keeps e h k);
      only = λ e h k. elim (set_cases heads side first low e h k) [
        | inl (is, v) ↦ inr v
        | inr (ne, o) ↦ w.only e h o
      ];
      free = step_free;
      began = inr started;
    }
