-- Chains of sides get their heads by walks: on along an open one, back along a closed one.
use Rattle.std.proofs.Common.{◌≡◌, ◌≢◌, ℕ, ◌<◌, ◌⊎◌, inl, inr, refl, sym, ap, ◌∙◌, subst, true}
use Rattle.std.proofs.lemmas.Grind.{common_steps}
use Rattle.std.proofs.Common.{Option, Some, None, List, length, set, count_by, arith}
use Rattle.std.specs.Option.{is_none, is_some}
use Rattle.std.proofs.lemmas.Bool.{true≢false}
use Rattle.std.proofs.lemmas.List.{get_or-set_same, get_or-set_other, get_or_past}
use Rattle.std.proofs.lemmas.List.Sums.{sum_by-set}
use Rattle.pm_base.specs.Sides.{next, prev, beside_side}
use Rattle.pm_base.proofs.Sides.{next-next-next, next-lt}
use Rattle.pm_base.proofs.Search.{option_cases}
use Rattle.pm_fans.specs.Heads.{AreGluedInPairs, IsNextRound, Leads, here, further, AreOpenHeaded}
use Rattle.pm_fans.specs.Heads.{HasHead, Keeps}

pub none_some : {x : ℕ} {r : Option ℕ} → r ≡ None → r ≡ Some x → ⊥
none_some a b = cc

pub one_value : {x y : ℕ} {r : Option ℕ} → r ≡ Some x → r ≡ Some y → x ≡ y
one_value a b = cc

pub in_table : (table : List (Option ℕ)) (e h : ℕ) → beside_side table e ≡ Some h → e < length table
in_table table e h is = grind (arith, common_steps, get_or_past, none_some)

-- One entry is written.
module _ (heads : List (Option ℕ)) (a x : ℕ) (l : a < length heads) where
  pub set_here : beside_side (set heads a (Some x)) a ≡ Some x
  set_here = get_or-set_same heads a (Some x) None l

  pub set_cases : (e h : ℕ) → beside_side (set heads a (Some x)) e ≡ Some h
      → ((e ≡ a) × (h ≡ x)) ⊎ ((e ≢ a) × (beside_side heads e ≡ Some h))
  set_cases e h is = grind (arith, common_steps, get_or-set_other, one_value, set_here)

  pub set_keeps : beside_side heads a ≡ None → Keeps heads (set heads a (Some x))
  set_keeps bare e h is = grind (arith, common_steps, get_or-set_other, none_some)

-- How many sides have no head.
unfoldable pub bare_count : List (Option ℕ) → ℕ
bare_count heads = count_by is_none heads

pub bare-set : (heads : List (Option ℕ)) (a x : ℕ) → a < length heads → beside_side heads a ≡ None
    → bare_count (set heads a (Some x)) < bare_count heads
unfolding bare_count
bare-set heads a x l is = grind (arith, common_steps, sum_by-set)

-- A step in front.
pub leads_from : (glued : List (Option ℕ)) (a b e : ℕ) → IsNextRound glued a b → Leads glued b e
    → Leads glued a e
leads_from glued a b e f here = further here f
leads_from glued a b e f (further w g) = further (leads_from glued a b _ f w) g

module _ (glued : List (Option ℕ)) (p : AreGluedInPairs glued) where
  pub follows_one : (e k g : ℕ) → IsNextRound glued e g → IsNextRound glued k g → e ≡ k
  follows_one e k g a b =
      let x = (p.back (prev e) g a).1 in
      let y = (p.back (prev k) g b).1 in
      sym (next-next-next e) ∙ ap next (one_value x y) ∙ next-next-next k

  -- What stands before a glued side.
  pub before : (side twin : ℕ) → beside_side glued side ≡ Some twin
      → IsNextRound glued (next twin) side
  before side twin is = ap (beside_side glued) (next-next-next twin) ∙ (p.back side twin is).1

  pub next_in : (twin : ℕ) → twin < length glued → next twin < length glued
  next_in twin l =
      subst (λ n. next twin < n) (sym p.sides)
      (next-lt p.faces twin (subst (λ n. twin < n) p.sides l))

  pub prev_in : (e : ℕ) → e < length glued → prev e < length glued
  prev_in e l = next_in (next e) (next_in e l)

  -- What leads to a side that isn't glued is that side itself.
  pub first_led : (s e : ℕ) → Leads glued s e → beside_side glued e ≡ None → s ≡ e
  first_led s e here bare = refl
  first_led s g (further {e} w f) bare = absurd (none_some bare (p.back (prev e) g f).1)

  -- The first side of a chain that was not walked has no head.
  pub first_bare : (heads : List (Option ℕ)) (n : ℕ) → AreOpenHeaded glued heads n
      → beside_side glued n ≡ None → beside_side heads n ≡ None
  first_bare heads n o bare =
      elim (option_cases (beside_side heads n)) [
        | inl none ↦ none
        | inr (h, is) ↦
            let same : h ≡ n = first_led h n (o.headed.led n h is) bare in
            let less = o.only n h is in
            absurd (omega arith)
      ]

pub some_is : (r : Option ℕ) → is_some r ≡ true → r ≡ None → ⊥
some_is r e none = true≢false (sym e ∙ ap is_some none)

pub kept_head : (old heads : List (Option ℕ)) → Keeps old heads → (e : ℕ) → HasHead old e
    → HasHead heads e
kept_head old heads keeps e has none =
    elim (option_cases (beside_side old e)) [
      | inl bare ↦ has bare
      | inr (h, is) ↦
          none_some none (keeps e h is)
    ]

-- A side that has a head.
pub has_head : (heads : List (Option ℕ)) (e : ℕ) → HasHead heads e
    → (h : ℕ) × (beside_side heads e ≡ Some h)
has_head heads e h =
    elim (option_cases (beside_side heads e)) [ inl none ↦ absurd (h none) | inr some ↦ some ]
