-- Walks over the corners at a vertex: how they begin, go on and end, and what has been met at the
-- end.
use Rattle.std.proofs.Common.{◌≡◌, ℕ, ◌<◌, true, Option, Some, None, List, length, inl, inr, sym}
use Rattle.std.proofs.lemmas.Grind.{common_steps}
use Rattle.std.proofs.Common.{ap, ◌∙◌, subst, arith}
use Rattle.std.specs.Option.{IfSome, option_map}
use Rattle.std.proofs.lemmas.Bool.{or_cases, eqb-true, false≢true}
use Rattle.pm_base.specs.declared.ids.Side.{Side}
use Rattle.pm_links.specs.Lists.{has, IsOnce, first_of, after, rest_of_walk}
use Rattle.pm_links.proofs.Walking.{rest_first, rest_next, held_first, held_next}
use Rattle.pm_shrink.specs.Shrinking.{Shrinking, net_at, fan_at, AreCornersAt}
use Rattle.pm_simplify.specs.Walks.{still, IsWalk}

-- The held corner by its number.
pub held_side : (fan : List ℕ) (at : Option Side)
    → IfSome (option_map (λ c. c.0) at) (λ x. has fan x ≡ true)
    → IfSome at (λ c. has fan c.0 ≡ true)
held_side fan None h = tt
held_side fan (Some c) h = h

module _ (fan : List ℕ) (Done : ℕ → Type 0) where
  pub walk_begins : (at : Option Side) → option_map (λ c. c.0) at ≡ first_of fan
      → IsWalk fan Done at
  walk_begins at is = grind (arith, common_steps, held_first, held_side, rest_first)

  still_next : (c : Side) (at : Option Side) → IsOnce fan → has fan c.0 ≡ true
      → option_map (λ c. c.0) at ≡ first_of (after c.0 fan) → still at fan ≡ after c.0 fan
  still_next c at once h is = ap (λ o. rest_of_walk o fan) is ∙ rest_next fan c.0 once h

  pub walk_goes : (c : Side) (at : Option Side) → IsOnce fan → IsWalk fan Done (Some c)
      → option_map (λ c. c.0) at ≡ first_of (after c.0 fan) → Done c.0 → IsWalk fan Done at
  walk_goes c at once walk is done =
      grind (arith, common_steps, eqb-true, held_next, held_side, or_cases, still_next)

  pub walk_shorter : (c : Side) (at : Option Side) → IsOnce fan → has fan c.0 ≡ true
      → option_map (λ c. c.0) at ≡ first_of (after c.0 fan)
      → length (still at fan) < length (still (Some c) fan)
  walk_shorter c at once h is = let n = ap (λ (l : List ℕ). length l) (still_next c at once h is) in
      omega arith

  pub walk_ends : IsWalk fan Done None → (e : ℕ) → has fan e ≡ true → Done e
  walk_ends walk e h = elim (walk.seen e h) [ inl left ↦ absurd (false≢true left) | inr d ↦ d ]

-- What is done stays done.
pub walk_more : (fan : List ℕ) (Done Then : ℕ → Type 0) (at : Option Side) → IsWalk fan Done at
    → ((e : ℕ) → Done e → Then e) → IsWalk fan Then at
walk_more fan Done Then at walk stays = grind (arith, common_steps)

-- One step of a walk over the corners at a vertex of the mesh that is being simplified.
module _ (s : Shrinking) (v : ℕ) (corners : AreCornersAt (net_at s) v (fan_at s v)) where
  pub first_held : (at : Option Side) → option_map (λ c. c.0) at ≡ first_of (fan_at s v)
      → IfSome at (λ c. has (fan_at s v) c.0 ≡ true)
  first_held at is = (walk_begins (fan_at s v) (λ e. ⊥) at is).held

  module _ (c : Side) (at : Option Side) (held : has (fan_at s v) c.0 ≡ true)
      (is : option_map (λ c. c.0) at ≡ first_of (after c.0 (fan_at s ((net_at s).from c.0)))) where
    pub from_is : (net_at s).from c.0 ≡ v
    from_is = ((corners.each c.0).0 held).1

    next_is : option_map (λ c. c.0) at ≡ first_of (after c.0 (fan_at s v))
    next_is = is ∙ ap (λ w. first_of (after c.0 (fan_at s w))) from_is

    pub next_held : IfSome at (λ c. has (fan_at s v) c.0 ≡ true)
    next_held = held_side (fan_at s v) at
        (subst (λ o. IfSome o (λ x. has (fan_at s v) x ≡ true)) (sym next_is)
        (held_next c.0 (fan_at s v)))

    pub fan_shorter : length (still at (fan_at s v)) < length (still (Some c) (fan_at s v))
    fan_shorter = walk_shorter (fan_at s v) (λ e. ⊥) c at corners.once held next_is

    pub fan_goes : (Done Then : ℕ → Type 0) → IsWalk (fan_at s v) Done (Some c)
        → ((e : ℕ) → Done e → Then e) → Then c.0 → IsWalk (fan_at s v) Then at
    fan_goes Done Then walk stays done =
        walk_goes (fan_at s v) Then c at corners.once
        (walk_more (fan_at s v) Done Then (Some c) walk stays) next_is done
