-- Walks over the corners at a node: how they begin, go on and end.
use Rattle.std.proofs.Common.{◌≡◌, ℕ, ◌+◌, true, Option, Some, None, List, length, ◌⊎◌, inl, inr}
use Rattle.std.proofs.Common.{sym, ap, ◌∙◌, subst, arith}
use Rattle.std.specs.Option.{IfSome}
use Rattle.std.proofs.lemmas.Bool.{or_cases, eqb-true, false≢true}
use Rattle.pm_base.specs.declared.ids.Side.{Side}
use Rattle.pm_links.specs.Lists.{has, IsOnce, first_of, after, rest_of_walk}
use Rattle.pm_beyond.specs.Walks.{number_of}
use Rattle.pm_links.proofs.Walking.{rest_first, rest_next, held_first, held_next}

-- The corners that a walk has still to see.
abbrev pub still : Option Side → List ℕ → List ℕ
still at l = rest_of_walk (number_of at) l

-- The walk stands at one of the corners, or at its end; of those that it has seen each is done.
pub record IsWalk (l : List ℕ) (Done : ℕ → Type 0) (at : Option Side) : Type 0 where
  pub held : IfSome at (λ c. has l c.0 ≡ true)
  pub seen : (e : ℕ) → has l e ≡ true → (has (still at l) e ≡ true) ⊎ Done e

held_side : (l : List ℕ) (at : Option Side) → IfSome (number_of at) (λ x. has l x ≡ true)
    → IfSome at (λ c. has l c.0 ≡ true)
held_side l None h = tt
held_side l (Some c) h = h

module _ (l : List ℕ) (Done : ℕ → Type 0) where
  pub walk_begins : (at : Option Side) → number_of at ≡ first_of l → IsWalk l Done at
  walk_begins at is = record {
    held = held_side l at (subst (λ o. IfSome o (λ x. has l x ≡ true)) (sym is) (held_first l));
    seen = λ e h. inl (subst (λ o. has (rest_of_walk o l) e ≡ true) (sym is)
        (subst (λ m. has m e ≡ true) (sym (rest_first l)) h));
  }

  still_next : (c : Side) (at : Option Side) → IsOnce l → has l c.0 ≡ true
      → number_of at ≡ first_of (after c.0 l) → still at l ≡ after c.0 l
  still_next c at once h is = ap (λ o. rest_of_walk o l) is ∙ rest_next l c.0 once h

  -- What is done stays done, and this corner is.
  pub walk_goes : (Then : ℕ → Type 0) (c : Side) (at : Option Side) → IsOnce l
      → IsWalk l Done (Some c) → number_of at ≡ first_of (after c.0 l)
      → ((e : ℕ) → Done e → Then e) → Then c.0 → IsWalk l Then at
  walk_goes Then c at once walk is stays done = record {
    held = held_side l at (subst (λ o. IfSome o (λ x. has l x ≡ true)) (sym is) (held_next c.0 l));
    seen = λ e h.
        elim (walk.seen e h) [
          | inr d ↦ inr (stays e d)
          | inl left ↦
              elim (or_cases _ _ left) [
                | inl here ↦ inr (subst Then (eqb-true c.0 e here) done)
                | inr later ↦ inl (subst (λ m. has m e ≡ true)
                    (sym (still_next c at once walk.held is)) later)
              ]
        ];
  }

  pub walk_shorter : (c : Side) (at : Option Side) → IsOnce l → has l c.0 ≡ true
      → number_of at ≡ first_of (after c.0 l) → length (still (Some c) l) ≡ length (still at l) + 1
  walk_shorter c at once h is = let n = ap (λ (m : List ℕ). length m)
      (still_next c at once h is) in omega arith

  pub walk_ends : IsWalk l Done None → (e : ℕ) → has l e ≡ true → Done e
  walk_ends walk e h = elim (walk.seen e h) [ inl left ↦ absurd (false≢true left) | inr d ↦ d ]

pub whole_walk : (l : List ℕ) (at : Option Side) → number_of at ≡ first_of l
    → length (still at l) ≡ length l
whole_walk l at is = ap (λ o. length (rest_of_walk o l)) is
    ∙ ap (λ (m : List ℕ). length m) (rest_first l)
