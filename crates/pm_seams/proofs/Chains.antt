-- Two meshes put together in an oriented manifold: neither has closed chains at a vertex of the
-- other, and a chain of one may be put in the place of another.
use Rattle.std.proofs.Common.{◌≡◌, ℕ, ◌⊎◌, inl, inr, subst}
use Rattle.pm_base.specs.Sides.{Net, NoSideTwice}
use Rattle.pm_base.specs.Fans.{IsPairAt}
use Rattle.pm_base.specs.Rounds.{Goes, stay, on, IsRound}
use Rattle.pm_base.proofs.Sides.{back, one_first, one_second}
use Rattle.pm_base.proofs.Rounds.{append, linear}
use Rattle.pm_seams.proofs.Sums.{IsSum, AreApart}
use Rattle.pm_seams.proofs.Borders.{IsFirstIn, IsSecondIn}

pub lift :
    (m n : Net) (v : ℕ) → ((x y : ℕ) → IsPairAt m v x y → IsPairAt n v x y) →
    {a b : ℕ} → Goes m v a b → Goes n v a b
lift m n v h stay = stay
lift m n v h (on {x = x} {y = y} w f) = on (lift m n v h w) (h x y f)

-- Two meshes in a third, with no side in both.
pub record AreWithin (m a r : Net) : Type 0 where
  pub left : (v x y : ℕ) → IsPairAt a v x y → IsPairAt m v x y
  pub right : (v x y : ℕ) → IsPairAt r v x y → IsPairAt m v x y
  pub apart : AreApart a r

pub within : (m a r : Net) → IsSum m a r → NoSideTwice m → AreWithin m a r
within m a r sum once = record { left = sum.left; right = sum.right; apart = sum.apart once }

module _ (m a r : Net) (both : AreWithin m a r) (once : NoSideTwice m) (v : ℕ) where
  module _
      (led : (x y : ℕ) → IsPairAt a v x y → IsSecondIn a v x)
      (leads : (x y : ℕ) → IsPairAt a v x y → IsFirstIn a v y)
    where
      forward : {c x : ℕ} → Goes m v c x → IsFirstIn a v c → IsFirstIn a v x
      forward stay first = first
      forward (on {x = x} {y = y} w f) first =
          let (z, g) = forward w first in
          subst (IsFirstIn a v) (one_second m once (both.left v x z g) f) (leads x z g)

      backward : {c x : ℕ} → Goes m v c x → IsFirstIn a v x → IsFirstIn a v c
      backward stay first = first
      backward (on {x = x} {y = y} w f) (z, g) =
          let (k, h) = led y z g in
          backward w (y, subst (λ i. IsPairAt a v i y) (one_first m once (both.left v k y h) f) h)

      -- Chains of a that begin and end nowhere leave no room for a pair of r.
      pub no_room : IsRound m v → (x p : ℕ) → IsFirstIn a v x → IsFirstIn r v p → ⊥
      no_room (c, all) x p (y, f) (q, g) =
          let to_x = all x y (both.left v x y f) in
          let to_p = all p q (both.right v p q g) in
          let h : IsFirstIn a v p = elim (linear m once v to_x to_p) [
            | inl w ↦ forward w (y, f)
            | inr w ↦ backward w (y, f)
          ] in
          both.apart v p h.0 q h.1 g

-- The chain of b at v goes from s to each second of a from which a doesn't lead on, and s is the
-- only first of a to which a doesn't lead.
module _
    (m a b r n : Net) (whole : IsSum m a r) (once : NoSideTwice m) (new : IsSum n b r) (v s : ℕ)
    (first_is : (x y : ℕ) → IsPairAt a v x y → (IsSecondIn a v x → ⊥) → x ≡ s)
    (last_is : (x y : ℕ) → IsPairAt a v x y → (IsFirstIn a v y → ⊥) → Goes b v s y)
  where
    -- The way to x in m is gone from d in n: to x, or to s where x is within a chain of a.
    abbrev IsReached : ℕ → ℕ → Type 0
    IsReached d x = (Goes n v d x × (IsSecondIn a v x → ⊥)) ⊎ (Goes n v d s × IsSecondIn a v x)

    to_start : (d x y : ℕ) → IsPairAt a v x y → IsReached d x → Goes n v d s
    to_start d x y f (inl (w, never)) = subst (Goes n v d) (first_is x y f never) w
    to_start d x y f (inr (w, second)) = w

    past : (d x y : ℕ) → IsPairAt r v x y → IsReached d x → Goes n v d x
    past d x y f (inl (w, never)) = w
    past d x y f (inr (w, (z, g))) =
        let end = last_is z x g (λ (k, h). whole.apart once v x k y h f) in
        append n v w (lift b n v (new.left v) end)

    reached : (d c : ℕ) → IsReached d c → {x : ℕ} → Goes m v c x → IsReached d x
    reached d c begun stay = begun
    reached d c begun (on {x = x} {y = y} w f) =
        elim (whole.parts v x y f) [
          | inl g ↦ inr (to_start d x y g (reached d c begun w), (x, g))
          | inr g ↦ inl (
            on (past d x y g (reached d c begun w)) (new.right v x y g),
            λ (k, h). whole.apart once y v k x (back a v k y h) (back r v x y g),
          )
        ]

    pub replaced :
        (d c : ℕ) → IsReached d c → ((x y : ℕ) → IsPairAt m v x y → Goes m v c x) →
        IsFirstIn a v s → ((x y : ℕ) → IsPairAt b v x y → Goes b v s x) →
        (x y : ℕ) → IsPairAt n v x y → Goes n v d x
    replaced d c begun all (z, first) round x y f =
        elim (new.parts v x y f) [
          | inl g ↦
              let at_s = reached d c begun (all s z (whole.left v s z first)) in
              append n v (to_start d s z first at_s) (lift b n v (new.left v) (round x y g))
          | inr g ↦ past d x y g (reached d c begun (all x y (whole.right v x y g)))
        ]
