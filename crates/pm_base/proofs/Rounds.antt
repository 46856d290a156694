-- Going round a vertex, from pair to pair.
use Rattle.std.proofs.Common.{◌≡◌, ℕ, ◌⊎◌, inl, inr, refl, sym, ap, ◌∙◌, subst}
use Rattle.pm_base.specs.Sides.{Net, next, to, third, NoSideTwice, IsBorderSide}
use Rattle.pm_base.specs.Fans.{IsPairAt}
use Rattle.pm_base.specs.Rounds.{Goes, stay, on, IsRound}
use Rattle.pm_base.proofs.Sides.{next-next-next, stands_next, back, one_second}

-- No pair at v leads to a, or none leads on from it.
abbrev pub IsFirst : Net → ℕ → ℕ → Type 0
IsFirst m v a = (x : ℕ) → IsPairAt m v x a → ⊥

abbrev pub IsLast : Net → ℕ → ℕ → Type 0
IsLast m v a = (x : ℕ) → IsPairAt m v a x → ⊥

pub append : (m : Net) (v : ℕ) {a b c : ℕ} → Goes m v a b → Goes m v b c → Goes m v a c
append m v w stay = w
append m v w (on u f) = on (append m v w u) f

-- The pairs at the two ends of a side, from the side's own face.
abbrev pub pair_out : (m : Net) (v e : ℕ) → IsBorderSide m e → m.from e ≡ v
    → IsPairAt m v (to m e) (third m e)
pair_out m v e b is = record { side = e; stands = b.stands; at = is; one = refl; two = refl }

abbrev pub pair_in : (m : Net) (v e : ℕ) → IsBorderSide m e → to m e ≡ v
    → IsPairAt m v (third m e) (m.from e)
pair_in m v e b is = record {
  side = next e;
  stands = stands_next m e b.stands;
  at = is;
  one = refl;
  two = ap m.from (next-next-next e);
}

-- A border side that goes out begins the chain, and one that comes in ends it.
pub border_first : (m : Net) (v e : ℕ) → IsBorderSide m e → m.from e ≡ v → IsFirst m v (to m e)
border_first m v e b is z h = let k =
    back m v z (to m e) h in
    b.alone k.side (record { stands = k.stands; begins = k.at; ends = k.one ∙ sym is })

pub border_last : (m : Net) (v e : ℕ) → IsBorderSide m e → to m e ≡ v → IsLast m v (m.from e)
border_last m v e b is z h =
    b.alone h.side (record { stands = h.stands; begins = h.at ∙ sym is; ends = h.one })

module _ (m : Net) (once : NoSideTwice m) (v : ℕ) where
  -- The first step of a way.
  pub uncons : {a c : ℕ} → Goes m v a c → (a ≡ c) ⊎ ((b : ℕ) × IsPairAt m v a b × Goes m v b c)
  uncons stay = inl refl
  uncons (on {a = a} {x = x} {y = y} w f) =
      elim (uncons w) [
        | inl is ↦ inr (y, subst (λ i. IsPairAt m v i y) (sym is) f, stay)
        | inr (b, g, u) ↦ inr (b, g, on u f)
      ]

  -- Of two ways from a vertex one goes on where the other ends.
  pub linear : {a x y : ℕ} → Goes m v a x → Goes m v a y → Goes m v x y ⊎ Goes m v y x
  linear stay u = inl u
  linear {y = y} (on {x = z} {y = x} w f) u =
      elim (linear w u) [
        | inl p ↦
            elim (uncons p) [
              | inl is ↦ inr (subst (λ i. Goes m v i x) is (on stay f))
              | inr (b, g, q) ↦ inl (subst (λ i. Goes m v i y) (one_second m once g f) q)
            ]
        | inr p ↦ inr (on p f)
      ]

  pub ends_first : {a x : ℕ} → Goes m v a x → IsFirst m v x → a ≡ x
  ends_first stay none = refl
  ends_first (on {x = z} w f) none = absurd (none z f)

  pub starts_last : {a x : ℕ} → Goes m v a x → IsLast m v a → a ≡ x
  starts_last w none = elim (uncons w) [ inl is ↦ is | inr (b, g, u) ↦ absurd (none b g) ]

  -- Where b leads back to a, a way that comes from a can be followed on to b.
  returns : (b a : ℕ) → IsPairAt m v b a → Goes m v a b → {c x : ℕ} → Goes m v c x → c ≡ a
      → Goes m v x b
  returns b a f r stay is = subst (λ i. Goes m v i b) (sym is) r
  returns b a f r {c} (on {x = z} {y = x} w g) is =
      elim (uncons (returns b a f r w is)) [
        | inl same ↦
            subst (λ i. Goes m v i b)
            (one_second m once (subst (λ i. IsPairAt m v i a) (sym same) f) g) r
        | inr (d, h, u) ↦ subst (λ i. Goes m v i b) (one_second m once h g) u
      ]

  -- So in a closed chain each vertex is reached from each.
  pub all_round : (a b : ℕ) → IsPairAt m v b a → Goes m v a b → {x y : ℕ} → Goes m v a x
      → Goes m v a y → Goes m v x y
  all_round a b f r w u = append m v (on (returns b a f r w refl) f) u

  -- From q every pair is met, where nothing leads to q, or something leads to the first of each
  -- pair.
  pub spins : IsRound m v → (q b : ℕ) → IsPairAt m v q b
      → (IsFirst m v q ⊎ ((x y : ℕ) → IsPairAt m v x y → (z : ℕ) × IsPairAt m v z x)) → (x y : ℕ)
      → IsPairAt m v x y → Goes m v q x
  spins (a, all) q b f (inl none) x y g =
      subst (λ i. Goes m v i x) (ends_first (all q b f) none) (all x y g)
  spins (a, all) q b f (inr closed) x y g =
      elim (uncons (all q b f)) [
        | inl is ↦ subst (λ i. Goes m v i x) is (all x y g)
        | inr (c, h, u) ↦ (let (z, k) =
            closed a c h in all_round a z k (all z a k) (all q b f) (all x y g))
      ]

  -- At most one border side goes out, and at most one comes in.
  pub one_out : IsRound m v → (e g : ℕ) → IsBorderSide m e → IsBorderSide m g → m.from e ≡ v
      → m.from g ≡ v → e ≡ g
  one_out (a, all) e g be bg ise isg =
      let x = ends_first (all (to m e) (third m e) (pair_out m v e be ise))
      (border_first m v e be ise) in
      let y = ends_first (all (to m g) (third m g) (pair_out m v g bg isg))
      (border_first m v g bg isg) in
      once e g be.stands bg.stands (ise ∙ sym isg) (sym x ∙ y)

  pub one_in : IsRound m v → (e g : ℕ) → IsBorderSide m e → IsBorderSide m g → to m e ≡ v
      → to m g ≡ v → e ≡ g
  one_in (a, all) e g be bg ise isg =
      let f = pair_in m v e be ise in
      let k = pair_in m v g bg isg in
      let same : m.from e ≡ m.from g =
      elim (linear (on (all (third m e) (m.from e) f) f) (on (all (third m g) (m.from g) k) k)) [
        | inl w ↦ starts_last w (border_last m v e be ise)
        | inr w ↦ sym (starts_last w (border_last m v g bg isg))
      ] in
      once e g be.stands bg.stands same (ise ∙ sym isg)
