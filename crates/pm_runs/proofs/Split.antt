-- A split keeps that no directed side stands twice.
use Rattle.std.proofs.Common.{◌≡◌, ◌≢◌, ℕ, Option, Some, ◌⊎◌, inl, inr, refl, sym, ap, ◌∙◌, subst}
use Rattle.std.proofs.Common.{arith}
use Rattle.std.proofs.lemmas.Grind.{common_steps}
use Rattle.std.proofs.lemmas.Bool.{cases_eq}
use Rattle.std.proofs.lemmas.Option.{same_Some}
use Rattle.pm_base.specs.Sides.{Net, next, prev, to, third, Stands, NoSideTwice}
use Rattle.pm_base.specs.Fans.{IsPairAt}
use Rattle.pm_base.proofs.Sides.{next-next-next, turn, back, corner-first, first-second}
use Rattle.pm_base.proofs.Sides.{second-corner, pair_at}
use Rattle.pm_runs.specs.Pairs.{IsPair as AreEnds}
use Rattle.pm_runs.proofs.Merges.{turned}
use Rattle.pm_runs.proofs.MergedPairs.{new, after, new-t, new-u, not_s, same_new}
use Rattle.pm_runs.specs.Splits.{IsSplit}
use Rattle.pm_runs.proofs.Facts.{RunsBack, one_twin, twin_beyond}

module _ (n : Net) (t u s : ℕ) (beyond : ℕ → Option ℕ) (h : IsSplit n t u s beyond) where
  abbrev pub merged_name : ℕ → ℕ
  merged_name x = new n t u s h.fresh x

  abbrev pub merged_net : Net
  merged_net = after n t u s h.fresh

  pub same_ends : (p q : ℕ) → AreEnds t u p q → merged_name p ≡ merged_name q
  same_ends p q (inl (a, b)) = new-t n t u s h.fresh p a ∙ sym (new-u n t u s h.fresh q b)
  same_ends p q (inr (a, b)) = new-u n t u s h.fresh p a ∙ sym (new-t n t u s h.fresh q b)

  pub other_end : (p q p' q' : ℕ) → AreEnds t u p q → AreEnds t u p' q' → p ≡ p' → q ≡ q'
  other_end p q p' q' (inl (a, b)) (inl (c, d)) is = b ∙ sym d
  other_end p q p' q' (inl (a, b)) (inr (c, d)) is = absurd (h.differ (sym a ∙ is ∙ c))
  other_end p q p' q' (inr (a, b)) (inl (c, d)) is = absurd (h.differ (sym c ∙ sym is ∙ a))
  other_end p q p' q' (inr (a, b)) (inr (c, d)) is = b ∙ sym d

  -- an end of one pair is one of the other's
  pub either : (p q p' q' : ℕ) → AreEnds t u p q → AreEnds t u p' q' → (p ≡ p') ⊎ (p ≡ q')
  either p q p' q' (inl (a, b)) (inl (c, d)) = inl (a ∙ sym c)
  either p q p' q' (inl (a, b)) (inr (c, d)) = inr (a ∙ sym d)
  either p q p' q' (inr (a, b)) (inl (c, d)) = inr (a ∙ sym d)
  either p q p' q' (inr (a, b)) (inr (c, d)) = inl (a ∙ sym c)

  -- A side of a new face, which runs from end to end, then to a third corner
  pub record IsNew (e : ℕ) : Type 0 where
    pub p : ℕ
    pub q : ℕ
    pub w : ℕ
    pub are_ends : AreEnds t u p q
    pub face : IsPairAt n p q w
    pub which : (e ≡ face.side) ⊎ ((e ≡ next face.side) ⊎ (e ≡ prev face.side))

  pub ends_of : {va xa ya vb xb yb : ℕ} → IsPairAt n va xa ya → IsPairAt n vb xb yb
      → merged_name va ≡ merged_name vb → va ≢ vb → AreEnds t u va vb
  ends_of {va = va} {vb = vb} f g is ne =
      elim (same_new n t u s h.fresh va vb (not_s n t u s h.fresh f) (not_s n t u s h.fresh g) is)
      [ inl same ↦ absurd (ne same) | inr (k, ends) ↦ ends ]

  made : {p q w : ℕ} (e : ℕ) → AreEnds t u p q → (f : IsPairAt n p q w)
      → (e ≡ f.side) ⊎ ((e ≡ next f.side) ⊎ (e ≡ prev f.side)) → IsNew e
  made {p} {q} {w} e k f way =
      record { p = p; q = q; w = w; are_ends = k; face = f; which = way }

  pub old_or_new : (e : ℕ) → Stands n e → Stands merged_net e ⊎ IsNew e
  old_or_new e there =
      let F = pair_at n e there in
      let F1 = turn n (n.from e) (to n e) (third n e) F in
      let F2 = back n (n.from e) (to n e) (third n e) F in
      let round = sym (next-next-next e) in
      elim (cases_eq (merged_net.from e) (to merged_net e)) [
        | inl is ↦ inr (made e (ends_of F F1 is there.first) F (inl refl))
        | inr a ↦
            elim (cases_eq (to merged_net e) (third merged_net e)) [
              | inl is ↦ inr (made e (ends_of F1 F2 is there.second) F1 (inr (inr round)))
              | inr b ↦
                  elim (cases_eq (third merged_net e) (merged_net.from e)) [
                    | inl is ↦ inr (made e (ends_of F2 F is there.last) F2 (inr (inl round)))
                    | inr c ↦ grind (arith, common_steps)
                  ]
            ]
      ]

  pub new_gone : (e : ℕ) → IsNew e → Stands merged_net e → ⊥
  new_gone e k there =
      let f = k.face in
      let eq = same_ends k.p k.q k.are_ends in
      elim k.which [
        | inl is ↦ there.first (ap merged_name (ap n.from is ∙ f.at) ∙ eq
            ∙ sym (ap merged_name (ap (to n) is ∙ f.one)))
        | inr o ↦ grind (arith, common_steps, next-next-next)
      ]

  -- the ends of a new face's outer sides
  pub next_ends : {p q w : ℕ} (f : IsPairAt n p q w) → (n.from (next f.side) ≡ q)
      × (to n (next f.side) ≡ w) × (third n (next f.side) ≡ p) × Stands n (next f.side)
  next_ends {p} {q} {w} f = let g = turn n p q w f in (g.at, g.one, g.two, g.stands)

  pub prev_ends : {p q w : ℕ} (f : IsPairAt n p q w) → (n.from (prev f.side) ≡ w)
      × (to n (prev f.side) ≡ p) × (third n (prev f.side) ≡ q) × Stands n (prev f.side)
  prev_ends {p} {q} {w} f = let g = back n p q w f in (g.at, g.one, g.two, g.stands)

  pub new_next : (p q w : ℕ) → AreEnds t u p q → (f : IsPairAt n p q w)
      → Stands merged_net (next f.side) → ⊥
  new_next p q w k f = new_gone (next f.side) (made (next f.side) k f (inr (inl refl)))

  pub new_prev : (p q w : ℕ) → AreEnds t u p q → (f : IsPairAt n p q w)
      → Stands merged_net (prev f.side) → ⊥
  new_prev p q w k f = new_gone (prev f.side) (made (prev f.side) k f (inr (inr refl)))

  -- A side of a new face meets one that was there, which runs the other way.
  pub data MeetsOld (p q w : ℕ) (f : IsPairAt n p q w) : Type 0 where
    by_next : (b : ℕ) → Stands merged_net b → Stands n b → beyond (next f.side) ≡ Some b
        → n.from b ≡ w → to n b ≡ q → MeetsOld p q w f
    by_prev : (b : ℕ) → Stands merged_net b → Stands n b → beyond (prev f.side) ≡ Some b
        → n.from b ≡ p → to n b ≡ w → MeetsOld p q w f

  pub meets_old : (p q w : ℕ) → AreEnds t u p q → (f : IsPairAt n p q w) → MeetsOld p q w f
  meets_old p q w k f =
      let (b, bt, side) = h.held p q w k f in
      let (a1, a2, a3, at) = next_ends f in
      let (c1, c2, c3, ct) = prev_ends f in
      elim side [
        | inl l ↦
            let (bn, bf, bto) = twin_beyond h (next f.side) b at l in
            by_next b bt bn l (bf ∙ a2) (bto ∙ a1)
        | inr l ↦
            let (bn, bf, bto) = twin_beyond h (prev f.side) b ct l in
            by_prev b bt bn l (bf ∙ c2) (bto ∙ c1)
      ]

  abbrev pub renamed_face : (a b c a' b' c' : ℕ) → IsPairAt n a b c → a ≡ a' → b ≡ b' → c ≡ c'
      → IsPairAt n a' b' c'
  renamed_face a b c a' b' c' f x y z = record {
    side = f.side;
    stands = f.stands;
    at = f.at ∙ x;
    one = f.one ∙ y;
    two = f.two ∙ z;
  }

  module _ (once : NoSideTwice merged_net) where
    -- of the side beyond, in the mesh before
    between : (b g o : ℕ) → Stands n o → Stands merged_net b → Stands merged_net g
        → RunsBack merged_net b g → beyond o ≡ Some b → (beyond b ≡ Some g → ⊥)
        → ((r : ℕ) → beyond r ≡ Some g → (r ≡ next o) ⊎ (r ≡ prev o) → ⊥) → ⊥
    between b g o ot bt gt twin lo never not_over =
        let lb = h.back o b ot lo in
        elim (h.kept b g bt (one_twin merged_net once b g twin)) [
          | inl is ↦ never is
          | inr k ↦ (let same = same_Some k.o o (sym k.meets ∙ lb) in
              not_over k.r k.leaves (subst (λ i. (k.r ≡ next i) ⊎ (k.r ≡ prev i)) same k.sides))
        ]

    -- An old side with the ends of a new one's
    next_twice : (p q w : ℕ) (k : AreEnds t u p q) (f : IsPairAt n p q w) (g : ℕ)
        → Stands merged_net g → n.from g ≡ q → to n g ≡ w → ⊥
    next_twice p q w k f g gt gq gw =
        let (a1, a2, a3, at) = next_ends f in
        let (c1, c2, c3, ct) = prev_ends f in
        elim (meets_old p q w k f) [
          | by_next b bt bn l bf bto ↦
              between b g (next f.side) at bt gt
              (gt, ap merged_name (gq ∙ sym bto), ap merged_name (gw ∙ sym bf)) l
              (λ is. new_next p q w k f
              (subst (Stands merged_net)
              (same_Some g (next f.side) (sym is ∙ h.back (next f.side) b at l)) gt))
              (λ r lr which.
              elim which [
                | inl is ↦
                    let (gn, gf, gto) = twin_beyond h r g (subst (Stands n) (sym is) ct) lr in
                    corner-first n p q w f (sym (sym gq ∙ gf ∙ ap (to n) is ∙ c2))
                | inr is ↦
                    let is' : r ≡ f.side = is ∙ next-next-next f.side in
                    let (gn, gf, gto) =
                    twin_beyond h r g (subst (Stands n) (sym is') f.stands) lr in
                    second-corner n p q w f (sym gw ∙ gto ∙ ap n.from is' ∙ f.at)
              ])
          | by_prev b bt bn l bf bto ↦
              let same = once b g bt gt (ap merged_name bf ∙ same_ends p q k
              ∙ sym (ap merged_name gq)) (ap merged_name (bto ∙ sym gw)) in
              corner-first n p q w f (sym bf ∙ ap n.from same ∙ gq)
        ]

    prev_twice : (p q w : ℕ) (k : AreEnds t u p q) (f : IsPairAt n p q w) (g : ℕ)
        → Stands merged_net g → n.from g ≡ w → to n g ≡ p → ⊥
    prev_twice p q w k f g gt gw gp =
        let (a1, a2, a3, at) = next_ends f in
        let (c1, c2, c3, ct) = prev_ends f in
        elim (meets_old p q w k f) [
          | by_prev b bt bn l bf bto ↦
              between b g (prev f.side) ct bt gt
              (gt, ap merged_name (gw ∙ sym bto), ap merged_name (gp ∙ sym bf)) l
              (λ is. new_prev p q w k f
              (subst (Stands merged_net)
              (same_Some g (prev f.side) (sym is ∙ h.back (prev f.side) b ct l)) gt))
              (λ r lr which.
              elim which [
                | inl is ↦
                    let is' : r ≡ f.side = is ∙ next-next-next f.side in
                    let (gn, gf, gto) =
                    twin_beyond h r g (subst (Stands n) (sym is') f.stands) lr in
                    first-second n p q w f (sym (sym gw ∙ gf ∙ ap (to n) is' ∙ f.one))
                | inr is ↦
                    let is' : r ≡ next f.side = is ∙ ap next (next-next-next f.side) in
                    let (gn, gf, gto) = twin_beyond h r g (subst (Stands n) (sym is') at) lr in
                    corner-first n p q w f (sym gp ∙ gto ∙ ap n.from is' ∙ a1)
              ])
          | by_next b bt bn l bf bto ↦
              let same = once b g bt gt (ap merged_name (bf ∙ sym gw))
              (ap merged_name bto ∙ sym (same_ends p q k) ∙ sym (ap merged_name gp)) in
              corner-first n p q w f (sym gp ∙ sym (ap (to n) same) ∙ bto)
        ]

    old_new : (e g : ℕ) → IsNew e → Stands merged_net g → n.from e ≡ n.from g → to n e ≡ to n g → ⊥
    old_new e g k gt a b =
        let f = k.face in
        let (a1, a2, a3, at) = next_ends f in
        let (c1, c2, c3, ct) = prev_ends f in
        elim k.which [
          | inl is ↦ gt.first (ap merged_name (sym a ∙ ap n.from is ∙ f.at)
              ∙ same_ends k.p k.q k.are_ends ∙ sym (ap merged_name (sym b ∙ ap (to n) is ∙ f.one)))
          | inr (inl is) ↦ next_twice k.p k.q k.w k.are_ends f g gt (sym a ∙ ap n.from is ∙ a1)
              (sym b ∙ ap (to n) is ∙ a2)
          | inr (inr is) ↦ prev_twice k.p k.q k.w k.are_ends f g gt (sym a ∙ ap n.from is ∙ c1)
              (sym b ∙ ap (to n) is ∙ c2)
        ]

    -- a third corner is no end
    third_apart : {e g : ℕ} (k : IsNew e) (k' : IsNew g) → (k'.w ≢ k.p) × (k'.w ≢ k.q)
    third_apart k k' =
        let apart : (p q w p' q' : ℕ) → AreEnds t u p q → AreEnds t u p' q' → IsPairAt n p' q' w
        → (w ≢ p) × (w ≢ q) =
        λ p q w p' q' ends ends' f.
        grind (arith, common_steps, either, first-second, second-corner, turned) in
        apart k.p k.q k'.w k'.p k'.q k.are_ends k'.are_ends k'.face

    -- two new faces from one end to the other are one
    one_new : {e g : ℕ} (k : IsNew e) (k' : IsNew g) → k.p ≡ k'.p → k.face.side ≡ k'.face.side
    one_new k k' is =
        let q_is = other_end k.p k.q k'.p k'.q k.are_ends k'.are_ends is in
        h.one k.p k.q k.w k'.w k.are_ends k.face
        (renamed_face k'.p k'.q k'.w k.p k.q k'.w k'.face (sym is) (sym q_is) refl)

    new_new : (e g : ℕ) → IsNew e → IsNew g → n.from e ≡ n.from g → to n e ≡ to n g → e ≡ g
    new_new e g k k' a b =
        let f = k.face in
        let f' = k'.face in
        let (a1, a2, a3, at) = next_ends f in
        let (c1, c2, c3, ct) = prev_ends f in
        let (a1', a2', a3', at') = next_ends f' in
        let (c1', c2', c3', ct') = prev_ends f' in
        let apart = third_apart k k' in
        let apart' = third_apart k' k in
        elim k.which [
          | inl is ↦
              let ep = sym (ap n.from is ∙ f.at) ∙ a in
              let eq = sym (ap (to n) is ∙ f.one) ∙ b in
              elim k'.which [
                | inl is' ↦ is ∙ one_new k k' (ep ∙ ap n.from is' ∙ f'.at) ∙ sym is'
                | inr o ↦ grind (arith, common_steps)
              ]
          | inr (inl is) ↦
              let eq = sym (ap n.from is ∙ a1) ∙ a in
              let ew = sym (ap (to n) is ∙ a2) ∙ b in
              elim k'.which [
                | inl is' ↦ absurd (apart'.1 (ew ∙ ap (to n) is' ∙ f'.one))
                | inr (inl is') ↦
                    let pp = other_end k.q k.p k'.q k'.p (turned t u k.p k.q k.are_ends)
                    (turned t u k'.p k'.q k'.are_ends) (eq ∙ ap n.from is' ∙ a1') in
                    is ∙ ap next (one_new k k' pp) ∙ sym is'
                | inr (inr is') ↦ absurd (apart.1 (sym (eq ∙ ap n.from is' ∙ c1')))
              ]
          | inr (inr is) ↦
              let ew = sym (ap n.from is ∙ c1) ∙ a in
              let ep = sym (ap (to n) is ∙ c2) ∙ b in
              elim k'.which [
                | inl is' ↦ absurd (apart'.0 (ew ∙ ap n.from is' ∙ f'.at))
                | inr (inl is') ↦ absurd (apart.0 (sym (ep ∙ ap (to n) is' ∙ a2')))
                | inr (inr is') ↦ is ∙ ap prev (one_new k k' (ep ∙ ap (to n) is' ∙ c2')) ∙ sym is'
              ]
        ]

    pub no_side_twice_after : NoSideTwice n
    no_side_twice_after e g et gt a b =
        elim (old_or_new e et) [
          | inl eo ↦
              elim (old_or_new g gt) [
                | inl go ↦ once e g eo go (ap merged_name a) (ap merged_name b)
                | inr gn ↦ absurd (old_new g e gn eo (sym a) (sym b))
              ]
          | inr en ↦
              elim (old_or_new g gt) [
                | inl go ↦ absurd (old_new e g en go a b)
                | inr gn ↦ new_new e g en gn a b
              ]
        ]
