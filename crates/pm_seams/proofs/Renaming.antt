-- An oriented manifold whose vertices have other names.
use Rattle.std.proofs.Common.{◌≡◌, ℕ, zero, suc, ◌<◌, ◌≤◌, ◌⊎◌, inl, inr, refl, sym, ap, ◌∙◌}
use Rattle.std.proofs.Common.{subst, arith}
use Rattle.pm_base.specs.Sides.{Net, next, prev, to, third, Stands, NoSideTwice}
use Rattle.pm_base.specs.Sides.{IsBorderSide, IsBorder}
use Rattle.pm_base.specs.Fans.{IsPairAt, IsUsed, IsDistinctBelow, IsOpen, IsClosedChain, IsFan}
use Rattle.pm_base.proofs.Sides.{stands_next, pair_at}
use Rattle.pm_seams.specs.Joined.{renamed, IsOneToOneOn}
use Rattle.pm_seams.specs.Laws as law
use Rattle.pm_seams.proofs.Copies.{IsCopied, stands_from, stands_in, pair_in}

module _ (name : ℕ → ℕ) (m : Net) (one : IsOneToOneOn name m) where
  abbrev n : Net
  n = renamed name m

  pub copied : IsCopied m (renamed name m) name (λ e. e)
  copied = record { is_side = λ e l. l; turns = λ e l. refl; named = λ e l. refl }

  pub old_stands : (e : ℕ) → Stands (renamed name m) e → Stands m e
  old_stands e s = stands_from m n name (λ i. i) copied e s.is_side s

  pub named_stands : (e : ℕ) → Stands m e → Stands (renamed name m) e
  named_stands e s = stands_in m n name (λ i. i) copied one e s

  -- A pair's old vertices.
  pub record WasPair (v x y : ℕ) : Type 0 where
    pub corner : ℕ
    pub first : ℕ
    pub second : ℕ
    pub pair : IsPairAt m corner first second
    pub corner_is : name corner ≡ v
    pub first_is : name first ≡ x
    pub second_is : name second ≡ y

  pub was : (v x y : ℕ) → IsPairAt (renamed name m) v x y → WasPair v x y
  was v x y f = record {
    corner = m.from f.side;
    first = to m f.side;
    second = third m f.side;
    pair = pair_at m f.side (old_stands f.side f.stands);
    corner_is = f.at;
    first_is = f.one;
    second_is = f.two;
  }

  -- Both ends of a side, or the three corners of a face, are vertices that the mesh uses.
  pub corner_used : (v x y : ℕ) → IsPairAt m v x y → IsUsed m v
  corner_used v x y f = (f.side, f.stands, f.at)

  pub first_used : (v x y : ℕ) → IsPairAt m v x y → IsUsed m x
  first_used v x y f = (next f.side, stands_next m f.side f.stands, f.one)

  pub second_used : (v x y : ℕ) → IsPairAt m v x y → IsUsed m y
  second_used v x y f =
      (prev f.side, stands_next m (next f.side) (stands_next m f.side f.stands), f.two)

  pub once : NoSideTwice m → NoSideTwice (renamed name m)
  once single e g se sg begins ends =
      let fe = old_stands e se in
      let fg = old_stands g sg in
      let e' = stands_next m e fe in
      let g' = stands_next m g fg in
      single e g fe fg
      (one (m.from e) (m.from g) (e, fe, refl) (g, fg, refl) begins)
      (one (to m e) (to m g) (next e, e', refl) (next g, g', refl) ends)

  -- The border sides are the same.
  pub border_named : (e : ℕ) → IsBorderSide m e → IsBorderSide (renamed name m) e
  border_named e b = record {
    stands = stands_in m n name (λ i. i) copied one e b.stands;
    alone = λ g t.
        let s = old_stands g t.stands in
        let s' = stands_next m g s in
        let e' = stands_next m e b.stands in
        b.alone g (record {
          stands = s;
          begins = one (m.from g) (to m e) (g, s, refl) (next e, e', refl) t.begins;
          ends = one (to m g) (m.from e) (next g, s', refl) (e, b.stands, refl) t.ends;
        });
  }

  pub border_was : (e : ℕ) → IsBorderSide (renamed name m) e → IsBorderSide m e
  border_was e b = record {
    stands = old_stands e b.stands;
    alone = λ g t. b.alone g (record {
      stands = stands_in m n name (λ i. i) copied one g t.stands;
      begins = ap name t.begins;
      ends = ap name t.ends;
    });
  }

  -- A vertex on the border was on it before.
  pub on_border : (v : ℕ) → IsUsed m v → IsBorder (renamed name m) (name v) → IsBorder m v
  on_border v used (e, b, at) =
      let was = border_was e b in (
        e,
        was,
        elim at [
          | inl is ↦ inl (one (m.from e) v (e, was.stands, refl) used is)
          | inr is ↦ inr (one (to m e) v (next e, stands_next m e was.stands, refl) used is)
        ],
      )

  module _ (v : ℕ) (f : IsFan m v) (used : IsUsed m v) where
    all_named :
        (x y : ℕ) → IsPairAt (renamed name m) (name v) x y →
        (i : ℕ) × (i < f.n) × (x ≡ name (f.w i)) × (y ≡ name (f.w (suc i)))
    all_named x y g =
        let p = was (name v) x y g in
        let is = one p.corner v (corner_used p.corner p.first p.second p.pair) used p.corner_is in
        let (i, l, a, b) =
        f.chain.all p.first p.second (subst (λ z. IsPairAt m z p.first p.second) is p.pair) in
        (i, l, sym p.first_is ∙ ap name a, sym p.second_is ∙ ap name b)

    -- Each vertex of the chain is one that the mesh uses.
    chain_used : (i : ℕ) → i ≤ f.n → 0 < f.n → IsUsed m (f.w i)
    chain_used zero l some = first_used v (f.w 0) (f.w 1) (f.chain.here 0 some)
    chain_used (suc i) l some = second_used v (f.w i) (f.w (suc i)) (f.chain.here i (omega arith))

    distinct :
        (n : ℕ) → n ≤ suc f.n → IsDistinctBelow f.w n → IsDistinctBelow (λ i. name (f.w i)) n
    distinct n l d i j below top is =
        let first = chain_used i (omega arith) (omega arith) in
        let second = chain_used j (omega arith) (omega arith) in
        d i j below top (one (f.w i) (f.w j) first second is)

    ends_named :
        IsOpen f.w f.n ⊎ IsClosedChain f.w f.n →
        IsOpen (λ i. name (f.w i)) f.n ⊎ IsClosedChain (λ i. name (f.w i)) f.n
    ends_named (inl d) = inl (distinct (suc f.n) (omega arith) d)
    ends_named (inr (big, closed, d)) = inr (big, ap name closed, distinct f.n (omega arith) d)

    fan : IsFan (renamed name m) (name v)
    fan = record {
      w = λ i. name (f.w i);
      n = f.n;
      chain = record {
        here = λ i l.
            pair_in m n name (λ e. e) copied one v (f.w i) (f.w (suc i)) (f.chain.here i l);
        all = all_named;
      };
      ends = ends_named f.ends;
    }

pub renamed_surfaces : law.RenamedMeshesAreSurfaces
renamed_surfaces name m one manifold = record {
  no_side_twice = once name m one manifold.no_side_twice;
  fans = λ v (e, s, at).
      let old = old_stands name m one e s in
      let used : IsUsed m (m.from e) = (e, old, refl) in
      let old_fan = manifold.fans (m.from e) used in
      subst (IsFan (renamed name m)) at (fan name m one (m.from e) old_fan used);
}
