-- Meshes with the same pairs, of which each is an oriented manifold where the other is. So it
-- doesn't matter in which order meshes are put together.
use Rattle.std.proofs.Common.{◌≡◌, ℕ, suc, ◌*◌, ◌<◌, ◌⊎◌, inl, inr, refl, sym, ap, ◌∙◌, arith}
use Rattle.pm_base.specs.Sides.{Net, NoSideTwice, to, third}
use Rattle.pm_base.specs.Fans.{IsPairAt, IsUsed, IsOrientedManifold}
use Rattle.pm_base.proofs.Sides.{pair_at}
use Rattle.pm_seams.specs.Joined.{together, no_faces, HaveSameBorder}
use Rattle.pm_seams.specs.Laws as law
use Rattle.pm_seams.proofs.Borders.{side_alone, alone_side}
use Rattle.pm_seams.proofs.Copies.{IsCopied, pair_in, pair_from}
use Rattle.pm_seams.proofs.Sums.{IsSum, sums}

pub record AreAlike (m n : Net) : Type 0 where
  pub forth : (v x y : ℕ) → IsPairAt m v x y → IsPairAt n v x y
  pub back : (v x y : ℕ) → IsPairAt n v x y → IsPairAt m v x y
  pub once : NoSideTwice m → NoSideTwice n

pub itself : (m : Net) → AreAlike m m
itself m = record { forth = λ v x y f. f; back = λ v x y f. f; once = λ o. o }

pub alike_surfaces : (m n : Net) → AreAlike m n → IsOrientedManifold m → IsOrientedManifold n
alike_surfaces m n a manifold = record {
  no_side_twice = a.once manifold.no_side_twice;
  fans = λ v (e, s, at).
      let f : IsPairAt n v (to n e) (third n e) =
      record { side = e; stands = s; at = at; one = refl; two = refl } in
      let g = a.back v (to n e) (third n e) f in
      let fan = manifold.fans v (g.side, g.stands, g.at) in
      record {
        w = fan.w;
        n = fan.n;
        chain = record {
          here = λ i l. a.forth v (fan.w i) (fan.w (suc i)) (fan.chain.here i l);
          all = λ x y h. fan.chain.all x y (a.back v x y h);
        };
        ends = fan.ends;
      };
}

pub then : (m n o : Net) → AreAlike m n → AreAlike n o → AreAlike m o
then m n o a b = record {
  forth = λ v x y f. b.forth v x y (a.forth v x y f);
  back = λ v x y f. a.back v x y (b.back v x y f);
  once = λ o. b.once (a.once o);
}

pub alike_borders : (m n : Net) → AreAlike m n → HaveSameBorder m n
alike_borders m n a x y = (
  λ b.
      let ((z, f), none) = side_alone m x y b in
      alone_side n x y (z, a.forth x y z f) (λ (k, g). none (k, a.back y x k g)),
  λ b.
      let ((z, f), none) = side_alone n x y b in
      alone_side m x y (z, a.back x y z f) (λ (k, g). none (k, a.forth y x k g)),
)

-- From an oriented manifold to one with the same border.
abbrev pub Becomes : Net → Net → Type 0
Becomes m n = IsOrientedManifold m → IsOrientedManifold n × HaveSameBorder m n

pub alike_becomes : (m n : Net) → AreAlike m n → Becomes m n
alike_becomes m n a manifold = (alike_surfaces m n a manifold, alike_borders m n a)

pub same_border : (m n o : Net) → HaveSameBorder m n → HaveSameBorder n o → HaveSameBorder m o
same_border m n o a b x y = (λ h. (b x y).0 ((a x y).0 h), λ h. (a x y).1 ((b x y).1 h))

pub and_then : (m n o : Net) → Becomes m n → Becomes n o → Becomes m o
and_then m n o f g manifold =
    let (second, a) = f manifold in
    let (third, b) = g second in
    (third, same_border m n o a b)

-- Two meshes in either order.
pub swapped : (a r : Net) → AreAlike (together a r) (together r a)
swapped a r =
    let p = sums a r in
    let q = sums r a in
    record {
      forth = λ v x y f.
          elim (p.parts v x y f) [ inl g ↦ q.right v x y g | inr g ↦ q.left v x y g ];
      back = λ v x y f.
          elim (q.parts v x y f) [ inl g ↦ p.right v x y g | inr g ↦ p.left v x y g ];
      once = λ o. q.once (p.once_right o) (p.once_left o) (λ v x y z f g. p.apart o v x z y g f);
    }

pub order_free : law.OrderIsFree
order_free a b manifold = alike_surfaces _ _ (swapped a b) manifold

-- Of two meshes alike, each beside a third.
pub beside : (a m n : Net) → AreAlike m n → AreAlike (together a m) (together a n)
beside a m n h =
    let p = sums a m in
    let q = sums a n in
    record {
      forth = λ v x y f.
          elim (p.parts v x y f) [
            | inl g ↦ q.left v x y g
            | inr g ↦ q.right v x y (h.forth v x y g)
          ];
      back = λ v x y f.
          elim (q.parts v x y f) [
            | inl g ↦ p.left v x y g
            | inr g ↦ p.right v x y (h.back v x y g)
          ];
      once = λ o.
          q.once (p.once_left o) (h.once (p.once_right o))
          (λ v x y z f g. p.apart o v x y z f (h.back v x z g));
    }

-- Three meshes, put together from the right or from the left.
module _ (a b c : Net) where
  right : IsSum (together a (together b c)) a (together b c)
  right = sums a (together b c)

  left : IsSum (together (together a b) c) (together a b) c
  left = sums (together a b) c

  first : IsSum (together a b) a b
  first = sums a b

  last : IsSum (together b c) b c
  last = sums b c

  to_left :
      (v x y : ℕ) → IsPairAt (together a (together b c)) v x y →
      IsPairAt (together (together a b) c) v x y
  to_left v x y f =
      elim (right.parts v x y f) [
        | inl g ↦ left.left v x y (first.left v x y g)
        | inr g ↦
            elim (last.parts v x y g) [
              | inl h ↦ left.left v x y (first.right v x y h)
              | inr h ↦ left.right v x y h
            ]
      ]

  to_right :
      (v x y : ℕ) → IsPairAt (together (together a b) c) v x y →
      IsPairAt (together a (together b c)) v x y
  to_right v x y f =
      elim (left.parts v x y f) [
        | inl g ↦
            elim (first.parts v x y g) [
              | inl h ↦ right.left v x y h
              | inr h ↦ right.right v x y (last.left v x y h)
            ]
        | inr g ↦ right.right v x y (last.right v x y g)
      ]

  pub from_left : AreAlike (together a (together b c)) (together (together a b) c)
  from_left = record {
    forth = to_left;
    back = to_right;
    once = λ o.
        let in_last = right.once_right o in
        left.once
        (first.once (right.once_left o) (last.once_left in_last)
        (λ v x y z f g. right.apart o v x y z f (last.left v x z g)))
        (last.once_right in_last)
        (λ v x y z f g. elim (first.parts v x y f) [
          | inl h ↦ right.apart o v x y z h (last.right v x z g)
          | inr h ↦ last.apart in_last v x y z h g
        ]);
  }

  pub from_right : AreAlike (together (together a b) c) (together a (together b c))
  from_right = record {
    forth = to_right;
    back = to_left;
    once = λ o.
        let in_first = left.once_left o in
        right.once (first.once_left in_first)
        (last.once (first.once_right in_first) (left.once_right o)
        (λ v x y z f g. left.apart o v x y z (first.right v x y f) g))
        (λ v x y z f g. elim (last.parts v x z g) [
          | inl h ↦ first.apart in_first v x y z f h
          | inr h ↦ left.apart o v x y z (first.left v x y f) h
        ]);
  }

-- The first of three from within: (a, (b, c)) as (b, (a, c)).
pub pulled_out : (a b c : Net) → AreAlike (together a (together b c)) (together b (together a c))
pulled_out a b c =
    let one = from_left a b c in
    let two = swapped (together a b) c in
    let three = beside c (together a b) (together b a) (swapped a b) in
    let four = swapped c (together b a) in
    let five = from_right b a c in
    then _ _ _ one (then _ _ _ two (then _ _ _ three (then _ _ _ four five)))

-- A mesh without faces adds nothing.
no_pair : (v x y : ℕ) → IsPairAt no_faces v x y → ⊥
no_pair v x y f = let l = f.stands.is_side in absurd (omega arith)

pub beside_none : (m : Net) → AreAlike m (together no_faces m)
beside_none m =
    let p = sums no_faces m in
    record {
      forth = p.right;
      back = λ v x y f. elim (p.parts v x y f) [ inl g ↦ absurd (no_pair v x y g) | inr g ↦ g ];
      once = λ o.
          p.once (λ e g s t. absurd (no_pair _ _ _ (pair_at no_faces e s))) o
          (λ v x y z f g. no_pair v x y f);
    }

pub without_none : (m : Net) → AreAlike (together no_faces m) m
without_none m =
    let p = sums no_faces m in
    record {
      forth = λ v x y f. elim (p.parts v x y f) [ inl g ↦ absurd (no_pair v x y g) | inr g ↦ g ];
      back = p.right;
      once = p.once_right;
    }

-- What is used where two meshes are put together is used in one of them.
pub used_in : (a r : Net) (v : ℕ) → IsUsed (together a r) v → IsUsed a v ⊎ IsUsed r v
used_in a r v (e, s, at) =
    let m = together a r in
    let f : IsPairAt m v (to m e) (third m e) =
    record { side = e; stands = s; at = at; one = refl; two = refl } in
    elim ((sums a r).parts v (to m e) (third m e) f) [
      | inl g ↦ inl (g.side, g.stands, g.at)
      | inr g ↦ inr (g.side, g.stands, g.at)
    ]

-- A mesh whose sides are those of another one by one.
pub copies_alike :
    (a m : Net) (place : ℕ → ℕ) → IsCopied a m (λ x. x) place →
    ((e : ℕ) → e < 3 * m.faces → (g : ℕ) × (g < 3 * a.faces) × (place g ≡ e)) → AreAlike a m
copies_alike a m place c onto = record {
  forth = pair_in a m (λ x. x) place c (λ x y p q is. is);
  back = λ v x y f.
      let (g, l, is) = onto f.side f.stands.is_side in
      pair_from a m place c v x y f g l is;
  once = λ single e k s t begins ends.
      let (e', le, ise) = onto e s.is_side in
      let (k', lk, isk) = onto k t.is_side in
      let f = pair_from a m place c _ _ _ (pair_at m e s) e' le ise in
      let h = pair_from a m place c _ _ _ (pair_at m k t) k' lk isk in
      let same : e' ≡ k' =
      single e' k' f.stands h.stands (f.at ∙ begins ∙ sym h.at) (f.one ∙ ends ∙ sym h.one) in
      sym ise ∙ ap place same ∙ isk;
}

pub beside_first : (a m n : Net) → AreAlike m n → AreAlike (together m a) (together n a)
beside_first a m n h = then _ _ _ (swapped m a) (then _ _ _ (beside a m n h) (swapped a n))
