-- Where the same sides have equal ends, whatever the vertices' numbers are, the same sides are
-- glued and vertices are split alike.
use Rattle.std.proofs.Common.{◌≡◌, ℕ, zero, suc, ◌*◌, ◌<◌, inl, inr, sym, ap, ◌∙◌}
use Rattle.std.proofs.lemmas.Grind.{common_steps}
use Rattle.std.proofs.Common.{subst, List, length, map, get_or, arith}
use Rattle.std.proofs.lemmas.Bool.{cases_lt, cond-true, cond-false}
use Rattle.std.proofs.lemmas.List.{length-map, get_or-map}
use Rattle.pm_base.specs.declared.mesh.Corners.{Corners}
use Rattle.pm_base.specs.Sides.{Net, next, prev, net_of, side_count, corner_in, Stands}
use Rattle.pm_base.specs.Sides.{IsTwin}
use Rattle.pm_base.proofs.Sides.{next-lt}
use Rattle.pm_base.proofs.NetLaws.{face_at}
use Rattle.pm_fans.specs.Splits.{IsGlued, Turns, stay, on, AllStand}
use Rattle.pm_fans.specs.Orders.{IsFirstSide, IsLeastSide, IsHead, ComesFirst, Precedes}
use Rattle.pm_fans.specs.Orders.{IsSplitMesh}
use Rattle.pm_fans.proofs.KeptAgain.{renumbered}

pub record HaveSameEnds (m k : Net) : Type 0 where
  pub faces : k.faces ≡ m.faces
  pub there : (e g : ℕ) → e < side_count m → g < side_count m → m.from e ≡ m.from g
      → k.from e ≡ k.from g
  pub back : (e g : ℕ) → e < side_count m → g < side_count m → k.from e ≡ k.from g
      → m.from e ≡ m.from g

side_there : (m k : Net) → HaveSameEnds m k → (e : ℕ) → e < side_count m → e < side_count k
side_there m k s e l = subst (λ n. e < 3 * n) (sym s.faces) l

swapped : (m k : Net) → HaveSameEnds m k → HaveSameEnds k m
swapped m k s = grind (arith, common_steps)

stands_there : (m k : Net) → HaveSameEnds m k → (e : ℕ) → Stands m e → Stands k e
stands_there m k s e t =
    grind (arith, common_steps, next-lt m.faces e, next-lt m.faces (next e), side_there m k s e)

twin_there : (m k : Net) → HaveSameEnds m k → (e g : ℕ) → e < side_count m → IsTwin m e g
    → IsTwin k e g
twin_there m k s e g l w =
    let gl = w.stands.is_side in
    record {
      stands = stands_there m k s g w.stands;
      begins = s.there g (next e) gl (next-lt m.faces e l) w.begins;
      ends = s.there (next g) e (next-lt m.faces g gl) l w.ends;
    }

glued_there : (m k : Net) → HaveSameEnds m k → (e g : ℕ) → IsGlued m e g → IsGlued k e g
glued_there m k s e g w =
    let l = w.stands.is_side in
    let r = swapped m k s in
    record {
      stands = stands_there m k s e w.stands;
      twin = twin_there m k s e g l w.twin;
      one = λ j t a b.
          let u = stands_there k m r j t in
          w.one j u (s.back j e u.is_side l a)
          (s.back (next j) (next e) (next-lt m.faces j u.is_side) (next-lt m.faces e l) b);
      other = λ j t. w.other j (twin_there k m r e j (side_there m k s e l) t);
    }

turns_there : (m k : Net) → HaveSameEnds m k → (a e : ℕ) → Turns m a e → Turns k a e
turns_there m k s a e stay = stay
turns_there m k s a g (on {e} w t r) =
    on (turns_there m k s a e w) (stands_there m k s e t) (glued_there m k s (prev e) g r)

first_there : (m k : Net) → HaveSameEnds m k → (e : ℕ) → IsFirstSide m e → IsFirstSide k e
first_there m k s e first g w = first g (glued_there k m (swapped m k s) e g w)

least_there : (m k n : Net) → HaveSameEnds m k → (e : ℕ) → IsLeastSide m n e → IsLeastSide k n e
least_there m k n s e least g t at =
    let (closed, le) = least g (stands_there k m (swapped m k s) g t) at in
    (λ first. closed (first_there k m (swapped m k s) g first), le)

head_there : (m k n : Net) → HaveSameEnds m k → (e : ℕ) → IsHead m n e → IsHead k n e
head_there m k n s e (inl first) = inl (first_there m k s e first)
head_there m k n s e (inr least) = inr (least_there m k n s e least)

comes_there : (m k n : Net) → HaveSameEnds m k → (e g : ℕ) → ComesFirst m n e g → ComesFirst k n e g
comes_there m k n s e g (inl (first, least)) =
    inl (first_there m k s e first, least_there m k n s g least)
comes_there m k n s e g (inr (inl (a, b), l)) =
    inr (inl (first_there m k s e a, first_there m k s g b), l)
comes_there m k n s e g (inr (inr (a, b), l)) =
    inr (inr (least_there m k n s e a, least_there m k n s g b), l)

-- A vertex without a side by which it has its number has no side.
none_below : (m n : Net) (v : ℕ) → ((e : ℕ) → Stands m e → n.from e ≡ v → IsHead m n e → ⊥)
    → (k e : ℕ) → e < k → Stands m e → n.from e ≡ v → ⊥
none_below m n v none zero e l t at = omega arith
none_below m n v none (suc k) e l t at = grind (arith, common_steps, none_below m n v none k)

module _ (m : Net) (fs : List Corners) (old : List ℕ) (stand : AllStand m)
    (p : IsSplitMesh m fs old) where
  not_headless : (v : ℕ) → v < length old
      → ((e : ℕ) → Stands m e → (net_of fs).from e ≡ v → IsHead m (net_of fs) e → ⊥) → ⊥
  not_headless v l none =
      let (e, t, at) = p.used v l in
      none_below m (net_of fs) v none (suc e) e (omega arith)
      (stand e (subst (λ k. e < 3 * k) p.split.faces t.is_side)) at

  old_of : (e v : ℕ) → Stands m e → (net_of fs).from e ≡ v → m.from e ≡ get_or old v 0
  old_of e v t at = sym (p.back e t.is_side) ∙ ap (λ i. get_or old i 0) at

  -- New vertices rise with the old ones.
  pub new_rise : (v w : ℕ) → v < length old → w < length old → get_or old v 0 < get_or old w 0
      → v < w
  new_rise v w vl wl less =
      elim (cases_lt v w) [
        | inl l ↦ l
        | inr ge ↦ absurd (not_headless v vl (λ e te at_v he. not_headless w wl (λ g tg at_w hg.
            let a = old_of e v te at_v in
            let b = old_of g w tg at_w in
            let other : (v ≡ w) → ⊥ = λ is. (let c = ap (λ i. get_or old i 0) is in omega arith) in
            elim (p.ordered g e tg te hg he (omega (arith, other)))
            [ inl l ↦ omega arith | inr (is, c) ↦ omega arith ])))
      ]

  module _ (k : Net) (s : HaveSameEnds m k) (rise : (e g : ℕ) → e < side_count m → g < side_count m
      → m.from e < m.from g → k.from e < k.from g) where
    precedes_there : (e g : ℕ) → e < side_count m → g < side_count m → Precedes m (net_of fs) e g
        → Precedes k (net_of fs) e g
    precedes_there e g el gl (inl less) = inl (rise e g el gl less)
    precedes_there e g el gl (inr (is, comes)) =
        inr (s.there e g el gl is, comes_there m k (net_of fs) s e g comes)

    pub split_there : (other : List ℕ) → length other ≡ length old
        → ((e : ℕ) → e < side_count m → get_or other ((net_of fs).from e) 0 ≡ k.from e)
        → IsSplitMesh k fs other
    split_there other long back =
        let r = swapped m k s in
        let low = side_there k m r in
        record {
          split = record {
            faces = p.split.faces ∙ sym s.faces;
            old = λ v. get_or other v 0;
            back = λ e l. back e (low e l);
            along = λ e g t w. p.split.along e g (stands_there k m r e t)
                (glued_there k m r (prev e) g w);
            apart = λ e t.
                let (a, ta, all) = p.split.apart e (stands_there k m r e t) in (
                  a,
                  stands_there m k s a ta,
                  λ g tg same. turns_there m k s a g
                      (all g (stands_there k m r g tg) same),
                );
          };
          ordered = λ e g te tg he hg less.
              let ue = stands_there k m r e te in
              let ug = stands_there k m r g tg in
              precedes_there e g ue.is_side ug.is_side
              (p.ordered e g ue ug (head_there k m (net_of fs) r e he)
              (head_there k m (net_of fs) r g hg) less);
          used = λ v l. p.used v (subst (λ n. v < n) long l);
          within = λ e l. subst (λ n. (net_of fs).from e < n) (sym long) (p.within e (low e l));
          back = λ e l. back e (low e l);
        }

-- The sides of faces over other numbers of their vertices.
corner_renumbered : (r : ℕ → ℕ) (f : Corners) (i : ℕ)
    → corner_in (renumbered r f) i ≡ r (corner_in f i)
corner_renumbered r f i = grind (arith, common_steps, cond-false, cond-true)

pub from_renumbered : (r : ℕ → ℕ) (fs : List Corners) (e : ℕ) → e < side_count (net_of fs)
    → (net_of (map (renumbered r) fs)).from e ≡ r ((net_of fs).from e)
from_renumbered r fs e l =
    grind (arith, common_steps, corner_renumbered, face_at, get_or-map, renumbered)

pub same_ends : (r : ℕ → ℕ) → ((x y : ℕ) → r x ≡ r y → x ≡ y) → (fs : List Corners)
    → HaveSameEnds (net_of fs) (net_of (map (renumbered r) fs))
same_ends r apart fs =
    let at = from_renumbered r fs in
    record {
      faces = length-map fs (renumbered r);
      there = λ e g el gl is. at e el ∙ ap r is ∙ sym (at g gl);
      back = λ e g el gl is. apart _ _ (sym (at e el) ∙ is ∙ at g gl);
    }
