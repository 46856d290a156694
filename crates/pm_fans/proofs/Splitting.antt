-- Splitting vertices by fans: the proofs.
use Rattle.std.proofs.Common.{◌≡◌, ℕ, ◌*◌, ◌<◌, refl, sym, ap, ◌∙◌, subst, arith}
use Rattle.std.proofs.lemmas.Grind.{common_steps}
use Rattle.pm_base.specs.Sides.{Net, next, prev, to, third, Stands, NoSideTwice, IsTwin}
use Rattle.pm_base.specs.Fans.{IsPairAt, IsUsed, IsOrientedManifold}
use Rattle.pm_base.specs.Rounds.{Goes, stay as halt, on as go, IsRound}
use Rattle.pm_base.proofs.Sides.{next-next-next, stands_next, pair_at, one_side}
use Rattle.pm_base.proofs.TwinLaws.{twin-twin}
use Rattle.pm_base.proofs.Rounds.{uncons}
use Rattle.pm_base.proofs.FanLaws.{round_fan, fan_round}
use Rattle.pm_fans.specs.Splits.{IsGlued, Turns, stay, on, AllStand, NoMirroredFaces, IsSplitByFans}
use Rattle.pm_fans.specs.Splits.{IsNumberedBy}

-- Gluing is mutual.
pub glued_back : (m : Net) (e g : ℕ) → IsGlued m e g → IsGlued m g e
glued_back m e g w = record {
  stands = w.twin.stands;
  twin = twin-twin m e g w.stands w.twin;
  one = λ k t a b. w.other k (record {
    stands = t;
    begins = a ∙ w.twin.begins;
    ends = b ∙ w.twin.ends;
  });
  other = λ k t. w.one k t.stands (t.begins ∙ w.twin.ends) (t.ends ∙ w.twin.begins);
}

-- Where no directed side stands twice, twins are glued.
pub twins_glued : (m : Net) → NoSideTwice m → (e g : ℕ) → Stands m e → IsTwin m e g → IsGlued m e g
twins_glued m once e g t w = record {
  stands = t;
  twin = w;
  one = λ k u a b. once k e u t a b;
  other = λ k u. once k g u.stands w.stands (u.begins ∙ sym w.begins) (u.ends ∙ sym w.ends);
}

-- The side before a side that was come to, from the end of its face.
front : (m : Net) (g : ℕ) → prev (next g) ≡ g
front m g = next-next-next g

module _ (m n : Net) (s : IsSplitByFans m n) where
  old-from : (e : ℕ) → Stands m e → s.old (n.from e) ≡ m.from e
  old-from e t = s.back e t.is_side

  pub there : (e : ℕ) → Stands m e → Stands n e
  there e t =
      let t1 = stands_next m e t in
      let t2 = stands_next m (next e) t1 in
      record {
        is_side = subst (λ k. e < 3 * k) (sym s.faces) t.is_side;
        first = λ is. t.first (sym (old-from e t) ∙ ap s.old is ∙ old-from (next e) t1);
        second = λ is. t.second (sym (old-from (next e) t1) ∙ ap s.old is ∙ old-from (prev e) t2);
        last = λ is. t.last (sym (old-from (prev e) t2) ∙ ap s.old is ∙ old-from e t);
      }

  -- The side that follows round the vertex runs from the same new vertex to the third corner.
  step : (e g : ℕ) → Stands m e → IsGlued m (prev e) g → Stands m g × (n.from g ≡ n.from e)
      × (to n g ≡ third n e)
  step e g t r =
      let k = subst (λ i. IsGlued m i (prev e)) (sym (front m g)) (glued_back m (prev e) g r) in (
        r.twin.stands,
        s.along e g t r,
        sym (s.along (next g) (prev e) (stands_next m g r.twin.stands) k),
      )

  goes : (a e : ℕ) → Stands m a → Turns m a e → Stands m e × (n.from e ≡ n.from a)
      × Goes n (n.from a) (to n a) (to n e)
  goes a e t stay = (t, refl, halt)
  goes a g t (on {e} w _ r) =
      let (te, fe, k) = goes a e t w in
      let (tg, fg, j) = step e g te r in
      let f : IsPairAt n (n.from a) (to n e) (third n e) = grind (arith, common_steps, there) in
      (tg, fg ∙ fe, subst (λ i. Goes n (n.from a) (to n a) i) (sym j) (go k f))

  -- A side that was come to over a glued side stands once.
  alone : (a e g : ℕ) → Turns m a e → Turns m a g → Stands m e → Stands m g → m.from e ≡ m.from g
      → to m e ≡ to m g → e ≡ g
  alone a e g stay stay te tg f t = refl
  alone a e g stay (on {e = p} w _ r) te tg f t = (glued_back m (prev p) g r).one e te f t
  alone a e g (on {e = p} w _ r) u te tg f t =
      sym ((glued_back m (prev p) e r).one g tg (sym f) (sym t))

  module _ (stand : AllStand m) where
    here : (e : ℕ) → Stands n e → Stands m e
    here e t = stand e (subst (λ k. e < 3 * k) s.faces t.is_side)

    pub once_split : NoSideTwice n
    once_split e g te tg a b =
        let ve = here e te in
        let vg = here g tg in
        let (o, to_, all) = s.apart e ve in
        alone o e g (all e ve refl) (all g vg (sym a)) ve vg
        (sym (old-from e ve) ∙ ap s.old a ∙ old-from g vg)
        (sym (old-from (next e) (stands_next m e ve)) ∙ ap s.old b
        ∙ old-from (next g) (stands_next m g vg))

    old_pair : {v x y : ℕ} → IsPairAt n v x y → IsPairAt m (s.old v) (s.old x) (s.old y)
    old_pair f = grind (arith, common_steps, here, old-from, stands_next)

    round_split : (v : ℕ) → IsUsed n v → IsRound n v
    round_split v (e, te, is) =
        let (a, ta, all) = s.apart e (here e te) in (
          to n a,
          λ x y f.
              let r = all f.side (here f.side f.stands) (f.at ∙ sym is) in
              let (tf, k, g) = goes a f.side ta r in
              subst (λ i. Goes n v (to n a) i) f.one
              (subst (λ i. Goes n i (to n a) (to n f.side)) (sym k ∙ f.at) g),
        )

    pub manifold_split : NoMirroredFaces m → IsOrientedManifold n
    manifold_split single = record {
      no_side_twice = once_split;
      fans = λ v u. round_fan n once_split v
          (λ x y f g. single (s.old v) (s.old x) (s.old y) (old_pair f) (old_pair g))
          (round_split v u);
    }

  -- From a pair on round a vertex that has one fan, all sides stay at one vertex.
  stays : (once : NoSideTwice m) {v a x y0 : ℕ} (f0 : IsPairAt m v a y0) → Goes m v a x
      → (y : ℕ) (f : IsPairAt m v x y) → n.from f.side ≡ n.from f0.side
  stays once f0 halt y f = ap n.from (one_side m once f f0)
  stays once f0 (go w p) y f =
      let q = stands_next m (next p.side) (stands_next m p.side p.stands) in
      let k = twins_glued m once (prev p.side) f.side q
      (record {
        stands = f.stands;
        begins =
            f.at ∙ sym p.at ∙ sym (ap m.from (next-next-next p.side));
        ends = f.one ∙ sym p.two;
      }) in
      s.along p.side f.side p.stands k ∙ stays once f0 w _ p

-- The first pair of a way that meets every pair.
pub first_pair : (m : Net) (once : NoSideTwice m) (v a x y : ℕ) → Goes m v a x → IsPairAt m v x y
    → (b : ℕ) × IsPairAt m v a b
first_pair m once v a x y w f = grind (arith, common_steps, uncons)

pub splits_make_manifolds : (m n : Net) → AllStand m → NoMirroredFaces m → IsSplitByFans m n
    → IsOrientedManifold n
splits_make_manifolds m n stand single s = manifold_split m n s stand single

pub manifolds_stay_whole : (m n : Net) → IsOrientedManifold m → IsSplitByFans m n → (e g : ℕ)
    → Stands m e → Stands m g → m.from e ≡ m.from g → n.from e ≡ n.from g
manifolds_stay_whole m n is s e g te tg same =
    let once = is.no_side_twice in
    let v : ℕ = m.from e in
    let (a, all) = fan_round m v (is.fans v (e, te, refl)) in
    let pe : IsPairAt m v (to m e) (third m e) = pair_at m e te in
    let pg : IsPairAt m v (to m g) (third m g) = grind (arith, common_steps) in
    let (b, f0) = first_pair m once v a (to m e) (third m e) (all (to m e) (third m e) pe) pe in
    stays m n s once f0 (all (to m e) (third m e) pe) (third m e) pe
    ∙ sym (stays m n s once f0 (all (to m g) (third m g) pg) (third m g) pg)

-- Going round a vertex stays at it.
pub turns_from : (m : Net) (s e : ℕ) → Turns m s e → m.from e ≡ m.from s
turns_from m s e stay = refl
turns_from m s g (on {e} w _ r) = r.twin.begins ∙ ap m.from (next-next-next e) ∙ turns_from m s e w

pub numberings_split : (m n : Net) (first : ℕ → ℕ) → AllStand m → IsNumberedBy m n first
    → IsSplitByFans m n
numberings_split m n first stand s = record {
  faces = s.faces;
  old = λ v. m.from (first v);
  back = λ e l. sym (turns_from m (first (n.from e)) e (s.met e (stand e l)));
  along = s.along;
  apart = λ e t. (
    first (n.from e),
    s.stands e t,
    λ g tg same. subst (λ v. Turns m (first v) g) same
        (s.met g tg),
  );
}
