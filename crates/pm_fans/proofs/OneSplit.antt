-- Two splits by fans of one mesh are the same.
use Rattle.std.proofs.Common.{◌≡◌, ℕ, zero, suc, ◌+◌, ◌*◌, ◌<◌, ◌≤◌, inl, inr, refl, sym, ap, ◌∙◌}
use Rattle.std.proofs.Common.{subst, List, length, arith}
use Rattle.std.specs.Prelude.{slice_index_or}
use Rattle.std.proofs.lemmas.Bool.{cases_eq, cases_lt, cases_order}
use Rattle.std.proofs.lemmas.List.{ext_get_or}
use Rattle.std.proofs.lemmas.Grind.{same_number_lists, common_steps}
use Rattle.pm_base.specs.declared.mesh.Corners.{Corners}
use Rattle.pm_base.specs.Sides.{Net, net_of, no_corners, side_count, prev, Stands}
use Rattle.pm_base.proofs.NetLaws.{face_at, first_side, second_side, third_side}
use Rattle.pm_fans.specs.Splits.{Turns, stay, on, AllStand, IsSplitByFans}
use Rattle.pm_fans.specs.Orders.{IsFirstSide, IsLeastSide, IsHead, ComesFirst, Precedes, IsOrdered}
use Rattle.pm_fans.specs.Orders.{IsSplitMesh}
use Rattle.pm_fans.proofs.Splitting.{glued_back}

-- Where x numbers some things with no gaps, and y numbers them in the same order, no number of y is
-- less than that of x.
pub no_less : (P : ℕ → Type 0) (x y : ℕ → ℕ) → ((e g : ℕ) → P e → P g → x g < x e → y g < y e)
    → ((v e : ℕ) → v < x e → P e → ((g : ℕ) → P g → x g ≡ v → ⊥) → ⊥) → (v e : ℕ) → P e → x e ≡ v
    → v ≤ y e
no_less P x y rise full zero e p is = omega arith
no_less P x y rise full (suc v) e p is =
    elim (cases_lt v (y e)) [
      | inl l ↦ l
      | inr ge ↦
          absurd (full v e (omega (arith, is)) p (λ g q at.
          let below = no_less P x y rise full v g q at in
          let up = rise e g p q (omega (arith, is, at)) in
          absurd (omega arith)))
    ]

-- Going round stays at one new vertex.
turns_new : (m n : Net) → IsSplitByFans m n → (s e : ℕ) → Turns m s e → n.from e ≡ n.from s
turns_new m n split s e stay = refl
turns_new m n split s g (on {e} w t r) = split.along e g t r ∙ turns_new m n split s e w

-- A side that follows none is met only from itself.
first_turned : (m : Net) (s e : ℕ) → Turns m s e → IsFirstSide m e → e ≡ s
first_turned m s e stay none = refl
first_turned m s g (on {e} w t r) none = absurd (none (prev e) (glued_back m (prev e) g r))

module _ (m n : Net) (split : IsSplitByFans m n) where
  one_head : (e g : ℕ) → Stands m e → Stands m g → IsHead m n e → IsHead m n g → n.from e ≡ n.from g
      → e ≡ g
  one_head e g te tg (inl fe) (inl fg) same =
      let (s, ts, all) = split.apart e te in
      first_turned m s e (all e te refl) fe ∙ sym (first_turned m s g (all g tg (sym same)) fg)
  one_head e g te tg (inl fe) (inr lg) same = absurd ((lg e te same).0 fe)
  one_head e g te tg (inr le) (inl fg) same = absurd ((le g tg (sym same)).0 fg)
  one_head e g te tg (inr le) (inr lg) same =
      let a = (le g tg (sym same)).1 in
      let b = (lg e te same).1 in
      omega arith

  -- A new vertex without a head has no side below i.
  no_side : (v : ℕ) → ((e : ℕ) → Stands m e → IsHead m n e → n.from e ≡ v → ⊥) → (i e : ℕ) → e < i
      → Stands m e → n.from e ≡ v → ⊥
  no_side v none zero e l te is = absurd (omega arith)
  no_side v none (suc i) e l te is =
      let least : IsLeastSide m n e = λ g tg at. (
        λ first. none g tg (inl first) (at ∙ is),
        elim (cases_lt g e) [
          | inl less ↦ absurd (no_side v none i g (omega arith) tg (at ∙ is))
          | inr ge ↦ ge
        ],
      ) in
      none e te (inr least) is

  comes_one : (e g : ℕ) → Stands m e → Stands m g → ComesFirst m n e g → ComesFirst m n g e → ⊥
  comes_one e g te tg (inl (fe, lg)) (inl (fg, le)) = (le e te refl).0 fe
  comes_one e g te tg (inl (fe, lg)) (inr (inl (fg, f), l)) = (lg g tg refl).0 fg
  comes_one e g te tg (inl (fe, lg)) (inr (inr (k, le), l)) = (le e te refl).0 fe
  comes_one e g te tg (inr (inl (fe, fg), k)) (inl (f, le)) = (le e te refl).0 fe
  comes_one e g te tg (inr (inr (le, lg), k)) (inl (fg, j)) = (lg g tg refl).0 fg
  comes_one e g te tg (inr (a, k)) (inr (b, l)) = absurd (omega arith)

  precedes_one : (e g : ℕ) → Stands m e → Stands m g → Precedes m n e g → Precedes m n g e → ⊥
  precedes_one e g te tg (inl k) (inl l) = absurd (omega arith)
  precedes_one e g te tg (inl k) (inr (same, c)) = absurd (omega arith)
  precedes_one e g te tg (inr (same, c)) (inl l) = absurd (omega arith)
  precedes_one e g te tg (inr (same, c)) (inr (is, d)) = comes_one e g te tg c d

-- What one split says of sides, another says too.
module _ (m n p : Net) (split : IsSplitByFans m n) (other : IsSplitByFans m p) where
  same_vertex : (e g : ℕ) → Stands m e → Stands m g → n.from e ≡ n.from g → p.from e ≡ p.from g
  same_vertex e g te tg same =
      let (s, ts, all) = split.apart e te in
      turns_new m p other s e (all e te refl) ∙ sym (turns_new m p other s g (all g tg (sym same)))

module _ (m n p : Net) (split : IsSplitByFans m n) (other : IsSplitByFans m p) where
  same_least : (e : ℕ) → Stands m e → IsLeastSide m n e → IsLeastSide m p e
  same_least e te least g tg is = least g tg (same_vertex m p n other split g e tg te is)

  same_head : (e : ℕ) → Stands m e → IsHead m n e → IsHead m p e
  same_head e te (inl first) = inl first
  same_head e te (inr least) = inr (same_least e te least)

  same_first : (e g : ℕ) → Stands m e → Stands m g → ComesFirst m n e g → ComesFirst m p e g
  same_first e g te tg (inl (fe, lg)) = inl (fe, same_least g tg lg)
  same_first e g te tg (inr (inl (fe, fg), l)) = inr (inl (fe, fg), l)
  same_first e g te tg (inr (inr (le, lg), l)) =
      inr (inr (same_least e te le, same_least g tg lg), l)

  same_order : (e g : ℕ) → Stands m e → Stands m g → Precedes m n e g → Precedes m p e g
  same_order e g te tg (inl l) = inl l
  same_order e g te tg (inr (is, c)) = inr (is, same_first e g te tg c)

  -- Heads are numbered in the same order.
  same_rise : IsOrdered m n → IsOrdered m p → (e g : ℕ) → Stands m e → Stands m g → IsHead m n e
      → IsHead m n g → n.from e < n.from g → p.from e < p.from g
  same_rise up up' e g te tg he hg l =
      let he' = same_head e te he in
      let hg' = same_head g tg hg in
      let before = same_order e g te tg (up e g te tg he hg l) in
      elim (cases_order (p.from e) (p.from g)) [
        | inl is ↦
            let one = ap n.from (one_head m p other e g te tg he' hg' is) in
            absurd (omega arith)
        | inr o ↦ elim o [
          | inl less ↦ less
          | inr more ↦ absurd (precedes_one m p other e g te tg before (up' g e tg te hg' he' more))
        ]
      ]

module _ (m : Net) (fs gs : List Corners) (old was : List ℕ) (stand : AllStand m)
    (s : IsSplitMesh m fs old) (t : IsSplitMesh m gs was) where
  -- A new vertex isn't without a head.
  headed : (v : ℕ) → v < length old
      → ((e : ℕ) → Stands m e → IsHead m (net_of fs) e → (net_of fs).from e ≡ v → ⊥) → ⊥
  headed v l none =
      let (e, te, is) = s.used v l in
      no_side m (net_of fs) s.split v none (suc e) e (omega arith)
      (stand e (subst (λ k. e < 3 * k) s.split.faces te.is_side)) is

  not_less : (e : ℕ) → Stands m e → IsHead m (net_of fs) e → (net_of fs).from e ≤ (net_of gs).from e
  not_less e te he =
      no_less (λ g. Stands m g × IsHead m (net_of fs) g) (net_of fs).from (net_of gs).from
      (λ i g p q l. same_rise m (net_of fs) (net_of gs) s.split t.split s.ordered t.ordered g i q.0
      p.0 q.1 p.1 l)
      (λ v i l p none. headed v (let w = s.within i p.0.is_side in
      omega arith) (λ g tg hg at. none g (tg, hg) at))
      ((net_of fs).from e) e (te, he) refl

module _ (m : Net) (fs gs : List Corners) (old was : List ℕ) (stand : AllStand m)
    (s : IsSplitMesh m fs old) (t : IsSplitMesh m gs was) where
  number : (e : ℕ) → Stands m e → IsHead m (net_of fs) e → (net_of fs).from e ≡ (net_of gs).from e
  number e te he =
      let a = not_less m fs gs old was stand s t e te he in
      let b = not_less m gs fs was old stand t s e te
      (same_head m (net_of fs) (net_of gs) s.split t.split e te he) in
      omega arith

  one_from : (e : ℕ) → e < side_count m → (net_of fs).from e ≡ (net_of gs).from e
  one_from e l =
      let te = stand e l in
      elim (cases_eq ((net_of fs).from e) ((net_of gs).from e)) [
        | inl same ↦ same
        | inr ne ↦
            absurd (headed m fs gs old was stand s t ((net_of fs).from e) (s.within e l)
            (λ h th hh is.
            ne (sym is ∙ number h th hh ∙ same_vertex m (net_of fs) (net_of gs) s.split t.split h e
            th te is)))
      ]

  one_face : (f : ℕ) → f < length fs → face_at fs f ≡ face_at gs f
  one_face f l =
      let long = s.split.faces in
      let a : (face_at fs f).a ≡ (face_at gs f).a = sym (first_side fs f).0
      ∙ one_from (3 * f) (omega arith) ∙ (first_side gs f).0 in
      let b : (face_at fs f).b ≡ (face_at gs f).b = sym (second_side fs f).0
      ∙ one_from (3 * f + 1) (omega arith) ∙ (second_side gs f).0 in
      let c : (face_at fs f).c ≡ (face_at gs f).c = sym (third_side fs f).0
      ∙ one_from (3 * f + 2) (omega arith) ∙ (third_side gs f).0 in
      λ i. record { a = a i; b = b i; c = c i }

  side_of : (v : ℕ) → v < length old → (e : ℕ) × (e < side_count m) × ((net_of fs).from e ≡ v)
  side_of v l = let (e, te, is) =
      s.used v l in (e, subst (λ k. e < 3 * k) s.split.faces te.is_side, is)

  no_more : length old ≤ length was
  no_more = grind (arith, common_steps, one_from, side_of (length was))

  one_old : (v : ℕ) → v < length old → slice_index_or old v 0 ≡ slice_index_or was v 0
  one_old v l =
      let (e, low, is) = side_of v l in
      ap (λ k. slice_index_or old k 0) (sym is) ∙ s.back e low ∙ sym (t.back e low)
      ∙ ap (λ k. slice_index_or was k 0) (sym (one_from e low) ∙ is)

pub splits_are_one : (m : Net) (fs gs : List Corners) (old was : List ℕ) → AllStand m
    → IsSplitMesh m fs old → IsSplitMesh m gs was → (fs ≡ gs) × (old ≡ was)
splits_are_one m fs gs old was stand s t =
    let a = no_more m fs gs old was stand s t in
    let b = no_more m gs fs was old stand t s in
    let long : length fs ≡ length gs = s.split.faces ∙ sym t.split.faces in
    let same : length old ≡ length was = omega arith in (
      ext_get_or no_corners fs gs long (one_face m fs gs old was stand s t),
      same_number_lists old was same (one_old m fs gs old was stand s t),
    )
