-- Ways up are shortened: a face's elder is passed over.
use Rattle.std.proofs.Common.{◌≡◌, ◌≢◌, ℕ, ◌<◌, ◌≤◌, inl, inr, refl, sym, ap, ◌∙◌, subst, Bool}
use Rattle.std.proofs.lemmas.Grind.{common_steps}
use Rattle.std.proofs.Common.{List, length, false, set, slice_index_or, arith}
use Rattle.std.proofs.lemmas.Bool.{cases_eq}
use Rattle.pm_base.specs.Sides.{face_of}
use Rattle.pm_turn.specs.Turning.{flipped_if, Way}
use Rattle.pm_turn.specs.Unions.{Elders, Up, top, up, AreShorter, put, elders_of}
use Rattle.pm_turn.proofs.TurnedFaces.{flip_flip}
use Rattle.pm_turn.proofs.Traced.{way_on, flip_none}
use Rattle.pm_turn.proofs.Joining.{put_same, put_other}
use Rattle.pm_turn.proofs.Tables.{set_put}

-- Face f goes right under the elder of its elder.
abbrev pub halved : Elders → ℕ → Elders
halved t f =
    record {
      elder = put t.elder f (t.elder (t.elder f));
      parity =
          put t.parity f (flipped_if (t.parity (t.elder f)) (t.parity f));
      odd = t.odd;
    }

module _ (t : Elders) (f : ℕ) (apart : t.elder f ≢ f) (far : t.elder (t.elder f) ≢ t.elder f)
    (below : (x : ℕ) → t.elder x ≤ x) where
  abbrev u : Elders
  u = halved t f

  goes_below : t.elder (t.elder f) ≢ f
  goes_below is = grind (arith, common_steps)

  elder_at : (x : ℕ) → x ≡ f → u.elder x ≡ t.elder (t.elder x)
  elder_at x is =
      put_same t.elder f x (t.elder (t.elder f)) is ∙ ap (λ i. t.elder (t.elder i)) (sym is)

  parity_at : (x : ℕ) → x ≡ f → u.parity x ≡ flipped_if (t.parity (t.elder x)) (t.parity x)
  parity_at x is =
      put_same t.parity f x (flipped_if (t.parity (t.elder f)) (t.parity f)) is
      ∙ ap (λ i. flipped_if (t.parity (t.elder i)) (t.parity i)) (sym is)

  elder_else : (x : ℕ) → x ≢ f → u.elder x ≡ t.elder x
  elder_else x ne = put_other t.elder f x (t.elder (t.elder f)) ne

  parity_else : (x : ℕ) → x ≢ f → u.parity x ≡ t.parity x
  parity_else x ne = put_other t.parity f x (flipped_if (t.parity (t.elder f)) (t.parity f)) ne

  stays_apart : (x : ℕ) → t.elder x ≢ x → u.elder x ≢ x
  stays_apart x ne is = grind (arith, common_steps, elder_else, goes_below, put_same)

  stays_top : (x : ℕ) → t.elder x ≡ x → u.elder x ≡ x
  stays_top x is = elder_else x (λ at. apart (ap t.elder (sym at) ∙ is ∙ at)) ∙ is

  -- The way up from a face, and that from its elder.
  abbrev Both : ℕ → ℕ → Bool → Type 0
  Both x r p =
      Up u x r p × (t.elder x ≢ x → (j : Bool) × Up u (t.elder x) r j
      × (p ≡ flipped_if j (t.parity x)))

  both_up : (x r : ℕ) (p : Bool) → Up t x r p → Both x r p
  both_up x r p (top a) = (top (stays_top x a), λ ne. absurd (ne a))
  both_up x r p (up {p = i} k v) =
      let (w, next) = both_up (t.elder x) r i v in (
        elim (cases_eq x f) [
          | inr ne ↦
              subst (λ (b : Bool). Up u x r b) (ap (flipped_if i) (parity_else x ne))
              (up (stays_apart x k) (subst (λ e. Up u e r i) (sym (elder_else x ne)) w))
          | inl is ↦
              let further : t.elder (t.elder x) ≢ t.elder x =
              λ e. far (ap (λ i. t.elder (t.elder i)) (sym is) ∙ e ∙ ap t.elder is) in
              let (j, w2, odd) = next further in
              subst (λ (b : Bool). Up u x r b)
              (ap (flipped_if j) (parity_at x is) ∙ flip_flip j (t.parity (t.elder x)) (t.parity x)
              ∙ ap (λ (b : Bool). flipped_if b (t.parity x)) (sym odd))
              (up (stays_apart x k) (subst (λ e. Up u e r j) (sym (elder_at x is)) w2))
        ],
        λ _. (i, w, refl),
      )

  up_back : (x r : ℕ) (p : Bool) → Up u x r p → Up t x r p
  up_back x r p (top a) =
      elim (cases_eq x f) [
        | inl is ↦ absurd
            (goes_below (sym (put_same t.elder f x (t.elder (t.elder f)) is) ∙ a ∙ is))
        | inr ne ↦ top (sym (elder_else x ne) ∙ a)
      ]
  up_back x r p (up {p = i} k v) =
      let w = up_back (u.elder x) r i v in
      elim (cases_eq x f) [
        | inr ne ↦
            subst (λ (b : Bool). Up t x r b) (ap (flipped_if i) (sym (parity_else x ne)))
            (up (λ e. k (elder_else x ne ∙ e)) (subst (λ e. Up t e r i) (elder_else x ne) w))
        | inl is ↦
            let further : t.elder (t.elder x) ≢ t.elder x =
            λ e. far (ap (λ i. t.elder (t.elder i)) (sym is) ∙ e ∙ ap t.elder is) in
            let away : t.elder x ≢ x = λ e. apart (ap t.elder (sym is) ∙ e ∙ is) in
            subst (λ (b : Bool). Up t x r b)
            (sym (flip_flip i (t.parity (t.elder x)) (t.parity x))
            ∙ ap (flipped_if i) (sym (parity_at x is)))
            (up away (up further (subst (λ e. Up t e r i) (elder_at x is) w)))
      ]

  pub halved_shorter : AreShorter t u
  halved_shorter = record {
    ups = λ x r p v. (both_up x r p v).0;
    back = up_back;
    low = λ _ x.
        elim (cases_eq x f) [
          | inl is ↦ let e = elder_at x is in let a = below x in let b =
              below (t.elder x) in omega (arith, e, a, b)
          | inr ne ↦ let e = elder_else x ne in let a = below x in omega (arith, e, a)
        ];
    apart = stays_apart;
    odd = λ x. refl;
    stay = λ m n s. record {
      below = λ x.
          elim (cases_eq x f) [
            | inl is ↦ let e = elder_at x is in let a = below x in let b =
                below (t.elder x) in omega (arith, e, a, b)
            | inr ne ↦ let e = elder_else x ne in let a = below x in omega (arith, e, a)
          ];
      step = λ x l.
          elim (cases_eq x f) [
            | inl is ↦ grind (arith, common_steps, elder_at, parity_at, way_on)
            | inr ne ↦ subst (λ i. Way m x i (u.parity x)) (sym (elder_else x ne))
                (subst (λ (b : Bool). Way m x (t.elder x) b) (sym (parity_else x ne)) (s.step x l))
          ];
      twisted = s.twisted;
      joined = λ e k l a.
          let j = s.joined e k l a in
          record {
            root = j.root;
            one = j.one;
            other = j.other;
            one_up = (both_up (face_of e) j.root j.one j.one_up).0;
            other_up = (both_up (face_of k) j.root j.other j.other_up).0;
            agree = j.agree;
          };
    };
  }

pub same_shorter : (t : Elders) → AreShorter t t
same_shorter t = grind (arith, common_steps)

pub shorter_on : (s t u : Elders) → AreShorter s t → AreShorter t u → AreShorter s u
shorter_on s t u a b = grind (arith, common_steps)

-- The tables once a face's elder was passed over.
pub tables_halved : (es : List ℕ) (ps os : List Bool) (f next : ℕ) (d : Bool) → f < length es
    → f < length ps → next ≡ (elders_of es ps os).elder ((elders_of es ps os).elder f)
    → d ≡ flipped_if ((elders_of es ps os).parity ((elders_of es ps os).elder f))
    ((elders_of es ps os).parity f)
    → elders_of (set es f next) (set ps f d) os ≡ halved (elders_of es ps os) f
tables_halved es ps os f next d el pl ni di =
    let e = λ (x : ℕ). set_put es f next 0 el x
    ∙ ap (λ (v : ℕ). put (λ y. slice_index_or es y 0) f v x) ni in
    let p = λ (x : ℕ). set_put ps f d false pl x
    ∙ ap (λ (v : Bool). put (λ y. slice_index_or ps y false) f v x) di in
    λ i. record { elder = λ x. e x i; parity = λ x. p x i; odd = λ x. slice_index_or os x false }

-- The search goes up by one, once the way was shortened there.
pub rise_on : (s t : Elders) (face at next : ℕ) (parity more : Bool) → AreShorter s t
    → s.elder at ≢ at
    → ((r : ℕ) (q : Bool) → Up s at r q → Up s face r (flipped_if q parity)) → next ≡ t.elder at
    → more ≡ flipped_if (t.parity at) parity
    → (r : ℕ) (q : Bool) → Up t next r q → Up t face r (flipped_if q more)
rise_on s t face at next parity more sh ne rise next_is more_is r q v =
    let w : Up t at r (flipped_if q (t.parity at)) =
    up (sh.apart at ne) (subst (λ i. Up t i r q) next_is v) in
    let w2 = sh.back at r (flipped_if q (t.parity at)) w in
    let w3 = sh.ups face r (flipped_if (flipped_if q (t.parity at)) parity)
    (rise r (flipped_if q (t.parity at)) w2) in
    subst (λ (b : Bool). Up t face r b) (sym (flip_flip q (t.parity at) parity)
    ∙ ap (flipped_if q) (sym more_is)) w3

pub rise_none : (t : Elders) (face r : ℕ) (q : Bool) → Up t face r q
    → Up t face r (flipped_if q false)
rise_none t face r q u = subst (λ (b : Bool). Up t face r b) (sym (flip_none q)) u
