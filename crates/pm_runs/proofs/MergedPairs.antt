-- The pairs at a vertex before and after a merge.
use Rattle.std.proofs.Common.{◌≡◌, ◌≢◌, ℕ, ◌⊎◌, inl, inr, refl, sym, ap, ◌∙◌, subst, arith}
use Rattle.std.proofs.lemmas.Grind.{common_steps}
use Rattle.pm_base.specs.Sides.{Net, Stands}
use Rattle.pm_base.specs.Fans.{IsPairAt}
use Rattle.pm_base.proofs.Sides.{turn, back, corner-first, first-second, second-corner}
use Rattle.pm_runs.specs.Surfaces.{merge}
use Rattle.pm_runs.specs.Merged.{merged, IsFresh}
use Rattle.pm_runs.proofs.Merges.{merge-pair, merge-other}
use Rattle.pm_runs.proofs.Apart.{stood}

module _ (m : Net) (t u s : ℕ) (fresh : IsFresh m s) where
  abbrev pub new : ℕ → ℕ
  new x = merge t u s x

  abbrev pub after : Net
  after = merged m t u s

  pub new-t : (x : ℕ) → x ≡ t → new x ≡ s
  new-t x is = ap (merge t u s) is ∙ (merge-pair t u s t u (inl (refl, refl))).0

  pub new-u : (x : ℕ) → x ≡ u → new x ≡ s
  new-u x is = ap (merge t u s) is ∙ (merge-pair t u s t u (inl (refl, refl))).1

  pub new-other : (x : ℕ) → x ≢ t → x ≢ u → new x ≡ x
  new-other x a b = merge-other t u s x a b

  -- an end, or another vertex
  pub data Kind (x : ℕ) : Type 0 where
    is_t : x ≡ t → new x ≡ s → Kind x
    is_u : x ≡ u → new x ≡ s → Kind x
    other : x ≢ t → x ≢ u → new x ≡ x → Kind x

  pub kind_of : (x : ℕ) → Kind x
  kind_of x = grind (arith, common_steps, new-other, new-t, new-u)

  pub not_s : {v x y : ℕ} → IsPairAt m v x y → v ≢ s
  not_s f is = fresh f.side f.stands (f.at ∙ is)

  pub image : {v x y : ℕ} → IsPairAt m v x y → new v ≢ new x → new x ≢ new y → new y ≢ new v
      → IsPairAt after (new v) (new x) (new y)
  image f a b c = grind (arith, common_steps)

  was_there : (e : ℕ) → Stands after e → Stands m e
  was_there e h = stood m t u s fresh e h

  pub record Origin (v x y : ℕ) : Type 0 where
    pub v0 : ℕ
    pub x0 : ℕ
    pub y0 : ℕ
    pub face : IsPairAt m v0 x0 y0
    pub v-is : new v0 ≡ v
    pub x-is : new x0 ≡ x
    pub y-is : new y0 ≡ y

  pub origin : {v x y : ℕ} → IsPairAt after v x y → Origin v x y
  origin f = grind (arith, common_steps, was_there)

  pub unmoved : (x0 x : ℕ) → new x0 ≡ x → x ≢ s → (x0 ≡ x) × (x ≢ t) × (x ≢ u)
  unmoved x0 x is ne = grind (arith, common_steps, kind_of)

  -- The pairs at s are those at t and at u that name neither end
  pub at_s : (x y : ℕ) → IsPairAt after s x y → (IsPairAt m t x y ⊎ IsPairAt m u x y) × (x ≢ t)
      × (x ≢ u) × (y ≢ t) × (y ≢ u)
  at_s x y f =
      let o = origin f in
      let (ex, xt, xu) = unmoved o.x0 x o.x-is (λ is. corner-first after s x y f (sym is)) in
      let (ey, yt, yu) = unmoved o.y0 y o.y-is (λ is. second-corner after s x y f is) in
      let g : IsPairAt m o.v0 x y =
      subst (λ i. IsPairAt m o.v0 i y) ex (subst (λ i. IsPairAt m o.v0 o.x0 i) ey o.face) in
      elim (kind_of o.v0) [
        | is_t a b ↦ (inl (subst (λ i. IsPairAt m i x y) a g), xt, xu, yt, yu)
        | is_u a b ↦ (inr (subst (λ i. IsPairAt m i x y) a g), xt, xu, yt, yu)
        | other a b c ↦ absurd (not_s o.face (sym c ∙ o.v-is))
      ]

  from_end : (v x y : ℕ) → new v ≡ s → IsPairAt m v x y → x ≢ t → x ≢ u → y ≢ t → y ≢ u
      → IsPairAt after s x y
  from_end v x y is f xt xu yt yu =
      let ex = new-other x xt xu in
      let ey = new-other y yt yu in
      let xs = not_s (turn m v x y f) in
      let ys = not_s (back m v x y f) in
      let g = image f (λ e. xs (sym (sym is ∙ e ∙ ex)))
      (λ e. first-second m v x y f (sym ex ∙ e ∙ ey)) (λ e. ys (sym ey ∙ e ∙ is)) in
      subst (λ i. IsPairAt after i x y) is
      (subst (λ i. IsPairAt after (new v) i y) ex
      (subst (λ i. IsPairAt after (new v) (new x) i) ey g))

  pub from_t : (x y : ℕ) → IsPairAt m t x y → x ≢ u → y ≢ u → IsPairAt after s x y
  from_t x y f xu yu =
      from_end t x y (new-t t refl) f (λ e. corner-first m t x y f (sym e)) xu
      (second-corner m t x y f) yu

  pub from_u : (x y : ℕ) → IsPairAt m u x y → x ≢ t → y ≢ t → IsPairAt after s x y
  from_u x y f xt yt =
      from_end u x y (new-u u refl) f xt (λ e. corner-first m u x y f (sym e)) yt
      (second-corner m u x y f)

  -- The pairs at another vertex are those before, renamed
  pub away : (v x y : ℕ) → v ≢ s → IsPairAt after v x y → (x0 : ℕ) × (y0 : ℕ) × IsPairAt m v x0 y0
      × (new x0 ≡ x) × (new y0 ≡ y) × (v ≢ t) × (v ≢ u)
  away v x y ne f =
      let o = origin f in
      let (ev, vt, vu) = unmoved o.v0 v o.v-is ne in
      (o.x0, o.y0, subst (λ i. IsPairAt m i o.x0 o.y0) ev o.face, o.x-is, o.y-is, vt, vu)

  -- vertices of the mesh that take one number
  pub same_new : (x y : ℕ) → x ≢ s → y ≢ s → new x ≡ new y
      → (x ≡ y) ⊎ ((new x ≡ s) × (((x ≡ t) × (y ≡ u)) ⊎ ((x ≡ u) × (y ≡ t))))
  same_new x y xs ys is = grind (arith, common_steps, kind_of)
