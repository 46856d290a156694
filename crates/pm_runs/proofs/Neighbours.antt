-- Sides between vertices that a collapse doesn't touch stay, and the neighbours of the two become
-- those of the new vertex.
use Rattle.std.proofs.Common.{◌≡◌, ◌≢◌, ℕ, ◌⊎◌, ◌↔◌, inl, inr, refl, sym, ap, ◌∙◌, subst, arith}
use Rattle.std.proofs.lemmas.Grind.{common_steps}
use Rattle.pm_base.specs.Place.{Place}
use Rattle.pm_base.specs.Sides.{Net, face_of, next, prev, to, third, Stands, IsBorder, twin_of}
use Rattle.pm_base.proofs.Search.{Decided, option_cases}
use Rattle.pm_base.proofs.Sides.{stands_next, face_cases, next-next-next}
use Rattle.pm_base.proofs.TwinLaws.{twin-is, twin-none}
use Rattle.pm_runs.specs.Surfaces.{Surface, next_vertex, net_of_surface, IsSurface, merge}
use Rattle.pm_runs.specs.Surfaces.{collapsed}
use Rattle.pm_runs.specs.Pairs.{Runs, Joined, Links, IsPair}
use Rattle.pm_runs.specs.Merged.{IsProper, KeepsApart, IsLinkable, merged}
use Rattle.pm_runs.specs.Nearby.{IsOther}
use Rattle.pm_runs.proofs.Merges.{merge-pair, merge-other}
use Rattle.pm_runs.proofs.Sides.{runs_next, runs_last, third_next}
use Rattle.pm_runs.proofs.Alike.{back_side}
use Rattle.pm_runs.proofs.Collapsed.{collapse-alike}
use Rattle.pm_runs.proofs.Relinked.{link-pair, drop_stays, drop_stood, twin-kept, relinks-twins}
use Rattle.pm_runs.proofs.Live.{surface-fresh}

-- What a vertex was before a merge.
pub merge-back : (t u s v p : ℕ) → merge t u s v ≡ p → p ≢ s → (v ≡ p) × (p ≢ t) × (p ≢ u)
merge-back t u s v p is n_s =
    grind (arith, common_steps, merge-other t u s v, merge-pair t u s t u (inl (refl, refl)))

-- Of two corners of a face that holds both ends, one is an end.
pub no_end : (m : Net) (a b x e p q : ℕ) → Links m x a b → face_of x ≡ face_of e → m.from e ≡ p
    → to m e ≡ q → p ≢ a → p ≢ b → q ≢ a → q ≢ b → ⊥
no_end m a b x e p q links same i j pa pb qa qb =
    grind (arith, common_steps, face_cases x e same, link-pair m a b x links, next-next-next x)

module _ (s : Surface) (sound : IsSurface s) (a b : ℕ) (place : Place) where
  abbrev before : Net
  before = net_of_surface s

  abbrev after : Net
  after = net_of_surface (collapsed s a b place)

  -- A side between two other vertices stays.
  pub runs-stay : (e p q : ℕ) → IsOther s a b p → IsOther s a b q → Runs before e p q
      → Runs after e p q
  runs-stay e p q op oq r =
      let st = drop_stays s sound a b place e r.stands
      (λ x links same. no_end before a b x e p q links same r.begins r.ends op.not_first
      op.not_second oq.not_first oq.not_second) in
      let f = back_side (merged before a b (next_vertex s)) after (collapse-alike s a b place) e
      st in
      record {
        stands = st;
        begins = sym f.1 ∙ ap (merge a b (next_vertex s)) r.begins
            ∙ merge-other a b (next_vertex s) p op.not_first op.not_second;
        ends = sym f.2 ∙ ap (merge a b (next_vertex s)) r.ends
            ∙ merge-other a b (next_vertex s) q oq.not_first oq.not_second;
      }

  -- And one afterwards was one before.
  pub runs-were : (e p q : ℕ) → p ≢ next_vertex s → q ≢ next_vertex s → Runs after e p q
      → Runs before e p q
  runs-were e p q n_p n_q r =
      let f = back_side (merged before a b (next_vertex s)) after (collapse-alike s a b place) e
      r.stands in
      record {
        stands = drop_stood s sound a b place e r.stands;
        begins = (merge-back a b (next_vertex s) (before.from e) p (f.1 ∙ r.begins) n_p).0;
        ends = (merge-back a b (next_vertex s) (to before e) q (f.2 ∙ r.ends) n_q).0;
      }

  -- A side between two other vertices keeps its twin.
  pub twin-same : IsProper before → KeepsApart before a b → (e p q : ℕ) → IsOther s a b p
      → IsOther s a b q → Runs before e p q → twin_of after e ≡ twin_of before e
  twin-same proper keeps e p q op oq r =
      twin-kept s sound a b place proper keeps e (runs-stay e p q op oq r).stands
      (λ c is.
      let w = twin-is before e c is in
      (runs-stay c q p oq op (record {
        stands = w.stands;
        begins = w.begins ∙ r.ends;
        ends = w.ends ∙ r.begins;
      })).stands)

  pub joined-same : (p q : ℕ) → IsOther s a b p → IsOther s a b q
      → Joined before p q ↔ Joined after p q
  joined-same p q op oq = (
    (λ j. elim j [
      | inl h ↦ inl (h.0, runs-stay h.0 p q op oq h.1)
      | inr h ↦
          inr (h.0, runs-stay h.0 q p oq op h.1)
    ]),
    (λ j. elim j [
      | inl h ↦ inl (h.0, runs-were h.0 p q op.not_new oq.not_new h.1)
      | inr h ↦
          inr (h.0, runs-were h.0 q p oq.not_new op.not_new h.1)
    ]),
  )

-- The two that a pair can be.
pair? : (a b v w : ℕ) → Decided (IsPair a b v w)
pair? a b v w = grind (arith, common_steps)

pub merge-new : (t u s v : ℕ) → merge t u s v ≡ s → v ≢ s → (v ≡ t) ⊎ (v ≡ u)
merge-new t u s v is n = grind (arith, common_steps, merge-other t u s v)

merge-either : (t u s v : ℕ) → (v ≡ t) ⊎ (v ≡ u) → merge t u s v ≡ s
merge-either t u s v way =
    let both = merge-pair t u s t u (inl (refl, refl)) in
    elim way [ inl is ↦ ap (merge t u s) is ∙ both.0 | inr is ↦ ap (merge t u s) is ∙ both.1 ]

-- Where another corner of a face isn't an end, the ends can only be the two opposite corners.
opposite : (m : Net) (a b x e : ℕ) → Links m x a b → face_of x ≡ face_of e → m.from e ≢ a
    → m.from e ≢ b → IsPair a b (to m e) (third m e)
opposite m a b x e links same n_a n_b =
    grind (arith, common_steps, face_cases x e same, link-pair m a b x links, next-next-next x)

module _ (s : Surface) (sound : IsSurface s) (proper : IsProper (net_of_surface s)) (a b : ℕ)
    (place : Place) (ok : IsLinkable (net_of_surface s) a b) where
  abbrev old : Net
  old = net_of_surface s

  abbrev new : Net
  new = net_of_surface (collapsed s a b place)

  -- A side that stands afterwards, with its new ends.
  renamed : (e p q : ℕ) → Stands new e → merge a b (next_vertex s) (old.from e) ≡ p
      → merge a b (next_vertex s) (to old e) ≡ q → Runs new e p q
  renamed e p q st i j =
      let f = back_side (merged old a b (next_vertex s)) new (collapse-alike s a b place) e st in
      record { stands = st; begins = sym f.1 ∙ i; ends = sym f.2 ∙ j }

  -- The third corner of a face that goes stays beside: one of its two sides has a twin.
  beside_dropped : (x c d p : ℕ) → IsPair a b c d → Runs old x c d → third old x ≡ p
      → IsOther s a b p → Joined new p (next_vertex s)
  beside_dropped x c d p pair r is other =
      let n : ℕ = next_vertex s in
      let links : Links old x a b = grind (arith, common_steps) in
      let same_p : merge a b n p ≡ p = merge-other a b n p other.not_first other.not_second in
      let ends = merge-pair a b n c d pair in
      let right = runs_next old x c d p r is in
      let left = runs_last old x c d p r is in
      let re = relinks-twins s sound a b place proper ok.apart in
      elim (option_cases (twin_of old (next x))) [
        | inr (g, found) ↦
            let w = twin-is old (next x) g found in
            inl (
              g,
              renamed g p n (re.first x g links found).0
                  (ap (merge a b n) (w.begins ∙ right.ends) ∙ same_p)
                  (ap (merge a b n) (w.ends ∙ right.begins) ∙ ends.1),
            )
        | inl none ↦
            elim (option_cases (twin_of old (prev x))) [
              | inr (g, found) ↦
                  let w = twin-is old (prev x) g found in
                  inr (
                    g,
                    renamed g n p (re.second x g links found).0
                        (ap (merge a b n) (w.begins ∙ left.ends) ∙ ends.0)
                        (ap (merge a b n) (w.ends ∙ left.begins) ∙ same_p),
                  )
              | inl none' ↦
                  let alone_right = twin-none old (next x) none in
                  let alone_left = twin-none old (prev x) none' in
                  let border_d : IsBorder old
                  d = (
                    next x,
                    record { stands = right.stands; alone = alone_right },
                    inl right.begins,
                  ) in
                  let border_c : IsBorder old
                  c = (
                    prev x,
                    record { stands = left.stands; alone = alone_left },
                    inr left.ends,
                  ) in
                  absurd (ok.single x links
                  (λ g w.
                  let across : Runs old g d c = record {
                    stands = w.stands;
                    begins = w.begins ∙ r.ends;
                    ends = w.ends ∙ r.begins;
                  } in
                  elim pair [
                    | inl o ↦ ok.border (subst (IsBorder old) o.0 border_c)
                        (subst (IsBorder old) o.1 border_d)
                        (x, subst (λ v. Runs old x v b) o.0 (subst (Runs old x c) o.1 r))
                        (g, subst (λ v. Runs old g v a) o.1 (subst (Runs old g d) o.0 across))
                    | inr o ↦ ok.border (subst (IsBorder old) o.1 border_d)
                        (subst (IsBorder old) o.0 border_c)
                        (g, subst (λ v. Runs old g v b) o.1 (subst (Runs old g d) o.0 across))
                        (x, subst (λ v. Runs old x v a) o.0 (subst (Runs old x c) o.1 r))
                  ])
                  alone_right alone_left)
            ]
      ]

  -- From a corner at p whose face has an end.
  beside : (e p : ℕ) → Stands old e → old.from e ≡ p → IsOther s a b p
      → ((to old e ≡ a) ⊎ (to old e ≡ b)) ⊎ ((third old e ≡ a) ⊎ (third old e ≡ b))
      → Joined new p (next_vertex s)
  beside e p st at_p other way =
      let n : ℕ = next_vertex s in
      elim (pair? a b (to old e) (third old e)) [
        | inl pair ↦
            beside_dropped (next e) (to old e) (third old e) p pair
            (record { stands = stands_next old e st; begins = refl; ends = refl }) (third_next old e
            ∙ at_p) other
        | inr not_pair ↦
            let there : Stands new e =
            drop_stays s sound a b place e st
            (λ x links same. not_pair
            (opposite old a b x e links same (λ z. other.not_first (sym at_p ∙ z))
            (λ z. other.not_second (sym at_p ∙ z)))) in
            let st2 : Stands new (prev e) = stands_next new (next e) (stands_next new e there) in
            let is_p : merge a b n (old.from e) ≡ p =
            ap (merge a b n) at_p ∙ merge-other a b n p other.not_first other.not_second in
            elim way [
              | inl k ↦ inl (e, renamed e p n there is_p (merge-either a b n (to old e) k))
              | inr k ↦ inr (
                prev e,
                renamed (prev e) n p st2 (merge-either a b n (third old e) k)
                    (ap (merge a b n) (third_next old e) ∙ is_p),
              )
            ]
      ]

  joined_corner : (p c : ℕ) → Joined old p c → (e : ℕ) × Stands old e × (old.from e ≡ p)
      × ((to old e ≡ c) ⊎ (third old e ≡ c))
  joined_corner p c j =
      elim j [
        | inl (e, r) ↦ (e, r.stands, r.begins, inl r.ends)
        | inr (e, r) ↦
            (next e, stands_next old e r.stands, r.ends, inr (third_next old e ∙ r.begins))
      ]

  pub neighbours-kept : (p : ℕ) → IsOther s a b p → Joined old p a ⊎ Joined old p b
      → Joined new p (next_vertex s)
  neighbours-kept p other j =
      elim j [
        | inl k ↦ (let (e, st, is, way) =
            joined_corner p a k in
            beside e p st is other (elim way [ inl z ↦ inl (inl z) | inr z ↦ inr (inl z) ]))
        | inr k ↦ (let (e, st, is, way) =
            joined_corner p b k in
            beside e p st is other (elim way [ inl z ↦ inl (inr z) | inr z ↦ inr (inr z) ]))
      ]

  pub neighbours-were : (p : ℕ) → p ≢ next_vertex s → Joined new p (next_vertex s)
      → Joined old p a ⊎ Joined old p b
  neighbours-were p n_p j =
      let n : ℕ = next_vertex s in
      let fresh = surface-fresh s sound in
      elim j [
        | inl (e, r) ↦
            let f = back_side (merged old a b n) new (collapse-alike s a b place) e r.stands in
            let st = drop_stood s sound a b place e r.stands in
            let is = merge-back a b n (old.from e) p (f.1 ∙ r.begins) n_p in
            elim (merge-new a b n (to old e) (f.2 ∙ r.ends)
            (fresh (next e) (stands_next old e st))) [
              | inl z ↦ inl (inl (e, record { stands = st; begins = is.0; ends = z }))
              | inr z ↦ inr (inl (e, record { stands = st; begins = is.0; ends = z }))
            ]
        | inr (e, r) ↦
            let f = back_side (merged old a b n) new (collapse-alike s a b place) e r.stands in
            let st = drop_stood s sound a b place e r.stands in
            let is = merge-back a b n (to old e) p (f.2 ∙ r.ends) n_p in
            elim (merge-new a b n (old.from e) (f.1 ∙ r.begins) (fresh e st)) [
              | inl z ↦ inl (inr (e, record { stands = st; begins = z; ends = is.0 }))
              | inr z ↦ inr (inr (e, record { stands = st; begins = z; ends = is.0 }))
            ]
      ]
