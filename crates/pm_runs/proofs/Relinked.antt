-- Which sides stand after the collapse of a pair that keeps apart, and which stand back to back.
use Rattle.std.proofs.Common.{◌≡◌, ◌≢◌, ℕ, Some, inl, inr, refl, sym, ap, ◌∙◌, subst, arith}
use Rattle.std.proofs.lemmas.Grind.{common_steps}
use Rattle.pm_base.specs.Place.{Place}
use Rattle.pm_base.specs.Sides.{Net, face_of, next, prev, to, Stands, IsTwin, twin_of}
use Rattle.pm_base.proofs.Sides.{stands_next, face_of-next, face_cases}
use Rattle.pm_base.proofs.TwinLaws.{twin-is, twin_back}
use Rattle.pm_runs.specs.Surfaces.{Surface, next_vertex, net_of_surface, IsSurface}
use Rattle.pm_runs.specs.Surfaces.{collapsed}
use Rattle.pm_runs.specs.Pairs.{Runs, Links, IsPair}
use Rattle.pm_runs.specs.Merged.{IsProper, KeepsApart, merged, Past}
use Rattle.pm_runs.specs.Collapses.{DropsFaces, RelinksTwins}
use Rattle.pm_runs.proofs.Sides.{twin-across, across-twin, third_next}
use Rattle.pm_runs.proofs.Apart.{stays, gone, gone_next, gone_last}
use Rattle.pm_runs.proofs.Across.{across-past, across-kept, across_next-stays, across_last-stays}
use Rattle.pm_runs.proofs.Alike.{same_side, back_side, alike-across}
use Rattle.pm_runs.proofs.Collapsed.{collapse-alike}
use Rattle.pm_runs.proofs.Live.{surface-fresh}
use Rattle.pm_runs.proofs.Proper.{collapse-proper}

pair-links : (m : Net) (a b e : ℕ) → Stands m e → IsPair a b (m.from e) (to m e) → Links m e a b
pair-links m a b e st pair = grind (arith, common_steps)

pub link-pair : (m : Net) (a b x : ℕ) → Links m x a b → (p q : ℕ) × IsPair a b p q × Runs m x p q
link-pair m a b x links =
    elim links [ inl r ↦ (a, b, inl (refl, refl), r) | inr r ↦ (b, a, inr (refl, refl), r) ]

-- A side across from one that links the two links them too.
back_links : (m : Net) (a b x e : ℕ) → Links m x a b → Stands m e → IsTwin m e x → Links m e a b
back_links m a b x e links st w = grind (arith, common_steps)

module _ (s : Surface) (sound : IsSurface s) (a b : ℕ) (place : Place) where
  abbrev before : Net
  before = net_of_surface s

  abbrev after : Net
  after = net_of_surface (collapsed s a b place)

  abbrev between : Net
  between = merged (net_of_surface s) a b (next_vertex s)

  to_after : (e : ℕ) → Stands between e → Stands after e
  to_after e st = (same_side between after (collapse-alike s a b place) e st).0

  to_between : (e : ℕ) → Stands after e → Stands between e
  to_between e st = (back_side between after (collapse-alike s a b place) e st).0

  pub drop_stood : (e : ℕ) → Stands after e → Stands before e
  drop_stood e st = grind (arith, common_steps, to_between e st)

  pub drop_stays : (e : ℕ) → Stands before e
      → ((x : ℕ) → Links before x a b → face_of x ≢ face_of e) → Stands after e
  drop_stays e st never =
      let st1 = stands_next before e st in
      let st2 = stands_next before (next e) st1 in
      to_after e (stays before a b (next_vertex s) (surface-fresh s sound) e st
      (λ k. never e (pair-links before a b e st k) refl)
      (λ k. never (next e) (pair-links before a b (next e) st1 k) (face_of-next e))
      (λ k. never (prev e)
      (pair-links before a b (prev e) st2
      (subst (λ v. IsPair a b (before.from (prev e)) v) (sym (third_next before e)) k))
      (face_of-next (next e) ∙ face_of-next e)))

  pub drop_goes : (e x : ℕ) → Links before x a b → face_of x ≡ face_of e → Stands after e → ⊥
  drop_goes e x links same st =
      let (p, q, pair, r) = link-pair before a b x links in
      let w = to_between e st in
      elim (face_cases x e same) [
        | inl is ↦ gone before a b (next_vertex s) (surface-fresh s sound) x p q pair r
            (subst (Stands between) is w)
        | inr h ↦
            elim h [
              | inl is ↦ gone_next before a b (next_vertex s) (surface-fresh s sound) x p q pair r
                  (subst (Stands between) is w)
              | inr is ↦ gone_last before a b (next_vertex s) (surface-fresh s sound) x p q pair r
                  (subst (Stands between) is w)
            ]
      ]

  pub drops-faces : DropsFaces (net_of_surface s) (net_of_surface (collapsed s a b place)) a b
      (next_vertex s)
  drops-faces = record {
    stood = drop_stood;
    stays = drop_stays;
    goes = drop_goes;
    corners = λ e st. sym (back_side between after (collapse-alike s a b place) e st).1;
  }

  module _ (proper : IsProper (net_of_surface s)) (keeps : KeepsApart (net_of_surface s) a b) where
    -- What stood across the other side of a face that goes.
    pub twin-past : (e c o : ℕ) → Stands after e → twin_of before e ≡ Some c → Past before a b c o
        → twin_of after e ≡ twin_of before o
    twin-past e c o st is past =
        let w = across-past before a b (next_vertex s) (surface-fresh s sound) keeps proper e c o
        (to_between e st) (twin-across before e (Some c) is) past (twin_of before o)
        (twin-across before o (twin_of before o) refl) in
        across-twin after (collapse-proper s sound proper a b place keeps).once e (twin_of before o)
        (alike-across between after (collapse-alike s a b place) e (twin_of before o)
        (to_between e st) w)

    pub twin-kept : (e : ℕ) → Stands after e
        → ((c : ℕ) → twin_of before e ≡ Some c → Stands after c)
        → twin_of after e ≡ twin_of before e
    twin-kept e st there =
        let w = across-kept before a b (next_vertex s) (surface-fresh s sound) keeps proper e
        (twin_of before e) (to_between e st) (twin-across before e (twin_of before e) refl)
        (λ c is. to_between c (there c is)) in
        across-twin after (collapse-proper s sound proper a b place keeps).once e (twin_of before e)
        (alike-across between after (collapse-alike s a b place) e (twin_of before e)
        (to_between e st) w)

    relink_next : (x g : ℕ) → Links before x a b → twin_of before (next x) ≡ Some g
        → Stands after g × (twin_of after g ≡ twin_of before (prev x))
    relink_next x g links is =
        let (p, q, pair, r) = link-pair before a b x links in
        let there = to_after g
        (across_next-stays before a b (next_vertex s) (surface-fresh s sound) keeps proper x p q
        g pair r (twin-is before (next x) g is)) in (
          there,
          twin-past g (next x) (prev x) there
              (twin_back before proper.once (next x) g (stands_next before x r.stands) is)
              (x, links, inl (refl, refl)),
        )

    relink_last : (x g : ℕ) → Links before x a b → twin_of before (prev x) ≡ Some g
        → Stands after g × (twin_of after g ≡ twin_of before (next x))
    relink_last x g links is =
        let (p, q, pair, r) = link-pair before a b x links in
        let there = to_after g
        (across_last-stays before a b (next_vertex s) (surface-fresh s sound) keeps proper x p q
        g pair r (twin-is before (prev x) g is)) in (
          there,
          twin-past g (prev x) (next x) there
              (twin_back before proper.once (prev x) g
              (stands_next before (next x) (stands_next before x r.stands)) is)
              (x, links, inr (refl, refl)),
        )

    -- A side whose twin goes was the twin of one of the two other sides.
    twin_stands : (e c : ℕ) → Stands after e
        → ((x : ℕ) → Links before x a b → (twin_of before (next x) ≢ Some e)
        × (twin_of before (prev x) ≢ Some e)) → twin_of before e ≡ Some c → Stands after c
    twin_stands e c st outer is =
        let w = twin-is before e c is in
        let old = drop_stood e st in
        let back = twin_back before proper.once e c old is in
        drop_stays c w.stands (λ x links same.
        elim (face_cases x c same) [
          | inl here ↦
              drop_goes e e (back_links before a b x e links old (subst (IsTwin before e) here w))
              refl st
          | inr h ↦
              elim h [
                | inl here ↦ (outer x links).0 (ap (twin_of before) (sym here) ∙ back)
                | inr here ↦ (outer x links).1 (ap (twin_of before) (sym here) ∙ back)
              ]
        ])

    pub relinks-twins : RelinksTwins (net_of_surface s) (net_of_surface (collapsed s a b place)) a b
    relinks-twins = record {
      first = relink_next;
      second = relink_last;
      others = λ e st outer. twin-kept e st (λ c is. twin_stands e c st outer is);
    }
