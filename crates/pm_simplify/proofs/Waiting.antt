-- A pair that is held back isn't legal, and stays held back while its ends and the face that it
-- waits for are spared.
use Rattle.std.proofs.Common.{◌≡◌, ℕ, arith, true, List, [], ◌∷◌, ◌++◌, ◌⊎◌, inl, inr, refl, sym}
use Rattle.std.proofs.lemmas.Grind.{common_steps}
use Rattle.std.proofs.Common.{ap, ◌∙◌, subst}
use Rattle.std.proofs.lemmas.Bool.{false≢true}
use Rattle.pm_base.specs.Place.{Place}
use Rattle.pm_base.specs.declared.log.Collapse.{Collapse}
use Rattle.pm_base.specs.Meshes.{Mesh}
use Rattle.pm_base.specs.Sides.{Net, face_of, next, to, third, Stands, NoSideTwice}
use Rattle.pm_base.proofs.Sides.{face_of-next, stands_next}
use Rattle.pm_links.specs.Lists.{Lists, list_of, has}
use Rattle.pm_runs.specs.Surfaces.{Surface, net_of_surface, IsSurface, collapsed}
use Rattle.pm_runs.specs.Pairs.{Links, IsLegalPair}
use Rattle.pm_runs.specs.Merged.{IsProper}
use Rattle.pm_runs.specs.Nearby.{IsOther}
use Rattle.pm_runs.specs.Runs.{IsStartOfRun, IsRun, IsStep, surface_after}
use Rattle.pm_runs.proofs.Live.{live_below, corner_live}
use Rattle.pm_runs.proofs.StepLaws.{linkable_is_legal}
use Rattle.pm_runs.proofs.Logs.{run-sound, run-proper, surface_after-more}
use Rattle.pm_policies.specs.Policies.{Policy, place_by}
use Rattle.pm_policies.specs.PolicyRuns.{IsCandidateBy}
use Rattle.pm_policies.proofs.Keys.{keys_are_kept_by}
use Rattle.pm_shrink.specs.Obstacles.{Strays, TellsTriangle, Hinders, IsBarred}
use Rattle.pm_simplify.specs.Choices.{net_after, IsHeldBack}
use Rattle.pm_simplify.specs.SparedFaces.{IsFaceSpared}
use Rattle.pm_simplify.proofs.ItemLaws.{same_ends}
use Rattle.pm_simplify.proofs.ObstacleLaws.{no_turn, no_stray, no_triangle, not_alone, stays}
use Rattle.pm_simplify.proofs.ObstacleLaws.{corner_stays, turn_stays, stray_stays, triangle_stays}
use Rattle.pm_simplify.proofs.ObstacleLaws.{alone_stays}
use Rattle.pm_simplify.proofs.BorderStays.{border_stays}

-- Each reason is against a legal pair.
module _ (s : Surface) (a b : ℕ) (place : Place) (legal : IsLegalPair s a b place) where
  pub not_hindered : (e : ℕ) → Hinders s a b place e → ⊥
  not_hindered e h =
      elim h.why [
        | inl x ↦ no_turn s a b place legal e x
        | inr rest ↦
            elim rest [
              | inl x ↦ no_stray s a b place legal ((net_of_surface s).from e) x
              | inr rest ↦
                  elim rest [
                    | inl x ↦ no_triangle s a b place legal x.left x.right x.shares
                    | inr x ↦ not_alone s a b place legal e x
                  ]
            ]
      ]

  pub not_barred : NoSideTwice (net_of_surface s) → IsBarred (net_of_surface s) a b → ⊥
  not_barred once h = grind (arith, common_steps, linkable_is_legal s once a b place)

-- Another pair is collapsed.
module _ (s : Surface) (sound : IsSurface s) (proper : IsProper (net_of_surface s)) (t u : ℕ)
    (at : Place) (legal : IsLegalPair s t u at) (a b : ℕ) (x : IsOther s t u a)
    (y : IsOther s t u b) where
  abbrev n : Net
  n = net_of_surface s

  abbrev o : Net
  o = net_of_surface (collapsed s t u at)

  module _ (e : ℕ) (spared : IsFaceSpared s t u e) (st : Stands (net_of_surface s) e) where
    corner : Stands o e × (o.from e ≡ n.from e) × (to o e ≡ to n e) × (third o e ≡ third n e)
    corner = corner_stays s sound proper t u at legal e (n.from e) (to n e) (third n e) spared.from
        spared.to spared.third st refl refl refl

    -- A third corner that stands in the face is spared, and stands in it afterwards.
    spared_in : (v : ℕ) → (to n e ≡ v) ⊎ (third n e ≡ v) → IsOther s t u v
    spared_in v h = grind (arith, common_steps)

    still_in : (v w : ℕ) → w ≡ v → (to n e ≡ v) ⊎ (third n e ≡ v) → (to o e ≡ w) ⊎ (third o e ≡ w)
    still_in v w same h =
        elim h [ inl is ↦ inl (corner.2 ∙ is ∙ sym same) | inr is ↦ inr (corner.3 ∙ is ∙ sym same) ]

    pub tells_stays : TellsTriangle n a b e → TellsTriangle o a b e
    tells_stays h =
        let v = spared_in (third n h.left) h.left_in in
        let w = spared_in (third n h.right) h.right_in in
        let (sl, fl, tl, is_v) =
        corner_stays s sound proper t u at legal h.left a b (third n h.left) x y v
        h.shares.left.stands h.shares.left.begins h.shares.left.ends refl in
        let (sr, fr, tr, is_w) =
        corner_stays s sound proper t u at legal h.right b a (third n h.right) y x w
        h.shares.right.stands h.shares.right.begins h.shares.right.ends refl in
        record {
          left = h.left;
          right = h.right;
          shares = triangle_stays s sound proper t u at legal a b h.left h.right x y v w h.shares;
          left_in = still_in (third n h.left) (third o h.left) is_v h.left_in;
          right_in = still_in (third n h.right) (third o h.right) is_w h.right_in;
        }

  pub hinders_stays : (e : ℕ) (place : Place) → IsFaceSpared s t u e → Hinders s a b place e
      → Hinders (collapsed s t u at) a b place e
  hinders_stays e place spared h =
      let (st, from, i, j) = corner_stays s sound proper t u at legal e (n.from e) (to n e)
      (third n e) spared.from spared.to spared.third h.stands refl refl refl in
      record {
        stands = st;
        why = elim h.why [
          | inl k ↦ inl (turn_stays s sound proper t u at legal a b e place spared k)
          | inr rest ↦
              inr (elim rest [
                | inl k ↦ inl
                    (subst (Strays o a b) (sym from)
                    (stray_stays s sound proper t u at legal a b (n.from e) x y spared.from k))
                | inr rest ↦
                    inr (elim rest [
                      | inl k ↦ inl (tells_stays e spared h.stands k)
                      | inr k ↦ inr
                          (alone_stays s sound proper t u at legal a b e x y spared.third k)
                    ])
              ])
        ];
      }

  pub barred_stays : IsBarred (net_of_surface s) a b
      → IsBarred (net_of_surface (collapsed s t u at)) a b
  barred_stays h = record {
    first = border_stays s sound proper t u at legal a x h.first;
    second = border_stays s sound proper t u at legal b y h.second;
    forth = let (e, r) = h.forth in (e, stays s sound proper t u at legal e a b x y r);
    back = let (e, r) = h.back in (e, stays s sound proper t u at legal e b a y x r);
  }

  pub links_stay : (e : ℕ) → Links (net_of_surface s) e a b
      → Links (net_of_surface (collapsed s t u at)) e a b
  links_stay e l =
      elim l [
        | inl r ↦ inl (stays s sound proper t u at legal e a b x y r)
        | inr r ↦
            inr (stays s sound proper t u at legal e b a y x r)
      ]

-- What is held back may not be collapsed.
pub held_not : (p : Policy) (m : Mesh) (log : List Collapse) → IsStartOfRun m → IsRun m log
    → (lists : Lists) (e c d : ℕ) → IsHeldBack p m log lists e → Links (net_after m log) e c d
    → IsCandidateBy p m log c d → ⊥
held_not p m log start run lists e c d h l x =
    let (ca, db) =
    same_ends (net_after m log) e c d h.a h.b l h.pair.links x.ordered h.pair.ordered in
    let fit : IsCandidateBy p m log h.a h.b =
    subst (λ v. IsCandidateBy p m log h.a v) db (subst (λ v. IsCandidateBy p m log v d) ca x) in
    elim h.why [
      | inl (x, w) ↦ not_hindered (surface_after m log) h.a h.b (place_by p m log h.a h.b) fit.legal
          x w.hinders
      | inr w ↦ not_barred (surface_after m log) h.a h.b (place_by p m log h.a h.b) fit.legal
          (run-proper m start log run).once w
    ]

-- What is held back stays so while its item stays where it waits.
pub held_kept : (p : Policy) (m : Mesh) (log : List Collapse) (old new : Lists) (e : ℕ)
    → ((f : ℕ) → has (list_of old f) e ≡ true → has (list_of new f) e ≡ true)
    → IsHeldBack p m log old e → IsHeldBack p m log new e
held_kept p m log old new e stays h = record {
  a = h.a;
  b = h.b;
  pair = h.pair;
  why = elim h.why [
    | inl (x, w) ↦ inl (x, record { listed = stays (face_of x) w.listed; hinders = w.hinders })
    | inr w ↦ inr w
  ];
}

-- What is held back stays so after a collapse that spares its ends and the face that it waits for.
pub held_stays : (p : Policy) (m : Mesh) (log : List Collapse) (c : Collapse) → IsStartOfRun m
    → IsRun m log → IsStep (surface_after m log) c → (old new : Lists) (e : ℕ)
    → (h : IsHeldBack p m log old e) →
    IsOther (surface_after m log) c.t c.u h.a → IsOther (surface_after m log) c.t c.u h.b →
    ((x : ℕ) → has (list_of old (face_of x)) e ≡ true → Stands (net_after m log) x
    → IsFaceSpared (surface_after m log) c.t c.u x × (has (list_of new (face_of x)) e ≡ true)) →
    IsHeldBack p m (log ++ c ∷ []) new e
held_stays p m log c start run step old new e h x y spares =
    let s : Surface = surface_after m log in
    let sound = run-sound m start log run in
    let proper = run-proper m start log run in
    let then : collapsed s c.t c.u c.place ≡ surface_after m (log ++ c ∷ []) =
    sym (surface_after-more m log c) in
    let place : place_by p m log h.a h.b ≡ place_by p m (log ++ c ∷ []) h.a h.b =
    sym (keys_are_kept_by p m log c step h.a h.b x y).0 in
    record {
      a = h.a;
      b = h.b;
      pair = record {
        links = subst (λ (r : Surface). Links (net_of_surface r) e h.a h.b) then
            (links_stay s sound proper c.t c.u c.place step.legal h.a h.b x y e h.pair.links);
        ordered = h.pair.ordered;
      };
      why = elim h.why [
        | inl (k, w) ↦
            let (spared, listed) = spares k w.listed w.hinders.stands in
            let after = hinders_stays s sound proper c.t c.u c.place step.legal h.a h.b x y k
            (place_by p m log h.a h.b) spared w.hinders in
            inl (
              k,
              record {
                listed = listed;
                hinders = subst (λ q. Hinders (surface_after m (log ++ c ∷ [])) h.a h.b q k) place
                    (subst (λ (r : Surface). Hinders r h.a h.b (place_by p m log h.a h.b) k) then
                    after);
              },
            )
        | inr w ↦ inr (subst (λ (r : Surface). IsBarred (net_of_surface r) h.a h.b) then
            (barred_stays s sound proper c.t c.u c.place step.legal h.a h.b x y w))
      ];
    }

-- Once the lists of all faces at t and u are empty, the faces that pairs wait for are spared.
module _ (s : Surface) (sound : IsSurface s) (t u : ℕ) (lists : Lists)
    (at_t : (c : ℕ) → Stands (net_of_surface s) c → (net_of_surface s).from c ≡ t
    → list_of lists (face_of c) ≡ [])
    (at_u : (c : ℕ) → Stands (net_of_surface s) c → (net_of_surface s).from c ≡ u
    → list_of lists (face_of c) ≡ [])
    (e f : ℕ) (waits : has (list_of lists f) e ≡ true) where
  not_empty : list_of lists f ≡ [] → ⊥
  not_empty none = false≢true (ap (λ (l : List ℕ). has l e) (sym none) ∙ waits)

  corner_spared : (c : ℕ) → Stands (net_of_surface s) c → face_of c ≡ f
      → IsOther s t u ((net_of_surface s).from c)
  corner_spared c st is = record {
    not_new = λ same. let low =
        live_below s ((net_of_surface s).from c) (corner_live s sound c st) in
        omega (arith, low, same);
    not_first = λ same. not_empty (ap (λ g. list_of lists g) (sym is) ∙ at_t c st same);
    not_second = λ same. not_empty (ap (λ g. list_of lists g) (sym is) ∙ at_u c st same);
  }

  pub spared_face : (x : ℕ) → Stands (net_of_surface s) x → face_of x ≡ f → IsFaceSpared s t u x
  spared_face x st is =
      let n : Net = net_of_surface s in
      let st1 = stands_next n x st in
      let is1 : face_of (next x) ≡ f = face_of-next x ∙ is in
      record {
        from = corner_spared x st is;
        to = corner_spared (next x) st1 is1;
        third = corner_spared (next (next x)) (stands_next n (next x) st1) (face_of-next (next x)
            ∙ is1);
      }
