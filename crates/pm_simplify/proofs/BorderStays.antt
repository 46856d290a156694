-- A vertex on the border stays on it while other vertices are merged.
use Rattle.std.proofs.Common.{◌≡◌, ◌≢◌, ℕ, Some, None, ◌⊎◌, inl, inr, refl, sym, ap, ◌∙◌, subst}
use Rattle.std.proofs.lemmas.Bool.{cases_eq}
use Rattle.pm_base.specs.Place.{Place}
use Rattle.pm_base.specs.Sides.{Net, face_of, next, prev, to, Stands, HasNoTwin, IsTwin}
use Rattle.pm_base.specs.Sides.{IsBorderSide, IsBorder, twin_of}
use Rattle.pm_base.proofs.Search.{Decided, option_cases}
use Rattle.pm_base.proofs.Sides.{face_cases, next-next-next, stands_next}
use Rattle.pm_base.proofs.TwinLaws.{twin-is, twin-none, none-twin, twin-twin}
use Rattle.pm_runs.specs.Surfaces.{Surface, next_vertex, merge, net_of_surface, IsSurface}
use Rattle.pm_runs.specs.Surfaces.{collapsed}
use Rattle.pm_runs.specs.Pairs.{Links, IsLegalPair}
use Rattle.pm_runs.specs.Merged.{IsProper, IsLinkable}
use Rattle.pm_runs.specs.Nearby.{IsOther}
use Rattle.pm_runs.specs.Laws.{IsCollapse}
use Rattle.pm_runs.proofs.Legal.{link_stands}
use Rattle.pm_runs.proofs.Merges.{merge-other}
use Rattle.pm_runs.proofs.StepLaws.{linkable_is_legal, steps_keep_surfaces}

module _ (s : Surface) (sound : IsSurface s) (proper : IsProper (net_of_surface s)) (t u : ℕ)
    (at : Place) (legal : IsLegalPair s t u at) where
  abbrev n : Net
  n = net_of_surface s

  abbrev o : Net
  o = net_of_surface (collapsed s t u at)

  done : IsCollapse s t u at
  done = steps_keep_surfaces s sound proper t u at legal

  link : IsLinkable (net_of_surface s) t u
  link = ((linkable_is_legal s proper.once t u at).0 legal).0

  -- Of the two other sides of a face that goes one has something across it.
  both_open : (x : ℕ) → Links n x t u → HasNoTwin n (next x) → HasNoTwin n (prev x) → ⊥
  both_open x l a b =
      let st = link_stands n x t u l in
      elim (option_cases (twin_of n x)) [
        | inl none ↦ link.single x l (twin-none n x none) a b
        | inr (y, is) ↦
            let w : IsTwin n x y = twin-is n x y is in
            let at_to : IsBorder n (to n x) =
            (next x, record { stands = stands_next n x st; alone = a }, inl refl) in
            let at_from : IsBorder n (n.from x) = (
              prev x,
              record { stands = stands_next n (next x) (stands_next n x st); alone = b },
              inr (ap n.from (next-next-next x)),
            ) in
            elim l [
              | inl r ↦ link.border (subst (IsBorder n) r.begins at_from)
                  (subst (IsBorder n) r.ends at_to) (x, r) (
                    y,
                    record {
                      stands = w.stands;
                      begins = w.begins ∙ r.ends;
                      ends =
                          w.ends ∙ r.begins;
                    },
                  )
              | inr r ↦ link.border (subst (IsBorder n) r.ends at_to)
                  (subst (IsBorder n) r.begins at_from) (
                    y,
                    record {
                      stands = w.stands;
                      begins = w.begins ∙ r.ends;
                      ends =
                          w.ends ∙ r.begins;
                    },
                  ) (x, r)
            ]
      ]

  links? : (y : ℕ) → Stands n y → Decided (Links n y t u)
  links? y st =
      elim (cases_eq (n.from y) t) [
        | inl a ↦
            elim (cases_eq (to n y) u) [
              | inl b ↦ inl (inl (record { stands = st; begins = a; ends = b }))
              | inr nb ↦ inr (λ l. elim l [ inl r ↦ nb r.ends | inr r ↦ st.first (a ∙ sym r.ends) ])
            ]
        | inr na ↦
            elim (cases_eq (n.from y) u) [
              | inl c ↦
                  elim (cases_eq (to n y) t) [
                    | inl d ↦ inl (inr (record { stands = st; begins = c; ends = d }))
                    | inr nd ↦ inr (λ l. elim l [ inl r ↦ na r.begins | inr r ↦ nd r.ends ])
                  ]
              | inr nc ↦ inr (λ l. elim l [ inl r ↦ na r.begins | inr r ↦ nc r.begins ])
            ]
      ]

  module _ (p : ℕ) (other : IsOther s t u p) where
    not_from : (x : ℕ) → Links n x t u → n.from x ≢ p
    not_from x l is =
        elim l [
          | inl r ↦ other.not_first (sym is ∙ r.begins)
          | inr r ↦
              other.not_second (sym is ∙ r.begins)
        ]

    not_to : (x : ℕ) → Links n x t u → to n x ≢ p
    not_to x l is =
        elim l [
          | inl r ↦ other.not_second (sym is ∙ r.ends)
          | inr r ↦
              other.not_first (sym is ∙ r.ends)
        ]

    corner_stays : (e : ℕ) → Stands o e → n.from e ≡ p → o.from e ≡ p
    corner_stays e st is =
        done.faces.corners e st ∙ ap (merge t u (next_vertex s)) is
        ∙ merge-other t u (next_vertex s) p other.not_first other.not_second

    ends_stay : (e : ℕ) → Stands o e → (n.from e ≡ p) ⊎ (to n e ≡ p) → (o.from e ≡ p) ⊎ (to o e ≡ p)
    ends_stay e st ends =
        elim ends [
          | inl is ↦ inl (corner_stays e st is)
          | inr is ↦
              inr (corner_stays (next e) (stands_next o e st) is)
        ]

    module _ (e : ℕ) (side : IsBorderSide (net_of_surface s) e)
        (ends : ((net_of_surface s).from e ≡ p) ⊎ (to (net_of_surface s) e ≡ p)) where
      no_twin : twin_of n e ≡ None
      no_twin = none-twin n e side.alone

      -- Its face stays.
      kept : (Links n e t u → ⊥) → (Links n (next e) t u → ⊥) → (Links n (prev e) t u → ⊥)
          → IsBorder o p
      kept a b c =
          let never : (x : ℕ) → Links n x t u → face_of x ≢ face_of e = λ x l same.
          elim (face_cases e x (sym same)) [
            | inl is ↦ a (subst (λ y. Links n y t u) is l)
            | inr rest ↦
                elim rest [
                  | inl is ↦ b (subst (λ y. Links n y t u) is l)
                  | inr is ↦
                      c (subst (λ y. Links n y t u) is l)
                ]
          ] in
          let st = done.faces.stays e side.stands never in
          let apart : (x : ℕ) → Stands n x → twin_of n x ≢ Some e =
          λ x sx is. side.alone x (twin-twin n x e sx (twin-is n x e is)) in
          let alone : twin_of o e ≡ None = done.twins.others e st (λ x l.
          let sx = link_stands n x t u l in (
            apart (next x) (stands_next n x sx),
            apart (prev x) (stands_next n (next x) (stands_next n x sx)),
          )) ∙ no_twin in
          (e, record { stands = st; alone = twin-none o e alone }, ends_stay e st ends)

      -- Its face goes, and the side runs to the pair.
      onto : Links n (next e) t u → IsBorder o p
      onto l =
          let back : prev (next e) ≡ e = next-next-next e in
          let bare : HasNoTwin n (prev (next e)) = subst (HasNoTwin n) (sym back) side.alone in
          let is_p : n.from e ≡ p =
          elim ends [ inl is ↦ is | inr is ↦ absurd (not_from (next e) l is) ] in
          elim (option_cases (twin_of n (next (next e)))) [
            | inl none ↦ absurd (both_open (next e) l (twin-none n (next (next e)) none) bare)
            | inr (g, is) ↦
                let (st, then) = done.twins.first (next e) g l is in
                let w : IsTwin n (next (next e)) g = twin-is n (next (next e)) g is in
                let from : n.from g ≡ p = w.begins ∙ ap n.from back ∙ is_p in (
                  g,
                  record {
                    stands = st;
                    alone =
                        twin-none o g (then ∙ ap (twin_of n) back ∙ no_twin);
                  },
                  inl (corner_stays g st from),
                )
          ]

      -- Its face goes, and the side runs from the pair.
      away : Links n (prev e) t u → IsBorder o p
      away l =
          let back : next (prev e) ≡ e = next-next-next e in
          let bare : HasNoTwin n (next (prev e)) = subst (HasNoTwin n) (sym back) side.alone in
          let is_p : to n e ≡ p =
          elim ends [ inr is ↦ is | inl is ↦ absurd (not_to (prev e) l (ap n.from back ∙ is)) ]
          in
          elim (option_cases (twin_of n (prev (prev e)))) [
            | inl none ↦ absurd (both_open (prev e) l bare (twin-none n (prev (prev e)) none))
            | inr (g, is) ↦
                let (st, then) = done.twins.second (prev e) g l is in
                let w : IsTwin n (prev (prev e)) g = twin-is n (prev (prev e)) g is in
                let onto : to n g ≡ p = w.ends ∙ ap (λ x. n.from (next x)) back ∙ is_p in (
                  g,
                  record {
                    stands = st;
                    alone =
                        twin-none o g (then ∙ ap (twin_of n) back ∙ no_twin);
                  },
                  inr (corner_stays (next g) (stands_next o g st) onto),
                )
          ]

      pub border_side_stays : IsBorder (net_of_surface (collapsed s t u at)) p
      border_side_stays =
          let st = side.stands in
          let st1 = stands_next n e st in
          elim (links? e st) [
            | inl l ↦ absurd (elim ends [ inl is ↦ not_from e l is | inr is ↦ not_to e l is ])
            | inr a ↦
                elim (links? (next e) st1) [
                  | inl l ↦ onto l
                  | inr b ↦ elim (links? (prev e) (stands_next n (next e) st1))
                      [ inl l ↦ away l | inr c ↦ kept a b c ]
                ]
          ]

    pub border_stays : IsBorder (net_of_surface s) p
        → IsBorder (net_of_surface (collapsed s t u at)) p
    border_stays h = let (e, side, ends) = h in border_side_stays e side ends
