-- Each well-formed mesh is an oriented manifold, or has a first face that repeats a side, or else a
-- first vertex whose faces are no fan.
use Rattle.std.proofs.Common.{◌≡◌, ℕ, zero, suc, ◌+◌, ◌*◌, ◌<◌, None, length, ◌⊎◌, ◌↔◌, inl, inr}
use Rattle.std.proofs.Common.{refl, sym, ap, ◌∙◌, subst, arith}
use Rattle.std.proofs.lemmas.Bool.{cases_eq, cases_lt}
use Rattle.std.proofs.lemmas.Option.{none-some}
use Rattle.pm_base.specs.Meshes.{Mesh, IsWellFormed}
use Rattle.pm_base.specs.Sides.{Net, net_of, face_of, to, Stands, NoSideTwice, twin_of}
use Rattle.pm_base.specs.Fans.{IsUsed, IsFan, IsOrientedManifold}
use Rattle.pm_base.proofs.NetLaws.{mesh_side}
use Rattle.pm_base.proofs.Search.{Decided, search_below, option_cases}
use Rattle.pm_base.proofs.Sides.{face_cases}
use Rattle.pm_base.proofs.FanWalks.{walk_ends}
use Rattle.pm_twins.specs.Faults.{RepeatsASide, IsFirstRepeating, IsFirstBroken}
use Rattle.pm_twins.specs.Walks.{degree, IsStart}
use Rattle.pm_twins.proofs.Decision.{stops_decides, returns_decides}
use Rattle.pm_simplify.proofs.Decisions.{both?, never?, less?}
use Rattle.pm_commands.specs.declared.fault.Fault.{Fault}
use Rattle.pm_commands.specs.declared.fault.Fault.TheVariants as faults
use Rattle.pm_commands.specs.Surface.{IsMeshFault, side_twice, no_fan}

-- The least number below a bound at which something holds.
least_below : (P : ℕ → Type 0) → ((i : ℕ) → Decided (P i)) → (n : ℕ)
    → ((i : ℕ) × (i < n) × P i × ((j : ℕ) → j < i → P j → ⊥)) ⊎ ((i : ℕ) → i < n → P i → ⊥)
least_below P decide zero = inr (λ i l h. absurd (omega arith))
least_below P decide (suc n) =
    elim (least_below P decide n) [
      | inl (i, l, h, first) ↦ inl (i, omega arith, h, first)
      | inr none ↦
          elim (decide n) [
            | inl h ↦ inl (n, omega arith, h, none)
            | inr never ↦
                inr (λ i l h. elim (cases_eq i n) [
                  | inl is ↦ never (subst P is h)
                  | inr ne ↦
                      none i (omega arith) h
                ])
          ]
    ]

by_way : {P Q : Type 0} → (P ↔ Q) → Decided P → Decided Q
by_way way (inl p) = inl (way.0 p)
by_way way (inr n) = inr (λ q. n (way.1 q))

twin_missing? : (m : Net) (e : ℕ) → Decided (twin_of m e ≡ None)
twin_missing? m e =
    elim (option_cases (twin_of m e)) [
      | inl none ↦ inl none
      | inr (k, is) ↦
          inr (λ none. none-some k (sym none ∙ is))
    ]

module _ (m : Mesh) (formed : IsWellFormed m) where
  abbrev net : Net
  net = net_of m.faces

  here : (e : ℕ) → e < 3 * length m.faces → Stands net e
  here e l = (mesh_side m formed e l).0

  -- Side g has the ends of side e, and its face comes before face f.
  abbrev IsEarlier : ℕ → ℕ → ℕ → Type 0
  IsEarlier f e g = (face_of g < f) × ((net.from g ≡ net.from e) × (to net g ≡ to net e))

  abbrev Repeats : ℕ → ℕ → Type 0
  Repeats f e = (face_of e ≡ f) × ((g : ℕ) × IsEarlier f e g)

  earlier? : (f e : ℕ) → Decided ((g : ℕ) × IsEarlier f e g)
  earlier? f e =
      elim (search_below (IsEarlier f e)
      (λ g. both? (less? (face_of g) f)
      (both? (cases_eq (net.from g) (net.from e)) (cases_eq (to net g) (to net e)))) (3 * f)) [
        | inl (g, l, h) ↦ inl (g, h)
        | inr none ↦ inr (λ h. none h.0 (let b = h.1.0 in omega arith) h.1)
      ]

  repeats? : (f : ℕ) → Decided (RepeatsASide net f)
  repeats? f =
      elim (search_below (Repeats f) (λ e. both? (cases_eq (face_of e) f) (earlier? f e))
      (3 * suc f)) [
        | inl (e, l, h) ↦
            inl (record {
              side = e;
              earlier = h.1.0;
              of_face = h.0;
              before = h.1.1.0;
              from = h.1.1.1.0;
              to = h.1.1.1.1;
            })
        | inr none ↦
            inr (λ r. none r.side (omega (arith, r.of_face))
            (r.of_face, (r.earlier, (r.before, (r.from, r.to)))))
      ]

  -- Where no face repeats a side, no side stands twice.
  once_from : ((f : ℕ) → f < length m.faces → RepeatsASide net f → ⊥) → NoSideTwice net
  once_from none e g x y from to_same =
      elim (cases_lt (face_of e) (face_of g)) [
        | inl l ↦ absurd
            (none (face_of g) (omega (arith, y.is_side))
            (record {
              side = g;
              earlier = e;
              of_face = refl;
              before = l;
              from = from;
              to =
                  to_same;
            }))
        | inr k ↦
            elim (cases_lt (face_of g) (face_of e)) [
              | inl l ↦ absurd
                  (none (face_of e) (omega (arith, x.is_side))
                  (record {
                    side = e;
                    earlier = g;
                    of_face = refl;
                    before = l;
                    from = sym from;
                    to =
                        sym to_same;
                  }))
              | inr j ↦
                  elim (face_cases e g (omega (arith, j, k))) [
                    | inl is ↦ sym is
                    | inr (inl is) ↦ absurd (x.first (from ∙ ap net.from is))
                    | inr (inr is) ↦ absurd (x.last (sym (from ∙ ap net.from is)))
                  ]
            ]
      ]

  pub once_or_repeats : NoSideTwice net ⊎ ((f : ℕ) × IsFirstRepeating net f)
  once_or_repeats =
      elim (least_below (RepeatsASide net) repeats? (length m.faces)) [
        | inl (f, l, r, first) ↦ inr (f, record { in_range = l; repeats = r; least = first })
        | inr none ↦ inl (once_from none)
      ]

  -- Faces

  used? : (v : ℕ) → Decided (IsUsed net v)
  used? v =
      elim (search_below (λ e. net.from e ≡ v) (λ e. cases_eq (net.from e) v)
      (3 * length m.faces)) [
        | inl (e, l, at) ↦ inl (e, here e l, at)
        | inr none ↦ inr (λ u. none u.0 u.1.is_side u.2)
      ]

  -- No faces are a fan.
  unused_fan : (v : ℕ) → (IsUsed net v → ⊥) → IsFan net v
  unused_fan v never = record {
    w = λ i. 0;
    n = 0;
    chain = record {
      here = λ i l. absurd (omega arith);
      all = λ x y f. absurd (never (f.side, f.stands, f.at));
    };
    ends = inl (λ i j l b. absurd (omega arith));
  }

  module _ (once : NoSideTwice net) where
    -- Where a walk round the vertex of a side is to start.
    start_at : (v e : ℕ) → e < 3 * length m.faces → net.from e ≡ v → (a : ℕ) × Stands net a
        × (net.from a ≡ v) × IsStart net a
    start_at v e l at =
        elim (search_below (λ a. (net.from a ≡ v) × (twin_of net a ≡ None))
        (λ a. both? (cases_eq (net.from a) v) (twin_missing? net a)) (3 * length m.faces)) [
          | inl (a, b, h) ↦ (a, here a b, h.0, inl h.1)
          | inr none ↦ (e, here e l, at, inr (λ g b same alone. none g b (same ∙ at, alone)))
        ]

    fan_at? : (a : ℕ) → Stands net a → IsStart net a → Decided (IsFan net (net.from a))
    fan_at? a st start =
        let (k, trail, ends) = walk_ends net once a st in
        elim ends [
          | inl stops ↦
              by_way (stops_decides net once a st start k trail stops)
              (cases_eq (suc k) (degree net (net.from a)))
          | inr returns ↦ by_way (returns_decides net once a st start k trail returns)
              (both? (cases_eq (suc k) (degree net (net.from a))) (less? 2 (suc k)))
        ]

    fan? : (v : ℕ) → Decided (IsFan net v)
    fan? v =
        elim (used? v) [
          | inr never ↦ inl (unused_fan v never)
          | inl (e, st, at) ↦
              let (a, sa, at_a, start) = start_at v e st.is_side at in
              subst (λ i. Decided (IsFan net i)) at_a (fan_at? a sa start)
        ]

    fans_or_broken : ((v : ℕ) → IsUsed net v → IsFan net v) ⊎ ((v : ℕ) × IsFirstBroken net v)
    fans_or_broken =
        elim (least_below (λ v. IsFan net v → ⊥) (λ v. never? (fan? v)) (length m.points)) [
          | inl (v, l, n, below) ↦
              inr (
                v,
                record {
                  broken = record {
                    used =
                        elim (used? v) [ inl u ↦ u | inr never ↦ absurd (n (unused_fan v never)) ];
                    no_fan = n;
                  };
                  fans_below =
                      λ u b. elim (fan? u) [ inl f ↦ f | inr never ↦ absurd (below u b never) ];
                },
              )
          | inr all ↦
              inl (λ v u. elim (fan? v) [
                | inl f ↦ f
                | inr never ↦
                    absurd (all v
                    (subst (λ i. i < length m.points) u.2 (mesh_side m formed u.0 u.1.is_side).1)
                    never)
              ])
        ]

  -- The mesh is a surface, or has a first fault.
  pub judged : IsOrientedManifold net ⊎ ((f : Fault) × IsMeshFault net f)
  judged =
      elim once_or_repeats [
        | inr (f, is) ↦ inr (faults.EdgeTwice (f + 1), side_twice f is)
        | inl once ↦
            elim (fans_or_broken once) [
              | inl fans ↦ inl (record { no_side_twice = once; fans = fans })
              | inr (v, is) ↦ inr (faults.NotFan (v + 1), no_fan v once is)
            ]
      ]
