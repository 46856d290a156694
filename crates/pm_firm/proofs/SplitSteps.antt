-- A legal split of a firm hierarchy is a split of nets, so it keeps the surface.
use Rattle.std.proofs.Common.{◌≡◌, ℕ, ◌*◌, ◌<◌, Bool, true, Option, Some, None, ◌⊎◌, inl, inr, sym}
use Rattle.std.proofs.lemmas.Grind.{common_steps}
use Rattle.std.proofs.Common.{ap, ◌∙◌, subst, arith}
use Rattle.std.proofs.lemmas.Bool.{cases_eq}
use Rattle.std.proofs.lemmas.Option.{none-some, same_Some}
use Rattle.pm_base.specs.Sides.{Net, face_of, next, prev, Stands, twin_of}
use Rattle.pm_base.specs.Fans.{IsPairAt}
use Rattle.pm_base.proofs.Search.{Decided, search_below}
use Rattle.pm_base.proofs.TwinLaws.{twin-is, twin-one}
use Rattle.pm_forest.specs.Forest.{Hierarchy, record_count, t_of, u_of, s_of}
use Rattle.pm_forest.specs.Fronts.{IsFront, with}
use Rattle.pm_forest.specs.Faces.{face_count, from_leaf, record_of, inner_of, IsForest}
use Rattle.pm_forest.specs.Kept.{is_shown}
use Rattle.pm_forest.proofs.OneStep.{with-front}
use Rattle.pm_forest.proofs.Shown.{shown_with}
use Rattle.pm_forest.proofs.Sides.{three_sides}
use Rattle.pm_beyond.specs.Walks.{IsOuter, Beyond, beyond_of, expected}
use Rattle.pm_beyond.specs.Valid.{IsValid}
use Rattle.pm_beyond.specs.Moves.{IsClosed, MaySplit}
use Rattle.pm_beyond.proofs.Across.{across-face, across-outer, across-is_outer, across-differs}
use Rattle.pm_beyond.proofs.Reaching.{kept_at_side, Beyond-unique}
use Rattle.pm_beyond.proofs.Neighbours.{expected-lt}
use Rattle.pm_beyond.proofs.Standing.{forest_of, closed-front}
use Rattle.pm_beyond.proofs.Closed.{four_faces}
use Rattle.pm_beyond.proofs.Relinking.{split-neighbour, split-other}
use Rattle.pm_runs.specs.Pairs.{IsPair}
use Rattle.pm_runs.specs.Merged.{merged}
use Rattle.pm_runs.specs.Splits.{IsBetween, IsSplit}
use Rattle.pm_runs.proofs.SplitTwins.{splits_keep_manifolds}
use Rattle.pm_firm.specs.Firm.{shown_net, IsSurfaceShown, FacesAreHeld}
use Rattle.pm_firm.proofs.Held.{held_side}
use Rattle.pm_firm.proofs.ShownNets.{stands-shown, shown-stands, twins-beyond, beyond-twins}
use Rattle.pm_firm.proofs.MergedShown.{leaf, ends_differ, gone, there_m, there_c, twin_m}
use Rattle.pm_firm.proofs.MergedShown.{manifold_c}
use Rattle.pm_firm.proofs.InnerSides.{linked, is_link, link_new, ends, goes_back, inner_side, one}
use Rattle.pm_firm.proofs.InnerSides.{inner}

is_some? : (r : Option ℕ) (k : ℕ) → Decided (r ≡ Some k)
is_some? None k = inr (λ e. none-some k e)
is_some? (Some j) k =
    elim (cases_eq j k) [ inl is ↦ inl (ap Some is) | inr ne ↦ inr (λ e. ne (same_Some j k e)) ]

module _ (h : Hierarchy) (valid : IsValid h) (T : ℕ → Bool) (closed : IsClosed h T) (k : ℕ)
    (l : k < record_count h) (may : MaySplit h T k) where
  abbrev split_set : ℕ → Bool
  split_set = with T k

  abbrev tree : IsForest h
  tree = forest_of h valid

  abbrev front : IsFront h T
  front = closed-front h T closed

  abbrev split_front : IsFront h (with T k)
  split_front = with-front h tree.forest T front k l may.active

  abbrev net_after : Net
  net_after = shown_net h (with T k)

  abbrev net_before : Net
  net_before = shown_net h T

  abbrev merged_net : Net
  merged_net = merged (shown_net h (with T k)) (t_of h k) (u_of h k) (s_of h k)

  -- what stands beyond each side after
  abbrev beyond : ℕ → Option ℕ
  beyond e = beyond_of h (with T k) e

  points? : (e o : ℕ) → Decided (IsOuter h k o × (expected h o ≡ Some e))
  points? e o = grind (arith, common_steps, is_some?)

  held : FacesAreHeld h k → (p q x : ℕ) → IsPair (t_of h k) (u_of h k) p q
      → (f : IsPairAt net_after p q x) → (b : ℕ) × Stands merged_net b
      × ((beyond (next f.side) ≡ Some b) ⊎ (beyond (prev f.side) ≡ Some b))
  held has p q x pair f =
      let kf = inner_side h valid T closed k l may f.side p q pair f.stands f.at f.one in
      let (e, b, face, outer, is) = held_side h k (face_of f.side) kf.face kf.rec has in
      let fl = kf.face in
      let le : e < 3 * face_count h = omega arith in
      let bl = expected-lt h valid.shape k e b le outer is in
      let le' = link_new h valid T closed k l may e le outer.0 ∙ is in
      let shown_b : is_shown h T b ≡ true =
      sym (kept_at_side h tree T front b bl) ∙ may.present e b le outer is in
      let b_there = there_c h valid T closed k l may b (stands-shown h tree T front b bl shown_b) in
      elim (three_sides e f.side face) [
        | inl i ↦ absurd (outer.1 (i ∙ kf.is_inner ∙ ap (inner_of h k) (sym face)))
        | inr w ↦ grind (arith, common_steps)
      ]

  module _ (surface : IsSurfaceShown h T) where
    kept : (e g : ℕ) → Stands merged_net e → twin_of merged_net e ≡ Some g
        → (beyond e ≡ Some g) ⊎ IsBetween beyond e g
    kept e g et is =
        let em = there_m h valid T closed k l may e et in
        let shown_e = shown-stands h tree T front e em in
        let tm = twin-one net_before surface.manifold.no_side_twice e g
        (twin_m h valid T closed k l may e g et (twin-is merged_net e g is)) in
        let b : Beyond h T e (Some g) =
        subst (Beyond h T e) tm
        (twins-beyond h tree T front valid.no_side_twice surface.twins e et.is_side shown_e) in
        let shown_e1 = shown_with h T k e shown_e in
        elim (search_below (λ o. IsOuter h k o × (expected h o ≡ Some e)) (points? e)
        (3 * face_count h)) [
          | inr none ↦
              inl (is_link h valid T closed k l may e (Some g) et.is_side shown_e1
              (split-other h valid T k closed l may e (Some g) et.is_side shown_e b
              (λ o ol outer x. none o ol (outer, x))))
          | inl (o, ol, (outer, x)) ↦
              let (p, px) = across-outer h k o outer in
              let face = across-face h o p px in
              let (j, oo, po) = across-is_outer h o p px in
              let same : j ≡ k = same_Some j k (sym oo.0 ∙ outer.0) in
              let rec : record_of h p ≡ Some k = po.0 ∙ ap Some same in
              let pl : p < 3 * face_count h = omega arith in
              let four = four_faces h valid T closed k o p e l may ol outer px x in
              let eq = Beyond-unique h tree valid.no_side_twice T e (expected h p) (Some g) four
              b in
              inr (record {
                o = o;
                r = p;
                meets = is_link h valid T closed k l may e (Some o) et.is_side shown_e1
                    (split-neighbour h valid T k closed l may o e ol outer x);
                leaves = link_new h valid T closed k l may p pl rec ∙ eq;
                sides = elim (three_sides p o face) [
                  | inl i ↦ absurd (across-differs h o p px i)
                  | inr w ↦ w
                ];
              })
        ]

    is_split : FacesAreHeld h k
        → IsSplit (shown_net h (with T k)) (t_of h k) (u_of h k) (s_of h k) (beyond_of h (with T k))
    is_split has = record {
      differ = ends_differ h valid T closed k l may;
      fresh = λ e st. gone h valid T closed k l may (from_leaf h e)
          (leaf h valid T closed k l may e st.is_side);
      ends = ends h valid T closed k l may;
      back = goes_back h valid T closed k l may;
      kept = kept;
      one = one h valid T closed k l may;
      inner = inner h valid T closed k l may;
      held = held has;
    }

    -- One split
    pub step : FacesAreHeld h k → IsSurfaceShown h (with T k)
    step has =
        let (split_manifold, same) =
        splits_keep_manifolds (shown_net h (with T k)) (t_of h k) (u_of h k) (s_of h k)
        (beyond_of h (with T k)) (is_split has)
        (manifold_c h valid T closed k l may surface.manifold) in
        record {
          manifold = split_manifold;
          twins = beyond-twins h tree split_set split_front valid.no_side_twice
              (λ e le is. subst (Beyond h split_set e)
              (same e (stands-shown h tree split_set split_front e le is))
              (linked h valid T closed k l may e le is));
        }
