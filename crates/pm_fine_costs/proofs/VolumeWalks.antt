-- The sums over the faces at a vertex, by a walk over the corners round it.
use Rattle.std.proofs.Common.{◌≡◌, ℕ, ◌+◌, ◌≤◌, true, Option, Some, None, List, [], ◌∷◌}
use Rattle.std.proofs.Common.{length, refl, sym, ap, ◌∙◌, subst, arith}
use Rattle.std.specs.Option.{option_map}
use Rattle.pm_base.specs.declared.ids.Side.{Side}
use Rattle.pm_base.specs.declared.limits.TheConstants.{MOST_FACES, MOST_SIDES}
use Rattle.pm_base.specs.Sides.{side_count}
use Rattle.pm_base.proofs.Counts.{count_le}
use Rattle.pm_links.specs.Lists.{has, first_of, after, rest_of_walk}
use Rattle.pm_links.proofs.Members.{few_below}
use Rattle.pm_links.proofs.Walking.{rest_first, rest_next}
use Rattle.pm_shrink.specs.Shrinking.{Shrinking, net_at, fan_at, AreCornersAt}
use Rattle.pm_simplify.specs.Walks.{still}
use Rattle.pm_fine_costs.specs.declared.face_sum.FaceSum.{FaceSum}
use Rattle.pm_fine_costs.specs.Corners.{corners_round}
use Rattle.pm_fine_costs.specs.Volumes.{no_faces, plus_faces, total_of, IsSmall}
use Rattle.pm_fine_costs.proofs.CornerCounts.{round_counted}
use Rattle.pm_fine_costs.proofs.CornerLists.{corners_once, same_corners}
use Rattle.pm_fine_costs.proofs.FaceTotals.{faces-assoc, faces-zero, zero-faces, same_sum}
use Rattle.pm_fine_costs.proofs.FaceTotals.{same_length}
use Rattle.pm_fine_costs.proofs.VolumeLaws.{small_zero, small_plus, small_more}

-- A sum of all that a walk has seen, where the rest is still to see.
pub record IsSumOf (f : ℕ → FaceSum) (fan rest : List ℕ) (sum : FaceSum) : Type 0 where
  pub whole : plus_faces sum (total_of f rest) ≡ total_of f fan
  pub seen : ℕ
  pub all : seen + length rest ≡ length fan
  pub small : IsSmall seen sum

module _ (f : ℕ → FaceSum) (fan : List ℕ) where
  sum_first : (sum : FaceSum) → sum ≡ no_faces → IsSumOf f fan fan sum
  sum_first sum is = record {
    whole = ap (λ (s : FaceSum). plus_faces s (total_of f fan)) is ∙ zero-faces (total_of f fan);
    seen = 0;
    all = omega arith;
    small = subst (IsSmall 0) (sym is) (small_zero 0);
  }

  sum_more :
      (rest : List ℕ) (c : ℕ) (sum one more : FaceSum) → IsSumOf f fan (c ∷ rest) sum →
      one ≡ f c → IsSmall 1 one → more ≡ plus_faces sum one → IsSumOf f fan rest more
  sum_more rest c sum one more was is small now = record {
    whole =
        ap (λ (s : FaceSum). plus_faces s (total_of f rest)) (now ∙ ap (plus_faces sum) is)
        ∙ faces-assoc sum (f c) (total_of f rest) ∙ was.whole;
    seen = was.seen + 1;
    all = let before = was.all in omega arith;
    small =
        subst (IsSmall (was.seen + 1)) (sym now)
        (small_plus was.seen 1 sum one was.small small);
  }

  pub sum_small :
      (rest : List ℕ) (sum : FaceSum) (most : ℕ) → IsSumOf f fan rest sum → length fan ≤ most →
      IsSmall most sum
  sum_small rest sum most was few =
      let all = was.all in small_more was.seen most sum (omega arith) was.small

module _ (s : Shrinking) (v : ℕ) (corners : AreCornersAt (net_at s) v (fan_at s v))
    (f : ℕ → FaceSum) where
  abbrev fan : List ℕ
  fan = fan_at s v

  pub sum_begins :
      (sum : FaceSum) (at : Option Side) → sum ≡ no_faces →
      option_map (λ c. c.0) at ≡ first_of fan → IsSumOf f fan (still at fan) sum
  sum_begins sum at zero is =
      subst (λ (l : List ℕ). IsSumOf f fan l sum)
      (sym (ap (λ (o : Option ℕ). rest_of_walk o fan) is ∙ rest_first fan))
      (sum_first f fan sum zero)

  pub sum_goes :
      (sum one more : FaceSum) (at next_at : Option Side) (c : Side) → at ≡ Some c →
      has fan c.0 ≡ true → IsSumOf f fan (still at fan) sum → one ≡ f c.0 → IsSmall 1 one →
      more ≡ plus_faces sum one →
      option_map (λ c. c.0) next_at ≡ first_of (after c.0 (fan_at s ((net_at s).from c.0))) →
      IsSumOf f fan (still next_at fan) more
  sum_goes sum one more at next_at c is held was one_is small now step =
      let from : (net_at s).from c.0 ≡ v = ((corners.each c.0).0 held).1 in
      let next : option_map (λ c. c.0) next_at ≡ first_of (after c.0 fan) =
      step ∙ ap (λ k. first_of (after c.0 (fan_at s k))) from in
      let left : still next_at fan ≡ after c.0 fan =
      ap (λ (o : Option ℕ). rest_of_walk o fan) next ∙ rest_next fan c.0 corners.once held in
      let here : IsSumOf f fan (c.0 ∷ after c.0 fan) sum =
      subst (λ (o : Option Side). IsSumOf f fan (still o fan) sum) is was in
      subst (λ (l : List ℕ). IsSumOf f fan l more) (sym left)
      (sum_more f fan (after c.0 fan) c.0 sum one more here one_is small now)

  pub sum_ends :
      (sum : FaceSum) (at : Option Side) → at ≡ None → IsSumOf f fan (still at fan) sum →
      sum ≡ total_of f (corners_round s.surface v)
  sum_ends sum at is was =
      let end : IsSumOf f fan [] sum =
      subst (λ (o : Option Side). IsSumOf f fan (still o fan) sum) is was in
      sym (faces-zero sum) ∙ end.whole
      ∙ same_sum f fan (corners_round s.surface v) corners.once (corners_once s.surface v)
      (same_corners s.surface v fan corners)

  -- No more corners than sides, and no more than faces.
  pub fan_within : side_count (net_at s) ≤ MOST_SIDES → length fan ≤ 4194304
  fan_within sides =
      let few = few_below (side_count (net_at s)) fan corners.once
      (λ x h. ((corners.each x).0 h).0.is_side) in
      omega (arith, few, sides)

  pub fan_few : length s.surface.faces ≤ MOST_FACES → length fan ≤ 1048576
  fan_few short =
      let same = same_length fan (corners_round s.surface v) corners.once (corners_once s.surface v)
      (same_corners s.surface v fan corners) in
      let counted = round_counted s.surface v (λ e. true) (λ e t. refl) in
      omega (arith, same, counted, count_le (λ e. true) (length s.surface.faces), short)
