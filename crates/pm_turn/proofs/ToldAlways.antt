-- What is told of turning can be told of any mesh, in one way; and of an oriented manifold.
use Rattle.std.proofs.Common.{◌≡◌, ℕ, ◌<◌, refl, sym, ap, ◌∙◌, subst, Bool, false, arith}
use Rattle.std.proofs.lemmas.Grind.{common_steps}
use Rattle.std.proofs.Common.{List}
use Rattle.std.specs.Prelude.{ℤ, pos, ◌<ℤ◌}
use Rattle.pm_base.specs.Place.{Place}
use Rattle.pm_base.specs.Counts.{count}
use Rattle.pm_base.specs.Sides.{Net, face_of, side_count}
use Rattle.pm_base.proofs.Counts.{count_same}
use Rattle.pm_base.proofs.Counted.{count_none}
use Rattle.pm_turn.specs.Turning.{flag_of, flipped_if, Way, stay, over, AllAgree}
use Rattle.pm_turn.specs.Sums.{root_at, parity_at}
use Rattle.pm_turn.specs.Told.{IsCount, IsTwisted, IsInsideOut, AreInsideOut, crowded_of}
use Rattle.pm_turn.specs.ToldLaws.{TurnCountsAreThere, TurnCountsAreOne, ManifoldsAreStraight}
use Rattle.pm_turn.proofs.TurnedFaces.{once_agree}
use Rattle.pm_turn.proofs.Telling.{tests, twisted_counted, inward_counted}
use Rattle.pm_turn.proofs.Thirds.{none_crowded}
use Rattle.pm_turn.proofs.TurnsThere.{all_grown}
use Rattle.pm_turn.proofs.ChosenThere.{mates, mated, roots, traced, sums, summed}
use Rattle.pm_turn.proofs.OneChoice.{least_same, open_by, agrees_by, volume_by}

-- There is one such count.
count_one : {P : ℕ → Type 0} (n k j : ℕ) → IsCount P n k → IsCount P n j → k ≡ j
count_one n k j s t = grind (arith, common_steps, count_same)

module _ (m : Net) (places : List Place) (a b : ℕ → ℕ)
    (same : (f : ℕ) → f < m.faces → a f ≡ b f) where
  inward_by : (r : ℕ) → r < m.faces → IsInsideOut m places a r → IsInsideOut m places b r
  inward_by r l h = record {
    own = sym (same r l) ∙ h.own;
    closed = λ o. h.closed (open_by m places b a (λ f fl. sym (same f fl)) r o);
    agrees = agrees_by m places a b same r h.agrees;
    inward = subst (λ (z : ℤ). z <ℤ pos 0) (volume_by m places a b same (λ _. false) r) h.inward;
  }

inward_one : (m : Net) (places : List Place) (k j : ℕ)
    → AreInsideOut m places k → AreInsideOut m places j → k ≡ j
inward_one m places k j s t =
    grind (
      arith,
      common_steps,
      count_one m.faces k j s.count,
      inward_by m places t.least s.least,
      inward_by m places s.least t.least,
      least_same m t.least s.least t.patches s.patches,
    )

pub turn_counts_are_one : TurnCountsAreOne
turn_counts_are_one m places flags one other s t =
    let turned = s.turned ∙ sym t.turned in
    let twisted = count_one m.faces one.twisted other.twisted s.twisted t.twisted in
    let crowded = s.crowded ∙ sym t.crowded in
    let inside_out = inward_one m places one.inside_out other.inside_out s.inside_out t.inside_out
    in
    λ i. record {
      turned = turned i;
      twisted = twisted i;
      crowded = crowded i;
      inside_out = inside_out i;
    }

pub turn_counts_are_there : TurnCountsAreThere
turn_counts_are_there m places flags =
    let (t, s) = all_grown m (side_count m) in
    let told : ℕ → Bool = λ f. t.odd (root_at (roots m places t s) f) in
    let inward : ℕ → Bool =
    tests m places (mates m places) (roots m places t s) t.odd (sums m places t s)
    (traced m places t s) (mated m places) (summed m places t s) in (
      record {
        turned = count (flag_of flags) m.faces;
        twisted = count told m.faces;
        crowded = crowded_of m;
        inside_out = count inward m.faces;
      },
      record {
        turned = refl;
        twisted = twisted_counted m (root_at (roots m places t s))
            (parity_at (roots m places t s)) t.odd
            (traced m places t s) (count told m.faces) refl;
        crowded = refl;
        inside_out = inward_counted m places (mates m places) (roots m places t s) t.odd
            (sums m places t s) (traced m places t s) (mated m places) (summed m places t s)
            (count inward m.faces) refl;
      },
    )

-- Where all neighbours agree no way is odd.
always_even : (m : Net) → AllAgree m → (f g : ℕ) (p : Bool) → Way m f g p → p ≡ false
always_even m all f g p stay = refl
always_even m all f g q (over {e} {k} {p} w a) =
    ap (λ (c : Bool). flipped_if c p) (all e k a) ∙ always_even m all f (face_of e) p w

none_twisted : (m : Net) (k : ℕ) → AllAgree m → IsCount (IsTwisted m) m.faces k → k ≡ 0
none_twisted m k all h = grind (arith, common_steps, always_even, count_none)

pub manifolds_are_straight : ManifoldsAreStraight
manifolds_are_straight m places flags c stand is s = (
  none_twisted m c.twisted (once_agree m is.no_side_twice) s.twisted,
  s.crowded ∙ none_crowded m stand is.no_side_twice,
)
