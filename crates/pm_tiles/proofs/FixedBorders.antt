-- A front of a firm hierarchy with a fixed border has exactly the border sides of the leaf mesh.
use Rattle.std.proofs.Common.{◌≡◌, ℕ, ◌*◌, ◌<◌, ◌↔◌, Bool, true, false, None, List, [], ◌∷◌, inl}
use Rattle.std.proofs.lemmas.Grind.{common_steps}
use Rattle.std.proofs.Common.{inr}
use Rattle.std.proofs.Common.{sym, ap, ◌∙◌, subst, arith}
use Rattle.std.proofs.lemmas.Bool.{both_ways}
use Rattle.std.proofs.lemmas.Option.{none-some}
use Rattle.pm_base.specs.Sides.{face_of, next, Stands, IsBorderSide, HasNoTwin, twin_of}
use Rattle.pm_base.proofs.Search.{option_cases}
use Rattle.pm_base.proofs.TwinLaws as twins
use Rattle.pm_forest.specs.Forest.{Hierarchy, leaf_count}
use Rattle.pm_forest.specs.Fronts.{IsFront, ancestor_of}
use Rattle.pm_forest.specs.Faces.{face_count, from_leaf, to_leaf, IsForest}
use Rattle.pm_forest.specs.Kept.{is_kept}
use Rattle.pm_forest.proofs.Ends.{next-lt}
use Rattle.pm_beyond.specs.Walks.{leaf_net, leaf_twin, Crosses, StandsBeyond}
use Rattle.pm_beyond.specs.Moves.{IsClosed}
use Rattle.pm_beyond.proofs.Twins.{side-stands, twin-is}
use Rattle.pm_beyond.proofs.Reaching.{kept_at_side}
use Rattle.pm_beyond.proofs.Standing.{forest_of, closed-front}
use Rattle.pm_firm.specs.Firm.{shown_net, IsFirm}
use Rattle.pm_firm.proofs.ShownNets.{shown-stands}
use Rattle.pm_firm.proofs.FirmFronts.{firm_fronts}
use Rattle.pm_runs.specs.Pairs.{Runs}
use Rattle.pm_tiles.specs.Fixed.{root_over, IsFixed, HasFixedEnds, HasFixedBorder}
use Rattle.pm_tiles.specs.Laws as law
use Rattle.pm_tiles.proofs.FixedLeaves.{is_root, only}

module _ (h : Hierarchy) (tree : IsForest h) (T : ℕ → Bool) where
  leaf : (e : ℕ) → e < 3 * face_count h → from_leaf h e < leaf_count h
  leaf e l = tree.faces.leaves e l

  -- A side that begins where a fixed leaf is shown begins at that leaf.
  begins :
      (x e : ℕ) → IsFixed h x → e < 3 * face_count h →
      ancestor_of h T (from_leaf h e) ≡ ancestor_of h T x → from_leaf h e ≡ x
  begins x e fixed l is = only h tree x fixed T (from_leaf h e) (leaf e l) is

  -- Nothing else has the ancestor of one of its ends, so the face of such a side is always shown.
  pub fixed-stands : (e : ℕ) → e < 3 * face_count h → HasFixedEnds h e → Stands (shown_net h T) e
  fixed-stands e l fixed = grind (arith, common_steps, begins, next-lt, side-stands)

  -- Between fixed leaves the same sides run in every front.
  pub fixed_sides :
      (x y : ℕ) → x < leaf_count h → y < leaf_count h → IsFixed h x → IsFixed h y → (e : ℕ) →
      Runs (shown_net h T) e (root_over h x) (root_over h y) ↔ Runs (leaf_net h) e x y
  fixed_sides x y lx ly first second e =
      grind (
        arith,
        common_steps,
        begins x e first,
        begins y (next e) second,
        fixed-stands e,
        is_root h tree x first T,
        is_root h tree y second T,
        next-lt h tree e,
        side-stands h tree e,
      )

  pub shown_border :
      (e : ℕ) → IsBorderSide (leaf_net h) e → HasFixedEnds h e → IsBorderSide (shown_net h T) e
  shown_border e border fixed = record {
    stands = fixed-stands e border.stands.is_side fixed;
    alone = λ g twin.
        let l = twin.stands.is_side in
        border.alone g (record {
          stands = side-stands h tree g l;
          begins = begins (to_leaf h e) g fixed.to l twin.begins;
          ends = begins (from_leaf h e) (next g) fixed.from (next-lt h tree g l) twin.ends;
        });
  }

  leaf-alone : (e : ℕ) → leaf_twin h e ≡ None → HasNoTwin (leaf_net h) e
  leaf-alone e none g twin =
      let (k, is) = twins.twin-has (leaf_net h) e g twin in
      none-some k (sym none ∙ is)

  module _ (front : IsFront h T) (fixed : HasFixedBorder h) where
    shown-kept : (e : ℕ) → Stands (shown_net h T) e → is_kept h T (face_of e) ≡ true
    shown-kept e st =
        kept_at_side h tree T front e st.is_side ∙ shown-stands h tree T front e st

    -- No walk leaves a dropped face by a border side, since faces at border sides are kept.
    no_way_out :
        (a : ℕ) (fs : List ℕ) → a < 3 * face_count h → is_kept h T (face_of a) ≡ false →
        Crosses h T a fs None → ⊥
    no_way_out a [] l dropped none =
        let border : IsBorderSide (leaf_net h) a =
        record { stands = side-stands h tree a l; alone = leaf-alone a none } in
        let shown = shown-kept a (fixed-stands a l (fixed a border)) in
        both_ways (is_kept h T (face_of a)) dropped shown
    no_way_out a (f ∷ fs) l dropped (c, o, twin, at, off, way, rest) =
        let low = (twin-is h a c twin).2 in
        let same : face_of o ≡ face_of c = way.0 in
        no_way_out o fs (omega arith) (ap (is_kept h T) (same ∙ at) ∙ off) rest

    pub alone-from : (e : ℕ) (fs : List ℕ) → Crosses h T e fs None → HasNoTwin (leaf_net h) e
    alone-from e [] none = leaf-alone e none
    alone-from e (f ∷ fs) (c, o, twin, at, off, way, rest) =
        let low = (twin-is h e c twin).2 in
        let same : face_of o ≡ face_of c = way.0 in
        absurd (no_way_out o fs (omega arith) (ap (is_kept h T) (same ∙ at) ∙ off) rest)

module _ (h : Hierarchy) (firm : IsFirm h) (fixed : HasFixedBorder h)
    (T : ℕ → Bool) (closed : IsClosed h T) where
  abbrev tree : IsForest h
  tree = forest_of h firm.valid

  abbrev front : IsFront h T
  front = closed-front h T closed

  leaf_border : (e : ℕ) → IsBorderSide (shown_net h T) e → IsBorderSide (leaf_net h) e
  leaf_border e border =
      let l = border.stands.is_side in
      let n = shown_net h T in
      let none : twin_of n e ≡ None =
      elim (option_cases (twin_of n e)) [
        | inl is ↦ is
        | inr (k, is) ↦ absurd (border.alone k (twins.twin-is n e k is))
      ] in
      let shown = shown-kept h tree T front fixed e border.stands in
      let beyond : StandsBeyond h T e None =
      subst (StandsBeyond h T e) none ((firm_fronts h firm T closed).twins e l shown) in
      record {
        stands = side-stands h tree e l;
        alone = alone-from h tree T front fixed e beyond.crossed beyond.crosses;
      }

pub borders_stay : law.BordersStay
borders_stay h firm fixed T closed e = (
  leaf_border h firm fixed T closed e,
  λ border. shown_border h (forest_of h firm.valid) T e border (fixed e border),
)

pub sides_stay : law.FixedSidesStay
sides_stay h tree T = fixed_sides h tree T
