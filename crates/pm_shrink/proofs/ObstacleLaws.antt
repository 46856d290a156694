-- What hinders a pair: the parts of a legal pair by what was found.
use Rattle.std.proofs.Common.{◌≡◌, ◌↔◌, ◌&&◌, eqb, ℕ, true, Option, Some, None, inl, inr, refl, sym}
use Rattle.std.proofs.Common.{arith}
use Rattle.std.proofs.lemmas.Grind.{common_steps}
use Rattle.std.proofs.Common.{◌∙◌, ap, subst}
use Rattle.std.specs.Prelude.{MatchOption, is_none, option_map}
use Rattle.std.proofs.lemmas.Bool.{or_cases, and_parts, and_from, eqb-true, false≢true}
use Rattle.std.proofs.lemmas.Option.{none-some, same_Some}
use Rattle.pm_base.specs.Place.{Place}
use Rattle.pm_base.specs.declared.ids.Side.{Side}
use Rattle.pm_base.specs.Sides.{Net, next, prev, to, third, Stands, NoSideTwice, twin_of}
use Rattle.pm_base.specs.Sides.{IsBorderSide}
use Rattle.pm_base.proofs.Sides.{stands_next}
use Rattle.pm_runs.specs.Surfaces.{Surface, net_of_surface}
use Rattle.pm_runs.specs.Pairs.{HasFace, IsPair, ShareNoTriangle, HaveCommonThirds}
use Rattle.pm_runs.specs.Pairs.{StayUpright}
use Rattle.pm_runs.specs.Steps.{side_from_to}
use Rattle.pm_runs.proofs.Found.{found-runs, runs-found}
use Rattle.pm_runs.proofs.Sides.{runs_last}
use Rattle.pm_shrink.proofs.FanLaws.{border-side}
use Rattle.pm_shrink.proofs.UprightLaws.{upright_from}
use Rattle.pm_shrink.specs.Walks.{has_two, IsStray, IsAloneAlong, StayUprightAt, TurnsAt}
use Rattle.pm_shrink.specs.Obstacles.{Strays, TellsTriangle, IsAlone, TurnsOver}

-- A common neighbour that is no third corner keeps the pair from being legal.
pub strays_uncommon : (m : Net) (a b w : ℕ) → Strays m a b w → HaveCommonThirds m a b → ⊥
strays_uncommon m a b w x common = x.off ((common w).0 (x.first, x.second))

pub stray_first : (m : Net) (a b e : ℕ) → Stands m e → m.from e ≡ a → IsStray m a b (to m e)
    → Stands m (next e) × Strays m a b (m.from (next e))
stray_first m a b e st at x = (
  stands_next m e st,
  record {
    first = inl (e, record { stands = st; begins = at; ends = refl });
    second = x.0;
    off = x.1;
  },
)

pub stray_last : (m : Net) (a b e : ℕ) → Stands m e → m.from e ≡ a → IsStray m a b (third m e)
    → Stands m (prev e) × Strays m a b (m.from (prev e))
stray_last m a b e st at x =
    grind (
      arith,
      common_steps,
      runs_last m e a (to m e) (third m e) (record { stands = st; begins = at; ends = refl }) refl,
      stands_next m (next e) (stands_next m e st),
      stands_next m e st,
    )

-- The third corners of the left and the right face of a pair, as the search finds these.
pub record AreThirds (m : Net) (a b v w : ℕ) : Type 0 where
  pub left : ℕ
  pub right : ℕ
  pub once : NoSideTwice m
  pub found_left : side_from_to m a b ≡ Some left
  pub found_right : side_from_to m b a ≡ Some right
  pub is_v : v ≡ third m left
  pub is_w : w ≡ third m right

-- No other two faces hold the pair, so these third corners alone count.
module _ {m : Net} {a b v w : ℕ} (these : AreThirds m a b v w) where
  pub only_triangle : (HasFace m a v w → HasFace m b v w → ⊥) → ShareNoTriangle m a b
  only_triangle never x y r s f k =
      let is_left : x ≡ these.left =
      same_Some x these.left (sym (runs-found m a b these.once x r) ∙ these.found_left) in
      let is_right : y ≡ these.right =
      same_Some y these.right (sym (runs-found m b a these.once y s) ∙ these.found_right) in
      let first : third m x ≡ v = ap (third m) is_left ∙ sym these.is_v in
      let second : third m y ≡ w = ap (third m) is_right ∙ sym these.is_w in
      never (rw (first, second) at f) (rw (first, second) at k)

  pub triangle_told : HasFace m b v w → (r : Option Side) →
      MatchOption r (HasFace m a v w → ⊥) (λ e. Stands m e.0 × (m.from e.0 ≡ a)
      × (has_two m v w e.0 ≡ true)) →
      MatchOption r (ShareNoTriangle m a b) (λ e. Stands m e.0 × TellsTriangle m a b e.0)
  triangle_told second None never = only_triangle (λ f k. never f)
  triangle_told second (Some s) found =
      let e = s.0 in
      let (st, at, two) = found in
      let one = eqb (to m e) v && eqb (third m e) w in
      let other = eqb (to m e) w && eqb (third m e) v in
      let runs_left = found-runs m a b these.left these.found_left in
      let runs_right = found-runs m b a these.right these.found_right in
      let is_v = these.is_v in
      let is_w = these.is_w in
      elim (or_cases one other two) [
        | inl k ↦ grind (arith, common_steps, and_parts, eqb-true)
        | inr k ↦ grind (arith, common_steps, and_parts, eqb-true)
      ]

-- The answer of a search as a test.
pub none_iff : {A : Type 0} (r : Option A) (P : Type 0) (Q : A → Type 0) → MatchOption r P Q
    → ((e : A) → Q e → P → ⊥) → (is_none r ≡ true) ↔ P
none_iff None P Q p apart = (λ t. p, λ k. refl)
none_iff (Some e) P Q q apart = (λ t. absurd (false≢true t), λ k. absurd (apart e q k))

-- A face that is alone along a side is the one with the side that the search finds.
pub alone_at : {m : Net} {p q e : ℕ} → NoSideTwice m → side_from_to m p q ≡ Some e
    → IsAloneAlong m p q ↔ ((is_none (twin_of m e) ≡ true)
    × ((is_none (twin_of m (next e)) && is_none (twin_of m (prev e))) ≡ true))
alone_at {m} {p} {q} {e} once found =
    let r = found-runs m p q e found in
    let one = stands_next m e r.stands in
    let two = stands_next m (next e) one in
    let first = is_none (twin_of m (next e)) in
    let second = is_none (twin_of m (prev e)) in (
      λ (g, w, x, y, z). (
          let same : g ≡ e = same_Some g e (sym (runs-found m p q once g w) ∙ found) in (
            (border-side m e r.stands).1 (subst (IsBorderSide m) same x),
            and_from first second
                ((border-side m (next e) one).1 (subst (λ k. IsBorderSide m (next k)) same y))
                ((border-side m (prev e) two).1 (subst (λ k. IsBorderSide m (prev k)) same z)),
          )),
      λ (own, both). (let p = and_parts first second both in (
        e,
        r,
        (border-side m e r.stands).0 own,
        (border-side m (next e) one).0 p.0,
        (border-side m (prev e) two).0 p.1,
      )),
    )

-- A face that is alone along the pair, in either direction, is the one that the search finds.
pub alone_found : (m : Net) (p q : ℕ) → NoSideTwice m → IsAloneAlong m p q → (r : Option Side)
    → option_map (λ s. s.0) r ≡ side_from_to m p q → (P : Type 0)
    → MatchOption r P (λ e. Stands m e.0 × IsAlone m p q e.0)
alone_found m p q once (e, r, x, y, z) None is P =
    absurd (none-some e (is ∙ runs-found m p q once e r))
alone_found m p q once (e, r, x, y, z) (Some s) is P =
    subst (λ (k : ℕ). Stands m k × IsAlone m p q k)
    (sym (same_Some s.0 e (is ∙ runs-found m p q once e r)))
    (r.stands, record { links = inl r; own = x; next_side = y; prev_side = z })

pub alone_back : (m : Net) (p q : ℕ) (r : Option Side) (P : Type 0)
    → MatchOption r P (λ e. Stands m e.0 × IsAlone m q p e.0)
    → MatchOption r P (λ e. Stands m e.0 × IsAlone m p q e.0)
alone_back m p q None P h = h
alone_back m p q (Some e) P h = (
  h.0,
  record {
    links = elim h.1.links [ inl r ↦ inr r | inr r ↦ inl r ];
    own = h.1.own;
    next_side = h.1.next_side;
    prev_side = h.1.prev_side;
  },
)

-- A face at one of the two that turns over.
pub turns_here : (s : Surface) (a b p q : ℕ) (place : Place) → IsPair a b p q → (e : ℕ)
    → Stands (net_of_surface s) e × ((net_of_surface s).from e ≡ p) × TurnsAt s q place e
    → TurnsOver s a b place e
turns_here s a b p q place pair e (st, at, x) = grind (arith, common_steps)

pub turned_second : (s : Surface) (a b : ℕ) (place : Place) → StayUprightAt s a b place
    → (r : Option Side) →
    MatchOption r (StayUprightAt s b a place) (λ e. Stands (net_of_surface s) e.0
    × ((net_of_surface s).from e.0 ≡ b) × TurnsAt s a place e.0) →
    MatchOption r (StayUpright s a b place) (λ e. TurnsOver s a b place e.0)
turned_second s a b place first None second = upright_from s a b place first second
turned_second s a b place first (Some e) found =
    turns_here s a b b a place (inr (refl, refl)) e.0 found
