-- Which faces are turned doesn't depend on the vertices' numbers.
use Rattle.std.proofs.Common.{◌≡◌, ℕ, ◌+◌, ◌*◌, ◌<◌, inl, inr, refl, sym, ap, ◌∙◌, subst, Bool}
use Rattle.std.proofs.lemmas.Grind.{common_steps}
use Rattle.std.proofs.Common.{true, false, not, List, arith}
use Rattle.std.specs.Prelude.{ℤ, ◌==◌, ◌&&◌}
use Rattle.std.proofs.lemmas.Bool.{cases_Bool, eqb-true, eqb-false, eq-eqb, ne_eqb}
use Rattle.pm_base.specs.Place.{Place}
use Rattle.pm_base.specs.Sides.{Net, face_of, side_count, next, Stands}
use Rattle.pm_base.proofs.Sides.{next-lt}
use Rattle.pm_turn.specs.Turning.{flag_of, JoinsSame, AreMates, clash, flipped_if, Way, stay, over}
use Rattle.pm_turn.specs.Turning.{AgreeOnceTurned, AreTurns}
use Rattle.pm_turn.specs.Choice.{AreLeast, IsOpen, Agrees, HasClash}
use Rattle.pm_turn.specs.Choice.{place_at, area_of, area_at, weight, IsSmaller}
use Rattle.pm_turn.specs.Choice.{determinant_of, volume_at, volume_in, IsOutward, AreChosenTurns}
use Rattle.pm_turn.specs.ChoiceLaws.{IsRenumbered}
use Rattle.pm_turn.proofs.Totals.{total_same}
use Rattle.pm_turn.proofs.Weights.{weight_same}

pub renumbered_back : (m n : Net) → IsRenumbered m n → IsRenumbered n m
renumbered_back m n h =
    let in_m = λ (e : ℕ) (l : e < side_count n). subst (λ i. e < 3 * i) h.faces l in
    record {
      faces = sym h.faces;
      there = λ e g el gl is. h.back e g (in_m e el) (in_m g gl) is;
      back = λ e g el gl is. h.there e g (in_m e el) (in_m g gl) is;
    }

module _ (m n : Net) (h : IsRenumbered m n) where
  in_n : (e : ℕ) → e < side_count m → e < side_count n
  in_n e l = subst (λ i. e < 3 * i) (sym h.faces) l

  stands_on : (e : ℕ) → Stands m e → Stands n e
  stands_on e s = grind (arith, common_steps, in_n e, next-lt m.faces e, next-lt m.faces (next e))

  joins_on : (e g : ℕ) → e < side_count m → JoinsSame m e g → JoinsSame n e g
  joins_on e g el j =
      grind (arith, common_steps, next-lt m.faces e el, next-lt m.faces g, stands_on g j.stands)

mates_on : (m n : Net) → IsRenumbered m n → (e k : ℕ) → AreMates m e k → AreMates n e k
mates_on m n h e k a = record {
  stands = stands_on m n h e a.stands;
  differ = a.differ;
  same = joins_on m n h e k a.stands.is_side a.same;
  alone = λ g j. a.alone g (joins_on n m (renumbered_back m n h) e g
      (in_n m n h e a.stands.is_side) j);
}

clash_on : (m n : Net) → IsRenumbered m n → (e k : ℕ) → AreMates m e k → clash m e k ≡ clash n e k
clash_on m n h e k a =
    elim (cases_Bool (clash m e k)) [
      | inl c ↦ c ∙ sym (eq-eqb _ _
          (h.there e k a.stands.is_side a.same.stands.is_side (eqb-true _ _ c)))
      | inr c ↦ c ∙ sym (ne_eqb _ _
          (λ is. eqb-false _ _ c (h.back e k a.stands.is_side a.same.stands.is_side is)))
    ]

way_like : (m n : Net) → IsRenumbered m n → (f g : ℕ) (p : Bool) → Way m f g p → Way n f g p
way_like m n h f g p stay = stay
way_like m n h f g q (over {e} {k} {p} w a) =
    subst (λ (c : Bool). Way n f (face_of k) (flipped_if c p)) (sym (clash_on m n h e k a))
    (over (way_like m n h f (face_of e) p w) (mates_on m n h e k a))

-- A face's volume by its three places.
abbrev three_places : Bool → Place → Place → Place → ℤ
three_places true a b c = determinant_of a c b
three_places false a b c = determinant_of a b c

by_flag : (m : Net) (places : List Place) (b : Bool) (f : ℕ)
    → volume_at m places b f ≡ three_places b (place_at places (m.from (3 * f)))
    (place_at places (m.from (3 * f + 1))) (place_at places (m.from (3 * f + 2)))
by_flag m places true f = refl
by_flag m places false f = refl

module _ (m n : Net) (h : IsRenumbered m n) where
  in_m : (f : ℕ) → f < n.faces → f < m.faces
  in_m f l = subst (λ i. f < i) h.faces l

  mates_off : (e k : ℕ) → AreMates n e k → AreMates m e k
  mates_off e k a = mates_on n m (renumbered_back m n h) e k a

  agree_like : (flags : List Bool) → AgreeOnceTurned m flags → AgreeOnceTurned n flags
  agree_like flags t = record {
    long = t.long ∙ sym h.faces;
    twisted = t.twisted;
    odd = λ f l set. let (w, none) = t.odd f (in_m f l) set in (way_like m n h f f true w, none);
    agree = λ e k a un.
        let b = mates_off e k a in
        let (un_k, is) = t.agree e k b un in (
          un_k,
          is ∙ ap (λ (c : Bool). flipped_if c (flag_of flags (face_of e)))
              (clash_on m n h e k b),
        );
  }

  least_like : (least : ℕ → ℕ) → AreLeast m least → AreLeast n least
  least_like least s = record {
    way = λ f l. let (p, w) = s.way f (in_m f l) in (p, way_like m n h f (least f) p w);
    low = λ f g p l w. s.low f g p (in_m f l) (way_like n m (renumbered_back m n h) f g p w);
  }

  turns_like : (flags : List Bool) → AreTurns m flags → AreTurns n flags
  turns_like flags t = record {
    agreeing = agree_like flags t.agreeing;
    least = t.least;
    parity = t.parity;
    way = λ f l. way_like m n h f (t.least f) (t.parity f) (t.way f (in_m f l));
    low = λ f g p l w. t.low f g p (in_m f l) (way_like n m (renumbered_back m n h) f g p w);
    first = λ f l. t.first f (in_m f l);
  }

  open_off : (least : ℕ → ℕ) (r : ℕ) → IsOpen n least r → IsOpen m least r
  open_off least r o = record {
    side = o.side;
    in_range = subst (λ i. o.side < 3 * i) h.faces o.in_range;
    here = o.here;
    none = λ k a. o.none k (mates_on m n h o.side k a);
  }

  open_on : (least : ℕ → ℕ) (r : ℕ) → IsOpen m least r → IsOpen n least r
  open_on least r o = record {
    side = o.side;
    in_range = in_n m n h o.side o.in_range;
    here = o.here;
    none = λ k a. o.none k (mates_off o.side k a);
  }

  clash_off : (least : ℕ → ℕ) (r : ℕ) → HasClash n least r → HasClash m least r
  clash_off least r c =
      grind (arith, common_steps, clash_on m n h c.side c.mate, mates_off c.side c.mate c.mates)

  agrees_off : (least : ℕ → ℕ) (r : ℕ) → Agrees n least r → Agrees m least r
  agrees_off least r all e k a at = clash_on m n h e k a ∙ all e k (mates_on m n h e k a) at

  module _ (old new : List Place)
      (places : (e : ℕ) → e < side_count m → place_at new (n.from e) ≡ place_at old (m.from e))
    where
      volume_like : (b : Bool) (f : ℕ) → f < m.faces → volume_at n new b f ≡ volume_at m old b f
      volume_like b f l =
          by_flag n new b f
          ∙ ap (λ (p : Place). three_places b p (place_at new (n.from (3 * f + 1)))
          (place_at new (n.from (3 * f + 2)))) (places (3 * f) (omega (arith, l)))
          ∙ ap (λ (p : Place). three_places b (place_at old (m.from (3 * f))) p
          (place_at new (n.from (3 * f + 2)))) (places (3 * f + 1) (omega (arith, l)))
          ∙ ap (λ (p : Place). three_places b (place_at old (m.from (3 * f)))
          (place_at old (m.from (3 * f + 1))) p) (places (3 * f + 2) (omega (arith, l)))
          ∙ sym (by_flag m old b f)

      area_like : (f : ℕ) → f < m.faces → area_at n new f ≡ area_at m old f
      area_like f l =
          ap (λ (p : Place). area_of p (place_at new (n.from (3 * f + 1)))
          (place_at new (n.from (3 * f + 2)))) (places (3 * f) (omega (arith, l)))
          ∙ ap (λ (p : Place). area_of (place_at old (m.from (3 * f))) p
          (place_at new (n.from (3 * f + 2)))) (places (3 * f + 1) (omega (arith, l)))
          ∙ ap (λ (p : Place). area_of (place_at old (m.from (3 * f)))
          (place_at old (m.from (3 * f + 1))) p) (places (3 * f + 2) (omega (arith, l)))

      weight_like : (p : ℕ → Bool) → weight (area_at n new) p n.faces
          ≡ weight (area_at m old) p m.faces
      weight_like p =
          ap (weight (area_at n new) p) h.faces
          ∙ weight_same (area_at n new) (area_at m old) p p m.faces area_like (λ i l. refl)

      smaller_like : (least : ℕ → ℕ) (turned : ℕ → Bool) (r : ℕ) → IsSmaller m old least turned r
          → IsSmaller n new least turned r
      smaller_like least turned r s =
          let t = weight_like (λ f. (least f == r) && turned f) in
          let u = weight_like (λ f. (least f == r) && not (turned f)) in
          let small = s.small in
          record { small = omega (arith, t, u, small); first = λ e. s.first (sym t ∙ e ∙ u) }

      total_like : (least : ℕ → ℕ) (turned : ℕ → Bool) (r : ℕ)
          → volume_in n new least turned r ≡ volume_in m old least turned r
      total_like least turned r = grind (arith, common_steps, total_same, volume_like)

      outward_like : (least : ℕ → ℕ) (turned : ℕ → Bool) (r : ℕ) → IsOutward m old least turned r
          → IsOutward n new least turned r
      outward_like least turned r s = grind (arith, common_steps, smaller_like, total_like)

      chosen_like : (flags : List Bool) → AreChosenTurns m old flags → AreChosenTurns n new flags
      unfolding agree_like
      chosen_like flags t = record {
        agreeing = agree_like flags t.agreeing;
        least = t.least;
        patches = least_like t.least t.patches;
        same = λ f l all. t.same f (in_m f l) (agrees_off t.least (t.least f) all);
        smaller = λ r o. smaller_like t.least (flag_of flags) r
            (t.smaller r (open_off t.least r o));
        outward = λ r closed c un. outward_like t.least (flag_of flags) r
            (t.outward r (λ o. closed (open_on t.least r o)) (clash_off t.least r c) un);
      }

pub turns_are_renumbered : (m n : Net) (flags : List Bool) → IsRenumbered m n → AreTurns m flags
    → AreTurns n flags
turns_are_renumbered m n flags h t = turns_like m n h flags t

pub chosen_turns_are_renumbered : (m n : Net) (old new : List Place) (flags : List Bool)
    → IsRenumbered m n
    → ((e : ℕ) → e < side_count m → place_at new (n.from e) ≡ place_at old (m.from e))
    → AreChosenTurns m old flags → AreChosenTurns n new flags
chosen_turns_are_renumbered m n old new flags h places t = chosen_like m n h old new places flags t
