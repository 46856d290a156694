-- The twin of a side, found by search, and the next side round a vertex.
use Rattle.std.proofs.Common.{◌≡◌, ◌≢◌, ℕ, eqb, true, ◌&&◌, Some, None, inl, inr, sym, ap}
use Rattle.std.proofs.lemmas.Grind.{common_steps}
use Rattle.std.proofs.Common.{◌∙◌, arith}
use Rattle.std.proofs.lemmas.Bool.{eqb-true, eqb-false, eq-eqb, ne_eqb}
use Rattle.std.proofs.lemmas.Bool.{ltb-true, lt-ltb, and_parts, and_from, not-true, not_from_false}
use Rattle.std.proofs.lemmas.Option.{none-some}
use Rattle.pm_base.specs.Sides.{Net, side_count, face_of, next, prev, to, third, Stands, stands}
use Rattle.pm_base.specs.Sides.{NoSideTwice, IsTwin, HasNoTwin, runs_back, twin_of, around}
use Rattle.pm_base.proofs.Search.{Decided, option_cases, find_below-some, find_below-has}
use Rattle.pm_base.proofs.Sides.{next-next-next, stands_next, face_cases}

pub stands-true : (m : Net) (e : ℕ) → stands m e ≡ true → Stands m e
unfolding stands
stands-true m e t = grind (arith, common_steps, and_parts, eqb-false, ltb-true, not-true)

pub stands_is_true : (m : Net) (e : ℕ) → Stands m e → stands m e ≡ true
unfolding stands
stands_is_true m e t = grind (arith, common_steps, and_from, lt-ltb, ne_eqb, not_from_false)

pub stands? : (m : Net) (e : ℕ) → Decided (Stands m e)
stands? m e = grind (arith, common_steps)

-- A twin that is found is one.
pub twin-is : (m : Net) (e g : ℕ) → twin_of m e ≡ Some g → IsTwin m e g
unfolding twin_of
twin-is m e g t = grind (arith, common_steps, and_parts, eqb-true, find_below-some, stands-true)

-- Where there is a twin, one is found.
pub twin-has : (m : Net) (e g : ℕ) → IsTwin m e g → (k : ℕ) × (twin_of m e ≡ Some k)
unfolding twin_of
twin-has m e g w =
    find_below-has (runs_back m e) (side_count m) g w.stands.is_side
    (and_from (stands m g) (eqb (m.from g) (to m e) && eqb (to m g) (m.from e))
    (stands_is_true m g w.stands)
    (and_from (eqb (m.from g) (to m e)) (eqb (to m g) (m.from e))
    (eq-eqb (m.from g) (to m e) w.begins) (eq-eqb (to m g) (m.from e) w.ends)))

pub twin-none : (m : Net) (e : ℕ) → twin_of m e ≡ None → HasNoTwin m e
twin-none m e t g w = let r = twin-has m e g w in none-some r.0 (sym t ∙ r.1)

pub none-twin : (m : Net) (e : ℕ) → HasNoTwin m e → twin_of m e ≡ None
none-twin m e alone =
    elim (option_cases (twin_of m e)) [
      | inl none ↦ none
      | inr (g, is) ↦
          absurd (alone g (twin-is m e g is))
    ]

-- A twin stands back to back with its side.
pub twin-twin : (m : Net) (e g : ℕ) → Stands m e → IsTwin m e g → IsTwin m g e
twin-twin m e g t w = record { stands = t; begins = sym w.ends; ends = sym w.begins }

-- A face has no two sides that are twins: its corners differ.
pub other_face : (m : Net) (e g : ℕ) → Stands m e → IsTwin m e g → face_of g ≢ face_of e
other_face m e g t w same = grind (arith, common_steps, face_cases)

module _ (m : Net) (once : NoSideTwice m) where
  pub twin-one : (e g : ℕ) → IsTwin m e g → twin_of m e ≡ Some g
  twin-one e g w =
      let r = twin-has m e g w in
      let k = twin-is m e r.0 r.1 in
      r.1 ∙ ap Some (once r.0 g k.stands w.stands (k.begins ∙ sym w.begins) (k.ends ∙ sym w.ends))

  -- The twin of the twin is the side itself.
  pub twin_back : (e g : ℕ) → Stands m e → twin_of m e ≡ Some g → twin_of m g ≡ Some e
  twin_back e g t is = twin-one g e (twin-twin m e g t (twin-is m e g is))

  -- The next side round the vertex runs from it to the third corner.
  pub around-is : (e g : ℕ) → around m e ≡ Some g → Stands m g × (m.from g ≡ m.from e)
      × (to m g ≡ third m e)
  unfolding around
  around-is e g r = let w =
      twin-is m (prev e) g r in (w.stands, w.begins ∙ ap m.from (next-next-next e), w.ends)

  pub around-one : (e g : ℕ) → Stands m g → m.from g ≡ m.from e → to m g ≡ third m e
      → around m e ≡ Some g
  unfolding around
  around-one e g t a b = twin-one (prev e) g
      (record { stands = t; begins = a ∙ sym (ap m.from (next-next-next e)); ends = b })

  pub around-none : (e g : ℕ) → around m e ≡ None → Stands m g → m.from g ≡ m.from e
      → to m g ≡ third m e → ⊥
  around-none e g r t a b = none-some g (sym r ∙ around-one e g t a b)

  pub around-injective : (p q o : ℕ) → Stands m p → Stands m q → around m p ≡ Some o
      → around m q ≡ Some o → p ≡ q
  around-injective p q o tp tq a b =
      let (k, fp, sp) = around-is p o a in
      let (l, fq, sq) = around-is q o b in
      let p' = stands_next m (next p) (stands_next m p tp) in
      let q' = stands_next m (next q) (stands_next m q tq) in
      let same = once (prev p) (prev q) p' q' (sym sp ∙ sq) (ap m.from (next-next-next p) ∙ sym fp
      ∙ fq ∙ sym (ap m.from (next-next-next q))) in
      sym (next-next-next p) ∙ ap next same ∙ next-next-next q

  pub around-stands : (p o : ℕ) → Stands m p → around m p ≡ Some o → Stands m o
  around-stands p o t a = let (k, b, c) = around-is p o a in k
