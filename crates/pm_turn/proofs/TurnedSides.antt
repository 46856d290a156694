-- The sides of turned faces, and what is glued.
use Rattle.std.proofs.Common.{◌≡◌, ◌≢◌, ℕ, ◌+◌, ◌-◌, ◌*◌, ◌/◌, ◌%◌, ◌<◌, ◌⊎◌, inl, inr, refl, sym}
use Rattle.std.proofs.Common.{ap, ◌∙◌, subst, List, length, Bool, true, false, not, arith}
use Rattle.std.proofs.lemmas.Grind.{common_steps}
use Rattle.std.proofs.lemmas.Bool.{cases_Bool, cases_eq, cond-true, cond-false, eqb-true, eqb-false}
use Rattle.std.proofs.lemmas.Bool.{ne_eqb, true≢false}
use Rattle.pm_base.specs.declared.mesh.Corners.{Corners}
use Rattle.pm_base.specs.Sides.{Net, face_of, to, net_of, corner_in, Stands}
use Rattle.pm_base.proofs.Sides.{next-lt, face_of-next}
use Rattle.pm_base.proofs.NetLaws.{face_at, first_side, second_side, third_side}
use Rattle.pm_fans.specs.Splits.{AllStand, IsGlued}
use Rattle.pm_fans.specs.Kept.{kept_of}
use Rattle.pm_turn.specs.Turning.{turned_face, turned_if, turned_by, flag_of, moved, JoinsSame}
use Rattle.pm_turn.specs.Turning.{AreMates, clash, flipped_if, AgreeOnceTurned}
use Rattle.pm_fans.proofs.KeptLaws.{kept_are_fit}
use Rattle.pm_turn.proofs.TurnedFaces.{turned_at, turned_length, turned_faces_stay}

-- Two ends are two others, in one order or the other.
abbrev pub SameEnds : ℕ → ℕ → ℕ → ℕ → Type 0
SameEnds p q r s = ((p ≡ r) × (q ≡ s)) ⊎ ((p ≡ s) × (q ≡ r))

pub ends_back : {p q r s : ℕ} → SameEnds p q r s → SameEnds r s p q
ends_back (inl (a, b)) = inl (sym a, sym b)
ends_back (inr (a, b)) = inr (sym b, sym a)

pub ends_on : {p q r s t u : ℕ} → SameEnds p q r s → SameEnds r s t u → SameEnds p q t u
ends_on (inl (a, b)) (inl (c, d)) = inl (a ∙ c, b ∙ d)
ends_on (inl (a, b)) (inr (c, d)) = inr (a ∙ c, b ∙ d)
ends_on (inr (a, b)) (inl (c, d)) = inr (a ∙ d, b ∙ c)
ends_on (inr (a, b)) (inr (c, d)) = inl (a ∙ d, b ∙ c)

module _ (flags : List Bool) (fs : List Corners) where
  abbrev pub m : Net
  m = net_of fs

  abbrev pub n : Net
  n = net_of (turned_by flags fs)

  moved_on : (e : ℕ) → flag_of flags (face_of e) ≡ true
      → moved flags e ≡ 3 * face_of e + (2 - e % 3)
  moved_on e is = cond-true _ _ _ is

  moved_not : (e : ℕ) → flag_of flags (face_of e) ≡ false → moved flags e ≡ e
  moved_not e is = cond-false _ _ _ is

  pub moved_face : (e : ℕ) → face_of (moved flags e) ≡ face_of e
  moved_face e = grind (arith, common_steps, moved_not, moved_on)

  pub moved_back : (e : ℕ) → moved flags (moved flags e) ≡ e
  moved_back e = grind (arith, common_steps, moved_face, moved_not, moved_on)

  pub moved_in : (e : ℕ) → e < 3 * length fs → moved flags e < 3 * length fs
  moved_in e l = let f = moved_face e in omega (arith, f)

  -- What a face becomes.
  face_on : (f : ℕ) → f < length fs → flag_of flags f ≡ true
      → face_at (turned_by flags fs) f ≡ turned_face (face_at fs f)
  face_on f l is = turned_at flags fs f l ∙ ap (λ (b : Bool). turned_if b (face_at fs f)) is

  from_not : (e : ℕ) → e < 3 * length fs → flag_of flags (face_of e) ≡ false → n.from e ≡ m.from e
  from_not e l is =
      ap (λ (k : Corners). corner_in k (e % 3)) (turned_at flags fs (e / 3) (omega arith)
      ∙ ap (λ (b : Bool). turned_if b (face_at fs (e / 3))) is)

  pub record Runs (e : ℕ) : Type 0 where
    pub unset : flag_of flags (face_of e) ≡ false
    pub from_is : n.from (moved flags e) ≡ m.from e
    pub to_is : to n (moved flags e) ≡ to m e

  pub record RunsBack (e : ℕ) : Type 0 where
    pub set : flag_of flags (face_of e) ≡ true
    pub from_is : n.from (moved flags e) ≡ to m e
    pub to_is : to n (moved flags e) ≡ m.from e

  runs : (e : ℕ) → e < 3 * length fs → flag_of flags (face_of e) ≡ false → Runs e
  runs e l is = grind (arith, common_steps, face_of-next, from_not, moved_not, next-lt)

  runs_back : (e f : ℕ) → face_of e ≡ f → f < length fs → flag_of flags f ≡ true
      → (n.from (3 * f + (2 - e % 3)) ≡ to m e) × (to n (3 * f + (2 - e % 3)) ≡ m.from e)
  runs_back e f at l is =
      let k = face_on f l is in
      let (a, b) = first_side fs f in
      let (b2, c) = second_side fs f in
      let (c2, a2) = third_side fs f in
      let (ta, tb) = first_side (turned_by flags fs) f in
      let (tb2, tc) = second_side (turned_by flags fs) f in
      let (tc2, ta2) = third_side (turned_by flags fs) f in
      let ka : (face_at (turned_by flags fs) f).a ≡ (face_at fs f).a =
      ap (λ (g : Corners). g.a) k in
      let kb : (face_at (turned_by flags fs) f).b ≡ (face_at fs f).c =
      ap (λ (g : Corners). g.b) k in
      let kc : (face_at (turned_by flags fs) f).c ≡ (face_at fs f).b =
      ap (λ (g : Corners). g.c) k in
      elim (cases_eq (e % 3) 0) [
        | inl r ↦
            let e' : e ≡ 3 * f = omega (arith, at, r) in
            let g' : 3 * f + (2 - e % 3) ≡ 3 * f + 2 = omega (arith, r) in (
              ap n.from g' ∙ tc2 ∙ kc ∙ sym b ∙ ap (to m) (sym e'),
              ap (to n) g' ∙ ta2 ∙ ka ∙ sym a
                  ∙ ap m.from (sym e'),
            )
        | inr r0 ↦
            elim (cases_eq (e % 3) 1) [
              | inl r ↦ grind (arith, common_steps)
              | inr r1 ↦
                  let r : e % 3 ≡ 2 = omega (arith, r0, r1) in
                  let e' : e ≡ 3 * f + 2 = omega (arith, at, r) in
                  let g' : 3 * f + (2 - e % 3) ≡ 3 * f = omega (arith, r) in (
                    ap n.from g' ∙ ta ∙ ka ∙ sym a2 ∙ ap (to m) (sym e'),
                    ap (to n) g' ∙ tb ∙ kb
                        ∙ sym c2 ∙ ap m.from (sym e'),
                  )
            ]
      ]

  runs_on : (e : ℕ) → e < 3 * length fs → flag_of flags (face_of e) ≡ true → RunsBack e
  runs_on e l is = grind (arith, common_steps, moved_on e is, runs_back e (face_of e) refl)

  pub runs_cases : (e : ℕ) → e < 3 * length fs → Runs e ⊎ RunsBack e
  runs_cases e l =
      let either = cases_Bool (flag_of flags (face_of e)) in
      elim either [ inr is ↦ inl (runs e l is) | inl is ↦ inr (runs_on e l is) ]

  pub ends_moved : (e : ℕ) → e < 3 * length fs
      → SameEnds (n.from (moved flags e)) (to n (moved flags e)) (m.from e) (to m e)
  ends_moved e l =
      elim (runs_cases e l) [ inl r ↦ inl (r.from_is, r.to_is) | inr r ↦ inr (r.from_is, r.to_is) ]

  module _ (stand : AllStand m) (stand' : AllStand n) where
    there : (e : ℕ) → Stands m e → Stands n (moved flags e)
    there e t = stand' (moved flags e)
        (subst (λ i. moved flags e < 3 * i) (sym (turned_length flags fs)) (moved_in e t.is_side))

    -- A side of the turned faces that joins the ends of a moved side was a side that joins those of
    -- the side.
    pub same_before : (e g : ℕ) → Stands m e → Stands n g
        → SameEnds (n.from g) (to n g) (n.from (moved flags e)) (to n (moved flags e))
        → JoinsSame m e (moved flags g)
    same_before e g t u s =
        let l : g < 3 * length fs = subst (λ i. g < 3 * i) (turned_length flags fs) u.is_side in
        let was = moved_in g l in
        let k = subst
        (λ i. SameEnds (n.from i) (to n i) (m.from (moved flags g)) (to m (moved flags g)))
        (moved_back g) (ends_moved (moved flags g) was) in
        record {
          stands = stand (moved flags g) was;
          ends =
              ends_on (ends_back k) (ends_on s (ends_moved e t.is_side));
        }

    twins : (e k : ℕ) → AreMates m e k
        → flag_of flags (face_of k) ≡ flipped_if (clash m e k) (flag_of flags (face_of e))
        → (n.from (moved flags k) ≡ to n (moved flags e))
        × (to n (moved flags k) ≡ n.from (moved flags e))
    twins e k a is =
        let side : k < 3 * length fs = a.same.stands.is_side in
        elim (cases_Bool (clash m e k)) [
          | inl c ↦
              let same : m.from e ≡ m.from k = eqb-true _ _ c in
              let not_same : flag_of flags (face_of k) ≡ not (flag_of flags (face_of e)) =
              is ∙ ap (λ (b : Bool). flipped_if b (flag_of flags (face_of e))) c in
              elim a.same.ends [
                | inr (b, d) ↦ absurd (a.stands.first (same ∙ b))
                | inl (b, d) ↦
                    elim (runs_cases e a.stands.is_side) [
                      | inl r ↦
                          let q = runs_on k side (not_same ∙ ap not r.unset) in
                          (q.from_is ∙ d ∙ sym r.to_is, q.to_is ∙ b ∙ sym r.from_is)
                      | inr r ↦
                          let q = runs k side (not_same ∙ ap not r.set) in
                          (q.from_is ∙ b ∙ sym r.to_is, q.to_is ∙ d ∙ sym r.from_is)
                    ]
              ]
          | inr c ↦
              let apart : m.from e ≢ m.from k = eqb-false _ _ c in
              let same : flag_of flags (face_of k) ≡ flag_of flags (face_of e) =
              is ∙ ap (λ (b : Bool). flipped_if b (flag_of flags (face_of e))) c in
              elim a.same.ends [
                | inl (b, d) ↦ absurd (apart (sym b))
                | inr (b, d) ↦
                    elim (runs_cases e a.stands.is_side) [
                      | inl r ↦
                          let q = runs k side (same ∙ r.unset) in
                          (q.from_is ∙ b ∙ sym r.to_is, q.to_is ∙ d ∙ sym r.from_is)
                      | inr r ↦
                          let q = runs_on k side (same ∙ r.set) in
                          (q.from_is ∙ d ∙ sym r.to_is, q.to_is ∙ b ∙ sym r.from_is)
                    ]
              ]
        ]

    pub glued_moved : (e k : ℕ) → AreMates m e k
        → flag_of flags (face_of k) ≡ flipped_if (clash m e k) (flag_of flags (face_of e))
        → IsGlued n (moved flags e) (moved flags k)
    glued_moved e k a is =
        let (b, d) = twins e k a is in
        let te = there e a.stands in
        let tk = there k a.same.stands in
        record {
          stands = te;
          twin = record { stands = tk; begins = b; ends = d };
          one = λ g u i j.
              elim (a.alone (moved flags g) (same_before e g a.stands u (inl (i, j)))) [
                | inl is ↦ sym (moved_back g) ∙ ap (moved flags) is
                | inr is ↦ absurd
                    (te.first (sym i ∙ ap n.from (sym (moved_back g) ∙ ap (moved flags) is) ∙ b))
              ];
          other = λ g w.
              elim (a.alone (moved flags g)
              (same_before e g a.stands w.stands (inr (w.begins, w.ends)))) [
                | inr is ↦ sym (moved_back g) ∙ ap (moved flags) is
                | inl is ↦ absurd
                    (te.first (ap n.from (sym (sym (moved_back g) ∙ ap (moved flags) is))
                    ∙ w.begins))
              ];
        }

pub glued_mates : (m : Net) (e k : ℕ) → IsGlued m e k → AreMates m e k × (clash m e k ≡ false)
glued_mates m e k w =
    let apart : m.from e ≢ m.from k = λ is. w.stands.first (is ∙ w.twin.begins) in (
      record {
        stands = w.stands;
        differ = λ is. apart (ap m.from is);
        same = record { stands = w.twin.stands; ends = inr (w.twin.begins, w.twin.ends) };
        alone = λ g s. elim s.ends [
          | inl (b, d) ↦ inl (w.one g s.stands b d)
          | inr (b, d) ↦ inr (w.other g (record { stands = s.stands; begins = b; ends = d }))
        ];
      },
      ne_eqb _ _ apart,
    )

pub mates_back : (m : Net) (e k : ℕ) → AreMates m e k → AreMates m k e
mates_back m e k a = grind (arith, common_steps, ends_back, ends_on)

module _ (fs : List Corners) (flags : List Bool) (t : AgreeOnceTurned (net_of (kept_of fs)) flags)
  where
    pub stand_turned : AllStand (net_of (turned_by flags (kept_of fs)))
    stand_turned =
        subst (λ (l : List Corners). AllStand (net_of l)) (turned_faces_stay flags fs)
        (kept_are_fit (turned_by flags (kept_of fs))).0

    glue : (e k : ℕ) → AreMates (net_of (kept_of fs)) e k
        → flag_of flags (face_of k)
        ≡ flipped_if (clash (net_of (kept_of fs)) e k) (flag_of flags (face_of e))
        → IsGlued (net_of (turned_by flags (kept_of fs))) (moved flags e) (moved flags k)
    glue e k a is = glued_moved flags (kept_of fs) (kept_are_fit fs).0 stand_turned e k a is

    pub turned_mates_are_glued : (e k : ℕ) → AreMates (net_of (kept_of fs)) e k
        → t.twisted (face_of e) ≡ false
        → IsGlued (net_of (turned_by flags (kept_of fs))) (moved flags e) (moved flags k)
    turned_mates_are_glued e k a un = glue e k a (t.agree e k a un).1

    pub glued_stays_glued : (e k : ℕ) → IsGlued (net_of (kept_of fs)) e k
        → IsGlued (net_of (turned_by flags (kept_of fs))) (moved flags e) (moved flags k)
    glued_stays_glued e k w =
        let m : Net = net_of (kept_of fs) in
        let (a, c) = glued_mates m e k w in
        let same = ap (λ (b : Bool). flipped_if b (flag_of flags (face_of e))) c in
        elim (cases_Bool (t.twisted (face_of e))) [
          | inr un ↦ glue e k a (t.agree e k a un).1
          | inl set ↦
              let (way, zero_e) = t.odd (face_of e) (omega (arith, w.stands.is_side)) set in
              elim (cases_Bool (t.twisted (face_of k))) [
                | inl set' ↦
                    glue e k a ((t.odd (face_of k) (omega (arith, w.twin.stands.is_side)) set').1
                    ∙ sym (same ∙ zero_e))
                | inr un ↦
                    let u = (t.agree k e (mates_back m e k a) un).0 in
                    absurd (true≢false (sym set ∙ u))
              ]
        ]
