-- All faces of a fit list stay, and so do those of an oriented manifold.
use Rattle.std.proofs.Common.{◌≡◌, ◌≢◌, ℕ, suc, ◌+◌, ◌*◌, ◌/◌, ◌<◌, inl, inr, refl, sym, ap, ◌∙◌}
use Rattle.std.proofs.lemmas.Grind.{common_steps}
use Rattle.std.proofs.Common.{subst, List, [], ◌∷◌, ◌++◌, length, Bool, true, false, not, ◌&&◌}
use Rattle.std.proofs.Common.{◌||◌, arith}
use Rattle.std.specs.Prelude.{◌==◌}
use Rattle.std.specs.List.{list_any}
use Rattle.std.proofs.lemmas.Bool.{or_cases, eqb-true, ne_eqb, not_from_false, or_from, cases_Bool}
use Rattle.std.proofs.lemmas.Bool.{cond-true, and_parts, and_from}
use Rattle.std.proofs.lemmas.List.{get_or_append_left, length-append, append_assoc, append-nil}
use Rattle.std.proofs.Math.Seq.{get_or-append_seam}
use Rattle.pm_base.specs.declared.mesh.Corners.{Corners}
use Rattle.pm_base.specs.Sides.{Net, next, prev, third, net_of, no_corners}
use Rattle.pm_base.specs.Fans.{IsPairAt, IsOrientedManifold}
use Rattle.pm_base.proofs.Sides.{next_cases}
use Rattle.pm_base.proofs.NetLaws.{face_at, from-corner, first_side, second_side, third_side}
use Rattle.pm_base.proofs.FanLaws.{fan_no_mirror}
use Rattle.pm_fans.specs.Splits.{AllStand}
use Rattle.pm_fans.specs.Kept.{is_flat, is_corner, is_alike, is_kept_after, kept_after, kept_of}
use Rattle.pm_fans.specs.Kept.{IsFitList}
use Rattle.pm_fans.proofs.Turned.{side_turned, which}

none_any : (p : Corners → Bool) (xs : List Corners)
    → ((i : ℕ) → i < length xs → p (face_at xs i) ≡ false) → list_any p xs ≡ false
none_any p [] h = refl
none_any p (x ∷ xs) h =
    or_from (p x) (list_any p xs) (h 0 (omega arith))
    (none_any p xs (λ i l. h (suc i) (omega arith)))

fits : (before : List Corners) (f : Corners) (fs : List Corners) → IsFitList (before ++ f ∷ fs)
    → is_kept_after before f ≡ true
unfolding is_kept_after
fits before f fs h =
    let n : ℕ = length before in
    let long : n < length (before ++ f ∷ fs) = omega (arith, length-append before (f ∷ fs)) in
    let seam = get_or-append_seam before f fs no_corners in
    let none = none_any (is_alike f) before
    (λ i l. subst (λ g. is_alike f g ≡ false)
    (get_or_append_left before (f ∷ fs) no_corners i l)
    (subst (λ g. is_alike g (face_at (before ++ f ∷ fs) i) ≡ false) seam (h.apart i n l long)))
    in
    and_from (not (is_flat f)) (not (list_any (is_alike f) before))
    (not_from_false _ (subst (λ g. is_flat g ≡ false) seam (h.flat n long)))
    (not_from_false _ none)

all_stay : (before fs : List Corners) → IsFitList (before ++ fs) → kept_after before fs ≡ before
    ++ fs
all_stay before [] h = sym (append-nil before)
all_stay before (f ∷ fs) h =
    grind (arith, common_steps, append_assoc, cond-true, fits, all_stay (before ++ f ∷ []) fs)

pub fit_lists_stay : (fs : List Corners) → IsFitList fs → kept_of fs ≡ fs
unfolding kept_of
fit_lists_stay fs h = all_stay [] fs h

-- A corner of a face is where one of its sides begins.
record Begins (fs : List Corners) (j x : ℕ) : Type 0 where
  side : ℕ
  of : side / 3 ≡ j
  from : (net_of fs).from side ≡ x

has_side : (fs : List Corners) (j x : ℕ) → is_corner (face_at fs j) x ≡ true → Begins fs j x
has_side fs j x e =
    let k : Corners = face_at fs j in
    elim (or_cases (k.a == x || k.b == x) (k.c == x) e) [
      | inl p ↦
          elim (or_cases (k.a == x) (k.b == x) p) [
            | inl q ↦ record {
              side = 3 * j;
              of = omega arith;
              from = (first_side fs j).0 ∙ eqb-true _ _ q;
            }
            | inr q ↦ record {
              side = 3 * j + 1;
              of = omega arith;
              from = (second_side fs j).0 ∙ eqb-true _ _ q;
            }
          ]
      | inr q ↦ record {
        side = 3 * j + 2;
        of = omega arith;
        from = (third_side fs j).0 ∙ eqb-true _ _ q;
      }
    ]

third_is : (fs : List Corners) (i : ℕ) → third (net_of fs) (3 * i) ≡ (face_at fs i).c
third_is fs i =
    let a = next_cases (3 * i) in
    let b = next_cases (next (3 * i)) in
    from-corner fs (prev (3 * i)) i 2 (omega arith) (omega arith)

third_of : (i : ℕ) → 3 * i / 3 ≡ i
third_of i = omega arith

-- Of two faces that are alike one repeats a side of the other, or they are mirrors.
no_alike : (fs : List Corners) → AllStand (net_of fs) → IsOrientedManifold (net_of fs) → (i j : ℕ)
    → i < length fs → j < length fs → i ≢ j → is_alike (face_at fs j) (face_at fs i) ≡ true → ⊥
unfolding is_alike
no_alike fs stand is i j il jl ij e =
    let m : Net = net_of fs in
    let k : Corners = face_at fs i in
    let g : Corners = face_at fs j in
    let (ab, c) = and_parts (is_corner g k.a && is_corner g k.b) (is_corner g k.c) e in
    let (a, b) = and_parts (is_corner g k.a) (is_corner g k.b) ab in
    let h = has_side fs j k.a a in
    let s : ℕ = 3 * i in
    let ts = stand s (omega arith) in
    let th = stand h.side (omega (arith, h.of)) in
    let (sa, sb) = first_side fs i in
    let sc : third m s ≡ k.c = third_is fs i in
    let turned = side_turned fs h.side j h.of in
    elim (which g k.b _ _ _ turned b) [
      | inl w ↦ ts.first (sa ∙ sym h.from ∙ w ∙ sym sb)
      | inr v ↦
          elim v [
            | inl w ↦ ij (sym (third_of i)
                ∙ ap (λ n. n / 3) (is.no_side_twice s h.side ts th (sa ∙ sym h.from) (sb ∙ sym w))
                ∙ h.of)
            | inr w ↦
                elim (which g k.c _ _ _ turned c) [
                  | inl u ↦ ts.last (sc ∙ sym u ∙ h.from ∙ sym sa)
                  | inr v2 ↦
                      elim v2 [
                        | inr u ↦ ts.second (sb ∙ sym w ∙ u ∙ sym sc)
                        | inl u ↦
                            let p : IsPairAt m k.a k.b k.c = record {
                              side = s;
                              stands = ts;
                              at = sa;
                              one = sb;
                              two = sc;
                            } in
                            let q : IsPairAt m k.a k.c k.b = grind (arith, common_steps) in
                            fan_no_mirror m k.a (is.fans k.a (s, ts, sa)) k.b k.c p q
                      ]
                ]
          ]
    ]

manifold_fit : (fs : List Corners) → AllStand (net_of fs) → IsOrientedManifold (net_of fs)
    → IsFitList fs
manifold_fit fs stand is = record {
  flat = λ i l.
      let k : Corners = face_at fs i in
      let t = stand (3 * i) (omega arith) in
      let (a, b) = first_side fs i in
      let (b2, c) = second_side fs i in
      let (c2, a2) = third_side fs i in
      let t1 = stand (3 * i + 1) (omega arith) in
      let t2 = stand (3 * i + 2) (omega arith) in
      or_from (k.a == k.b || k.b == k.c) (k.c == k.a)
      (or_from (k.a == k.b) (k.b == k.c) (ne_eqb _ _ (λ e. t.first (a ∙ e ∙ sym b)))
      (ne_eqb _ _ (λ e. t1.first (b2 ∙ e ∙ sym c))))
      (ne_eqb _ _ (λ e. t2.first (c2 ∙ e ∙ sym a2)));
  apart = λ i j ij l.
      elim (cases_Bool (is_alike (face_at fs j) (face_at fs i))) [
        | inl t ↦ absurd (no_alike fs stand is i j (omega arith) l (omega arith) t)
        | inr n ↦ n
      ];
}

pub manifolds_stay : (fs : List Corners) → AllStand (net_of fs) → IsOrientedManifold (net_of fs)
    → kept_of fs ≡ fs
manifolds_stay fs stand is = fit_lists_stay fs (manifold_fit fs stand is)
