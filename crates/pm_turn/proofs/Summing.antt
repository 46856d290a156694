-- Sums, counts and flags, face by face.
use Rattle.std.proofs.Common.{◌≡◌, ◌≢◌, ℕ, ◌+◌, ◌*◌, ◌^◌, ◌<◌, ◌≤◌, inl, inr, refl, sym, ap, ◌∙◌}
use Rattle.std.proofs.Common.{subst, Bool, true, false, List, [], ◌∷◌, ◌++◌, Option, length, set}
use Rattle.std.proofs.Common.{replicate, slice_index_or, arith}
use Rattle.std.proofs.lemmas.Grind.{common_steps}
use Rattle.std.specs.Prelude.{ℤ, ◌+ℤ◌, unsigned_abs, if◌then◌else◌}
use Rattle.std.proofs.lemmas.Bool.{cases_eq, cond-true, cond-false, eq-eqb, ne_eqb}
use Rattle.std.proofs.lemmas.List.{get_or_append_left, length-append, length-set, length-replicate}
use Rattle.std.proofs.lemmas.List.{get_or-replicate, get_or_past, get_or-set_same, get_or-set_other}
use Rattle.std.proofs.Math.Seq.{get_or-append_seam}
use borrow.Author.Differences.{ints}
use Rattle.pm_base.specs.Place.{Place}
use Rattle.pm_base.specs.declared.mesh.Corners.{Corners}
use Rattle.pm_base.specs.Counts.{one_if, count}
use Rattle.pm_base.specs.Sides.{Net, net_of}
use Rattle.pm_base.proofs.Counts.{count-zero, count_le, one_if-le}
use Rattle.pm_base.proofs.Counted.{count_next, count_stays}
use Rattle.pm_base.proofs.NetLaws.{face_at, first_side, second_side, third_side}
use Rattle.pm_base.proofs.Squares.{abs_plus}
use Rattle.pm_turn.specs.declared.patches.Root.{Root}
use Rattle.pm_turn.specs.declared.choice.Sums.{Sums}
use Rattle.pm_turn.specs.Turning.{flag_of}
use Rattle.pm_turn.specs.Choice.{weight, area_at, volume_at, total}
use Rattle.pm_turn.specs.Sums.{root_at, parity_at, is_bare, face_area, face_volume, no_sums}
use Rattle.pm_turn.specs.Sums.{with_face, IsSmall, IsSums, AreSums}
use Rattle.pm_turn.proofs.Totals.{total-zero, total-suc, in_patch, out_of_patch}
use Rattle.pm_turn.proofs.Weights.{weight-zero, weight-true, weight-false}

-- Sums over no face.
pub none_summed : (m : Net) (places : List Place) (mates : List (Option ℕ)) (roots : List Root)
    (sums : List Sums) → sums ≡ replicate m.faces no_sums
    → AreSums m places mates roots 0 sums
none_summed m places mates roots sums is = record {
  long = ap length is ∙ length-replicate m.faces no_sums;
  each = λ r l.
      subst (IsSums m places mates roots 0 r)
      (sym (ap (λ (ss : List Sums). slice_index_or ss r no_sums) is
      ∙ get_or-replicate m.faces r no_sums no_sums l)) (record {
        even_area = sym (weight-zero _ _);
        odd_area = sym (weight-zero _ _);
        odd = sym (count-zero _);
        bare = sym (count-zero _);
        volume = sym (total-zero _);
      });
}

pub none_small : (n : ℕ) (sums : List Sums) → sums ≡ replicate n no_sums → (r : ℕ)
    → IsSmall 0 (slice_index_or sums r no_sums)
none_small n sums is r =
    grind (arith, common_steps, get_or-replicate, get_or_past, length-replicate, slice_index_or)

pub small_by : (n k : ℕ) (s : Sums) → n ≤ k → IsSmall n s → IsSmall k s
small_by n k s l h = grind (arith, common_steps)

-- One more face.
count_here : (p : ℕ → Bool) (n : ℕ) (b : Bool) → p n ≡ b → count p (n + 1) ≡ count p n + one_if b
count_here p n true e = count_next p n e
count_here p n false e = omega (arith, count_stays p n e)

-- A count that a loop keeps.
pub none_counted : (p : ℕ → Bool) (k : ℕ) → k ≡ 0 → k ≡ count p 0
none_counted p k is = is ∙ sym (count-zero p)

pub counted_more : (p : ℕ → Bool) (n k next : ℕ) (b : Bool) → k ≡ count p n → p n ≡ b
    → next ≡ k + one_if b → next ≡ count p (n + 1)
counted_more p n k next b so_far is now =
    now ∙ ap (λ i. i + one_if b) so_far ∙ sym (count_here p n b is)

pub counted_low : (p : ℕ → Bool) (n k : ℕ) → k ≡ count p n → k ≤ n
counted_low p n k is = subst (λ i. i ≤ n) (sym is) (count_le p n)

totalled_more : (g : ℕ → ℤ) (n : ℕ) (sum next z : ℤ) → sum ≡ total g n → g n ≡ z
    → next ≡ sum +ℤ z → next ≡ total g (n + 1)
totalled_more g n sum next z so_far is now =
    let a : total g (n + 1) ≡ g n +ℤ total g n = ap (total g) (omega arith) ∙ total-suc g n in
    omega (arith, ints, a, so_far, is, now)

weighed_more : (w : ℕ → ℕ) (p : ℕ → Bool) (n sum next : ℕ) (b : Bool) → sum ≡ weight w p n
    → p n ≡ b → next ≡ sum + (if b then w n else 0) → next ≡ weight w p (n + 1)
weighed_more w p n sum next true so_far is now =
    let a : weight w p (n + 1) ≡ w n + weight w p n =
    ap (weight w p) (omega arith) ∙ weight-true w p n is in
    omega (arith, a, so_far, now)
weighed_more w p n sum next false so_far is now =
    let a : weight w p (n + 1) ≡ weight w p n =
    ap (weight w p) (omega arith) ∙ weight-false w p n is in
    omega (arith, a, so_far, now)

sums_on : (m : Net) (places : List Place) (mates : List (Option ℕ)) (roots : List Root) (n r : ℕ)
    (s : Sums) (parity bare : Bool) (z : ℤ) → root_at roots n ≡ r
    → parity_at roots n ≡ parity → is_bare mates n ≡ bare → volume_at m places (parity_at roots n) n
    ≡ z → IsSums m places mates roots n r s
    → IsSums m places mates roots (n + 1) r (with_face s parity bare (area_at m places n) z)
sums_on m places mates roots n r s parity bare z at par has vol h =
    grind (
      arith,
      common_steps,
      cond-true,
      counted_more,
      eq-eqb,
      in_patch,
      totalled_more,
      weighed_more,
    )

sums_off : (m : Net) (places : List Place) (mates : List (Option ℕ)) (roots : List Root) (n r : ℕ)
    (s : Sums) → root_at roots n ≢ r → IsSums m places mates roots n r s
    → IsSums m places mates roots (n + 1) r s
sums_off m places mates roots n r s ne h =
    grind (
      arith,
      common_steps,
      cond-false,
      counted_more,
      ne_eqb,
      out_of_patch,
      totalled_more,
      weighed_more,
    )

small_with : (n : ℕ) (s : Sums) (parity bare : Bool) (area : ℕ) (z : ℤ) → area < 2 ^ 35
    → unsigned_abs z ≤ 2 ^ 51 → IsSmall n s → IsSmall (n + 1) (with_face s parity bare area z)
small_with n s parity bare area z low few h =
    grind (arith, common_steps, abs_plus, one_if-le)

module _ (xs ys : List Sums) (i : ℕ) (new : Sums) (low : i < length xs) (is : ys ≡ set xs i new)
  where
    sum_same : (r : ℕ) → r ≡ i → slice_index_or ys r no_sums ≡ new
    sum_same r e =
        ap (λ (ss : List Sums). slice_index_or ss r no_sums) is
        ∙ ap (λ j. slice_index_or (set xs i new) j no_sums) e ∙ get_or-set_same xs i new no_sums low

    sum_other : (r : ℕ) → r ≢ i → slice_index_or ys r no_sums ≡ slice_index_or xs r no_sums
    sum_other r ne =
        ap (λ (ss : List Sums). slice_index_or ss r no_sums) is
        ∙ get_or-set_other xs i r new no_sums ne

    pub summed_more : (m : Net) (places : List Place) (mates : List (Option ℕ)) (roots : List Root)
        (n : ℕ) (parity bare : Bool) (z : ℤ) → root_at roots n ≡ i
        → parity_at roots n ≡ parity → is_bare mates n ≡ bare
        → volume_at m places (parity_at roots n) n ≡ z
        → new ≡ with_face (slice_index_or xs i no_sums) parity bare (area_at m places n) z
        → AreSums m places mates roots n xs → AreSums m places mates roots (n + 1) ys
    summed_more m places mates roots n parity bare z at par has vol now h = record {
      long = ap length is ∙ length-set xs i new ∙ h.long;
      each = λ r l.
          elim (cases_eq r i) [
            | inl e ↦
                let more = sums_on m places mates roots n i (slice_index_or xs i no_sums) parity
                bare
                z at par has vol (h.each i (subst (λ j. j < m.faces) e l)) in
                subst (λ j. IsSums m places mates roots (n + 1) j (slice_index_or ys j no_sums))
                (sym e)
                (subst (IsSums m places mates roots (n + 1) i) (sym (sum_same i refl ∙ now)) more)
            | inr ne ↦
                subst (IsSums m places mates roots (n + 1) r) (sym (sum_other r ne))
                (sums_off m places mates roots n r (slice_index_or xs r no_sums)
                (λ e. ne (sym e ∙ at)) (h.each r l))
          ];
    }

    pub small_more : (n : ℕ) (parity bare : Bool) (area : ℕ) (z : ℤ)
        → new ≡ with_face (slice_index_or xs i no_sums) parity bare area z → area < 2 ^ 35
        → unsigned_abs z ≤ 2 ^ 51 → ((r : ℕ) → IsSmall n (slice_index_or xs r no_sums)) → (r : ℕ)
        → IsSmall (n + 1) (slice_index_or ys r no_sums)
    small_more n parity bare area z now low_area few h r =
        elim (cases_eq r i) [
          | inl e ↦
              subst (IsSmall (n + 1)) (sym (sum_same r e ∙ now))
              (small_with n (slice_index_or xs i no_sums) parity bare area z low_area few (h i))
          | inr ne ↦
              subst (IsSmall (n + 1)) (sym (sum_other r ne))
              (small_by n (n + 1) (slice_index_or xs r no_sums) (omega arith) (h r))
        ]

-- The area and the volume at a face by its corners.
pub area_by_corners : (fs : List Corners) (places : List Place) (f : ℕ)
    → area_at (net_of fs) places f ≡ face_area places (face_at fs f)
area_by_corners fs places f =
    grind (arith, common_steps, first_side fs f, second_side fs f, third_side fs f)

volume_at_three : (m : Net) (places : List Place) (b : Bool) (f : ℕ) (k : Corners)
    → m.from (3 * f) ≡ k.a → m.from (3 * f + 1) ≡ k.b → m.from (3 * f + 2) ≡ k.c
    → volume_at m places b f ≡ face_volume places b k
volume_at_three m places true f k a b c = grind (arith, common_steps)
volume_at_three m places false f k a b c = grind (arith, common_steps)

pub volume_by_corners : (fs : List Corners) (places : List Place) (b : Bool) (f : ℕ)
    → volume_at (net_of fs) places b f ≡ face_volume places b (face_at fs f)
volume_by_corners fs places b f =
    volume_at_three (net_of fs) places b f (face_at fs f) (first_side fs f).0 (second_side fs f).0
    (third_side fs f).0

-- Flags one by one.
pub flags_more : (xs ys : List Bool) (n : ℕ) (flag : Bool) (told : ℕ → Bool) → length xs ≡ n
    → ((f : ℕ) → f < n → flag_of xs f ≡ told f) → flag ≡ told n → ys ≡ xs ++ flag ∷ []
    → (length ys ≡ n + 1) × ((f : ℕ) → f < n + 1 → flag_of ys f ≡ told f)
flags_more xs ys n flag told long each now is = (
  grind (arith, length-append xs (flag ∷ [])),
  λ f l.
      grind (
        arith,
        common_steps,
        get_or-append_seam xs flag [] false,
        get_or_append_left xs (flag ∷ []) false f,
        each f,
      ),
)
