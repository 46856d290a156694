-- Laws of planes that numbers tell.
use Rattle.std.proofs.Common.{◌≡◌, ℤ, ◌≤◌, ◌<◌, true, List, [], ◌∷◌, ◌++◌, length}
use Rattle.std.proofs.Common.{Option, Some, None, refl, sym, ◌∙◌, ap, arith, append_assoc}
use Rattle.std.proofs.Common.{append-nil, length-append, ◌-◌, get_or, take, drop, FitsSigned, w64}
use Rattle.std.proofs.Common.{to_z, of_z}
use Rattle.std.proofs.Math.Seq.{take-length}
use Rattle.std.proofs.lemmas.Int.{to_z-of_z}
use Rattle.std.specs.Option.{option_map}
use Rattle.std.specs.List.{list_all}
use Rattle.std.proofs.lemmas.Bool.{and_parts}
use Rattle.std.proofs.lemmas.List.Folds.{list_all-append}
use Rattle.pm_view.specs.declared.plane.Plane.{Plane}
use Rattle.pm_view.specs.Views.{is_plane}
use Rattle.vdpm_c.specs.Looking.{planes_told}

-- What all numbers tell, once these planes were read and these numbers are left.
abbrev pub AreTold : List ℤ → List Plane → List ℤ → Type 0
AreTold all planes rest = planes_told all ≡ option_map (λ ps. planes ++ ps) (planes_told rest)

nothing_before : (o : Option (List Plane)) → option_map (λ ps. [] ++ ps) o ≡ o
nothing_before None = refl
nothing_before (Some ps) = refl

pub told_at_first : (all : List ℤ) → AreTold all [] all
told_at_first all = sym (nothing_before (planes_told all))

one_more : (planes : List Plane) (plane : Plane) (o : Option (List Plane))
    → option_map (λ ps. planes ++ ps) (option_map (λ ps. plane ∷ ps) o)
    ≡ option_map (λ ps. (planes ++ plane ∷ []) ++ ps) o
one_more planes plane None = refl
one_more planes plane (Some ps) = ap Some (sym (append_assoc planes (plane ∷ []) ps))

pub told_more : (all : List ℤ) (planes : List Plane) (rest : List ℤ) (plane : Plane)
    (left : List ℤ) → AreTold all planes rest
    → planes_told rest ≡ option_map (λ ps. plane ∷ ps) (planes_told left)
    → AreTold all (planes ++ plane ∷ []) left
told_more all planes rest plane left was first =
    was ∙ ap (option_map (λ ps. planes ++ ps)) first ∙ one_more planes plane (planes_told left)

-- the planes of no numbers
no_numbers : (rest : List ℤ) → length rest ≡ 0 → planes_told rest ≡ Some []
unfolding planes_told
no_numbers [] none = refl
no_numbers (a ∷ rest) none = absurd (omega arith)

pub told_all : (all : List ℤ) (planes : List Plane) (rest : List ℤ) → AreTold all planes rest
    → length rest ≡ 0 → planes_told all ≡ Some planes
told_all all planes rest was none =
    was ∙ ap (option_map (λ ps. planes ++ ps)) (no_numbers rest none)
    ∙ ap Some (append-nil planes)

-- the planes that the rest tells, where all numbers tell planes
rest_of : (planes qs : List Plane) (o : Option (List Plane))
    → Some qs ≡ option_map (λ ps. planes ++ ps) o
    → (ps : List Plane) × (o ≡ Some ps) × (qs ≡ planes ++ ps)
rest_of planes qs None e = absurd cc
rest_of planes qs (Some ps) e = (ps, refl, cc)

pub told_bad : (all : List ℤ) (planes : List Plane) (rest : List ℤ) → AreTold all planes rest
    → ((ps : List Plane) → planes_told rest ≡ Some ps → list_all is_plane ps ≡ true → ⊥)
    → (qs : List Plane) → planes_told all ≡ Some qs → list_all is_plane qs ≡ true → ⊥
told_bad all planes rest was bad qs e good =
    let (ps, is, are) = rest_of planes qs (planes_told rest) (sym e ∙ was) in
    let both = sym (list_all-append is_plane planes ps) ∙ sym (ap (list_all is_plane) are) ∙ good in
    bad ps is (and_parts _ _ both).1

-- some planes of some numbers
some_planes : (rest : List ℤ) (ps : List Plane) → planes_told rest ≡ Some ps → 1 ≤ length rest
    → 1 ≤ length ps
unfolding planes_told
some_planes [] ps e some = absurd (omega arith)
some_planes (a ∷ []) ps e some = absurd cc
some_planes (a ∷ b ∷ []) ps e some = absurd cc
some_planes (a ∷ b ∷ c ∷ []) ps e some = absurd cc
some_planes (a ∷ b ∷ c ∷ d ∷ rest) ps e some =
    let (qs, _, are) = rest_of (record { a = a; b = b; c = c; d = d } ∷ []) ps (planes_told rest)
    (sym e) in
    omega (arith, ap length are)

pub told_over : (all : List ℤ) (planes : List Plane) (rest : List ℤ) → AreTold all planes rest
    → 6 ≤ length planes → 1 ≤ length rest
    → (qs : List Plane) → planes_told all ≡ Some qs → length qs ≤ 6 → ⊥
told_over all planes rest was full some qs e few =
    let (ps, is, are) = rest_of planes qs (planes_told rest) (sym e ∙ was) in
    let one = some_planes rest ps is some in
    omega (arith, ap length are, length-append planes ps)

-- The first plane, of numbers as a call's clause has them.

-- the rest of numbers
rest_is : (a b c d : ℤ) (rest : List ℤ)
    → take (length (a ∷ b ∷ c ∷ d ∷ rest) - 4) (drop 4 (a ∷ b ∷ c ∷ d ∷ rest)) ≡ rest
rest_is a b c d rest =
    let n : length (a ∷ b ∷ c ∷ d ∷ rest) - 4 ≡ length rest = omega arith in
    rw n (take-length rest)

pub first_told : (numbers : List ℤ) (z : ℤ) (plane : Plane) → 4 ≤ length numbers
    → FitsSigned w64 (get_or numbers 0 z) → FitsSigned w64 (get_or numbers 1 z)
    → FitsSigned w64 (get_or numbers 2 z) → FitsSigned w64 (get_or numbers 3 z)
    → plane ≡ record {
      a = to_z w64 (of_z w64 (get_or numbers 0 z));
      b = to_z w64 (of_z w64 (get_or numbers 1 z));
      c = to_z w64 (of_z w64 (get_or numbers 2 z));
      d = to_z w64 (of_z w64 (get_or numbers 3 z));
    }
    → planes_told numbers ≡ option_map (λ ps. plane ∷ ps)
    (planes_told (take (length numbers - 4) (drop 4 numbers)))
unfolding planes_told
first_told [] z plane four fa fb fc fd is = absurd (omega arith)
first_told (a ∷ []) z plane four fa fb fc fd is = absurd (omega arith)
first_told (a ∷ b ∷ []) z plane four fa fb fc fd is = absurd (omega arith)
first_told (a ∷ b ∷ c ∷ []) z plane four fa fb fc fd is = absurd (omega arith)
first_told (a ∷ b ∷ c ∷ d ∷ rest) z plane four fa fb fc fd is =
    rw (
      is,
      to_z-of_z w64 a fa,
      to_z-of_z w64 b fb,
      to_z-of_z w64 c fc,
      to_z-of_z w64 d fd,
      rest_is a b c d rest,
    ) refl

pub first_bad : (numbers : List ℤ) (z : ℤ) → 4 ≤ length numbers
    → FitsSigned w64 (get_or numbers 0 z) → FitsSigned w64 (get_or numbers 1 z)
    → FitsSigned w64 (get_or numbers 2 z) → FitsSigned w64 (get_or numbers 3 z)
    → (is_plane (record {
      a = to_z w64 (of_z w64 (get_or numbers 0 z));
      b = to_z w64 (of_z w64 (get_or numbers 1 z));
      c = to_z w64 (of_z w64 (get_or numbers 2 z));
      d = to_z w64 (of_z w64 (get_or numbers 3 z));
    }) ≡ true → ⊥)
    → (ps : List Plane) → planes_told numbers ≡ Some ps → list_all is_plane ps ≡ true → ⊥
unfolding planes_told
first_bad [] z four fa fb fc fd bad ps e good = absurd (omega arith)
first_bad (a ∷ []) z four fa fb fc fd bad ps e good = absurd (omega arith)
first_bad (a ∷ b ∷ []) z four fa fb fc fd bad ps e good = absurd (omega arith)
first_bad (a ∷ b ∷ c ∷ []) z four fa fb fc fd bad ps e good = absurd (omega arith)
first_bad (a ∷ b ∷ c ∷ d ∷ rest) z four fa fb fc fd bad ps e good =
    let plane : Plane = record { a = a; b = b; c = c; d = d } in
    let (qs, _, are) = rest_of (plane ∷ []) ps (planes_told rest) (sym e) in
    let here = (and_parts _ _ (sym (ap (list_all is_plane) are) ∙ good)).0 in
    bad (rw (to_z-of_z w64 a fa, to_z-of_z w64 b fb, to_z-of_z w64 c fc, to_z-of_z w64 d fd) here)

pub left_over : (numbers : List ℤ) → 1 ≤ length numbers → length numbers < 4
    → planes_told numbers ≡ None
unfolding planes_told
left_over [] some few = absurd (omega arith)
left_over (a ∷ []) some few = refl
left_over (a ∷ b ∷ []) some few = refl
left_over (a ∷ b ∷ c ∷ []) some few = refl
left_over (a ∷ b ∷ c ∷ d ∷ rest) some few = absurd (omega arith)
