-- Ears that come off one after the other.
use Rattle.std.proofs.Common.{◌≡◌, ℕ, zero, suc, ◌+◌, ◌-◌, ◌<◌, ◌≤◌, Bool, true, Option, Some, None}
use Rattle.std.proofs.lemmas.Grind.{common_steps}
use Rattle.std.proofs.Common.{inl, inr, List, [], ◌∷◌, ◌++◌, length, refl, sym, ap, ◌∙◌}
use Rattle.std.proofs.Common.{arith}
use Rattle.std.specs.Prelude.{map, ◌⊎◌}
use Rattle.std.specs.Option.{option_or, option_map, option_and_then, unwrap_or}
use Rattle.std.proofs.lemmas.Bool.{cond-true, cond-false}
use Rattle.std.proofs.lemmas.List.{append_assoc, append-nil}
use Rattle.std.proofs.lemmas.List.Edits.{length-remove}
use Rattle.std.proofs.lemmas.Option.{none-some}
use Rattle.pm_base.specs.declared.mesh.Corners.{Corners}
use Rattle.pm_ears.specs.declared.spots.Spot.{Spot}
use Rattle.pm_ears.specs.declared.spots.Triangle.{Triangle}
use Rattle.pm_ears.specs.Areas.{triangle_at}
use Rattle.pm_ears.specs.Ears.{is_ear, is_flat, first_from, next_ear, without, ears}
use Rattle.pm_ears.specs.Cutting.{named}

pub some_same : {A : Type 0} (x y : A) → Some x ≡ Some y → x ≡ y
some_same {A} x y e = ap (λ (o : Option A). unwrap_or o x) e

pub none_from : {A : Type 0} (o : Option A) → ((x : A) → o ≡ Some x → ⊥) → o ≡ None
none_from None f = refl
none_from (Some x) f = absurd (f x refl)

-- What is found passes, and is one of those that were looked at.
pub first_found : (test : ℕ → Bool) (i n k : ℕ) → first_from test i n ≡ Some k
    → (test k ≡ true) × (k < i + n)
first_found test i zero k e = absurd (none-some k e)
first_found test i (suc n) k e =
    grind (arith, common_steps, cond-false, cond-true, some_same, first_found test (i + 1) n k)

-- An ear or a flat triangle comes next, of those that are left.
one_of_two : (P Q : ℕ → Type 0) (o p : Option ℕ) (k : ℕ) → ((j : ℕ) → o ≡ Some j → P j)
    → ((j : ℕ) → p ≡ Some j → Q j) → option_or o p ≡ Some k → P k ⊎ Q k
one_of_two P Q None p k f g e = inr (g k e)
one_of_two P Q (Some j) p k f g e = inl (f k e)

pub next_found : (left : List Spot) (k : ℕ) → next_ear left ≡ Some k
    → ((is_ear left k ≡ true) ⊎ (is_flat left k ≡ true)) × (k + 2 < length left)
unfolding next_ear
next_found left k e =
    let m = length left - 2 in
    elim (one_of_two (λ j. (is_ear left j ≡ true) × (j < 0 + m))
    (λ j. (is_flat left j ≡ true) × (j < 0 + m)) (first_from (is_ear left) 0 m)
    (first_from (is_flat left) 0 m) k
    (first_found (is_ear left) 0 m) (first_found (is_flat left) 0 m) e) [
      | inl h ↦ (let l = h.1 in (inl h.0, omega (arith, l)))
      | inr h ↦ (let l = h.1 in (inr h.0, omega (arith, l)))
    ]

-- One more comes off,
mapped_on : (done : List Corners) (t : Triangle) (o : Option (List Triangle))
    → option_map (λ (ts : List Triangle). done ++ map named ts)
    (option_map (λ (ts : List Triangle). t ∷ ts) o)
    ≡ option_map (λ (ts : List Triangle). (done ++ named t ∷ []) ++ map named ts) o
mapped_on done t None = refl
mapped_on done t (Some ts) = ap Some (sym (append_assoc done (named t ∷ []) (map named ts)))

-- After the triangles of `done` those come that come off these corners.
abbrev pub after : List Corners → List Spot → Option (List Corners)
after done left =
    option_map (λ (ts : List Triangle). done ++ map named ts) (ears (length left - 2) left)

then_ears : List Spot → ℕ → ℕ → Option (List Triangle)
then_ears left n i =
    option_map (λ (ts : List Triangle). triangle_at left i ∷ ts) (ears n (without left i))

pub ears_next : (done more : List Corners) (left rest : List Spot) (at : ℕ)
    (all : Option (List Corners))
    → next_ear left ≡ Some at → rest ≡ without left at
    → more ≡ done ++ named (triangle_at left at) ∷ []
    → after done left ≡ all → after more rest ≡ all
unfolding then_ears
ears_next done more left rest at all found off put so_far =
    let l = (next_found left at found).1 in
    let fewer = length-remove left (at + 1) (omega (arith, l)) in
    let one : length left - 2 ≡ suc (length (without left at) - 2) = omega (arith, l, fewer) in
    let step : after done left
    ≡ after (done ++ named (triangle_at left at) ∷ []) (without left at) =
    ap (λ n. option_map (λ (ts : List Triangle). done ++ map named ts) (ears n left)) one
    ∙ ap (λ (o : Option ℕ). option_map (λ (ts : List Triangle). done ++ map named ts)
    (option_and_then (then_ears left (length (without left at) - 2)) o)) found
    ∙ mapped_on done (triangle_at left at) (ears (length (without left at) - 2) (without left at))
    in
    ap (λ (cs : List Corners). after cs rest) put
    ∙ ap (λ (ss : List Spot). after (done ++ named (triangle_at left at) ∷ []) ss) off
    ∙ sym step
    ∙ so_far

-- or none is there,
pub ears_stop : (done : List Corners) (left : List Spot) (all : Option (List Corners))
    → 2 < length left → next_ear left ≡ None → after done left ≡ all → None ≡ all
unfolding then_ears
ears_stop done left all l none so_far = grind (arith, common_steps, then_ears)

-- or all are off.
pub ears_end : (done : List Corners) (left : List Spot) (all : Option (List Corners))
    → length left ≤ 2 → after done left ≡ all → Some done ≡ all
ears_end done left all l so_far = grind (arith, common_steps, append-nil)
