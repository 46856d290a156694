-- Triangles put in place of as many others.
use Rattle.std.proofs.Common.{◌≡◌, ℕ, zero, suc, ◌+◌, ◌-◌, ◌<◌, ◌≤◌, List, [], ◌∷◌, ◌++◌, length}
use Rattle.std.proofs.lemmas.Grind.{common_steps}
use Rattle.std.proofs.Common.{take, drop, get_or, set, refl, sym, ap, ◌∙◌, arith, length-append}
use Rattle.std.proofs.lemmas.List.{length-take, length-take-le, length-drop, drop-drop}
use Rattle.std.proofs.lemmas.List.{set-append_right, take-append-drop}
use Rattle.pm_base.specs.declared.mesh.Corners.{Corners}
use Rattle.pm_ears.specs.Recutting.{put_at}

pub put_long : (first : ℕ) (ts faces : List Corners) → first + length ts ≤ length faces
    → length (put_at first ts faces) ≡ length faces
put_long first ts faces l = grind (arith, common_steps, length-append, length-drop, length-take)

-- Triangles put in place of others one after the other.
pub put_none : (first : ℕ) (faces : List Corners) → put_at first [] faces ≡ faces
put_none first faces =
    let z : first + 0 ≡ first = omega arith in
    ap (λ k. take first faces ++ drop k faces) z ∙ take-append-drop first faces

put_here : (i : ℕ) (ts faces : List Corners) (d : Corners) → i < length ts
    → length ts ≤ length faces
    → set (take i ts ++ drop (length (take i ts)) faces) i (get_or ts i d)
    ≡ take (suc i) ts ++ drop (length (take (suc i) ts)) faces
put_here i [] faces d l fits = absurd (omega (arith, l))
put_here i (t ∷ ts) [] d l fits = absurd (omega (arith, fits))
put_here zero (t ∷ ts) (f ∷ faces) d l fits = refl
put_here (suc i) (t ∷ ts) (f ∷ faces) d l fits =
    ap (λ (rest : List Corners). t ∷ rest)
    (put_here i ts faces d (omega (arith, l)) (omega (arith, fits)))

pub put_next : (first i : ℕ) (ts faces : List Corners) (d : Corners) → i < length ts
    → first + length ts ≤ length faces
    → set (put_at first (take i ts) faces) (first + i) (get_or ts i d)
    ≡ put_at first (take (i + 1) ts) faces
put_next first i ts faces d l fits =
    let before = take first faces in
    let more : List Corners = drop first faces in
    let long : length before ≡ first = length-take-le first faces (omega (arith, fits)) in
    let rest : length ts ≤ length more = omega (arith, fits, length-drop first faces) in
    let at : (first + i) - first ≡ i = omega arith in
    let next : suc i ≡ i + 1 = omega arith in
    let split : (k : ℕ) → drop (first + k) faces ≡ drop k more =
    λ k. sym (drop-drop k first faces) in
    let ends : (us : List Corners)
    → put_at first us faces ≡ before ++ (us ++ drop (length us) more) =
    λ us. ap (λ (l : List Corners). before ++ (us ++ l)) (split (length us)) in
    ap (λ (l : List Corners). set l (first + i) (get_or ts i d)) (ends (take i ts))
    ∙ set-append_right before (take i ts ++ drop (length (take i ts)) more) first (first + i)
    (get_or ts i d) long (omega arith)
    ∙ ap (λ k. before ++ set (take i ts ++ drop (length (take i ts)) more) k (get_or ts i d)) at
    ∙ ap (λ (l : List Corners). before ++ l) (put_here i ts more d l rest)
    ∙ ap (λ k. before ++ (take k ts ++ drop (length (take k ts)) more)) next
    ∙ sym (ends (take (i + 1) ts))
