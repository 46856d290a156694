-- Laws of the fields of a text.
use Rattle.std.proofs.Common.{◌≡◌, ℕ, zero, suc, ◌+◌, ◌-◌, ◌<◌, ◌≤◌, eqb, true, false, List, []}
use Rattle.std.proofs.lemmas.Grind.{common_steps}
use Rattle.std.proofs.Common.{◌∷◌, length, get_or, take, drop, ◌++◌, append_assoc, append-nil}
use Rattle.std.proofs.Common.{length-take, Option, None, Some, inl, inr, refl, sym, ◌∙◌, ap, arith}
use Rattle.std.specs.Option.{option_map, option_and_then}
use Rattle.std.specs.List.{list_all}
use Rattle.std.proofs.lemmas.Bool.{cases_Bool, and_parts, and_from}
use Rattle.pm_view.specs.Views.{is_plane}
use Rattle.pm_view.specs.declared.plane.Plane.{Plane}
use Rattle.pm_view.specs.Fields.{spaced_fields, fields_after, first_plane, planes_of}
use Rattle.pm_io.specs.Bytes.{onto}

-- A field ends before the first space.
pub fields_cut : (text : List ℕ) (i : ℕ) → i < length text
    → ((k : ℕ) → k < i → eqb (get_or text k 0) 32 ≡ false) → eqb (get_or text i 0) 32 ≡ true
    → spaced_fields text ≡ take i text ∷ fields_after (drop i text)
fields_cut [] i lt word here = absurd (omega arith)
fields_cut (b ∷ text) zero lt word here = rw here refl
fields_cut (b ∷ text) (suc i) lt word here =
    let first : eqb b 32 ≡ false = word 0 (omega arith) in
    rw first (ap (onto b) (fields_cut text i (omega arith) (λ k below. word (suc k) (omega arith))
    here))

-- A text without spaces is one field.
pub fields_uncut : (text : List ℕ) → ((k : ℕ) → k < length text → eqb (get_or text k 0) 32 ≡ false)
    → spaced_fields text ≡ text ∷ []
fields_uncut [] word = refl
fields_uncut (b ∷ text) word =
    let first : eqb b 32 ≡ false = word 0 (omega arith) in
    rw first (ap (onto b) (fields_uncut text (λ k below. word (suc k) (omega arith))))

-- Nothing comes after all of a text.
no_more : (rest : List ℕ) → length rest ≡ 0 → fields_after rest ≡ []
no_more [] e = refl
no_more (b ∷ rest) e = absurd (omega arith)

pub nothing_after : (text : List ℕ)
    → fields_after (take (length text - length text) (drop (length text) text)) ≡ []
nothing_after text =
    no_more (take (length text - length text) (drop (length text) text))
    (omega (arith, length-take (length text - length text) (drop (length text) text)))

-- There is always a first field.
pub some_field : (text : List ℕ) → (f : List ℕ) × (fs : List (List ℕ))
    × (spaced_fields text ≡ f ∷ fs)
some_field [] = ([], [], refl)
some_field (b ∷ text) =
    let (f, fs, is) = some_field text in
    elim (cases_Bool (eqb b 32)) [
      | inl e ↦ ([], spaced_fields text, (rw e refl))
      | inr e ↦ (b ∷ f, fs, (rw (e, is) refl))
    ]

-- Planes

planes_past : (fs : List (List ℕ)) (x : List ℕ) (xs : List (List ℕ)) → fs ≡ x ∷ xs
    → planes_of 0 fs ≡ None
unfolding planes_of
planes_past fs x xs is = rw is refl

planes_step : (n : ℕ) (fs : List (List ℕ)) (x : List ℕ) (xs : List (List ℕ)) → fs ≡ x ∷ xs →
    planes_of (suc n) fs ≡ option_and_then (λ p. option_map (λ gs. p.0 ∷ gs) (planes_of n p.1))
    (first_plane fs)
unfolding planes_of
planes_step n fs x xs is = rw is refl

-- too many planes
pub planes_over : (text : List ℕ) → planes_of 0 (spaced_fields text) ≡ None
planes_over text = let (x, xs, is) = some_field text in planes_past (spaced_fields text) x xs is

-- one plane more, or none where it isn't one
pub planes_more : (n : ℕ) (text : List ℕ) (f : Plane) (rest : List (List ℕ))
    → first_plane (spaced_fields text) ≡ Some (f, rest) →
    planes_of (suc n) (spaced_fields text) ≡ option_map (λ gs. f ∷ gs) (planes_of n rest)
planes_more n text f rest e = let (x, xs, is) =
    some_field text in planes_step n (spaced_fields text) x xs is
    ∙ ap (option_and_then (λ p. option_map (λ gs. p.0 ∷ gs) (planes_of n p.1))) e

pub planes_none : (n : ℕ) (text : List ℕ) → first_plane (spaced_fields text) ≡ None
    → planes_of (suc n) (spaced_fields text) ≡ None
planes_none n text e = let (x, xs, is) =
    some_field text in planes_step n (spaced_fields text) x xs is
    ∙ ap (option_and_then (λ p. option_map (λ gs. p.0 ∷ gs) (planes_of n p.1))) e

pub planes_end : (n : ℕ) → planes_of n [] ≡ Some []
unfolding planes_of
planes_end zero = refl
planes_end (suc n) = refl

mapped : (fs : List Plane) (f : Plane) (o : Option (List Plane))
    → option_map (λ gs. fs ++ gs) (option_map (λ gs. f ∷ gs) o)
    ≡ option_map (λ gs. (fs ++ f ∷ []) ++ gs) o
mapped fs f None = refl
mapped fs f (Some gs) = ap Some (sym (append_assoc fs (f ∷ []) gs))

-- What all fields spell, once k planes were read and these fields are left.
abbrev pub AreRead : List (List ℕ) → List Plane → ℕ → List (List ℕ) → Type 0
AreRead all planes k left =
    planes_of 6 all ≡ option_map (λ gs. planes ++ gs) (planes_of (6 - k) left)

pub read_more : (all : List (List ℕ)) (planes : List Plane) (k : ℕ) (text : List ℕ) (f : Plane)
    (rest : List (List ℕ)) → k < 6 →
    AreRead all planes k (spaced_fields text) → first_plane (spaced_fields text) ≡ Some (f, rest)
    → AreRead all (planes ++ f ∷ []) (k + 1) rest
read_more all planes k text f rest l was e =
    let n : 6 - k ≡ suc (6 - (k + 1)) = omega arith in
    was
    ∙ ap (λ m. option_map (λ gs. planes ++ gs) (planes_of m (spaced_fields text))) n
    ∙ ap (option_map (λ gs. planes ++ gs)) (planes_more (6 - (k + 1)) text f rest e)
    ∙ mapped planes f (planes_of (6 - (k + 1)) rest)

pub read_bad : (all : List (List ℕ)) (planes : List Plane) (k : ℕ) (text : List ℕ) → k < 6
    → AreRead all planes k (spaced_fields text) → first_plane (spaced_fields text) ≡ None
    → planes_of 6 all ≡ None
read_bad all planes k text l was e = grind (arith, common_steps, planes_none (6 - (k + 1)) text e)

pub read_over : (all : List (List ℕ)) (planes : List Plane) (k : ℕ) (text : List ℕ) → 6 ≤ k
    → AreRead all planes k (spaced_fields text) → planes_of 6 all ≡ None
read_over all planes k text l was = grind (arith, common_steps, planes_over)

pub read_all : (all : List (List ℕ)) (planes : List Plane) (k : ℕ) → AreRead all planes k []
    → planes_of 6 all ≡ Some planes
read_all all planes k was =
    was ∙ ap (option_map (λ gs. planes ++ gs)) (planes_end (6 - k)) ∙ ap Some (append-nil planes)

-- one plane more that is in range
pub all_planes : (fs : List Plane) (f : Plane) → list_all is_plane fs ≡ true → is_plane f ≡ true
    → list_all is_plane (fs ++ f ∷ []) ≡ true
all_planes [] f all is = and_from (is_plane f) true is refl
all_planes (g ∷ fs) f all is =
    let p = and_parts (is_plane g) (list_all is_plane fs) all in
    and_from (is_plane g) (list_all is_plane (fs ++ f ∷ [])) p.0 (all_planes fs f p.1 is)
