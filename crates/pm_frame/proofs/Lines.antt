-- The lines of the numbers below n that pass a test, one number on.
use Rattle.std.proofs.Common.{◌≡◌, ℕ, ◌+◌, ◌-◌, ◌<◌, ◌≤◌, Bool, true, List, [], ◌∷◌, ◌++◌, Option}
use Rattle.std.proofs.Common.{filter, sym, ap, ◌∙◌, subst, arith}
use Rattle.std.specs.List.{flat_map, range_with_len}
use Rattle.std.proofs.lemmas.Grind.{flat_map-append}
use Rattle.std.proofs.lemmas.List.{append-nil}
use Rattle.std.proofs.lemmas.List.Elements.{filter-append}
use Rattle.pm_io.specs.Bytes.{GainsPart, GainsThrough}
use Rattle.pm_io.proofs.PageLaws.{through_both, through_more, through_part}
use Rattle.pm_base.specs.Counts.{numbers_below}
use Rattle.pm_front.specs.Shown.{NonePasses}
use Rattle.pm_front.proofs.Counting.{numbers_parts, passing_next, passing_gap}

lines_next : (p : ℕ → Bool) (line : ℕ → List ℕ) (n : ℕ) → p n ≡ true →
    flat_map line (filter p (numbers_below (n + 1))) ≡ flat_map line (filter p (numbers_below n))
    ++ line n
lines_next p line n pass =
    ap (flat_map line) (passing_next p n pass)
    ∙ flat_map-append line (filter p (numbers_below n)) (n ∷ [])
    ∙ ap (λ (l : List ℕ). flat_map line (filter p (numbers_below n)) ++ l) (append-nil (line n))

-- The line of a number that passes was put,
pub line_next : (p : ℕ → Bool) (line : ℕ → List ℕ) (n : ℕ) (piece : List ℕ)
    (old mid new : Option (List ℕ)) (first held holds : List ℕ) → p n ≡ true → piece ≡ line n →
    GainsThrough old mid first held (flat_map line (filter p (numbers_below n)))
    → GainsThrough mid new held holds piece →
    GainsThrough old new first holds (flat_map line (filter p (numbers_below (n + 1))))
line_next p line n piece old mid new first held holds pass is so_far next =
    subst (λ (l : List ℕ). GainsThrough old new first holds l) (sym (lines_next p line n pass))
    (through_both old mid new first held holds _ _ so_far
    (subst (λ (l : List ℕ). GainsThrough mid new held holds l) is next))

-- or in part;
pub line_cut : (p : ℕ → Bool) (line : ℕ → List ℕ) (n m : ℕ) (piece : List ℕ)
    (old mid new : Option (List ℕ)) (first held : List ℕ) → n < m → p n ≡ true → piece ≡ line n →
    GainsThrough old mid first held (flat_map line (filter p (numbers_below n)))
    → GainsPart mid new (held ++ piece) →
    GainsPart old new (first ++ flat_map line (filter p (numbers_below m)))
line_cut p line n m piece old mid new first held l pass is so_far part =
    let later = flat_map line (filter p (range_with_len (n + 1) (m - (n + 1)))) in
    let whole : flat_map line (filter p (numbers_below m))
    ≡ (flat_map line (filter p (numbers_below n)) ++ line n) ++ later =
    ap (λ (l : List ℕ). flat_map line (filter p l))
    (numbers_parts (n + 1) (m - (n + 1)) m (omega arith))
    ∙ ap (flat_map line)
    (filter-append p (numbers_below (n + 1)) (range_with_len (n + 1) (m - (n + 1))))
    ∙ flat_map-append line (filter p (numbers_below (n + 1)))
    (filter p (range_with_len (n + 1) (m - (n + 1))))
    ∙ ap (λ (l : List ℕ). l ++ later) (lines_next p line n pass) in
    let this = through_part old mid new first held _ (line n) so_far
    (subst (λ (l : List ℕ). GainsPart mid new (held ++ l)) is part) in
    subst (λ (l : List ℕ). GainsPart old new (first ++ l)) (sym whole)
    (through_more old new first _ later this)

-- numbers that don't pass have no line.
pub line_gap : (p : ℕ → Bool) (line : ℕ → List ℕ) (a b : ℕ) (old new : Option (List ℕ))
    (first held : List ℕ) → a ≤ b → NonePasses p a b →
    GainsThrough old new first held (flat_map line (filter p (numbers_below a)))
    → GainsThrough old new first held (flat_map line (filter p (numbers_below b)))
line_gap p line a b old new first held ordered none so_far =
    subst (λ (l : List ℕ). GainsThrough old new first held (flat_map line l))
    (sym (passing_gap p a b ordered none)) so_far
