-- How many bytes the header of a text has, and how they are gathered.
use Rattle.std.proofs.Common.{◌≡◌, ◌⊎◌, ℕ, ◌+◌, ◌-◌, ◌*◌, ◌<◌, ◌≤◌, min, Bool, true, false, cond}
use Rattle.std.proofs.lemmas.Grind.{common_steps}
use Rattle.std.proofs.Common.{eqb, ltb, ◌||◌, List, [], ◌∷◌, ◌++◌, Result, Ok, Err, length, take}
use Rattle.std.proofs.Common.{drop, inl, inr, refl, sym, ◌∙◌, ap, arith, length-append}
use Rattle.std.proofs.Common.{append_assoc}
use Rattle.std.proofs.Math.Seq.{take-add}
use Rattle.std.proofs.lemmas.Bool.{cases_lt, eqb-true}
use Rattle.std.proofs.lemmas.List.{length-take-le, length-drop, take-append-drop}
use Rattle.pm_forest.specs.declared.parts.Counts.{Counts}
use Rattle.pm_format.specs.declared.stop.Stop.{Stop}
use Rattle.pm_format.specs.declared.stop.Stop.TheVariants as stops
use Rattle.pm_format.specs.declared.stage.Stage.TheVariants as stages
use Rattle.pm_format.specs.Words.{words_of}
use Rattle.pm_format.specs.Reading.{then_read, whole, counts_at, told_digits, digits_at, header_at}
use Rattle.pm_format.specs.Standing.{tells_digits, header_bytes, MayWant}
use Rattle.pm_format.proofs.WordLaws.{length-words_of}
use Rattle.pm_format.proofs.ReadingLaws.{same_Ok, then_read_ok}
use Rattle.pm_format.proofs.UnitLaws.{word_count}

pub size_is : (bytes : List ℕ) → header_bytes bytes ≡ cond (tells_digits (words_of bytes)) 28 24
unfolding header_bytes
size_is bytes = refl

size_within : (bytes : List ℕ) (told : Bool) → header_bytes bytes ≡ cond told 28 24
    → (24 ≤ header_bytes bytes) × (header_bytes bytes ≤ 28)
size_within bytes true is = (omega (arith, is), omega (arith, is))
size_within bytes false is = (omega (arith, is), omega (arith, is))

pub within : (bytes : List ℕ) → (24 ≤ header_bytes bytes) × (header_bytes bytes ≤ 28)
within bytes = size_within bytes (tells_digits (words_of bytes)) (size_is bytes)

-- The version tells it,
size_on : (a b : List ℕ) → 8 ≤ length a → header_bytes (a ++ b) ≡ header_bytes a
unfolding header_bytes
size_on (m ∷ m1 ∷ m2 ∷ m3 ∷ v ∷ v1 ∷ v2 ∷ v3 ∷ a) b le = refl
size_on [] b le = absurd (omega (arith, le))
size_on (m ∷ []) b le = absurd (omega (arith, le))
size_on (m ∷ m1 ∷ []) b le = absurd (omega (arith, le))
size_on (m ∷ m1 ∷ m2 ∷ []) b le = absurd (omega (arith, le))
size_on (m ∷ m1 ∷ m2 ∷ m3 ∷ []) b le = absurd (omega (arith, le))
size_on (m ∷ m1 ∷ m2 ∷ m3 ∷ v ∷ []) b le = absurd (omega (arith, le))
size_on (m ∷ m1 ∷ m2 ∷ m3 ∷ v ∷ v1 ∷ []) b le = absurd (omega (arith, le))
size_on (m ∷ m1 ∷ m2 ∷ m3 ∷ v ∷ v1 ∷ v2 ∷ []) b le = absurd (omega (arith, le))

-- A header that was read has as many bytes.
told_size : (ws : List ℕ) (d : ℕ × List ℕ) → told_digits ws ≡ Ok d → length ws ≡ 1 + length d.1
told_size [] d is = absurd cc
told_size (n ∷ ws) d is = omega (arith, go (eqb n 0 || ltb 4 n) is)
  where
    go : (bad : Bool) → cond {A = Result (ℕ × List ℕ) Stop} bad (Err (stops.Digits n)) (Ok (n, ws))
        ≡ Ok d → length ws ≡ length d.1
    go true e = absurd cc
    go false e = ap (λ (w : ℕ × List ℕ). length w.1) (same_Ok (n, ws) d e)

digits_size : (ws : List ℕ) (d : ℕ × List ℕ) → digits_at ws ≡ Ok d
    → cond (tells_digits ws) 28 24 + 4 * length d.1 ≡ 16 + 4 * length ws
unfolding digits_at
digits_size [] d is = absurd cc
digits_size (m ∷ []) d is = absurd cc
digits_size (m ∷ v ∷ ws) d is = let n : length (m ∷ v ∷ ws) ≡ 2 + length ws =
    omega arith in rw n (go (eqb v 1) (eqb v 2) refl refl is)
  where
    go : (first second : Bool) → eqb v 1 ≡ first → eqb v 2 ≡ second
        → cond {A = Result (ℕ × List ℕ) Stop} first (Ok (0, ws))
        (cond second (told_digits ws) (Err (stops.Version v))) ≡ Ok d
        → cond second 28 24 + 4 * length d.1 ≡ 16 + 4 * (2 + length ws)
    go true false one two e =
        omega (arith, ap (λ (w : ℕ × List ℕ). length w.1) (same_Ok (0, ws) d e))
    go true true one two e = absurd (cc (ap (λ (n : ℕ). eqb n 2) (eqb-true v 1 one), two))
    go false true one two e = omega (arith, told_size ws d e)
    go false false one two e = absurd cc

counts_size : (ws : List ℕ) (u : Counts × List ℕ) → whole (counts_at ws) ≡ Ok u
    → length ws ≡ 4 + length u.1
counts_size (l ∷ r ∷ b ∷ n ∷ ws) u is = grind (arith, common_steps, same_Ok)
counts_size [] u is = absurd cc
counts_size (l ∷ []) u is = absurd cc
counts_size (l ∷ r ∷ []) u is = absurd cc
counts_size (l ∷ r ∷ b ∷ []) u is = absurd cc

pub header_size : (ws : List ℕ) (u : Counts × List ℕ) → header_at ws ≡ Ok u
    → cond (tells_digits ws) 28 24 + 4 * length u.1 ≡ 4 * length ws
unfolding header_at
header_size ws u is =
    then_read_ok (λ (d : ℕ × List ℕ). whole (counts_at d.1)) (digits_at ws) u is (λ d was next.
    omega (arith, digits_size ws d was, counts_size d.1 u next))

-- Where its counts are there, it has all its bytes.
pub header_long : (bytes ws rest : List ℕ) (c : Counts) → ws ≡ words_of bytes
    → header_at ws ≡ Ok (c, rest) → header_bytes bytes ≤ length bytes
header_long bytes ws rest c same is =
    omega (
      arith,
      header_size (words_of bytes) (c, rest) (ap header_at (sym same) ∙ is),
      size_is bytes,
      length-words_of bytes,
    )

-- The bytes held and those of the piece reach its end.
pub header_reached : (held piece kept : List ℕ) (n : ℕ) → kept ≡ held ++ take n piece
    → header_bytes kept ≤ length kept → MayWant stages.Header held piece
header_reached held piece kept n is long =
    grind (
      arith,
      common_steps,
      append_assoc held (take n piece) (drop n piece),
      length-append kept (drop n piece),
      size_on kept (drop n piece),
      take-append-drop n piece,
      within kept,
    )

-- Words that end in it are fewer.
counts_end : (ws : List ℕ) → whole (counts_at ws) ≡ Err stops.End → length ws < 4
counts_end (l ∷ r ∷ b ∷ n ∷ ws) is = absurd cc
counts_end [] is = omega arith
counts_end (l ∷ []) is = omega arith
counts_end (l ∷ r ∷ []) is = omega arith
counts_end (l ∷ r ∷ b ∷ []) is = omega arith

header_ends : (ws : List ℕ) → header_at ws ≡ Err stops.End
    → 4 * length ws < cond (tells_digits ws) 28 24
unfolding digits_at header_at
header_ends [] is = omega arith
header_ends (m ∷ []) is = omega arith
header_ends (m ∷ v ∷ ws) is = let n : length (m ∷ v ∷ ws) ≡ 2 + length ws =
    omega arith in rw n (go (eqb v 1) (eqb v 2) refl refl ws is)
  where
    told : (bad : Bool) (n : ℕ) (ws : List ℕ)
        → then_read (λ (d : ℕ × List ℕ). whole (counts_at d.1))
        (cond {A = Result (ℕ × List ℕ) Stop} bad (Err (stops.Digits n)) (Ok (n, ws)))
        ≡ Err stops.End → length ws < 4
    told true n ws e = absurd cc
    told false n ws e = counts_end ws e

    go : (first second : Bool) → eqb v 1 ≡ first → eqb v 2 ≡ second → (ws : List ℕ)
        → then_read (λ (d : ℕ × List ℕ). whole (counts_at d.1))
        (cond {A = Result (ℕ × List ℕ) Stop} first (Ok (0, ws))
        (cond second (told_digits ws) (Err (stops.Version v)))) ≡ Err stops.End
        → 4 * (2 + length ws) < cond second 28 24
    go true false one two ws e = omega (arith, counts_end ws e)
    go true true one two ws e = absurd (cc (ap (λ (n : ℕ). eqb n 2) (eqb-true v 1 one), two))
    go false true one two [] e = omega arith
    go false true one two (n ∷ ws) e = omega (arith, told (eqb n 0 || ltb 4 n) n ws e)
    go false false one two ws e = absurd cc

four_words : (bytes : List ℕ) (told : Bool) → length bytes ≡ cond told 28 24
    → 4 * length (words_of bytes) ≡ cond told 28 24
four_words bytes true is = omega (arith, word_count bytes 7 is)
four_words bytes false is = omega (arith, word_count bytes 6 is)

-- a header that is all there doesn't end early
pub not_begun : (bytes : List ℕ) → length bytes ≡ header_bytes bytes
    → header_at (words_of bytes) ≡ Err stops.End → ⊥
not_begun bytes len is =
    let four = four_words bytes (tells_digits (words_of bytes)) (len ∙ size_is bytes) in
    absurd (omega (arith, four, header_ends (words_of bytes) is))

-- What is gathered of it

pub record Gathered (held piece kept : List ℕ) (n : ℕ) : Type 0 where
  pub within : n ≤ length piece
  pub joined : kept ≡ held ++ take n piece
  pub short : length kept ≤ header_bytes kept
  pub all : (n ≡ length piece) ⊎ (length kept ≡ header_bytes kept)

module _ (held piece rest mid kept : List ℕ) (n m size : ℕ)
    (first : n ≡ min (length piece) (8 - length held)) (at_mid : mid ≡ held ++ take n piece)
    (told : size ≡ header_bytes mid) (left : rest ≡ drop n piece)
    (second : m ≡ min (length rest) (size - length mid)) (at_kept : kept ≡ mid ++ take m rest)
    (begun : length held < header_bytes held) where
  mid_length : length mid ≡ length held + n
  mid_length = grind (arith, common_steps, length-append, length-take-le)

  rest_length : length rest ≡ length piece - n
  rest_length = ap (λ (l : List ℕ). length l) left ∙ length-drop n piece

  kept_length : length kept ≡ length mid + m
  kept_length = grind (arith, common_steps, length-append, length-take-le)

  both : kept ≡ held ++ take (n + m) piece
  both = grind (arith, common_steps, append_assoc, take-add)

  -- the version isn't there yet
  before_version : length mid < 8 → Gathered held piece kept (n + m)
  before_version lt =
      grind (arith, common_steps, both, kept_length, mid_length, rest_length, within)

  -- the version is there, and tells the size
  mid_short : length mid ≤ size
  mid_short = grind (arith, common_steps, mid_length, size_on, within)

  after_version : 8 ≤ length mid → Gathered held piece kept (n + m)
  after_version le =
      grind (arith, common_steps, both, kept_length, mid_short, rest_length, size_on, within)

  pub gathered : Gathered held piece kept (n + m)
  gathered = elim (cases_lt (length mid) 8) [ inl l ↦ before_version l | inr r ↦ after_version r ]
