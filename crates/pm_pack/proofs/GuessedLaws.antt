-- Words by guesses.
use Rattle.std.proofs.Common.{◌≡◌, ◌≢◌, ℕ, ◌+◌, ◌-◌, ◌*◌, ◌/◌, ◌%◌, ◌<◌, ◌≤◌, ◌⊎◌, inl, inr}
use Rattle.std.proofs.Common.{Bool, true, false, [], ◌∷◌, refl, sym, ◌∙◌, ap, arith}
use Rattle.std.proofs.lemmas.Bool.{false≢true}
use Rattle.std.proofs.lemmas.Bool.Decides.{eqb_tells}
use Rattle.pm_coder.specs.declared.predictor.Predictor as predictor
use Rattle.pm_coder.specs.Intervals.{choice}
use Rattle.pm_coder.specs.Coders.{Coding, May, made, Can}
use Rattle.pm_coder.specs.Questions.{answer, question}
use Rattle.pm_coder.specs.Guesses.{told, Tells, Differ, number_answers}
use Rattle.pm_coder.proofs.IntervalLaws.{at_least}
use Rattle.pm_coder.proofs.CoderLaws.{can-first, can-rest, writer-can, made-writing, one_choice}
use Rattle.pm_coder.proofs.UniformLaws.{le_yes, le_no, true≢false}
use Rattle.pm_coder.proofs.GuessLaws.{tells-none, tells-more, told-more}
use Rattle.pm_coder.proofs.DifferLaws.{differ_on, differ_here}
use Rattle.pm_coder.proofs.NumberLaws.{numbers-differ}
use Rattle.pm_pack.specs.declared.word.Guess.{Guess}
use Rattle.pm_pack.specs.Guesses.{ahead, moved_ahead, folded, unfolded, miss, missed}
use Rattle.pm_pack.specs.Guesses.{word_answers}
use Rattle.pm_pack.specs.Pasts.{Seen}
use Rattle.pm_pack.specs.Hints.{guess_of}

-- Steps from one word to another.
pub ahead-some : (from to : ℕ) → from < 4294967296 → to < 4294967296 → from ≢ to
    → (0 < ahead from to) × (ahead from to < 4294967296)
ahead-some from to f t other =
    elim (at_least from to) [
      | inl up ↦ rw (le_yes from to up) (omega arith, omega arith)
      | inr down ↦ rw (le_no from to down) (omega arith, omega arith)
    ]

pub moved_ahead-ahead : (from to : ℕ) → from < 4294967296 → to < 4294967296
    → moved_ahead from (ahead from to) ≡ to
moved_ahead-ahead from to f t =
    elim (at_least from to) [
      | inl up ↦
          let fits : to - from ≤ 4294967295 - from = omega arith in
          rw (le_yes from to up, le_yes (to - from) (4294967295 - from) fits) (omega arith)
      | inr down ↦
          let over : 4294967295 - from < 4294967296 - (from - to) = omega arith in
          rw (
            le_no from to down,
            le_no (4294967296 - (from - to)) (4294967295 - from) over,
          )
          (omega arith)
    ]

pub ahead-moved_ahead : (from steps : ℕ) → from < 4294967296 → 0 < steps → steps < 4294967296
    → ahead from (moved_ahead from steps) ≡ steps
ahead-moved_ahead from steps f s t =
    elim (at_least steps (4294967295 - from)) [
      | inl fits ↦
          let up : from ≤ from + steps = omega arith in
          rw (le_yes steps (4294967295 - from) fits, le_yes from (from + steps) up) (omega arith)
      | inr over ↦
          let down : steps - (4294967296 - from) < from = omega arith in
          rw (
            le_no steps (4294967295 - from) over,
            le_no from (steps - (4294967296 - from)) down,
          )
          (omega arith)
    ]

pub moved_ahead-other : (from steps : ℕ) → from < 4294967296 → 0 < steps → steps < 4294967296
    → (from ≢ moved_ahead from steps) × (moved_ahead from steps < 4294967296)
moved_ahead-other from steps f s t =
    elim (at_least steps (4294967295 - from)) [
      | inl fits ↦
          rw (le_yes steps (4294967295 - from) fits) ((λ e. omega arith), omega arith)
      | inr over ↦
          rw (le_no steps (4294967295 - from) over) ((λ e. omega arith), omega arith)
    ]

-- Steps by turns up and down.
pub folded-small : (steps : ℕ) → 0 < steps → steps < 4294967296 → folded steps < 4294967295
folded-small steps s t =
    elim (at_least steps 2147483648) [
      | inl up ↦ rw (le_yes steps 2147483648 up) (omega arith)
      | inr down ↦ rw (le_no steps 2147483648 down) (omega arith)
    ]

unfolded-even : (n : ℕ) → n % 2 ≡ 0 → unfolded n ≡ n / 2 + 1
unfolded-even n e = rw e refl

unfolded-odd : (n : ℕ) → n % 2 ≡ 1 → unfolded n ≡ 4294967295 - n / 2
unfolded-odd n e = rw e refl

pub unfolded-folded : (steps : ℕ) → 0 < steps → steps < 4294967296
    → unfolded (folded steps) ≡ steps
unfolded-folded steps s t =
    elim (at_least steps 2147483648) [
      | inl up ↦
          let even : 2 * (steps - 1) % 2 ≡ 0 = omega arith in
          rw (le_yes steps 2147483648 up)
          (unfolded-even (2 * (steps - 1)) even ∙ omega arith)
      | inr down ↦
          let odd : (2 * (4294967296 - steps) - 1) % 2 ≡ 1 = omega arith in
          rw (le_no steps 2147483648 down)
          (unfolded-odd (2 * (4294967296 - steps) - 1) odd ∙ omega arith)
    ]

even_or_odd : (n : ℕ) → (n % 2 ≡ 0) ⊎ (n % 2 ≡ 1)
even_or_odd n =
    elim (at_least (n % 2) 0) [
      | inl none ↦ inl (omega arith)
      | inr some ↦ inr (omega arith)
    ]

pub unfolded-some : (n : ℕ) → n < 4294967295 → (0 < unfolded n) × (unfolded n < 4294967296)
unfolded-some n l =
    elim (even_or_odd n) [
      | inl even ↦ rw (unfolded-even n even) (omega arith, omega arith)
      | inr odd ↦ rw (unfolded-odd n odd) (omega arith, omega arith)
    ]

pub folded-unfolded : (n : ℕ) → n < 4294967295 → folded (unfolded n) ≡ n
folded-unfolded n l =
    elim (even_or_odd n) [
      | inl even ↦
          let up : n / 2 + 1 ≤ 2147483648 = omega arith in
          rw (unfolded-even n even, le_yes (n / 2 + 1) 2147483648 up) (omega arith)
      | inr odd ↦
          let down : 2147483648 < 4294967295 - n / 2 = omega arith in
          rw (unfolded-odd n odd, le_no (4294967295 - n / 2) 2147483648 down) (omega arith)
    ]

-- Words that aren't the guessed one, and their numbers.
pub miss-small : (g w : ℕ) → g < 4294967296 → w < 4294967296 → g ≢ w → miss g w < 4294967295
miss-small g w lg lw other =
    let a = ahead-some g w lg lw other in folded-small (ahead g w) a.0 a.1

pub missed-miss : (g w : ℕ) → g < 4294967296 → w < 4294967296 → g ≢ w → missed g (miss g w) ≡ w
missed-miss g w lg lw other =
    let a = ahead-some g w lg lw other in
    ap (moved_ahead g) (unfolded-folded (ahead g w) a.0 a.1) ∙ moved_ahead-ahead g w lg lw

pub miss-missed : (g n : ℕ) → g < 4294967296 → n < 4294967295 → miss g (missed g n) ≡ n
miss-missed g n lg ln =
    let u = unfolded-some n ln in
    ap folded (ahead-moved_ahead g (unfolded n) lg u.0 u.1) ∙ folded-unfolded n ln

pub missed-other : (g n : ℕ) → g < 4294967296 → n < 4294967295
    → (g ≢ missed g n) × (missed g n < 4294967296)
missed-other g n lg ln =
    let u = unfolded-some n ln in moved_ahead-other g (unfolded n) lg u.0 u.1

-- The answers for a word.
pub answers-hit : (g : Guess) (w : ℕ) → g.word ≡ w
    → word_answers g w ≡ answer (question g.set (g.kind ∷ g.detail ∷ []) 0) true ∷ []
unfolding word_answers
answers-hit g w e =
    elim (eqb_tells g.word w) [
      | inl same ↦ rw (same.0) refl
      | inr other ↦ absurd (other.1 e)
    ]

pub answers-miss : (g : Guess) (w : ℕ) → g.word ≢ w
    → word_answers g w
    ≡ answer (question g.set (g.kind ∷ g.detail ∷ []) 0) false
    ∷ number_answers (g.set + 1) (g.kind ∷ g.detail ∷ []) (miss g.word w)
unfolding word_answers
answers-miss g w other =
    elim (eqb_tells g.word w) [
      | inl same ↦ absurd (other (same.1))
      | inr e ↦ rw (e.0) refl
    ]

-- What was told of the parts was told of the word.
pub hit-tells : {P : Type 0} (k : predictor.Ghosts P) (p new : P) (from to : Coding) (g : Guess)
    → May from (choice true (k.share p (question g.set (g.kind ∷ g.detail ∷ []) 0)))
    → k.share p (question g.set (g.kind ∷ g.detail ∷ []) 0) < 65536
    → to ≡ made from (choice true (k.share p (question g.set (g.kind ∷ g.detail ∷ []) 0)))
    → new ≡ k.learned p (question g.set (g.kind ∷ g.detail ∷ []) 0) true
    → Tells k p from (word_answers g g.word) new to
hit-tells k p new from to g may fit e l =
    rw (answers-hit g g.word refl)
    (tells-more k p new new from to to
    (question g.set (g.kind ∷ g.detail ∷ []) 0) true [] may fit e l
    (tells-none k new to))

pub miss-tells : {P : Type 0} (k : predictor.Ghosts P) (p mid new : P) (from on to : Coding)
    (g : Guess) (n : ℕ) → g.word < 4294967296 → n < 4294967295
    → May from (choice false (k.share p (question g.set (g.kind ∷ g.detail ∷ []) 0)))
    → k.share p (question g.set (g.kind ∷ g.detail ∷ []) 0) < 65536
    → on ≡ made from (choice false (k.share p (question g.set (g.kind ∷ g.detail ∷ []) 0)))
    → mid ≡ k.learned p (question g.set (g.kind ∷ g.detail ∷ []) 0) false
    → Tells k mid on (number_answers (g.set + 1) (g.kind ∷ g.detail ∷ []) n) new to
    → Tells k p from (word_answers g (missed g.word n)) new to
miss-tells k p mid new from on to g n lg ln may fit e l t =
    let other = missed-other g.word n lg ln in
    rw (answers-miss g (missed g.word n) (other.0), miss-missed g.word n lg ln)
    (tells-more k p mid new from on to
    (question g.set (g.kind ∷ g.detail ∷ []) 0) false _ may fit e l t)

-- Where the parts can't be told, the word can't.
pub bit-untold : {P : Type 0} (k : predictor.Ghosts P) (p : P) (a : Coding) (g : Guess)
    → ((bit : Bool) → ¬ May a (choice bit (k.share p (question g.set (g.kind ∷ g.detail ∷ []) 0))))
    → (w : ℕ) → ¬ Can a (told k p (word_answers g w))
bit-untold k p a g none w can =
    elim (eqb_tells g.word w) [
      | inl same ↦
          none true (can-first a _ _ (rw (answers-hit g w (same.1), told-more) at can))
      | inr other ↦
          none false (can-first a _ _ (rw (answers-miss g w (other.1), told-more) at can))
    ]

pub miss-untold : {P : Type 0} (k : predictor.Ghosts P) (p mid : P) (a on : Coding) (g : Guess)
    → g.word < 4294967296
    → May a (choice false (k.share p (question g.set (g.kind ∷ g.detail ∷ []) 0)))
    → on ≡ made a (choice false (k.share p (question g.set (g.kind ∷ g.detail ∷ []) 0)))
    → mid ≡ k.learned p (question g.set (g.kind ∷ g.detail ∷ []) 0) false
    → ((n : ℕ) → n < 4294967295
    → ¬ Can on (told k mid (number_answers (g.set + 1) (g.kind ∷ g.detail ∷ []) n)))
    → (w : ℕ) → w < 4294967296 → ¬ Can a (told k p (word_answers g w))
miss-untold k p mid a on g lg may e l none w lw can =
    elim (eqb_tells g.word w) [
      | inl same ↦
          elim (one_choice a true false (k.share p (question g.set (g.kind ∷ g.detail ∷ []) 0))
          (can-first a _ _ (rw (answers-hit g w (same.1), told-more) at can)) may) [
            | inl writes ↦
                none 0 (omega arith)
                (writer-can _ on (rw e (made-writing a
                (choice false (k.share p (question g.set (g.kind ∷ g.detail ∷ []) 0))) writes)))
            | inr equal ↦ absurd (true≢false equal)
          ]
      | inr other ↦
          none (miss g.word w) (miss-small g.word w lg lw (other.1))
          (rw (e, l) (can-rest a _ _ (rw (answers-miss g w (other.1), told-more) at can)))
    ]

-- Two words have two numbers.
misses-differ : (g w v : ℕ) → g < 4294967296 → w < 4294967296 → v < 4294967296 → g ≢ w → g ≢ v
    → w ≢ v → miss g w ≢ miss g v
misses-differ g w v lg lw lv ow ov other e =
    other (sym (missed-miss g w lg lw ow) ∙ (ap (missed g) e ∙ missed-miss g v lg lv ov))

-- The answers for two words differ.
pub words-differ : (g : Guess) (w v : ℕ) → g.word < 4294967296 → w < 4294967296
    → v < 4294967296 → w ≢ v → Differ (word_answers g w) (word_answers g v)
words-differ g w v lg lw lv other =
    let q = question g.set (g.kind ∷ g.detail ∷ []) 0 in
    elim (eqb_tells g.word w) [
      | inl hit ↦
          elim (eqb_tells g.word v) [
            | inl hit' ↦ absurd (other (sym (hit.1) ∙ hit'.1))
            | inr miss' ↦
                rw (answers-hit g w (hit.1), answers-miss g v (miss'.1))
                (differ_here q true false _ _ true≢false)
          ]
      | inr miss ↦
          elim (eqb_tells g.word v) [
            | inl hit' ↦
                rw (answers-miss g w (miss.1), answers-hit g v (hit'.1))
                (differ_here q false true _ _ false≢true)
            | inr miss' ↦
                rw (answers-miss g w (miss.1), answers-miss g v (miss'.1))
                (differ_on q false _ _
                (numbers-differ (g.set + 1) (g.kind ∷ g.detail ∷ []) _ _
                (miss-small g.word w lg lw (miss.1)) (miss-small g.word v lg lv (miss'.1))
                (misses-differ g.word w v lg lw lv (miss.1) (miss'.1) other)))
          ]
    ]

-- A guess is a word.
pub guess-small : (seen : Seen) → (guess_of seen).word < 4294967296
unfolding guess_of
guess-small seen = omega arith
