-- Words by several guesses.
use Rattle.std.proofs.Common.{◌≡◌, ◌≢◌, ◌==◌, ℕ, ◌<◌, inl, inr, Bool, true, false, List, [], ◌∷◌}
use Rattle.std.proofs.Common.{length, get_or, drop, refl, sym, ◌∙◌, arith}
use Rattle.std.proofs.lemmas.Bool.{false≢true}
use Rattle.std.proofs.lemmas.Bool.Decides.{eqb_tells}
use Rattle.pm_coder.specs.declared.predictor.Predictor as predictor
use Rattle.pm_coder.specs.Intervals.{Choice, choice}
use Rattle.pm_coder.specs.Coders.{Coding, Writing, Reading, IsWriting, May, made, Can, Part}
use Rattle.pm_coder.specs.Questions.{Question, answer}
use Rattle.pm_coder.specs.Guesses.{told, Tells, Differ}
use Rattle.pm_coder.proofs.CoderLaws.{can-first, can-rest, writer-can, made-writing, one_choice}
use Rattle.pm_coder.proofs.CoderLaws.{made-was_writing, readers-go_one_way}
use Rattle.pm_coder.proofs.UniformLaws.{true≢false}
use Rattle.pm_coder.proofs.GuessLaws.{tells-none, tells-more, told-more}
use Rattle.pm_coder.proofs.DifferLaws.{differ_on, differ_here, guesses-part}
use Rattle.pm_pack.specs.declared.word.Guess.{Guess}
use Rattle.pm_pack.specs.Guesses.{word_answers, asks, guessed_answers}
use Rattle.pm_pack.proofs.GuessedLaws.{bit-untold, words-differ}

-- The answers for a word.
pub answers-last : (g : Guess) (w : ℕ) → guessed_answers g [] w ≡ word_answers g w
unfolding guessed_answers
answers-last g w = refl

first-hit : (g : Guess) (first : ℕ) (rest : List ℕ) (w : ℕ) → first ≡ w
    → guessed_answers g (first ∷ rest) w ≡ answer (asks g (length (first ∷ rest))) true ∷ []
unfolding guessed_answers
first-hit g first rest w e =
    elim (eqb_tells first w) [
      | inl same ↦ rw (same.0) refl
      | inr other ↦ absurd (other.1 e)
    ]

first-miss : (g : Guess) (first : ℕ) (rest : List ℕ) (w : ℕ) → first ≢ w
    → guessed_answers g (first ∷ rest) w
    ≡ answer (asks g (length (first ∷ rest))) false ∷ guessed_answers g rest w
unfolding guessed_answers
first-miss g first rest w other =
    elim (eqb_tells first w) [
      | inl same ↦ absurd (other (same.1))
      | inr e ↦ rw (e.0) refl
    ]

-- What was told of the parts was told of the word.
pub last-tells : {P : Type 0} (k : predictor.Ghosts P) (p new : P) (from to : Coding) (g : Guess)
    (firsts : List ℕ) (w : ℕ) → length firsts < 1 → Tells k p from (word_answers g w) new to
    → Tells k p from (guessed_answers g firsts w) new to
last-tells k p new from to g [] w none t = rw (answers-last g w) t
last-tells k p new from to g (first ∷ rest) w none t = absurd (omega (arith, none))

pub first-tells : {P : Type 0} (k : predictor.Ghosts P) (p new : P) (from to : Coding) (g : Guess)
    (firsts : List ℕ) → 0 < length firsts
    → May from (choice true (k.share p (asks g (length firsts))))
    → k.share p (asks g (length firsts)) < 65536
    → to ≡ made from (choice true (k.share p (asks g (length firsts))))
    → new ≡ k.learned p (asks g (length firsts)) true
    → Tells k p from (guessed_answers g firsts (get_or firsts 0 0)) new to
first-tells k p new from to g [] some may fit e l = absurd (omega (arith, some))
first-tells k p new from to g (first ∷ rest) some may fit e l =
    rw (first-hit g first rest first refl)
    (tells-more k p new new from to to (asks g (length (first ∷ rest))) true [] may fit e l
    (tells-none k new to))

pub rest-tells : {P : Type 0} (k : predictor.Ghosts P) (p mid new : P) (from on to : Coding)
    (g : Guess) (firsts : List ℕ) (w : ℕ) → 0 < length firsts → get_or firsts 0 0 ≢ w
    → May from (choice false (k.share p (asks g (length firsts))))
    → k.share p (asks g (length firsts)) < 65536
    → on ≡ made from (choice false (k.share p (asks g (length firsts))))
    → mid ≡ k.learned p (asks g (length firsts)) false
    → Tells k mid on (guessed_answers g (drop 1 firsts) w) new to
    → Tells k p from (guessed_answers g firsts w) new to
rest-tells k p mid new from on to g [] w some other may fit e l t = absurd (omega (arith, some))
rest-tells k p mid new from on to g (first ∷ rest) w some other may fit e l t =
    rw (first-miss g first rest w other)
    (tells-more k p mid new from on to (asks g (length (first ∷ rest))) false _ may fit e l t)

-- Where the parts can't be told, the word can't.
pub first-untold : {P : Type 0} (k : predictor.Ghosts P) (p : P) (a : Coding) (g : Guess)
    (firsts : List ℕ) → 0 < length firsts
    → ((bit : Bool) → ¬ May a (choice bit (k.share p (asks g (length firsts)))))
    → (w : ℕ) → ¬ Can a (told k p (guessed_answers g firsts w))
first-untold k p a g [] some none w can = absurd (omega (arith, some))
first-untold k p a g (first ∷ rest) some none w can =
    elim (eqb_tells first w) [
      | inl same ↦
          none true (can-first a _ _ (rw (first-hit g first rest w (same.1), told-more) at can))
      | inr other ↦
          none false (can-first a _ _ (rw (first-miss g first rest w (other.1), told-more) at can))
    ]

pub none-untold : {P : Type 0} (k : predictor.Ghosts P) (p : P) (a : Coding) (g : Guess)
    (firsts : List ℕ) → ((q : Question) (bit : Bool) → ¬ May a (choice bit (k.share p q)))
    → (w : ℕ) → ¬ Can a (told k p (guessed_answers g firsts w))
none-untold k p a g [] none w can =
    bit-untold k p a g (λ bit. none _ bit) w (rw (answers-last g w) at can)
none-untold k p a g (first ∷ rest) none w can =
    first-untold k p a g (first ∷ rest) (omega arith) (λ bit. none _ bit) w can

pub last-untold : {P : Type 0} (k : predictor.Ghosts P) (p : P) (a : Coding) (g : Guess)
    (firsts : List ℕ) (w : ℕ) → length firsts < 1 → ¬ Can a (told k p (word_answers g w))
    → ¬ Can a (told k p (guessed_answers g firsts w))
last-untold k p a g [] w few none can = none (rw (answers-last g w) at can)
last-untold k p a g (first ∷ rest) w few none can = absurd (omega (arith, few))

pub rest-untold : {P : Type 0} (k : predictor.Ghosts P) (p mid : P) (a on : Coding) (g : Guess)
    (firsts : List ℕ) → 0 < length firsts
    → May a (choice false (k.share p (asks g (length firsts))))
    → on ≡ made a (choice false (k.share p (asks g (length firsts))))
    → mid ≡ k.learned p (asks g (length firsts)) false
    → ((w : ℕ) → w < 4294967296 → ¬ Can on (told k mid (guessed_answers g (drop 1 firsts) w)))
    → (w : ℕ) → w < 4294967296 → ¬ Can a (told k p (guessed_answers g firsts w))
rest-untold k p mid a on g [] some may e l none w lw can = absurd (omega (arith, some))
rest-untold k p mid a on g (first ∷ rest) some may e l none w lw can =
    elim (eqb_tells first w) [
      | inl same ↦
          elim (one_choice a true false (k.share p (asks g (length (first ∷ rest))))
          (can-first a _ _ (rw (first-hit g first rest w (same.1), told-more) at can)) may) [
            | inl writes ↦
                none 0 (omega arith)
                (writer-can _ on (rw e (made-writing a
                (choice false (k.share p (asks g (length (first ∷ rest))))) writes)))
            | inr equal ↦ absurd (true≢false equal)
          ]
      | inr other ↦
          none w lw
          (rw (e, l) (can-rest a _ _
          (rw (first-miss g first rest w (other.1), told-more) at can)))
    ]

-- The answers for two words differ.
pub guesses-differ : (g : Guess) (firsts : List ℕ) (w v : ℕ) → g.word < 4294967296
    → w < 4294967296 → v < 4294967296 → w ≢ v
    → Differ (guessed_answers g firsts w) (guessed_answers g firsts v)
guesses-differ g [] w v lg lw lv other =
    rw (answers-last g w, answers-last g v) (words-differ g w v lg lw lv other)
guesses-differ g (first ∷ rest) w v lg lw lv other =
    let q = asks g (length (first ∷ rest)) in
    elim (eqb_tells first w) [
      | inl hit ↦
          elim (eqb_tells first v) [
            | inl hit' ↦ absurd (other (sym (hit.1) ∙ hit'.1))
            | inr miss' ↦
                rw (first-hit g first rest w (hit.1), first-miss g first rest v (miss'.1))
                (differ_here q true false _ _ true≢false)
          ]
      | inr miss ↦
          elim (eqb_tells first v) [
            | inl hit' ↦
                rw (first-miss g first rest w (miss.1), first-hit g first rest v (hit'.1))
                (differ_here q false true _ _ false≢true)
            | inr miss' ↦
                rw (first-miss g first rest w (miss.1), first-miss g first rest v (miss'.1))
                (differ_on q false _ _ (guesses-differ g rest w v lg lw lv other))
          ]
    ]

-- Who doesn't write makes one of two lists of choices that part.
one_way : (a : Coding) (xs ys : List Choice) → ¬ IsWriting a → Can a xs → Can a ys → ¬ Part xs ys
one_way (Writing p) xs ys reads cx cy part = reads tt
one_way (Reading p) xs ys reads cx cy part = readers-go_one_way p xs ys cx cy part

-- A guess that wasn't the word, and is told later: no word is told so.
pub again-untold : {P : Type 0} (k : predictor.Ghosts P) (p mid new : P) (a on to : Coding)
    (g : Guess) (firsts : List ℕ) (w : ℕ) → g.word < 4294967296 → w < 4294967296
    → 0 < length firsts → w ≡ get_or firsts 0 0 → ¬ IsWriting a
    → May a (choice false (k.share p (asks g (length firsts))))
    → on ≡ made a (choice false (k.share p (asks g (length firsts))))
    → mid ≡ k.learned p (asks g (length firsts)) false
    → Tells k mid on (guessed_answers g (drop 1 firsts) w) new to
    → (v : ℕ) → v < 4294967296 → ¬ Can a (told k p (guessed_answers g firsts v))
again-untold k p mid new a on to g [] w lg lw some is reads may e l t v lv can =
    absurd (omega (arith, some))
again-untold k p mid new a on to g (first ∷ rest) w lg lw some is reads may e l t v lv can =
    elim (eqb_tells first v) [
      | inl same ↦
          elim (one_choice a true false (k.share p (asks g (length (first ∷ rest))))
          (can-first a _ _ (rw (first-hit g first rest v (same.1), told-more) at can)) may) [
            | inl writes ↦ reads writes
            | inr equal ↦ true≢false equal
          ]
      | inr other ↦
          let can' : Can on (told k mid (guessed_answers g rest v)) =
          rw (e, l) (can-rest a _ _
          (rw (first-miss g first rest v (other.1), told-more) at can)) in
          let reads' : ¬ IsWriting on =
          rw e (λ writes. reads (made-was_writing a
          (choice false (k.share p (asks g (length (first ∷ rest))))) writes)) in
          one_way on _ _ reads' t.choices.can can'
          (guesses-part k mid _ _
          (guesses-differ g rest w v lg lw lv (λ same. other.1 (sym is ∙ same))))
    ]

-- Who writes doesn't tell it later.
pub again-reads : (from on : Coding) (c : Choice) (first wanted w : ℕ) → on ≡ made from c
    → (IsWriting from → false ≡ (wanted == first)) → (IsWriting on → w ≡ wanted) → w ≡ first
    → ¬ IsWriting from
again-reads from on c first wanted w e asked later is writes =
    let same : wanted ≡ first = sym (later (rw e (made-writing from c writes))) ∙ is in
    elim (eqb_tells wanted first) [
      | inl yes' ↦ true≢false (sym (yes'.0) ∙ sym (asked writes))
      | inr other ↦ other.1 same
    ]
