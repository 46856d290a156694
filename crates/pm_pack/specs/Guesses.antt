-- A word by guesses of it.
use Rattle.std.specs.Prelude.{ℕ, ◌+◌, ◌-◌, ◌*◌, ◌/◌, ◌%◌, ◌==◌, nat_le, true, false}
use Rattle.std.specs.Prelude.{if◌then◌else◌, List, [], ◌∷◌, length}
use Rattle.pm_coder.specs.Questions.{Question, Answer, answer, question}
use Rattle.pm_coder.specs.Guesses.{number_answers}
use Rattle.pm_pack.specs.declared.word.Guess.{Guess}

-- How many steps up from one word to another, around through 0 where that is less.
abbrev pub ahead : ℕ → ℕ → ℕ
ahead from to = if nat_le from to then to - from else 4294967296 - (from - to)

-- The word so many steps up, fewer than 2^32.
abbrev pub moved_ahead : ℕ → ℕ → ℕ
moved_ahead from steps =
    if nat_le steps (4294967295 - from) then from + steps else steps - (4294967296 - from)

-- Steps, at least one, from the next on, by turns up and down: 1, -1, 2, -2 are 0, 1, 2, 3.
abbrev pub folded : ℕ → ℕ
folded steps =
    if nat_le steps 2147483648 then 2 * (steps - 1) else 2 * (4294967296 - steps) - 1

abbrev pub unfolded : ℕ → ℕ
unfolded n = if n % 2 == 0 then n / 2 + 1 else 4294967295 - n / 2

-- Which number a word that isn't the guessed one is, and the word of a number.
abbrev pub miss : ℕ → ℕ → ℕ
miss guessed word = folded (ahead guessed word)

abbrev pub missed : ℕ → ℕ → ℕ
missed guessed n = moved_ahead guessed (unfolded n)

-- The answers for a word: whether it is as guessed, and else which other it is.
unfoldable pub word_answers : Guess → ℕ → List Answer
word_answers g word =
    if g.word == word then answer (question g.set (g.kind ∷ g.detail ∷ []) 0) true ∷ []
    else answer (question g.set (g.kind ∷ g.detail ∷ []) 0) false
    ∷ number_answers (g.set + 1) (g.kind ∷ g.detail ∷ []) (miss g.word word)

-- The question whether a word is a guess of which so many are left.
abbrev pub asks : Guess → ℕ → Question
asks g left = question g.set (g.kind ∷ g.detail ∷ []) left

-- The answers for a word by more guesses: for each in turn whether it is the word, up to the first
-- that is, and else the answers by the last guess.
unfoldable pub guessed_answers : Guess → List ℕ → ℕ → List Answer
guessed_answers g [] word = word_answers g word
guessed_answers g (first ∷ rest) word =
    if first == word then answer (asks g (length (first ∷ rest))) true ∷ []
    else answer (asks g (length (first ∷ rest))) false ∷ guessed_answers g rest word
