-- The words of a text as choices.
use Rattle.std.specs.Prelude.{ℕ, ◌<◌, List, [], ◌∷◌, ◌++◌, replicate}
use Rattle.std.specs.List.{AllByRecursion}
use Rattle.pm_coder.specs.declared.predictor.Predictor as predictor
use Rattle.pm_coder.specs.Intervals.{Choice}
use Rattle.pm_coder.specs.Questions.{Answer}
use Rattle.pm_coder.specs.Guesses.{told, taught}
use Rattle.pm_pack.specs.Fields.{first_spot}
use Rattle.pm_pack.specs.Guesses.{guessed_answers}
use Rattle.pm_pack.specs.Grids.{no_grid}
use Rattle.pm_pack.specs.Pasts.{Seen}
use Rattle.pm_pack.specs.Units.{seen_after}
use Rattle.pm_pack.specs.Hints.{guess_of, firsts_of}
use Rattle.pm_pack.specs.Rings.{no_faces}

-- What both sides know: what the predictor has learnt, and what was seen of the text.
pub record Known (P : Type 0) : Type 0 where
  pub learnt : P
  pub seen : Seen

-- Nothing was seen.
unfoldable pub nothing_seen : Seen
nothing_seen = record {
  spot = first_spot;
  words = replicate 33 0;
  nodes = [];
  faces = no_faces;
  starts = [];
  ring = [];
  inner = 0;
  grid = no_grid;
}

-- The answers for the next word.
abbrev pub next_answers : Seen → ℕ → List Answer
next_answers seen word = guessed_answers (guess_of seen) (firsts_of seen) word

-- The choices of the next word.
unfoldable pub word_choices : {P : Type 0} → predictor.Ghosts P → Known P → ℕ → List Choice
word_choices k known word = told k known.learnt (next_answers known.seen word)

-- What is known after it.
unfoldable pub known_after : {P : Type 0} → predictor.Ghosts P → Known P → ℕ → Known P
known_after k known word = record {
  learnt = taught k known.learnt (next_answers known.seen word);
  seen = seen_after known.seen word;
}

-- The choices of words, one word after the other.
unfoldable pub words_choices : {P : Type 0} → predictor.Ghosts P → Known P → List ℕ → List Choice
words_choices k known [] = []
words_choices k known (word ∷ words) =
    word_choices k known word ++ words_choices k (known_after k known word) words

-- What is known after words.
unfoldable pub all_known : {P : Type 0} → predictor.Ghosts P → Known P → List ℕ → Known P
all_known k known [] = known
all_known k known (word ∷ words) = all_known k (known_after k known word) words

-- Each is a word.
abbrev pub AreWords : List ℕ → Type 0
AreWords words = AllByRecursion (λ w. w < 4294967296) words
