-- Why one routine, run by who writes and by who reads, gives back its value.
use Rattle.std.specs.Prelude.{◌≢◌, ℕ, ◌<◌, List, [], ◌++◌}
use Rattle.std.specs.Int.{w32, to_be_bytes}
use Rattle.pm_coder.specs.Intervals.{Choice, whole}
use Rattle.pm_coder.specs.Coding.{Progress, ended}
use Rattle.pm_coder.specs.Coders.{Writing, Reading, Makes, Can, Part}
use Rattle.pm_coder.specs.declared.predictor.Predictor as predictor
use Rattle.pm_coder.specs.Questions.{Answer}
use Rattle.pm_coder.specs.Guesses.{Differ, told, halving_answers, number_answers}
use Rattle.pm_coder.specs.Uniform.{uniform_choices}

-- An encoder and a decoder at their start.
abbrev pub first : List ℕ → Progress
first bytes = record { interval = whole; bytes = bytes }

-- What an encoder made, a decoder of its code bytes makes; the last four bytes are left, and what
-- follows them.
abbrev pub MadeAreRead : Type 0
MadeAreRead = (cs : List Choice) (p : Progress) (more : List ℕ)
    → Makes (Writing (first [])) cs (Writing p)
    → Makes (Reading (first (ended p ++ more))) cs
    (Reading (record { interval = p.interval; bytes = to_be_bytes w32 p.interval.low ++ more }))

-- A decoder doesn't make two lists of choices that part.
abbrev pub ReadersGoOneWay : Type 0
ReadersGoOneWay = (p : Progress) (xs ys : List Choice) → Can (Reading p) xs → Can (Reading p) ys
    → ¬ Part xs ys

-- Choices after others part where those do, or where they part themselves.
abbrev pub PartsJoin : Type 0
PartsJoin = (xs ys xs' ys' : List Choice) → Part xs ys → Part (xs ++ xs') (ys ++ ys')

abbrev pub PartsFollow : Type 0
PartsFollow = (cs xs ys : List Choice) → Part xs ys → Part (cs ++ xs) (cs ++ ys)

-- The choices of two numbers below a bound part.
abbrev pub UniformsPart : Type 0
UniformsPart = (bound n m : ℕ) → n < bound → m < bound → n ≢ m
    → Part (uniform_choices bound n) (uniform_choices bound m)

-- Where answers differ, their choices part, whatever the predictor has learnt before.
abbrev pub GuessesPart : {P : Type 0} → predictor.Ghosts P → P → Type 0
GuessesPart k p = (xs ys : List Answer) → Differ xs ys → Part (told k p xs) (told k p ys)

-- The answers for two numbers below a bound differ.
abbrev pub HalvingsDiffer : Type 0
HalvingsDiffer = (set : ℕ) (contexts : List ℕ) (place bound n m : ℕ) → n < bound → m < bound
    → n ≢ m
    → Differ (halving_answers set contexts place bound n)
    (halving_answers set contexts place bound m)

-- The answers for two numbers below 2^32 - 1 differ.
abbrev pub NumbersDiffer : Type 0
NumbersDiffer = (set : ℕ) (contexts : List ℕ) (n m : ℕ) → n < 4294967295 → m < 4294967295 → n ≢ m
    → Differ (number_answers set contexts n) (number_answers set contexts m)
