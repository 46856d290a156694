-- The words of a text, however they stand in lines.
use Rattle.std.specs.Prelude.{ℕ, ◌==◌, ◌||◌, Bool, List, [], ◌∷◌, if◌then◌else◌}

-- A space, a tab, an LF or a CR.
abbrev pub is_space : ℕ → Bool
is_space b = b == 32 || b == 9 || b == 10 || b == 13

-- From the first word on.
abbrev pub from_word : List ℕ → List ℕ
from_word [] = []
from_word (b ∷ bs) = if is_space b then from_word bs else b ∷ bs

-- The word that stands at the front.
abbrev pub word : List ℕ → List ℕ
word [] = []
word (b ∷ bs) = if is_space b then [] else b ∷ word bs
