-- Where the first CR stands in a line.
use Rattle.std.proofs.Common.{◌≡◌, ℕ, suc, ◌+◌, Bool, true, false, ◌==◌, List, [], ◌∷◌, length}
use Rattle.std.proofs.Common.{nat_lt, refl, sym, arith}
use Rattle.std.proofs.lemmas.Bool.{lt-ltb}
use Rattle.std.proofs.lemmas.Bool.Decides.{nat_tests}
use Rattle.obj_lines.specs.Text.{until}
use Rattle.obj_scan.specs.Forms.{has_lone_return}

one_more : (a b : ℕ) → nat_lt (a + 1) b ≡ nat_lt (suc a + 1) (suc b)
one_more a b = grind (arith, nat_tests)

lone_case : (b : ℕ) (text : List ℕ) (returned : Bool) → (b == 13) ≡ returned
    → has_lone_return text ≡ nat_lt (length (until 13 text) + 1) (length text)
    → has_lone_return (b ∷ text)
    ≡ nat_lt (length (until 13 (b ∷ text)) + 1) (length (b ∷ text))
lone_case b text false is rest =
    rw (is, rest) (one_more (length (until 13 text)) (length text))
lone_case b [] true is rest = rw is refl
lone_case b (c ∷ text) true is rest =
    rw (is, lt-ltb 0 (length (c ∷ text)) (omega arith)) (sym (lt-ltb _ _ (omega arith)))

-- A CR stands before another byte exactly where the first one isn't the last byte.
pub lone_return : (text : List ℕ)
    → has_lone_return text ≡ nat_lt (length (until 13 text) + 1) (length text)
lone_return [] = refl
lone_return (b ∷ text) = lone_case b text (b == 13) refl (lone_return text)
