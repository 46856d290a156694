-- Ways and their products as they are computed, read back from their bits.
use Rattle.std.proofs.Common.{◌≡◌, ◌^◌, ◌≤◌, w32, w64, to_z, of_z, refl, ◌∙◌, lit<}
use mir.Syntax.{w128}
use Rattle.std.specs.Prelude.{ℤ, ◌+ℤ◌, ◌-ℤ◌, ◌*ℤ◌, unsigned_abs}
use Rattle.pm_base.proofs.ReadBack.{read_is}

pub minor_is : (r a b c d : ℤ)
    → r ≡ to_z w64 (of_z w64 a) *ℤ to_z w64 (of_z w64 d) -ℤ to_z w64 (of_z w64 b)
    *ℤ to_z w64 (of_z w64 c)
    → unsigned_abs a ≤ 16809982 → unsigned_abs b ≤ 16809982 → unsigned_abs c ≤ 16809982
    → unsigned_abs d ≤ 16809982 → unsigned_abs r ≤ 2 ^ 51
    → to_z w64 (of_z w64 r) ≡ a *ℤ d -ℤ b *ℤ c
minor_is r a b c d e sa sb sc sd sr =
    read_is w64 r (2 ^ 51) sr (lit< tt)
    ∙ (e ∙ rw (
      read_is w64 a 16809982 sa (lit< tt),
      read_is w64 b 16809982 sb (lit< tt),
      read_is w64 c 16809982 sc (lit< tt),
      read_is w64 d 16809982 sd (lit< tt),
    ) refl)

pub term_is : (r a b : ℤ) → r ≡ to_z w64 (of_z w64 a) *ℤ to_z w64 (of_z w64 b)
    → unsigned_abs a ≤ 2 ^ 51 → unsigned_abs b ≤ 16809982 → r ≡ a *ℤ b
term_is r a b e sa sb =
    e ∙ rw (read_is w64 a (2 ^ 51) sa (lit< tt), read_is w64 b 16809982 sb (lit< tt)) refl

pub sum_is : (r a b c a' b' c' : ℤ)
    → r ≡ to_z w128 (of_z w128 a) +ℤ to_z w128 (of_z w128 b) +ℤ to_z w128 (of_z w128 c)
    → unsigned_abs a ≤ 2 ^ 76 → unsigned_abs b ≤ 2 ^ 76 → unsigned_abs c ≤ 2 ^ 76
    → unsigned_abs r ≤ 2 ^ 78 → a ≡ a' → b ≡ b' → c ≡ c'
    → to_z w128 (of_z w128 r) ≡ a' +ℤ b' +ℤ c'
sum_is r a b c a' b' c' e sa sb sc sr ea eb ec =
    read_is w128 r (2 ^ 78) sr (lit< tt)
    ∙ (e ∙ rw (
      read_is w128 a (2 ^ 76) sa (lit< tt),
      read_is w128 b (2 ^ 76) sb (lit< tt),
      read_is w128 c (2 ^ 76) sc (lit< tt),
      ea,
      eb,
      ec,
    ) refl)

-- How far a place is from the origin on one axis.
pub apart_is : (r at origin at' origin' : ℤ)
    → r ≡ to_z w32 (of_z w32 at) -ℤ to_z w32 (of_z w32 origin) → at ≡ at' → origin ≡ origin'
    → unsigned_abs at' ≤ 32767 → unsigned_abs origin ≤ 16777215 → unsigned_abs r ≤ 16809982
    → to_z w64 (of_z w64 r) ≡ at' -ℤ origin'
apart_is r at origin at' origin' e ea eo sa so sr =
    read_is w64 r 16809982 sr (lit< tt)
    ∙ (e ∙ rw (
      ea,
      read_is w32 at' 32767 sa (lit< tt),
      read_is w32 origin 16777215 so (lit< tt),
      eo,
    ) refl)
