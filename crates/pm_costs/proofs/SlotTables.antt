-- What a table of quadrics gives, as its slots change.
use Rattle.std.proofs.Common.{◌≡◌, ◌≢◌, ℕ, ◌<◌, ◌≤◌, List, length, get_or, set}
use Rattle.std.proofs.lemmas.Grind.{common_steps}
use Rattle.std.proofs.Common.{arith, get_or-set_other, get_or-set_same}
use Rattle.std.proofs.lemmas.List.{length-set, length-map, get_or-map, get_or_past}
use Rattle.pm_quadric.specs.Sums.{Sums, zero_sums}
use Rattle.pm_costs.specs.Slots.{by_vertex}

pub by_vertex-at : (slots : List ℕ) (quadrics : List Sums) (v : ℕ) → v < length slots
    → get_or (by_vertex slots quadrics) v zero_sums ≡ get_or quadrics (get_or slots v 0) zero_sums
unfolding by_vertex
by_vertex-at slots quadrics v l =
    get_or-map (λ k. get_or quadrics k zero_sums) slots v 0 zero_sums l

by_vertex-past : (slots : List ℕ) (quadrics : List Sums) (v : ℕ) → length slots ≤ v
    → get_or (by_vertex slots quadrics) v zero_sums ≡ zero_sums
unfolding by_vertex
by_vertex-past slots quadrics v le =
    get_or_past (by_vertex slots quadrics) v zero_sums
    (let n = length-map slots (λ (k : ℕ). get_or quadrics k zero_sums) in omega arith)

-- Another quadric is put into a slot, and s gets that slot.
module _ (slots : List ℕ) (quadrics : List Sums) (slot s : ℕ) (sum : Sums) where
  pub by_vertex-new : s < length slots → slot < length quadrics
      → get_or (by_vertex (set slots s slot) (set quadrics slot sum)) s zero_sums ≡ sum
  by_vertex-new low within =
      grind (arith, common_steps, by_vertex-at, get_or, get_or-set_same, length-set)

  pub by_vertex-other : (v : ℕ) → v ≢ s → get_or slots v 0 ≢ slot
      → get_or (by_vertex (set slots s slot) (set quadrics slot sum)) v zero_sums
      ≡ get_or (by_vertex slots quadrics) v zero_sums
  by_vertex-other v off apart =
      grind (
        arith,
        common_steps,
        by_vertex-at,
        by_vertex-past,
        get_or,
        get_or-set_other,
        length-set,
      )
