-- The table of slots, one for all questions that have one hash.
use Rattle.std.specs.Prelude.{ℕ, ◌+◌, ◌*◌, ◌/◌, ◌%◌, Bool, List, [], ◌∷◌, replicate}
use Rattle.std.specs.Prelude.{get_or, slice_set, ◌-◌, ◌^◌, ◌==◌, ◌&&◌, ◌||◌, nat_lt, nat_le}
use Rattle.std.specs.Prelude.{if◌then◌else◌}
use Rattle.std.specs.Int.Count.{count_leading_zeros}
use Rattle.pm_coder.specs.Questions.{Question}
use Rattle.pm_coder.specs.Slots.{slot_share, slot_learned}
use Rattle.pm_pack.specs.declared.mixing.Weights.{Weights}
use Rattle.pm_pack.specs.Mixing.{weights, mixed_share, weights_learned}

-- A hash with one more number in it (after Knuth, by the golden ratio), below 2^32.
unfoldable pub mixed : ℕ → ℕ → ℕ
mixed hash n = (hash + n) % 4294967296 * 2654435761 % 4294967296 % 131072 * 32768
    + (hash + n) % 4294967296 * 2654435761 % 4294967296 / 131072

-- The first of the contexts, which is the kind, and the second, which is the detail.
abbrev pub kind_in : List ℕ → ℕ
kind_in [] = 0
kind_in (kind ∷ more) = kind

abbrev pub detail_in : List ℕ → ℕ
detail_in [] = 0
detail_in (kind ∷ []) = 0
detail_in (kind ∷ detail ∷ more) = detail

-- The detail that counts: none for the bits of a number below its top one.
abbrev pub counted_detail : ℕ → List ℕ → ℕ
counted_detail set contexts = if set % 3 == 2 then 0 else detail_in contexts

-- A place by its six upper bits and how many follow.
unfoldable pub rough : ℕ → ℕ
rough place =
    (place / 2 ^ (26 - count_leading_zeros 32 place)
    + 64 * (26 - count_leading_zeros 32 place + 4)) % 4294967296

-- Bits of the number of a split node, and of a coordinate off a grid, whose kinds are 1,024 and
-- above, are alike after the first three of them.
unfoldable pub hashed_place : ℕ → ℕ → ℕ → ℕ
hashed_place set context place =
    if (set == 50 || nat_le 1024 context) && nat_lt 511 place then rough place else place

-- The slot of a set, a context and a place, of 2^20.
unfoldable pub slot_of : ℕ → ℕ → ℕ → ℕ
slot_of set context place =
    mixed (mixed (mixed 0 set) context) (hashed_place set context place) % 1048576

-- The slots, and by set the weights of two of them.
pub record Table : Type 0 where
  pub slots : List ℕ
  pub weights : List Weights

-- A table that has learnt nothing.
unfoldable pub fresh_slots : ℕ → Table
fresh_slots size = record {
  slots = replicate size 2147483648;
  weights = replicate 102 (weights 16384 16384);
}

-- The slots of a question, by the kind and by the detail.
unfoldable pub kind_slot : Question → ℕ
kind_slot q = slot_of q.set (kind_in q.contexts) q.place

unfoldable pub detail_slot : Question → ℕ
detail_slot q = slot_of q.set (counted_detail q.set q.contexts) q.place

-- The share of a slot, and the weights of a set.
abbrev pub share_at : Table → ℕ → ℕ
share_at t i = slot_share (get_or t.slots i 0)

abbrev pub weights_at : Table → ℕ → Weights
weights_at t set = get_or t.weights set (weights 16384 16384)

-- The share that a table gives: by the kind where there is no detail, else by both.
unfoldable pub share_in : Table → Question → ℕ
share_in t q =
    if counted_detail q.set q.contexts == 0 then share_at t (kind_slot q)
    else mixed_share (weights_at t q.set) (share_at t (kind_slot q))
    (share_at t (detail_slot q))

-- The slots after one of them has learnt a bit.
unfoldable pub learned_at : List ℕ → ℕ → Bool → List ℕ
learned_at slots i bit = slice_set slots i (slot_learned (get_or slots i 0) bit)

-- The table that has learnt a bit.
unfoldable pub learned_in : Table → Question → Bool → Table
learned_in t q bit =
    if counted_detail q.set q.contexts == 0
    then record { slots = learned_at t.slots (kind_slot q) bit; weights = t.weights }
    else record {
      slots = learned_at (learned_at t.slots (kind_slot q) bit) (detail_slot q) bit;
      weights =
          slice_set t.weights q.set
          (weights_learned (weights_at t q.set) (share_at t (kind_slot q))
          (share_at t (detail_slot q)) (share_in t q) bit);
    }
