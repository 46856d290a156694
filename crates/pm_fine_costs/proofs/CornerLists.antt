-- The corners round a vertex: which they are, each once, and how many.
use Rattle.std.proofs.Common.{◌≡◌, ℕ, zero, suc, ◌+◌, ◌<◌, ◌≤◌, Bool, true}
use Rattle.std.proofs.lemmas.Grind.{common_steps}
use Rattle.std.proofs.Common.{◌&&◌, eqb}
use Rattle.std.proofs.Common.{List, [], ◌∷◌}
use Rattle.std.proofs.Common.{arith}
use Rattle.std.specs.List.{filter, range_with_len}
use Rattle.std.proofs.lemmas.Bool.{or_cases, or_left, or_right, eqb-true}
use Rattle.std.proofs.lemmas.Bool.{eq-eqb}
use Rattle.std.proofs.lemmas.Bool.{and_parts, and_from, false≢true}
use Rattle.pm_base.proofs.TwinLaws.{stands-true, stands_is_true}
use Rattle.pm_base.specs.Sides.{Net, Stands, side_count, stands}
use Rattle.pm_links.specs.Lists.{has, IsOnce}
use Rattle.pm_runs.specs.Surfaces.{Surface, net_of_surface}
use Rattle.pm_shrink.specs.Shrinking.{AreCornersAt}
use Rattle.pm_fine_costs.specs.Corners.{corners_round}

range_from : (a n e : ℕ) → has (range_with_len a n) e ≡ true → (a ≤ e) × (e < a + n)
range_from a zero e h = absurd (false≢true h)
range_from a (suc n) e h = grind (arith, common_steps, eqb-true, or_cases, range_from (a + 1) n e)

range_has : (a n e : ℕ) → a ≤ e → e < a + n → has (range_with_len a n) e ≡ true
range_has a zero e low high = absurd (omega arith)
range_has a (suc n) e low high =
    grind (arith, common_steps, eq-eqb, or_left, or_right, range_has (a + 1) n e)

range_once : (a n : ℕ) → IsOnce (range_with_len a n)
range_once a zero = tt
range_once a (suc n) = grind (arith, common_steps, range_from, range_once (a + 1) n)

module _ (p : ℕ → Bool) where
  filter_from : (xs : List ℕ) (e : ℕ) → has (filter p xs) e ≡ true → (p e ≡ true) ×
      (has xs e ≡ true)
  filter_from [] e h = absurd (false≢true h)
  filter_from (x ∷ xs) e h =
      grind (arith, common_steps, eqb-true, or_cases, or_left, or_right, filter_from xs e)

  filter_has : (xs : List ℕ) (e : ℕ) → p e ≡ true → has xs e ≡ true → has (filter p xs) e ≡ true
  filter_has [] e t h = h
  filter_has (x ∷ xs) e t h =
      grind (arith, common_steps, eqb-true, or_cases, or_left, or_right, filter_has xs e t)

  filter_once : (xs : List ℕ) → IsOnce xs → IsOnce (filter p xs)
  filter_once [] once = tt
  filter_once (x ∷ xs) once = grind (arith, common_steps, filter_from, filter_once xs once.1)

same_bool : (a b : Bool) → (a ≡ true → b ≡ true) → (b ≡ true → a ≡ true) → a ≡ b
same_bool a b forth back = grind (arith, common_steps)

module _ (s : Surface) (v : ℕ) where
  abbrev m : Net
  m = net_of_surface s

  abbrev is_round : ℕ → Bool
  is_round e = stands m e && eqb (m.from e) v

  pub corners_once : IsOnce (corners_round s v)
  corners_once = filter_once is_round (range_with_len 0 (side_count m))
      (range_once 0 (side_count m))

  pub round_from : (e : ℕ) → has (corners_round s v) e ≡ true → Stands m e × (m.from e ≡ v)
  round_from e h =
      let l = filter_from is_round (range_with_len 0 (side_count m)) e h in
      let both = and_parts (stands m e) (eqb (m.from e) v) l.0 in
      (stands-true m e both.0, eqb-true (m.from e) v both.1)

  pub round_has : (e : ℕ) → Stands m e → m.from e ≡ v → has (corners_round s v) e ≡ true
  round_has e st at =
      let low : e < side_count m = st.is_side in
      filter_has is_round (range_with_len 0 (side_count m)) e
      (and_from (stands m e) (eqb (m.from e) v) (stands_is_true m e st) (eq-eqb (m.from e) v at))
      (range_has 0 (side_count m) e (omega arith) (omega arith))

  -- Any list that has each of them once has the same members.
  pub same_corners :
      (corners : List ℕ) → AreCornersAt m v corners → (e : ℕ) →
      has corners e ≡ has (corners_round s v) e
  same_corners corners are e = grind (arith, common_steps, round_from, round_has, same_bool)
