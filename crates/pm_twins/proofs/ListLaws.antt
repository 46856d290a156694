-- Walks over the list of the sides that leave one vertex, from the last to the first, and how the
-- lists are made.
use Rattle.std.proofs.Common.{◌≡◌, ℕ, zero, suc, ◌+◌, ◌<◌, ◌≤◌, eqb, Bool, true, Option, Some, None}
use Rattle.std.proofs.Common.{List, slice_index_or, inl, inr, sym, ap, ◌∙◌}
use Rattle.std.proofs.Common.{arith}
use Rattle.std.specs.Option.{IfSome, option_map}
use Rattle.std.proofs.Math.ListN.{set, replicate}
use Rattle.std.proofs.lemmas.Grind.{common_steps}
use Rattle.std.proofs.lemmas.Bool.{cases_Bool, cases_eq, cond-true, cond-false, eqb-true, eq-eqb}
use Rattle.std.proofs.lemmas.Bool.{ne_eqb}
use Rattle.std.proofs.lemmas.List.{get_or-set_same, get_or-set_other, get_or-replicate, length-set}
use Rattle.std.proofs.lemmas.List.{length-replicate}
use Rattle.std.proofs.lemmas.Option.{none-some, same_Some}
use Rattle.pm_base.specs.declared.ids.Side.{Side}
use Rattle.pm_base.specs.Sides.{Net, side_count, find_below, beside_side}
use Rattle.pm_base.proofs.Search.{find_below-some}
use Rattle.pm_twins.specs.SideLists.{last_from, link_of, AreListed}

-- A search finds the greatest number that passes.
greatest : (p : ℕ → Bool) (n g : ℕ) → g < n → p g ≡ true
    → (k : ℕ) × (find_below p n ≡ Some k) × (g ≤ k)
greatest p zero g l e = absurd (omega (arith, l))
greatest p (suc n) g l e =
    elim (cases_Bool (p n)) [
      | inl a ↦ (n, cond-true _ _ _ a, omega (arith, l))
      | inr a ↦ grind (arith, common_steps, cond-false, greatest p n g)
    ]

-- The sides below this bound are still to come on a walk that is at this side, or at its end.
abbrev pub past : Option Side → ℕ
past None = 0
past (Some s) = s.0 + 1

-- A walk over the list of vertex v is at a side of it, or at its end.
abbrev pub IsOn : Net → ℕ → Option Side → Type 0
IsOn m v at = IfSome at (λ s. (s.0 < side_count m) × (m.from s.0 ≡ v))

module _ (m : Net) (v k : ℕ) where
  pub walk_low : (at : Option Side) → option_map (λ s. s.0) at ≡ last_from m v k → past at ≤ k
  walk_low None is = omega arith
  walk_low (Some s) is =
      let (p, l) = find_below-some (λ e. eqb (m.from e) v) k s.0 (sym is) in omega (arith, l)

  pub walk_on : (at : Option Side) → option_map (λ s. s.0) at ≡ last_from m v k
      → k ≤ side_count m → IsOn m v at
  walk_on None is few = tt
  walk_on (Some s) is few =
      let (p, l) = find_below-some (λ e. eqb (m.from e) v) k s.0 (sym is) in
      (omega (arith, l, few), eqb-true (m.from s.0) v p)

  -- A walk passes no side of the vertex over.
  pub walk_meets : (at : Option Side) → option_map (λ s. s.0) at ≡ last_from m v k
      → (e : ℕ) → e < k → m.from e ≡ v → e < past at
  walk_meets None is e l from =
      let (g, found, le) = greatest (λ e. eqb (m.from e) v) k e l (eq-eqb (m.from e) v from) in
      absurd (none-some g (is ∙ found))
  walk_meets (Some s) is e l from =
      let (g, found, le) = greatest (λ e. eqb (m.from e) v) k e l (eq-eqb (m.from e) v from) in
      let same : s.0 ≡ g = same_Some s.0 g (is ∙ found) in
      omega (arith, le, same)

-- Where a side that leaves v still has its link, that leads to the last one before it.
pub link_next : (m : Net) (v y : ℕ) (table : List (Option ℕ)) (at : Option Side)
    → beside_side table y ≡ link_of m y → m.from y ≡ v
    → option_map (λ s. s.0) at ≡ beside_side table y
    → option_map (λ s. s.0) at ≡ last_from m v y
link_next m v y table at link from is =
    is ∙ link ∙ ap (λ (u : ℕ). last_from m u y) from

-- At first no side is in a list.
pub listed_none : (m : Net) (n k : ℕ) (lasts links : List (Option ℕ)) → lasts ≡ replicate n None
    → links ≡ replicate k None → k ≡ side_count m → AreListed m n 0 lasts links
listed_none m n k lasts links a b is =
    grind (arith, common_steps, get_or-replicate, length-replicate)

-- One more side is put into the list of its vertex.
listed_more : (m : Net) (n k v : ℕ) (lasts links : List (Option ℕ)) → v ≡ m.from k → v < n
    → k < side_count m → AreListed m n k lasts links
    → AreListed m n (k + 1) (set lasts v (Some k)) (set links k (slice_index_or lasts v None))
listed_more m n k v lasts links is low lk h =
    let next : k + 1 ≡ suc k = omega arith in
    record {
      vertices = length-set lasts v (Some k) ∙ h.vertices;
      sides = length-set links k (slice_index_or lasts v None) ∙ h.sides;
      last = λ w lw. elim (cases_eq w v) [
        | inl same ↦
            ap (λ (u : ℕ). slice_index_or (set lasts v (Some k)) u None) same
            ∙ get_or-set_same lasts v (Some k) None (omega (arith, low, h.vertices))
            ∙ sym (cond-true (eqb (m.from k) w) (Some k) (last_from m w k)
            (eq-eqb (m.from k) w (sym is ∙ sym same)))
            ∙ ap (last_from m w) (sym next)
        | inr ne ↦
            get_or-set_other lasts v w (Some k) None ne ∙ h.last w lw
            ∙ sym (cond-false (eqb (m.from k) w) (Some k) (last_from m w k)
            (ne_eqb (m.from k) w (λ from. ne (sym from ∙ sym is))))
            ∙ ap (last_from m w) (sym next)
      ];
      each = λ e le. elim (cases_eq e k) [
        | inl same ↦
            ap (beside_side (set links k (slice_index_or lasts v None))) same
            ∙ get_or-set_same links k (slice_index_or lasts v None) None
            (omega (arith, lk, h.sides))
            ∙ h.last v low ∙ ap (λ (u : ℕ). last_from m u k) is ∙ ap (link_of m) (sym same)
        | inr ne ↦ get_or-set_other links k e (slice_index_or lasts v None) None ne
            ∙ h.each e (omega (arith, le, ne))
      ];
    }

-- The same for what the code writes.
pub list_next : {m : Net} {n v : ℕ} {lasts links lasts' links' : List (Option ℕ)} (k next : ℕ)
    → next ≡ k + 1 → v ≡ m.from k → v < n → k < side_count m
    → links' ≡ set links k (slice_index_or lasts v None) → lasts' ≡ set lasts v (Some k)
    → AreListed m n k lasts links → AreListed m n next lasts' links'
list_next {m} {n} {v} {lasts} {links} k next one is low lk b a h =
    rw (one, a, b) (listed_more m n k v lasts links is low lk h)

-- A list begins with one of the sides that are in it.
pub last_low : {m : Net} {n k v : ℕ} {lasts links : List (Option ℕ)} (most : ℕ) → v < n
    → k ≤ most → AreListed m n k lasts links
    → IfSome (slice_index_or lasts v None) (λ last. last < most)
last_low {m} {n} {k} {v} {lasts} most low few h =
    found_low (slice_index_or lasts v None) (h.last v low)
  where
    found_low : (r : Option ℕ) → r ≡ last_from m v k → IfSome r (λ last. last < most)
    found_low None is = tt
    found_low (Some s) is =
        let (p, l) = find_below-some (λ e. eqb (m.from e) v) k s (sym is) in omega (arith, l, few)
