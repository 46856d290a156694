-- What the first records keep: how many units there are, the nodes that they split, and the places.
use Rattle.std.proofs.Common.{◌≡◌, ℕ, ◌+◌, ◌*◌, ◌-◌, ◌/◌, ◌%◌, ◌<◌, length, get_or, ap}
use Rattle.std.proofs.Common.{arith, inl, inr, refl}
use Rattle.std.proofs.lemmas.Bool.{cases_lt, cases_eq, lt-ltb, le-ltb, eq-eqb, ne_eqb}
use Rattle.std.proofs.lemmas.List.FromFn.{length-map-range_with_len, get_or-map-range_with_len}
use Rattle.pm_forest.specs.declared.parts.Root.{Root}
use Rattle.pm_forest.specs.declared.parts.Face.{Face}
use Rattle.pm_forest.specs.Forest.{Hierarchy, no_record, record_at, record_count, node_count, s_of}
use Rattle.pm_forest.specs.Forest.{t_of, u_of}
use Rattle.pm_forest.specs.Places.{no_root, place_of_node}
use Rattle.pm_prefix.specs.Prefix.{first_records, root_in, base_in, record_in}

module _ (h : Hierarchy) (n : ℕ) where
  pub root_count-first : length (first_records h n).roots ≡ length h.roots
  root_count-first = length-map-range_with_len (root_in h n) 0 (length h.roots)

  pub base_count-first : length (first_records h n).bases ≡ length h.bases
  base_count-first = length-map-range_with_len (base_in h n) 0 (length h.bases)

  pub record_count-first : record_count (first_records h n) ≡ n
  record_count-first = length-map-range_with_len (record_in h n) 0 n

  pub node_count-first : node_count (first_records h n) ≡ length h.roots + 2 * n
  node_count-first = omega (arith, root_count-first, record_count-first)

  pub t_of-first : (k : ℕ) → t_of (first_records h n) k ≡ t_of h k
  t_of-first k = omega (arith, root_count-first)

  pub u_of-first : (k : ℕ) → u_of (first_records h n) k ≡ u_of h k
  u_of-first k = omega (arith, root_count-first)

  pub root_at-first : (v : ℕ) (d : Root) → v < length h.roots
      → get_or (first_records h n).roots v d ≡ root_in h n v
  root_at-first v d l =
      get_or-map-range_with_len (root_in h n) 0 (length h.roots) v v d l (omega arith)

  pub base_at-first : (f : ℕ) (d : Face) → f < length h.bases
      → get_or (first_records h n).bases f d ≡ base_in h n f
  base_at-first f d l =
      get_or-map-range_with_len (base_in h n) 0 (length h.bases) f f d l (omega arith)

  pub record_at-first : (k : ℕ) → k < n → record_at (first_records h n) k ≡ record_in h n k
  record_at-first k l = get_or-map-range_with_len (record_in h n) 0 n k k no_record l (omega arith)

  pub s_of-first : (k : ℕ) → k < n → s_of (first_records h n) k ≡ s_of h k
  unfolding s_of record_in
  s_of-first k l = ap (λ r. r.s) (record_at-first k l)

  -- Nodes stay in their places.
  pub place_of_node-first : (v : ℕ) → v < length h.roots + 2 * n
      → place_of_node (first_records h n) v ≡ place_of_node h v
  unfolding place_of_node root_in record_in
  place_of_node-first v l =
      let at = v - length h.roots in
      elim (cases_lt v (length h.roots)) [
        | inl a ↦
            rw (
              root_count-first,
              lt-ltb v (length h.roots) a,
              root_at-first v no_root a,
            ) refl
        | inr a ↦
            elim (cases_eq (at % 2) 0) [
              | inl e ↦
                  rw (
                    root_count-first,
                    le-ltb v (length h.roots) a,
                    eq-eqb (at % 2) 0 e,
                    record_at-first (at / 2) (omega arith),
                  ) refl
              | inr e ↦
                  rw (
                    root_count-first,
                    le-ltb v (length h.roots) a,
                    ne_eqb (at % 2) 0 e,
                    record_at-first (at / 2) (omega arith),
                  ) refl
            ]
      ]
