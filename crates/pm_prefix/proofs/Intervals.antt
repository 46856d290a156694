-- The leaves of the nodes of the first records: a node has the new leaves that its leaves become.
use Rattle.std.proofs.Common.{◌≡◌, ℕ, zero, suc, ◌+◌, ◌*◌, ◌-◌, ◌<◌, ◌≤◌, List, [], ◌∷◌}
use Rattle.std.proofs.Common.{length, get_or, sum, true, refl, sym, ap, ◌∙◌, inl, inr, arith}
use Rattle.std.proofs.lemmas.Bool.{cases_eq}
use Rattle.std.proofs.lemmas.List.{get_or-map}
use Rattle.pm_base.proofs.Counts.{count-zero}
use Rattle.pm_forest.specs.Forest.{Hierarchy, record_at, record_count, widths}
use Rattle.pm_forest.specs.Forest.{leaf_count, s_of, t_of, u_of, root_interval, first_part, rest}
use Rattle.pm_forest.specs.Forest.{root_of, interval_after, interval_of, holds, within, Holds}
use Rattle.pm_forest.specs.Forest.{HasForestShape}
use Rattle.pm_forest.specs.Fronts.{ancestor_after, every}
use Rattle.pm_forest.specs.Places.{no_root}
use Rattle.pm_forest.proofs.Nodes.{interval-t, interval-u, interval-else}
use Rattle.pm_forest.proofs.Nodes.{interval_of-t, interval_of-u}
use Rattle.pm_forest.proofs.Ancestors.{ancestor-at, ancestor-lt, every-front, holds-ancestor}
use Rattle.pm_forest.proofs.OwnerLaws.{sum-cons}
use Rattle.pm_forest.proofs.RootTables.{width_count}
use Rattle.pm_prefix.specs.Prefix.{first_records, begins, begun_before, leaf_in, interval_in}
use Rattle.pm_prefix.specs.Prefix.{width_in, root_in, record_in}
use Rattle.pm_prefix.proofs.Nodes.{HasNodes, root_is}
use Rattle.pm_prefix.proofs.Begins.{made_begins, begun_total}
use Rattle.pm_prefix.proofs.Ranks.{begun_mono, begun_above, holds_in}
use Rattle.pm_prefix.proofs.Parts.{root_count-first, record_count-first, t_of-first, u_of-first}
use Rattle.pm_prefix.proofs.Parts.{root_at-first, record_at-first, s_of-first}

-- Where each end of a root's interval moves by a rising function, roots with the widths between
-- the moved ends have the moved intervals.
module _ (moved : ℕ → ℕ) (mono : (x y : ℕ) → x ≤ y → moved x ≤ moved y) where
  abbrev HaveWidths : List ℕ → List ℕ → ℕ → Type 0
  HaveWidths vs ws start =
      (i : ℕ) → i < length ws → let r = root_interval ws start i in
      get_or vs i 0 ≡ moved r.until - moved r.from

  intervals_moved : (ws vs : List ℕ) (start v : ℕ) → length vs ≡ length ws
      → HaveWidths vs ws start → v < length ws → let i = root_interval ws start v in
      root_interval vs (moved start) v ≡ record { from = moved i.from; until = moved i.until }
  intervals_moved [] vs start v same each l = absurd (omega arith)
  intervals_moved (w ∷ ws) [] start v same each l = absurd (omega arith)
  intervals_moved (w ∷ ws) (u ∷ vs) start zero same each l =
      let here : u ≡ moved (start + w) - moved start = each 0 (omega arith) in
      let up = mono start (start + w) (omega arith) in
      let next : moved start + u ≡ moved (start + w) = omega arith in
      rw next refl
  intervals_moved (w ∷ ws) (u ∷ vs) start (suc v) same each l =
      let here : u ≡ moved (start + w) - moved start = each 0 (omega arith) in
      let up = mono start (start + w) (omega arith) in
      let next : moved start + u ≡ moved (start + w) = omega arith in
      rw next
      (intervals_moved ws vs (start + w) v (omega arith) (λ i m. each (suc i) (omega arith))
      (omega arith))

  sums_moved : (ws vs : List ℕ) (start : ℕ) → length vs ≡ length ws → HaveWidths vs ws start
      → moved start + sum vs ≡ moved (start + sum ws)
  sums_moved [] [] start same each = let none : start + sum [] ≡ start =
      omega arith in rw none (omega arith)
  sums_moved [] (u ∷ vs) start same each = absurd (omega arith)
  sums_moved (w ∷ ws) [] start same each = absurd (omega arith)
  sums_moved (w ∷ ws) (u ∷ vs) start same each =
      let here : u ≡ moved (start + w) - moved start = each 0 (omega arith) in
      let up = mono start (start + w) (omega arith) in
      let later = sums_moved ws vs (start + w) (omega arith) (λ i m. each (suc i) (omega arith)) in
      let place : start + sum (w ∷ ws) ≡ start + w + sum ws = omega (arith, sum-cons w ws) in
      rw place (omega (arith, sum-cons u vs))

module _ (h : Hierarchy) (shape : HasNodes h) (n : ℕ) (l : n ≤ record_count h) where
  abbrev first : Hierarchy
  first = first_records h n

  abbrev begun : ℕ → ℕ
  begun x = begun_before h n x

  width_at : (v : ℕ) → v < length (widths h) → let i = root_interval (widths h) 0 v in
      get_or (widths first) v 0 ≡ begun i.until - begun i.from
  unfolding root_in
  width_at v m =
      let is : v < length h.roots = omega (arith, width_count h.roots) in
      let there : v < length first.roots = omega (arith, root_count-first h n) in
      get_or-map (λ r. r.width) first.roots v no_root 0 there
      ∙ ap (λ r. r.width) (root_at-first h n v no_root is)
      ∙ ap (λ i. width_in h n i) (root_is h v is)

  pub width_count-first : length (widths first) ≡ length (widths h)
  width_count-first =
      width_count first.roots ∙ root_count-first h n ∙ sym (width_count h.roots)

  begun_none : begun 0 ≡ 0
  begun_none = count-zero (begins h n)

  pub root_interval-first : (v : ℕ) → v < length h.roots
      → root_interval (widths first) 0 v ≡ interval_in h n (interval_of h v)
  root_interval-first v m =
      let lt : v < length (widths h) = omega (arith, width_count h.roots) in
      let moved =
      intervals_moved begun (begun_mono h n) (widths h) (widths first) 0 v
      width_count-first width_at lt in
      ap (λ s. root_interval (widths first) s v) (sym begun_none)
      ∙ moved ∙ ap (interval_in h n) (sym (root_is h v m))

  pub leaf_count-first : leaf_count first ≡ length h.roots + n
  leaf_count-first =
      let total =
      sums_moved begun (begun_mono h n) (widths h) (widths first) 0
      width_count-first width_at in
      let all : 0 + sum (widths h) ≡ leaf_count h = omega arith in
      let is = rw all at total in
      omega (arith, begun_none, begun_total h shape n l)

  -- What a record's width was told to be.
  record_width : (k : ℕ) → k < n
      → (record_at first k).width ≡ width_in h n (interval_of h (t_of h k))
  unfolding record_in
  record_width k m = ap (λ r. r.width) (record_at-first h n k m)

  intervals_after : (k v : ℕ) → k ≤ n → v < t_of h k
      → interval_after first k v ≡ interval_in h n (interval_of h v)
  unfolding interval_after
  intervals_after zero v m lt = root_interval-first v (omega arith)
  intervals_after (suc k) v m lt =
      let nodes = shape.nodes in
      let older = nodes.older k (omega arith) in
      let t_is = t_of-first h n k in
      let u_is = u_of-first h n k in
      let s_is = s_of-first h n k m in
      let s = interval_of h (s_of h k) in
      let w = (record_at h k).width in
      let at_s : interval_after first k (s_of first k) ≡ interval_in h n s =
      ap (interval_after first k) s_is ∙ intervals_after k (s_of h k) (omega arith) older in
      let t_old = interval_of-t h nodes k (omega arith) in
      let u_old = interval_of-u h nodes k (omega arith) in
      let up = begun_mono h n s.from (s.from + w) (omega arith) in
      let new = record_width k m ∙ ap (width_in h n) t_old in
      let next : begun s.from + (record_at first k).width ≡ begun (s.from + w) = omega arith in
      elim (cases_eq v (t_of h k)) [
        | inl is ↦
            ap (interval_after first (suc k)) (is ∙ sym t_is)
            ∙ interval-t first k
            ∙ ap (λ i. first_part i (record_at first k).width) at_s
            ∙ (rw (next, is, t_old) refl)
        | inr not_t ↦
            elim (cases_eq v (u_of h k)) [
              | inl is ↦
                  ap (interval_after first (suc k)) (is ∙ sym u_is)
                  ∙ interval-u first k
                  ∙ ap (λ i. rest i (record_at first k).width) at_s
                  ∙ (rw (next, is, u_old) refl)
              | inr not_u ↦
                  interval-else first k v (omega arith) (omega arith)
                  ∙ intervals_after k v (omega arith) (omega arith)
            ]
      ]

  pub intervals_are : (v : ℕ) → v < length h.roots + 2 * n
      → interval_of first v ≡ interval_in h n (interval_of h v)
  intervals_are v m =
      ap (λ k. interval_after first k v) (record_count-first h n)
      ∙ intervals_after n v (omega arith) m

  pub holds-first : (v x : ℕ) → v < length h.roots + 2 * n → x < leaf_count h
      → holds first v (leaf_in h n x) ≡ holds h v x
  unfolding holds
  holds-first v x m lt =
      ap (λ i. within i (leaf_in h n x)) (intervals_are v m) ∙ holds_in h shape n l v x m lt

  -- So each child of a record has a new leaf or more, and the new nodes keep the rules of shape.
  pub forest_shape-first : HasForestShape first
  forest_shape-first =
      let nodes = shape.nodes in
      let count = record_count-first h n in
      record {
        older = λ k m.
            let lt : k < n = omega arith in
            omega (arith, s_of-first h n k lt, t_of-first h n k, nodes.older k (omega arith));
        once = λ j k m lt e.
            let k_lt : k < n = omega arith in
            nodes.once j k m (omega arith)
            (sym (s_of-first h n j (omega arith)) ∙ e ∙ s_of-first h n k k_lt);
        width = λ k m.
            let lt : k < n = omega arith in
            let older = nodes.older k (omega arith) in
            let s_is = s_of-first h n k lt in
            let is =
            ap (interval_of first) s_is ∙ intervals_are (s_of h k) (omega arith) in
            let t_old = interval_of-t h nodes k (omega arith) in
            let u_old = interval_of-u h nodes k (omega arith) in
            let old = nodes.width k (omega arith) in
            let s = interval_of h (s_of h k) in
            let w = (record_at h k).width in
            let t_begins = made_begins h shape n (t_of h k) l (omega arith) in
            let u_begins = made_begins h shape n (u_of h k) l (omega arith) in
            let s_from : begins h n s.from ≡ true = rw t_old at t_begins in
            let u_from : begins h n (s.from + w) ≡ true = rw u_old at u_begins in
            let width : (record_at first k).width ≡ begun (s.from + w) - begun s.from =
            record_width k lt ∙ ap (width_in h n) t_old in
            let some = begun_above h n s.from (s.from + w) s_from (omega arith) in
            let others = begun_above h n (s.from + w) s.until u_from (omega arith) in
            rw is (omega arith, omega arith);
      }

  -- A new leaf is under the root that its leaf was under.
  pub root_of-first : (x : ℕ) → x < leaf_count h
      → root_of (widths first) 0 (leaf_in h n x) ≡ root_of (widths h) 0 x
  unfolding ancestor_after
  root_of-first x m =
      let nodes = shape.nodes in
      let v = root_of (widths h) 0 x in
      let lt : v < t_of h 0 = ancestor-lt h nodes every 0 x m in
      let held : Holds h v x = holds-ancestor h nodes every 0 x (omega arith) m in
      let there : v < length first.roots = omega (arith, root_count-first h n) in
      ancestor-at first forest_shape-first every (every-front first) 0 v (leaf_in h n x)
      (omega arith) (omega arith) (inl there) (λ i i_lt. absurd (omega arith))
      (holds-first v x (omega arith) m ∙ held)
