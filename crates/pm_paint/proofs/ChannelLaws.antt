-- Numbers of several channels that stand together.
use Rattle.std.proofs.Common.{◌≡◌, ◌≢◌, ℕ, zero, suc, ◌+◌, ◌*◌, ◌/◌, ◌%◌, ◌<◌, List, get_or, set}
use Rattle.std.proofs.Common.{inl, inr, sym, ap, ◌∙◌, arith, length, map}
use Rattle.std.proofs.lemmas.Bool.{cases_lt}
use Rattle.std.proofs.lemmas.Grind.{get_or-set_at}
use Rattle.std.proofs.lemmas.List.{get_or-set_other}
use Rattle.std.proofs.lemmas.List.FromFn.{get_or-map-range_with_len, fill_by_all}
use Rattle.std.proofs.lemmas.List.FromFn.{length-map-range_with_len}
use Rattle.std.proofs.lemmas.Nat.{div-mul-add, mod-mul-add, mul-add-lt, div-add-mod', mod_below}
use Rattle.std.proofs.lemmas.Nat.{div_below}
use Rattle.std.specs.List.{range_with_len}
use Rattle.pm_forest.specs.Forest.{Hierarchy, node_count, leaf_count}
use Rattle.pm_paint.specs.Means.{mean_of, channel_of, mean_at, mean_array}

-- the mean of node i in channel j was put where it stands, and those of the nodes before
pub put_here : (all means : List ℕ) (c j i k : ℕ) → j < c → i * c + j < length all
    → ((m : ℕ) → m / c < i → m % c ≡ j → get_or all m 0 ≡ get_or means (m / c) 0)
    → k / c < i + 1 → k % c ≡ j
    → get_or (set all (i * c + j) (get_or means i 0)) k 0 ≡ get_or means (k / c) 0
put_here all means c j i k below room was l e =
    let row = div-mul-add i c j below in
    elim (cases_lt (k / c) i) [
      | inl before ↦
          let apart : k ≢ i * c + j =
          λ s. (let t : k / c ≡ (i * c + j) / c = ap (λ n. n / c) s in omega arith) in
          get_or-set_other all (i * c + j) k (get_or means i 0) 0 apart ∙ was k before e
      | inr not_before ↦
          let same : k / c ≡ i = omega arith in
          let parts = div-add-mod' k c in
          let product : k / c * c ≡ i * c = ap (λ n. n * c) same in
          let at : k ≡ i * c + j = omega arith in
          get_or-set_at all (i * c + j) k (get_or means i 0) 0 at room
          ∙ ap (λ n. get_or means n 0) (sym same)
    ]

-- what stands in another channel stays
pub put_others : (all : List ℕ) (c j i k m : ℕ) → j < c → k % c ≢ j
    → get_or (set all (i * c + j) m) k 0 ≡ get_or all k 0
put_others all c j i k m below other =
    let column = mod-mul-add i c j below in
    get_or-set_other all (i * c + j) k m 0
    (λ s. other (ap (λ n. n % c) s ∙ column))

-- a place among n rows is in one of them
pub row_below : (k n c : ℕ) → k < n * c → (0 < c) × (k / c < n) × (k % c < c)
row_below k n zero l = absurd (omega arith)
row_below k n (suc c) l =
    (omega arith, div_below k (suc c) n (omega arith) l, mod_below k (suc c) (omega arith))

-- the means of one channel more
pub channel_put : (h : Hierarchy) (values all now means : List ℕ) (c j : ℕ)
    → means
    ≡ map (mean_of h (channel_of values c j (leaf_count h))) (range_with_len 0 (node_count h))
    → ((k : ℕ) → k < node_count h * c → k % c < j → get_or all k 0 ≡ mean_at h c values k)
    → ((k : ℕ) → k < node_count h * c → k % c ≡ j → get_or now k 0 ≡ get_or means (k / c) 0)
    → ((k : ℕ) → k % c ≢ j → get_or now k 0 ≡ get_or all k 0)
    → (k : ℕ) → k < node_count h * c → k % c < j + 1 → get_or now k 0 ≡ mean_at h c values k
channel_put h values all now means c j are was here others k l below =
    elim (cases_lt (k % c) j) [
      | inl before ↦ others k (λ e. omega arith) ∙ was k l before
      | inr not_before ↦
          let same : k % c ≡ j = omega arith in
          let inside = row_below k (node_count h) c l in
          here k l same
          ∙ ap (λ s. get_or s (k / c) 0) are
          ∙ get_or-map-range_with_len (mean_of h (channel_of values c j (leaf_count h))) 0
          (node_count h) (k / c) (k / c) 0 inside.1 (omega arith)
          ∙ ap (λ i. mean_of h (channel_of values c i (leaf_count h)) (k / c)) (sym same)
    ]

-- the means of all channels
pub channels_done : (h : Hierarchy) (values all : List ℕ) (c : ℕ)
    → length all ≡ node_count h * c
    → ((k : ℕ) → k < node_count h * c → k % c < c → get_or all k 0 ≡ mean_at h c values k)
    → all ≡ mean_array h c values
unfolding mean_array
channels_done h values all c len each =
    fill_by_all (mean_at h c values) all (node_count h * c) 0 len
    (λ k l. each k l (row_below k (node_count h) c l).2)

-- where each mean stands
pub length-mean_array : (h : Hierarchy) (values : List ℕ) (c : ℕ)
    → length (mean_array h c values) ≡ node_count h * c
unfolding mean_array
length-mean_array h values c =
    length-map-range_with_len (mean_at h c values) 0 (node_count h * c)

pub get_or-mean_array : (h : Hierarchy) (values : List ℕ) (c v j : ℕ) → v < node_count h → j < c
    → get_or (mean_array h c values) (v * c + j) 0
    ≡ mean_of h (channel_of values c j (leaf_count h)) v
unfolding mean_array
get_or-mean_array h values c v j there below =
    let inside = mul-add-lt v c j (node_count h) there below in
    get_or-map-range_with_len (mean_at h c values) 0 (node_count h * c) (v * c + j) (v * c + j) 0
    (omega arith) (omega arith)
    ∙ ap (λ i. mean_of h (channel_of values c i (leaf_count h)) ((v * c + j) / c))
    (mod-mul-add v c j below)
    ∙ ap (λ n. mean_of h (channel_of values c j (leaf_count h)) n) (div-mul-add v c j below)
