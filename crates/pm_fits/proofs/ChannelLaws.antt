-- Numbers of several channels that stand together.
use Rattle.std.proofs.Common.{◌≡◌, ◌≢◌, ℕ, zero, suc, ◌+◌, ◌*◌, ◌/◌, ◌%◌, ◌<◌, List, get_or, set}
use Rattle.std.proofs.Common.{inl, inr, sym, ap, subst, ◌∙◌, arith, length, map}
use Rattle.std.proofs.lemmas.Bool.{cases_lt}
use Rattle.std.proofs.lemmas.Grind.{get_or-set_at}
use Rattle.std.proofs.lemmas.List.{get_or-set_other}
use Rattle.std.proofs.lemmas.List.FromFn.{get_or-map-range_with_len, fill_by_all}
use Rattle.std.proofs.lemmas.List.FromFn.{length-map-range_with_len}
use Rattle.std.proofs.lemmas.Nat.{div-mul-add, mod-mul-add, mul-add-lt, div-add-mod', mod_below}
use Rattle.std.proofs.lemmas.Nat.{div_below}
use Rattle.std.specs.List.{range_with_len}
use Rattle.std.specs.Prelude.{ℤ, pos}
use Rattle.pm_forest.specs.Forest.{Hierarchy, node_count, leaf_count}
use Rattle.pm_fits.specs.Channels.{channel_of, fit_entry, fit_array}
use Rattle.pm_fits.specs.Fits.{IsNumber, AreNumbers, fit_at}

-- the fit of node i in channel j was put where it stands, and those of the nodes before
pub put_here : (all fits : List ℤ) (c j i k : ℕ) → j < c → i * c + j < length all
    → ((m : ℕ) → m / c < i → m % c ≡ j → get_or all m (pos 0) ≡ get_or fits (m / c) (pos 0))
    → k / c < i + 1 → k % c ≡ j
    → get_or (set all (i * c + j) (get_or fits i (pos 0))) k (pos 0) ≡ get_or fits (k / c) (pos 0)
put_here all fits c j i k below room was l e =
    let row = div-mul-add i c j below in
    elim (cases_lt (k / c) i) [
      | inl before ↦
          let apart : k ≢ i * c + j =
          λ s. (let t : k / c ≡ (i * c + j) / c = ap (λ n. n / c) s in omega arith) in
          get_or-set_other all (i * c + j) k (get_or fits i (pos 0)) (pos 0) apart ∙ was k before e
      | inr not_before ↦
          let same : k / c ≡ i = omega arith in
          let parts = div-add-mod' k c in
          let product : k / c * c ≡ i * c = ap (λ n. n * c) same in
          let at : k ≡ i * c + j = omega arith in
          get_or-set_at all (i * c + j) k (get_or fits i (pos 0)) (pos 0) at room
          ∙ ap (λ n. get_or fits n (pos 0)) (sym same)
    ]

-- what stands in another channel stays
pub put_others : (all : List ℤ) (c j i k : ℕ) (m : ℤ) → j < c → k % c ≢ j
    → get_or (set all (i * c + j) m) k (pos 0) ≡ get_or all k (pos 0)
put_others all c j i k m below other =
    let column = mod-mul-add i c j below in
    get_or-set_other all (i * c + j) k m (pos 0)
    (λ s. other (ap (λ n. n % c) s ∙ column))

-- a place among n rows is in one of them
pub row_below : (k n c : ℕ) → k < n * c → (0 < c) × (k / c < n) × (k % c < c)
row_below k n zero l = absurd (omega arith)
row_below k n (suc c) l =
    (omega arith, div_below k (suc c) n (omega arith) l, mod_below k (suc c) (omega arith))

-- numbers of a channel are in range where all are
pub channel_small : (values : List ℤ) (c j n : ℕ) → length values ≡ n * c → j < c
    → AreNumbers values → AreNumbers (channel_of values c j n)
channel_small values c j n len below small i l =
    let f = λ (v : ℕ). get_or values (v * c + j) (pos 0) in
    let row : i < n = omega (arith, length-map-range_with_len f 0 n) in
    let inside = mul-add-lt i c j n row below in
    subst IsNumber (sym (get_or-map-range_with_len f 0 n i i (pos 0) row (omega arith)))
    (small (i * c + j) (omega (arith, inside, len)))

-- the fits of one channel more
pub channel_put : (h : Hierarchy) (values all now fits : List ℤ) (c j : ℕ)
    → fits
    ≡ map (fit_at h (channel_of values c j (leaf_count h))) (range_with_len 0 (node_count h))
    → ((k : ℕ) → k < node_count h * c → k % c < j → get_or all k (pos 0) ≡ fit_entry h c values k)
    → ((k : ℕ) → k < node_count h * c → k % c ≡ j
    → get_or now k (pos 0) ≡ get_or fits (k / c) (pos 0))
    → ((k : ℕ) → k % c ≢ j → get_or now k (pos 0) ≡ get_or all k (pos 0))
    → (k : ℕ) → k < node_count h * c → k % c < j + 1 → get_or now k (pos 0) ≡ fit_entry h c values k
channel_put h values all now fits c j are was here others k l below =
    elim (cases_lt (k % c) j) [
      | inl before ↦ others k (λ e. omega arith) ∙ was k l before
      | inr not_before ↦
          let same : k % c ≡ j = omega arith in
          let inside = row_below k (node_count h) c l in
          here k l same
          ∙ ap (λ s. get_or s (k / c) (pos 0)) are
          ∙ get_or-map-range_with_len (fit_at h (channel_of values c j (leaf_count h))) 0
          (node_count h) (k / c) (k / c) (pos 0) inside.1 (omega arith)
          ∙ ap (λ i. fit_at h (channel_of values c i (leaf_count h)) (k / c)) (sym same)
    ]

-- the fits of all channels
pub channels_done : (h : Hierarchy) (values all : List ℤ) (c : ℕ)
    → length all ≡ node_count h * c
    → ((k : ℕ) → k < node_count h * c → k % c < c → get_or all k (pos 0) ≡ fit_entry h c values k)
    → all ≡ fit_array h c values
unfolding fit_array
channels_done h values all c len each =
    fill_by_all (fit_entry h c values) all (node_count h * c) (pos 0) len
    (λ k l. each k l (row_below k (node_count h) c l).2)

-- where each fit stands
pub length-fit_array : (h : Hierarchy) (values : List ℤ) (c : ℕ)
    → length (fit_array h c values) ≡ node_count h * c
unfolding fit_array
length-fit_array h values c =
    length-map-range_with_len (fit_entry h c values) 0 (node_count h * c)

pub get_or-fit_array : (h : Hierarchy) (values : List ℤ) (c v j : ℕ) → v < node_count h → j < c
    → get_or (fit_array h c values) (v * c + j) (pos 0)
    ≡ fit_at h (channel_of values c j (leaf_count h)) v
unfolding fit_array
get_or-fit_array h values c v j there below =
    let inside = mul-add-lt v c j (node_count h) there below in
    get_or-map-range_with_len (fit_entry h c values) 0 (node_count h * c) (v * c + j) (v * c + j)
    (pos 0) (omega arith) (omega arith)
    ∙ ap (λ i. fit_at h (channel_of values c i (leaf_count h)) ((v * c + j) / c))
    (mod-mul-add v c j below)
    ∙ ap (λ n. fit_at h (channel_of values c j (leaf_count h)) n) (div-mul-add v c j below)
