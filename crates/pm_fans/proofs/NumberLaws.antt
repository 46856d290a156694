-- The keys of the heads in ascending order, and the place of each.
use Rattle.std.proofs.Common.{◌≡◌, ℕ, ◌+◌, ◌*◌, ◌<◌, ◌≤◌, ◌⊎◌, inl, inr, sym, ap, ◌∙◌, subst, cond}
use Rattle.std.proofs.Common.{eqb, Option, Some, List, [], ◌∷◌, ◌++◌, length, get_or, slice_index}
use Rattle.std.proofs.Common.{slice_index_or, arith}
use Rattle.std.specs.Option.{is_some}
use Rattle.std.specs.Ordering.{nat_cmp}
use Rattle.std.specs.List.{All, Contains, IsDistinct}
use Rattle.std.specs.List.Sorted.{IsPermutation, IsSorted}
use Rattle.std.proofs.lemmas.Bool.{cases_eq, eq-eqb, ne_eqb}
use Rattle.std.proofs.lemmas.Nat.{mod-mul-add}
use Rattle.std.proofs.lemmas.List.{get_or_append_left, length-append, get_or_default}
use Rattle.std.proofs.lemmas.List.Elements.{All-from_get_or, Contains-append_left, Contains-push}
use Rattle.std.proofs.lemmas.List.Sorted.{All-permutation, Contains-permutation, length_permutation}
use Rattle.std.proofs.lemmas.List.Sorted.{IsNonDecreasingBy-from_sort}
use Rattle.std.proofs.lemmas.Map.Keys.{IsDistinct-from_apart, IsDistinct-IsPermutation}
use Rattle.std.proofs.lemmas.Map.Keys.{IsStrictlyIncreasing-from_distinct}
use Rattle.std.proofs.lemmas.Map.Keys.{sorted_from_strictly_increasing, below_from_sorted}
use Rattle.std.proofs.Math.Seq.{get_or-append_seam}
use Rattle.pm_base.specs.declared.mesh.Corners.{Corners}
use Rattle.pm_base.specs.Sides.{Net, no_corners, beside_side}
use Rattle.pm_fans.specs.HeadKeys.{order_key, side_of_key, IsHeadKey, AreCollected, AreHeadKeys}
use Rattle.pm_fans.specs.HeadKeys.{AreKeyPlaces, AreRenamed, new_of}
use Rattle.pm_fans.proofs.ChainLaws.{in_table}

pub key_side : (m : Net) (glued : List (Option ℕ)) (e : ℕ) → e < 4194304
    → side_of_key (order_key m glued e) ≡ e
unfolding order_key
key_side m glued e l =
    mod-mul-add (m.from e * 2 + cond (is_some (beside_side glued e)) 1 0) 4194304 e l

-- What stands in a list after a push.
pub pushed : {X : Type 0} (xs : List X) (y d : X) (i : ℕ) → i < length xs + 1
    → ((i < length xs) × (slice_index_or (xs ++ y ∷ []) i d ≡ slice_index_or xs i d))
    ⊎ ((i ≡ length xs) × (slice_index_or (xs ++ y ∷ []) i d ≡ y))
pushed xs y d i l =
    elim (cases_eq i (length xs)) [
      | inl same ↦
          inr (
            same,
            ap (λ j. slice_index_or (xs ++ y ∷ []) j d) same
                ∙ get_or-append_seam xs y [] d,
          )
      | inr other ↦ let low : i < length xs =
          omega arith in inl (low, get_or_append_left xs (y ∷ []) d i low)
    ]

module _ (m : Net) (glued heads : List (Option ℕ)) (n : ℕ) (xs : List ℕ)
    (c : AreCollected m glued heads n xs) where
  module _ (few : n < 4194304) (own : beside_side heads n ≡ Some n) where
    k : ℕ
    k = order_key m glued n

    long : length (xs ++ order_key m glued n ∷ []) ≡ length xs + 1
    long = length-append xs (order_key m glued n ∷ [])

    side : side_of_key (order_key m glued n) ≡ n
    side = key_side m glued n few

    is_key : IsHeadKey m glued heads (order_key m glued n)
    is_key = record {
      own = subst (λ i. beside_side heads i ≡ Some i) (sym side) own;
      is = ap (order_key m glued) (sym side);
    }

    at_place : (i : ℕ) → i < length (xs ++ order_key m glued n ∷ [])
        → ((i < length xs) × (slice_index (xs ++ order_key m glued n ∷ []) i ≡ slice_index xs i))
        ⊎ ((i ≡ length xs) × (slice_index (xs ++ order_key m glued n ∷ []) i ≡ order_key m glued n))
    at_place i l = pushed xs (order_key m glued n) 0 i (subst (λ j. i < j) long l)

    pub collected_more : AreCollected m glued heads (n + 1) (xs ++ order_key m glued n ∷ [])
    collected_more = record {
      few = let short = c.few in omega (arith, long);
      each = λ i l. elim (at_place i l) [
        | inl (low, is) ↦ subst (IsHeadKey m glued heads) (sym is) (c.each i low)
        | inr (end, is) ↦ subst (IsHeadKey m glued heads) (sym is) is_key
      ];
      low = λ i l. elim (at_place i l) [
        | inl (low, is) ↦ subst (λ j. side_of_key j < n + 1) (sym is) (let b =
            c.low i low in omega arith)
        | inr (end, is) ↦
            subst (λ j. side_of_key j < n + 1) (sym is)
            (subst (λ j. j < n + 1) (sym side) (omega arith))
      ];
      all = λ e l h. elim (cases_eq e n) [
        | inl same ↦ subst (λ j. Contains (xs ++ order_key m glued n ∷ []) (order_key m glued j))
            (sym same) (Contains-push xs (order_key m glued n))
        | inr other ↦ Contains-append_left xs (order_key m glued n ∷ []) (order_key m glued e)
            (c.all e (omega arith) h)
      ];
      apart = λ i j ij jl. elim (at_place j jl) [
        | inl (low, is) ↦
            let before : i < length xs = omega arith in
            let is' : slice_index (xs ++ order_key m glued n ∷ []) i ≡ slice_index xs i =
            get_or_append_left xs (order_key m glued n ∷ []) 0 i before in
            subst (λ x. side_of_key x < side_of_key
            (slice_index (xs ++ order_key m glued n ∷ []) j)) (sym is')
            (subst (λ y. side_of_key (slice_index xs i) < side_of_key y) (sym is)
            (c.apart i j ij low))
        | inr (end, is) ↦
            let before : i < length xs = omega arith in
            let is' : slice_index (xs ++ order_key m glued n ∷ []) i ≡ slice_index xs i =
            get_or_append_left xs (order_key m glued n ∷ []) 0 i before in
            subst (λ x. side_of_key x < side_of_key
            (slice_index (xs ++ order_key m glued n ∷ []) j)) (sym is')
            (subst (λ y. side_of_key (slice_index xs i) < side_of_key y) (sym is)
            (subst (λ y. side_of_key (slice_index xs i) < y) (sym side) (c.low i before)))
      ];
    }

eqb_flips : (x y : ℕ) → eqb x y ≡ eqb y x
eqb_flips x y =
    elim (cases_eq x y) [
      | inl e ↦ eq-eqb x y e ∙ sym (eq-eqb y x (sym e))
      | inr ne ↦ ne_eqb x y ne
          ∙ sym (ne_eqb y x (λ e. ne (sym e)))
    ]

-- Collected keys, sorted.
pub keys_sorted : (m : Net) (glued heads : List (Option ℕ)) (xs ys : List ℕ)
    → AreCollected m glued heads (length heads) xs → IsPermutation xs ys → IsSorted nat_cmp ys
    → AreHeadKeys m glued heads ys
keys_sorted m glued heads xs ys c perm sorted =
    let each : All (IsHeadKey m glued heads) ys =
    All-permutation (IsHeadKey m glued heads) xs ys perm
    (All-from_get_or (IsHeadKey m glued heads) xs 0 c.each) in
    let differ : IsDistinct eqb xs =
    IsDistinct-from_apart eqb xs (λ i j d ij jl. ne_eqb (get_or xs i d) (get_or xs j d) (λ e.
    let il : i < length xs = omega arith in
    let e' : slice_index xs i ≡ slice_index xs j =
    get_or_default xs i 0 d il ∙ e ∙ get_or_default xs j d 0 jl in
    let less = c.apart i j ij jl in
    absurd (omega (arith, ap side_of_key e')))) in
    let rise = IsStrictlyIncreasing-from_distinct ys
    (IsNonDecreasingBy-from_sort (λ x. x) ys sorted)
    (IsDistinct-IsPermutation eqb eqb_flips xs ys perm differ) in
    record {
      few = subst (λ j. j ≤ length heads) (sym (length_permutation xs ys perm)) c.few;
      each = λ i l. each i 0 l;
      all = λ e h. Contains-permutation xs ys (order_key m glued e) perm
          (c.all e (in_table heads e e h) h);
      ascend = λ i j ij jl. below_from_sorted ys i j 0 (sorted_from_strictly_increasing ys rise) ij
          jl;
    }

-- Keys of different heads have different sides.
module _ (m : Net) (glued heads : List (Option ℕ)) (keys : List ℕ)
    (h : AreHeadKeys m glued heads keys) where
  -- The key at a head's place.
  module _ (places : List ℕ) (p : AreKeyPlaces keys places (length heads) (length keys))
      (few : length heads ≤ 3145728) where
    pub place_of : (e : ℕ) → beside_side heads e ≡ Some e → (slice_index places e < length keys)
        × (slice_index keys (slice_index places e) ≡ order_key m glued e)
    place_of e own =
        let (i, l, is) = h.all e own in
        let low = in_table heads e e own in
        let is' : slice_index keys i ≡ order_key m glued e =
        get_or_default keys i 0 (order_key m glued e) l ∙ is in
        let s : side_of_key (slice_index keys i) ≡ e =
        ap side_of_key is' ∙ key_side m glued e (omega arith) in
        let place : slice_index places e ≡ i = ap (slice_index places) (sym s) ∙ p.each i l in
        (subst (λ j. j < length keys) (sym place) l, ap (slice_index keys) place ∙ is')

pub renamed_more : (heads : List (Option ℕ)) (places : List ℕ) (n : ℕ) (fs gs : List Corners)
    (f : Corners) → AreRenamed heads places n fs → gs ≡ fs ++ f ∷ []
    → f.a ≡ new_of heads places (3 * n) → f.b ≡ new_of heads places (3 * n + 1)
    → f.c ≡ new_of heads places (3 * n + 2) → AreRenamed heads places (n + 1) gs
renamed_more heads places n fs gs f r is a b c =
    let long = r.long in
    let found = λ (i : ℕ) (l : i < n + 1). pushed fs f no_corners i
    (subst (λ j. i < j + 1) (sym r.long) l) in
    let here = λ (i : ℕ). ap (λ xs. slice_index_or xs i no_corners) is in
    record {
      long = omega (arith, ap length is, length-append fs (f ∷ []));
      a = λ i l. elim (found i l) [
        | inl (low, e) ↦ ap (λ (k : Corners). k.a) (here i ∙ e) ∙ r.a i (omega arith)
        | inr (end, e) ↦ ap (λ (k : Corners). k.a) (here i ∙ e) ∙ a
            ∙ ap (λ j. new_of heads places (3 * j)) (sym (end ∙ long))
      ];
      b = λ i l. elim (found i l) [
        | inl (low, e) ↦ ap (λ (k : Corners). k.b) (here i ∙ e) ∙ r.b i (omega arith)
        | inr (end, e) ↦ ap (λ (k : Corners). k.b) (here i ∙ e) ∙ b
            ∙ ap (λ j. new_of heads places (3 * j + 1)) (sym (end ∙ long))
      ];
      c = λ i l. elim (found i l) [
        | inl (low, e) ↦ ap (λ (k : Corners). k.c) (here i ∙ e) ∙ r.c i (omega arith)
        | inr (end, e) ↦ ap (λ (k : Corners). k.c) (here i ∙ e) ∙ c
            ∙ ap (λ j. new_of heads places (3 * j + 2)) (sym (end ∙ long))
      ];
    }
