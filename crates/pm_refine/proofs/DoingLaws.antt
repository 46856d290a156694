-- The plan is the splits of one set of records and the collapses of another, and goes on once its
-- first move is made.
use Rattle.std.proofs.Common.{◌≡◌, ◌≢◌, ℕ, zero, suc, ◌-◌, ◌<◌, Bool, true, false, List, [], ◌∷◌}
use Rattle.std.proofs.Common.{◌++◌, length, take, set, length-set, get_or-set_same}
use Rattle.std.proofs.Common.{get_or-set_other, ◌⊎◌, inl, inr, refl, sym, ap, ◌∙◌, subst, arith}
use Rattle.std.proofs.lemmas.Bool.{cases_Bool, cases_eq}
use Rattle.std.proofs.lemmas.List.{take_all}
use Rattle.pm_sets.specs.Sets.{IsEmptySet, IsFirst, IsLast}
use Rattle.pm_forest.specs.Forest.{Hierarchy, record_count}
use Rattle.pm_base.specs.Counts.{set_of}
use Rattle.pm_beyond.specs.Valid.{IsValid}
use Rattle.pm_beyond.specs.Moves.{IsClosed}
use Rattle.pm_beyond.specs.Plans.{Move, Split, Collapse, moved, moved_by, MayMove, AreLegal}
use Rattle.pm_beyond.specs.Plans.{ascending, descending, less, plan}
use Rattle.pm_beyond.proofs.PlanLists.{ascending-zero, ascending-true, ascending-false}
use Rattle.pm_beyond.proofs.PlanLists.{descending-zero, descending-true, descending-false}
use Rattle.pm_beyond.proofs.PlanLists.{legal-take, same_bools}
use Rattle.pm_beyond.proofs.PlanSteps.{ascending-same, descending-same}
use Rattle.pm_beyond.proofs.PlanTheory.{legal}
use Rattle.pm_front.specs.Corners.{moved_lists, corner_lists_after}
use Rattle.pm_refine.specs.Holding.{HoldsFrom, HoldsMoves}
use Rattle.pm_refine.specs.Doing.{splits_of, collapses_of, moves_of, AreToDo}
use Rattle.pm_sets.proofs.FlagLaws.{in_below}

module _ (make : ℕ → Move) (p : ℕ → Bool) where
  ascending_none : (n : ℕ) → ((j : ℕ) → j < n → p j ≡ false) → ascending make p n ≡ []
  ascending_none zero none = ascending-zero make p
  ascending_none (suc n) none =
      ascending-false make p n (none n (omega arith))
      ∙ ascending_none n (λ j l. none j (omega arith))

  descending_none : (n : ℕ) → ((j : ℕ) → j < n → p j ≡ false) → descending make p n ≡ []
  descending_none zero none = descending-zero make p
  descending_none (suc n) none =
      descending-false make p n (none n (omega arith))
      ∙ descending_none n (λ j l. none j (omega arith))

-- The other numbers that pass are those that pass another test.
module _ (make : ℕ → Move) (p q : ℕ → Bool) (k : ℕ) (there : p k ≡ true) (out : q k ≡ false)
    (same : (j : ℕ) → j ≢ k → p j ≡ q j) where
  ascending_first : (n : ℕ) → k < n → ((j : ℕ) → j < k → p j ≡ false)
      → ascending make p n ≡ make k ∷ ascending make q n
  ascending_first zero l none = absurd (omega arith)
  ascending_first (suc n) l none =
      elim (cases_eq k n) [
        | inl is ↦
            let before = ascending_none make p n (λ j m. none j (omega arith)) in
            let later : ascending make q n ≡ [] =
            sym (ascending-same make p q n (λ j m. same j (λ e. absurd (omega arith))))
            ∙ before in
            ascending-true make p n (subst (λ i. p i ≡ true) is there)
            ∙ ap (λ ms. ms ++ make n ∷ []) before ∙ ap (λ i. make i ∷ []) (sym is)
            ∙ sym (ap (λ ms. make k ∷ ms)
            (ascending-false make q n (subst (λ i. q i ≡ false) is out) ∙ later))
        | inr other ↦
            let rest = ascending_first n (omega arith) none in
            let here = same n (λ e. other (sym e)) in
            elim (cases_Bool (q n)) [
              | inl t ↦ ascending-true make p n (here ∙ t) ∙ ap (λ ms. ms ++ make n ∷ []) rest
                  ∙ sym (ap (λ ms. make k ∷ ms) (ascending-true make q n t))
              | inr f ↦ ascending-false make p n (here ∙ f) ∙ rest
                  ∙ sym (ap (λ ms. make k ∷ ms) (ascending-false make q n f))
            ]
      ]

  descending_first : (n : ℕ) → k < n → ((j : ℕ) → k < j → j < n → p j ≡ false)
      → descending make p n ≡ make k ∷ descending make q n
  descending_first zero l none = absurd (omega arith)
  descending_first (suc n) l none =
      elim (cases_eq k n) [
        | inl is ↦
            let rest = descending-same make p q n (λ j m. same j (λ e. absurd (omega arith))) in
            descending-true make p n (subst (λ i. p i ≡ true) is there)
            ∙ ap (λ i. make i ∷ descending make p n) (sym is)
            ∙ ap (λ ms. make k ∷ ms)
            (rest ∙ sym (descending-false make q n (subst (λ i. q i ≡ false) is out)))
        | inr other ↦
            let f = none n (omega arith) (omega arith) in
            descending-false make p n f
            ∙ descending_first n (omega arith) (λ j m less. none j m (omega arith))
            ∙ sym (ap (λ ms. make k ∷ ms)
            (descending-false make q n (sym (same n (λ e. other (sym e))) ∙ f)))
      ]

-- The first split is that of the first record of the set, and the first collapse that of the last
-- one.
module _ (m : List Bool) (k : ℕ) where
  same_else : (j : ℕ) → j ≢ k → set_of m j ≡ set_of (set m k false) j
  same_else j other = sym (get_or-set_other m k j false false other)

  pub splits_first : IsFirst m 0 k → splits_of m ≡ Split k ∷ splits_of (set m k false)
  splits_first first =
      let l = in_below m k first.there in
      ascending_first Split (set_of m) (set_of (set m k false)) k first.there
      (get_or-set_same m k false false l) same_else (length m) l
      (λ j low. first.none j (omega arith) low)
      ∙ ap (λ n. Split k ∷ ascending Split (set_of (set m k false)) n)
      (sym (length-set {A = Bool} m k false))

  pub collapses_first : IsLast m (length m) k
      → collapses_of m ≡ Collapse k ∷ collapses_of (set m k false)
  collapses_first last =
      let l = in_below m k last.there in
      descending_first Collapse (set_of m) (set_of (set m k false)) k last.there
      (get_or-set_same m k false false l) same_else (length m) l last.none
      ∙ ap (λ n. Collapse k ∷ descending Collapse (set_of (set m k false)) n)
      (sym (length-set {A = Bool} m k false))

pub splits_none : (m : List Bool) → IsEmptySet m → splits_of m ≡ []
splits_none m none = ascending_none Split (set_of m) (length m) (λ j l. none j)

pub collapses_none : (m : List Bool) → IsEmptySet m → collapses_of m ≡ []
collapses_none m none = descending_none Collapse (set_of m) (length m) (λ j l. none j)

-- Lists of moves, one after the other.
take_both : (n : ℕ) (xs ys : List Move) → take n (xs ++ ys) ≡ take n xs ++ take (n - length xs) ys
take_both zero xs ys = let none : 0 - length xs ≡ 0 =
    omega arith in sym (ap (λ i. take 0 xs ++ take i ys) none)
take_both (suc n) [] ys = let all : suc n - 0 ≡ suc n = omega arith in sym (ap (λ i. take i ys) all)
take_both (suc n) (x ∷ xs) ys =
    let less : suc n - suc (length xs) ≡ n - length xs = omega arith in
    ap (λ ms. x ∷ ms) (take_both n xs ys) ∙ sym (ap (λ i. x ∷ take n xs ++ take i ys) less)

module _ (h : Hierarchy) where
  legal-parts : (T : ℕ → Bool) (xs ys : List Move) → AreLegal h T (xs ++ ys)
      → AreLegal h T xs × AreLegal h (moved_by T xs) ys
  legal-parts T [] ys all = (tt, all)
  legal-parts T (x ∷ xs) ys all = let p = legal-parts (moved T x) xs ys all.1 in ((all.0, p.0), p.1)

  pub lists-append : (T : ℕ → Bool) (xs ys : List Move) (ls : List (List ℕ))
      → corner_lists_after h T (xs ++ ys) ls
      ≡ corner_lists_after h (moved_by T xs) ys (corner_lists_after h T xs ls)
  lists-append T [] ys ls = refl
  lists-append T (x ∷ xs) ys ls = lists-append (moved T x) xs ys (moved_lists h T x ls)

-- The plan is the splits of the one set and the collapses of the other, and they are legal.
module _ (h : Hierarchy) (S G : ℕ → Bool) (splits collapses : List Bool)
    (m : HoldsMoves (record_count h) S G 0 splits collapses) where
  as_held : (p : ℕ → Bool) (flags : List Bool) → HoldsFrom (record_count h) p 0 flags → (j : ℕ)
      → j < record_count h → p j ≡ set_of flags j
  as_held p flags holds j l =
      same_bools (p j) (set_of flags j) (λ t. holds.there j (omega arith) l t)
      (λ t. (holds.only j t).1)

  pub plan_is : plan h S G ≡ moves_of splits collapses
  unfolding plan
  plan_is =
      let n = record_count h in
      let up : ascending Split (less G S) n ≡ splits_of splits =
      ascending-same Split (less G S) (set_of splits) n (as_held (less G S) splits m.up)
      ∙ ap (ascending Split (set_of splits)) (sym m.up.len) in
      let down : descending Collapse (less S G) n ≡ collapses_of collapses =
      descending-same Collapse (less S G) (set_of collapses) n (as_held (less S G) collapses m.down)
      ∙ ap (descending Collapse (set_of collapses)) (sym m.down.len) in
      ap (λ ms. ms ++ descending Collapse (less S G) n) up ∙ ap (λ ms. splits_of splits ++ ms) down

  pub plan_legal : IsValid h → IsClosed h S → IsClosed h G
      → AreLegal h S (moves_of splits collapses)
  plan_legal valid a b = subst (AreLegal h S) plan_is (legal h valid S G a b)

-- The first moves of two sets are the first splits, and then the first collapses with what is left
-- of the budget.
module _ (splits collapses : List Bool) (budget : ℕ) where
  pub moves_start : take budget (moves_of splits collapses) ≡ take budget (splits_of splits)
      ++ take (budget - length (splits_of splits)) (collapses_of collapses)
  moves_start = take_both budget (splits_of splits) (collapses_of collapses)

  -- They are legal where all are.
  pub may_start : (h : Hierarchy) (S : ℕ → Bool) → AreLegal h S (moves_of splits collapses)
      → AreLegal h S (take budget (splits_of splits))
      × AreLegal h (moved_by S (take budget (splits_of splits)))
      (take (budget - length (splits_of splits)) (collapses_of collapses))
  may_start h S all =
      legal-parts h S (take budget (splits_of splits))
      (take (budget - length (splits_of splits)) (collapses_of collapses))
      (subst (AreLegal h S) moves_start (legal-take h S budget (moves_of splits collapses) all))

-- Some moves of a list are to do; its first one is legal,
module _ (h : Hierarchy) (T U : ℕ → Bool) (before after : List (List ℕ)) (ms : List Move) where
  starts : (left : ℕ) (move : Move) (rest : List Move) → 0 < left → ms ≡ move ∷ rest
      → take left ms ≡ move ∷ take (left - 1) rest
  starts left move rest some is = let next : left ≡ suc (left - 1) =
      omega arith in ap (take left) is ∙ ap (λ i. take i (move ∷ rest)) next

  pub may_make : (left : ℕ) (move : Move) (rest : List Move) → 0 < left → ms ≡ move ∷ rest
      → AreToDo h T U before after (take left ms) → MayMove h T move
  may_make left move rest some is d =
      (subst (AreLegal h T) (starts left move rest some is) d.legal).0

  -- and once it is made the others are to do.
  pub one_made : (left : ℕ) (move : Move) (rest : List Move) (V : ℕ → Bool) (now : List (List ℕ))
      → 0 < left → ms ≡ move ∷ rest → V ≡ moved T move → now ≡ moved_lists h T move before →
      AreToDo h T U before after (take left ms) → AreToDo h V U now after (take (left - 1) rest)
  one_made left move rest V now some is goes lists d =
      let e = subst (AreToDo h T U before after) (starts left move rest some is) d in
      subst (λ W. AreToDo h W U now after (take (left - 1) rest)) (sym goes)
      (subst (λ ls. AreToDo h (moved T move) U ls after (take (left - 1) rest)) (sym lists)
      (record { legal = e.legal.1; ends = e.ends; corners = e.corners }))

-- Where none is to do, the set and its lists are reached.
pub all_made : (h : Hierarchy) (T U : ℕ → Bool) (before after : List (List ℕ)) (ms : List Move)
    → ms ≡ [] → AreToDo h T U before after ms → (T ≡ U) × (before ≡ after)
all_made h T U before after ms none d = let e = subst (AreToDo h T U before after) none d in
    (e.ends, e.corners)

pub none_taken : (left : ℕ) (ms : List Move) → (left ≡ 0) ⊎ (ms ≡ []) → take left ms ≡ []
none_taken left ms (inl none) = ap (λ i. take i ms) none
none_taken left ms (inr none) = ap (take left) none ∙ take_all left [] (omega arith)
