-- Flags of the vertices that were merged and of the faces that were dropped, and what is left.
use Rattle.std.proofs.Common.{zero, suc, ◌≡◌, ◌≢◌, ℕ, ◌+◌, ◌<◌, ◌≤◌, eqb, Bool, true, false, cond}
use Rattle.std.proofs.lemmas.Grind.{common_steps}
use Rattle.std.proofs.Common.{not, ◌||◌, List, [], ◌∷◌, ◌++◌, length, get_or, Option, None, Some}
use Rattle.std.proofs.Common.{is_some, is_none, refl, sym, ap, ◌∙◌, arith}
use Rattle.std.proofs.Common.{get_or-set_same, get_or-set_other}
use Rattle.std.specs.List.{filter, range_with_len}
use Rattle.std.proofs.lemmas.List.FromFn.{filter_of_map_range_with_len_more}
use Rattle.std.proofs.lemmas.List.{map-id}
use Rattle.std.proofs.Math.ListN.{set}
use Rattle.std.proofs.lemmas.List.{length-set, get_or_default}
use Rattle.pm_base.specs.declared.log.Collapse.{Collapse}
use Rattle.std.proofs.lemmas.Bool.{eqb-true, eq-eqb, ne_eqb}
use Rattle.pm_base.specs.Sides.{find_below}
use Rattle.pm_base.specs.declared.log.Gone.{Gone}
use Rattle.pm_number.specs.Stages.{Run, no_collapse, steps, entry_at, net_of_run_after, IsGone}
use Rattle.pm_number.specs.Stages.{IsMerging}
use Rattle.pm_number.specs.Numbering.{picked, takes, taken_by, is_gone, drops, dropped_by}
use Rattle.pm_number.specs.Numbering.{left_over, base_faces}
use Rattle.pm_number.specs.Tables.{is_unset}
use Rattle.pm_number.proofs.FacePositions.{gone-lt}
use Rattle.pm_number.proofs.RunLaws.{ends_given}
use Rattle.pm_number.proofs.NodeNumbers.{t_differs}

-- a flag that is set, and the others
pub flag_set : (flags : List Bool) (w v : ℕ) → w < length flags → get_or (set flags w true) v false
    ≡ (eqb w v || get_or flags v false)
flag_set flags w v l =
    grind (arith, common_steps, eq-eqb, get_or-set_other, get_or-set_same, ne_eqb)

pub is_some-next : (p : ℕ → Bool) (n : ℕ)
    → is_some (find_below p (n + 1)) ≡ (p n || is_some (find_below p n))
is_some-next p n = grind (arith, common_steps)

or_turned : (a b c : Bool) → (a || (b || c)) ≡ (b || a || c)
or_turned true true c = refl
or_turned true false c = refl
or_turned false true c = refl
or_turned false false c = refl

-- The same numbers are picked where two tests agree.
pub picked-same : (p q : ℕ → Bool) (a n : ℕ) → ((v : ℕ) → a ≤ v → v < a + n → p v ≡ q v)
    → picked p a n ≡ picked q a n
picked-same p q a zero same = refl
picked-same p q a (suc n) same =
    let later = picked-same p q (a + 1) n (λ v b c. same v (omega arith) (omega arith)) in
    rw (same a (omega arith) (omega arith), later) refl

pub not_some : {A : Type 0} (o : Option A) (b : Bool) → b ≡ is_some o → not b ≡ is_none o
not_some None b is = rw is refl
not_some (Some x) b is = rw is refl

-- a face that the log drops is a face
gone_some : (r : Run) (i p q : ℕ) (g : Option Gone) → IsMerging r
    → IsGone (net_of_run_after r i) p q g → (f : ℕ) → is_gone f g ≡ true → f < r.net.faces
gone_some r i p q None run gone f is = absurd cc
gone_some r i p q (Some x) run gone f is =
    rw (← eqb-true x.face.0 f is) (gone-lt r run i p q (Some x) x gone refl)

pub gone_inside : (r : Run) (i : ℕ) → IsMerging r → i < steps r → (f : ℕ) →
    (is_gone f (entry_at r i).left ≡ true → f < r.net.faces)
    × (is_gone f (entry_at r i).right ≡ true → f < r.net.faces)
gone_inside r i run l f = (
  gone_some r i (entry_at r i).t (entry_at r i).u (entry_at r i).left run (run.logged i l).left f,
  gone_some r i (entry_at r i).u (entry_at r i).t (entry_at r i).right run (run.logged i l).right f,
)

-- flags after one more collapse
pub taken_more : (r : Run) (i : ℕ) {c : Collapse} (flags : List Bool) → c ≡ entry_at r i
    → c.t < length flags → c.u < length flags → (v : ℕ)
    → get_or flags v false ≡ is_some (find_below (takes r v) i)
    → get_or (set (set flags c.t true) c.u true) v false ≡ is_some (find_below (takes r v) (i + 1))
taken_more r i {c} flags is t u v before =
    let flags' = set flags c.t true in
    let second : c.u < length flags' = omega (arith, length-set flags c.t true) in
    let both : (eqb c.u v || (eqb c.t v || get_or flags v false))
    ≡ (eqb c.t v || eqb c.u v || get_or flags v false) =
    or_turned (eqb c.u v) (eqb c.t v) (get_or flags v false) in
    flag_set flags' c.u v second ∙ ap (λ b. eqb c.u v || b) (flag_set flags c.t v t) ∙ both
    ∙ rw (is, before) (sym (is_some-next (takes r v) i))

pub dropped_more : (r : Run) (i : ℕ) {c : Collapse} → c ≡ entry_at r i → (f : ℕ)
    → (is_gone f c.right || (is_gone f c.left || is_some (find_below (drops r f) i)))
    ≡ is_some (find_below (drops r f) (i + 1))
dropped_more r i {c} is f =
    or_turned (is_gone f c.right) (is_gone f c.left) (is_some (find_below (drops r f) i))
    ∙ rw is (sym (is_some-next (drops r f) i))

-- what is left
pub left_is : (r : Run) (flags : List Bool) → length flags ≡ r.vertices + steps r
    → ((v : ℕ) → v < r.vertices + steps r → get_or flags v false ≡ is_some (taken_by r v)) →
    picked (is_unset flags) 0 (length flags) ≡ left_over r
unfolding left_over
left_is r flags len each =
    rw len (picked-same (is_unset flags) (λ v. is_none (taken_by r v)) 0 (r.vertices + steps r)
    (λ v a b. not_some (taken_by r v) (get_or flags v false) (each v (omega arith))))

pub bases_are : (r : Run) (flags : List Bool) → length flags ≡ r.net.faces
    → ((f : ℕ) → f < r.net.faces → get_or flags f false ≡ is_some (dropped_by r f)) →
    picked (is_unset flags) 0 (length flags) ≡ base_faces r
unfolding base_faces
bases_are r flags len each =
    rw len (picked-same (is_unset flags) (λ f. is_none (dropped_by r f)) 0 r.net.faces
    (λ f a b. not_some (dropped_by r f) (get_or flags f false) (each f (omega arith))))

-- What holds of a collapse of a run.
pub record EntryFits (r : Run) (i : ℕ) (c : Collapse) : Type 0 where
  pub value : c ≡ entry_at r i
  pub made : c.s ≡ r.vertices + i
  pub first : c.t < r.vertices + i
  pub second : c.u < r.vertices + i
  pub differ : c.t ≢ c.u
  pub left : (f : ℕ) → is_gone f c.left ≡ true → f < r.net.faces
  pub right : (f : ℕ) → is_gone f c.right ≡ true → f < r.net.faces

-- and so of what is read of the log
pub entry_fits : {r : Run} {i : ℕ} (d : Collapse) → IsMerging r → i < steps r
    → EntryFits r i (get_or r.log i d)
unfolding entry_at
entry_fits {r} {i} d run l =
    let is : get_or r.log i d ≡ entry_at r i = get_or_default r.log i d no_collapse l in
    let named = run.named i l in
    let ends = ends_given r run i l in
    let differ = t_differs r run i l in
    let inside = gone_inside r i run l in
    rw is (record {
      value = refl;
      made = named;
      first = ends.0;
      second = ends.1;
      differ = differ;
      left = λ f. (inside f).0;
      right = λ f. (inside f).1;
    })

-- one number more is picked where it passes
pub picked_more : (p : ℕ → Bool) (k : ℕ) → picked p 0 (k + 1) ≡ picked p 0 k
    ++ cond (p k) (k ∷ []) []
picked_more p k =
    ap (filter p) (sym (map-id (range_with_len 0 (k + 1))))
    ∙ filter_of_map_range_with_len_more p (λ (x : ℕ). x) 0 k k (omega arith)
    ∙ ap (λ xs. filter p xs ++ cond (p k) (k ∷ []) []) (map-id (range_with_len 0 k))
