-- A move has no fault exactly where it is legal, and what blocks a move.
use Rattle.std.proofs.Common.{◌≡◌, ◌≢◌, ℕ, ◌*◌, ◌<◌, Bool, true, false, cond, not, ◌&&◌, Option}
use Rattle.std.proofs.lemmas.Grind.{common_steps}
use Rattle.std.proofs.Common.{Some, None, List, [], ◌∷◌, ◌⊎◌, refl, sym, ap, ◌∙◌, subst}
use Rattle.std.proofs.Common.{arith}
use Rattle.std.proofs.lemmas.Bool.{eqb-true, eq-eqb, cond-true, cond-false, false≢true}
use Rattle.std.proofs.lemmas.Bool.{and_parts, and_from, not-true, not_from_false}
use Rattle.std.proofs.lemmas.Option.{none-some, same_Some}
use Rattle.pm_base.specs.Sides.{face_of}
use Rattle.pm_forest.specs.Forest.{Hierarchy, record_at, record_count, s_of, t_of, u_of}
use Rattle.pm_forest.specs.Fronts.{is_active}
use Rattle.pm_forest.specs.Faces.{face_count, revealed_by, record_of}
use Rattle.pm_forest.specs.Kept.{is_kept}
use Rattle.pm_forest.specs.Moves.{neighbours_of, first_dropped, may_try, blocking}
use Rattle.pm_forest.proofs.Active.{is_active-true, is_active-from}
use Rattle.pm_forest.proofs.Shown.{shown_record}
use Rattle.pm_forest.proofs.ShapeLaws.{shape_of_nodes}
use Rattle.pm_beyond.specs.declared.moves.MoveFault.{MoveFault}
use Rattle.pm_beyond.specs.declared.moves.MoveFault.TheVariants as faults
use Rattle.pm_beyond.specs.Walks.{IsOuter, Beyond, beyond_of, expected}
use Rattle.pm_beyond.specs.Valid.{IsValid}
use Rattle.pm_beyond.specs.Moves.{IsClosed, MaySplit, MayCollapse, outer_sides, blocked_by}
use Rattle.pm_beyond.specs.Moves.{split_fault, may_try_collapse, same_side, face_beyond}
use Rattle.pm_beyond.specs.Moves.{first_other, collapse_fault}
use Rattle.pm_beyond.proofs.Distinct.{In, in-here, in-later, in-nil, in-cases}
use Rattle.pm_beyond.proofs.Neighbours.{recorded-in, recorded-has}
use Rattle.pm_beyond.proofs.Found.{beyond-found}
use Rattle.pm_beyond.proofs.Reaching.{Beyond-unique}
use Rattle.pm_beyond.proofs.Standing.{forest_of, closed-front}
use Rattle.pm_beyond.proofs.Closed.{blocked-by_greater}
use Rattle.pm_beyond.proofs.Outer.{outer_sides-outer, outer_sides-has}

-- What a move answers

done_parts : (b : Bool) (r : Option ℕ) → cond b (blocked_by r) (Some faults.NotActive) ≡ None
    → (b ≡ true) × (r ≡ None)
done_parts true None e = (refl, refl)
done_parts true (Some f) e = absurd cc
done_parts false r e = absurd cc

done_from : (b : Bool) (r : Option ℕ) → b ≡ true → r ≡ None
    → cond b (blocked_by r) (Some faults.NotActive) ≡ None
done_from b r e f = cond-true b (blocked_by r) (Some faults.NotActive) e ∙ ap blocked_by f

abbrev blocker : Option MoveFault → ℕ
blocker None = 0
blocker (Some faults.NotActive) = 0
blocker (Some (faults.Blocked g)) = g.0

blocked_parts : (f : ℕ) (b : Bool) (r : Option ℕ) → cond b (blocked_by r) (Some faults.NotActive)
    ≡ Some (faults.Blocked (record { 0 = f })) → (b ≡ true) × (r ≡ Some f)
blocked_parts f true None e = absurd cc
blocked_parts f true (Some g) e = (refl, ap (λ r. Some (blocker r)) e)
blocked_parts f false r e = absurd cc

-- Dropped neighbours

dropped_none : (h : Hierarchy) (T : ℕ → Bool) (xs : List ℕ) → first_dropped h T xs ≡ None → (b : ℕ)
    → In b xs → is_kept h T (face_of b) ≡ true
dropped_none h T [] e b i = absurd (in-nil b i)
dropped_none h T (x ∷ xs) e b i =
    grind (arith, common_steps, cond-false, cond-true, in-cases, none-some, dropped_none h T xs)

none_dropped : (h : Hierarchy) (T : ℕ → Bool) (xs : List ℕ)
    → ((b : ℕ) → In b xs → is_kept h T (face_of b) ≡ true) → first_dropped h T xs ≡ None
none_dropped h T [] all = refl
none_dropped h T (x ∷ xs) all =
    cond-true _ (first_dropped h T xs) (Some (face_of x)) (all x (in-here x xs))
    ∙ none_dropped h T xs (λ b i. all b (in-later b x xs i))

some_dropped : (h : Hierarchy) (T : ℕ → Bool) (f : ℕ) (xs : List ℕ) → first_dropped h T xs ≡ Some f
    → (b : ℕ) × In b xs × (face_of b ≡ f) × (is_kept h T f ≡ false)
some_dropped h T f [] e = absurd (none-some f e)
some_dropped h T f (x ∷ xs) e =
    grind (
      arith,
      common_steps,
      cond-false,
      cond-true,
      in-here,
      in-later,
      same_Some,
      some_dropped h T f xs,
    )

module _ (h : Hierarchy) (valid : IsValid h) (T : ℕ → Bool) (closed : IsClosed h T) (k : ℕ)
    (l : k < record_count h) where
  pub split-done : split_fault h T k ≡ None → MaySplit h T k
  unfolding split_fault
  split-done e =
      let nodes = shape_of_nodes h valid.shape in
      let older = nodes.older k l in
      let p = done_parts (may_try h T k) (blocking h T k) e in
      let q = and_parts (is_active h T (s_of h k)) (not (T k)) p.0 in
      record {
        active = is_active-true h nodes T (s_of h k) (omega arith) q.0;
        unsplit = not-true (T k) q.1;
        present = λ s b s_lt outer r. dropped_none h T (neighbours_of (record_at h k)) p.1 b
            (recorded-in h k s b s_lt outer r);
      }

  pub split-from : MaySplit h T k → split_fault h T k ≡ None
  unfolding split_fault
  split-from may =
      let nodes = shape_of_nodes h valid.shape in
      done_from (may_try h T k) (blocking h T k)
      (and_from (is_active h T (s_of h k)) (not (T k))
      (is_active-from h nodes T (s_of h k) may.active) (not_from_false (T k) may.unsplit))
      (none_dropped h T (neighbours_of (record_at h k)) (λ b i.
      let r = recorded-has h k b l i in
      may.present r.side b r.is_side r.outer r.expects))

  -- What blocks a split is the face of a recorded neighbour that isn't kept.
  pub split-blocked : (f : ℕ) → split_fault h T k ≡ Some (faults.Blocked (record { 0 = f }))
      → (b : ℕ) × In b (neighbours_of (record_at h k)) × (face_of b ≡ f) × (is_kept h T f ≡ false)
  unfolding split_fault
  split-blocked f e =
      let p = blocked_parts f (may_try h T k) (blocking h T k) e in
      some_dropped h T f (neighbours_of (record_at h k)) p.1

-- Other sides than the recorded ones

pub same_side-parts : (r s : Option ℕ) → same_side r s ≡ true → r ≡ s
same_side-parts None None e = refl
same_side-parts None (Some y) e = absurd (false≢true e)
same_side-parts (Some x) None e = absurd (false≢true e)
same_side-parts (Some x) (Some y) e = ap Some (eqb-true x y e)

pub same_side-from : (r s : Option ℕ) → r ≡ s → same_side r s ≡ true
same_side-from None s e = ap (same_side None) (sym e)
same_side-from (Some x) s e = ap (same_side (Some x)) (sym e) ∙ eq-eqb x x refl

face_at-none : (r : Option ℕ) → face_beyond r ≡ None → r ≡ None
face_at-none None e = refl
face_at-none (Some b) e = absurd (none-some (face_of b) (sym e))

face_at-some : (f : ℕ) (r : Option ℕ) → face_beyond r ≡ Some f → (c : ℕ) × (r ≡ Some c)
    × (face_of c ≡ f)
face_at-some f None e = absurd (none-some f e)
face_at-some f (Some c) e = (c, refl, same_Some (face_of c) f e)

-- Beyond side e stands what is expected there, or a side that isn't.
abbrev MetAt : Hierarchy → (ℕ → Bool) → ℕ → Type 0
MetAt h T e =
    (beyond_of h T e ≡ expected h e)
    ⊎ ((c : ℕ) × (beyond_of h T e ≡ Some c) × (expected h e ≢ Some c))

others_none : (h : Hierarchy) (T : ℕ → Bool) (xs : List ℕ) → ((e : ℕ) → In e xs → MetAt h T e)
    → first_other h T xs ≡ None → (e : ℕ) → In e xs → beyond_of h T e ≡ expected h e
others_none h T [] met n e i = absurd (in-nil e i)
others_none h T (x ∷ xs) met n e i =
    grind (
      arith,
      common_steps,
      cond-false,
      cond-true,
      face_at-none,
      in-cases,
      in-here,
      in-later,
      none-some,
      same_side-from,
      same_side-parts,
      others_none h T xs,
    )

none_other : (h : Hierarchy) (T : ℕ → Bool) (xs : List ℕ)
    → ((e : ℕ) → In e xs → beyond_of h T e ≡ expected h e) → first_other h T xs ≡ None
none_other h T [] all = refl
none_other h T (x ∷ xs) all =
    grind (arith, common_steps, cond-true, in-here, in-later, same_side-from, none_other h T xs)

some_other : (h : Hierarchy) (T : ℕ → Bool) (f : ℕ) (xs : List ℕ) → first_other h T xs ≡ Some f
    → (e : ℕ) × (c : ℕ) × In e xs × (beyond_of h T e ≡ Some c) × (face_of c ≡ f)
    × (beyond_of h T e ≢ expected h e)
some_other h T f [] n = absurd (none-some f n)
some_other h T f (x ∷ xs) n =
    grind (
      arith,
      common_steps,
      cond-false,
      cond-true,
      face_at-some,
      in-here,
      in-later,
      same_side-from,
      some_other h T f xs,
    )

module _ (h : Hierarchy) (valid : IsValid h) (T : ℕ → Bool) (closed : IsClosed h T) (k : ℕ)
    (l : k < record_count h) where
  found : T k ≡ true → (e : ℕ) → e < 3 * face_count h → IsOuter h k e
      → Beyond h T e (beyond_of h T e)
  found f e m outer =
      beyond-found h (forest_of h valid) valid.no_side_twice T (closed-front h T closed) e m
      (shown_record h T e k outer.0 ∙ f)

  met_at : T k ≡ true → (e : ℕ) → e < 3 * face_count h → IsOuter h k e → MetAt h T e
  met_at f e m outer =
      grind (
        arith,
        common_steps,
        blocked-by_greater h valid T closed k e (beyond_of h T e) l f m outer (found f e m outer),
        found f e m outer,
        same_side-from (beyond_of h T e) (expected h e),
        same_side-parts (beyond_of h T e) (expected h e),
      )

  pub collapse-done : collapse_fault h T k ≡ None → MayCollapse h T k
  unfolding collapse_fault
  collapse-done e =
      let nodes = shape_of_nodes h valid.shape in
      let p = done_parts (may_try_collapse h T k) (first_other h T (outer_sides h k)) e in
      let q = and_parts (T k) (is_active h T (t_of h k) && is_active h T (u_of h k)) p.0 in
      let r = and_parts (is_active h T (t_of h k)) (is_active h T (u_of h k)) q.1 in
      record {
        is_split = q.0;
        t_active = is_active-true h nodes T (t_of h k) (omega arith) r.0;
        u_active = is_active-true h nodes T (u_of h k) (omega arith) r.1;
        as_recorded = λ s m outer.
            let same = others_none h T (outer_sides h k) (λ g i. let o =
            outer_sides-outer h k g l i in met_at q.0 g o.1 o.0) p.1 s
            (outer_sides-has h k s m outer) in
            subst (Beyond h T s) same (found q.0 s m outer);
      }

  pub collapse-from : MayCollapse h T k → collapse_fault h T k ≡ None
  unfolding collapse_fault
  collapse-from may =
      let nodes = shape_of_nodes h valid.shape in
      done_from (may_try_collapse h T k) (first_other h T (outer_sides h k))
      (and_from (T k) (is_active h T (t_of h k) && is_active h T (u_of h k)) may.is_split
      (and_from (is_active h T (t_of h k)) (is_active h T (u_of h k))
      (is_active-from h nodes T (t_of h k) may.t_active)
      (is_active-from h nodes T (u_of h k) may.u_active)))
      (none_other h T (outer_sides h k) (λ s i.
      let outer = outer_sides-outer h k s l i in
      Beyond-unique h (forest_of h valid) valid.no_side_twice T s (beyond_of h T s) (expected h s)
      (found may.is_split s outer.1 outer.0) (may.as_recorded s outer.1 outer.0)))

  -- What blocks a collapse is a face of a greater record of the set.
  pub collapse-blocked : (f : ℕ) → collapse_fault h T k ≡ Some (faults.Blocked (record { 0 = f }))
      → (j : ℕ) × (revealed_by h f ≡ Some j) × (T j ≡ true) × (k < j)
  unfolding collapse_fault
  collapse-blocked f e =
      let p = blocked_parts f (may_try_collapse h T k) (first_other h T (outer_sides h k)) e in
      let q = and_parts (T k) (is_active h T (t_of h k) && is_active h T (u_of h k)) p.0 in
      let (s, c, i, b, is, other) = some_other h T f (outer_sides h k) p.1 in
      let outer = outer_sides-outer h k s l i in
      let (d, j, r, own, t, g) = blocked-by_greater h valid T closed k s (beyond_of h T s) l q.0
      outer.1 outer.0 (found q.0 s outer.1 outer.0) other in
      let same : d ≡ c = same_Some d c (sym r ∙ b) in
      (j, ap (λ x. revealed_by h x) (sym is) ∙ ap (λ x. record_of h x) (sym same) ∙ own, t, g)
