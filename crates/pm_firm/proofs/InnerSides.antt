-- After a legal split the sides from one child to the other are the inner sides of the record's
-- faces.
use Rattle.std.proofs.Common.{◌≡◌, ℕ, ◌+◌, ◌*◌, ◌<◌, eqb, Bool, true, false, Option}
use Rattle.std.proofs.lemmas.Grind.{common_steps}
use Rattle.std.proofs.Common.{Some, ◌⊎◌, inl, inr, refl, sym, ap, ◌∙◌, subst, arith}
use Rattle.std.specs.Option.{is_some}
use Rattle.std.proofs.lemmas.Bool.{cases_Bool, both_ways, cond-true, false_from_ne_true, and_parts}
use Rattle.std.proofs.lemmas.Bool.{and_from, eqb-true}
use Rattle.pm_base.specs.Counts.{one_if}
use Rattle.pm_base.specs.Sides.{Net, face_of, next, to, third, Stands, IsTwin}
use Rattle.pm_base.specs.Fans.{IsPairAt}
use Rattle.pm_forest.specs.Forest.{Hierarchy, record_at, record_count, t_of, u_of, s_of, holds}
use Rattle.pm_forest.specs.Forest.{Holds, Makes}
use Rattle.pm_forest.specs.Fronts.{IsFront, with}
use Rattle.pm_forest.specs.Faces.{first_face, is_left, face_count, from_leaf, revealed_by}
use Rattle.pm_forest.specs.Faces.{record_of, inner_of, IsForest}
use Rattle.pm_forest.specs.Kept.{is_shown}
use Rattle.pm_forest.proofs.Ancestors.{holds-ancestor_of}
use Rattle.pm_forest.proofs.Ends.{third_outside}
use Rattle.pm_forest.proofs.FaceNumbers.{which_face}
use Rattle.pm_forest.proofs.Nodes.{not_both}
use Rattle.pm_forest.proofs.OneStep.{with-cases, with-same, with-front, split-elsewhere}
use Rattle.pm_forest.proofs.ShapeLaws.{left_from}
use Rattle.pm_forest.proofs.Shown.{shown_record, hidden-parts}
use Rattle.pm_forest.proofs.Sides.{inner-face, three_sides}
use Rattle.pm_beyond.specs.Walks.{Beyond, beyond_of, expected, mate_of}
use Rattle.pm_beyond.specs.Valid.{IsValid}
use Rattle.pm_beyond.specs.Moves.{IsClosed, MaySplit}
use Rattle.pm_beyond.proofs.Carried.{ends-carried}
use Rattle.pm_beyond.proofs.Reaching.{reaches-lt, back, Beyond-unique}
use Rattle.pm_beyond.proofs.Standing.{forest_of, closed-front}
use Rattle.pm_beyond.proofs.WalkTheory as law
use Rattle.pm_beyond.proofs.Relinking.{split-new}
use Rattle.pm_runs.specs.Pairs.{IsPair}
use Rattle.pm_runs.specs.Merged.{merged}
use Rattle.pm_firm.specs.Firm.{shown_net}
use Rattle.pm_firm.proofs.Held.{inner_expected}
use Rattle.pm_firm.proofs.ShownNets.{stands-shown, shown-stands}
use Rattle.pm_firm.proofs.MergedShown.{leaf, not_child, rename, both_s, next_lt, there_c}

module _ (h : Hierarchy) (valid : IsValid h) (T : ℕ → Bool) (closed : IsClosed h T) (k : ℕ)
    (l : k < record_count h) (may : MaySplit h T k) where
  abbrev split_set : ℕ → Bool
  split_set = with T k

  abbrev tree : IsForest h
  tree = forest_of h valid

  abbrev front : IsFront h T
  front = closed-front h T closed

  abbrev split_front : IsFront h (with T k)
  split_front = with-front h tree.forest T front k l may.active

  abbrev net_after : Net
  net_after = shown_net h (with T k)

  abbrev merged_net : Net
  merged_net = merged (shown_net h (with T k)) (t_of h k) (u_of h k) (s_of h k)

  -- what stands beyond each side after
  abbrev beyond : ℕ → Option ℕ
  beyond e = beyond_of h (with T k) e

  -- One side or nothing stands beyond each side.
  pub linked : (e : ℕ) → e < 3 * face_count h → is_shown h (with T k) e ≡ true
      → Beyond h (with T k) e (beyond_of h (with T k) e)
  linked e le is = (law.one_beyond h tree valid.no_side_twice split_set split_front e le is).0

  pub is_link : (e : ℕ) (r : Option ℕ) → e < 3 * face_count h → is_shown h (with T k) e ≡ true
      → Beyond h (with T k) e r → beyond e ≡ r
  is_link e r le is b =
      Beyond-unique h tree valid.no_side_twice split_set e (beyond e) r (linked e le is) b

  pub link_new : (e : ℕ) → e < 3 * face_count h → record_of h e ≡ Some k → beyond e ≡ expected h e
  link_new e le rec =
      is_link e (expected h e) le (shown_record h (with T k) e k rec ∙ with-same T k)
      (split-new h valid T k closed l may e le rec)

  shown_n : (e : ℕ) → Stands net_after e → is_shown h (with T k) e ≡ true
  shown_n e et = shown-stands h tree split_set split_front e et

  pub ends : (e g : ℕ) → Stands net_after e → beyond e ≡ Some g → IsTwin net_after e g
  ends e g et is =
      let b : Beyond h split_set e (Some g) =
      subst (Beyond h split_set e) is (linked e et.is_side (shown_n e et)) in
      let p = ends-carried h tree split_set g b.reaches refl in
      let gl = reaches-lt h tree valid.no_side_twice split_set g b.reaches refl in
      record {
        stands = stands-shown h tree split_set split_front g gl b.stops;
        begins = p.0;
        ends =
            p.1;
      }

  pub goes_back : (e g : ℕ) → Stands net_after e → beyond e ≡ Some g → beyond g ≡ Some e
  goes_back e g et is =
      let shown_e = shown_n e et in
      let b : Beyond h split_set e (Some g) =
      subst (Beyond h split_set e) is (linked e et.is_side shown_e) in
      let gt = (ends e g et is).stands in
      is_link g (Some e) gt.is_side b.stops
      (record {
        reaches = back h tree valid.no_side_twice split_set g et.is_side b.reaches refl;
        stops = shown_e;
      })

  -- A side from one child to the other is the inner side of a face of k.
  pub record IsInnerSide (e : ℕ) : Type 0 where
    pub rec : record_of h e ≡ Some k
    pub face : face_of e < face_count h
    pub is_inner : e ≡ inner_of h k (face_of e)

  end_of : (p q v : ℕ) → IsPair (t_of h k) (u_of h k) p q → (v ≡ p) ⊎ (v ≡ q) → Makes h k v
  end_of p q v (inl (a, b)) w = elim w [ inl i ↦ inl (i ∙ a) | inr i ↦ inr (i ∙ b) ]
  end_of p q v (inr (a, b)) w = elim w [ inl i ↦ inr (i ∙ a) | inr i ↦ inl (i ∙ b) ]

  no_third : (e : ℕ) → e < 3 * face_count h → record_of h e ≡ Some k → (x : ℕ)
      → x ≡ next (next (inner_of h k (face_of e))) → x < 3 * face_count h
      → Makes h k (net_after.from x) → ⊥
  no_third e le rec x x_is lx makes =
      let out = third_outside h tree k (face_of e) (omega arith) rec in
      let out' : holds h (s_of h k) (from_leaf h x) ≡ false =
      ap (λ j. holds h (s_of h k) (from_leaf h j)) x_is ∙ out in
      not_child h valid T closed k l may (from_leaf h x) (net_after.from x)
      (leaf h valid T closed k l may x lx) makes
      (sym (split-elsewhere h tree.forest T front k l may.active (from_leaf h x)
      (leaf h valid T closed k l may x lx) out'))

  pub inner_side : (e p q : ℕ) → IsPair (t_of h k) (u_of h k) p q → Stands net_after e
      → net_after.from e ≡ p → to net_after e ≡ q → IsInnerSide e
  inner_side e p q pair et ep eq =
      let le = et.is_side in
      let fl : face_of e < face_count h = omega arith in
      let one_name : merged_net.from e ≡ merged_net.from (next e) =
      ap (rename h valid T closed k l may) ep ∙ both_s h valid T closed k l may p q pair
      ∙ sym (ap (rename h valid T closed k l may) eq) in
      let hidden_e : is_shown h T e ≡ false =
      false_from_ne_true (is_shown h T e)
      (λ is. (there_c h valid T closed k l may e (stands-shown h tree T front e le is)).first
      one_name) in
      let (j, rec, off) = hidden-parts h T e hidden_e in
      let j_is : j ≡ k =
      elim (with-cases T k j (sym (shown_record h split_set e j rec) ∙ shown_n e et))
      [ inl is ↦ is | inr is ↦ absurd (both_ways (T j) off is) ] in
      let rec' : record_of h e ≡ Some k = rec ∙ ap Some j_is in
      let i = inner_of h k (face_of e) in
      elim (three_sides e i (sym (inner-face h k (face_of e)))) [
        | inl is ↦ record { rec = rec'; face = fl; is_inner = is }
        | inr w ↦
            elim w [
              | inl is ↦ absurd
                  (no_third e le rec' (next e) (ap next is) (next_lt h valid T closed k l may e le)
                  (end_of p q (to net_after e) pair (inr eq)))
              | inr is ↦ absurd
                  (no_third e le rec' e is le (end_of p q (net_after.from e) pair (inl ep)))
            ]
      ]

  left_is : (e : ℕ) → Stands net_after e → IsInnerSide e → net_after.from e ≡ t_of h k
      → is_left h k (face_of e) ≡ true
  left_is e et k' is =
      let in_t : Holds h (t_of h k) (from_leaf h e) =
      subst (λ v. Holds h v (from_leaf h e)) is
      (holds-ancestor_of h tree.forest split_set (from_leaf h e)
      (leaf h valid T closed k l may e et.is_side)) in
      elim (cases_Bool (is_left h k (face_of e))) [
        | inl a ↦ a
        | inr a ↦
            let r = tree.faces.right (face_of e) k k'.face k'.rec a in
            absurd (not_both h tree.forest k (from_leaf h e) l in_t
            (subst (λ j. Holds h (u_of h k) (from_leaf h j)) (sym k'.is_inner) r.0))
      ]

  right_is : (e : ℕ) → Stands net_after e → IsInnerSide e → net_after.from e ≡ u_of h k
      → is_left h k (face_of e) ≡ false
  right_is e et k' is =
      let in_u : Holds h (u_of h k) (from_leaf h e) =
      subst (λ v. Holds h v (from_leaf h e)) is
      (holds-ancestor_of h tree.forest split_set (from_leaf h e)
      (leaf h valid T closed k l may e et.is_side)) in
      elim (cases_Bool (is_left h k (face_of e))) [
        | inr a ↦ a
        | inl a ↦
            let r = tree.faces.left (face_of e) k k'.face k'.rec a in
            absurd (not_both h tree.forest k (from_leaf h e) l
            (subst (λ j. Holds h (t_of h k) (from_leaf h j)) (sym k'.is_inner) r.0) in_u)
      ]

  left_face : (f : ℕ) → is_left h k f ≡ true → (is_some (record_at h k).left ≡ true)
      × (f ≡ first_face h k)
  unfolding is_left
  left_face f is = let p = and_parts (is_some (record_at h k).left) (eqb f (first_face h k)) is in
      (p.0, eqb-true f (first_face h k) p.1)

  right_face : (f : ℕ) → f < face_count h → revealed_by h f ≡ Some k → is_left h k f ≡ false
      → (is_some (record_at h k).right ≡ true)
      × (f ≡ first_face h k + one_if (is_some (record_at h k).left))
  right_face f fl rec is = grind (arith, common_steps, left_from, which_face)

  same_face : (p q e g : ℕ) → IsPair (t_of h k) (u_of h k) p q → Stands net_after e
      → Stands net_after g → IsInnerSide e → IsInnerSide g → net_after.from e ≡ p
      → net_after.from g ≡ p → face_of e ≡ face_of g
  same_face p q e g (inl (a, b)) et gt ke kg ep gp =
      (left_face (face_of e) (left_is e et ke (ep ∙ a))).1
      ∙ sym (left_face (face_of g) (left_is g gt kg (gp ∙ a))).1
  same_face p q e g (inr (a, b)) et gt ke kg ep gp =
      (right_face (face_of e) ke.face ke.rec (right_is e et ke (ep ∙ a))).1
      ∙ sym (right_face (face_of g) kg.face kg.rec (right_is g gt kg (gp ∙ a))).1

  swap : (p q : ℕ) → IsPair (t_of h k) (u_of h k) p q → IsPair (t_of h k) (u_of h k) q p
  swap p q (inl (a, b)) = inr (b, a)
  swap p q (inr (a, b)) = inl (b, a)

  pub one : (p q x y : ℕ) → IsPair (t_of h k) (u_of h k) p q
      → (f : IsPairAt net_after p q x) (g : IsPairAt net_after p q y) → f.side ≡ g.side
  one p q x y pair f g =
      let kf = inner_side f.side p q pair f.stands f.at f.one in
      let kg = inner_side g.side p q pair g.stands g.at g.one in
      kf.is_inner ∙ ap (inner_of h k)
      (same_face p q f.side g.side pair f.stands g.stands kf kg f.at g.at) ∙ sym kg.is_inner

  both_faces : (p q e g : ℕ) → IsPair (t_of h k) (u_of h k) p q → Stands net_after e
      → Stands net_after g → IsInnerSide e → IsInnerSide g → net_after.from e ≡ p
      → net_after.from g ≡ q → (is_some (record_at h k).left ≡ true)
      × (is_some (record_at h k).right ≡ true)
  both_faces p q e g (inl (a, b)) et gt ke kg ep gq =
      grind (arith, common_steps, left_face, left_is, right_face, right_is)
  both_faces p q e g (inr (a, b)) et gt ke kg ep gq =
      grind (arith, common_steps, left_face, left_is, right_face, right_is)

  mate : (e : ℕ) → IsInnerSide e → is_some (record_at h k).left ≡ true
      → is_some (record_at h k).right ≡ true → (b : ℕ) × (expected h e ≡ Some b)
  unfolding mate_of
  mate e side a b = grind (arith, common_steps, and_from, cond-true, inner_expected)

  pub inner : (p q x y : ℕ) → IsPair (t_of h k) (u_of h k) p q
      → (f : IsPairAt net_after p q x) (g : IsPairAt net_after q p y) → beyond f.side ≡ Some g.side
  inner p q x y pair f g =
      let kf = inner_side f.side p q pair f.stands f.at f.one in
      let kg = inner_side g.side q p (swap p q pair) g.stands g.at g.one in
      let both = both_faces p q f.side g.side pair f.stands g.stands kf kg f.at g.at in
      let (b, x_is) = mate f.side kf both.0 both.1 in
      let lb = link_new f.side f.stands.is_side kf.rec ∙ x_is in
      let w = ends f.side b f.stands lb in
      let B : IsPairAt net_after q p (third net_after b) = grind (arith, common_steps, one) in
      lb ∙ ap Some (one q p (third net_after b) y (swap p q pair) B g)
