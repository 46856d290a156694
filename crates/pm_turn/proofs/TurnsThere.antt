-- Of each mesh it can be told which faces are turned: mates are looked for and joined, side by
-- side.
use Rattle.std.proofs.Common.{◌≡◌, ◌≢◌, ℕ, zero, suc, ◌+◌, ◌<◌, ◌≤◌, ◌⊎◌, inl, inr, sym, ap, ◌∙◌}
use Rattle.std.proofs.Common.{subst, Bool, false, not, List, length, map, arith}
use Rattle.std.proofs.lemmas.Grind.{common_steps}
use Rattle.std.specs.List.{range_with_len}
use Rattle.std.proofs.lemmas.Bool.{cases_eq, cases_order}
use Rattle.std.proofs.lemmas.List.{length-map, get_or-map}
use Rattle.std.proofs.lemmas.List.FromFn.{length-range_with_len, get_or-range_with_len}
use Rattle.pm_base.specs.Sides.{Net, face_of, to, side_count}
use Rattle.pm_base.proofs.Search.{Decided, search_below}
use Rattle.pm_base.proofs.TwinLaws.{stands?}
use Rattle.pm_turn.specs.Turning.{JoinsSame, AreMates, clash, flipped_if, traced_flag}
use Rattle.pm_turn.specs.Unions.{Elders, Up, top, up, AreElders, marked, under, all_own}
use Rattle.pm_turn.specs.TurnLaws.{TurnsAreThere}
use Rattle.pm_turn.proofs.Joining.{up_below}
use Rattle.pm_turn.proofs.JoinedSides.{begun, none_more, agreeing_more, odd_more, under_first}
use Rattle.pm_turn.proofs.JoinedSides.{under_second, elders_traced}
use Rattle.pm_turn.proofs.Traced.{traced_tables_turn}

-- What is decided of two is decided of both, and of one of them.
both? : {P Q : Type 0} → Decided P → Decided Q → Decided (P × Q)
both? (inl p) (inl q) = inl (p, q)
both? (inl p) (inr other) = inr (λ b. other b.1)
both? (inr other) q = inr (λ b. other b.0)

either? : {P Q : Type 0} → Decided P → Decided Q → Decided (P ⊎ Q)
either? (inl p) q = inl (inl p)
either? (inr other) (inl q) = inl (inr q)
either? (inr other) (inr none) = inr (λ b. elim b [ inl p ↦ other p | inr q ↦ none q ])

apart? : (a b : ℕ) → Decided (a ≢ b)
apart? a b = elim (cases_eq a b) [ inl is ↦ inr (λ ne. ne is) | inr ne ↦ inl ne ]

module _ (m : Net) (e : ℕ) where
  joins? : (g : ℕ) → Decided (JoinsSame m e g)
  joins? g =
      grind (
        arith,
        common_steps,
        both? (cases_eq (m.from g) (m.from e)) (cases_eq (to m g) (to m e)),
        both? (cases_eq (m.from g) (to m e)) (cases_eq (to m g) (m.from e)),
        either? (both? (cases_eq (m.from g) (m.from e)) (cases_eq (to m g) (to m e)))
            (both? (cases_eq (m.from g) (to m e)) (cases_eq (to m g) (m.from e))),
        stands? m g,
      )

  -- Another side that joins the two vertices, and one beside that.
  abbrev IsOther : ℕ → Type 0
  IsOther g = JoinsSame m e g × (g ≢ e)

  abbrev IsThird : ℕ → ℕ → Type 0
  IsThird k g = JoinsSame m e g × ((g ≢ e) × (g ≢ k))

  other? : (g : ℕ) → Decided (IsOther g)
  other? g = both? (joins? g) (apart? g e)

  third? : (k g : ℕ) → Decided (IsThird k g)
  third? k g = both? (joins? g) (both? (apart? g e) (apart? g k))

  -- With a mate each other side that joins the two vertices is this mate.
  one_other : (k g : ℕ) → AreMates m e k → IsOther g → g ≡ k
  one_other k g a (j, ne) = elim (a.alone g j) [ inl is ↦ absurd (ne is) | inr is ↦ is ]

  pub mate? : ((k : ℕ) × AreMates m e k) ⊎ ((k : ℕ) → AreMates m e k → ⊥)
  mate? =
      elim (stands? m e) [
        | inr out ↦ inr (λ k a. out a.stands)
        | inl t ↦
            elim (search_below IsOther other? (side_count m)) [
              | inr none ↦
                  inr (λ k a. none k a.same.stands.is_side (a.same, λ is. a.differ (sym is)))
              | inl (k, l, (j, ne)) ↦
                  elim (search_below (IsThird k) (third? k) (side_count m)) [
                    | inl (g, gl, (i, (apart, other))) ↦
                        inr (λ h a. other (one_other h g a (i, apart)
                        ∙ sym (one_other h k a (j, ne))))
                    | inr none ↦ grind (arith, common_steps)
                  ]
            ]
      ]

-- From each face a way leads up.
abbrev pub HasUp : Elders → ℕ → Type 0
HasUp t x = (r : ℕ) × (p : Bool) × Up t x r p

up_there : (t : Elders) → ((x : ℕ) → t.elder x ≤ x) → (n x : ℕ) → x < n → HasUp t x
up_there t below zero x l = absurd (omega (arith, l))
up_there t below (suc n) x l =
    elim (cases_eq (t.elder x) x) [
      | inl is ↦ (x, false, top is)
      | inr ne ↦
          let b = below x in
          let (r, p, w) = up_there t below n (t.elder x) (omega (arith, b, ne, l)) in
          (r, flipped_if p (t.parity x), up ne w)
    ]

pub up_of : (t : Elders) → ((x : ℕ) → t.elder x ≤ x) → (x : ℕ) → HasUp t x
up_of t below x = up_there t below (suc x) x (omega arith)

same_or_not : (b c : Bool) → (b ≡ c) ⊎ (b ≡ not c)
same_or_not b c = grind (arith, common_steps)

-- The mates of one more side are joined.
abbrev pub AreGrown : Net → ℕ → Type 0
AreGrown m n = (t : Elders) × AreElders m n t

joined_at : (m : Net) (n k : ℕ) (t : Elders) → AreElders m n t → AreMates m n k → AreGrown m (n + 1)
joined_at m n k t s a =
    let (r, p, v) = up_of t s.below (face_of n) in
    let (o, q, w) = up_of t s.below (face_of k) in
    elim (cases_order r o) [
      | inl is ↦
          elim (same_or_not q (flipped_if (clash m n k) p)) [
            | inl agree ↦ (
              t,
              agreeing_more m n k t s a r p q v (subst (λ i. Up t (face_of k) i q) (sym is) w)
                  agree,
            )
            | inr odd ↦ (marked t r, odd_more m n k t s a r o p q v w is odd)
          ]
      | inr i ↦
          elim i [
            | inl less ↦ (
              under t r o (flipped_if p (flipped_if (clash m n k) q)),
              under_first m n k t s a r
                  o p q v w less,
            )
            | inr less ↦ (
              under t o r (flipped_if q (flipped_if (clash m n k) p)),
              under_second m n k t s a r
                  o p q v w less,
            )
          ]
    ]

grown : (m : Net) (n : ℕ) (t : Elders) → AreElders m n t → AreGrown m (n + 1)
grown m n t s =
    elim (mate? m n) [
      | inl (k, a) ↦ joined_at m n k t s a
      | inr none ↦ (t, none_more m n t s none)
    ]

pub all_grown : (m : Net) (n : ℕ) → AreGrown m n
all_grown m zero = (all_own, begun m)
all_grown m (suc n) = grind (arith, common_steps, grown m n, all_grown m n)

pub turns_are_there : TurnsAreThere
turns_are_there m =
    let (t, s) = all_grown m (side_count m) in
    let root : ℕ → ℕ = λ f. (up_of t s.below f).0 in
    let parity : ℕ → Bool = λ f. (up_of t s.below f).1 in
    let way : (f : ℕ) → Up t f (root f) (parity f) = λ f. (up_of t s.below f).2 in
    let numbers : List ℕ = range_with_len 0 m.faces in
    let flags : List Bool = map (traced_flag root parity t.odd) numbers in
    let long : length numbers ≡ m.faces = length-range_with_len 0 m.faces in (
      flags,
      traced_tables_turn m flags root parity t.odd
          (elders_traced m t root parity s (λ f l. way f)
          (λ f. up_below m (side_count m) t s f (root f) (parity f) (way f)))
          (length-map numbers (traced_flag root parity t.odd) ∙ long)
          (λ f l. get_or-map (traced_flag root parity t.odd) numbers f 0 false
          (subst (λ k. f < k) (sym long) l)
          ∙ ap (traced_flag root parity t.odd) (get_or-range_with_len 0 m.faces f 0 l
          ∙ omega arith)),
    )
