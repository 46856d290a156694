-- How a set gathers numbers that pass a test.
use Rattle.std.proofs.Common.{◌≡◌, ℕ, ◌<◌, Bool, true, false, List, length, set, length-set, inl}
use Rattle.std.proofs.Common.{inr, refl, sym, ◌∙◌, subst, if◌then◌else◌}
use Rattle.std.proofs.lemmas.Bool.{cases_Bool, cases_eq, both_ways, false_from_ne_true}
use Rattle.pm_base.specs.Counts.{set_of}
use Rattle.pm_sets.specs.Sets.{IsEmptySet}
use Rattle.pm_sets.proofs.FlagLaws.{set_here, set_other}
use Rattle.pm_forest.specs.Forest.{Hierarchy, s_of, t_of, u_of}
use Rattle.pm_change.specs.Gathering.{Gathers, AreJust, HasNodesOf}

module _ (passes : ℕ → Bool) where
  pub none_gathered : (old : List Bool) → Gathers passes old old
  none_gathered old = record { len = refl; stay = λ i e. e; right = λ i e. inl e }

  pub gathered_on : (a b c : List Bool) → Gathers passes a b → Gathers passes b c
      → Gathers passes a c
  gathered_on a b c x y = record {
    len = y.len ∙ x.len;
    stay = λ i e. y.stay i (x.stay i e);
    right = λ i e. elim (y.right i e) [ inl was ↦ x.right i was | inr pass ↦ inr pass ];
  }

  pub gathered_one : (old : List Bool) (n : ℕ) → n < length old → passes n ≡ true
      → Gathers passes old (set old n true)
  gathered_one old n l pass = record {
    len = length-set old n true;
    stay = λ i e. elim (cases_eq i n) [
      | inl is ↦ subst (λ j. set_of (set old n true) j ≡ true) (sym is) (set_here old n l true)
      | inr ne ↦ set_other old n l true i ne ∙ e
    ];
    right = λ i e. elim (cases_eq i n) [
      | inl is ↦ inr (subst (λ j. passes j ≡ true) (sym is) pass)
      | inr ne ↦ inl (sym (set_other old n l true i ne) ∙ e)
    ];
  }

  -- A number is put in where it passes.
  pub gathered : (old new : List Bool) (n : ℕ) (b : Bool) → n < length old → b ≡ passes n
      → new ≡ (if b then set old n true else old) → Gathers passes old new
  gathered old new n true l is at = subst (λ m. Gathers passes old m) (sym at)
      (gathered_one old n l (sym is))
  gathered old new n false l is at = subst (λ m. Gathers passes old m) (sym at) (none_gathered old)

  pub is_gathered : (old new : List Bool) (n : ℕ) (b : Bool) → n < length old → b ≡ passes n
      → new ≡ (if b then set old n true else old) → passes n ≡ true → set_of new n ≡ true
  is_gathered old new n true l is at pass = subst (λ m. set_of m n ≡ true) (sym at)
      (set_here old n l true)
  is_gathered old new n false l is at pass = absurd (both_ways (passes n) (sym is) pass)

  -- From an empty set, just those that pass are in it once all of them are.
  pub just_those : (old new : List Bool) (n : ℕ) → IsEmptySet old → length old ≡ n
      → Gathers passes old new → ((i : ℕ) → i < n → passes i ≡ true → set_of new i ≡ true)
      → AreJust passes n new
  just_those old new n empty len got found = record {
    len = got.len ∙ len;
    each = λ i l. elim (cases_Bool (passes i)) [
      | inl pass ↦ found i l pass ∙ sym pass
      | inr fail ↦
          false_from_ne_true (set_of new i) (λ e. elim (got.right i e) [
            | inl was ↦ both_ways (set_of old i) (empty i) was
            | inr pass ↦ both_ways (passes i) fail pass
          ])
          ∙ sym fail
    ];
  }

-- One test passes where another does.
pub gathers_more : (p q : ℕ → Bool) (old new : List Bool)
    → ((i : ℕ) → set_of new i ≡ true → p i ≡ true → q i ≡ true) → Gathers p old new
    → Gathers q old new
gathers_more p q old new more got = record {
  len = got.len;
  stay = got.stay;
  right = λ i e. elim (got.right i e) [ inl was ↦ inl was | inr pass ↦ inr (more i e pass) ];
}

-- The three nodes of a record were looked at one after the other.
pub nodes_seen : (h : Hierarchy) (passes : ℕ → Bool) (k : ℕ) (a b c : List Bool)
    → Gathers passes a b → Gathers passes b c
    → (passes (s_of h k) ≡ true → set_of a (s_of h k) ≡ true)
    → (passes (t_of h k) ≡ true → set_of b (t_of h k) ≡ true)
    → (passes (u_of h k) ≡ true → set_of c (u_of h k) ≡ true)
    → HasNodesOf h passes k c
nodes_seen h passes k a b c x y s t u v at pass =
    elim at [
      | inl is ↦ subst (λ w. set_of c w ≡ true) (sym is)
          (y.stay (s_of h k) (x.stay (s_of h k) (s (subst (λ w. passes w ≡ true) is pass))))
      | inr child ↦
          elim child [
            | inl is ↦ subst (λ w. set_of c w ≡ true) (sym is)
                (y.stay (t_of h k) (t (subst (λ w. passes w ≡ true) is pass)))
            | inr is ↦ subst (λ w. set_of c w ≡ true) (sym is)
                (u (subst (λ w. passes w ≡ true) is pass))
          ]
    ]
