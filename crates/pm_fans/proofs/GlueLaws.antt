-- Sides that stand once are told by their two ends, and two that run back along one another are
-- glued.
use Rattle.std.proofs.Common.{◌≡◌, ◌≢◌, ℕ, ◌+◌, ◌<◌, ◌≤◌, true, false, inl, inr, refl}
use Rattle.std.proofs.lemmas.Grind.{common_steps}
use Rattle.std.proofs.Common.{sym, ap, ◌∙◌, subst, Option, Some, None, List, [], length}
use Rattle.std.proofs.Common.{slice_index_or, arith}
use Rattle.std.specs.Option.{IfSome, MatchOption, is_some, option_map}
use Rattle.std.specs.Ordering.{nat_cmp}
use Rattle.std.specs.BTreeMap.{BTreeMap, get, is_at, Updates}
use Rattle.std.specs.Map.{lookup}
use Rattle.std.proofs.lemmas.Bool.{cases_eq, cond-true, cond-false, eq-eqb, ne_eqb, true≢false}
use Rattle.std.proofs.lemmas.Nat.{div-mul-add}
use Rattle.std.proofs.Math.ListN.{set, replicate}
use Rattle.std.proofs.lemmas.List.{get_or-set_same, get_or-set_other, length-set, length-replicate}
use Rattle.pm_base.specs.declared.ids.Side.{Side}
use Rattle.pm_base.specs.Sides.{Net, side_count, next, to}
use Rattle.pm_base.proofs.Search.{option_cases}
use Rattle.pm_base.proofs.Sides.{next-lt}
use Rattle.pm_fans.specs.Splits.{IsGlued, AreGlued, IsCuttable}
use Rattle.pm_fans.specs.Ends.{ends_key, ends_key_at, IsAloneWithKey, AreSeveral, IsNoted, AreNoted}
use Rattle.pm_fans.proofs.KeyLaws.{equal_is}

-- Two ends are known from their key.
ends_are : (p q r s : ℕ) → q < 4294967296 → s < 4294967296 → ends_key p q ≡ ends_key r s
    → (p ≡ r) × (q ≡ s)
ends_are p q r s ql sl e = grind (arith, common_steps, div-mul-add)

-- Before any side none has a key.
pub none_noted : (m : Net) (map : BTreeMap ℕ ℕ) → map.entries ≡ [] → AreNoted m 0 map
none_noted m map is k =
    subst (IsNoted m 0 k) (sym (ap (lookup (is_at (nat_cmp k))) is)) (λ e l. absurd (omega arith))

several_on : (m : Net) (n k v : ℕ) → AreSeveral m n k v → AreSeveral m (n + 1) k v
several_on m n k v s = grind (arith, common_steps)

-- One more side with another key.
noted_other : (m : Net) (n k : ℕ) (r : Option ℕ) → ends_key_at m n ≢ k → IsNoted m n k r
    → IsNoted m (n + 1) k r
noted_other m n k None ne h = grind (arith, common_steps)
noted_other m n k (Some v) ne (inl a) = grind (arith, common_steps)
noted_other m n k (Some v) ne (inr s) = inr (several_on m n k v s)

-- One more side with this key: the first, or one of several.
noted_first : (m : Net) (n k : ℕ) → ends_key_at m n ≡ k → IsNoted m n k None
    → IsNoted m (n + 1) k (Some n)
noted_first m n k is none = grind (arith, common_steps)

noted_again : (m : Net) (n k v : ℕ) → ends_key_at m n ≡ k → IsNoted m n k (Some v)
    → IsNoted m (n + 1) k (Some 4294967295)
noted_again m n k v is (inl a) = grind (arith, common_steps)
noted_again m n k v is (inr s) = grind (arith, common_steps, several_on)

noted_at : (m : Net) (n w : ℕ) (s t : BTreeMap ℕ ℕ) → AreNoted m n s
    → Updates nat_cmp s t (ends_key_at m n) (Some w) → IsNoted m (n + 1) (ends_key_at m n) (Some w)
    → AreNoted m (n + 1) t
noted_at m n w s t noted u now k =
    grind (arith, common_steps, cond-false, cond-true, eq-eqb, equal_is, ne_eqb, noted_other)

pub first_noted : (m : Net) (n : ℕ) (s t : BTreeMap ℕ ℕ) → AreNoted m n s
    → is_some (get nat_cmp s (ends_key_at m n)) ≡ false
    → Updates nat_cmp s t (ends_key_at m n) (Some n) → AreNoted m (n + 1) t
first_noted m n s t noted none u =
    elim (option_cases (get nat_cmp s (ends_key_at m n))) [
      | inl is ↦ noted_at m n n s t noted u
          (noted_first m n (ends_key_at m n) refl
          (subst (IsNoted m n (ends_key_at m n)) is (noted (ends_key_at m n))))
      | inr (v, is) ↦ absurd (true≢false (sym (ap is_some is) ∙ none))
    ]

pub again_noted : (m : Net) (n : ℕ) (s t : BTreeMap ℕ ℕ) → AreNoted m n s
    → is_some (get nat_cmp s (ends_key_at m n)) ≡ true
    → Updates nat_cmp s t (ends_key_at m n) (Some 4294967295) → AreNoted m (n + 1) t
again_noted m n s t noted some u =
    elim (option_cases (get nat_cmp s (ends_key_at m n))) [
      | inl is ↦ absurd (true≢false (sym some ∙ ap is_some is))
      | inr (v, is) ↦
          noted_at m n 4294967295 s t noted u
          (noted_again m n (ends_key_at m n) v refl
          (subst (IsNoted m n (ends_key_at m n)) is (noted (ends_key_at m n))))
    ]

module _ (m : Net) (ok : IsCuttable m) where
  ends_low : (e : ℕ) → e < side_count m → to m e < 4294967296
  ends_low e l = ok.low (next e) (next-lt m.faces e l)

  -- A side that runs from p to q, by its key.
  pub runs_between : (e p q : ℕ) → e < side_count m → q < 4294967296
      → ends_key_at m e ≡ ends_key p q → (m.from e ≡ p) × (to m e ≡ q)
  runs_between e p q l ql is = ends_are (m.from e) (to m e) p q (ends_low e l) ql is

  pub key_is : (e p q : ℕ) → m.from e ≡ p → to m e ≡ q → ends_key_at m e ≡ ends_key p q
  key_is e p q a b = ap (λ i. ends_key i (to m e)) a ∙ ap (ends_key p) b

  -- Two sides that run back along one another and stand once are glued.
  pub both_alone : (e v g : ℕ) → e < side_count m
      → IsAloneWithKey m (side_count m) (ends_key (m.from e) (to m e)) v
      → IsAloneWithKey m (side_count m) (ends_key (to m e) (m.from e)) g → IsGlued m e g
  both_alone e v g l a b =
      let at = runs_between g (to m e) (m.from e) b.in_range (ok.low e l) b.has in
      record {
        stands = ok.stand e l;
        twin = record { stands = ok.stand g b.in_range; begins = at.0; ends = at.1 };
        one = λ k t p q. a.alone k t.is_side (key_is k (m.from e) (to m e) p q)
            ∙ sym (a.alone e l refl);
        other = λ k w. b.alone k w.stands.is_side (key_is k (to m e) (m.from e) w.begins w.ends);
      }

  pub not_alone : (e : ℕ) → e < side_count m
      → ((v : ℕ) → IsAloneWithKey m (side_count m) (ends_key (m.from e) (to m e)) v → ⊥) → (g : ℕ)
      → IsGlued m e g → ⊥
  not_alone e l none g w = none e (record {
    in_range = l;
    has = refl;
    alone = λ k lk h. (let at = runs_between k (m.from e) (to m e) lk (ends_low e l) h in
        w.one k (ok.stand k lk) at.0 at.1);
  })

  pub back_not_alone : (e : ℕ) → e < side_count m
      → ((v : ℕ) → IsAloneWithKey m (side_count m) (ends_key (to m e) (m.from e)) v → ⊥) → (g : ℕ)
      → IsGlued m e g → ⊥
  back_not_alone e l none g w = none g (record {
    in_range = w.twin.stands.is_side;
    has = key_is g (to m e) (m.from e) w.twin.begins w.twin.ends;
    alone = λ k lk h. (let at = runs_between k (to m e) (m.from e) lk (ok.low e l) h in
        w.other k (record { stands = ok.stand k lk; begins = at.0; ends = at.1 }));
  })

-- What a search for the side with a key answers.
abbrev pub IsFound : Net → ℕ → Option Side → Type 0
IsFound m k r =
    MatchOption r ((v : ℕ) → IsAloneWithKey m (side_count m) k v
    → ⊥) (λ v. IsAloneWithKey m (side_count m) k v.0)

module _ (m : Net) (ok : IsCuttable m) (e p q : ℕ) (l : e < side_count m) (begins : p ≡ m.from e)
    (ends : q ≡ to m e) where
  ahead : (r : Option Side) → IsFound m (ends_key p q) r
      → IsFound m (ends_key (m.from e) (to m e)) r
  ahead r h = subst (λ k. IsFound m k r) (ap (λ i. ends_key i q) begins
      ∙ ap (ends_key (m.from e)) ends) h

  back : (r : Option Side) → IsFound m (ends_key q p) r → IsFound m (ends_key (to m e) (m.from e)) r
  back r h = subst (λ k. IsFound m k r) (ap (λ i. ends_key i p) ends
      ∙ ap (ends_key (to m e)) begins) h

  pub stands_not_alone : (r : Option Side) → IsFound m (ends_key p q) r → is_some r ≡ false
      → (g : ℕ) → IsGlued m e g → ⊥
  stands_not_alone None h none = not_alone m ok e l (ahead None h)
  stands_not_alone (Some v) h none = absurd (true≢false none)

  pub glued_found : (r s : Option Side) → IsFound m (ends_key p q) r → is_some r ≡ true
      → IsFound m (ends_key q p) s
      → MatchOption s ((g : ℕ) → IsGlued m e g → ⊥) (λ g. IsGlued m e g.0)
  glued_found None s h some k = absurd (true≢false (sym some))
  glued_found (Some v) None h some k = back_not_alone m ok e l (back None k)
  glued_found (Some v) (Some g) h some k =
      both_alone m ok e v.0 g.0 l (ahead (Some v) h) (back (Some g) k)

-- The table of all sides has that of each of the first n.
pub record AreGluedTo (m : Net) (n : ℕ) (glued : List (Option ℕ)) : Type 0 where
  pub sides : length glued ≡ side_count m
  pub each : (e : ℕ) → e < n
      → MatchOption (slice_index_or glued e None) ((g : ℕ) → IsGlued m e g → ⊥) (λ g. IsGlued m e g)

pub none_glued : (m : Net) (glued : List (Option ℕ)) → glued ≡ replicate (side_count m) None
    → AreGluedTo m 0 glued
none_glued m glued is = grind (arith, common_steps, length-replicate)

told : (m : Net) (e : ℕ) (r : Option Side)
    → MatchOption r ((g : ℕ) → IsGlued m e g → ⊥) (λ g. IsGlued m e g.0)
    → MatchOption (option_map (λ s. s.0) r) ((g : ℕ) → IsGlued m e g → ⊥) (λ g. IsGlued m e g)
told m e None none = none
told m e (Some s) glued = glued

-- One more is put in.
pub glued_more : (m : Net) (n : ℕ) (xs ys : List (Option ℕ)) (r : Option Side) → n < side_count m
    → AreGluedTo m n xs → ys ≡ set xs n (option_map (λ s. s.0) r)
    → MatchOption r ((g : ℕ) → IsGlued m n g → ⊥) (λ g. IsGlued m n g.0) → AreGluedTo m (n + 1) ys
glued_more m n xs ys r low h is now =
    let new : Option ℕ = option_map (λ s. s.0) r in
    record {
      sides = ap length is ∙ length-set xs n new ∙ h.sides;
      each = λ e l. elim (cases_eq e n) [
        | inl same ↦
            let at : slice_index_or ys e None ≡ new =
            grind (arith, common_steps, get_or-set_same, set, slice_index_or) in
            subst (λ o. MatchOption o ((g : ℕ) → IsGlued m e g → ⊥) (λ g. IsGlued m e g)) (sym at)
            (subst (λ i. MatchOption new ((g : ℕ) → IsGlued m i g → ⊥) (λ g. IsGlued m i g))
            (sym same) (told m n r now))
        | inr other ↦ grind (arith, common_steps, get_or-set_other, slice_index_or)
      ];
    }

pub all_glued : (m : Net) (n : ℕ) (glued : List (Option ℕ)) → n ≡ side_count m
    → AreGluedTo m n glued → AreGlued m (side_count m) glued
all_glued m n glued all h = grind (arith, common_steps)

-- A side that is glued to another has a number that sides have.
pub glued_low : (m : Net) (e most : ℕ) (r : Option Side) → side_count m ≤ most
    → MatchOption r ((g : ℕ) → IsGlued m e g → ⊥) (λ g. IsGlued m e g.0)
    → IfSome r (λ s. s.0 < most)
glued_low m e most None few none = tt
glued_low m e most (Some s) few glued =
    (let low = glued.twin.stands.is_side in omega (arith, low, few))
