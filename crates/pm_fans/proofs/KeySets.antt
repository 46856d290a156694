-- The set of the keys of the faces that stay, as one more face is looked at.
use Rattle.std.proofs.Common.{◌≡◌, ℕ, zero, suc, ◌+◌, ◌<◌, ◌≤◌, Bool, true, false, not, ◌&&◌, ◌||◌}
use Rattle.std.proofs.lemmas.Grind.{common_steps}
use Rattle.std.proofs.Common.{inl, inr, refl, sym, ap, ◌∙◌, subst, List, [], ◌∷◌, ◌++◌, length}
use Rattle.std.proofs.Common.{drop, arith}
use Rattle.std.specs.List.{All, list_any}
use Rattle.std.specs.Ordering.{nat_cmp, is_eq}
use Rattle.std.specs.BTreeSet.{BTreeSet, contains, Updates}
use Rattle.std.proofs.lemmas.Bool.{cases_Bool, cond-true, cond-false, or_right}
use Rattle.std.proofs.lemmas.List.{drop_more, drop_all}
use Rattle.std.proofs.lemmas.List.Folds.{list_any-append}
use Rattle.std.proofs.lemmas.List.Elements.{All-append}
use Rattle.pm_base.specs.declared.mesh.Corners.{Corners}
use Rattle.pm_base.specs.Sides.{no_corners}
use Rattle.pm_base.proofs.NetLaws.{face_at}
use Rattle.pm_fans.specs.Kept.{is_flat, is_alike, is_kept_after, kept_after, kept_of}
use Rattle.pm_fans.specs.Keys.{corners_key_of, IsProperFace, has_key, HoldsKeys, HasShortCorners}
use Rattle.pm_fans.proofs.KeyLaws.{alike_key}

pub no_keys : (stay : List Corners) (s : BTreeSet ℕ) → stay ≡ [] → s.keys ≡ [] → HoldsKeys stay s
no_keys stay s none is = grind (arith, common_steps)

-- A face has the key where one is alike.
has_alike : (fs : List Corners) (f : Corners) → All IsProperFace fs → IsProperFace f
    → has_key fs (corners_key_of f) ≡ list_any (is_alike f) fs
has_alike [] f all p = refl
has_alike (g ∷ fs) f all p =
    rw (
      alike_key f g p (all zero g (omega arith)),
      has_alike fs f (λ k d l. all (suc k) d (omega arith)) p,
    ) refl

or_none : (b : Bool) → (b || (false || false)) ≡ b
or_none true = refl
or_none false = refl

one_proper : (f : Corners) → IsProperFace f → All IsProperFace (f ∷ [])
one_proper f p zero d l = p
one_proper f p (suc k) d l = absurd (omega arith)

-- One more key.
keys_more : (stay : List Corners) (f : Corners) (s n : BTreeSet ℕ)
    → ((k : ℕ) → contains nat_cmp s k ≡ has_key stay k)
    → Updates nat_cmp s n (corners_key_of f) true → (k : ℕ)
    → contains nat_cmp n k ≡ has_key (stay ++ f ∷ []) k
keys_more stay f s n is u k =
    u.0 k ∙ (elim (cases_Bool (is_eq (nat_cmp (corners_key_of f) k))) [
      | inl t ↦ cond-true _ _ _ t
          ∙ sym (or_right (has_key stay k) (is_eq (nat_cmp (corners_key_of f) k) || false)
          (ap (λ b. b || false) t))
      | inr e ↦ cond-false _ _ _ e ∙ is k
          ∙ sym (ap (λ b. has_key stay k || (b || false)) e ∙ or_none (has_key stay k))
    ]) ∙ sym (list_any-append (λ g. is_eq (nat_cmp (corners_key_of g) k)) stay (f ∷ []))

-- Whether the key is new says whether the face stays.
stays_where_new : (stay : List Corners) (f : Corners) (s : BTreeSet ℕ) → HoldsKeys stay s
    → IsProperFace f → is_kept_after stay f ≡ not (contains nat_cmp s (corners_key_of f))
unfolding is_kept_after
stays_where_new stay f s h p =
    rw (p.flat, h.each (corners_key_of f), has_alike stay f h.proper p) refl

pub flat_goes : (stay : List Corners) (f : Corners) → is_flat f ≡ true
    → stay ≡ kept_after stay (f ∷ [])
unfolding is_kept_after
flat_goes stay f e = sym (cond-false _ _ _ (ap (λ b. not b && not (list_any (is_alike f) stay)) e))

pub old_goes : (stay : List Corners) (f : Corners) (s : BTreeSet ℕ) → HoldsKeys stay s
    → is_flat f ≡ false → HasShortCorners f → not (contains nat_cmp s (corners_key_of f)) ≡ false
    → stay ≡ kept_after stay (f ∷ [])
old_goes stay f s h e short new =
    sym (cond-false _ _ _ (stays_where_new stay f s h (record { flat = e; short = short }) ∙ new))

pub new_stays : (stay : List Corners) (f : Corners) (s : BTreeSet ℕ) → HoldsKeys stay s
    → is_flat f ≡ false → HasShortCorners f → not (contains nat_cmp s (corners_key_of f)) ≡ true
    → stay ++ f ∷ [] ≡ kept_after stay (f ∷ [])
new_stays stay f s h e short new =
    sym (cond-true _ _ _ (stays_where_new stay f s h (record { flat = e; short = short }) ∙ new))

pub old_holds : (stay : List Corners) (s n : BTreeSet ℕ) → HoldsKeys stay s → n.keys ≡ s.keys
    → HoldsKeys stay n
old_holds stay s n h same = grind (arith, common_steps)

pub new_holds : (stay more : List Corners) (f : Corners) (s n : BTreeSet ℕ) → HoldsKeys stay s
    → is_flat f ≡ false → HasShortCorners f → Updates nat_cmp s n (corners_key_of f) true
    → more ≡ stay ++ f ∷ [] → HoldsKeys more n
new_holds stay more f s n h e short u is = record {
  proper = subst (All IsProperFace) (sym is)
      (All-append IsProperFace stay (f ∷ []) h.proper
      (one_proper f (record { flat = e; short = short })));
  each = λ k. keys_more stay f s n h.each u k ∙ sym (ap (λ fs. has_key fs k) is);
}

-- One face after the other.
then_rest : (stay : List Corners) (f : Corners) (fs : List Corners)
    → kept_after (kept_after stay (f ∷ [])) fs ≡ kept_after stay (f ∷ fs)
then_rest stay f fs = grind (arith, common_steps, cond-false, cond-true)

pub one_more : (stay more fs : List Corners) (i : ℕ) → i < length fs
    → more ≡ kept_after stay (face_at fs i ∷ []) → kept_after stay (drop i fs) ≡ kept_of fs
    → kept_after more (drop (i + 1) fs) ≡ kept_of fs
one_more stay more fs i l is left =
    ap (λ xs. kept_after xs (drop (i + 1) fs)) is ∙ then_rest stay (face_at fs i) (drop (i + 1) fs)
    ∙ sym (ap (kept_after stay) (drop_more fs i no_corners l)) ∙ left

pub none_yet : (stay fs : List Corners) → stay ≡ [] → kept_after stay fs ≡ kept_of fs
unfolding kept_of
none_yet stay fs is = ap (λ xs. kept_after xs fs) is

pub all_done : (stay fs : List Corners) (i : ℕ) → length fs ≤ i
    → kept_after stay (drop i fs) ≡ kept_of fs → stay ≡ kept_of fs
all_done stay fs i l left = sym (ap (kept_after stay) (drop_all i fs l)) ∙ left
