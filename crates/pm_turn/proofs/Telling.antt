-- What is told of turning.
use Rattle.std.proofs.Common.{◌≡◌, ℕ, ◌<◌, inl, inr, refl, sym, ap, ◌∙◌, subst, Bool, true, false}
use Rattle.std.proofs.Common.{not, ◌&&◌, List, Option, slice_index_or, arith}
use Rattle.std.proofs.lemmas.Grind.{common_steps}
use Rattle.std.specs.Prelude.{ℤ, pos, ◌<ℤ◌, ◌==◌, int_lt}
use Rattle.std.proofs.lemmas.Bool.{cases_Bool, eq-eqb, eqb-true, true≢false}
use borrow.Author.Differences.{ints}
use Rattle.pm_base.specs.Place.{Place}
use Rattle.pm_base.specs.Counts.{count}
use Rattle.pm_base.specs.Sides.{Net, face_of}
use Rattle.pm_turn.specs.declared.patches.Root.{Root}
use Rattle.pm_turn.specs.declared.choice.Sums.{Sums}
use Rattle.pm_turn.specs.Turning.{clash, flipped_if, Way, stay, over, AreTraced}
use Rattle.pm_turn.specs.Unions.{AreMated}
use Rattle.pm_turn.specs.Choice.{volume_at, volume_in}
use Rattle.pm_turn.specs.Sums.{root_at, parity_at, no_sums, AreSums}
use Rattle.pm_turn.specs.Told.{IsCount, IsTwisted, IsInsideOut, AreInsideOut, is_inward}
use Rattle.pm_turn.proofs.Traced.{one_in, other_in, roots_same, odd_way}
use Rattle.pm_turn.proofs.TurnedFaces.{flip_flip, own_not}
use Rattle.pm_turn.proofs.Totals.{patch_some, patch_total}
use Rattle.pm_turn.proofs.Choosing.{patches, even_way, all_even, some_bare, none_bare, none_odd}

-- Faces in twisted patches.
module _ (m : Net) (root : ℕ → ℕ) (parity odd : ℕ → Bool) (t : AreTraced m root parity odd) where
  along_straight : (f g : ℕ) (p : Bool) → Way m f g p → odd (root f) ≡ false
      → parity g ≡ flipped_if p (parity f)
  along_straight f g p stay un = refl
  along_straight f g q (over {e} {k} {p} w a) un =
      t.straight e k a (ap odd (sym (roots_same m root parity odd t f (face_of e) p w)) ∙ un)
      ∙ ap (flipped_if (clash m e k)) (along_straight f (face_of e) p w un)
      ∙ flip_flip (clash m e k) p (parity f)

  no_odd_way : (f : ℕ) → odd (root f) ≡ false → Way m f f true → ⊥
  no_odd_way f un w = own_not (parity f) (along_straight f f true w un)

  pub twisted_counted : (k : ℕ) → k ≡ count (λ f. odd (root f)) m.faces
      → IsCount (IsTwisted m) m.faces k
  twisted_counted k is = grind (arith, common_steps, no_odd_way, odd_way)

-- Patches that are inside out.
own_and : (own odd b c v : Bool) → (own && not odd && b && c && v) ≡ true
    → (own ≡ true) × (odd ≡ false) × (b ≡ true) × (c ≡ true) × (v ≡ true)
own_and true false true true true e = (refl, refl, refl, refl, refl)
own_and true false true true false e = absurd (true≢false (sym e))
own_and true false true false v e = absurd (true≢false (sym e))
own_and true false false c v e = absurd (true≢false (sym e))
own_and true true b c v e = absurd (true≢false (sym e))
own_and false odd b c v e = absurd (true≢false (sym e))

all_and : (own odd b c v : Bool) → own ≡ true → odd ≡ false → b ≡ true → c ≡ true → v ≡ true
    → (own && not odd && b && c && v) ≡ true
all_and own odd b c v h0 h1 h2 h3 h4 = grind (arith, common_steps)

agree_even : (c a b : Bool) → b ≡ flipped_if c a → a ≡ false → b ≡ false → c ≡ false
agree_even true a b e f g = absurd (true≢false (sym (sym g ∙ e ∙ ap not f)))
agree_even false a b e f g = refl

below_zero : (z : ℤ) → int_lt z (pos 0) ≡ true → z <ℤ pos 0
below_zero z e = omega (arith, ints)

is_below_zero : (z : ℤ) → z <ℤ pos 0 → int_lt z (pos 0) ≡ true
is_below_zero z h = sym (omega (arith, ints))

module _ (m : Net) (places : List Place) (mates : List (Option ℕ)) (roots : List Root) (odd : ℕ
    → Bool) (sums : List Sums)
    (t : AreTraced m (root_at roots) (parity_at roots) odd) (am : AreMated m mates)
    (s : AreSums m places mates roots m.faces sums) where
  abbrev pub tests : ℕ → Bool
  tests r = is_inward (root_at roots r == r) (odd r) (slice_index_or sums r no_sums)

  volume_is : (r : ℕ) → r < m.faces
      → ((f : ℕ) → f < m.faces → root_at roots f ≡ r → parity_at roots f ≡ false)
      → volume_in m places (root_at roots) (λ _. false) r ≡ (slice_index_or sums r no_sums).volume
  volume_is r low even =
      patch_total (root_at roots) r m.faces (λ f. volume_at m places false f)
      (λ f. volume_at m places (parity_at roots f) f) (λ f l at.
      ap (λ (b : Bool). volume_at m places b f) (sym (even f l at)))
      ∙ sym (s.each r low).volume

  told_inward : (r : ℕ) → r < m.faces → tests r ≡ true → IsInsideOut m places (root_at roots) r
  told_inward r low e =
      let sum : Sums = slice_index_or sums r no_sums in
      let (o, un, b, c, v) = own_and (root_at roots r == r) (odd r) (sum.bare == 0) (sum.odd == 0)
      (int_lt sum.volume (pos 0)) e in
      let own : root_at roots r ≡ r = eqb-true _ _ o in
      let none : sum.odd ≡ 0 = eqb-true _ _ c in
      let even : (f : ℕ) → f < m.faces → root_at roots f ≡ r → parity_at roots f ≡ false = λ f l at.
      elim (cases_Bool (parity_at roots f)) [
        | inr is ↦ is
        | inl is ↦
            let some = patch_some (root_at roots) r m.faces (parity_at roots) f l at is in
            let sum_odd = (s.each r low).odd in
            absurd (omega (arith, some, sum_odd, none))
      ] in
      record {
        own = own;
        closed = λ free. some_bare m places mates roots odd sums t am s r low own free
            (eqb-true _ _ b);
        agrees = λ e k a at.
            let el = one_in m e k a in
            let kl = other_in m e k a in
            let straight = t.straight e k a (ap odd at ∙ un) in
            let one = even (face_of e) el at in
            let other = even (face_of k) kl (sym (t.same e k a) ∙ at) in
            agree_even (clash m e k) (parity_at roots (face_of e)) (parity_at roots (face_of k))
            straight one other;
        inward = subst (λ (z : ℤ). z <ℤ pos 0) (sym (volume_is r low even))
            (below_zero sum.volume v);
      }

  is_told_inward : (r : ℕ) → r < m.faces → IsInsideOut m places (root_at roots) r → tests r ≡ true
  is_told_inward r low h =
      let sum : Sums = slice_index_or sums r no_sums in
      let even = all_even m places mates roots odd sums t am s r h.agrees in
      let un : odd r ≡ false =
      elim (cases_Bool (odd r)) [
        | inr un ↦ un
        | inl set ↦
            absurd (true≢false
            (even_way m places mates roots odd sums t am s r (root_at roots r) (root_at roots r)
            true h.agrees (ap (root_at roots) h.own ∙ h.own)
            (t.twisted r low (ap odd h.own ∙ set))))
      ] in
      all_and (root_at roots r == r) (odd r) (sum.bare == 0) (sum.odd == 0)
      (int_lt sum.volume (pos 0))
      (eq-eqb _ _ h.own) un
      (eq-eqb _ _ (none_bare m places mates roots odd sums t am s r low h.own h.closed))
      (eq-eqb _ _ (none_odd m places mates roots odd sums t am s r low h.own h.agrees))
      (is_below_zero sum.volume (subst (λ (z : ℤ). z <ℤ pos 0) (volume_is r low even) h.inward))

  pub inward_counted : (k : ℕ) → k ≡ count tests m.faces → AreInsideOut m places k
  inward_counted k is = record {
    least = root_at roots;
    patches = patches m places mates roots odd sums t am s;
    count = record { test = tests; yes = told_inward; no = is_told_inward; is = is };
  }
