-- What holds of a hierarchy while it is lowered, from the full front on.
use Rattle.std.proofs.Common.{◌≡◌, ℕ, suc, ◌-◌, ◌*◌, ◌<◌, Bool, true, false, List, [], ◌∷◌, Option}
use Rattle.std.proofs.lemmas.Grind.{common_steps}
use Rattle.std.proofs.Common.{Some, inl, inr, length, replicate, refl, sym, ap, ◌∙◌, subst, arith}
use Rattle.std.proofs.Math.ListN.{set, length-set}
use Rattle.std.proofs.lemmas.Bool.{cases_eq, lt-ltb, le-ltb}
use Rattle.std.proofs.lemmas.List.{length-replicate}
use Rattle.pm_base.specs.Sides.{NoSideTwice}
use Rattle.pm_forest.specs.Forest.{Hierarchy, record_count}
use Rattle.pm_forest.specs.Fronts.{below, every, no_records, without, IsFront}
use Rattle.pm_base.specs.Counts.{set_of}
use Rattle.pm_forest.specs.Faces.{face_count, record_of}
use Rattle.pm_forest.specs.Rules.{HasShape}
use Rattle.pm_forest.proofs.Ancestors.{below-front}
use Rattle.pm_forest.proofs.ShapeLaws.{shape_of_nodes}
use Rattle.pm_forest.proofs.Flags.{set_of-clear, set_of-unset, without-below}
use Rattle.pm_beyond.specs.Walks.{leaf_net, Beyond, expected}
use Rattle.pm_beyond.specs.Valid.{IsAsTold}
use Rattle.pm_beyond.proofs.Opening.{told_found}
use Rattle.pm_sides.specs.Stored.{AreStored}
use Rattle.pm_sides.specs.Told.{TellsAll}
use Rattle.pm_sides.specs.Lowering.{IsLoweredTo, IsLowering}
use Rattle.pm_sides.proofs.FullTable.{set_of-all, all-stored}

pub full_lowered : (h : Hierarchy)
    → IsLoweredTo h (replicate (record_count h) true) (record_count h)
full_lowered h = grind (arith, common_steps, set_of-all)

module _ (h : Hierarchy) (shape : HasShape h) (once : NoSideTwice (leaf_net h)) (flags : List Bool)
    (left : ℕ) (to : IsLoweredTo h flags left) (len : length flags ≡ record_count h) where
  pub last_told : 0 < left → TellsAll h (set_of flags) (left - 1) → IsAsTold h (left - 1)
  last_told pos tells = grind (arith, common_steps, told_found h shape once (left - 1))

  pub last_fails : 0 < left → (TellsAll h (set_of flags) (left - 1) → ⊥) → IsAsTold h (left - 1) → ⊥
  last_fails pos untold told = grind (arith, common_steps, told_found h shape once (left - 1))

  pub lowered : 0 < left → TellsAll h (set_of flags) (left - 1)
      → IsLoweredTo h (set flags (left - 1) false) (left - 1)
  lowered pos tells =
      let told = last_told pos tells in
      let last : suc (left - 1) ≡ left = omega arith in
      let most = to.most in
      record {
        most = omega arith;
        front = set_of-clear flags (left - 1) (omega arith)
            ∙ ap (λ (U : ℕ → Bool). without U (left - 1)) (to.front ∙ ap below (sym last))
            ∙ without-below (left - 1);
        told = λ j a b. elim (cases_eq j (left - 1)) [
          | inl is ↦ subst (IsAsTold h) (sym is) told
          | inr other ↦ to.told j (omega arith) b
        ];
      }

  -- the last record that is split, and its children
  pub last_split : 0 < left → set_of flags (left - 1) ≡ true
  last_split pos =
      ap (λ (U : ℕ → Bool). U (left - 1)) to.front ∙ lt-ltb (left - 1) left (omega arith)

  pub last_beyond : 0 < left → TellsAll h (set_of flags) (left - 1) → (e : ℕ) → e < 3 * face_count h
      → record_of h e ≡ Some (left - 1) → Beyond h (set_of flags) e (expected h e)
  last_beyond pos tells e e_lt own = grind (arith, common_steps, last_told)

  pub lowered-front : IsFront h (set_of flags)
  lowered-front = subst (IsFront h) (sym to.front) (below-front h (shape_of_nodes h shape) left)

-- A lowering begins with all records split, and goes on by the last one that is.
pub lowering-begins : (h : Hierarchy) → HasShape h → NoSideTwice (leaf_net h)
    → (flags : List Bool) (table : List (Option ℕ)) → flags ≡ replicate (record_count h) true →
    AreStored h every table → IsLowering h flags table (record_count h)
lowering-begins h shape once flags table all_set full =
    grind (arith, common_steps, all-stored, full_lowered, length-replicate, lowered, set_of-all)

pub lowering-goes_on : (h : Hierarchy) (flags : List Bool) (table : List (Option ℕ)) (left : ℕ)
    → IsLowering h flags table left → 0 < left → TellsAll h (set_of flags) (left - 1) →
    (now : List (Option ℕ)) → AreStored h (without (set_of flags) (left - 1)) now
    → IsLowering h (set flags (left - 1) false) now (left - 1)
lowering-goes_on h flags table left was pos tells now right =
    grind (
      arith,
      common_steps,
      length-set flags (left - 1) false,
      lowered h was.shape was.once flags left was.lowered was.flag_len pos tells,
      set_of-clear flags (left - 1),
    )

-- Once no record is split, no flag is set.
all_false : (flags : List Bool) → ((j : ℕ) → j < length flags → set_of flags j ≡ false)
    → flags ≡ replicate (length flags) false
all_false [] none = refl
all_false (x ∷ xs) none =
    let first : x ≡ false = none 0 (omega arith) in
    let later = all_false xs (λ j l. none (suc j) (omega arith)) in
    ap (λ y. y ∷ xs) first ∙ ap (λ (ys : List Bool). false ∷ ys) later

module _ (h : Hierarchy) (flags : List Bool) (table : List (Option ℕ)) (left : ℕ)
    (was : IsLowering h flags table left) (none : left ≡ 0) where
  pub lowered-flags : flags ≡ replicate (record_count h) false
  lowered-flags =
      let clear = λ (j : ℕ) (l : j < length flags). ap (λ (U : ℕ → Bool). U j) (was.lowered.front
      ∙ ap below none) ∙ le-ltb j 0 (omega arith) in
      all_false flags clear ∙ ap (λ n. replicate n false) was.flag_len

  pub lowered-stored : AreStored h no_records table
  lowered-stored =
      subst (λ (T : ℕ → Bool). AreStored h T table) (ap set_of lowered-flags
      ∙ set_of-unset (record_count h)) was.beyond
