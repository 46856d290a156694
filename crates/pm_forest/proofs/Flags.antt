-- A set of records as a list of flags: setting or clearing one flag adds or takes one record, as an
-- equation of sets.
use Rattle.std.proofs.Common.{◌≡◌, ℕ, suc, ◌<◌, eqb, Bool, true, false, List, length, get_or, inl}
use Rattle.std.proofs.lemmas.Grind.{common_steps}
use Rattle.std.proofs.Common.{inr, sym, ap, ◌∙◌, arith, get_or-set_same}
use Rattle.std.proofs.Common.{get_or-set_other}
use Rattle.std.proofs.Math.ListN.{set}
use Rattle.std.proofs.Math.Path.{fun_ext}
use Rattle.std.proofs.lemmas.Bool.{cases_eq, lt-ltb, le-ltb, eq-eqb, ne_eqb}
use Rattle.std.proofs.lemmas.Bool.{cond-true, cond-false}
use Rattle.std.proofs.lemmas.List.{get_or-replicate, get_or_past, length-replicate}
use Rattle.std.specs.Prelude.{replicate}
use Rattle.pm_forest.specs.Fronts.{no_records, below, with, without}
use Rattle.pm_base.specs.Counts.{set_of}

pub set_of-set : (flags : List Bool) (k : ℕ) → k < length flags
    → set_of (set flags k true) ≡ with (set_of flags) k
set_of-set flags k l = fun_ext (λ j.
    elim (cases_eq j k) [
      | inl is ↦ grind (arith, common_steps, cond-true, eq-eqb, get_or, get_or-set_same, set)
      | inr n ↦ get_or-set_other flags k j true false n
          ∙ sym (cond-false (eqb j k) true (get_or flags j false) (ne_eqb j k n))
    ])

pub set_of-clear : (flags : List Bool) (k : ℕ) → k < length flags
    → set_of (set flags k false) ≡ without (set_of flags) k
set_of-clear flags k l = fun_ext (λ j.
    elim (cases_eq j k) [
      | inl is ↦ grind (arith, common_steps, cond-true, eq-eqb, get_or, get_or-set_same, set)
      | inr n ↦ get_or-set_other flags k j false false n
          ∙ sym (cond-false (eqb j k) false (get_or flags j false) (ne_eqb j k n))
    ])

-- With no flag set there is no record in the set.
pub set_of-unset : (n : ℕ) → set_of (replicate n false) ≡ no_records
set_of-unset n =
    grind (arith, common_steps, fun_ext, get_or-replicate, get_or_past, length-replicate)

pub none_set : (n : ℕ) (flags : List Bool) → flags ≡ replicate n false → set_of flags ≡ no_records
none_set n flags is = ap set_of is ∙ set_of-unset n

-- The records up to k, without k, are those below k.
pub without-below : (k : ℕ) → without (below (suc k)) k ≡ below k
without-below k =
    grind (arith, common_steps, cond-false, cond-true, eq-eqb, fun_ext, le-ltb, lt-ltb, ne_eqb)
