-- The full front: the records below their number are all of them.
use Rattle.std.proofs.Common.{◌≡◌, ℕ, ◌*◌, ◌<◌, Bool, true, false, List, Option, replicate, inl}
use Rattle.std.proofs.lemmas.Grind.{common_steps}
use Rattle.std.proofs.Common.{inr, refl, sym, ◌∙◌, arith}
use Rattle.std.proofs.Math.Path.{fun_ext}
use Rattle.std.proofs.lemmas.List.{get_or-replicate, get_or_past, length-replicate}
use Rattle.std.proofs.lemmas.Bool.{lt-ltb, le-ltb, cases_lt, both_ways}
use Rattle.pm_base.specs.Sides.{NoSideTwice, beside_side}
use Rattle.pm_base.proofs.Search.{option_cases}
use Rattle.pm_forest.specs.Forest.{Hierarchy, record_count}
use Rattle.pm_forest.specs.Fronts.{below, every}
use Rattle.pm_base.specs.Counts.{set_of}
use Rattle.pm_forest.specs.Faces.{face_count}
use Rattle.pm_forest.specs.Kept.{is_shown}
use Rattle.pm_forest.specs.Rules.{HasShape}
use Rattle.pm_forest.proofs.FaceNumbers.{record-lt}
use Rattle.pm_forest.proofs.ShapeLaws.{shape_is_forest}
use Rattle.pm_forest.proofs.Shown.{shown_record, shown_base}
use Rattle.pm_beyond.specs.Walks.{leaf_net}
use Rattle.pm_beyond.proofs.Reaching.{reaches-lt, fewer}
use Rattle.pm_beyond.proofs.Standing.{stops_there}
use Rattle.pm_beyond.proofs.Twins.{shown_every}
use Rattle.pm_sides.specs.Stored.{AreStored}

-- With all flags set all records below their number are split.
pub set_of-all : (n : ℕ) → set_of (replicate n true) ≡ below n
set_of-all n = fun_ext (λ j.
    elim (cases_lt j n) [
      | inl l ↦ get_or-replicate n j true false l ∙ sym (lt-ltb j n l)
      | inr l ↦ get_or_past (replicate n true) j false (omega (arith, length-replicate n true))
          ∙ sym (le-ltb j n l)
    ])

module _ (h : Hierarchy) (shape : HasShape h) where
  abbrev all : ℕ → Bool
  all = below (record_count h)

  pub all-shown : (e : ℕ) → e < 3 * face_count h → is_shown h all e ≡ true
  all-shown e l =
      grind (arith, common_steps, lt-ltb, option_cases, record-lt, shown_base, shown_record)

  pub all-stored : NoSideTwice (leaf_net h) → (table : List (Option ℕ)) → AreStored h every table
      → AreStored h all table
  all-stored once table full = record {
    sides = full.sides;
    shown = λ a l s.
        let far = full.shown a l (shown_every h a) in
        record {
          reaches = fewer h every all (λ j e. refl) far.reaches;
          stops = stops_there h all (beside_side table a)
              (λ c is. all-shown c
              (reaches-lt h (shape_is_forest h shape) once every c far.reaches is));
        };
    hidden = λ a l d. absurd (both_ways (is_shown h all a) d (all-shown a l));
  }
