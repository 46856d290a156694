-- What a set needs.
use Rattle.std.proofs.Common.{◌≡◌, ℕ, ◌<◌, Bool, true, false, ◌&&◌, arith}
use Rattle.std.proofs.lemmas.Bool.{and_parts, and_from, both_ways, false_from_ne_true}
use Rattle.pm_forest.specs.Forest.{Hierarchy, record_count}
use Rattle.pm_forest.specs.Rules.{HasShape}
use Rattle.pm_beyond.specs.Moves.{Needs, needs, IsClosed}
use Rattle.pm_beyond.proofs.Outer.{needs-true, needs-from}
use Rattle.pm_beyond.proofs.Standing.{needs-older}
use Rattle.pm_beyond.proofs.TargetLaws.{any_below-parts, any_below-from}
use Rattle.pm_candidates.specs.Needed.{is_needed}

pub needed-parts : (h : Hierarchy) (T : ℕ → Bool) (k : ℕ) → is_needed h T k ≡ true
    → (j : ℕ) × (j < record_count h) × (T j ≡ true) × Needs h j k
needed-parts h T k e =
    let (j, l, a) = any_below-parts (λ j. T j && needs h j k) (record_count h) e in
    let p = and_parts (T j) (needs h j k) a in
    (j, l, p.0, needs-true h j k l p.1)

pub needed-from : (h : Hierarchy) (T : ℕ → Bool) (j k : ℕ) → j < record_count h → T j ≡ true
    → Needs h j k → is_needed h T k ≡ true
needed-from h T j k l t need =
    any_below-from (λ j. T j && needs h j k) (record_count h) j l
    (and_from (T j) (needs h j k) t (needs-from h j k need))

-- No record needs itself, and none of a closed set needs one that isn't in it.
pub not_own : (h : Hierarchy) → HasShape h → (k : ℕ) → k < record_count h → Needs h k k → ⊥
not_own h shape k l need = let older = needs-older h shape k k l need in absurd (omega arith)

pub unwanted : (h : Hierarchy) (T : ℕ → Bool) → IsClosed h T → (k : ℕ) → T k ≡ false → (j : ℕ)
    → j < record_count h → Needs h j k → T j ≡ false
unwanted h T closed k absent j l need =
    false_from_ne_true (T j) (λ t. both_ways (T k) absent (closed j k l t need))

pub none_needs : (h : Hierarchy) (T : ℕ → Bool) → IsClosed h T → (k : ℕ) → T k ≡ false
    → is_needed h T k ≡ false
none_needs h T closed k absent =
    false_from_ne_true (is_needed h T k) (λ e. let (j, l, there, need) = needed-parts h T k e in
    both_ways (T j) (unwanted h T closed k absent j l need) there)
