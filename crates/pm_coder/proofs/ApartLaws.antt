-- Four shifts are enough: then `low` is 0 and `high` the greatest number.
use Rattle.std.proofs.Common.{◌≡◌, ◌%◌, true, inl, inr, refl, arith}
use Rattle.pm_coder.specs.declared.interval.Interval.{Interval}
use Rattle.pm_coder.specs.Intervals.{narrowed, is_apart, shifted, settled}
use Rattle.pm_coder.specs.Laws.{ChoicesAreSettled, ChoicesTakeFew}
use Rattle.pm_coder.proofs.IntervalLaws.{apart_cases, settled-apart, settled-more, settled-zero}
use Rattle.pm_coder.proofs.IntervalLaws.{length-same_bytes}

ends : (i : Interval) → i.low ≡ 0 → i.high ≡ 4294967295 → is_apart i ≡ true
ends i l h = rw (l, h) refl

after_three : (i : Interval) → i.low % 16777216 ≡ 0 → i.high % 16777216 ≡ 16777215
    → is_apart (settled 1 i) ≡ true
after_three i l h =
    elim (apart_cases (is_apart i)) [
      | inl a ↦ rw (settled-apart 1 i a) a
      | inr a ↦
          rw (settled-more 1 0 i (omega arith) a, settled-zero)
          (ends (shifted i) (omega arith) (omega arith))
    ]

after_two : (i : Interval) → i.low % 65536 ≡ 0 → i.high % 65536 ≡ 65535
    → is_apart (settled 2 i) ≡ true
after_two i l h =
    elim (apart_cases (is_apart i)) [
      | inl a ↦ rw (settled-apart 2 i a) a
      | inr a ↦
          rw (settled-more 2 1 i (omega arith) a)
          (after_three (shifted i) (omega arith) (omega arith))
    ]

after_one : (i : Interval) → i.low % 256 ≡ 0 → i.high % 256 ≡ 255 → is_apart (settled 3 i) ≡ true
after_one i l h =
    elim (apart_cases (is_apart i)) [
      | inl a ↦ rw (settled-apart 3 i a) a
      | inr a ↦
          rw (settled-more 3 2 i (omega arith) a)
          (after_two (shifted i) (omega arith) (omega arith))
    ]

settled-is_apart : (i : Interval) → is_apart (settled 4 i) ≡ true
settled-is_apart i =
    elim (apart_cases (is_apart i)) [
      | inl a ↦ rw (settled-apart 4 i a) a
      | inr a ↦
          rw (settled-more 4 3 i (omega arith) a)
          (after_one (shifted i) (omega arith) (omega arith))
    ]

pub choices-are_settled : ChoicesAreSettled
choices-are_settled i c = settled-is_apart (narrowed i c)

pub choices-take_few : ChoicesTakeFew
choices-take_few i c = length-same_bytes 4 (narrowed i c)
