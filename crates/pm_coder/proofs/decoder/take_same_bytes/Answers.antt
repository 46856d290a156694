use Rattle.std.proofs.Common.{◌≡◌, ℕ, ◌+◌, ◌-◌, true, false, length, take, drop, arith, sym}
use Rattle.std.proofs.Common.{◌∙◌, ap, List}
use Rattle.std.proofs.lemmas.List.{take_rest}
use Rattle.pm_coder.specs.declared.interval.Interval.{Interval}
use Rattle.pm_coder.specs.Intervals.{is_apart, shifted, settled, same_bytes}
use Rattle.pm_coder.proofs.IntervalLaws.{settled-apart, same_bytes-apart, settled-more}
use Rattle.pm_coder.proofs.IntervalLaws.{same_bytes-more, settled-zero, same_bytes-zero}
use Rattle.pm_coder.proofs.decoder.take_same_bytes.Goals as goal

-- How many bytes are taken where the top bytes differ, and after four shifts.
ended : (i : Interval) (n k all : ℕ) → is_apart i ≡ true → k + length (same_bytes n i) ≡ all
    → all ≡ k
ended i n k all a e = omega (arith, e, ap length (same_bytes-apart n i a))

full : (i : Interval) (n k all : ℕ) → n ≡ 0 → k + length (same_bytes n i) ≡ all → all ≡ k
full i n k all z e =
    let none : length (same_bytes n i) ≡ 0 = rw (z, same_bytes-zero i) (omega arith) in
    omega arith

-- One more is taken.
more : (i : Interval) (n m k all : ℕ) → n ≡ m + 1 → is_apart i ≡ false
    → k + length (same_bytes n i) ≡ all → (k + 1) + length (same_bytes m (shifted i)) ≡ all
more i n m k all s a e = omega (arith, e, ap length (same_bytes-more n m i s a))

rest : (bytes : List ℕ) (k all : ℕ) → all ≡ k
    → take (length bytes - k) (drop k bytes) ≡ drop all bytes
rest bytes k all e = rw e (take_rest bytes k)

pub returns-then-is_apart-clause-interval : goal.returns-then-is_apart-clause-interval
returns-then-is_apart-clause-interval c =
    let a : is_apart c.loop-shift.left ≡ true = sym c.is_apart.ensures ∙ c.if-is_apart.true in
    sym (settled-apart _ _ a) ∙ c.loop-shift.invariant.interval

pub returns-then-is_apart-clause-bytes : goal.returns-then-is_apart-clause-bytes
returns-then-is_apart-clause-bytes c =
    let a : is_apart c.loop-shift.left ≡ true = sym c.is_apart.ensures ∙ c.if-is_apart.true in
    rest _ _ _ (ended _ _ _ _ a c.loop-shift.invariant.taken)

pub returns-then-is_apart-clause-long : goal.returns-then-is_apart-clause-long
returns-then-is_apart-clause-long c =
    let a : is_apart c.loop-shift.left ≡ true = sym c.is_apart.ensures ∙ c.if-is_apart.true in
    omega (arith, ended _ _ _ _ a c.loop-shift.invariant.taken, c.loop-shift.invariant.within)

pub returns-then-bytes-shift-eq4-clause-cut : goal.returns-then-bytes-shift-eq4-clause-cut
returns-then-bytes-shift-eq4-clause-cut c =
    let a : is_apart c.loop-shift.left ≡ false = sym c.is_apart.ensures ∙ c.if-is_apart.false in
    omega (
      arith,
      more _ _ (4 - (c.loop-shift.shift + 1)) _ _ (omega arith) a
          c.loop-shift.invariant.taken,
    )

pub loop-shift-preserved : goal.loop-shift-preserved
loop-shift-preserved c =
    let a : is_apart c.loop-shift.left ≡ false = sym c.is_apart.ensures ∙ c.if-is_apart.false in
    let m = 4 - (c.loop-shift.shift + 1) in
    let s : 4 - c.loop-shift.shift ≡ m + 1 = omega arith in
    record {
      within = omega arith;
      interval = rw c.shifted-left.ensures
          (sym (settled-more _ m _ s a) ∙ c.loop-shift.invariant.interval);
      taken = rw c.shifted-left.ensures (more _ _ m _ _ s a c.loop-shift.invariant.taken);
    }

pub returns-clause-interval : goal.returns-clause-interval
returns-clause-interval c =
    let z : 4 - c.loop-shift.shift ≡ 0 = omega arith in
    let left : settled 0 c.loop-shift.left ≡ settled 4 c.args.part =
    rw z at c.loop-shift.invariant.interval in
    sym (settled-zero c.loop-shift.left) ∙ left

pub returns-clause-bytes : goal.returns-clause-bytes
returns-clause-bytes c =
    let z : 4 - c.loop-shift.shift ≡ 0 = omega arith in
    let four : c.loop-shift.shift ≡ 4 = omega arith in
    rest _ _ _ (full _ _ _ _ z c.loop-shift.invariant.taken ∙ four)

pub returns-clause-long : goal.returns-clause-long
returns-clause-long c =
    let z : 4 - c.loop-shift.shift ≡ 0 = omega arith in
    omega (arith, full _ _ _ _ z c.loop-shift.invariant.taken, c.loop-shift.invariant.within)
