use Rattle.std.proofs.Common.{◌≡◌, ℕ, ◌+◌, ◌-◌, true, false, List, [], ◌∷◌, ◌++◌, arith, sym, ◌∙◌}
use Rattle.std.proofs.Common.{append_assoc}
use Rattle.std.proofs.lemmas.List.{append-nil}
use Rattle.pm_coder.specs.declared.interval.Interval.{Interval}
use Rattle.pm_coder.specs.Intervals.{is_apart, shifted, settled, same_bytes, top}
use Rattle.pm_coder.proofs.IntervalLaws.{settled-apart, same_bytes-apart, settled-more}
use Rattle.pm_coder.proofs.IntervalLaws.{same_bytes-more, settled-zero, same_bytes-zero}
use Rattle.pm_coder.proofs.encoder.put_same_bytes.Goals as goal

-- All are written where the top bytes differ, and after four shifts.
ended : (i : Interval) (n : ℕ) (bytes all : List ℕ) → is_apart i ≡ true
    → bytes ++ same_bytes n i ≡ all → bytes ≡ all
ended i n bytes all a e =
    let same : bytes ++ [] ≡ all = rw (same_bytes-apart n i a) at e in
    sym (append-nil bytes) ∙ same

full : (i : Interval) (n : ℕ) (bytes all : List ℕ) → n ≡ 0 → bytes ++ same_bytes n i ≡ all
    → bytes ≡ all
full i n bytes all z e =
    let same : bytes ++ [] ≡ all = rw (z, same_bytes-zero i) at e in
    sym (append-nil bytes) ∙ same

-- One more is written.
more : (i : Interval) (n m : ℕ) (bytes now all : List ℕ) → n ≡ m + 1 → is_apart i ≡ false
    → now ≡ bytes ++ top i.high ∷ [] → bytes ++ same_bytes n i ≡ all
    → now ++ same_bytes m (shifted i) ≡ all
more i n m bytes now all s a p e =
    let one : bytes ++ (top i.high ∷ same_bytes m (shifted i)) ≡ all =
    rw (same_bytes-more n m i s a) at e in
    rw (p, append_assoc) one

pub returns-then-is_apart-clause-interval : goal.returns-then-is_apart-clause-interval
returns-then-is_apart-clause-interval c =
    let a : is_apart c.loop-shift.left ≡ true = sym c.is_apart.ensures ∙ c.if-is_apart.true in
    sym (settled-apart _ _ a) ∙ c.loop-shift.invariant.interval

pub returns-then-is_apart-clause-bytes : goal.returns-then-is_apart-clause-bytes
returns-then-is_apart-clause-bytes c =
    let a : is_apart c.loop-shift.left ≡ true = sym c.is_apart.ensures ∙ c.if-is_apart.true in
    ended _ _ _ _ a c.loop-shift.invariant.written

pub loop-shift-preserved : goal.loop-shift-preserved
loop-shift-preserved c =
    let a : is_apart c.loop-shift.left ≡ false = sym c.is_apart.ensures ∙ c.if-is_apart.false in
    let m = 4 - (c.loop-shift._shift + 1) in
    let s : 4 - c.loop-shift._shift ≡ m + 1 = omega arith in
    let put : c.push.new.self.items
    ≡ c.loop-shift.bytes.items ++ top c.loop-shift.left.high ∷ [] =
    rw c.top.ensures at c.in_ok-push.ensures.items in
    record {
      interval = rw c.shifted-left.ensures
          (sym (settled-more _ m _ s a) ∙ c.loop-shift.invariant.interval);
      written = rw c.shifted-left.ensures
          (more _ _ m _ _ _ s a put c.loop-shift.invariant.written);
    }

pub returns-clause-interval : goal.returns-clause-interval
returns-clause-interval c =
    let z : 4 - c.loop-shift._shift ≡ 0 = omega arith in
    let left : settled 0 c.loop-shift.left ≡ settled 4 c.args.part =
    rw z at c.loop-shift.invariant.interval in
    sym (settled-zero c.loop-shift.left) ∙ left

pub returns-clause-bytes : goal.returns-clause-bytes
returns-clause-bytes c =
    let z : 4 - c.loop-shift._shift ≡ 0 = omega arith in
    full _ _ _ _ z c.loop-shift.invariant.written
