-- Laws of putting a text: one part after the other, through a page, and how that ends.
use Rattle.std.proofs.Common.{◌≡◌, ℕ, List, [], ◌++◌, Result, Ok, Err, subst, arith}
use Rattle.std.proofs.lemmas.Result.{on_ok_weaker, on_err_weaker}
use Rattle.pm_io.specs.Bytes.{GainsPart, GainsThrough}
use Rattle.pm_io.specs.Causes.{HasCause}
use Rattle.pm_io.specs.Puts.{Puts, PutsThrough}
use Rattle.pm_io.specs.declared.device.Sink as sink
use Rattle.pm_io.proofs.Known.{gains_both, part_more, part_after}
use Rattle.pm_io.proofs.PageLaws.{through_both, through_flush, through_more, through_part}
use Rattle.pm_io.proofs.PageLaws.{through_page_part}

-- The count is what it was,
pub no_cause : {T E : Type 0} (before now : ℕ) (v : T) → now ≡ before
    → HasCause {T = T} {E = E} before now (Ok v)
no_cause before now v is = record {
  later = omega (arith, is);
  most = λ le. omega (arith, is, le);
  same = is;
  failed = tt;
}

-- or it rose after it had stayed,
pub cause_after : {T E : Type 0} (before mid now : ℕ) (r : Result T E) → mid ≡ before
    → HasCause mid now r → HasCause before now r
cause_after before mid now r is = subst (λ (n : ℕ). HasCause n now r) is

-- whatever else the call would have answered.
pub cause_of_err : {T U E : Type 0} (before now : ℕ) (e : E) → HasCause {T = T} before now (Err e)
    → HasCause {T = U} before now (Err e)
cause_of_err before now e cause = record {
  later = cause.later;
  most = cause.most;
  same = tt;
  failed = cause.failed;
}

-- The same through a page.
pub through_done : {K T E : Type 0} (k : sink.Ghosts K) (before now : K) (held holds text : List ℕ)
    (v : T)
    → GainsThrough (k.got before) (k.got now) held holds text → k.faults now ≡ k.faults before
    → PutsThrough {E = E} k before now held holds text (Ok v)
through_done k before now held holds text v gained same = record {
  ok = gained;
  err = tt;
  cause = no_cause _ _ v same;
}

pub through_failed : {K T U E : Type 0} (k : sink.Ghosts K) (before mid now : K)
    (held holds text : List ℕ) (e : E)
    → GainsPart (k.got before) (k.got now) (held ++ text) → k.faults mid ≡ k.faults before
    → HasCause {T = T} (k.faults mid) (k.faults now) (Err e)
    → PutsThrough {T = U} k before now held holds text (Err e)
through_failed k before mid now held holds text e part same cause = record {
  ok = tt;
  err = part;
  cause = cause_after _ _ _ (Err e) same (cause_of_err _ _ e cause);
}

-- One text after the other,
pub puts_then : {K T U E F : Type 0} (k : sink.Ghosts K) (before mid now : K) (a b : List ℕ) (v : U)
    (result : Result T E)
    → Puts {E = F} k before mid a (Ok v) → Puts k mid now b result
    → Puts k before now (a ++ b) result
puts_then k before mid now a b v result first second = record {
  ok = on_ok_weaker result (gains_both _ _ _ a b first.ok) second.ok;
  err = on_err_weaker result (part_after _ _ _ a b first.ok) second.err;
  cause = cause_after _ _ _ result first.cause.same second.cause;
}

-- and where the first fails, the second isn't put.
pub puts_stops : {K T E : Type 0} (k : sink.Ghosts K) (before now : K) (a b : List ℕ) (e : E)
    → Puts {T = T} k before now a (Err e) → Puts {T = T} k before now (a ++ b) (Err e)
puts_stops k before now a b e put = record {
  ok = tt;
  err = part_more _ _ a b put.err;
  cause = put.cause;
}

-- The same through a page.
pub through_then : {K T U E F : Type 0} (k : sink.Ghosts K) (before mid now : K)
    (p q r a b : List ℕ) (v : U) (result : Result T E)
    → PutsThrough {E = F} k before mid p q a (Ok v) → PutsThrough k mid now q r b result
    → PutsThrough k before now p r (a ++ b) result
through_then k before mid now p q r a b v result first second = record {
  ok = on_ok_weaker result (through_both _ _ _ p q r a b first.ok) second.ok;
  err = on_err_weaker result (through_part _ _ _ p q a b first.ok) second.err;
  cause = cause_after _ _ _ result first.cause.same second.cause;
}

pub through_stops : {K T E : Type 0} (k : sink.Ghosts K) (before now : K) (p q a b : List ℕ) (e : E)
    → PutsThrough {T = T} k before now p q a (Err e)
    → PutsThrough {T = T} k before now p q (a ++ b) (Err e)
through_stops k before now p q a b e put = record {
  ok = tt;
  err = through_more _ _ p a b put.err;
  cause = put.cause;
}

-- A text through a page that was empty at first, and then what the page holds;
pub flush_then : {K T U E F : Type 0} (k : sink.Ghosts K) (before mid now : K) (p q text : List ℕ)
    (v : U) (result : Result T E)
    → p ≡ [] → PutsThrough {E = F} k before mid p q text (Ok v) → Puts k mid now q result
    → Puts k before now text result
flush_then k before mid now p q text v result none first second =
    subst (λ (l : List ℕ). Puts k before now (l ++ text) result) none (record {
      ok = on_ok_weaker result (through_flush _ _ _ p q text first.ok) second.ok;
      err = on_err_weaker result (through_page_part _ _ _ p q text first.ok) second.err;
      cause = cause_after _ _ _ result first.cause.same second.cause;
    })

-- where it fails before, the rest isn't put.
pub flush_stops : {K T U E : Type 0} (k : sink.Ghosts K) (before now : K) (p q text : List ℕ)
    (e : E)
    → p ≡ [] → PutsThrough {T = T} k before now p q text (Err e)
    → Puts {T = U} k before now text (Err e)
flush_stops {U = U} k before now p q text e none put =
    subst (λ (l : List ℕ). Puts {T = U} k before now (l ++ text) (Err e)) none (record {
      ok = tt;
      err = put.err;
      cause = cause_of_err _ _ e put.cause;
    })

-- The same text under another name.
pub puts_same : {K T E : Type 0} (k : sink.Ghosts K) (before now : K) (a b : List ℕ)
    (result : Result T E) → a ≡ b → Puts k before now a result → Puts k before now b result
puts_same k before now a b result is = subst (λ (l : List ℕ). Puts k before now l result) is

pub through_same : {K T E : Type 0} (k : sink.Ghosts K) (before now : K) (held holds a b : List ℕ)
    (result : Result T E)
    → a ≡ b → PutsThrough k before now held holds a result
    → PutsThrough k before now held holds b result
through_same k before now held holds a b result is =
    subst (λ (l : List ℕ). PutsThrough k before now held holds l result) is
