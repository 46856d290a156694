-- How a script is served piece by piece: the replies to the lines of a piece are put at its end.
use Rattle.std.proofs.Common.{◌≡◌, inl, inr, ℕ, ◌≤◌, Bool, true, false, List, []}
use Rattle.std.proofs.Common.{◌++◌, length, Option, Some, None, Result, Ok, Err, IfOk, sym}
use Rattle.std.proofs.Common.{◌∙◌, ap, subst, arith, length-append}
use Rattle.std.proofs.lemmas.List.{append-nil}
use Rattle.std.specs.Io.KnownBytes.{append_known, prepend_known}
use Rattle.pm_io.specs.Bytes.{Gains}
use Rattle.pm_io.proofs.Known.{gains_none, gains_both, part_after, loses_none}
use Rattle.pm_session.specs.declared.command.ScriptFault.TheVariants as faults
use Rattle.pm_session.specs.declared.progress.Progress.{Progress}
use Rattle.pm_session.specs.declared.fail.ServeFail.{ServeFail}
use Rattle.pm_session.specs.declared.fail.ServeFail.TheVariants as fails
use Rattle.pm_session.specs.declared.ending.Next.{Next}
use Rattle.pm_session.specs.declared.ending.LineFail.{LineFail}
use Rattle.pm_session.specs.Script.{State, Deed}
use Rattle.pm_session.specs.Session.{Shown, LineEnds, state_of}
use Rattle.pm_session.specs.Serving.{PutPart, ServeCounts, WindowAfter}
use Rattle.pm_session.specs.Steps.{Begun, Standing, standing, IsServing, HasEnded, Steps}
use Rattle.pm_session.specs.Steps.{StillShows}
use Rattle.pm_session.specs.Holding.{Filled, Underway, underway, IsHolding, HoldingSteps, GainsBut}
use Rattle.pm_session.specs.Holding.{HeldEnds, PutsHeld, PutCounts, holding_at}
use Rattle.pm_session.proofs.StepLaws.{by_deed}
use Rattle.pm_session.proofs.HoldLaws.{holding_start, hold_fails}

-- A line whose reply isn't held, after what was held was put.
pub held_after_flush : (deed : Deed) (done : Result Next LineFail) (before after : State)
    (old mid new : Option (List ℕ)) (held holds : List ℕ) → Gains old mid held → holds ≡ []
    → LineEnds deed done before after mid new → HeldEnds deed done before after old new held holds
held_after_flush deed done before after old mid new held holds put none ends =
    by_deed before after mid new (λ deed done. HeldEnds deed done before after old new held holds)
    (λ reply s state gained. (
      state,
      record {
        done = held ++ reply;
        whole = sym (ap (λ (l : List ℕ). (held ++ reply) ++ l) none ∙ append-nil (held ++ reply));
        gained = gains_both old mid new held reply put gained;
      },
    ))
    (λ reply s state part. (none, inl (state, part_after old mid new held reply put part)))
    (λ state same. (state, stays same)) (λ state same. (state, stays same))
    (λ state same. (state, stays same)) deed done ends
  where
    stays : new ≡ mid → GainsBut old new held holds []
    stays same = record {
      done = held;
      whole = ap (λ (l : List ℕ). held ++ l) (sym none);
      gained = same ∙ put;
    }

-- The lines of a piece are done, and what was held is put.
pub held_put : (b : Begun) (f : Filled) (ended result : Result Bool ServeFail) (session : Shown)
    (p : Progress) (line : List ℕ) (left old new : Option (List ℕ)) (held window : List ℕ)
    → HoldingSteps b f (holding_at session p line left old held) (underway old held window) ended
    → PutsHeld ended result old new held → Steps b (standing session p line left new) window result
held_put b f ended result session p line left old new held window how (inl put) =
    subst (Steps b (standing session p line left new) window) (sym put.0) (all_put ended how)
  where
    all_put : (ended : Result Bool ServeFail)
        → HoldingSteps b f (holding_at session p line left old held) (underway old held window)
        ended
        → Steps b (standing session p line left new) window ended
    all_put (Ok true) h =
        subst (λ g. IsServing b (standing session p line left g)) (sym put.1) h.serving
    all_put (Ok false) h =
        subst (λ g. HasEnded b (standing session p line left g) None) (sym put.1) h.ended
    all_put (Err (fails.BadLine n)) h =
        subst (λ g. HasEnded b (standing session p line left g) (Some (faults.BadLine n)))
        (sym put.1) h.ended
    all_put (Err (fails.NoRecord n)) h =
        subst (λ g. HasEnded b (standing session p line left g) (Some (faults.NoRecord n)))
        (sym put.1) h.ended
    all_put (Err fails.ScriptTooLong) h =
        subst (λ g. HasEnded b (standing session p line left g) (Some faults.TooLong))
        (sym put.1) h.ended
    all_put (Err fails.Read) h = absurd h
    all_put (Err fails.Write) h =
        let same : old ≡ new =
        gains_none old ∙ ap (λ (l : List ℕ). append_known old l) (sym h.0) ∙ sym put.1 in
        subst
        (λ g. PutPart b.h b.grammar b.state b.script left window b.got g (state_of session))
        same h.1
held_put b f ended result session p line left old new held window how (inr cut) =
    subst (Steps b (standing session p line left new) window) (sym cut.0) (part_put ended how)
  where
    failed : (s : Standing) → IsHolding b f s (underway old held window)
        → PutPart b.h b.grammar b.state b.script s.left window b.got new s.state
    failed s v = hold_fails b f s (underway old held window) v new cut.1

    part_put : (ended : Result Bool ServeFail)
        → HoldingSteps b f (holding_at session p line left old held) (underway old held window)
        ended
        → PutPart b.h b.grammar b.state b.script left window b.got new (state_of session)
    part_put (Ok true) h = failed _ h
    part_put (Ok false) h = failed _ h.holding
    part_put (Err (fails.BadLine n)) h = failed _ h.holding
    part_put (Err (fails.NoRecord n)) h = failed _ h.holding
    part_put (Err fails.ScriptTooLong) h = failed _ h.holding
    part_put (Err fails.Read) h = absurd h
    part_put (Err fails.Write) h =
        absurd (omega (
          arith,
          ap length h.0,
          ap length cut.1.whole,
          length-append cut.1.done cut.1.rest,
          cut.1.lacks,
        ))

-- The window was filled, and a piece of it begins.
pub record Starts (b : Begun) (s : Standing) (u : Underway) : Type 0 where
  pub filled : Filled
  pub holds : IsHolding b filled s u

pub piece_start : (b : Begun) (session : Shown) (p : Progress) (line : List ℕ)
    (left got : Option (List ℕ)) (piece rest held : List ℕ)
    → IsServing b (standing session p line (prepend_known piece left) got) → length piece ≤ 4096
    → held ≡ [] → rest ≡ piece
    → Starts b (holding_at session p line (prepend_known rest left) got held)
    (underway got held rest)
piece_start b session p line left got piece rest held v few none is =
    let w =
    subst (λ g. IsServing b (standing session p line (prepend_known piece left) g))
    (gains_none got) v in
    let s = holding_at session p line (prepend_known piece left) got [] in
    let holds = holding_start b s piece got w (gains_none got ∙ w.gained) few in
    subst (λ (l : List ℕ). Starts b (holding_at session p line (prepend_known rest left) got l)
    (underway got l rest)) (sym none)
    (subst (λ (l : List ℕ). Starts b (holding_at session p line (prepend_known l left) got [])
    (underway got [] l)) (sym is) (record { filled = _; holds = holds }))

-- Where a piece is nothing, what is left is as it was.
pub of_nothing : (P : Option (List ℕ) → List ℕ → Type 0) (piece : List ℕ)
    (left : Option (List ℕ)) → piece ≡ [] → P left [] → P (prepend_known piece left) piece
of_nothing P piece left is p =
    subst (λ (l : List ℕ). P (prepend_known l left) l) (sym is)
    (subst (λ o. P o []) (loses_none left) p)

pub from_nothing : (P : Option (List ℕ) → Type 0) (piece : List ℕ) (left : Option (List ℕ))
    → piece ≡ [] → P (prepend_known piece left) → P left
from_nothing P piece left is =
    subst P (ap (λ (l : List ℕ). prepend_known l left) is ∙ sym (loses_none left))

-- The session shows what it did.
pub still_shows : {b : Begun} {s s' : Shown} → StillShows b s → s'.h ≡ s.h
    → s'.grammar ≡ s.grammar → StillShows b s'
still_shows shows h grammar = record {
  hierarchy = h ∙ shows.hierarchy;
  grammar = grammar ∙ shows.grammar;
}

-- What holds where the lines of a piece go on holds where serving goes on.
pub goes_on_so : (ended result : Result Bool ServeFail) (P : Type 0)
    → IfOk result (λ more. ended ≡ Ok more) → IfOk ended (λ more. more ≡ true → P)
    → IfOk result (λ more. more ≡ true → P)
goes_on_so ended (Ok more) P is so =
    subst (λ (r : Result Bool ServeFail). IfOk r (λ more. more ≡ true → P)) is so
goes_on_so ended (Err e) P is so = tt

pub goes_on_then : (result : Result Bool ServeFail) (P Q : Type 0)
    → IfOk result (λ more. more ≡ true → P) → (P → Q) → IfOk result (λ more. more ≡ true → Q)
goes_on_then (Ok more) P Q so to = λ is. to (so is)
goes_on_then (Err e) P Q so to = tt

-- The counts and the window where no read failed.
pub counts_read : (result : Result Bool ServeFail) (in_old in_new out_old out_new : ℕ)
    → in_new ≡ in_old → PutCounts result out_old out_new
    → ServeCounts result in_old in_new out_old out_new
counts_read (Ok more) in_old in_new out_old out_new same counts = (same, counts)
counts_read (Err (fails.BadLine n)) in_old in_new out_old out_new same counts = (same, counts)
counts_read (Err (fails.NoRecord n)) in_old in_new out_old out_new same counts = (same, counts)
counts_read (Err fails.ScriptTooLong) in_old in_new out_old out_new same counts = (same, counts)
counts_read (Err fails.Read) in_old in_new out_old out_new same counts = absurd counts
counts_read (Err fails.Write) in_old in_new out_old out_new same counts = (same, counts)

pub window_left : (result : Result Bool ServeFail) (window : List ℕ) (before now : ℕ)
    → PutCounts result before now → length window ≤ 4095 → WindowAfter result window
window_left (Ok more) window before now counts few = few
window_left (Err (fails.BadLine n)) window before now counts few = few
window_left (Err (fails.NoRecord n)) window before now counts few = few
window_left (Err fails.ScriptTooLong) window before now counts few = few
window_left (Err fails.Read) window before now counts few = absurd counts
window_left (Err fails.Write) window before now counts few = few
