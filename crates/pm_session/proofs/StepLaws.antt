-- How a script is served: how the last line ends, and what is ready.
use Rattle.std.proofs.Common.{◌≡◌, ℕ, ◌+◌, ◌-◌, ◌<◌, Bool, List, [], ◌++◌, length}
use Rattle.std.proofs.Common.{Option, Some, None, Result, Ok, Err, refl, sym, ◌∙◌, ap, subst}
use Rattle.std.proofs.Common.{arith, length-append}
use Rattle.std.proofs.lemmas.List.{nil_from_length}
use Rattle.obj_lines.specs.Text.{until, lines}
use Rattle.obj_lines.proofs.TextLaws.{until_front}
use Rattle.pm_io.specs.Bytes.{Gains, GainsPart, Loses, AtEnd}
use Rattle.pm_io.proofs.Known.{loses_none}
use Rattle.pm_session.specs.declared.command.ScriptFault.TheVariants as faults
use Rattle.pm_session.specs.declared.gather.LineState.{LineState}
use Rattle.pm_session.specs.declared.gather.LineState.TheVariants as states
use Rattle.pm_session.specs.declared.progress.Progress.{Progress}
use Rattle.pm_session.specs.declared.fail.ServeFail.{ServeFail}
use Rattle.pm_session.specs.declared.ending.Next.{Next}
use Rattle.pm_session.specs.declared.ending.Next.TheVariants as nexts
use Rattle.pm_session.specs.declared.ending.LineFail.{LineFail}
use Rattle.pm_session.specs.declared.ending.LineFail.TheVariants as line_fails
use Rattle.pm_session.specs.Script.{State, Deed, Replies, Ends, IsBad, NamesNoRecord, line_deed}
use Rattle.pm_session.specs.Session.{Shown, LineEnds}
use Rattle.pm_session.specs.Serving.{played_from}
use Rattle.pm_session.specs.Steps.{Begun, Standing, IsReady, at_of, IsServing, HasEnded, Steps}
use Rattle.pm_session.specs.Steps.{StillShows, Gathers, TakesIn, AfterLast}
use Rattle.pm_session.proofs.PlayLaws.{last_stops}
use Rattle.pm_session.proofs.ServeLaws.{ended_all}
use Rattle.pm_session.proofs.ReplyLaws.{last_put, last_part}

-- How a line may end, by its deed and what the session answers.
module _ (before after : State) (old new : Option (List ℕ)) (P : Deed → Result Next LineFail
    → Type 0)
    (replied : (reply : List ℕ) (s : State) → after ≡ s → Gains old new reply
    → P (Replies reply s) (Ok nexts.More))
    (cut : (reply : List ℕ) (s : State) → after ≡ s → GainsPart old new reply
    → P (Replies reply s) (Err line_fails.Write))
    (quit : after ≡ before → new ≡ old → P Ends (Ok nexts.Quit))
    (bad : after ≡ before → new ≡ old → P IsBad (Err line_fails.BadLine))
    (none : after ≡ before → new ≡ old → P NamesNoRecord (Err line_fails.NoRecord)) where
  pub by_deed : (deed : Deed) (done : Result Next LineFail)
      → LineEnds deed done before after old new → P deed done
  by_deed (Replies reply s) (Ok nexts.More) ends = replied reply s ends.0 ends.1
  by_deed (Replies reply s) (Err line_fails.Write) ends = cut reply s ends.0 ends.1
  by_deed Ends (Ok nexts.Quit) ends = quit ends.0 ends.1
  by_deed IsBad (Err line_fails.BadLine) ends = bad ends.0 ends.1
  by_deed NamesNoRecord (Err line_fails.NoRecord) ends = none ends.0 ends.1
  by_deed (Replies reply s) (Ok nexts.Quit) ends = absurd ends
  by_deed (Replies reply s) (Err line_fails.BadLine) ends = absurd ends
  by_deed (Replies reply s) (Err line_fails.NoRecord) ends = absurd ends
  by_deed Ends (Ok nexts.More) ends = absurd ends
  by_deed Ends (Err line_fails.BadLine) ends = absurd ends
  by_deed Ends (Err line_fails.NoRecord) ends = absurd ends
  by_deed Ends (Err line_fails.Write) ends = absurd ends
  by_deed IsBad (Ok nexts.More) ends = absurd ends
  by_deed IsBad (Ok nexts.Quit) ends = absurd ends
  by_deed IsBad (Err line_fails.NoRecord) ends = absurd ends
  by_deed IsBad (Err line_fails.Write) ends = absurd ends
  by_deed NamesNoRecord (Ok nexts.More) ends = absurd ends
  by_deed NamesNoRecord (Ok nexts.Quit) ends = absurd ends
  by_deed NamesNoRecord (Err line_fails.BadLine) ends = absurd ends
  by_deed NamesNoRecord (Err line_fails.Write) ends = absurd ends

-- The end of the input.
module _ (b : Begun) (s s' : Standing) (v : IsServing b s) (ready : IsReady s.line s.at)
    (r : Result Bool ServeFail) where
  -- The last line, which has no LF.
  last_line : Loses s.left s'.left [] → AtEnd s'.left → 0 < length s.line
      → (deed : Deed) (done : Result Next LineFail) → line_deed b.h b.grammar s.state s.line ≡ deed
      → LineEnds deed done s.state s'.state s.got s'.got → AfterLast done s.at.number r
      → Steps b s' [] r
  last_line took over some deed done does ends =
      by_deed s.state s'.state s.got s'.got
      (λ deed done. line_deed b.h b.grammar s.state s.line ≡ deed → AfterLast done s.at.number r
      → Steps b s' [] r)
      (λ reply T state put does after. subst (Steps b s' []) (sym after)
      (last_put b s s' v took over ready some reply T does put state))
      (λ reply T state part does after. subst (Steps b s' []) (sym after)
      (last_part b s s' v took over ready some reply T does part state))
      (λ state got does after. subst (Steps b s' []) (sym after)
      (ended_all b s s' v state got None took over
      (last_stops b.h b.grammar (at_of s) s.line Ends None ready.clean some ready.short
      ready.within does (λ l later. refl))))
      (λ state got does after. subst (Steps b s' []) (sym after)
      (ended_all b s s' v state got (Some (faults.BadLine s.at.number)) took over
      (last_stops b.h b.grammar (at_of s) s.line IsBad (Some (faults.BadLine s.at.number))
      ready.clean some ready.short ready.within does (λ l later. refl))))
      (λ state got does after. subst (Steps b s' []) (sym after)
      (ended_all b s s' v state got (Some (faults.NoRecord s.at.number)) took over
      (last_stops b.h b.grammar (at_of s) s.line NamesNoRecord
      (Some (faults.NoRecord s.at.number)) ready.clean some ready.short ready.within does
      (λ l later. refl))))
      deed done ends does

pub deed_is : (session : Shown) (b : Begun) (T : State) (held text : List ℕ) → StillShows b session
    → held ≡ text
    → line_deed b.h b.grammar T text ≡ line_deed session.h session.grammar T held
deed_is session b T held text shows is = rw (shows.hierarchy, shows.grammar, is) refl

-- Nothing is left, and no line is open,
pub step_end : {b : Begun} {s : Standing} → IsServing b s → AtEnd s.left → length s.line ≡ 0
    → HasEnded b s None
step_end {b} {s} v over none =
    ended_all b s s v refl refl None (loses_none s.left) over
    (ap (λ (l : List ℕ). played_from b.h b.grammar (at_of s) (lines l))
    (nil_from_length s.line none))

-- or the open line is the last one.
pub step_last : {b : Begun} {s : Standing} {session : Shown} (s' : Standing)
    (done : Result Next LineFail) (r : Result Bool ServeFail) → IsServing b s
    → IsReady s.line s.at → StillShows b session → AtEnd s.left → s'.left ≡ s.left
    → {text : List ℕ} → text ≡ s.line
    → LineEnds (line_deed session.h session.grammar s.state text) done s.state s'.state
    s.got s'.got → 0 < length s.line → {n : ℕ} → s.at.number ≡ n → AfterLast done n r
    → Steps b s' [] r
step_last {b} {s} {session} s' done r v ready shows over left_is {text} text_is ends some {n}
    number after =
    last_line b s s' v ready r
    (subst (λ (o : Option (List ℕ)). Loses s.left o []) (sym left_is) (loses_none s.left))
    (subst AtEnd (sym left_is) over) some
    (line_deed session.h session.grammar s.state text) done
    (deed_is session b s.state text s.line shows text_is) ends
    (subst (λ k. AfterLast done k r) (sym number) after)

-- A line that goes on
pub partial_ready : {state : LineState} {room : ℕ} {line line' : List ℕ}
    {window window' : List ℕ} {p : Progress} → TakesIn state room line line' window window'
    → IsReady line p → state ≡ states.Partial → room ≡ 1073741824 - p.before - length line
    → IsReady line' p
partial_ready {state} {room} {line} {line'} {window} {window'} {p} t ready partial room_is =
    let g = subst (λ q. Gathers q room line t.taken line') partial t.gathers in
    let len : length line' ≡ length line + length t.taken =
    ap length g.2 ∙ length-append line t.taken in
    record {
      clean = ap (until 10) g.2 ∙ until_front 10 line t.taken ready.clean
          ∙ ap (λ (l : List ℕ). line ++ l) g.3 ∙ sym g.2;
      short = g.4;
      within = omega (arith, len, room_is, ready.within, g.0);
      numbered = ready.numbered;
    }

pub ready_start : (line : List ℕ) (p : Progress) → line ≡ [] → p.before ≡ 0 → p.number ≡ 1
    → IsReady line p
ready_start line p none before number =
    let len = ap (λ (l : List ℕ). length l) none in
    record {
      clean = ap (until 10) none ∙ sym none;
      short = omega (arith, len);
      within = omega (arith, len, before);
      numbered = omega (arith, number);
    }
