-- How a script is served while replies are held: what each step does.
use Rattle.std.proofs.Common.{◌≡◌, inl, inr, ℕ, ◌+◌, ◌-◌, ◌≤◌, Bool, List, []}
use Rattle.std.proofs.Common.{◌∷◌, ◌++◌, length, Option, Some, None, Result, Ok, Err, refl, sym}
use Rattle.std.proofs.Common.{◌∙◌, ap, subst, arith, length-append, append_assoc}
use Rattle.std.proofs.lemmas.List.{append-nil}
use Rattle.std.specs.Io.KnownBytes.{append_known, prepend_known}
use Rattle.obj_lines.specs.Text.{lines}
use Rattle.obj_lines.proofs.TextLaws.{until_front}
use Rattle.pm_io.specs.Bytes.{Gains, GainsPart, Loses}
use Rattle.pm_io.proofs.Known.{gains_none}
use Rattle.pm_session.specs.declared.command.ScriptFault.{ScriptFault}
use Rattle.pm_session.specs.declared.command.ScriptFault.TheVariants as faults
use Rattle.pm_session.specs.declared.gather.LineState.{LineState}
use Rattle.pm_session.specs.declared.gather.LineState.TheVariants as states
use Rattle.pm_session.specs.declared.fail.ServeFail.{ServeFail}
use Rattle.pm_session.specs.declared.ending.Next.{Next}
use Rattle.pm_session.specs.declared.ending.Next.TheVariants as nexts
use Rattle.pm_session.specs.declared.ending.LineFail.{LineFail}
use Rattle.pm_session.specs.declared.ending.LineFail.TheVariants as line_fails
use Rattle.pm_session.specs.Script.{State, Deed, Replies, Ends, IsBad, NamesNoRecord, line_deed}
use Rattle.pm_session.specs.Session.{Shown}
use Rattle.pm_session.specs.Serving.{At, Played, played_from, stopped, done_line, line_place}
use Rattle.pm_session.specs.Serving.{PutPart}
use Rattle.pm_session.specs.Steps.{Begun, Standing, with_line, IsReady, at_of}
use Rattle.pm_session.specs.Steps.{StillShows, EndsLine, Gathers, TakesIn}
use Rattle.pm_session.specs.Steps.{AfterLine}
use Rattle.pm_session.specs.Holding.{Filled, underway, IsHolding, IsEnding, HoldingSteps}
use Rattle.pm_session.specs.Holding.{GainsBut, HeldEnds}
use Rattle.pm_session.proofs.PlayLaws.{long_stops, past_stops}
use Rattle.pm_session.proofs.ServeLaws.{took_more, ended_by}
use Rattle.pm_session.proofs.ReplyLaws.{line_stops}
use Rattle.pm_session.proofs.StepLaws.{deed_is}
use Rattle.pm_session.proofs.HoldLaws.{gains_owed, loses_front, hold_fails}
use Rattle.pm_session.proofs.HoldLaws.{hold_puts, hold_more, hold_line}

-- How a line may end whose reply may be held, by its deed and what is answered.
module _ (before after : State) (old new : Option (List ℕ)) (held holds : List ℕ)
    (P : Deed → Result Next LineFail → Type 0)
    (replied : (reply : List ℕ) (s : State) → after ≡ s → GainsBut old new held holds reply
    → P (Replies reply s) (Ok nexts.More))
    (quit : after ≡ before → GainsBut old new held holds [] → P Ends (Ok nexts.Quit))
    (bad : after ≡ before → GainsBut old new held holds [] → P IsBad (Err line_fails.BadLine))
    (none : after ≡ before → GainsBut old new held holds []
    → P NamesNoRecord (Err line_fails.NoRecord))
    (cut : (reply : List ℕ) (s : State) → holds ≡ [] → after ≡ s → GainsPart old new (held ++ reply)
    → P (Replies reply s) (Err line_fails.Write))
    (undone : (deed : Deed) → holds ≡ [] → after ≡ before → GainsPart old new held
    → P deed (Err line_fails.Write)) where
  by_held : (deed : Deed) (done : Result Next LineFail)
      → HeldEnds deed done before after old new held holds → P deed done
  by_held (Replies reply s) (Ok nexts.More) ends = replied reply s ends.0 ends.1
  by_held (Replies reply s) (Err line_fails.Write) (none_held, inl ends) =
      cut reply s none_held ends.0 ends.1
  by_held (Replies reply s) (Err line_fails.Write) (none_held, inr ends) =
      undone (Replies reply s) none_held ends.0 ends.1
  by_held Ends (Ok nexts.Quit) ends = quit ends.0 ends.1
  by_held Ends (Err line_fails.Write) ends = undone Ends ends.0 ends.1.0 ends.1.1
  by_held IsBad (Err line_fails.BadLine) ends = bad ends.0 ends.1
  by_held IsBad (Err line_fails.Write) ends = undone IsBad ends.0 ends.1.0 ends.1.1
  by_held NamesNoRecord (Err line_fails.NoRecord) ends = none ends.0 ends.1
  by_held NamesNoRecord (Err line_fails.Write) ends = undone NamesNoRecord ends.0 ends.1.0 ends.1.1
  by_held (Replies reply s) (Ok nexts.Quit) ends = absurd ends
  by_held (Replies reply s) (Err line_fails.BadLine) ends = absurd ends
  by_held (Replies reply s) (Err line_fails.NoRecord) ends = absurd ends
  by_held Ends (Ok nexts.More) ends = absurd ends
  by_held Ends (Err line_fails.BadLine) ends = absurd ends
  by_held Ends (Err line_fails.NoRecord) ends = absurd ends
  by_held IsBad (Ok nexts.More) ends = absurd ends
  by_held IsBad (Ok nexts.Quit) ends = absurd ends
  by_held IsBad (Err line_fails.NoRecord) ends = absurd ends
  by_held NamesNoRecord (Ok nexts.More) ends = absurd ends
  by_held NamesNoRecord (Ok nexts.Quit) ends = absurd ends
  by_held NamesNoRecord (Err line_fails.BadLine) ends = absurd ends

-- A line was taken to its LF.
module _ (b : Begun) (f : Filled) (s s' : Standing) (got got' : Option (List ℕ))
    (held holds window window' : List ℕ) (v : IsHolding b f s (underway got held window))
    (ready : IsReady s.line s.at) (got_is : s.got ≡ append_known got held)
    (got_is' : s'.got ≡ append_known got' holds) (taken text : List ℕ)
    (took : Loses s.left s'.left taken) (e : EndsLine s.line taken text)
    (within : s.at.before + length text + 1 ≤ 1073741824)
    (fits : length window' + length taken ≤ length window) (r : Result Bool ServeFail) where
  gains : (reply : List ℕ) → GainsBut got got' held holds reply → Gains s.got s'.got reply
  gains reply g = rw (got_is, got_is') (gains_owed got got' held holds reply g)

  -- It was done, and has a reply,
  replies_put : (reply : List ℕ) (T : State) → s'.state ≡ T → GainsBut got got' held holds reply
      → line_deed b.h b.grammar s.state text ≡ Replies reply T
      → AfterLine (Ok nexts.More) s.at text s'.at s'.line r
      → HoldingSteps b f s' (underway got' holds window') r
  replies_put reply T state g does after =
      subst (HoldingSteps b f s' (underway got' holds window')) (sym after.0)
      (hold_puts b f s' (underway got (held ++ reply) window')
      (hold_line b f s s' (underway got held window) v taken text took e ready within reply T does
      (gains reply g)
      (λ j. record {
        bytes = sym after.1 j;
        number = sym after.2 j;
        state = sym state j;
      }) after.3 window' fits) got' g.done holds g.whole g.gained)

  -- of which a part was put;
  replies_cut : (reply : List ℕ) (T : State) → s'.state ≡ T → GainsPart got got' (held ++ reply)
      → line_deed b.h b.grammar s.state text ≡ Replies reply T
      → PutPart b.h b.grammar b.state b.script s'.left window' b.got got' s'.state
  replies_cut reply T state part does =
      let later : Standing = record {
        left = s'.left;
        at = record { before = s.at.before + length text + 1; number = s.at.number + 1 };
        state = s'.state;
        line = [];
        got = append_known s.got reply;
      } in
      hold_fails b f later (underway got (held ++ reply) window')
      (hold_line b f s later (underway got held window) v taken text took e ready within reply T
      does refl
      (λ j. record {
        bytes = s.at.before + length text + 1;
        number = s.at.number + 1;
        state = sym state j;
      }) refl window' fits) got' part

  taken_too : IsHolding b f (with_line s s'.left (s.line ++ taken)) (underway got held window')
  taken_too =
      hold_more b f s (underway got held window) v s'.left taken (s.line ++ taken) window' took refl
      fits

  -- or a write failed before.
  undone : s'.state ≡ s.state → GainsPart got got' held
      → PutPart b.h b.grammar b.state b.script s'.left window' b.got got' s'.state
  undone state part =
      subst (PutPart b.h b.grammar b.state b.script s'.left window' b.got got') (sym state)
      (hold_fails b f (with_line s s'.left (s.line ++ taken)) (underway got held window') taken_too
      got' part)

  -- It has no reply, and ends the script.
  ends : (deed : Deed) (fault : Option ScriptFault)
      → line_deed b.h b.grammar s.state text ≡ deed → s'.state ≡ s.state
      → GainsBut got got' held holds []
      → ((l : List ℕ) (later : At → Played)
      → done_line (at_of s) l deed later ≡ stopped (at_of s) fault (line_place (at_of s) l))
      → IsEnding b f s' (underway got' holds window') fault
  ends deed fault does state g stops =
      let same : s'.got ≡ s.got = gains [] g ∙ sym (gains_none s.got) in
      record {
        at = s.at;
        line = s.line ++ taken;
        holding = subst
            (λ T. IsHolding b f (record {
              left = s'.left;
              at = s.at;
              state = T;
              line = s.line ++ taken;
              got = s'.got;
            }) (underway got' holds window')) (sym state)
            (subst
            (λ o. IsHolding b f (record {
              left = s'.left;
              at = s.at;
              state = s.state;
              line = s.line ++ taken;
              got = o;
            }) (underway got' holds window')) (sym same)
            (hold_puts b f (with_line s s'.left (s.line ++ taken)) (underway got held window')
            taken_too got' g.done holds (sym (append-nil held) ∙ g.whole) g.gained));
        ended = line_stops b s s' v.serving taken text took e ready within deed fault does state
            same stops;
      }

  whole_line : (deed : Deed) (done : Result Next LineFail)
      → line_deed b.h b.grammar s.state text ≡ deed
      → HeldEnds deed done s.state s'.state got got' held holds
      → AfterLine done s.at text s'.at s'.line r
      → HoldingSteps b f s' (underway got' holds window') r
  whole_line deed done does how after =
      let S = HoldingSteps b f s' (underway got' holds window') in
      by_held s.state s'.state got got' held holds
      (λ deed done. line_deed b.h b.grammar s.state text ≡ deed
      → AfterLine done s.at text s'.at s'.line r → S r)
      (λ reply T state g does after. replies_put reply T state g does after)
      (λ state g does after. subst S (sym after) (ends Ends None does state g (λ l later. refl)))
      (λ state g does after. subst S (sym after)
      (ends IsBad (Some (faults.BadLine s.at.number)) does state g (λ l later. refl)))
      (λ state g does after. subst S (sym after)
      (ends NamesNoRecord (Some (faults.NoRecord s.at.number)) does state g (λ l later. refl)))
      (λ reply T none state part does after. subst S (sym after)
      (none, replies_cut reply T state part does))
      (λ deed none state part does after. subst S (sym after) (none, undone state part))
      deed done how does after

-- What is taken in, by what it makes of the open line.
module _ {b : Begun} {f : Filled} {s : Standing} {got : Option (List ℕ)}
    {held window window' : List ℕ} {state : LineState} {room : ℕ} {line : List ℕ}
    (left : Option (List ℕ)) (v : IsHolding b f s (underway got held window))
    (ready : IsReady s.line s.at) (left_is : s.left ≡ prepend_known window left)
    (t : TakesIn state room s.line line window window') where
  takes : Loses s.left (prepend_known window' left) t.taken
  takes =
      subst (λ (o : Option (List ℕ)). Loses o (prepend_known window' left) t.taken) (sym left_is)
      (loses_front window t.taken window' left t.cut)

  fits : length window' + length t.taken ≤ length window
  fits = omega (arith, ap length t.cut, length-append t.taken window')

  with_taken : IsHolding b f (with_line s (prepend_known window' left) (s.line ++ t.taken))
      (underway got held window')
  with_taken =
      hold_more b f s (underway got held window) v (prepend_known window' left) t.taken
      (s.line ++ t.taken) window' takes refl fits

  -- The line goes on.
  pub step_partial : state ≡ states.Partial
      → IsHolding b f (with_line s (prepend_known window' left) line) (underway got held window')
  step_partial is =
      let g = subst (λ q. Gathers q room s.line t.taken line) is t.gathers in
      hold_more b f s (underway got held window) v (prepend_known window' left) t.taken line window'
      takes g.2 fits

  -- There is a byte too many in the script,
  pub step_past : state ≡ states.Past → room ≡ 1073741824 - s.at.before - length s.line
      → IsEnding b f (with_line s (prepend_known window' left) line) (underway got held window')
      (Some faults.TooLong)
  step_past is room_is =
      let g = subst (λ q. Gathers q room s.line t.taken line) is t.gathers in
      record {
        at = s.at;
        line = s.line ++ t.taken;
        holding = with_taken;
        ended = ended_by b s (with_line s (prepend_known window' left) line) v.serving refl refl
            (s.line ++ t.taken) 1073741825 (Some faults.TooLong)
            (took_more b s v.serving (prepend_known window' left) t.taken takes)
            (omega (arith, ready.within, room_is, g.0, g.1, length-append s.line t.taken))
            (λ rest. ap (λ (l : List ℕ). played_from b.h b.grammar (at_of s) (lines l))
            (append_assoc s.line t.taken rest)
            ∙ past_stops b.h b.grammar (at_of s) s.line (t.taken ++ rest) ready.clean ready.short
            (omega (arith, ready.within, room_is, g.0))
            (omega (arith, g.1, length-append t.taken rest)));
      }

  -- or in the line.
  pub step_long : state ≡ states.TooLong → room ≡ 1073741824 - s.at.before - length s.line
      → IsEnding b f (with_line s (prepend_known window' left) line) (underway got held window')
      (Some (faults.BadLine s.at.number))
  step_long is room_is =
      let g = subst (λ q. Gathers q room s.line t.taken line) is t.gathers in
      let len : length (s.line ++ t.taken) ≡ 1025 = length-append s.line t.taken ∙ g.2 in
      record {
        at = s.at;
        line = s.line ++ t.taken;
        holding = with_taken;
        ended = ended_by b s (with_line s (prepend_known window' left) line) v.serving refl refl
            (s.line ++ t.taken) (s.at.before + 1025) (Some (faults.BadLine s.at.number))
            (took_more b s v.serving (prepend_known window' left) t.taken takes)
            (omega (arith, len))
            (λ rest. long_stops b.h b.grammar (at_of s) (s.line ++ t.taken) rest
            (until_front 10 s.line t.taken ready.clean ∙ ap (λ (l : List ℕ). s.line ++ l) g.1)
            (omega (arith, len)) (omega (arith, ready.within, room_is, g.0, g.2)));
      }

  -- A line was taken to its LF.
  pub step_whole : {session : Shown} (s' : Standing) (got' : Option (List ℕ)) (holds : List ℕ)
      (done : Result Next LineFail) (r : Result Bool ServeFail) → StillShows b session
      → s'.left ≡ prepend_known window' left → s.got ≡ append_known got held
      → s'.got ≡ append_known got' holds → {text : List ℕ} → text ≡ line
      → HeldEnds (line_deed session.h session.grammar s.state text) done s.state s'.state got got'
      held holds → state ≡ states.Whole → room ≡ 1073741824 - s.at.before - length s.line
      → AfterLine done s.at line s'.at s'.line r
      → HoldingSteps b f s' (underway got' holds window') r
  step_whole {session} s' got' holds done r shows left_is' got_is got_is' {text} text_is how is
      room_is after =
      let g = subst (λ q. Gathers q room s.line t.taken line) is t.gathers in
      let e = g.1 in
      whole_line b f s s' got got' held holds window window' v ready got_is got_is' t.taken line
      (subst (λ (o : Option (List ℕ)). Loses s.left o t.taken) (sym left_is') takes) e
      (omega (
        arith,
        ready.within,
        room_is,
        g.0,
        ap length e.cut,
        length-append e.rest_of_line (10 ∷ []),
        ap length e.text_is,
        length-append s.line e.rest_of_line,
      )) fits r (line_deed session.h session.grammar s.state text) done
      (deed_is session b s.state text line shows text_is) how after
