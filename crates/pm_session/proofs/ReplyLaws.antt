-- How a script is served: what the reply to a line does, put whole or in part.
use Rattle.std.proofs.Common.{◌≡◌, ℕ, ◌+◌, ◌<◌, ◌≤◌, inl, inr, List, [], ◌∷◌, ◌++◌, length}
use Rattle.std.proofs.Common.{Option, Some, None, refl, sym, ◌∙◌, ap, subst}
use Rattle.std.proofs.Common.{arith, length-append, append_assoc}
use Rattle.std.proofs.lemmas.List.{append-nil}
use Rattle.obj_lines.specs.Text.{until, lines}
use Rattle.obj_lines.proofs.TextLaws.{until_front, lines_last}
use Rattle.pm_io.specs.Bytes.{Gains, GainsPart, Loses, AtEnd}
use Rattle.pm_io.proofs.Known.{gains_both, part_after, part_more}
use Rattle.pm_session.specs.declared.command.ScriptFault.{ScriptFault}
use Rattle.pm_session.specs.Script.{State, Deed, Replies, line_deed}
use Rattle.pm_session.specs.Serving.{At, Played, after_reply, stopped, done_line, line_place}
use Rattle.pm_session.specs.Serving.{played_from, played, IsPlayed, PutPart, ReachesPlace}
use Rattle.pm_session.specs.Steps.{Begun, Standing, IsReady, at_of, IsServing, HasEnded, EndsLine}
use Rattle.pm_session.proofs.PlayLaws.{line_later, whole_replies, whole_stops, last_replies}
use Rattle.pm_session.proofs.ServeLaws.{told, played_front, plays_on, took_more, ended_by}

pub replies_both : (a b : List ℕ) (p : Played)
    → after_reply a (after_reply b p) ≡ after_reply (a ++ b) p
replies_both a b p =
    ap (λ (l : List ℕ). record {
      text = l;
      fault = p.fault;
      place = p.place;
      state = p.state;
    })
    (sym (append_assoc a b p.text))

-- A write failed at the reply to the last line, where nothing is left.
module _ (b : Begun) (s s' : Standing) (v : IsServing b s) (line reply : List ℕ) (over : Played)
    (took : Loses b.script s'.left (v.front ++ line)) (end : AtEnd s'.left)
    (plays : (rest : List ℕ) → s'.left ≡ Some rest
    → played b.h b.grammar b.state ((v.front ++ line) ++ rest)
    ≡ after_reply v.text (after_reply reply over))
    (here : played b.h b.grammar b.state (v.front ++ line)
    ≡ after_reply v.text (after_reply reply over)) where
  part_of : over.text ≡ [] → over.state ≡ s'.state → GainsPart s.got s'.got reply
      → lines line ≡ line ∷ []
      → PutPart b.h b.grammar b.state b.script s'.left [] b.got s'.got s'.state
  part_of none state part one =
      let before : (played b.h b.grammar b.state v.front).text ≡ v.text =
      ap (λ p. p.text) (played_front b s v) ∙ append-nil v.text in
      let text : (played b.h b.grammar b.state (v.front ++ line)).text ≡ v.text ++ reply =
      ap (λ p. p.text) here ∙ ap (λ (l : List ℕ). v.text ++ (reply ++ l)) none
      ∙ ap (λ (l : List ℕ). v.text ++ l) (append-nil reply) in
      let all : ((v.front ++ line) ++ []) ++ [] ≡ v.front ++ line =
      append-nil ((v.front ++ line) ++ []) ∙ append-nil (v.front ++ line) in
      record {
        front = v.front;
        line = line;
        more = [];
        past = [];
        took = subst (λ (l : List ℕ). Loses b.script s'.left l) (sym all) took;
        ends = v.ends;
        one = one;
        more_ends = inl refl;
        to_its_end = inr (end, refl);
        few = omega arith;
        part = record {
          done = v.text ++ part.done;
          rest = part.rest;
          whole = text ∙ ap (λ (l : List ℕ). v.text ++ l) part.whole
              ∙ sym (append_assoc v.text part.done part.rest);
          lacks = part.lacks;
          gained = gains_both b.got s.got s'.got v.text part.done v.gained part.gained;
        };
        before = omega (arith, ap length before, length-append v.text part.done);
        state = sym (ap (λ (l : List ℕ). (played b.h b.grammar b.state l).state)
            (append-nil (v.front ++ line)) ∙ ap (λ p. p.state) here ∙ state);
        all = told b.script s'.left (v.front ++ line)
            (λ script. GainsPart b.got s'.got (played b.h b.grammar b.state script).text) took
            (λ rest is. subst (λ (l : List ℕ). GainsPart b.got s'.got l)
            (append_assoc v.text reply over.text ∙ sym (ap (λ p. p.text) (plays rest is)))
            (part_more b.got s'.got (v.text ++ reply) over.text
            (part_after b.got s.got s'.got v.text reply v.gained part)));
      }

-- A line was taken to its LF.
module _ (b : Begun) (s s' : Standing) (v : IsServing b s) (taken text : List ℕ)
    (taking : Loses s.left s'.left taken) (e : EndsLine s.line taken text)
    (ready : IsReady s.line s.at) (within : s.at.before + length text + 1 ≤ 1073741824) where
  pub text_clean : until 10 text ≡ text
  text_clean =
      ap (until 10) e.text_is ∙ until_front 10 s.line e.rest_of_line ready.clean
      ∙ ap (λ (l : List ℕ). s.line ++ l) e.clean ∙ sym e.text_is

  pub took_line : Loses b.script s'.left (v.front ++ (text ++ 10 ∷ []))
  took_line =
      subst (λ (l : List ℕ). Loses b.script s'.left (v.front ++ l))
      (ap (λ (l : List ℕ). s.line ++ l) e.cut ∙ sym (append_assoc s.line e.rest_of_line (10 ∷ []))
      ∙ ap (λ (l : List ℕ). l ++ 10 ∷ []) (sym e.text_is))
      (took_more b s v s'.left taken taking)

  pub replies : (reply rest : List ℕ) (T : State)
      → line_deed b.h b.grammar s.state text ≡ Replies reply T
      → played b.h b.grammar b.state ((v.front ++ (text ++ 10 ∷ [])) ++ rest)
      ≡ after_reply v.text (after_reply reply
      (played_from b.h b.grammar (line_later (at_of s) text T) (lines rest)))
  replies reply rest T does =
      plays_on b s v (text ++ 10 ∷ []) rest
      ∙ ap (λ (l : List ℕ). after_reply v.text (played_from b.h b.grammar (at_of s) (lines l)))
      (append_assoc text (10 ∷ []) rest)
      ∙ ap (after_reply v.text)
      (whole_replies b.h b.grammar (at_of s) text rest reply T text_clean e.short within does)

  -- Its reply was put,
  unfoldable pub line_put : (reply : List ℕ) (T : State)
      → line_deed b.h b.grammar s.state text ≡ Replies reply T → Gains s.got s'.got reply
      → line_later (at_of s) text T ≡ at_of s' → s'.line ≡ [] → IsServing b s'
  line_put reply T does put is empty =
      let front = v.front ++ (text ++ 10 ∷ []) in
      record {
        front = front;
        text = v.text ++ reply;
        took = subst (λ (l : List ℕ). Loses b.script s'.left l) (sym (append-nil front)
            ∙ ap (λ (l : List ℕ). front ++ l) (sym empty)) took_line;
        plays = λ rest. replies reply rest T does
            ∙ ap (λ a. after_reply v.text (after_reply reply (played_from b.h b.grammar a
            (lines rest)))) is
            ∙ replies_both v.text reply (played_from b.h b.grammar (at_of s') (lines rest));
        count = omega (
          arith,
          v.count,
          ap (λ a. a.bytes) is,
          length-append v.front (text ++ 10 ∷ []),
          length-append text (10 ∷ []),
        );
        ends = inr (v.front ++ text, sym (append_assoc v.front text (10 ∷ [])));
        gained = gains_both b.got s.got s'.got v.text reply v.gained put;
      }

  -- It has none, and ends the script.
  pub line_stops : (deed : Deed) (fault : Option ScriptFault)
      → line_deed b.h b.grammar s.state text ≡ deed → s'.state ≡ s.state → s'.got ≡ s.got
      → ((l : List ℕ) (later : At → Played)
      → done_line (at_of s) l deed later ≡ stopped (at_of s) fault (line_place (at_of s) l))
      → HasEnded b s' fault
  line_stops deed fault does state got stops =
      ended_by b s s' v state got (text ++ 10 ∷ []) (s.at.before + length text + 1) fault took_line
      (omega (arith, length-append text (10 ∷ [])))
      (λ rest. ap (λ (l : List ℕ). played_from b.h b.grammar (at_of s) (lines l))
      (append_assoc text (10 ∷ []) rest)
      ∙ whole_stops b.h b.grammar (at_of s) text rest deed fault text_clean e.short within does
      stops)

-- The last line has no LF.
module _ (b : Begun) (s s' : Standing) (v : IsServing b s) (taking : Loses s.left s'.left [])
    (over : AtEnd s'.left) (ready : IsReady s.line s.at) (some : 0 < length s.line) where
  last_line : Loses b.script s'.left (v.front ++ s.line)
  last_line =
      subst (λ (l : List ℕ). Loses b.script s'.left (v.front ++ l)) (append-nil s.line)
      (took_more b s v s'.left [] taking)

  last_played : (reply : List ℕ) (T : State)
      → line_deed b.h b.grammar s.state s.line ≡ Replies reply T
      → played b.h b.grammar b.state (v.front ++ s.line)
      ≡ after_reply v.text (after_reply reply (record {
        text = [];
        fault = None;
        place = None;
        state = T;
      }))
  last_played reply T does =
      v.plays s.line
      ∙ ap (after_reply v.text)
      (last_replies b.h b.grammar (at_of s) s.line reply T ready.clean some ready.short
      ready.within does)

  all_of_it : (rest : List ℕ) → s'.left ≡ Some rest → (v.front ++ s.line) ++ rest
      ≡ v.front ++ s.line
  all_of_it rest is =
      ap (λ (l : List ℕ). (v.front ++ s.line) ++ l) (subst AtEnd is over)
      ∙ append-nil (v.front ++ s.line)

  -- Its reply was put,
  pub last_put : (reply : List ℕ) (T : State)
      → line_deed b.h b.grammar s.state s.line ≡ Replies reply T → Gains s.got s'.got reply
      → s'.state ≡ T → HasEnded b s' None
  last_put reply T does put state =
      told b.script s'.left (v.front ++ s.line)
      (λ script. IsPlayed b.h b.grammar b.state script s'.left b.got s'.got None s'.state) last_line
      (λ rest is. go rest (ap (played b.h b.grammar b.state) (all_of_it rest is)
      ∙ last_played reply T does))
    where
      go : (rest : List ℕ)
          → played b.h b.grammar b.state ((v.front ++ s.line) ++ rest)
          ≡ after_reply v.text (after_reply reply (record {
            text = [];
            fault = None;
            place = None;
            state = T;
          }))
          → IsPlayed b.h b.grammar b.state ((v.front ++ s.line) ++ rest) s'.left b.got s'.got None
          s'.state
      go rest all = record {
        fault_is = ap (λ p. p.fault) all;
        gained = subst (λ (l : List ℕ). Gains b.got s'.got l)
            (ap (λ (l : List ℕ). v.text ++ l) (sym (append-nil reply)) ∙ sym (ap (λ p. p.text) all))
            (gains_both b.got s.got s'.got v.text reply v.gained put);
        state = state ∙ sym (ap (λ p. p.state) all);
        reaches = subst (ReachesPlace (Some ((v.front ++ s.line) ++ rest)) s'.left)
            (sym (ap (λ p. p.place) all)) over;
      }

  -- or a part of it.
  pub last_part : (reply : List ℕ) (T : State)
      → line_deed b.h b.grammar s.state s.line ≡ Replies reply T → GainsPart s.got s'.got reply
      → s'.state ≡ T → PutPart b.h b.grammar b.state b.script s'.left [] b.got s'.got s'.state
  last_part reply T does part state =
      part_of b s s' v s.line reply (record { text = []; fault = None; place = None; state = T })
      last_line over
      (λ rest is. ap (played b.h b.grammar b.state) (all_of_it rest is) ∙ last_played reply T does)
      (last_played reply T does) refl (sym state) part (lines_last s.line ready.clean some)
