-- How a script is served step by step: what is taken of it, and what comes of a line.
use Rattle.std.specs.Prelude.{◌≡◌, ℕ, ◌+◌, ◌<◌, ◌≤◌, Bool, true, false, List, [], ◌∷◌, ◌++◌}
use Rattle.std.specs.Prelude.{length, Option, None, Result, Ok, Err}
use Rattle.pm_io.specs.Bytes.{Gains, Loses}
use Rattle.pm_io.specs.Letters.{line_feed}
use Rattle.obj_lines.specs.Text.{until, lines}
use Rattle.pm_forest.specs.Forest.{Hierarchy}
use Rattle.pm_session.specs.declared.command.ScriptFault.{ScriptFault}
use Rattle.pm_session.specs.declared.gather.LineState.{LineState}
use Rattle.pm_session.specs.declared.gather.LineState.TheVariants as states
use Rattle.pm_session.specs.declared.grammar.Grammar.{Grammar}
use Rattle.pm_session.specs.declared.limits.TheConstants.{MOST_SCRIPT_BYTES}
use Rattle.pm_session.specs.declared.progress.Progress.{Progress}
use Rattle.pm_session.specs.declared.fail.ServeFail.{ServeFail}
use Rattle.pm_session.specs.declared.fail.ServeFail.TheVariants as fails
use Rattle.pm_session.specs.declared.ending.Next.{Next}
use Rattle.pm_session.specs.declared.ending.Next.TheVariants as nexts
use Rattle.pm_session.specs.declared.ending.LineFail.{LineFail}
use Rattle.pm_session.specs.declared.ending.LineFail.TheVariants as line_fails
use Rattle.pm_session.specs.Script.{State}
use Rattle.pm_session.specs.Session.{Shown, state_of}
use Rattle.pm_session.specs.Serving.{At, after_reply, played_from, played, AreLines, Ended, Serves}

-- How serving began: the hierarchy, the grammar of the script and the state; the script, where the
-- source tells it; and what the sink had taken.
pub record Begun : Type 0 where
  pub h : Hierarchy
  pub grammar : Grammar
  pub state : State
  pub script : Option (List ℕ)
  pub got : Option (List ℕ)

abbrev pub begun : Shown → Option (List ℕ) → Option (List ℕ) → Begun
begun s script got = record {
  h = s.h;
  grammar = s.grammar;
  state = state_of s;
  script = script;
  got = got;
}

-- The session still shows what it did then.
pub record StillShows (b : Begun) (s : Shown) : Type 0 where
  pub hierarchy : s.h ≡ b.h
  pub grammar : s.grammar ≡ b.grammar

-- Where serving stands: what is left of the script, the lines before the open one, the state after
-- them, the bytes of the open line, and what the sink has taken.
pub record Standing : Type 0 where
  pub left : Option (List ℕ)
  pub at : Progress
  pub state : State
  pub line : List ℕ
  pub got : Option (List ℕ)

abbrev pub standing : Shown → Progress → List ℕ → Option (List ℕ) → Option (List ℕ) → Standing
standing s at line left got = record {
  left = left;
  at = at;
  state = state_of s;
  line = line;
  got = got;
}

-- The same, where this is left, and the open line has these bytes.
abbrev pub with_line : Standing → Option (List ℕ) → List ℕ → Standing
with_line s left line = record {
  left = left;
  at = s.at;
  state = s.state;
  line = line;
  got = s.got;
}

-- What the lines before did.
abbrev pub at_of : Standing → At
at_of s = record { bytes = s.at.before; number = s.at.number; state = s.state }

-- The bytes of the open line have no LF, and are few enough.
pub record IsReady (line : List ℕ) (p : Progress) : Type 0 where
  pub clean : until line_feed line ≡ line
  pub short : length line ≤ 1024
  pub within : p.before + length line ≤ MOST_SCRIPT_BYTES
  pub numbered : p.number ≤ p.before + 1

-- The lines of `front` are done, and their replies, `text`, were put; the bytes of the open line
-- are taken.
pub record IsServing (b : Begun) (s : Standing) : Type 0 where
  pub front : List ℕ
  pub text : List ℕ
  pub took : Loses b.script s.left (front ++ s.line)
  pub plays : (rest : List ℕ) → played b.h b.grammar b.state (front ++ rest)
      ≡ after_reply text (played_from b.h b.grammar (at_of s) (lines rest))
  pub count : s.at.before ≡ length front
  pub ends : AreLines front
  pub gained : Gains b.got s.got text

-- The script has ended there, with this fault or none.
abbrev pub HasEnded : Begun → Standing → Option ScriptFault → Type 0
HasEnded b s fault = Ended b.h b.grammar b.state b.script s.left b.got s.got fault s.state

-- One step of the serving: it goes on, or the script has ended, or why it stops.
abbrev pub Steps : Begun → Standing → List ℕ → Result Bool ServeFail → Type 0
Steps b s window (Ok true) = IsServing b s
Steps b s window (Ok false) = HasEnded b s None
Steps b s window (Err e) =
    Serves b.h b.grammar b.state b.script s.left window b.got s.got (Err e) s.state

-- The bytes taken end the open line, which has this text before its LF.
pub record EndsLine (line taken text : List ℕ) : Type 0 where
  pub rest_of_line : List ℕ
  pub cut : taken ≡ rest_of_line ++ line_feed ∷ []
  pub text_is : text ≡ line ++ rest_of_line
  pub clean : until line_feed rest_of_line ≡ rest_of_line
  pub short : length text ≤ 1024

-- What bytes that are taken make of the open line, where there is room for so many.
abbrev pub Gathers : LineState → ℕ → List ℕ → List ℕ → List ℕ → Type 0
Gathers states.Past room line taken line' =
    (room ≡ 0) × (length taken ≡ 1) × (line' ≡ line)
Gathers states.Partial room line taken line' =
    (length taken ≤ room) × (0 < length taken) × (line' ≡ line ++ taken)
    × (until line_feed taken ≡ taken) × (length line' ≤ 1024)
Gathers states.Whole room line taken line' = (length taken ≤ room) × EndsLine line taken line'
Gathers states.TooLong room line taken line' =
    (length taken ≤ room) × (until line_feed taken ≡ taken) × (length line + length taken ≡ 1025)
    × (line' ≡ line)

-- Bytes are taken from the front of a window.
pub record TakesIn (state : LineState) (room : ℕ) (line line' window window' : List ℕ) : Type 0
  where
    pub taken : List ℕ
    pub cut : window ≡ taken ++ window'
    pub gathers : Gathers state room line taken line'

-- What comes of a line, once it is done: the next line begins, the script has ended, or why it
-- stops.
abbrev pub AfterLine : Result Next LineFail → Progress → List ℕ → Progress → List ℕ
    → Result Bool ServeFail → Type 0
AfterLine (Ok nexts.More) p line p' line' r = (r ≡ Ok true)
    × (p'.before ≡ p.before + length line + 1) × (p'.number ≡ p.number + 1) × (line' ≡ [])
AfterLine (Ok nexts.Quit) p line p' line' r = r ≡ Ok false
AfterLine (Err line_fails.BadLine) p line p' line' r = r ≡ Err (fails.BadLine p.number)
AfterLine (Err line_fails.NoRecord) p line p' line' r = r ≡ Err (fails.NoRecord p.number)
AfterLine (Err line_fails.Write) p line p' line' r = r ≡ Err fails.Write

-- The same of the last line, which has no LF.
abbrev pub AfterLast : Result Next LineFail → ℕ → Result Bool ServeFail → Type 0
AfterLast (Ok next) n r = r ≡ Ok false
AfterLast (Err line_fails.BadLine) n r = r ≡ Err (fails.BadLine n)
AfterLast (Err line_fails.NoRecord) n r = r ≡ Err (fails.NoRecord n)
AfterLast (Err line_fails.Write) n r = r ≡ Err fails.Write
