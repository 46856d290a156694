-- How a script is served while replies are held: they are put before the window is filled again.
use Rattle.std.specs.Prelude.{◌≡◌, ◌⊎◌, ℕ, ◌+◌, ◌<◌, ◌≤◌, Bool, true, false, List, [], ◌∷◌}
use Rattle.std.specs.Prelude.{◌++◌, length, Option, None, Some, Result, Ok, Err}
use Rattle.std.specs.Io.KnownBytes.{append_known}
use Rattle.pm_io.specs.Bytes.{Gains, GainsPart}
use Rattle.pm_io.specs.Causes.{Rose}
use Rattle.obj_lines.specs.Text.{lines}
use Rattle.pm_session.specs.declared.command.Command.{Command}
use Rattle.pm_session.specs.declared.command.Command.TheVariants as commands
use Rattle.pm_session.specs.declared.command.ScriptFault.{ScriptFault}
use Rattle.pm_session.specs.declared.command.ScriptFault.TheVariants as faults
use Rattle.pm_session.specs.declared.progress.Progress.{Progress}
use Rattle.pm_session.specs.declared.fail.ServeFail.{ServeFail}
use Rattle.pm_session.specs.declared.fail.ServeFail.TheVariants as fails
use Rattle.pm_session.specs.declared.ending.Next.{Next}
use Rattle.pm_session.specs.declared.ending.Next.TheVariants as nexts
use Rattle.pm_session.specs.declared.ending.LineFail.{LineFail}
use Rattle.pm_session.specs.declared.ending.LineFail.TheVariants as line_fails
use Rattle.pm_session.specs.Script.{State, Deed, Replies, Ends, IsBad, NamesNoRecord}
use Rattle.pm_session.specs.Session.{Shown}
use Rattle.pm_session.specs.Serving.{played, AreLines, PutPart}
use Rattle.pm_session.specs.Steps.{Begun, Standing, standing, IsServing, HasEnded}

-- Whole lines, `front`, are done, and what was put of their replies, `done`, ends within the reply
-- to this line, whose last byte came after the first `taken` ones.
pub record EndsWithin (b : Begun) (taken : ℕ) (front done : List ℕ) : Type 0 where
  pub before : List ℕ
  pub line : List ℕ
  pub more : List ℕ
  pub are : front ≡ (before ++ line) ++ more
  pub ends : AreLines before
  pub one : lines line ≡ line ∷ []
  pub whole : AreLines line
  pub more_ends : AreLines more
  pub later : taken < length (before ++ line)
  pub put : length (played b.h b.grammar b.state before).text ≤ length done
  pub rest : List ℕ
  pub cut : (played b.h b.grammar b.state (before ++ line)).text ≡ done ++ rest
  pub lacks : 0 < length rest

-- When the window was filled: how many bytes of the script had been taken, and how many bytes of
-- replies were put.
pub record Filled : Type 0 where
  pub taken : ℕ
  pub put : ℕ

-- What is on its way: what the sink has taken, what a page holds to be put after it, and what the
-- window holds.
pub record Underway : Type 0 where
  pub got : Option (List ℕ)
  pub held : List ℕ
  pub window : List ℕ

-- The same, from its parts.
abbrev pub underway : Option (List ℕ) → List ℕ → List ℕ → Underway
underway got held window = record { got = got; held = held; window = window }

-- Where serving stands, by what the sink will have taken once what is held is put.
abbrev pub holding_at : Shown → Progress → List ℕ → Option (List ℕ) → Option (List ℕ) → List ℕ
    → Standing
holding_at s at line left got held = standing s at line left (append_known got held)

-- Where serving stands while replies are held: some were put, and the others are. However much is
-- put of them, and that is what was put when the window was filled and more, it ends within the
-- reply to a line whose end came later.
pub record IsHolding (b : Begun) (f : Filled) (s : Standing) (u : Underway) : Type 0 where
  pub serving : IsServing b s
  pub put : List ℕ
  pub gained : Gains b.got u.got put
  pub text_is : serving.text ≡ put ++ u.held
  pub least : f.put ≤ length put
  pub since : f.taken ≤ length serving.front + length s.line
  pub near : length serving.front + length s.line + length u.window ≤ f.taken + 4096
  pub cuts : (done rest : List ℕ) → serving.text ≡ done ++ rest → f.put ≤ length done
      → 0 < length rest → EndsWithin b f.taken serving.front done

-- The script has ended there, once what is held is put.
pub record IsEnding (b : Begun) (f : Filled) (s : Standing) (u : Underway)
    (fault : Option ScriptFault) : Type 0 where
  pub at : Progress
  pub line : List ℕ
  pub holding : IsHolding b f
      (record { left = s.left; at = at; state = s.state; line = line; got = s.got }) u
  pub ended : HasEnded b s fault

-- One step of the serving while replies are held: it goes on, or the script has ended, or a write
-- failed and nothing is held any more.
abbrev pub HoldingSteps : Begun → Filled → Standing → Underway → Result Bool ServeFail → Type 0
HoldingSteps b f s u (Ok true) = IsHolding b f s u
HoldingSteps b f s u (Ok false) = IsEnding b f s u None
HoldingSteps b f s u (Err (fails.BadLine n)) = IsEnding b f s u (Some (faults.BadLine n))
HoldingSteps b f s u (Err (fails.NoRecord n)) = IsEnding b f s u (Some (faults.NoRecord n))
HoldingSteps b f s u (Err fails.ScriptTooLong) = IsEnding b f s u (Some faults.TooLong)
HoldingSteps b f s u (Err fails.Read) = ⊥
HoldingSteps b f s u (Err fails.Write) =
    (u.held ≡ []) × PutPart b.h b.grammar b.state b.script s.left u.window b.got u.got s.state

-- What the count of the sink did then.
abbrev pub PutCounts : {X : Type 0} → Result X ServeFail → ℕ → ℕ → Type 0
PutCounts (Err fails.Read) before now = ⊥
PutCounts (Err fails.Write) before now = Rose before now
PutCounts result before now = now ≡ before

-- The line makes a move, asks for a view, marks the front or sets the budget: its reply is held.
abbrev pub is_held : Command → Bool
is_held (commands.Split k) = true
is_held (commands.Collapse k) = true
is_held (commands.Look view) = true
is_held commands.Mark = true
is_held (commands.Budget moves) = true
is_held _ = false

-- The sink gained what a page held and a text, but for what the page holds then.
pub record GainsBut (old new : Option (List ℕ)) (held holds text : List ℕ) : Type 0 where
  pub done : List ℕ
  pub whole : held ++ text ≡ done ++ holds
  pub gained : Gains old new done

-- A write failed: the line was done, and a part of what was held and of its reply was put; or
-- nothing was done, and a part of what was held was put.
abbrev pub FailsAt : Deed → State → State → Option (List ℕ) → Option (List ℕ) → List ℕ → Type 0
FailsAt (Replies reply s) before after old new held =
    ((after ≡ s) × GainsPart old new (held ++ reply)) ⊎ ((after ≡ before) × GainsPart old new held)
FailsAt deed before after old new held = (after ≡ before) × GainsPart old new held

-- How a line ends, by its deed, where its reply may be held: `before` and `after` are the states,
-- `old` and `new` what the sink had taken, and `held` and `holds` what the page held.
abbrev pub HeldEnds : Deed → Result Next LineFail → State → State → Option (List ℕ)
    → Option (List ℕ) → List ℕ → List ℕ → Type 0
HeldEnds (Replies reply s) (Ok nexts.More) before after old new held holds =
    (after ≡ s) × GainsBut old new held holds reply
HeldEnds Ends (Ok nexts.Quit) before after old new held holds =
    (after ≡ before) × GainsBut old new held holds []
HeldEnds IsBad (Err line_fails.BadLine) before after old new held holds =
    (after ≡ before) × GainsBut old new held holds []
HeldEnds NamesNoRecord (Err line_fails.NoRecord) before after old new held holds =
    (after ≡ before) × GainsBut old new held holds []
HeldEnds deed (Err line_fails.Write) before after old new held holds =
    (holds ≡ []) × FailsAt deed before after old new held
HeldEnds deed result before after old new held holds = ⊥

-- What was held was put, or a write failed then.
abbrev pub PutsHeld : Result Bool ServeFail → Result Bool ServeFail → Option (List ℕ)
    → Option (List ℕ) → List ℕ → Type 0
PutsHeld ended result old new held = ((result ≡ ended) × Gains old new held)
    ⊎ ((result ≡ Err fails.Write) × GainsPart old new held)
