-- A script keeps the split and the marked records closed, and what is built shows an oriented
-- manifold at every closed set.
use Rattle.std.proofs.Common.{◌≡◌, ℕ, ◌+◌, ◌<◌, ◌≤◌, Bool, true, false, cond, if◌then◌else◌, ltb}
use Rattle.std.proofs.Common.{List, [], ◌∷◌, length, Option, Some, None, Result, Ok, IfSome, refl}
use Rattle.std.specs.Prelude.{is_none}
use Rattle.std.proofs.lemmas.Bool.{ltb-true, false≢true}
use Rattle.pm_io.specs.Bytes.{Gains}
use Rattle.obj_lines.specs.Text.{until, lines}
use Rattle.pm_forest.specs.Forest.{Hierarchy, record_count}
use Rattle.pm_forest.specs.Fronts.{no_records, with, without}
use Rattle.pm_beyond.specs.declared.moves.MoveFault.{MoveFault}
use Rattle.pm_beyond.specs.Valid.{IsValid}
use Rattle.pm_beyond.specs.Moves.{IsClosed, split_fault, collapse_fault}
use Rattle.pm_beyond.proofs.ClosedTheory.{moves, answers}
use Rattle.pm_beyond.proofs.PlanTheory.{targets, stay_closed}
use Rattle.pm_view.specs.Views.{View}
use Rattle.pm_view.specs.Wanted.{is_wanted}
use Rattle.pm_refine.specs.Adapting.{view_target}
use Rattle.pm_firm.specs.Firm.{IsFirm}
use Rattle.pm_firm.proofs.FirmFronts.{firm_fronts}
use Rattle.pm_session.specs.declared.command.Command.{Command}
use Rattle.pm_session.specs.declared.command.Command.TheVariants as commands
use Rattle.pm_session.specs.declared.command.ScriptFault.TheVariants as faults
use Rattle.pm_session.specs.declared.grammar.Grammar.{Grammar}
use Rattle.pm_session.specs.Script.{State, at_first, now_split, is_fraction, morph_reply, Deed}
use Rattle.pm_session.specs.Script.{Replies, Ends, IsBad, NamesNoRecord, reply_to, after_split}
use Rattle.pm_session.specs.Script.{after_collapse, after_view, command_of, deed_of, line_deed}
use Rattle.pm_session.specs.Serving.{At, Played, is_past_script, is_script_line_long, stopped}
use Rattle.pm_session.specs.Serving.{done_line, play_line, played_from, played}
use Rattle.pm_format.specs.Stream.{stream}
use Rattle.pm_commands.specs.declared.fault.Fault.{Fault}
use Rattle.pm_commands.specs.Beginning.{Beginning, begins, valid}
use Rattle.pm_commands.specs.Frames.{ScriptsKeepSetsClosed, ShowsSurfacesOf}

-- A move is made where nothing forbids it.
made_closed : (h : Hierarchy) (T S : ℕ → Bool) (fault : Option MoveFault) → IsClosed h T
    → (fault ≡ None → IsClosed h S) → IsClosed h (cond (is_none fault) S T)
made_closed h T S None closed free = free refl
made_closed h T S (Some f) closed free = closed

module _ (h : Hierarchy) (sound : IsValid h) (T : ℕ → Bool) (closed : IsClosed h T) where
  split_closed : (k : ℕ) → k < record_count h → IsClosed h (after_split h T k)
  unfolding after_split
  split_closed k l =
      made_closed h T (with T k) (split_fault h T k) closed
      (λ free. ((moves h sound T closed k l).0.0 ((answers h sound T closed k l).0.0 free)).1)

  collapse_closed : (k : ℕ) → k < record_count h → IsClosed h (after_collapse h T k)
  unfolding after_collapse
  collapse_closed k l =
      made_closed h T (without T k) (collapse_fault h T k) closed
      (λ free. ((moves h sound T closed k l).1.0 ((answers h sound T closed k l).1.0 free)).1)

  view_closed : (budget : ℕ) (view : View) → IsClosed h (after_view h budget T view)
  unfolding after_view
  view_closed budget view =
      stay_closed h sound T (view_target h view) closed
      (targets h sound.shape (is_wanted h view)).closed budget

-- The split records are closed, and so are the marked ones where those at first are.
record AreClosed (first : Type 0) (h : Hierarchy) (s : State) : Type 0 where
  split : IsClosed h s.split
  marked : first → IsClosed h s.marked

-- Where a line has a reply, it leads to closed sets.
abbrev LeadsToClosed : Type 0 → Hierarchy → Deed → Type 0
LeadsToClosed first h (Replies reply s) = AreClosed first h s
LeadsToClosed first h Ends = Unit {0}
LeadsToClosed first h IsBad = Unit {0}
LeadsToClosed first h NamesNoRecord = Unit {0}

-- What comes later keeps closed sets closed.
abbrev KeepsClosed : Type 0 → Hierarchy → (At → Played) → Type 0
KeepsClosed first h later = (s : At) → AreClosed first h s.state → AreClosed first h (later s).state

module _ (first : Type 0) (h : Hierarchy) (sound : IsValid h) (grammar : Grammar) where
  either_leads : (deed other : Deed) (named : Bool) → (named ≡ true → LeadsToClosed first h deed)
      → LeadsToClosed first h other → LeadsToClosed first h (if named then deed else other)
  either_leads deed other true leads none = leads refl
  either_leads deed other false leads none = none

  deed_closed : (s : State) → AreClosed first h s → (command : Command)
      → LeadsToClosed first h (deed_of h s command)
  deed_closed s closed commands.Show = closed
  deed_closed s closed commands.Measure = closed
  deed_closed s closed commands.Strip = closed
  deed_closed s closed (commands.Pick ray) = closed
  deed_closed s closed commands.Mark = record { split = closed.split; marked = λ m. closed.split }
  deed_closed s closed (commands.Morph x y) =
      either_leads (Replies (morph_reply h s.marked s.split x y) s) IsBad (is_fraction x y)
      (λ is. closed) tt
  deed_closed s closed (commands.Budget _) = record { split = closed.split; marked = closed.marked }
  deed_closed s closed commands.Level = closed
  deed_closed s closed commands.Change = record { split = closed.split; marked = λ m. closed.split }
  deed_closed s closed commands.Quit = tt
  deed_closed s closed commands.Bad = tt
  deed_closed s closed (commands.Split k) =
      either_leads
      (Replies (reply_to (split_fault h s.split k)) (now_split s (after_split h s.split k)))
      NamesNoRecord (ltb k (record_count h))
      (λ is. record {
        split =
            split_closed h sound s.split closed.split k (ltb-true k (record_count h) is);
        marked =
            closed.marked;
      }) tt
  deed_closed s closed (commands.Collapse k) =
      either_leads
      (Replies (reply_to (collapse_fault h s.split k))
      (now_split s (after_collapse h s.split k))) NamesNoRecord (ltb k (record_count h))
      (λ is. record {
        split =
            collapse_closed h sound s.split closed.split k (ltb-true k (record_count h) is);
        marked =
            closed.marked;
      }) tt
  deed_closed s closed (commands.Look view) =
      record {
        split = view_closed h sound s.split closed.split s.budget view;
        marked =
            closed.marked;
      }

  line_deed_closed : (s : State) → AreClosed first h s → (text : List ℕ)
      → LeadsToClosed first h (line_deed h grammar s text)
  unfolding line_deed
  line_deed_closed s closed text = deed_closed s closed (command_of grammar text)

  done_closed : (s : At) (line : List ℕ) (deed : Deed) (later : At → Played)
      → AreClosed first h s.state → LeadsToClosed first h deed → KeepsClosed first h later
      → AreClosed first h (done_line s line deed later).state
  done_closed s line (Replies reply T) later closed leads keeps =
      let next : At = record { bytes = s.bytes + length line; number = s.number + 1; state = T } in
      keeps next leads
  done_closed s line Ends later closed leads keeps = closed
  done_closed s line IsBad later closed leads keeps = closed
  done_closed s line NamesNoRecord later closed leads keeps = closed

  either_closed : (test : Bool) (p q : Played) → AreClosed first h p.state
      → AreClosed first h q.state → AreClosed first h (if test then p else q).state
  either_closed true p q one other = one
  either_closed false p q one other = other

  line_closed : (s : At) (line : List ℕ) (later : At → Played) → AreClosed first h s.state
      → KeepsClosed first h later → AreClosed first h (play_line h grammar s line later).state
  unfolding play_line
  line_closed s line later closed keeps =
      let done : Played = done_line s line (line_deed h grammar s.state (until 10 line)) later in
      let long : Played = stopped s (Some (faults.BadLine s.number)) (Some (s.bytes + 1025)) in
      let past : Played = stopped s (Some faults.TooLong) (Some 1073741825) in
      either_closed (is_past_script s.bytes (length line)) past (if is_script_line_long line then
      long else done) closed
      (either_closed (is_script_line_long line) long done closed
      (done_closed s line (line_deed h grammar s.state (until 10 line)) later closed
      (line_deed_closed s.state closed (until 10 line)) keeps))

  lines_closed : (s : At) (ls : List (List ℕ)) → AreClosed first h s.state
      → AreClosed first h (played_from h grammar s ls).state
  lines_closed s [] closed = closed
  lines_closed s (line ∷ more) closed =
      line_closed s line (λ t. played_from h grammar t more) closed
      (λ t now. lines_closed t more now)

pub scripts_closed : ScriptsKeepSetsClosed
unfolding played
scripts_closed h sound grammar s closed script =
    let start : At = record { bytes = 0; number = 1; state = s } in
    let all = lines_closed (IsClosed h s.marked) h sound grammar start (lines script)
    (record { split = closed; marked = λ m. m }) in
    (all.split, all.marked)

pub none_closed : (h : Hierarchy) → IsClosed h no_records
none_closed h j k l t needs = absurd (false≢true t)

pub shows_surfaces : (IsMade : List ℕ → Result Hierarchy Fault → Option ℕ → Type 0) (digits : ℕ)
    (left old new : Option (List ℕ)) (h : Hierarchy)
    → IfSome left (λ bytes. IsMade bytes (Ok h) None) → digits ≤ 4 → IsFirm h
    → Gains old new (stream digits h)
    → IfSome left (λ bytes. ShowsSurfacesOf IsMade digits bytes old new)
shows_surfaces IsMade digits None old new h built few firm gained = tt
shows_surfaces IsMade digits (Some bytes) old new h built few firm gained = record {
  h = h;
  built = built;
  gained = gained;
  views = λ budget script.
      let o : Beginning = record { digits = digits; h = h; rest = script } in
      let place : Option ℕ = Some (length (stream digits h)) in
      record {
        read = Ok o;
        place = place;
        is =
            valid o place (begins digits h script few firm.valid.shape refl) firm.valid;
        done = refl;
      };
  lives = λ budget script.
      let o : Beginning = record { digits = digits; h = h; rest = script } in
      let place : Option ℕ = Some (length (stream digits h)) in
      record {
        read = Ok o;
        place = place;
        is =
            valid o place (begins digits h script few firm.valid.shape refl) firm.valid;
        done = refl;
      };
  frames = λ grammar budget front.
      let closed =
      (scripts_closed h firm.valid grammar (at_first budget) (none_closed h) front).0 in
      (firm_fronts h firm (played h grammar (at_first budget) front).state.split closed).manifold;
  fronts = λ T closed. (firm_fronts h firm T closed).manifold;
}
