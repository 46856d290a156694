-- How a script ends that follows the stream of a valid hierarchy.
use Rattle.std.proofs.Common.{◌≡◌, ◌⊎◌, inl, inr, ℕ, ◌+◌, ◌<◌, ◌≤◌, List, [], ◌++◌, length}
use Rattle.std.proofs.Common.{Option, Some, None, append_assoc}
use Rattle.std.proofs.Common.{IfSome, Ok, refl, sym, ◌∙◌, ap, subst, arith}
use Rattle.std.proofs.Common.{length-append}
use Rattle.std.specs.Option.{option_map}
use Rattle.std.specs.Io.KnownBytes.{prepend_known}
use Rattle.pm_io.specs.Bytes.{Loses, AtEnd}
use Rattle.pm_io.proofs.Known.{loses_both}
use Rattle.obj_lines.proofs.FinishLaws.{left_at_end}
use Rattle.pm_forest.specs.Forest.{Hierarchy}
use Rattle.pm_beyond.specs.Valid.{IsValid}
use Rattle.pm_format.specs.Stream.{stream}
use Rattle.pm_session.specs.declared.command.ScriptFault.{ScriptFault}
use Rattle.pm_session.specs.declared.grammar.Grammar.{Grammar}
use Rattle.pm_session.specs.declared.grammar.Grammar.TheVariants as grammars
use Rattle.pm_session.specs.Script.{State, at_first}
use Rattle.pm_session.specs.Serving.{played, AreLines, Ended, CutOff, PutPart, NotReached}
use Rattle.pm_session.specs.Serving.{ReachesPlace}
use Rattle.pm_commands.specs.declared.fault.Fault.{Fault}
use Rattle.pm_commands.specs.Asked.{script_asked}
use Rattle.pm_commands.specs.Ran.{Ran, line_fault, of_script}
use Rattle.pm_commands.specs.Beginning.{Beginning, valid}
use Rattle.pm_commands.specs.Outcome.{PlaysScript, IsOutcome, Replied, CutShort}
use Rattle.pm_commands.specs.Ending.{RepliesTo, in_script, PutBy, ReadFails, ReadToEnd}
use Rattle.pm_commands.specs.Ending.{TakesTo, ReadToPlace, FewMoreIn}
use Rattle.pm_commands.proofs.ReadingLaws.{Begun, took_text, opened}
use Rattle.pm_commands.proofs.OutcomeLaws.{one_outcome}

-- What both kinds of scripts do.
pub is_script : (grammar : Grammar) (b : ℕ) (bytes : List ℕ) (all : Ran)
    → IsOutcome (script_asked grammar b) bytes all → PlaysScript grammar b bytes all
is_script grammars.View b bytes all is = is
is_script grammars.Live b bytes all is = is

pub as_script : (grammar : Grammar) (b : ℕ) (bytes : List ℕ) (all : Ran)
    → PlaysScript grammar b bytes all → IsOutcome (script_asked grammar b) bytes all
as_script grammars.View b bytes all is = is
as_script grammars.Live b bytes all is = is

pub put_script : (grammar : Grammar) (b : ℕ) (taken text : List ℕ) → RepliesTo grammar b taken text
    → PutBy (script_asked grammar b) taken text
put_script grammars.View b taken text replies = replies
put_script grammars.Live b taken text replies = replies

-- The script begins after the stream of a valid hierarchy.

view_outcome : (grammar : Grammar) (b d : ℕ) (h : Hierarchy) (bytes rest : List ℕ)
    → Begun (Some bytes) (Some rest) d h → IsValid h
    → IsOutcome (script_asked grammar b) bytes
    (of_script (length (stream d h)) (played h grammar (at_first b) rest))
view_outcome grammar b d h bytes rest begun good =
    let o : Beginning = record { digits = d; h = h; rest = rest } in
    as_script grammar b bytes _ (record {
      read = Ok o;
      place = Some (length (stream d h));
      is = valid o (Some (length (stream d h))) (opened bytes rest d h begun) good;
      done = refl;
    })

-- A read failed within the script.
script_before : (grammar : Grammar) (b d : ℕ) (h : Hierarchy) (bytes rest : List ℕ) (n : ℕ)
    (all : Ran) → Begun (Some bytes) (Some rest) d h → IsValid h
    → NotReached n (played h grammar (at_first b) rest)
    → IsOutcome (script_asked grammar b) bytes all
    → IfSome all.place (λ m. length (stream d h) + n < m)
script_before grammar b d h bytes rest n all begun good before is =
    subst (λ (a : Ran). IfSome a.place (λ m. length (stream d h) + n < m))
    (one_outcome (script_asked grammar b) bytes
    (of_script (length (stream d h)) (played h grammar (at_first b) rest)) all
    (view_outcome grammar b d h bytes rest begun good) is)
    (on (played h grammar (at_first b) rest).place before)
  where
    on : (o : Option ℕ) → IfSome o (λ place. n < place)
        → IfSome (option_map (λ k. length (stream d h) + k) o) (λ m. length (stream d h) + n < m)
    on None lt = tt
    on (Some k) lt = omega (arith, lt)

pub script_unread : (grammar : Grammar) (b d : ℕ) (h : Hierarchy)
    (left mid now got_old got_new : Option (List ℕ)) (after : State) → Begun left mid d h
    → IsValid h → CutOff h grammar (at_first b) mid now got_old got_new after
    → ReadFails (script_asked grammar b) left now got_old got_new
script_unread grammar b d h left mid now got_old got_new after begun good c = record {
  taken = stream d h ++ (c.front ++ c.line);
  took = loses_both left mid now (stream d h) (c.front ++ c.line) (took_text left mid d h begun)
      c.took;
  before = before left mid begun c.before;
  text = (played h grammar (at_first b) c.front).text;
  put = put_script grammar b _ _
      (in_script d h c.front c.line begun.text.few good c.ends c.open_line);
  gained = c.gained;
}
  where
    len : length (stream d h ++ (c.front ++ c.line))
        ≡ length (stream d h) + (length c.front + length c.line)
    len = omega (
      arith,
      length-append (stream d h) (c.front ++ c.line),
      length-append c.front c.line,
    )

    before : (left mid : Option (List ℕ)) → Begun left mid d h
        → IfSome mid
        (λ rest. NotReached (length c.front + length c.line) (played h grammar (at_first b) rest))
        → IfSome left (λ bytes. (all : Ran) → IsOutcome (script_asked grammar b) bytes all
        → IfSome all.place (λ n. length (stream d h ++ (c.front ++ c.line)) < n))
    before None mid begun not_yet = tt
    before (Some bytes) None begun not_yet = absurd (cc begun.took)
    before (Some bytes) (Some rest) begun not_yet = λ all is.
        subst (λ (k : ℕ). IfSome all.place (λ n. k < n)) (sym len)
        (script_before grammar b d h bytes rest (length c.front + length c.line) all begun good
        not_yet is)

-- The script has ended.
pub script_ended : (grammar : Grammar) (b d : ℕ) (h : Hierarchy)
    (left mid now got_old got_new : Option (List ℕ)) (fault : Option ScriptFault)
    (found : Option Fault) (after : State) → Begun left mid d h → IsValid h
    → option_map line_fault fault ≡ found
    → Ended h grammar (at_first b) mid now got_old got_new fault after
    → IfSome left (λ bytes. Replied (script_asked grammar b) bytes found got_old got_new)
script_ended grammar b d h None mid now got_old got_new fault found after begun good same ended = tt
script_ended grammar b d h (Some bytes) None now got_old got_new fault found after begun good same
    ended = absurd (cc begun.took)
script_ended grammar b d h (Some bytes) (Some rest) now got_old got_new fault found after begun good
    same ended = record {
      all = of_script (length (stream d h)) (played h grammar (at_first b) rest);
      outcome = view_outcome grammar b d h bytes rest begun good;
      fault_is = ap (option_map line_fault) ended.fault_is ∙ same;
      gained = ended.gained;
    }

no_place : (before : ℕ) (place : Option ℕ) → option_map (λ n. before + n) place ≡ None
    → place ≡ None
no_place before None is = refl
no_place before (Some n) is = absurd (cc is)

pub script_to_end : (grammar : Grammar) (b d : ℕ) (h : Hierarchy)
    (left mid now got_old got_new : Option (List ℕ)) (window : List ℕ) (after : State)
    → Begun left mid d h → IsValid h
    → Ended h grammar (at_first b) mid (prepend_known window now) got_old got_new None after
    → ReadToEnd (script_asked grammar b) left now
script_to_end grammar b d h None mid now got_old got_new window after begun good ended = tt
script_to_end grammar b d h (Some bytes) None now got_old got_new window after begun good ended =
    absurd (cc begun.took)
script_to_end grammar b d h (Some bytes) (Some rest) now got_old got_new window after begun good
    ended = λ all is none.
    let p = played h grammar (at_first b) rest in
    let same = one_outcome (script_asked grammar b) bytes (of_script (length (stream d h)) p) all
    (view_outcome grammar b d h bytes rest begun good) is in
    let nowhere : p.place ≡ None =
    no_place (length (stream d h)) p.place (ap (λ (a : Ran). a.place) same ∙ none) in
    left_at_end window now
    (subst (λ (place : Option ℕ). ReachesPlace (Some rest) (prepend_known window now) place)
    nowhere ended.reaches)

-- The script has ended at a place, and the window holds few bytes.
pub script_to_place : (grammar : Grammar) (b d : ℕ) (h : Hierarchy)
    (left mid now got_old got_new : Option (List ℕ)) (window : List ℕ) (after : State)
    → Begun left mid d h → IsValid h → length window ≤ 4095
    → Ended h grammar (at_first b) mid (prepend_known window now) got_old got_new None after
    → ReadToPlace (script_asked grammar b) left now
script_to_place grammar b d h None mid now got_old got_new window after begun good few ended = tt
script_to_place grammar b d h (Some bytes) None now got_old got_new window after begun good few
    ended = absurd (cc begun.took)
script_to_place grammar b d h (Some bytes) (Some rest) now got_old got_new window after begun good
    few ended = λ all is.
    subst (λ (a : Ran). IfSome a.place (λ n. TakesTo n (Some bytes) now))
    (one_outcome (script_asked grammar b) bytes
    (of_script (length (stream d h)) (played h grammar (at_first b) rest)) all
    (view_outcome grammar b d h bytes rest begun good) is)
    (on (played h grammar (at_first b) rest).place ended.reaches)
  where
    on : (place : Option ℕ) → ReachesPlace (Some rest) (prepend_known window now) place
        → IfSome (option_map (λ n. length (stream d h) + n) place) (λ n. TakesTo n (Some bytes) now)
    on None reaches = tt
    on (Some n) reaches =
        let script = reaches.0 in
        let len : length (stream d h ++ (script ++ window))
        ≡ length (stream d h) + (n + length window) =
        omega (
          arith,
          length-append (stream d h) (script ++ window),
          length-append script window,
          reaches.2,
        ) in
        record {
          taken = stream d h ++ (script ++ window);
          took = loses_both (Some bytes) (Some rest) now (stream d h) (script ++ window)
              (took_text (Some bytes) (Some rest) d h begun)
              (loses_both (Some rest) (prepend_known window now) now script window reaches.1 refl);
          reached = omega (arith, len);
          few = omega (arith, len, few);
        }

-- A write failed.
pub script_cut : (grammar : Grammar) (b d : ℕ) (h : Hierarchy) (left mid now : Option (List ℕ))
    (window : List ℕ) (got_old got_new : Option (List ℕ)) (after : State) → Begun left mid d h
    → IsValid h → PutPart h grammar (at_first b) mid now window got_old got_new after
    → IfSome left (λ bytes. CutShort (script_asked grammar b) bytes got_old got_new)
script_cut grammar b d h None mid now window got_old got_new after begun good p = tt
script_cut grammar b d h (Some bytes) None now window got_old got_new after begun good p =
    absurd (cc begun.took)
script_cut grammar b d h (Some bytes) (Some rest) now window got_old got_new after begun good p =
    record {
      all = of_script (length (stream d h)) (played h grammar (at_first b) rest);
      outcome = view_outcome grammar b d h bytes rest begun good;
      part = p.all;
    }

pub script_few : (grammar : Grammar) (b d : ℕ) (h : Hierarchy) (window : List ℕ)
    (left mid now got_old got_new : Option (List ℕ)) (after : State) → Begun left mid d h
    → IsValid h
    → PutPart h grammar (at_first b) mid (prepend_known window now) window got_old got_new after
    → FewMoreIn grammar b left now got_old got_new
script_few grammar b d h window left mid now got_old got_new after begun good p = record {
  digits = d;
  h = h;
  front = p.front;
  line = p.line;
  window = (p.more ++ p.past) ++ window;
  told = begun.text.few;
  good = good;
  took = loses_both left mid now (stream d h)
      ((p.front ++ p.line) ++ ((p.more ++ p.past) ++ window)) (took_text left mid d h begun)
      (subst (λ (l : List ℕ). Loses mid now l) regrouped
      (loses_both mid (prepend_known window now) now (((p.front ++ p.line) ++ p.more) ++ p.past)
      window p.took refl));
  ends = p.ends;
  one = p.one;
  to_its_end = to_its_end p.to_its_end;
  few = omega (arith, p.few, length-append (p.more ++ p.past) window);
  part = p.part;
  before = p.before;
}
  where
    regrouped : (((p.front ++ p.line) ++ p.more) ++ p.past) ++ window
        ≡ (p.front ++ p.line) ++ ((p.more ++ p.past) ++ window)
    regrouped =
        ap (λ (l : List ℕ). l ++ window) (append_assoc (p.front ++ p.line) p.more p.past)
        ∙ append_assoc (p.front ++ p.line) (p.more ++ p.past) window

    to_its_end : AreLines p.line ⊎ (AtEnd (prepend_known window now) × (p.more ++ p.past ≡ []))
        → AreLines p.line ⊎ AtEnd (prepend_known ((p.more ++ p.past) ++ window) now)
    to_its_end (inl whole) = inl whole
    to_its_end (inr over) =
        inr (subst (λ (l : List ℕ). AtEnd (prepend_known (l ++ window) now)) (sym over.1) over.0)
