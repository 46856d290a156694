-- How `view` ends, by what its parts answer.
use Rattle.std.proofs.Common.{◌≡◌, ℕ, ◌+◌, ◌<◌, ◌≤◌, List, [], length, Option, Some, None}
use Rattle.std.proofs.Common.{IfSome, Result, Ok, Err, refl, sym, ◌∙◌, subst, arith}
use Rattle.std.specs.Option.{option_map}
use Rattle.std.specs.Io.KnownBytes.{prepend_known}
use Rattle.pm_io.specs.Causes.{Rose}
use Rattle.pm_io.proofs.Known.{gains_none}
use Rattle.pm_forest.specs.Forest.{Hierarchy}
use Rattle.pm_beyond.specs.Valid.{IsValid}
use Rattle.pm_load.specs.declared.open.LoadFail.{LoadFail}
use Rattle.pm_load.specs.declared.open.LoadFail.TheVariants as loads
use Rattle.pm_format.specs.declared.fault.FormatError.TheVariants as format
use Rattle.pm_format.specs.declared.read.StreamFail.{StreamFail}
use Rattle.pm_format.specs.declared.read.StreamFail.TheVariants as streams
use Rattle.pm_format.specs.Stream.{stream}
use Rattle.pm_format.specs.Taking.{CutOffUnread, Reads}
use Rattle.pm_session.specs.declared.command.ScriptFault.TheVariants as script
use Rattle.pm_session.specs.declared.fail.ServeFail.{ServeFail}
use Rattle.pm_session.specs.declared.fail.ServeFail.TheVariants as serve_fails
use Rattle.pm_session.specs.declared.grammar.Grammar.{Grammar}
use Rattle.pm_session.specs.Script.{State, at_first}
use Rattle.pm_session.specs.Serving.{played, CutOff}
use Rattle.pm_session.specs.Serving.{Serves, ServeCounts, WindowAfter}
use Rattle.pm_commands.specs.declared.fault.Fault.{Fault}
use Rattle.pm_commands.specs.declared.fault.Fault.TheVariants as faults
use Rattle.pm_commands.specs.declared.fault.CommandFail.TheVariants as fails
use Rattle.pm_commands.specs.Asked.{script_asked}
use Rattle.pm_commands.specs.Input.{fail_of, IsFaulty, Stops}
use Rattle.pm_commands.specs.Ran.{Ran, of_script, serve_fail}
use Rattle.pm_commands.specs.Beginning.{Beginning, IsValidBeginning, stream_fail, load_fail}
use Rattle.pm_commands.specs.Outcome.{IsOutcome, done_with, Replied}
use Rattle.pm_commands.specs.Ending.{in_stream, ReadFails, ReadToEnd}
use Rattle.pm_commands.specs.Ending.{ReadToPlace, FewMoreIn, Ends, Counts}
use Rattle.pm_commands.proofs.BeginningLaws.{valid_place}
use Rattle.pm_commands.proofs.StreamLaws.{valid_unread}
use Rattle.pm_commands.proofs.ReadingLaws.{Begun, nothing_held}
use Rattle.pm_commands.proofs.OutcomeLaws.{follows_refused, ends_refused}
use Rattle.pm_commands.proofs.ScriptLaws.{is_script, as_script, put_script, script_unread}
use Rattle.pm_commands.proofs.ScriptLaws.{script_ended, script_to_end, script_to_place, script_cut}
use Rattle.pm_commands.proofs.ScriptLaws.{script_few}

-- Where the script begins after so many bytes, its place is moved by these.
moved : (before : ℕ) (place : Option ℕ) (taken : ℕ) → ((n : ℕ) → taken < before + n)
    → IfSome (option_map (λ n. before + n) place) (λ m. taken < m)
moved before None taken lt = tt
moved before (Some n) taken lt = lt n

-- Bytes that don't reach the end of the stream don't reach the place of the outcome.
view_before : (grammar : Grammar) (b : ℕ) (bytes : List ℕ) (taken : ℕ) (all : Ran)
    → ((r : Result Beginning Fault) (place : Option ℕ) → IsValidBeginning bytes r place
    → IfSome place (λ n. taken < n)) → IsOutcome (script_asked grammar b) bytes all
    → IfSome all.place (λ n. taken < n)
view_before grammar b bytes taken all before is =
    let f = is_script grammar b bytes all is in
    subst (λ (a : Ran). IfSome a.place (λ n. taken < n)) (sym f.done) (go f.read f.place f.is)
  where
    go : (r : Result Beginning Fault) (place : Option ℕ) → IsValidBeginning bytes r place
        → IfSome (done_with
        (λ o. of_script (length (stream o.digits o.h)) (played o.h grammar (at_first b) o.rest)) r
        place).place (λ n. taken < n)
    go (Err e) place is = before (Err e) place is
    go (Ok o) place is =
        let lt : taken < length (stream o.digits o.h) =
        subst (λ (p : Option ℕ). IfSome p (λ n. taken < n))
        (valid_place bytes (Ok o) place o refl is) (before (Ok o) place is) in
        moved (length (stream o.digits o.h)) (played o.h grammar (at_first b) o.rest).place taken
        (λ n. omega (arith, lt))

-- A read failed within the stream.
stream_unread : (grammar : Grammar) (b : ℕ) (left now got : Option (List ℕ)) → CutOffUnread left now
    → ReadFails (script_asked grammar b) left now got got
stream_unread grammar b left now got u = record {
  taken = u.taken;
  took = u.took;
  before = before left (valid_unread left now u);
  text = [];
  put = put_script grammar b _ _ (in_stream u.taken u.cut);
  gained = gains_none got;
}
  where
    before : (left : Option (List ℕ))
        → IfSome left (λ bytes. (r : Result Beginning Fault) (place : Option ℕ)
        → IsValidBeginning bytes r place → IfSome place (λ n. length u.taken < n))
        → IfSome left (λ bytes. (all : Ran) → IsOutcome (script_asked grammar b) bytes all
        → IfSome all.place (λ n. length u.taken < n))
    before None is = tt
    before (Some bytes) is = λ all outcome. view_before grammar b bytes (length u.taken) all is
        outcome

-- The stream is refused.
view_faulty : (grammar : Grammar) (b : ℕ) (left got : Option (List ℕ)) (f : Fault)
    → IfSome left (λ bytes. IsFaulty IsValidBeginning bytes f)
    → IfSome left (λ bytes. Replied (script_asked grammar b) bytes (Some f) got got)
view_faulty grammar b None got f is = tt
view_faulty grammar b (Some bytes) got f is =
    ends_refused (script_asked grammar b) (Some bytes) got f (
      is.place,
      as_script grammar b bytes _
          (follows_refused (IsValidBeginning bytes)
          (λ o. of_script (length (stream o.digits o.h)) (played o.h grammar (at_first b) o.rest)) f
          is.place is.is),
    )

-- The hierarchy isn't opened.
pub view_load : (grammar : Grammar) (b : ℕ) (e : LoadFail) (left now got : Option (List ℕ))
    (in_old in_new : ℕ) → Stops IsValidBeginning (load_fail e) left now in_old in_new
    → Ends (script_asked grammar b) (Err (fail_of (load_fail e))) left now got got
view_load grammar b (loads.EdgeTwice f) left now got in_old in_new stops =
    view_faulty grammar b left got (faults.LeafEdgeTwice f.0) stops.0
view_load grammar b (loads.BadNeighbour k) left now got in_old in_new stops =
    view_faulty grammar b left got (faults.BadNeighbour k) stops.0
view_load grammar b loads.OutOfMemory left now got in_old in_new stops = refl

pub view_stream : (grammar : Grammar) (b : ℕ) (left whole mid now got : Option (List ℕ))
    (e : StreamFail) (in_old in_new : ℕ) → whole ≡ left → Reads whole mid now (Err e)
    → Stops IsValidBeginning (stream_fail e) left now in_old in_new
    → Ends (script_asked grammar b) (Err (fail_of (stream_fail e))) left now got got
view_stream grammar b left whole mid now got e in_old in_new same reads stops =
    go e (subst (λ (o : Option (List ℕ)). Reads o mid now (Err e)) same reads) stops
  where
    go : (e : StreamFail) → Reads left mid now (Err e)
        → Stops IsValidBeginning (stream_fail e) left now in_old in_new
        → Ends (script_asked grammar b) (Err (fail_of (stream_fail e))) left now got got
    go streams.Read reads stops = stream_unread grammar b left now got reads
    go (streams.Fault format.OutOfMemory) reads stops = refl
    go (streams.Fault format.BadMagic) reads stops =
        view_faulty grammar b left got (faults.Stream format.BadMagic) stops.0
    go (streams.Fault (format.BadVersion v)) reads stops =
        view_faulty grammar b left got (faults.Stream (format.BadVersion v)) stops.0
    go (streams.Fault (format.BadDigits d)) reads stops =
        view_faulty grammar b left got (faults.Stream (format.BadDigits d)) stops.0
    go (streams.Fault (format.Truncated n)) reads stops =
        view_faulty grammar b left got (faults.Stream (format.Truncated n)) stops.0
    go (streams.Fault format.BadCount) reads stops =
        view_faulty grammar b left got (faults.Stream format.BadCount) stops.0
    go (streams.Fault (format.BadRoot i)) reads stops =
        view_faulty grammar b left got (faults.Stream (format.BadRoot i)) stops.0
    go (streams.Fault (format.BadFace i)) reads stops =
        view_faulty grammar b left got (faults.Stream (format.BadFace i)) stops.0
    go (streams.Fault (format.BadRecord i)) reads stops =
        view_faulty grammar b left got (faults.Stream (format.BadRecord i)) stops.0
    go (streams.Fault (format.BadInput i)) reads stops =
        view_faulty grammar b left got (faults.Stream (format.BadInput i)) stops.0

-- The session shows the base front of the hierarchy.
shown : (grammar grammar' : Grammar) (h h' : Hierarchy) (b : ℕ) (T : State)
    (mid now : Option (List ℕ)) (window : List ℕ) (got_old got_new : Option (List ℕ))
    (r : Result (Unit {0}) ServeFail) (after : State) → h' ≡ h → grammar' ≡ grammar
    → T ≡ at_first b
    → Serves h' grammar' T mid now window got_old got_new r after
    → Serves h grammar (at_first b) mid now window got_old got_new r after
shown grammar grammar' h h' b T mid now window got_old got_new r after same_h same_grammar base
    serves =
    subst (λ (q : Hierarchy). Serves q grammar (at_first b) mid now window got_old got_new r after)
    same_h
    (subst (λ (k : Grammar). Serves h' k (at_first b) mid now window got_old got_new r after)
    same_grammar
    (subst (λ (S : State). Serves h' grammar' S mid now window got_old got_new r after) base
    serves))

-- What a session that began so makes of `view`.
module _ (grammar grammar' : Grammar) (b d : ℕ) (h h' : Hierarchy) (T : State)
    (left mid now got_old got_new : Option (List ℕ)) (window : List ℕ) (after : State)
    (begun : Begun left mid d h) (good : IsValid h) (same_h : h' ≡ h) (same_grammar : grammar'
    ≡ grammar) (base : T ≡ at_first b) where
  pub view_done : Serves h' grammar' T mid (prepend_known window now) window got_old got_new (Ok tt)
      after → IfSome left (λ bytes. Replied (script_asked grammar b) bytes None got_old got_new)
  view_done serves =
      script_ended grammar b d h left mid (prepend_known window now) got_old got_new None None after
      begun good refl (shown grammar grammar' h h' b T mid (prepend_known window now) window got_old
      got_new (Ok tt) after same_h same_grammar base serves)

  pub view_to_end : Serves h' grammar' T mid (prepend_known window now) window got_old got_new
      (Ok tt) after → ReadToEnd (script_asked grammar b) left now
  view_to_end serves =
      script_to_end grammar b d h left mid now got_old got_new window after begun good
      (shown grammar grammar' h h' b T mid (prepend_known window now) window got_old got_new (Ok tt)
      after same_h same_grammar base serves)

  pub view_to_place : Serves h' grammar' T mid (prepend_known window now) window got_old got_new
      (Ok tt) after → length window ≤ 4095 → ReadToPlace (script_asked grammar b) left now
  view_to_place serves few =
      script_to_place grammar b d h left mid now got_old got_new window after begun good few
      (shown grammar grammar' h h' b T mid (prepend_known window now) window got_old got_new (Ok tt)
      after same_h same_grammar base serves)

  pub view_served : (e : ServeFail)
      → Serves h' grammar' T mid (prepend_known window now) window got_old got_new (Err e) after
      → WindowAfter {X = Unit {0}} (Err e) window
      → Ends (script_asked grammar b) (Err (serve_fail e)) left now got_old got_new
  view_served e serves is =
      go e (shown grammar grammar' h h' b T mid (prepend_known window now) window got_old got_new
      (Err e) after same_h same_grammar base serves) is
    where
      go : (e : ServeFail)
          → Serves h grammar (at_first b) mid (prepend_known window now) window got_old got_new
          (Err e) after → WindowAfter {X = Unit {0}} (Err e) window
          → Ends (script_asked grammar b) (Err (serve_fail e)) left now got_old got_new
      go (serve_fails.BadLine n) s w =
          script_ended grammar b d h left mid (prepend_known window now) got_old got_new
          (Some (script.BadLine n)) (Some (faults.BadLine n)) after begun good refl s
      go (serve_fails.NoRecord n) s w =
          script_ended grammar b d h left mid (prepend_known window now) got_old got_new
          (Some (script.NoRecord n)) (Some (faults.NoRecord n)) after begun good refl s
      go serve_fails.ScriptTooLong s w =
          script_ended grammar b d h left mid (prepend_known window now) got_old got_new
          (Some script.TooLong) (Some faults.ScriptTooLong) after begun good refl s
      go serve_fails.Read s w =
          script_unread grammar b d h left mid now got_old got_new after begun good
          (subst (λ (o : Option (List ℕ)). CutOff h grammar (at_first b) mid o got_old got_new
          after) (nothing_held window now w) s)
      go serve_fails.Write s w =
          script_cut grammar b d h left mid (prepend_known window now) window got_old got_new after
          begun good s

  pub view_few : (e : ServeFail)
      → Serves h' grammar' T mid (prepend_known window now) window got_old got_new (Err e) after
      → WindowAfter {X = Unit {0}} (Err e) window → serve_fail e ≡ fails.Write
      → FewMoreIn grammar b left now got_old got_new
  view_few e serves is write =
      go e (shown grammar grammar' h h' b T mid (prepend_known window now) window got_old got_new
      (Err e) after same_h same_grammar base serves) is write
    where
      go : (e : ServeFail)
          → Serves h grammar (at_first b) mid (prepend_known window now) window got_old got_new
          (Err e) after → WindowAfter {X = Unit {0}} (Err e) window → serve_fail e ≡ fails.Write
          → FewMoreIn grammar b left now got_old got_new
      go (serve_fails.BadLine n) s w write = absurd (cc write)
      go (serve_fails.NoRecord n) s w write = absurd (cc write)
      go serve_fails.ScriptTooLong s w write = absurd (cc write)
      go serve_fails.Read s w write = absurd (cc write)
      go serve_fails.Write s w write =
          script_few grammar b d h window left mid now got_old got_new after begun good s

pub view_counts : (e : ServeFail) (in_old in_mid in_new out_old out_new : ℕ) → in_mid ≡ in_old
    → ServeCounts {X = Unit {0}} (Err e) in_mid in_new out_old out_new
    → Counts (Err (serve_fail e)) in_old in_new out_old out_new
view_counts (serve_fails.BadLine n) in_old in_mid in_new out_old out_new same counts =
    (counts.0 ∙ same, counts.1)
view_counts (serve_fails.NoRecord n) in_old in_mid in_new out_old out_new same counts =
    (counts.0 ∙ same, counts.1)
view_counts serve_fails.ScriptTooLong in_old in_mid in_new out_old out_new same counts =
    (counts.0 ∙ same, counts.1)
view_counts serve_fails.Read in_old in_mid in_new out_old out_new same counts =
    (subst (λ (n : ℕ). Rose n in_new) same counts.0, counts.1)
view_counts serve_fails.Write in_old in_mid in_new out_old out_new same counts =
    (counts.0 ∙ same, counts.1)
