-- What a line does, by its command, and how it ends.
use Rattle.std.proofs.Common.{◌≡◌, ℕ, ◌<◌, ◌≤◌, Bool, List, Option, Some, None, Result, Ok, Err}
use Rattle.std.proofs.Common.{OnOk, OnErr, refl, sym, ◌∙◌}
use Rattle.std.proofs.lemmas.Bool.{lt-ltb, le-ltb}
use Rattle.pm_io.specs.declared.device.WriteFault.{WriteFault}
use Rattle.pm_io.specs.Bytes.{Gains, GainsPart}
use Rattle.pm_forest.specs.Forest.{Hierarchy, record_count}
use Rattle.pm_forest.specs.Fronts.{with, without}
use Rattle.pm_beyond.specs.declared.moves.MoveFault.{MoveFault}
use Rattle.pm_beyond.specs.Moves.{split_fault, collapse_fault}
use Rattle.pm_view.specs.Views.{View}
use Rattle.pm_strips.specs.Shown.{strips_text}
use Rattle.pm_pick.specs.declared.hits.Hit.{Hit}
use Rattle.pm_pick.specs.Rays.{Ray}
use Rattle.pm_pick.specs.Picks.{pick_of}
use Rattle.pm_refine.specs.declared.refiner.Adapted.{Adapted}
use Rattle.pm_frame.specs.Frame.{frame_text}
use Rattle.pm_session.specs.declared.command.Command.TheVariants as commands
use Rattle.pm_session.specs.declared.grammar.Grammar.{Grammar}
use Rattle.pm_session.specs.declared.ending.Next.{Next}
use Rattle.pm_session.specs.declared.ending.Next.TheVariants as nexts
use Rattle.pm_session.specs.declared.ending.LineFail.{LineFail}
use Rattle.pm_session.specs.declared.ending.LineFail.TheVariants as fails
use Rattle.pm_session.specs.Script.{command_of, reply_to, view_reply, shape_reply, pick_reply}
use Rattle.pm_session.specs.Script.{adapted_to, after_view, after_split, after_collapse, State}
use Rattle.pm_session.specs.Script.{Deed, Replies, Ends, IsBad, NamesNoRecord, line_deed}
use Rattle.pm_session.specs.Level.{level_reply}
use Rattle.pm_session.specs.Session.{LineEnds}

-- A move that nothing forbids is made, and one that something forbids isn't.
pub split_made : (h : Hierarchy) (T S : ℕ → Bool) (k : ℕ) → split_fault h T k ≡ None → S ≡ with T k
    → S ≡ after_split h T k
unfolding after_split
split_made h T S k free made = rw (made, free) refl

pub split_refused : (h : Hierarchy) (T S : ℕ → Bool) (k : ℕ) (e : MoveFault)
    → split_fault h T k ≡ Some e → S ≡ T → S ≡ after_split h T k
unfolding after_split
split_refused h T S k e fault same = rw (same, fault) refl

pub collapse_made : (h : Hierarchy) (T S : ℕ → Bool) (k : ℕ) → collapse_fault h T k ≡ None
    → S ≡ without T k → S ≡ after_collapse h T k
unfolding after_collapse
collapse_made h T S k free made = rw (made, free) refl

pub collapse_refused : (h : Hierarchy) (T S : ℕ → Bool) (k : ℕ) (e : MoveFault)
    → collapse_fault h T k ≡ Some e → S ≡ T → S ≡ after_collapse h T k
unfolding after_collapse
collapse_refused h T S k e fault same = rw (same, fault) refl

-- What a line does.
module _ (h : Hierarchy) (grammar : Grammar) (s : State) (line : List ℕ) where
  pub deed_quit : command_of grammar line ≡ commands.Quit → line_deed h grammar s line ≡ Ends
  unfolding line_deed
  deed_quit is = rw is refl

  pub deed_bad : command_of grammar line ≡ commands.Bad → line_deed h grammar s line ≡ IsBad
  unfolding line_deed
  deed_bad is = rw is refl

  pub deed_measure : command_of grammar line ≡ commands.Measure
      → line_deed h grammar s line ≡ Replies (shape_reply h s.split) s
  unfolding line_deed
  deed_measure is = rw is refl

  pub deed_strip : command_of grammar line ≡ commands.Strip
      → line_deed h grammar s line ≡ Replies (strips_text h s.split) s
  unfolding line_deed
  deed_strip is = rw is refl

  pub deed_show : command_of grammar line ≡ commands.Show
      → line_deed h grammar s line ≡ Replies (frame_text h s.split) s
  unfolding line_deed
  deed_show is = rw is refl

  pub deed_level : command_of grammar line ≡ commands.Level
      → line_deed h grammar s line ≡ Replies (level_reply h s.split) s
  unfolding line_deed
  deed_level is = rw is refl

  pub deed_split : (S M : ℕ → Bool) (B : ℕ) (k : ℕ) (fault : Option MoveFault)
      → command_of grammar line ≡ commands.Split k → k < record_count h
      → fault ≡ split_fault h s.split k → S ≡ after_split h s.split k → M ≡ s.marked → B ≡ s.budget
      → line_deed h grammar s line
      ≡ Replies (reply_to fault) (record { split = S; marked = M; budget = B })
  unfolding line_deed
  deed_split S M B k fault is l answer after same kept =
      rw (is, lt-ltb k (record_count h) l, answer, after, same, kept) refl

  pub deed_collapse : (S M : ℕ → Bool) (B : ℕ) (k : ℕ) (fault : Option MoveFault)
      → command_of grammar line ≡ commands.Collapse k → k < record_count h
      → fault ≡ collapse_fault h s.split k → S ≡ after_collapse h s.split k → M ≡ s.marked
      → B ≡ s.budget
      → line_deed h grammar s line
      ≡ Replies (reply_to fault) (record { split = S; marked = M; budget = B })
  unfolding line_deed
  deed_collapse S M B k fault is l answer after same kept =
      rw (is, lt-ltb k (record_count h) l, answer, after, same, kept) refl

  pub deed_no_split : (k : ℕ) → command_of grammar line ≡ commands.Split k → record_count h ≤ k
      → line_deed h grammar s line ≡ NamesNoRecord
  unfolding line_deed
  deed_no_split k is l = rw (is, le-ltb k (record_count h) l) refl

  pub deed_no_collapse : (k : ℕ) → command_of grammar line ≡ commands.Collapse k
      → record_count h ≤ k → line_deed h grammar s line ≡ NamesNoRecord
  unfolding line_deed
  deed_no_collapse k is l = rw (is, le-ltb k (record_count h) l) refl

  pub deed_look : (S M : ℕ → Bool) (B : ℕ) (view : View) (adapted : Adapted)
      → command_of grammar line ≡ commands.Look view
      → adapted ≡ adapted_to h s.budget s.split view → S ≡ after_view h s.budget s.split view
      → M ≡ s.marked → B ≡ s.budget
      → line_deed h grammar s line
      ≡ Replies (view_reply adapted) (record { split = S; marked = M; budget = B })
  unfolding line_deed
  deed_look S M B view adapted is answer after same kept = rw (is, answer, after, same, kept) refl

  pub deed_pick : (ray : Ray) (hit : Option Hit) → command_of grammar line ≡ commands.Pick ray
      → hit ≡ pick_of h ray → line_deed h grammar s line ≡ Replies (pick_reply hit) s
  unfolding line_deed
  deed_pick ray hit is answer = rw (is, answer) refl

-- How a line ends that has a reply,
pub replied : (deed : Deed) (reply : List ℕ) (T before after : State)
    (put : Result (Unit {0}) WriteFault) (result : Result Next LineFail) (old new : Option (List ℕ))
    → deed ≡ Replies reply T → after ≡ T → OnOk put (result ≡ Ok nexts.More)
    → OnErr put (result ≡ Err fails.Write) → OnOk put (Gains old new reply)
    → OnErr put (GainsPart old new reply)
    → LineEnds deed result before after old new
replied deed reply T before after (Ok done) result old new is state good bad whole part =
    rw (is, good) (state, whole)
replied deed reply T before after (Err fault) result old new is state good bad whole part =
    rw (is, bad) (state, part)

-- one that ends the script, and one with a fault.
pub ended : (deed : Deed) (T : State) (old : Option (List ℕ)) → deed ≡ Ends
    → LineEnds deed (Ok nexts.Quit) T T old old
ended deed T old is = rw is (refl, refl)

pub bad : (deed : Deed) (T : State) (old : Option (List ℕ)) → deed ≡ IsBad
    → LineEnds deed (Err fails.BadLine) T T old old
bad deed T old is = rw is (refl, refl)

pub named_none : (deed : Deed) (T : State) (old : Option (List ℕ)) → deed ≡ NamesNoRecord
    → LineEnds deed (Err fails.NoRecord) T T old old
named_none deed T old is = rw is (refl, refl)

-- A line that names no record has no reply.
pub not_replied : (deed : Deed) (reply : List ℕ) (T : State) → deed ≡ NamesNoRecord
    → deed ≡ Replies reply T → ⊥
not_replied deed reply T none is =
    let both : NamesNoRecord ≡ Replies reply T = sym none ∙ is in absurd (cc both)
