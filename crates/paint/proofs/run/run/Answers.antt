use Rattle.std.proofs.Common.{refl, sym, ap, ◌∙◌}
use Rattle.std.specs.Prelude.{codes}
use Rattle.pm_program.proofs.EndingLaws.{ends_early, outcomes_early, says_early, completes}
use Rattle.pm_program.proofs.EndingLaws.{ends_ungathered}
use Rattle.paint.specs.Words.{asked_of}
use Rattle.paint.specs.FaultLine.{fault_line}
use Rattle.pm_program.proofs.MakingLaws.{read_of, cut_of, nothing_of, told_fault, puts_made}
use Rattle.pm_program.proofs.MakingLaws.{puts_none}
use Rattle.paint.specs.Making.{IsMade, Refuses}
use Rattle.paint.proofs.MadeLaws.{one_made, nothing_made}
use Rattle.paint.proofs.run.run.Goals as goal

pub returns-in-Ok-obey-clause-lines : goal.returns-in-Ok-obey-clause-lines
returns-in-Ok-obey-clause-lines g c = λ asks is. c.in-Ok-obey.ensures.ends.0

pub returns-in-Ok-obey-clause-whole : goal.returns-in-Ok-obey-clause-whole
returns-in-Ok-obey-clause-whole g c = λ asks none.
    puts_made IsMade one_made 0 _ _ _ refl c.in-Ok-obey.ensures.ends.0

pub returns-in-Ok-obey-clause-read_whole : goal.returns-in-Ok-obey-clause-read_whole
returns-in-Ok-obey-clause-read_whole g c = λ asks is. c.in-Ok-obey.ensures.ends.1

pub returns-in-Err-obey-clause-whole : goal.returns-in-Err-obey-clause-whole
returns-in-Err-obey-clause-whole g c = λ asks none.
    puts_none IsMade Refuses nothing_made c.in-Err-obey.fail _ _ _ _ _ c.tell.ensures.status
    c.in-Err-obey.ensures.ends
    (completes g.S.Source g.K.Sink _ _ _ _ c.in-Err-obey.fail _ c.tell.ensures.status
    c.in-Err-obey.ensures.reads c.in-Err-obey.ensures.puts none)

pub returns-in-Err-obey-clause-faulty : goal.returns-in-Err-obey-clause-faulty
returns-in-Err-obey-clause-faulty g c = λ is.
    told_fault IsMade Refuses _ _ _ _ g.E.Sink (codes "paint") fault_line c.in-Err-obey.fail _ _
    (sym c.tell.ensures.status ∙ is)
    c.in-Err-obey.ensures.ends c.tell.ensures.said

pub returns-in-Err-obey-clause-unreached : goal.returns-in-Err-obey-clause-unreached
returns-in-Err-obey-clause-unreached g c = λ is.
    read_of IsMade Refuses _ _ _ _ c.in-Err-obey.fail (sym c.tell.ensures.status ∙ is)
    c.in-Err-obey.ensures.ends

pub returns-in-Err-obey-clause-write : goal.returns-in-Err-obey-clause-write
returns-in-Err-obey-clause-write g c = λ asks is.
    cut_of IsMade Refuses _ _ _ _ c.in-Err-obey.fail (sym c.tell.ensures.status ∙ is)
    c.in-Err-obey.ensures.ends

pub returns-in-Err-obey-clause-endings : goal.returns-in-Err-obey-clause-endings
returns-in-Err-obey-clause-endings g c =
    ends_early g.S.Source g.K.Sink g.E.Sink c.args.args _ _ _ _ _ _ c.in-Ok.args c.in-Ok.is
    c.in-Err-obey.fail _ c.tell.ensures.status c.in-Err-obey.ensures.reads
    c.in-Err-obey.ensures.puts

pub returns-in-Err-obey-clause-outcomes : goal.returns-in-Err-obey-clause-outcomes
returns-in-Err-obey-clause-outcomes g c =
    outcomes_early g.S.Source g.K.Sink g.E.Sink (codes "paint") fault_line c.args.args _ _ _ _ _ _
    c.in-Ok.args c.in-Ok.is _ c.in-Some.request
    (ap asked_of c.in-Ok.is ∙ (sym c.read_words.ensures ∙ c.in-Some.is)) c.in-Err-obey.fail _
    c.tell.ensures.status c.in-Err-obey.ensures.reads c.in-Err-obey.ensures.puts
    c.tell.ensures.said
    (λ is. nothing_of IsMade Refuses _ _ _ _ c.in-Err-obey.fail _ c.tell.ensures.status is
    c.in-Err-obey.ensures.ends)

pub returns-in-Err-obey-clause-said : goal.returns-in-Err-obey-clause-said
returns-in-Err-obey-clause-said g c =
    says_early g.E.Sink (codes "paint") fault_line _ _ c.in-Err-obey.fail _ c.tell.ensures.status
    c.tell.ensures.said

pub returns-in-Err-clause-endings : goal.returns-in-Err-clause-endings
returns-in-Err-clause-endings g c =
    ends_ungathered g.S.Source g.K.Sink g.E.Sink _ c.in-Err.error c.in-Err.is _ _ _ _ _
    c.refuse_words.ensures.either c.kind.result c.kind.ensures c.refuse_words.ensures.memory
    c.refuse_words.ensures.other c.refuse_words.ensures.unsaid
