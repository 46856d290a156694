use Rattle.std.proofs.Common.{Some, sym, ap, ◌∙◌}
use Rattle.std.specs.Prelude.{codes}
use Rattle.prepare.specs.Words.{asked_of}
use Rattle.prepare.specs.Ending.{prepare_fault_line}
use Rattle.pm_program.proofs.EndingLaws.{ends_early, outcomes_early, says_early, ends_ungathered}
use Rattle.prepare.proofs.EndingLaws.{one_asked, said_done, fault_of, read_of, cut_of, nothing_of}
use Rattle.prepare.proofs.WordLaws.{size_of}
use Rattle.prepare.proofs.FitLaws.{gained_fits, gained_leads}
use Rattle.prepare.proofs.StayLaws.{left_stays}
use Rattle.prepare.proofs.run.run.Goals as goal

pub returns-in-Ok-obey-clause-whole : goal.returns-in-Ok-obey-clause-whole
returns-in-Ok-obey-clause-whole g c = λ other asks is.
    said_done c.in-Work.asked other _ _ _ _ _ _ _ c.in-Ok-obey.notes.items c.deref.result.now
    (one_asked _ _ other (sym c.read_words.ensures.asked
    ∙ (c.in-Some.is ∙ ap (λ r. Some r) c.in-Work.is))
    (sym (ap asked_of c.in-Ok.is) ∙ asks)) c.in-Ok-obey.ensures.written c.deref.ensures.value
    c.say.ensures

pub returns-in-Ok-obey-clause-fit_text : goal.returns-in-Ok-obey-clause-fit_text
returns-in-Ok-obey-clause-fit_text g c = λ other asks is.
    gained_fits c.in-Work.asked.size _ c.in-Ok-obey.notes.items _ _
    (size_of c.read_words.result c.in-Work.asked (c.in-Some.is ∙ ap (λ r. Some r) c.in-Work.is)
    c.read_words.ensures.size) c.in-Ok-obey.ensures.written

pub returns-in-Ok-obey-clause-leads_back : goal.returns-in-Ok-obey-clause-leads_back
returns-in-Ok-obey-clause-leads_back g c = λ other asks is.
    gained_leads c.in-Work.asked other _ c.in-Ok-obey.notes.items _ _
    (one_asked _ _ other (sym c.read_words.ensures.asked
    ∙ (c.in-Some.is ∙ ap (λ r. Some r) c.in-Work.is))
    (sym (ap asked_of c.in-Ok.is) ∙ asks))
    (size_of c.read_words.result c.in-Work.asked (c.in-Some.is ∙ ap (λ r. Some r) c.in-Work.is)
    c.read_words.ensures.size) c.in-Ok-obey.ensures.written

pub returns-in-Ok-obey-clause-stays : goal.returns-in-Ok-obey-clause-stays
returns-in-Ok-obey-clause-stays g c = λ other asks is.
    left_stays other.size _ _ _ _ _ _ _
    (said_done c.in-Work.asked other _ _ _ _ _ _ _ c.in-Ok-obey.notes.items c.deref.result.now
    (one_asked _ _ other (sym c.read_words.ensures.asked
    ∙ (c.in-Some.is ∙ ap (λ r. Some r) c.in-Work.is))
    (sym (ap asked_of c.in-Ok.is) ∙ asks)) c.in-Ok-obey.ensures.written c.deref.ensures.value
    c.say.ensures)

pub returns-in-Err-obey-clause-faulty : goal.returns-in-Err-obey-clause-faulty
returns-in-Err-obey-clause-faulty g c = λ other asks is.
    fault_of c.in-Work.asked other _ _ _ _ c.in-Err-obey.fail _ _ _ _
    (one_asked _ _ other (sym c.read_words.ensures.asked
    ∙ (c.in-Some.is ∙ ap (λ r. Some r) c.in-Work.is))
    (sym (ap asked_of c.in-Ok.is) ∙ asks)) (sym c.tell.ensures.status ∙ is)
    c.in-Err-obey.ensures.err c.tell.ensures.said

pub returns-in-Err-obey-clause-unreached : goal.returns-in-Err-obey-clause-unreached
returns-in-Err-obey-clause-unreached g c = λ other asks is.
    read_of c.in-Work.asked other _ _ _ _ c.in-Err-obey.fail
    (one_asked _ _ other (sym c.read_words.ensures.asked
    ∙ (c.in-Some.is ∙ ap (λ r. Some r) c.in-Work.is))
    (sym (ap asked_of c.in-Ok.is) ∙ asks)) (sym c.tell.ensures.status ∙ is)
    c.in-Err-obey.ensures.err

pub returns-in-Err-obey-clause-write : goal.returns-in-Err-obey-clause-write
returns-in-Err-obey-clause-write g c = λ other asks is. (
  ((ends_early g.S.Source g.K.Sink g.E.Sink c.args.args _ _ _ _ c.args.err.now c.args.err.now
      c.in-Ok.args c.in-Ok.is
      c.in-Err-obey.fail _ c.tell.ensures.status c.in-Err-obey.ensures.reads
      c.in-Err-obey.ensures.puts).counts.write is).1,
  cut_of c.in-Work.asked other _ _ _ _ c.in-Err-obey.fail
      (one_asked _ _ other (sym c.read_words.ensures.asked
      ∙ (c.in-Some.is ∙ ap (λ r. Some r) c.in-Work.is))
      (sym (ap asked_of c.in-Ok.is) ∙ asks)) (sym c.tell.ensures.status ∙ is)
      c.in-Err-obey.ensures.err,
)

pub returns-in-Err-obey-clause-endings : goal.returns-in-Err-obey-clause-endings
returns-in-Err-obey-clause-endings g c =
    ends_early g.S.Source g.K.Sink g.E.Sink c.args.args _ _ _ _ _ _ c.in-Ok.args c.in-Ok.is
    c.in-Err-obey.fail _ c.tell.ensures.status c.in-Err-obey.ensures.reads
    c.in-Err-obey.ensures.puts

pub returns-in-Err-obey-clause-outcomes : goal.returns-in-Err-obey-clause-outcomes
returns-in-Err-obey-clause-outcomes g c =
    outcomes_early g.S.Source g.K.Sink g.E.Sink (codes "prepare") prepare_fault_line c.args.args
    _ _ _ _ _ _ c.in-Ok.args c.in-Ok.is _ c.in-Some.request
    (ap asked_of c.in-Ok.is ∙ (sym c.read_words.ensures.asked ∙ c.in-Some.is)) c.in-Err-obey.fail _
    c.tell.ensures.status c.in-Err-obey.ensures.reads c.in-Err-obey.ensures.puts
    c.tell.ensures.said
    (λ is. nothing_of c.in-Work.asked c.in-Work.asked _ _ _ _ c.in-Err-obey.fail _
    c.tell.ensures.status is c.in-Err-obey.ensures.err)

pub returns-in-Err-obey-clause-said : goal.returns-in-Err-obey-clause-said
returns-in-Err-obey-clause-said g c =
    let says = says_early g.E.Sink (codes "prepare") prepare_fault_line _ _ c.in-Err-obey.fail _
    c.tell.ensures.status c.tell.ensures.said in
    record { said_words = says.words; said_read = says.read; said_write = says.write }

pub returns-in-Err-clause-endings : goal.returns-in-Err-clause-endings
returns-in-Err-clause-endings g c =
    ends_ungathered g.S.Source g.K.Sink g.E.Sink _ c.in-Err.error c.in-Err.is _ _ _ _ _
    c.refuse_words.ensures.either c.kind.result c.kind.ensures c.refuse_words.ensures.memory
    c.refuse_words.ensures.other c.refuse_words.ensures.unsaid
