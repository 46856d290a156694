use Rattle.std.proofs.Common.{Err, Some, IfSome, refl, sym, ap, ◌∙◌, subst}
use Rattle.std.specs.Prelude.{codes}
use Rattle.pack.specs.declared.words.Asked.{Asked}
use Rattle.pack.specs.declared.words.Asked.TheVariants as asked
use Rattle.pack.specs.Words.{asked_of}
use Rattle.pm_program.specs.Making.{front, Replied, CutShort, Ends}
use Rattle.pack.specs.Making.{IsMade, Refuses}
use Rattle.pack.specs.FaultLine.{fault_line}
use Rattle.pm_program.proofs.EndingLaws.{ends_early, outcomes_early, says_early, completes}
use Rattle.pm_program.proofs.EndingLaws.{ends_ungathered}
use Rattle.pm_program.proofs.MakingLaws.{read_of, cut_of, nothing_of, told_fault, puts_made}
use Rattle.pm_program.proofs.MakingLaws.{puts_none}
use Rattle.pack.proofs.MadeLaws.{one_asked, nothing_unpacked}
use Rattle.pack.proofs.run.run.Goals as goal

pub returns-in-Ok-obey-clause-packs : goal.returns-in-Ok-obey-clause-packs
returns-in-Ok-obey-clause-packs g c = λ asks is.
    subst (λ (a : Asked). IfSome (g.S.Source.left c.args.input.now)
    (λ bytes. Replied (IsMade a) (front bytes) (g.K.Sink.got c.args.out.now)
    (g.K.Sink.got c.obey.new.out)))
    (one_asked _ _ asked.Pack (sym c.read_words.ensures
    ∙ (c.in-Some.is ∙ ap (λ r. Some r) c.in-Work.is))
    (sym (ap asked_of c.in-Ok.is) ∙ asks)) c.in-Ok-obey.ensures.ends.0

pub returns-in-Ok-obey-clause-unpacks : goal.returns-in-Ok-obey-clause-unpacks
returns-in-Ok-obey-clause-unpacks g c = λ asks is.
    subst (λ (a : Asked). IfSome (g.S.Source.left c.args.input.now)
    (λ bytes. Replied (IsMade a) (front bytes) (g.K.Sink.got c.args.out.now)
    (g.K.Sink.got c.obey.new.out)))
    (one_asked _ _ asked.Unpack (sym c.read_words.ensures
    ∙ (c.in-Some.is ∙ ap (λ r. Some r) c.in-Work.is))
    (sym (ap asked_of c.in-Ok.is) ∙ asks)) c.in-Ok-obey.ensures.ends.0

pub returns-in-Ok-obey-clause-unpacks_first : goal.returns-in-Ok-obey-clause-unpacks_first
returns-in-Ok-obey-clause-unpacks_first g c = λ n asks is.
    subst (λ (a : Asked). IfSome (g.S.Source.left c.args.input.now)
    (λ bytes. Replied (IsMade a) (front bytes) (g.K.Sink.got c.args.out.now)
    (g.K.Sink.got c.obey.new.out)))
    (one_asked _ _ (asked.UnpackFirst n) (sym c.read_words.ensures
    ∙ (c.in-Some.is ∙ ap (λ r. Some r) c.in-Work.is))
    (sym (ap asked_of c.in-Ok.is) ∙ asks)) c.in-Ok-obey.ensures.ends.0

pub returns-in-Ok-obey-clause-leads_back : goal.returns-in-Ok-obey-clause-leads_back
returns-in-Ok-obey-clause-leads_back g c = λ asks none.
    puts_made (IsMade asked.Unpack) c.packed_texts_are_sound.ensures.one 0 _ _ _ refl
    (subst (λ (a : Asked). IfSome (g.S.Source.left c.args.input.now)
    (λ bytes. Replied (IsMade a) (front bytes) (g.K.Sink.got c.args.out.now)
    (g.K.Sink.got c.obey.new.out)))
    (one_asked _ _ asked.Unpack (sym c.read_words.ensures
    ∙ (c.in-Some.is ∙ ap (λ r. Some r) c.in-Work.is))
    (sym (ap asked_of c.in-Ok.is) ∙ asks)) c.in-Ok-obey.ensures.ends.0)

pub returns-in-Ok-obey-clause-read_whole : goal.returns-in-Ok-obey-clause-read_whole
returns-in-Ok-obey-clause-read_whole g c = λ other asks is. c.in-Ok-obey.ensures.ends.1

pub returns-in-Err-obey-clause-leads_back : goal.returns-in-Err-obey-clause-leads_back
returns-in-Err-obey-clause-leads_back g c = λ asks none.
    puts_none (IsMade asked.Unpack) (Refuses asked.Unpack) nothing_unpacked
    c.in-Err-obey.fail _ _ _ _ _ c.tell.ensures.status
    (subst (λ (a : Asked). Ends (IsMade a) (Refuses a) (Err c.in-Err-obey.fail)
    (g.S.Source.left c.args.input.now) (g.S.Source.left c.obey.new.input)
    (g.K.Sink.got c.args.out.now)
    (g.K.Sink.got c.obey.new.out))
    (one_asked _ _ asked.Unpack (sym c.read_words.ensures
    ∙ (c.in-Some.is ∙ ap (λ r. Some r) c.in-Work.is))
    (sym (ap asked_of c.in-Ok.is) ∙ asks)) c.in-Err-obey.ensures.ends)
    (completes g.S.Source g.K.Sink _ _ _ _ c.in-Err-obey.fail _ c.tell.ensures.status
    c.in-Err-obey.ensures.reads c.in-Err-obey.ensures.puts none)

pub returns-in-Err-obey-clause-faulty : goal.returns-in-Err-obey-clause-faulty
returns-in-Err-obey-clause-faulty g c = λ other asks is.
    told_fault (IsMade other) (Refuses other) _ _ _ _ g.E.Sink (codes "pack") fault_line
    c.in-Err-obey.fail _ _ (sym c.tell.ensures.status ∙ is)
    (subst (λ (a : Asked). Ends (IsMade a) (Refuses a) (Err c.in-Err-obey.fail)
    (g.S.Source.left c.args.input.now) (g.S.Source.left c.obey.new.input)
    (g.K.Sink.got c.args.out.now) (g.K.Sink.got c.obey.new.out))
    (one_asked _ _ other (sym c.read_words.ensures
    ∙ (c.in-Some.is ∙ ap (λ r. Some r) c.in-Work.is))
    (sym (ap asked_of c.in-Ok.is) ∙ asks)) c.in-Err-obey.ensures.ends)
    c.tell.ensures.said

pub returns-in-Err-obey-clause-unreached : goal.returns-in-Err-obey-clause-unreached
returns-in-Err-obey-clause-unreached g c = λ is.
    read_of (IsMade c.in-Work.asked) (Refuses c.in-Work.asked) _ _ _ _ c.in-Err-obey.fail
    (sym c.tell.ensures.status ∙ is)
    c.in-Err-obey.ensures.ends

pub returns-in-Err-obey-clause-write : goal.returns-in-Err-obey-clause-write
returns-in-Err-obey-clause-write g c = λ other asks is.
    subst (λ (a : Asked). IfSome (g.S.Source.left c.args.input.now)
    (λ bytes. CutShort (IsMade a) (front bytes) (g.K.Sink.got c.args.out.now)
    (g.K.Sink.got c.obey.new.out)))
    (one_asked _ _ other (sym c.read_words.ensures
    ∙ (c.in-Some.is ∙ ap (λ r. Some r) c.in-Work.is))
    (sym (ap asked_of c.in-Ok.is) ∙ asks))
    (cut_of (IsMade c.in-Work.asked) (Refuses c.in-Work.asked) _ _ _ _ c.in-Err-obey.fail
    (sym c.tell.ensures.status ∙ is)
    c.in-Err-obey.ensures.ends)

pub returns-in-Err-obey-clause-endings : goal.returns-in-Err-obey-clause-endings
returns-in-Err-obey-clause-endings g c =
    ends_early g.S.Source g.K.Sink g.E.Sink c.args.args _ _ _ _ _ _ c.in-Ok.args c.in-Ok.is
    c.in-Err-obey.fail _ c.tell.ensures.status c.in-Err-obey.ensures.reads
    c.in-Err-obey.ensures.puts

pub returns-in-Err-obey-clause-outcomes : goal.returns-in-Err-obey-clause-outcomes
returns-in-Err-obey-clause-outcomes g c =
    outcomes_early g.S.Source g.K.Sink g.E.Sink (codes "pack") fault_line c.args.args _ _ _ _ _ _
    c.in-Ok.args c.in-Ok.is _ c.in-Some.request
    (ap asked_of c.in-Ok.is ∙ (sym c.read_words.ensures ∙ c.in-Some.is)) c.in-Err-obey.fail _
    c.tell.ensures.status c.in-Err-obey.ensures.reads c.in-Err-obey.ensures.puts
    c.tell.ensures.said
    (λ is. nothing_of (IsMade c.in-Work.asked) (Refuses c.in-Work.asked) _ _ _ _
    c.in-Err-obey.fail _ c.tell.ensures.status is
    c.in-Err-obey.ensures.ends)

pub returns-in-Err-obey-clause-said : goal.returns-in-Err-obey-clause-said
returns-in-Err-obey-clause-said g c =
    says_early g.E.Sink (codes "pack") fault_line _ _ c.in-Err-obey.fail _ c.tell.ensures.status
    c.tell.ensures.said

pub returns-in-Err-clause-endings : goal.returns-in-Err-clause-endings
returns-in-Err-clause-endings g c =
    ends_ungathered g.S.Source g.K.Sink g.E.Sink _ c.in-Err.error c.in-Err.is _ _ _ _ _
    c.refuse_words.ensures.either c.kind.result c.kind.ensures c.refuse_words.ensures.memory
    c.refuse_words.ensures.other c.refuse_words.ensures.unsaid
