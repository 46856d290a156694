use Rattle.std.proofs.Common.{inr, sym, ◌∙◌}
use Rattle.std.specs.Prelude.{codes}
use Rattle.std.proofs.lemmas.Option.{none-some}
use Rattle.vdpm.specs.Words.{asked_of}
use Rattle.vdpm.specs.Asking.{Asks, ArgsAsk}
use Rattle.pm_commands.proofs.ArgsLaws.{words_ask, refused_words}
use Rattle.pm_commands.proofs.EndingLaws.{ungathered_says}
use Rattle.pm_program.proofs.EndingLaws.{ends_ungathered}
use Rattle.vdpm.proofs.EndingLaws.{obeys_of}
use Rattle.vdpm.proofs.args.answer.Goals as goal

pub returns-in-Ok-words_after_name-clause-refused :
    goal.returns-in-Ok-words_after_name-clause-refused
returns-in-Ok-words_after_name-clause-refused g c =
    refused_words asked_of _ _ _ _ c.in-Ok.is c.in-Ok-words_after_name.ensures c.deref.ensures.value
    _ c.run.ensures.refused.0

pub returns-in-Ok-words_after_name-clause-known : goal.returns-in-Ok-words_after_name-clause-known
returns-in-Ok-words_after_name-clause-known g c = λ is a asks.
    none-some a (sym (c.run.ensures.refused.1 is)
    ∙ words_ask asked_of _ _ _ _ c.in-Ok.is c.in-Ok-words_after_name.ensures
    c.deref.ensures.value a asks)

pub returns-in-Ok-words_after_name-clause-obeys : goal.returns-in-Ok-words_after_name-clause-obeys
returns-in-Ok-words_after_name-clause-obeys g c =
    obeys_of g.S.Source g.K.Sink g.E.Sink (λ a. Asks c.deref.result.now a)
    (λ a. ArgsAsk c.args.args a) _ _ _ _ _ _ _
    (words_ask asked_of _ _ _ _ c.in-Ok.is c.in-Ok-words_after_name.ensures c.deref.ensures.value)
    c.run.ensures.obeys

pub returns-in-Ok-words_after_name-clause-said : goal.returns-in-Ok-words_after_name-clause-said
returns-in-Ok-words_after_name-clause-said g c = c.run.ensures.said.ending

pub returns-in-Ok-words_after_name-clause-said_memory :
    goal.returns-in-Ok-words_after_name-clause-said_memory
returns-in-Ok-words_after_name-clause-said_memory g c = λ is. inr (c.run.ensures.said.memory is)

pub returns-in-Err-clause-endings : goal.returns-in-Err-clause-endings
returns-in-Err-clause-endings g c =
    ends_ungathered g.S.Source g.K.Sink g.E.Sink _ c.in-Err.error c.in-Err.is _ _ _ _ _
    c.refuse_words.ensures.either c.kind.result c.kind.ensures c.refuse_words.ensures.memory
    c.refuse_words.ensures.other c.refuse_words.ensures.unsaid

pub returns-in-Err-clause-said : goal.returns-in-Err-clause-said
returns-in-Err-clause-said g c =
    ungathered_says g.E.Sink (codes "vdpm") _ _ _ c.refuse_words.ensures.either
    c.refuse_words.ensures.said
