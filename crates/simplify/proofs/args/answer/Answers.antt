use Rattle.std.proofs.Common.{inl, inr, sym, ◌∙◌}
use Rattle.std.specs.Prelude.{codes}
use Rattle.simplify.specs.Help.{help_text}
use Rattle.simplify.specs.Asking.{Asks, ArgsAsk}
use Rattle.pm_commands.proofs.EndingLaws.{ungathered_says}
use Rattle.pm_program.proofs.EndingLaws.{ends_ungathered}
use Rattle.simplify.proofs.EndingLaws.{obeys_of, same_asked, texts_of}
use Rattle.simplify.proofs.args.answer.Goals as goal

pub returns-in-Ok-words_after_name-clause-refused :
    goal.returns-in-Ok-words_after_name-clause-refused
returns-in-Ok-words_after_name-clause-refused g c = λ none.
    let same =
    same_asked _ _ _ _ c.in-Ok.is c.in-Ok-words_after_name.ensures c.deref.ensures.value in
    inl (c.run.ensures.refused (sym same ∙ none))

pub returns-in-Ok-words_after_name-clause-known : goal.returns-in-Ok-words_after_name-clause-known
returns-in-Ok-words_after_name-clause-known g c = λ two.
    let same =
    same_asked _ _ _ _ c.in-Ok.is c.in-Ok-words_after_name.ensures c.deref.ensures.value in
    same ∙ c.run.ensures.known two

pub returns-in-Ok-words_after_name-clause-obeys : goal.returns-in-Ok-words_after_name-clause-obeys
returns-in-Ok-words_after_name-clause-obeys g c =
    let same =
    same_asked _ _ _ _ c.in-Ok.is c.in-Ok-words_after_name.ensures c.deref.ensures.value in
    obeys_of g.S.Source g.K.Sink g.E.Sink (λ a. Asks c.deref.result.now a)
    (λ a. ArgsAsk c.args.args a) _ _ _ _ _ _ _ (λ a asks. sym same ∙ asks) c.run.ensures.obeys

pub returns-in-Ok-words_after_name-clause-texts : goal.returns-in-Ok-words_after_name-clause-texts
returns-in-Ok-words_after_name-clause-texts g c =
    let same =
    same_asked _ _ _ _ c.in-Ok.is c.in-Ok-words_after_name.ensures c.deref.ensures.value in
    inr (texts_of g.S.Source g.K.Sink g.E.Sink (codes "simplify") help_text _ _ _ _ _ _ _ _ _ same
    c.run.ensures.texts)

pub returns-in-Ok-words_after_name-clause-said : goal.returns-in-Ok-words_after_name-clause-said
returns-in-Ok-words_after_name-clause-said g c = c.run.ensures.said.ending

pub returns-in-Ok-words_after_name-clause-said_memory :
    goal.returns-in-Ok-words_after_name-clause-said_memory
returns-in-Ok-words_after_name-clause-said_memory g c = λ is. inr (c.run.ensures.said.memory is)

pub returns-in-Err-clause-endings : goal.returns-in-Err-clause-endings
returns-in-Err-clause-endings g c =
    ends_ungathered g.S.Source g.K.Sink g.E.Sink _ c.in-Err.error c.in-Err.is _ _ _ _ _
    c.refuse_words.ensures.either c.kind.result c.kind.ensures c.refuse_words.ensures.memory
    c.refuse_words.ensures.other c.refuse_words.ensures.unsaid

pub returns-in-Err-clause-said : goal.returns-in-Err-clause-said
returns-in-Err-clause-said g c =
    ungathered_says g.E.Sink (codes "simplify") _ _ _ c.refuse_words.ensures.either
    c.refuse_words.ensures.said
