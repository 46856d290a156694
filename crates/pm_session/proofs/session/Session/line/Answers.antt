use Rattle.std.proofs.Common.{List, Bool, arith, refl, sym, ap, ◌∙◌}
use Rattle.pm_base.specs.Counts.{set_of}
use Rattle.pm_session.proofs.CommandLaws.{looks_by, level_in}
use Rattle.pm_session.proofs.Deeds.{deed_quit, deed_measure, deed_level, deed_strip, deed_bad}
use Rattle.pm_session.proofs.Deeds.{deed_show, deed_split, deed_collapse, deed_look, deed_pick}
use Rattle.pm_session.proofs.Deeds.{deed_no_split, deed_no_collapse, replied, ended, bad}
use Rattle.pm_session.proofs.Deeds.{named_none}
use Rattle.pm_session.proofs.MorphLaws.{deed_mark, deed_change, deed_budget, deed_morph}
use Rattle.pm_session.proofs.MorphLaws.{deed_no_fraction}
use Rattle.pm_session.specs.Session.{state_of}
use Rattle.pm_session.proofs.session.Session.line.Goals as goal

pub returns-in-Quit-clause-ends : goal.returns-in-Quit-clause-ends
returns-in-Quit-clause-ends g c =
    ended _ _ _ (deed_quit _ _ _ _ (sym c.command.ensures ∙ c.in-Quit.is))

pub returns-in-Bad-clause-ends : goal.returns-in-Bad-clause-ends
returns-in-Bad-clause-ends g c =
    bad _ _ _ (deed_bad _ _ _ _ (sym c.command.ensures ∙ c.in-Bad.is))

pub returns-in-Show-clause-ends : goal.returns-in-Show-clause-ends
returns-in-Show-clause-ends g c =
    replied _ _ _ _ _ c.show.result _ _ _
    (deed_show _ _ _ _ (sym c.command.ensures ∙ c.in-Show.is)) refl
    c.after_reply.ensures.ok c.after_reply.ensures.err c.show.ensures.ok c.show.ensures.err

pub returns-in-Mark-clause-ends : goal.returns-in-Mark-clause-ends
returns-in-Mark-clause-ends g c =
    replied _ _ _ _ _ c.put_answer-in-Mark.result _ _ _
    (deed_mark _ _ _ _ _ _ _ (sym c.command.ensures ∙ c.in-Mark.is)
    (ap (λ (flags : List Bool). set_of flags) c.mark.ensures.same.2) c.mark.ensures.marked
    c.mark.ensures.same.3) refl
    c.after_reply-in-Mark.ensures.ok c.after_reply-in-Mark.ensures.err
    c.put_answer-in-Mark.ensures.ok c.put_answer-in-Mark.ensures.err

pub returns-in-Morph-clause-ends : goal.returns-in-Morph-clause-ends
returns-in-Morph-clause-ends g c =
    replied _ _ _ _ _ c.morph.result _ _ _
    (deed_morph _ _ _ _ c.in-Morph.a c.in-Morph.b (sym c.command.ensures ∙ c.in-Morph.is)
    (sym c.is_fraction.ensures ∙ c.if-is_fraction.true)) (ap state_of c.morph.ensures.same)
    c.after_reply-in-Morph.ensures.ok c.after_reply-in-Morph.ensures.err c.morph.ensures.ok
    c.morph.ensures.err

pub returns-in-Morph-2-clause-ends : goal.returns-in-Morph-2-clause-ends
returns-in-Morph-2-clause-ends g c =
    bad _ _ _ (deed_no_fraction _ _ _ _ c.in-Morph.a c.in-Morph.b (sym c.command.ensures
    ∙ c.in-Morph.is) (sym c.is_fraction.ensures ∙ c.if-is_fraction.false))

pub returns-in-Split-clause-ends : goal.returns-in-Split-clause-ends
returns-in-Split-clause-ends g c =
    replied _ _ _ _ _ c.put_answer-in-Split.result _ _ _
    (deed_split _ _ _ _ _ _ _ c.in-Split.k c.split.result (sym c.command.ensures
    ∙ c.in-Split.is) (omega arith) c.split.ensures.answer c.split.ensures.after
    (ap (λ (marks : List Bool). set_of marks) c.split.ensures.same.2) c.split.ensures.same.3) refl
    c.after_reply-in-Split.ensures.ok c.after_reply-in-Split.ensures.err
    c.put_answer-in-Split.ensures.ok c.put_answer-in-Split.ensures.err

pub returns-in-Collapse-clause-ends : goal.returns-in-Collapse-clause-ends
returns-in-Collapse-clause-ends g c =
    replied _ _ _ _ _ c.put_answer-in-Collapse.result _ _ _
    (deed_collapse _ _ _ _ _ _ _ c.in-Collapse.k c.collapse.result (sym c.command.ensures
    ∙ c.in-Collapse.is) (omega arith) c.collapse.ensures.answer c.collapse.ensures.after
    (ap (λ (marks : List Bool). set_of marks) c.collapse.ensures.same.2) c.collapse.ensures.same.3)
    refl
    c.after_reply-in-Collapse.ensures.ok c.after_reply-in-Collapse.ensures.err
    c.put_answer-in-Collapse.ensures.ok c.put_answer-in-Collapse.ensures.err

pub returns-in-Split-2-clause-ends : goal.returns-in-Split-2-clause-ends
returns-in-Split-2-clause-ends g c =
    named_none _ _ _
    (deed_no_split _ _ _ _ c.in-Split.k (sym c.command.ensures ∙ c.in-Split.is) (omega arith))

pub returns-in-Split-2-2-clause-ends : goal.returns-in-Split-2-2-clause-ends
returns-in-Split-2-2-clause-ends g c =
    named_none _ _ _
    (deed_no_collapse _ _ _ _ c.in-Collapse.k (sym c.command.ensures ∙ c.in-Collapse.is)
    (omega arith))

pub returns-in-Look-clause-ends : goal.returns-in-Look-clause-ends
returns-in-Look-clause-ends g c =
    replied _ _ _ _ _ c.put_adapted.result _ _ _
    (deed_look _ _ _ _ _ _ _ c.in-Look.view c.look.result (sym c.command.ensures
    ∙ c.in-Look.is) c.look.ensures.answer c.look.ensures.after
    (ap (λ (marks : List Bool). set_of marks) c.look.ensures.same.2) c.look.ensures.same.3) refl
    c.after_reply-in-Look.ensures.ok c.after_reply-in-Look.ensures.err c.put_adapted.ensures.ok
    c.put_adapted.ensures.err

pub returns-in-Pick-clause-ends : goal.returns-in-Pick-clause-ends
returns-in-Pick-clause-ends g c =
    replied _ _ _ _ _ c.put_pick.result _ _ _
    (deed_pick _ _ _ _ c.in-Pick.ray c.pick.result (sym c.command.ensures ∙ c.in-Pick.is)
    c.pick.ensures) refl
    c.after_reply-in-Pick.ensures.ok c.after_reply-in-Pick.ensures.err c.put_pick.ensures.ok
    c.put_pick.ensures.err

pub returns-in-Measure-clause-ends : goal.returns-in-Measure-clause-ends
returns-in-Measure-clause-ends g c =
    replied _ _ _ _ _ c.measure.result _ _ _
    (deed_measure _ _ _ _ (sym c.command.ensures ∙ c.in-Measure.is))
    (ap state_of c.measure.ensures.same)
    c.after_reply-in-Measure.ensures.ok c.after_reply-in-Measure.ensures.err
    c.measure.ensures.puts.ok c.measure.ensures.puts.err

pub returns-in-Strip-clause-ends : goal.returns-in-Strip-clause-ends
returns-in-Strip-clause-ends g c =
    replied _ _ _ _ _ c.strip.result _ _ _
    (deed_strip _ _ _ _ (sym c.command.ensures ∙ c.in-Strip.is))
    (ap state_of c.strip.ensures.same)
    c.after_reply-in-Strip.ensures.ok c.after_reply-in-Strip.ensures.err c.strip.ensures.puts.ok
    c.strip.ensures.puts.err

pub returns-in-Level-clause-ends : goal.returns-in-Level-clause-ends
returns-in-Level-clause-ends g c =
    replied _ _ _ _ _ c.tell_level.result _ _ _
    (deed_level _ _ _ _ (sym c.command.ensures ∙ c.in-Level.is)) refl
    c.after_reply-in-Level.ensures.ok c.after_reply-in-Level.ensures.err c.tell_level.ensures.ok
    c.tell_level.ensures.err

pub returns-in-Change-clause-ends : goal.returns-in-Change-clause-ends
returns-in-Change-clause-ends g c =
    replied _ _ _ _ _ c.tell_change.result _ _ _
    (deed_change _ _ _ _ _ _ _ (sym c.command.ensures ∙ c.in-Change.is)
    (ap (λ (flags : List Bool). set_of flags) c.tell_change.ensures.same.2)
    c.tell_change.ensures.marked c.tell_change.ensures.same.3) refl
    c.after_reply-in-Change.ensures.ok c.after_reply-in-Change.ensures.err
    c.tell_change.ensures.puts.ok c.tell_change.ensures.puts.err

pub returns-in-Budget-clause-ends : goal.returns-in-Budget-clause-ends
returns-in-Budget-clause-ends g c =
    replied _ _ _ _ _ c.put_answer.result _ _ _
    (deed_budget _ _ _ _ _ _ _ _ (sym c.command.ensures ∙ c.in-Budget.is)
    (ap (λ (flags : List Bool). set_of flags) c.set_budget.ensures.same.2)
    (ap (λ (marks : List Bool). set_of marks) c.set_budget.ensures.same.3)
    c.set_budget.ensures.budget) refl
    c.after_reply-in-Budget.ensures.ok c.after_reply-in-Budget.ensures.err c.put_answer.ensures.ok
    c.put_answer.ensures.err

pub look-requires : goal.look-requires
look-requires g c = looks_by _ _ _ (sym c.command.ensures ∙ c.in-Look.is)

pub tell_level-requires : goal.tell_level-requires
tell_level-requires g c = level_in _ _ (sym c.command.ensures ∙ c.in-Level.is)
