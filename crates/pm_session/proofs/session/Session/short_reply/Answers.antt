use Rattle.std.proofs.Common.{List, ℕ, Bool, arith, sym, ap, ◌∙◌}
use Rattle.pm_base.specs.Counts.{set_of}
use Rattle.pm_session.specs.Script.{Replies}
use Rattle.pm_session.specs.Session.{state_of}
use Rattle.pm_session.proofs.CommandLaws.{looks_by}
use Rattle.pm_session.proofs.Deeds.{deed_split, deed_collapse, deed_look}
use Rattle.pm_session.proofs.Deeds.{deed_no_split, deed_no_collapse, not_replied}
use Rattle.pm_session.proofs.MorphLaws.{deed_mark, deed_budget}
use Rattle.pm_session.proofs.session.Session.short_reply.Goals as goal

pub look-requires : goal.look-requires
look-requires c = looks_by _ _ _ (sym c.command.ensures ∙ c.in-Look.is)

pub returns-in-Split-clause-done : goal.returns-in-Split-clause-done
returns-in-Split-clause-done c = λ is.
    deed_split _ _ _ _ _ _ _ c.in-Split.k c.split.result (sym c.command.ensures
    ∙ c.in-Split.is) (omega arith) c.split.ensures.answer c.split.ensures.after
    (ap (λ (marks : List Bool). set_of marks) c.split.ensures.same.2) c.split.ensures.same.3
    ∙ ap (λ (l : List ℕ). Replies l (state_of c.split.new.self)) (sym c.put_reply.ensures)

pub returns-in-Collapse-clause-done : goal.returns-in-Collapse-clause-done
returns-in-Collapse-clause-done c = λ is.
    deed_collapse _ _ _ _ _ _ _ c.in-Collapse.k c.collapse.result (sym c.command.ensures
    ∙ c.in-Collapse.is) (omega arith) c.collapse.ensures.answer c.collapse.ensures.after
    (ap (λ (marks : List Bool). set_of marks) c.collapse.ensures.same.2) c.collapse.ensures.same.3
    ∙ ap (λ (l : List ℕ). Replies l (state_of c.collapse.new.self))
    (sym c.put_reply-in-Collapse.ensures)

pub returns-in-Look-clause-done : goal.returns-in-Look-clause-done
returns-in-Look-clause-done c = λ is.
    deed_look _ _ _ _ _ _ _ c.in-Look.view c.look.result (sym c.command.ensures
    ∙ c.in-Look.is) c.look.ensures.answer c.look.ensures.after
    (ap (λ (marks : List Bool). set_of marks) c.look.ensures.same.2) c.look.ensures.same.3
    ∙ ap (λ (l : List ℕ). Replies l (state_of c.look.new.self)) (sym c.put_view_reply.ensures)

pub returns-in-Budget-clause-done : goal.returns-in-Budget-clause-done
returns-in-Budget-clause-done c = λ is.
    deed_budget _ _ _ _ _ _ _ _ (sym c.command.ensures ∙ c.in-Budget.is)
    (ap (λ (flags : List Bool). set_of flags) c.set_budget.ensures.same.2)
    (ap (λ (marks : List Bool). set_of marks) c.set_budget.ensures.same.3)
    c.set_budget.ensures.budget
    ∙ ap (λ (l : List ℕ). Replies l (state_of c.set_budget.new.self))
    (sym c.put_reply-in-Budget.ensures)

pub returns-in-Mark-clause-done : goal.returns-in-Mark-clause-done
returns-in-Mark-clause-done c = λ is.
    deed_mark _ _ _ _ _ _ _ (sym c.command.ensures ∙ c.in-Mark.is)
    (ap (λ (flags : List Bool). set_of flags) c.mark.ensures.same.2) c.mark.ensures.marked
    c.mark.ensures.same.3
    ∙ ap (λ (l : List ℕ). Replies l (state_of c.mark.new.self)) (sym c.put_reply-in-Mark.ensures)

pub returns-in_default-clause-other : goal.returns-in_default-clause-other
returns-in_default-clause-other c = λ no held reply s is.
    not_replied _ reply s
    (deed_no_split _ _ _ _ c.in-Split.k (sym c.command.ensures ∙ c.in-Split.is) (omega arith)) is

pub returns-in_default-2-clause-other : goal.returns-in_default-2-clause-other
returns-in_default-2-clause-other c = λ no held reply s is.
    not_replied _ reply s
    (deed_no_collapse _ _ _ _ c.in-Collapse.k (sym c.command.ensures ∙ c.in-Collapse.is)
    (omega arith)) is
