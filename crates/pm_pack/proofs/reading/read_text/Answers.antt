use Rattle.std.proofs.Common.{sym, ◌∙◌}
use Rattle.pm_pack.specs.Packed.{slots, at_first}
use Rattle.pm_pack.proofs.EndLaws.{begins, ends, ends-not}
use Rattle.pm_pack.proofs.reading.read_text.Goals as goal

pub returns-in-Err-clause-fail : goal.returns-in-Err-clause-fail
returns-in-Err-clause-fail c = λ code start.
    c.in-Err.ensures at_first code
    (begins slots at_first _ code _ _ _ c.requires.first start c.new-text.ensures.items
    c.requires.fresh c.requires.more)

pub returns-in-Ok-clause-ok : goal.returns-in-Ok-clause-ok
returns-in-Ok-clause-ok c = λ code start.
    ends code c.read_words.new.text.items c.read_words.new.coder
    (c.in-Ok.ensures at_first code
    (begins slots at_first _ code _ _ _ c.requires.first start c.new-text.ensures.items
    c.requires.fresh c.requires.more))
    (sym c.is_at_end.ensures ∙ c.if-is_at_end.true)

pub returns-in-Ok-2-clause-fail : goal.returns-in-Ok-2-clause-fail
returns-in-Ok-2-clause-fail c = λ code start.
    ends-not code c.read_words.new.text.items c.read_words.new.coder
    (c.in-Ok-2.ensures at_first code
    (begins slots at_first _ code _ _ _ c.requires.first start c.new-text.ensures.items
    c.requires.fresh c.requires.more))
    (sym c.is_at_end.ensures ∙ c.if-is_at_end.false)
