use Rattle.std.proofs.Common.{Ok, subst, sym, ◌∙◌, inl, inr, refl}
use Rattle.pm_coder.proofs.UniformLaws.{if_ok, if_err}
use Rattle.pm_pack.specs.Packed.{slots, at_first}
use Rattle.pm_pack.specs.Beginnings.{Reaches}
use Rattle.pm_pack.proofs.EndLaws.{begins, ends}
use Rattle.pm_pack.proofs.BeginningLaws.{part-so_far, whole-part, fail-begun, fail-early, fail-read}
use Rattle.pm_pack.proofs.BeginningLaws.{trailing-early}
use Rattle.pm_pack.proofs.BeginningLaws.{records-begun, records-most, whole-begun}
use Rattle.pm_pack.proofs.beginning.begin_by.Goals as goal

pub returns-in-Err-clause-fail : goal.returns-in-Err-clause-fail
returns-in-Err-clause-fail c = λ code start.
    fail-read code c.read_until.new.text.items c.args.n c.read_until.new.coder
    c.read_until.new.stream c.in-Err.fail (c.in-Err.ensures at_first code
    (begins slots at_first _ code _ _ _ c.requires.first start c.new-text.ensures.items
    c.requires.fresh c.requires.more))

pub returns-in-Ok-Whole-clause-ok : goal.returns-in-Ok-Whole-clause-ok
returns-in-Ok-Whole-clause-ok c = λ code start.
    let r = subst (λ q. Reaches slots at_first code c.args.n c.read_until.new.coder
    c.read_until.new.stream c.read_until.new.text.items (Ok q)) c.in-Ok-Whole.field-0-is
    (c.in-Ok-Whole.ensures at_first code
    (begins slots at_first _ code _ _ _ c.requires.first start c.new-text.ensures.items
    c.requires.fresh c.requires.more)) in
    if_ok c.whole_of.result
    (λ b part. whole-part code c.read_until.new.text.items c.read_until.new.coder
    c.read_until.new.stream c.args.n b r.0 r.1 c.whole_of.ensures.sound
    (ends code c.read_until.new.text.items c.read_until.new.coder r.0
    (sym c.is_at_end.ensures ∙ c.if-is_at_end.true))
    (part c.read_until.new.text.items refl))
    c.whole_of.ensures.ok

pub returns-in-Ok-Whole-clause-fail : goal.returns-in-Ok-Whole-clause-fail
returns-in-Ok-Whole-clause-fail c = λ code start.
    let r = subst (λ q. Reaches slots at_first code c.args.n c.read_until.new.coder
    c.read_until.new.stream c.read_until.new.text.items (Ok q)) c.in-Ok-Whole.field-0-is
    (c.in-Ok-Whole.ensures at_first code
    (begins slots at_first _ code _ _ _ c.requires.first start c.new-text.ensures.items
    c.requires.fresh c.requires.more)) in
    if_err c.whole_of.result
    (λ e early. fail-begun code c.args.n _ e
    (whole-begun c.read_until.new.stream.stage (r.1).whole) early)
    c.whole_of.ensures.fail

pub returns-in-Ok-Whole-2-clause-fail : goal.returns-in-Ok-Whole-2-clause-fail
returns-in-Ok-Whole-2-clause-fail c = λ code start.
    let r = subst (λ q. Reaches slots at_first code c.args.n c.read_until.new.coder
    c.read_until.new.stream c.read_until.new.text.items (Ok q)) c.in-Ok-Whole.field-0-is
    (c.in-Ok-Whole.ensures at_first code
    (begins slots at_first _ code _ _ _ c.requires.first start c.new-text.ensures.items
    c.requires.fresh c.requires.more)) in
    trailing-early code c.read_until.new.text.items c.args.n c.read_until.new.coder r.0 r.2
    (sym c.is_at_end.ensures ∙ c.if-is_at_end.false)

pub returns-in-Ok-Enough-clause-ok : goal.returns-in-Ok-Enough-clause-ok
returns-in-Ok-Enough-clause-ok c = λ code start.
    let (words, fed, has) = subst (λ q. Reaches slots at_first code c.args.n c.read_until.new.coder
    c.read_until.new.stream c.read_until.new.text.items (Ok q)) c.in-Ok-Enough.field-0-is
    (c.in-Ok-Enough.ensures at_first code
    (begins slots at_first _ code _ _ _ c.requires.first start c.new-text.ensures.items
    c.requires.fresh c.requires.more)) in
    if_ok c.part_of.result
    (λ b part. part-so_far code words c.read_until.new.coder c.read_until.new.stream c.args.n b fed
    c.part_of.ensures.sound
    (inl (records-most c.read_until.new.stream.stage c.args.n has)) part)
    c.part_of.ensures.ok

pub returns-in-Ok-Enough-clause-fail : goal.returns-in-Ok-Enough-clause-fail
returns-in-Ok-Enough-clause-fail c = λ code start.
    let (words, fed, has) = subst (λ q. Reaches slots at_first code c.args.n c.read_until.new.coder
    c.read_until.new.stream c.read_until.new.text.items (Ok q)) c.in-Ok-Enough.field-0-is
    (c.in-Ok-Enough.ensures at_first code
    (begins slots at_first _ code _ _ _ c.requires.first start c.new-text.ensures.items
    c.requires.fresh c.requires.more)) in
    if_err c.part_of.result
    (λ e early. fail-begun code c.args.n _ e
    (records-begun c.read_until.new.stream.stage c.args.n has) (λ other. (early other).1))
    c.part_of.ensures.fail

pub returns-in-Ok-Cut-clause-ok : goal.returns-in-Ok-Cut-clause-ok
returns-in-Ok-Cut-clause-ok c = λ code start.
    let cut = subst (λ q. Reaches slots at_first code c.args.n c.read_until.new.coder
    c.read_until.new.stream c.read_until.new.text.items (Ok q)) c.in-Ok-Cut.field-0-is
    (c.in-Ok-Cut.ensures at_first code
    (begins slots at_first _ code _ _ _ c.requires.first start c.new-text.ensures.items
    c.requires.fresh c.requires.more)) in
    if_ok c.part_of-in-Ok-Cut.result
    (λ b part. part-so_far code cut.0.words cut.0.at c.read_until.new.stream c.args.n b cut.1
    c.part_of-in-Ok-Cut.ensures.sound
    (inr cut.0.none) part)
    c.part_of-in-Ok-Cut.ensures.ok

pub returns-in-Ok-Cut-clause-fail : goal.returns-in-Ok-Cut-clause-fail
returns-in-Ok-Cut-clause-fail c = λ code start.
    let cut = subst (λ q. Reaches slots at_first code c.args.n c.read_until.new.coder
    c.read_until.new.stream c.read_until.new.text.items (Ok q)) c.in-Ok-Cut.field-0-is
    (c.in-Ok-Cut.ensures at_first code
    (begins slots at_first _ code _ _ _ c.requires.first start c.new-text.ensures.items
    c.requires.fresh c.requires.more)) in
    if_err c.part_of-in-Ok-Cut.result
    (λ e early. fail-early code c.args.n c.read_until.new.stream e cut
    c.part_of-in-Ok-Cut.ensures.sound early)
    c.part_of-in-Ok-Cut.ensures.fail
