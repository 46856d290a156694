use Rattle.std.proofs.Common.{length, subst, ◌∙◌, arith}
use Rattle.pm_buffers.specs.Buffers.{Buffer}
use Rattle.pm_buffers.specs.Steps.{AreWrittenSoFar}
use Rattle.pm_buffers.proofs.ChangeLaws.{changed, written}
use Rattle.pm_buffers.proofs.slots.Slots.change.Goals as goal

pub returns-clause-shown : goal.returns-clause-shown
returns-clause-shown c =
    let done = subst (λ (b : Buffer). AreWrittenSoFar b.entries c.args.gone.now c.args.put.now
    c.change.new.self.entries c.change.new.writes c.write_count-count.result
    (length c.args.gone.now))
    (c.self.view_is ∙ c.is_change.ensures.unchanged) c.change.ensures.written in
    changed _ _ _ (c.is_change.ensures.yes c.if-not-is_change.false)
    c.is_change.ensures.sound.few _ _ _ _ done
    (omega (arith, c.write_count-count.ensures.count)) (omega arith)

pub returns-clause-kept : goal.returns-clause-kept
returns-clause-kept c =
    let done = subst (λ (b : Buffer). AreWrittenSoFar b.entries c.args.gone.now c.args.put.now
    c.change.new.self.entries c.change.new.writes c.write_count-count.result
    (length c.args.gone.now))
    (c.self.view_is ∙ c.is_change.ensures.unchanged) c.change.ensures.written in
    done.kept

pub returns-clause-written : goal.returns-clause-written
returns-clause-written c =
    let done = subst (λ (b : Buffer). AreWrittenSoFar b.entries c.args.gone.now c.args.put.now
    c.change.new.self.entries c.change.new.writes c.write_count-count.result
    (length c.args.gone.now))
    (c.self.view_is ∙ c.is_change.ensures.unchanged) c.change.ensures.written in
    written _ _ _ (c.is_change.ensures.yes c.if-not-is_change.false)
    c.is_change.ensures.sound.few _ _ _ _ done
    (omega (arith, c.write_count-count.ensures.count)) (omega arith)
    (omega (arith, c.change.ensures.len, c.if-count-writes.false)) c.change.ensures.sound.once
