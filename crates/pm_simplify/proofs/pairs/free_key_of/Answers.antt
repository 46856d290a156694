use Rattle.std.proofs.Common.{◌∙◌, ℕ, ◌||◌, Bool, sym, ap}
use Rattle.pm_simplify.proofs.PairLaws.{none_due, barred_due, key_due}
use Rattle.pm_simplify.proofs.pairs.free_key_of.Goals as goal

pub returns-then-has_kept : goal.returns-then-has_kept
returns-then-has_kept g c = λ p m log on.
    let a = c.ends-a.result.0 in
    let b = c.ends-a.result.1 in
    none_due p m log c.args.shrink.now on.after c.args.side.0 a b c.ends-a.ensures.links
    c.ends-a.ensures.ordered
    (ap (λ (f : ℕ → Bool). f a || f b) on.kept ∙ sym c.has_kept.ensures ∙ c.if-has_kept.true)

pub returns-then-is_barred : goal.returns-then-is_barred
returns-then-is_barred g c = λ p m log on.
    barred_due p m log c.args.shrink.now on.after c.args.side.0 c.ends-a.result.0
    c.ends-a.result.1 c.ends-a.ensures.links c.ends-a.ensures.ordered
    (c.is_barred.ensures c.if-is_barred.true)

pub best-cost-requires-clause-known : goal.best-cost-requires-clause-known
best-cost-requires-clause-known g c =
    let (p, m, log, on) = c.requires.known in
    (p, m, log, on.after, on.costs)

pub returns : goal.returns
returns g c = λ p m log on.
    let a = c.ends-a.result.0 in
    let b = c.ends-a.result.1 in
    key_due p m log c.args.shrink.now on.after c.args.side.0 a b c.best-cost.result.1
    c.ends-a.ensures.links c.ends-a.ensures.ordered
    (c.best-cost.ensures.cost p m log on.after on.costs)
    (ap (λ (f : ℕ → Bool). f a || f b) on.kept ∙ sym c.has_kept.ensures ∙ c.if-has_kept.false)
