use Rattle.std.proofs.Common.{◌≡◌, [], ◌∷◌, ◌++◌, ap, ◌∙◌, subst, sym, rules}
use Rattle.pm_ears.specs.declared.spots.Triangle.{Triangle}
use Rattle.pm_ears.specs.Areas.{inside_of}
use Rattle.pm_ears.specs.Counted.{AreCounted}
use Rattle.pm_ears.proofs.Counting.{none_counted, counted_more}
use Rattle.pm_ears.proofs.counted.counts.Goals as goal

pub loop-i-init : goal.loop-i-init
loop-i-init c =
    let none : c.new-inside.result.items ≡ [] = search rules in
    subst (AreCounted c.args.left.now 0) (sym none) (none_counted c.args.left.now)

pub loop-i-preserved : goal.loop-i-preserved
loop-i-preserved c =
    let left = c.args.left.now in
    let old = c.loop-i.inside.items in
    let x = c.count_inside.result in
    let items : c.push.new.self.items ≡ old ++ x ∷ [] = search rules in
    counted_more left c.loop-i.i old c.push.new.self.items x c.loop-i.invariant
    (c.count_inside.ensures.value
    ∙ ap (λ (t : Triangle). inside_of t left) c.triangle_at.ensures)
    items
