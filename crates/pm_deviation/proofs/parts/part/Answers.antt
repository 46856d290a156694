use Rattle.std.proofs.Common.{ap, ◌∙◌}
use Rattle.std.proofs.lemmas.Int.{to_z-of_z}
use Rattle.pm_deviation.specs.Normals.{share}
use Rattle.pm_deviation.proofs.RootLaws.{part_below, part_above}
use Rattle.pm_deviation.proofs.parts.part.Goals as goal

pub returns-then-k-lt0-clause-value : goal.returns-then-k-lt0-clause-value
returns-then-k-lt0-clause-value c square short long =
    let fits = c.ranges.k in
    let test = simp to_z-of_z at c.if-k-lt0.true in
    let size = simp to_z-of_z at c.unsigned_abs.ensures.value in
    part_below c.args.k c.args.short c.args.long square c.share-size.result c.mirrored.result test
    (c.share-size.ensures.value ∙ ap (λ n. share n c.args.short c.args.long) size)
    c.mirrored.ensures short long

pub returns-else-k-lt0-clause-value : goal.returns-else-k-lt0-clause-value
returns-else-k-lt0-clause-value c square short long =
    let fits = c.ranges.k in
    let test = simp to_z-of_z at c.if-k-lt0.false in
    let size = simp to_z-of_z at c.unsigned_abs.ensures.value in
    part_above c.args.k c.args.short c.args.long square c.share-size.result test
    (c.share-size.ensures.value ∙ ap (λ n. share n c.args.short c.args.long) size) short long
