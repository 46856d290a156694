use Rattle.std.proofs.Common.{◌≡◌, ◌+◌, ◌*◌, arith, ap, ◌∙◌}
use Rattle.pm_forest.specs.Forest.{t_of, u_of, interval_of}
use Rattle.pm_prefix.specs.Prefix.{width_in, input_in}
use Rattle.pm_prefix.specs.Tables.{whole}
use Rattle.pm_prefix.proofs.PrefixLaws.{few_nodes, head_parts}
use Rattle.pm_prefix.proofs.units.Prefix.head.Goals as goal

pub overflow_mul-t : goal.overflow_mul-t
overflow_mul-t c =
    omega (arith, few_nodes c.args.self.now c.requires.prefix, c.requires.prefix.few)

pub overflow_add-t : goal.overflow_add-t
overflow_add-t c =
    omega (arith, few_nodes c.args.self.now c.requires.prefix, c.requires.prefix.few)

pub overflow_add-u : goal.overflow_add-u
overflow_add-u c =
    omega (arith, few_nodes c.args.self.now c.requires.prefix, c.requires.prefix.few)

pub returns : goal.returns
returns c =
    let h = whole c.args.self.now in
    let n = c.args.self.now.n in
    let t : c.roots.result + 2 * c.args.k ≡ t_of h c.args.k =
    omega (arith, c.roots.ensures.value) in
    let u : c.roots.result + 2 * c.args.k + 1 ≡ u_of h c.args.k =
    omega (arith, c.roots.ensures.value) in
    head_parts h n c.args.k c.record-split.ensures
    (c.width.ensures ∙ ap (λ v. width_in h n (interval_of h v)) t) c.coordinates.ensures
    (c.input.ensures ∙ ap (λ v. input_in h n (interval_of h v)) t) c.coordinates-2.ensures
    (c.input-2.ensures ∙ ap (λ v. input_in h n (interval_of h v)) u) c.presence.ensures
