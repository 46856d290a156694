use Rattle.std.proofs.Common.{◌^◌, refl, ap, ◌∙◌, lit≤, rules, lit<}
use Rattle.std.proofs.Math.Nat.{le_trans}
use Rattle.std.proofs.lemmas.Int.{to_z-of_z}
use mir.Syntax.{w128}
use Rattle.pm_base.proofs.ReadBack.{read_small}
use Rattle.pm_quadric.proofs.Evaluated.{linear_is}
use Rattle.pm_fine.specs.Fourth.{half}
use Rattle.pm_fine.proofs.Products.{four_are}
use Rattle.pm_fine.proofs.fine_quadric.half_slope.Goals as goal

pub add_four-requires-clause-a_small : goal.add_four-requires-clause-a_small
add_four-requires-clause-a_small c =
    read_small w128 c.linear.result (2 ^ 124) (le_trans c.linear.ensures.small (lit≤ tt)) (lit< tt)

pub add_four-requires-clause-b_small : goal.add_four-requires-clause-b_small
add_four-requires-clause-b_small c =
    read_small w128 c.linear-2.result (2 ^ 124) (le_trans c.linear-2.ensures.small (lit≤ tt))
    (lit< tt)

pub add_four-requires-clause-c_small : goal.add_four-requires-clause-c_small
add_four-requires-clause-c_small c =
    read_small w128 c.linear-3.result (2 ^ 124) (le_trans c.linear-3.ensures.small (lit≤ tt))
    (lit< tt)

pub add_four-requires-clause-d_small : goal.add_four-requires-clause-d_small
add_four-requires-clause-d_small c =
    read_small w128 c.half.result (2 ^ 124)
    (c.half.ensures.within (2 ^ 124)
    (read_small w128 c.args.sum (2 ^ 125) (le_trans c.requires.sum_small (lit≤ tt)) (lit< tt)))
    (lit< tt)

pub returns : goal.returns
returns c =
    let x = linear_is _ _ _ _ _ c.linear.ensures.value c.ranges.a (search rules) refl
    c.x.ensures.value in
    let y = linear_is _ _ _ _ _ c.linear-2.ensures.value c.ranges.b (search rules) refl
    c.y.ensures.value in
    let z = linear_is _ _ _ _ _ c.linear-3.ensures.value c.ranges.c (search rules) refl
    c.z.ensures.value in
    let h = c.half.ensures.value ∙ ap half (to_z-of_z w128 c.args.sum c.ranges.sum) in
    four_are _ _ _ _ _ _ _ _ _ (search rules) c.add_four.ensures (search rules) (search rules)
    (search rules) (search rules) x y z h
