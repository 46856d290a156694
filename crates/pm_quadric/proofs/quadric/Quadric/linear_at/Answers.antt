use Rattle.std.proofs.Common.{◌^◌, ap, rules, lit<}
use Rattle.pm_quadric.specs.Sums.{Sums}
use mir.Syntax.{w128}
use Rattle.pm_base.proofs.ReadBack.{read_small}
use Rattle.pm_quadric.proofs.Evaluated.{linear_is, three_are}
use Rattle.pm_quadric.proofs.quadric.Quadric.linear_at.Goals as goal

pub add_three-requires-clause-a_small : goal.add_three-requires-clause-a_small
add_three-requires-clause-a_small c =
    read_small w128 c.linear.result (2 ^ 122) c.linear.ensures.small (lit< tt)

pub add_three-requires-clause-b_small : goal.add_three-requires-clause-b_small
add_three-requires-clause-b_small c =
    read_small w128 c.linear-2.result (2 ^ 122) c.linear-2.ensures.small (lit< tt)

pub add_three-requires-clause-c_small : goal.add_three-requires-clause-c_small
add_three-requires-clause-c_small c =
    read_small w128 c.linear-3.result (2 ^ 122) c.linear-3.ensures.small (lit< tt)

pub returns-clause-value : goal.returns-clause-value
returns-clause-value c =
    let v = c.self.view_is in
    let x = c.x.ensures.value in
    let y = c.y.ensures.value in
    let z = c.z.ensures.value in
    let first = linear_is _ _ _ _ _ c.linear.ensures.value (search rules) (search rules)
    (ap (λ (s : Sums). s.x) v) x in
    let second = linear_is _ _ _ _ _ c.linear-2.ensures.value (search rules) (search rules)
    (ap (λ (s : Sums). s.y) v) y in
    let third = linear_is _ _ _ _ _ c.linear-3.ensures.value (search rules) (search rules)
    (ap (λ (s : Sums). s.z) v) z in
    three_are _ _ _ _ _ _ _ (search rules) c.add_three.ensures.value (search rules) (search rules)
    (search rules) first second third
