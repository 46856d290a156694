use Rattle.std.proofs.Common.{◌^◌, ap, rules, lit<}
use Rattle.pm_quadric.specs.Sums.{Sums}
use mir.Syntax.{w128}
use Rattle.pm_base.proofs.ReadBack.{read_small}
use Rattle.pm_quadric.proofs.Evaluated.{quadratic_is, three_are}
use Rattle.pm_fine.proofs.fine_quadric.FineQuadric.squares_at.Goals as goal

pub add_three-requires-clause-a_small : goal.add_three-requires-clause-a_small
add_three-requires-clause-a_small c =
    read_small w128 c.quadratic.result (2 ^ 122) c.quadratic.ensures.small (lit< tt)

pub add_three-requires-clause-b_small : goal.add_three-requires-clause-b_small
add_three-requires-clause-b_small c =
    read_small w128 c.quadratic-2.result (2 ^ 122) c.quadratic-2.ensures.small (lit< tt)

pub add_three-requires-clause-c_small : goal.add_three-requires-clause-c_small
add_three-requires-clause-c_small c =
    read_small w128 c.quadratic-3.result (2 ^ 122) c.quadratic-3.ensures.small (lit< tt)

pub returns-clause-value : goal.returns-clause-value
returns-clause-value c =
    let v = c.self.view_is in
    let x = c.x-x.ensures.value in
    let y = c.y-y.ensures.value in
    let z = c.z-z.ensures.value in
    let first = quadratic_is _ _ _ _ _ _ _ c.quadratic.ensures.value (search rules)
    (search rules) (search rules) (ap (λ (s : Sums). s.xx) v) x x in
    let second = quadratic_is _ _ _ _ _ _ _ c.quadratic-2.ensures.value (search rules)
    (search rules) (search rules) (ap (λ (s : Sums). s.yy) v) y y in
    let third = quadratic_is _ _ _ _ _ _ _ c.quadratic-3.ensures.value (search rules)
    (search rules) (search rules) (ap (λ (s : Sums). s.zz) v) z z in
    three_are _ _ _ _ _ _ _ (search rules) c.add_three.ensures.value (search rules) (search rules)
    (search rules) first second third
