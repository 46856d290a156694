use Rattle.std.proofs.Common.{◌≡◌, ◌≤◌, length, arith}
use Rattle.std.proofs.lemmas.Grind.{common_steps}
use Rattle.vdpm_c.proofs.LookingLaws.{told_over, told_all}
use Rattle.vdpm_c.proofs.looking.planes_of.Goals as goal

pub returns-then-is_full-clause-none : goal.returns-then-is_full-clause-none
returns-then-is_full-clause-none c ps e good few =
    let rest = c.loop-rest.rest.now in
    let planes = c.loop-rest.planes.items in
    let full : 6 ≤ length planes = grind (arith, common_steps) in
    let some : 1 ≤ length rest = grind (arith, common_steps) in
    told_over c.args.numbers.now planes rest c.loop-rest.invariant full some ps e few

pub returns-clause-some : goal.returns-clause-some
returns-clause-some c =
    let rest = c.loop-rest.rest.now in
    let none : length rest ≡ 0 = grind (arith, common_steps) in
    told_all c.args.numbers.now c.loop-rest.planes.items rest c.loop-rest.invariant none
