use Rattle.std.proofs.Common.{FitsSigned, w64, rules}
use Rattle.std.proofs.lemmas.Int.{to_z-of_z}
use Rattle.pm_deviation.specs.Spreads.{along}
use Rattle.pm_deviation.proofs.unit_box.UnitBox.along.Goals as goal

pub times-low_x-requires-clause-s_small : goal.times-low_x-requires-clause-s_small
times-low_x-requires-clause-s_small c = c.requires.x_small

pub times-low_x-requires-clause-m_small : goal.times-low_x-requires-clause-m_small
times-low_x-requires-clause-m_small c =
    let f = c.ranges.x in
    simp to_z-of_z c.requires.dx_small

pub times-low_y-requires-clause-s_small : goal.times-low_y-requires-clause-s_small
times-low_y-requires-clause-s_small c = c.requires.y_small

pub times-low_y-requires-clause-m_small : goal.times-low_y-requires-clause-m_small
times-low_y-requires-clause-m_small c =
    let f = c.ranges.y in
    simp to_z-of_z c.requires.dy_small

pub times-low_z-requires-clause-s_small : goal.times-low_z-requires-clause-s_small
times-low_z-requires-clause-s_small c = c.requires.z_small

pub times-low_z-requires-clause-m_small : goal.times-low_z-requires-clause-m_small
times-low_z-requires-clause-m_small c =
    let f = c.ranges.z in
    simp to_z-of_z c.requires.dz_small

pub add_three-requires-clause-a_small : goal.add_three-requires-clause-a_small
add_three-requires-clause-a_small c =
    let f : FitsSigned w64 c.times-low_x.result.0 = search rules in
    simp to_z-of_z c.times-low_x.ensures.low_small

pub add_three-requires-clause-b_small : goal.add_three-requires-clause-b_small
add_three-requires-clause-b_small c =
    let f : FitsSigned w64 c.times-low_y.result.0 = search rules in
    simp to_z-of_z c.times-low_y.ensures.low_small

pub add_three-requires-clause-c_small : goal.add_three-requires-clause-c_small
add_three-requires-clause-c_small c =
    let f : FitsSigned w64 c.times-low_z.result.0 = search rules in
    simp to_z-of_z c.times-low_z.ensures.low_small

pub add_three-requires-2-clause-a_small : goal.add_three-requires-2-clause-a_small
add_three-requires-2-clause-a_small c =
    let f : FitsSigned w64 c.times-low_x.result.1 = search rules in
    simp to_z-of_z c.times-low_x.ensures.high_small

pub add_three-requires-2-clause-b_small : goal.add_three-requires-2-clause-b_small
add_three-requires-2-clause-b_small c =
    let f : FitsSigned w64 c.times-low_y.result.1 = search rules in
    simp to_z-of_z c.times-low_y.ensures.high_small

pub add_three-requires-2-clause-c_small : goal.add_three-requires-2-clause-c_small
add_three-requires-2-clause-c_small c =
    let f : FitsSigned w64 c.times-low_z.result.1 = search rules in
    simp to_z-of_z c.times-low_z.ensures.high_small

pub returns-clause-low : goal.returns-clause-low
unfolding along
returns-clause-low c =
    let fx = c.ranges.x in
    let fy = c.ranges.y in
    let fz = c.ranges.z in
    let rx : FitsSigned w64 c.times-low_x.result.0 = search rules in
    let ry : FitsSigned w64 c.times-low_y.result.0 = search rules in
    let rz : FitsSigned w64 c.times-low_z.result.0 = search rules in
    let s : FitsSigned w64 c.add_three.result = search rules in
    simp to_z-of_z
    (rw c.add_three.ensures.value
    (simp to_z-of_z
    (rw (c.times-low_x.ensures.low, c.times-low_y.ensures.low, c.times-low_z.ensures.low)
    (simp to_z-of_z))))

pub returns-clause-high : goal.returns-clause-high
unfolding along
returns-clause-high c =
    let fx = c.ranges.x in
    let fy = c.ranges.y in
    let fz = c.ranges.z in
    let rx : FitsSigned w64 c.times-low_x.result.1 = search rules in
    let ry : FitsSigned w64 c.times-low_y.result.1 = search rules in
    let rz : FitsSigned w64 c.times-low_z.result.1 = search rules in
    let s : FitsSigned w64 c.add_three-2.result = search rules in
    simp to_z-of_z
    (rw c.add_three-2.ensures.value
    (simp to_z-of_z
    (rw (c.times-low_x.ensures.high, c.times-low_y.ensures.high, c.times-low_z.ensures.high)
    (simp to_z-of_z))))

pub returns-clause-low_small : goal.returns-clause-low_small
returns-clause-low_small c =
    let f : FitsSigned w64 c.add_three.result = search rules in
    simp to_z-of_z c.add_three.ensures.small

pub returns-clause-high_small : goal.returns-clause-high_small
returns-clause-high_small c =
    let f : FitsSigned w64 c.add_three-2.result = search rules in
    simp to_z-of_z c.add_three-2.ensures.small
