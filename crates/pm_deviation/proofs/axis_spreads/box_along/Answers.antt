use Rattle.std.proofs.Common.{◌≡◌, ◌≤◌, ◌∙◌, refl, sym, subst, rules, FitsSigned, w32, w64}
use Rattle.std.specs.Prelude.{ℤ, unsigned_abs}
use Rattle.std.proofs.lemmas.Int.{to_z-of_z}
use Rattle.pm_deviation.specs.Spreads.{along}
use Rattle.pm_deviation.specs.Normals.{direction_of}
use Rattle.pm_deviation.proofs.AxisLaws.{axis_is, along_small, part_in_sum, one_small}
use Rattle.pm_deviation.proofs.WordLaws.{passed_small}
use Rattle.pm_deviation.proofs.axis_spreads.box_along.Goals as goal

pub along-low-requires-clause-x_small : goal.along-low-requires-clause-x_small
along-low-requires-clause-x_small c = part_in_sum c.args.parts.now.x c.requires.small.0

pub along-low-requires-clause-y_small : goal.along-low-requires-clause-y_small
along-low-requires-clause-y_small c = part_in_sum c.args.parts.now.y c.requires.small.1

pub along-low-requires-clause-z_small : goal.along-low-requires-clause-z_small
along-low-requires-clause-z_small c = part_in_sum c.args.parts.now.z c.requires.small.2

pub along-low-requires-clause-dx_small : goal.along-low-requires-clause-dx_small
along-low-requires-clause-dx_small c =
    let u = c.args.axis in
    let f : FitsSigned w32 u.x = search rules in
    let e = simp to_z-of_z at c.from.ensures in
    passed_small w64 c.from.result u.x 65534 (search rules) e
    (one_small u.x (axis_is u c.requires.axis).x)

pub along-low-requires-clause-dy_small : goal.along-low-requires-clause-dy_small
along-low-requires-clause-dy_small c =
    let u = c.args.axis in
    let f : FitsSigned w32 u.y = search rules in
    let e = simp to_z-of_z at c.from-2.ensures in
    passed_small w64 c.from-2.result u.y 65534 (search rules) e
    (one_small u.y (axis_is u c.requires.axis).y)

pub along-low-requires-clause-dz_small : goal.along-low-requires-clause-dz_small
along-low-requires-clause-dz_small c =
    let u = c.args.axis in
    let f : FitsSigned w32 u.z = search rules in
    let e = simp to_z-of_z at c.from-3.ensures in
    passed_small w64 c.from-3.result u.z 65534 (search rules) e
    (one_small u.z (axis_is u c.requires.axis).z)

pub narrow-requires : goal.narrow-requires
narrow-requires c =
    let fx : FitsSigned w64 c.from.result = search rules in
    let fy : FitsSigned w64 c.from-2.result = search rules in
    let fz : FitsSigned w64 c.from-3.result = search rules in
    let ax : FitsSigned w32 c.args.axis.x = search rules in
    let ay : FitsSigned w32 c.args.axis.y = search rules in
    let az : FitsSigned w32 c.args.axis.z = search rules in
    let ex = simp to_z-of_z at c.from.ensures in
    let ey = simp to_z-of_z at c.from-2.ensures in
    let ez = simp to_z-of_z at c.from-3.ensures in
    let fits : FitsSigned w64 c.along-low.result.0 = search rules in
    let low = simp to_z-of_z at c.along-low.ensures.low in
    let is : c.along-low.result.0 ≡ (along c.args.parts.now (direction_of c.args.axis)).low =
    low ∙ (rw (ex, ey, ez) refl) in
    subst (λ (z : ℤ). unsigned_abs z ≤ 49152) (sym (to_z-of_z w64 c.along-low.result.0 fits ∙ is))
    (along_small c.args.parts.now c.args.axis c.requires.small c.requires.axis).0

pub narrow-requires-2 : goal.narrow-requires-2
narrow-requires-2 c =
    let fx : FitsSigned w64 c.from.result = search rules in
    let fy : FitsSigned w64 c.from-2.result = search rules in
    let fz : FitsSigned w64 c.from-3.result = search rules in
    let ax : FitsSigned w32 c.args.axis.x = search rules in
    let ay : FitsSigned w32 c.args.axis.y = search rules in
    let az : FitsSigned w32 c.args.axis.z = search rules in
    let ex = simp to_z-of_z at c.from.ensures in
    let ey = simp to_z-of_z at c.from-2.ensures in
    let ez = simp to_z-of_z at c.from-3.ensures in
    let fits : FitsSigned w64 c.along-low.result.1 = search rules in
    let high = simp to_z-of_z at c.along-low.ensures.high in
    let is : c.along-low.result.1 ≡ (along c.args.parts.now (direction_of c.args.axis)).high =
    high ∙ (rw (ex, ey, ez) refl) in
    subst (λ (z : ℤ). unsigned_abs z ≤ 49152) (sym (to_z-of_z w64 c.along-low.result.1 fits ∙ is))
    (along_small c.args.parts.now c.args.axis c.requires.small c.requires.axis).1

pub returns : goal.returns
returns c =
    let fx : FitsSigned w64 c.from.result = search rules in
    let fy : FitsSigned w64 c.from-2.result = search rules in
    let fz : FitsSigned w64 c.from-3.result = search rules in
    let ax : FitsSigned w32 c.args.axis.x = search rules in
    let ay : FitsSigned w32 c.args.axis.y = search rules in
    let az : FitsSigned w32 c.args.axis.z = search rules in
    let fl : FitsSigned w64 c.along-low.result.0 = search rules in
    let fh : FitsSigned w64 c.along-low.result.1 = search rules in
    let nl : FitsSigned w32 c.narrow.result = search rules in
    let nh : FitsSigned w32 c.narrow-2.result = search rules in
    let ex = simp to_z-of_z at c.from.ensures in
    let ey = simp to_z-of_z at c.from-2.ensures in
    let ez = simp to_z-of_z at c.from-3.ensures in
    let low = simp to_z-of_z at c.along-low.ensures.low in
    let high = simp to_z-of_z at c.along-low.ensures.high in
    let narrow_low = simp to_z-of_z at c.narrow.ensures in
    let narrow_high = simp to_z-of_z at c.narrow-2.ensures in
    simp to_z-of_z (rw (narrow_low, narrow_high, low, high, ex, ey, ez) refl)
