use Rattle.std.proofs.Common.{w32, w64, FitsSigned, rules}
use Rattle.std.proofs.lemmas.Int.{to_z-of_z}
use Rattle.pm_bounds.proofs.BoxLaws.{min_small, max_small}
use Rattle.pm_deviation.proofs.unit_box.times.Goals as goal

pub product-first-requires-clause-a_small : goal.product-first-requires-clause-a_small
product-first-requires-clause-a_small c =
    let f : FitsSigned w32 c.args.s.now.low = search rules in
    simp to_z-of_z c.requires.s_small.0

pub product-first-requires-clause-m_small : goal.product-first-requires-clause-m_small
product-first-requires-clause-m_small c =
    let f = c.ranges.m in
    simp to_z-of_z c.requires.m_small

pub product-second-requires-clause-a_small : goal.product-second-requires-clause-a_small
product-second-requires-clause-a_small c =
    let f : FitsSigned w32 c.args.s.now.high = search rules in
    simp to_z-of_z c.requires.s_small.1

pub product-second-requires-clause-m_small : goal.product-second-requires-clause-m_small
product-second-requires-clause-m_small c =
    let f = c.ranges.m in
    simp to_z-of_z c.requires.m_small

pub returns-clause-low : goal.returns-clause-low
returns-clause-low c =
    let fm = c.ranges.m in
    let fl : FitsSigned w32 c.args.s.now.low = search rules in
    let fh : FitsSigned w32 c.args.s.now.high = search rules in
    let f1 : FitsSigned w64 c.product-first.result = search rules in
    let f2 : FitsSigned w64 c.product-second.result = search rules in
    let f : FitsSigned w64 c.min.result = search rules in
    simp to_z-of_z
    (rw c.min.ensures.value
    (simp to_z-of_z
    (rw (c.product-first.ensures.value, c.product-second.ensures.value) (simp to_z-of_z))))

pub returns-clause-high : goal.returns-clause-high
returns-clause-high c =
    let fm = c.ranges.m in
    let fl : FitsSigned w32 c.args.s.now.low = search rules in
    let fh : FitsSigned w32 c.args.s.now.high = search rules in
    let f1 : FitsSigned w64 c.product-first.result = search rules in
    let f2 : FitsSigned w64 c.product-second.result = search rules in
    let f : FitsSigned w64 c.max.result = search rules in
    simp to_z-of_z
    (rw c.max.ensures.value
    (simp to_z-of_z
    (rw (c.product-first.ensures.value, c.product-second.ensures.value) (simp to_z-of_z))))

pub returns-clause-low_small : goal.returns-clause-low_small
returns-clause-low_small c =
    let f1 : FitsSigned w64 c.product-first.result = search rules in
    let f2 : FitsSigned w64 c.product-second.result = search rules in
    let f : FitsSigned w64 c.min.result = search rules in
    simp to_z-of_z
    (rw c.min.ensures.value
    (simp to_z-of_z
    (min_small c.product-first.result c.product-second.result 3221127168
    c.product-first.ensures.small c.product-second.ensures.small)))

pub returns-clause-high_small : goal.returns-clause-high_small
returns-clause-high_small c =
    let f1 : FitsSigned w64 c.product-first.result = search rules in
    let f2 : FitsSigned w64 c.product-second.result = search rules in
    let f : FitsSigned w64 c.max.result = search rules in
    simp to_z-of_z
    (rw c.max.ensures.value
    (simp to_z-of_z
    (max_small c.product-first.result c.product-second.result 3221127168
    c.product-first.ensures.small c.product-second.ensures.small)))
