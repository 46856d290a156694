use Rattle.std.proofs.Common.{◌+◌, ◌≤◌, ◌^◌, ◌∙◌, ap, refl, sym, subst, arith, lit≤}
use Rattle.pm_fine.specs.declared.fine_quadric.TheConstants.{MOST_FINE_PLANES}
use Rattle.pm_quadric.specs.Sums.{Sums}
use Rattle.pm_fine.specs.FineSums.{IsFineQuadric}
use Rattle.pm_fine.specs.contracts.fine_quadric.FineQuadric.{the_view}
use Rattle.pm_quadric.proofs.QuadricLaws.{sums_joined}
use Rattle.pm_quadric.proofs.Words.{sum_fits}
use Rattle.pm_fine.proofs.FineLaws.{fine_plus}
use Rattle.pm_fine.proofs.ReadBack.{sums_read-is}
use Rattle.pm_fine.proofs.fine_quadric.FineQuadric.plus.Goals as goal

pub overflow_add-result : goal.overflow_add-result
overflow_add-result c =
    sum_fits (the_view c.self.inside).xx (the_view c.other.inside).xx (2 ^ 80)
    c.self.invariant.small.xx c.other.invariant.small.xx (lit≤ tt)

pub overflow_add-result-2 : goal.overflow_add-result-2
overflow_add-result-2 c =
    sum_fits (the_view c.self.inside).xy (the_view c.other.inside).xy (2 ^ 80)
    c.self.invariant.small.xy c.other.invariant.small.xy (lit≤ tt)

pub overflow_add-result-3 : goal.overflow_add-result-3
overflow_add-result-3 c =
    sum_fits (the_view c.self.inside).xz (the_view c.other.inside).xz (2 ^ 80)
    c.self.invariant.small.xz c.other.invariant.small.xz (lit≤ tt)

pub overflow_add-result-4 : goal.overflow_add-result-4
overflow_add-result-4 c =
    sum_fits (the_view c.self.inside).x (the_view c.other.inside).x (2 ^ 97)
    c.self.invariant.small.x c.other.invariant.small.x (lit≤ tt)

pub overflow_add-result-5 : goal.overflow_add-result-5
overflow_add-result-5 c =
    sum_fits (the_view c.self.inside).yy (the_view c.other.inside).yy (2 ^ 80)
    c.self.invariant.small.yy c.other.invariant.small.yy (lit≤ tt)

pub overflow_add-result-6 : goal.overflow_add-result-6
overflow_add-result-6 c =
    sum_fits (the_view c.self.inside).yz (the_view c.other.inside).yz (2 ^ 80)
    c.self.invariant.small.yz c.other.invariant.small.yz (lit≤ tt)

pub overflow_add-result-7 : goal.overflow_add-result-7
overflow_add-result-7 c =
    sum_fits (the_view c.self.inside).y (the_view c.other.inside).y (2 ^ 97)
    c.self.invariant.small.y c.other.invariant.small.y (lit≤ tt)

pub overflow_add-result-8 : goal.overflow_add-result-8
overflow_add-result-8 c =
    sum_fits (the_view c.self.inside).zz (the_view c.other.inside).zz (2 ^ 80)
    c.self.invariant.small.zz c.other.invariant.small.zz (lit≤ tt)

pub overflow_add-result-9 : goal.overflow_add-result-9
overflow_add-result-9 c =
    sum_fits (the_view c.self.inside).z (the_view c.other.inside).z (2 ^ 97)
    c.self.invariant.small.z c.other.invariant.small.z (lit≤ tt)

pub overflow_add-result-10 : goal.overflow_add-result-10
overflow_add-result-10 c =
    sum_fits (the_view c.self.inside).one (the_view c.other.inside).one (2 ^ 113)
    c.self.invariant.small.one c.other.invariant.small.one (lit≤ tt)

pub overflow_add-result-11 : goal.overflow_add-result-11
overflow_add-result-11 c =
    omega (arith, c.self.invariant.small.count, c.other.invariant.small.count)

pub invariant_of-result : goal.invariant_of-result
invariant_of-result c =
    let s : Sums = the_view c.self.inside in
    let t : Sums = the_view c.other.inside in
    let few : s.count + t.count ≤ MOST_FINE_PLANES =
    omega (
      arith,
      c.requires,
      ap (λ (v : Sums). v.count) c.self.view_is,
      ap (λ (v : Sums). v.count) c.other.view_is,
    ) in
    subst IsFineQuadric
    (sym (sums_read-is s t s t c.self.invariant.small c.other.invariant.small refl refl))
    (fine_plus s t c.self.invariant c.other.invariant few)

pub returns-clause-sums : goal.returns-clause-sums
returns-clause-sums c =
    sums_read-is (the_view c.self.inside) (the_view c.other.inside) c.args.self.now c.args.other.now
    c.self.invariant.small c.other.invariant.small c.self.view_is c.other.view_is

pub returns-clause-lists : goal.returns-clause-lists
returns-clause-lists c fs gs p q =
    returns-clause-sums c ∙ sums_joined c.args.self.now c.args.other.now fs gs p q
