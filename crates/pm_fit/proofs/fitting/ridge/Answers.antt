use Rattle.std.proofs.Common.{◌-◌, ◌^◌, ap, refl, ◌∙◌, lit<, lit≤}
use Rattle.std.proofs.Math.Nat.{le_trans}
use mir.Syntax.{w128}
use Rattle.std.specs.Prelude.{ℤ, pos, ◌+ℤ◌}
use Rattle.std.specs.Int.{int_shr}
use Rattle.pm_base.proofs.ReadBack.{read_is, read_small}
use Rattle.pm_fine.specs.declared.matrix.Matrix.{Matrix}
use Rattle.pm_fit.proofs.ReadLaws.{read_as}
use Rattle.pm_fit.proofs.fitting.ridge.Goals as goal

pub one_more-requires : goal.one_more-requires
one_more-requires c =
    let sum =
    read_small w128 c.add_three.result (2 ^ 122 - 2 ^ 120) c.add_three.ensures.small (lit< tt) in
    let shifted = c.short.ensures.within (2 ^ 111) (le_trans sum (lit≤ tt)) in
    read_small w128 c.short.result (2 ^ 121) (le_trans shifted (lit≤ tt)) (lit< tt)

pub returns-clause-value : goal.returns-clause-value
returns-clause-value c =
    let a : Matrix = c.args.a.now in
    let sum_small =
    read_small w128 c.add_three.result (2 ^ 122 - 2 ^ 120) c.add_three.ensures.small (lit< tt) in
    let shifted = c.short.ensures.within (2 ^ 111) (le_trans sum_small (lit≤ tt)) in
    let sum =
    read_as (2 ^ 122 - 2 ^ 120) _ (a.xx +ℤ a.yy +ℤ a.zz) (lit< tt) c.add_three.ensures.small
    (c.add_three.ensures.value
    ∙ rw (
      read_is w128 a.xx (2 ^ 120) c.requires.0 (lit< tt),
      read_is w128 a.yy (2 ^ 120) c.requires.3 (lit< tt),
      read_is w128 a.zz (2 ^ 120) c.requires.5 (lit< tt),
    ) refl) in
    let cut = read_as (2 ^ 111) _ (int_shr (a.xx +ℤ a.yy +ℤ a.zz) 12) (lit< tt) shifted
    (c.short.ensures.value ∙ ap (λ (z : ℤ). int_shr z 12) sum) in
    read_as (2 ^ 122) _ _ (lit< tt) c.one_more.ensures.small
    (c.one_more.ensures.value ∙ ap (λ (z : ℤ). z +ℤ pos 1) cut)
