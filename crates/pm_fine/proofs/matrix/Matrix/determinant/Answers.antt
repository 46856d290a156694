use Rattle.std.proofs.Common.{◌≡◌, ◌^◌, to_z, of_z, ap, ◌∙◌, lit≤, rules}
use mir.Syntax.{w128}
use Rattle.pm_fine.specs.declared.matrix.Matrix.{Matrix}
use Rattle.pm_fine.proofs.Products.{read_product}
use Rattle.pm_fine.proofs.CramerBounds.{first_row, determinant_small}
use Rattle.pm_fine.proofs.matrix.Matrix.determinant.Goals as goal

pub row-requires-clause-first : goal.row-requires-clause-first
row-requires-clause-first c =
    read_product c.args.self.now.xx c.args.cofactors.now.xx (2 ^ 33) (2 ^ 67) (2 ^ 122)
    c.requires.own.0 c.requires.small.0 (lit≤ tt) (lit≤ tt) (lit≤ tt)

pub row-requires-clause-second : goal.row-requires-clause-second
row-requires-clause-second c =
    read_product c.args.self.now.xy c.args.cofactors.now.xy (2 ^ 33) (2 ^ 67) (2 ^ 122)
    c.requires.own.1 c.requires.small.1 (lit≤ tt) (lit≤ tt) (lit≤ tt)

pub row-requires-clause-third : goal.row-requires-clause-third
row-requires-clause-third c =
    read_product c.args.self.now.xz c.args.cofactors.now.xz (2 ^ 33) (2 ^ 67) (2 ^ 122)
    c.requires.own.2 c.requires.small.2 (lit≤ tt) (lit≤ tt) (lit≤ tt)

pub returns-clause-value : goal.returns-clause-value
returns-clause-value c =
    let a : Matrix = c.args.self.now in
    let k : Matrix = c.args.cofactors.now in
    let e : to_z w128 (of_z w128 c.row.result) ≡ first_row a k = search rules in
    e ∙ ap (λ (v : Matrix). first_row a v) c.requires.cofactors

pub returns-clause-small : goal.returns-clause-small
returns-clause-small c =
    let a : Matrix = c.args.self.now in
    let k : Matrix = c.args.cofactors.now in
    let e : to_z w128 (of_z w128 c.row.result) ≡ first_row a k = search rules in
    rw e (determinant_small a k c.requires.own c.requires.small)
