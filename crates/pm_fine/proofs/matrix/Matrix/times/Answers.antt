use Rattle.std.proofs.Common.{◌≡◌, to_z, of_z, refl, rules}
use mir.Syntax.{w128}
use Rattle.pm_fine.specs.declared.matrix.Matrix.{Matrix}
use Rattle.pm_fine.specs.declared.matrix.Vector.{Vector}
use Rattle.pm_fine.specs.Fourth.{times_of}
use Rattle.pm_fine.proofs.Products.{entry_small, row_is}
use Rattle.pm_fine.proofs.matrix.Matrix.times.Goals as goal

pub row-requires : goal.row-requires
row-requires c = record {
  first = entry_small c.args.self.now.xx c.args.u.now.x c.requires.own.0 c.requires.vector.0;
  second = entry_small c.args.self.now.xy c.args.u.now.y c.requires.own.1 c.requires.vector.1;
  third = entry_small c.args.self.now.xz c.args.u.now.z c.requires.own.2 c.requires.vector.2;
}

pub row-requires-2 : goal.row-requires-2
row-requires-2 c = record {
  first = entry_small c.args.self.now.xy c.args.u.now.x c.requires.own.1 c.requires.vector.0;
  second = entry_small c.args.self.now.yy c.args.u.now.y c.requires.own.3 c.requires.vector.1;
  third = entry_small c.args.self.now.yz c.args.u.now.z c.requires.own.4 c.requires.vector.2;
}

pub row-requires-3 : goal.row-requires-3
row-requires-3 c = record {
  first = entry_small c.args.self.now.xz c.args.u.now.x c.requires.own.2 c.requires.vector.0;
  second = entry_small c.args.self.now.yz c.args.u.now.y c.requires.own.4 c.requires.vector.1;
  third = entry_small c.args.self.now.zz c.args.u.now.z c.requires.own.5 c.requires.vector.2;
}

pub returns : goal.returns
returns c =
    let m : Matrix = c.args.self.now in
    let u : Vector = c.args.u.now in
    let p : Vector = times_of m u in
    let x : to_z w128 (of_z w128 c.row.result) ≡ p.x =
    row_is c.row.result m.xx m.xy m.xz u.x u.y u.z (search rules) c.row.ensures (search rules)
    (search rules) (search rules) in
    let y : to_z w128 (of_z w128 c.row-2.result) ≡ p.y =
    row_is c.row-2.result m.xy m.yy m.yz u.x u.y u.z (search rules) c.row-2.ensures (search rules)
    (search rules) (search rules) in
    let z : to_z w128 (of_z w128 c.row-3.result) ≡ p.z =
    row_is c.row-3.result m.xz m.yz m.zz u.x u.y u.z (search rules) c.row-3.ensures (search rules)
    (search rules) (search rules) in
    rw (x, y, z) refl
