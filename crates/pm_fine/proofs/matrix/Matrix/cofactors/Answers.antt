use Rattle.std.proofs.Common.{◌≡◌, ◌^◌, to_z, of_z, refl, rules, lit<}
use mir.Syntax.{w128}
use Rattle.pm_base.proofs.ReadBack.{read_small}
use Rattle.pm_fine.specs.declared.matrix.Matrix.{Matrix}
use Rattle.pm_fine.specs.Fourth.{cofactors_of}
use Rattle.pm_fine.proofs.matrix.Matrix.cofactors.Goals as goal

pub minor-requires : goal.minor-requires
minor-requires c = record {
  a_small = read_small w128 c.args.self.now.yy (2 ^ 33) c.requires.3 (lit< tt);
  b_small = read_small w128 c.args.self.now.zz (2 ^ 33) c.requires.5 (lit< tt);
  c_small = read_small w128 c.args.self.now.yz (2 ^ 33) c.requires.4 (lit< tt);
  d_small = read_small w128 c.args.self.now.yz (2 ^ 33) c.requires.4 (lit< tt);
}

pub minor-requires-2 : goal.minor-requires-2
minor-requires-2 c = record {
  a_small = read_small w128 c.args.self.now.xz (2 ^ 33) c.requires.2 (lit< tt);
  b_small = read_small w128 c.args.self.now.yz (2 ^ 33) c.requires.4 (lit< tt);
  c_small = read_small w128 c.args.self.now.xy (2 ^ 33) c.requires.1 (lit< tt);
  d_small = read_small w128 c.args.self.now.zz (2 ^ 33) c.requires.5 (lit< tt);
}

pub minor-requires-3 : goal.minor-requires-3
minor-requires-3 c = record {
  a_small = read_small w128 c.args.self.now.xy (2 ^ 33) c.requires.1 (lit< tt);
  b_small = read_small w128 c.args.self.now.yz (2 ^ 33) c.requires.4 (lit< tt);
  c_small = read_small w128 c.args.self.now.xz (2 ^ 33) c.requires.2 (lit< tt);
  d_small = read_small w128 c.args.self.now.yy (2 ^ 33) c.requires.3 (lit< tt);
}

pub minor-requires-4 : goal.minor-requires-4
minor-requires-4 c = record {
  a_small = read_small w128 c.args.self.now.xx (2 ^ 33) c.requires.0 (lit< tt);
  b_small = read_small w128 c.args.self.now.zz (2 ^ 33) c.requires.5 (lit< tt);
  c_small = read_small w128 c.args.self.now.xz (2 ^ 33) c.requires.2 (lit< tt);
  d_small = read_small w128 c.args.self.now.xz (2 ^ 33) c.requires.2 (lit< tt);
}

pub minor-requires-5 : goal.minor-requires-5
minor-requires-5 c = record {
  a_small = read_small w128 c.args.self.now.xy (2 ^ 33) c.requires.1 (lit< tt);
  b_small = read_small w128 c.args.self.now.xz (2 ^ 33) c.requires.2 (lit< tt);
  c_small = read_small w128 c.args.self.now.xx (2 ^ 33) c.requires.0 (lit< tt);
  d_small = read_small w128 c.args.self.now.yz (2 ^ 33) c.requires.4 (lit< tt);
}

pub minor-requires-6 : goal.minor-requires-6
minor-requires-6 c = record {
  a_small = read_small w128 c.args.self.now.xx (2 ^ 33) c.requires.0 (lit< tt);
  b_small = read_small w128 c.args.self.now.yy (2 ^ 33) c.requires.3 (lit< tt);
  c_small = read_small w128 c.args.self.now.xy (2 ^ 33) c.requires.1 (lit< tt);
  d_small = read_small w128 c.args.self.now.xy (2 ^ 33) c.requires.1 (lit< tt);
}

pub returns-clause-value : goal.returns-clause-value
returns-clause-value c =
    let k : Matrix = cofactors_of c.args.self.now in
    let xx : to_z w128 (of_z w128 c.minor.result) ≡ k.xx = search rules in
    let xy : to_z w128 (of_z w128 c.minor-2.result) ≡ k.xy = search rules in
    let xz : to_z w128 (of_z w128 c.minor-3.result) ≡ k.xz = search rules in
    let yy : to_z w128 (of_z w128 c.minor-4.result) ≡ k.yy = search rules in
    let yz : to_z w128 (of_z w128 c.minor-5.result) ≡ k.yz = search rules in
    let zz : to_z w128 (of_z w128 c.minor-6.result) ≡ k.zz = search rules in
    rw (xx, xy, xz, yy, yz, zz) refl

pub returns-clause-small : goal.returns-clause-small
returns-clause-small c = (
  read_small w128 c.minor.result (2 ^ 67) c.minor.ensures.small (lit< tt),
  read_small w128 c.minor-2.result (2 ^ 67) c.minor-2.ensures.small (lit< tt),
  read_small w128 c.minor-3.result (2 ^ 67) c.minor-3.ensures.small (lit< tt),
  read_small w128 c.minor-4.result (2 ^ 67) c.minor-4.ensures.small (lit< tt),
  read_small w128 c.minor-5.result (2 ^ 67) c.minor-5.ensures.small (lit< tt),
  read_small w128 c.minor-6.result (2 ^ 67) c.minor-6.ensures.small (lit< tt),
)
