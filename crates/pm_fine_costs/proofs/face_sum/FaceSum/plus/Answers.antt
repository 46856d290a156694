use Rattle.std.proofs.Common.{◌≡◌, ◌^◌, to_z, of_z, refl, lit≤, lit<, rules}
use Rattle.std.proofs.Math.Nat.{le_trans}
use mir.Syntax.{w128}
use Rattle.pm_base.proofs.ReadBack.{read_small}
use Rattle.pm_fine_costs.specs.declared.face_sum.FaceSum.{FaceSum}
use Rattle.pm_fine_costs.specs.Volumes.{plus_faces}
use Rattle.pm_fine_costs.proofs.face_sum.FaceSum.plus.Goals as goal

pub sum-requires : goal.sum-requires
sum-requires c =
    let f : FaceSum = c.args.self.now in
    let g : FaceSum = c.args.other.now in
    let h = c.requires.first in
    let j = c.requires.second in
    record {
      a_small = read_small w128 f.x (2 ^ 80) (le_trans h.x (lit≤ tt)) (lit< tt);
      b_small = read_small w128 g.x (2 ^ 80) (le_trans j.x (lit≤ tt)) (lit< tt);
    }

pub sum-requires-2 : goal.sum-requires-2
sum-requires-2 c =
    let f : FaceSum = c.args.self.now in
    let g : FaceSum = c.args.other.now in
    let h = c.requires.first in
    let j = c.requires.second in
    record {
      a_small = read_small w128 f.y (2 ^ 80) (le_trans h.y (lit≤ tt)) (lit< tt);
      b_small = read_small w128 g.y (2 ^ 80) (le_trans j.y (lit≤ tt)) (lit< tt);
    }

pub sum-requires-3 : goal.sum-requires-3
sum-requires-3 c =
    let f : FaceSum = c.args.self.now in
    let g : FaceSum = c.args.other.now in
    let h = c.requires.first in
    let j = c.requires.second in
    record {
      a_small = read_small w128 f.z (2 ^ 80) (le_trans h.z (lit≤ tt)) (lit< tt);
      b_small = read_small w128 g.z (2 ^ 80) (le_trans j.z (lit≤ tt)) (lit< tt);
    }

pub sum-requires-4 : goal.sum-requires-4
sum-requires-4 c =
    let f : FaceSum = c.args.self.now in
    let g : FaceSum = c.args.other.now in
    let h = c.requires.first in
    let j = c.requires.second in
    record {
      a_small = read_small w128 f.volume (2 ^ 80) (le_trans h.volume (lit≤ tt)) (lit< tt);
      b_small = read_small w128 g.volume (2 ^ 80) (le_trans j.volume (lit≤ tt)) (lit< tt);
    }

pub returns : goal.returns
returns c =
    let f : FaceSum = plus_faces c.args.self.now c.args.other.now in
    let x : to_z w128 (of_z w128 c.sum.result) ≡ f.x = search rules in
    let y : to_z w128 (of_z w128 c.sum-2.result) ≡ f.y = search rules in
    let z : to_z w128 (of_z w128 c.sum-3.result) ≡ f.z = search rules in
    let volume : to_z w128 (of_z w128 c.sum-4.result) ≡ f.volume = search rules in
    rw (x, y, z, volume) refl
