use Rattle.std.proofs.Common.{◌≡◌, ◌*◌, ◌^◌, true, false, to_z, of_z, refl, subst, lit<, rules}
use Rattle.std.specs.Prelude.{IfSome, IfNone, OnSome}
use mir.Syntax.{w128}
use Rattle.pm_base.specs.Place.{Place, is_place}
use Rattle.pm_base.proofs.ReadBack.{read_small}
use Rattle.pm_fine_costs.specs.declared.face_sum.FaceSum.{FaceSum}
use Rattle.pm_fine_costs.specs.Volumes.{moved_by}
use Rattle.pm_fine_costs.proofs.MovedLaws.{coordinate_is}
use Rattle.pm_fine_costs.proofs.face_sum.FaceSum.moved.Goals as goal

pub moved-x-requires-clause-n_small : goal.moved-x-requires-clause-n_small
moved-x-requires-clause-n_small c =
    read_small w128 c.args.self.now.x (2 ^ 54) c.requires.small.x (lit< tt)

pub moved-x-requires-clause-volume_small : goal.moved-x-requires-clause-volume_small
moved-x-requires-clause-volume_small c =
    read_small w128 c.args.self.now.volume (3 * 2 ^ 70) c.requires.small.volume (lit< tt)

pub moved-y-requires-clause-n_small : goal.moved-y-requires-clause-n_small
moved-y-requires-clause-n_small c =
    read_small w128 c.args.self.now.y (2 ^ 54) c.requires.small.y (lit< tt)

pub moved-y-requires-clause-volume_small : goal.moved-y-requires-clause-volume_small
moved-y-requires-clause-volume_small c =
    read_small w128 c.args.self.now.volume (3 * 2 ^ 70) c.requires.small.volume (lit< tt)

pub moved-z-requires-clause-n_small : goal.moved-z-requires-clause-n_small
moved-z-requires-clause-n_small c =
    read_small w128 c.args.self.now.z (2 ^ 54) c.requires.small.z (lit< tt)

pub moved-z-requires-clause-volume_small : goal.moved-z-requires-clause-volume_small
moved-z-requires-clause-volume_small c =
    read_small w128 c.args.self.now.volume (3 * 2 ^ 70) c.requires.small.volume (lit< tt)

pub returns : goal.returns
returns c =
    let f : FaceSum = c.args.self.now in
    let q : Place = moved_by f c.args.p in
    let x : to_z w128 (of_z w128 c.moved-x.result) ≡ q.x =
    coordinate_is c.moved-x.result c.x.result c.args.p.x f.x f.volume c.args.norm2 _ (search rules)
    (search rules) (search rules) (search rules) c.x.ensures.value c.requires.norm2
    c.moved-x.ensures in
    let y : to_z w128 (of_z w128 c.moved-y.result) ≡ q.y =
    coordinate_is c.moved-y.result c.y.result c.args.p.y f.y f.volume c.args.norm2 _ (search rules)
    (search rules) (search rules) (search rules) c.y.ensures.value c.requires.norm2
    c.moved-y.ensures in
    let z : to_z w128 (of_z w128 c.moved-z.result) ≡ q.z =
    coordinate_is c.moved-z.result c.z.result c.args.p.z f.z f.volume c.args.norm2 _ (search rules)
    (search rules) (search rules) (search rules) c.z.ensures.value c.requires.norm2
    c.moved-z.ensures in
    let r : Place = record {
      x = to_z w128 (of_z w128 c.moved-x.result);
      y = to_z w128 (of_z w128 c.moved-y.result);
      z = to_z w128 (of_z w128 c.moved-z.result);
    } in
    let at : r ≡ q = rw (x, y, z) refl in
    record {
      some =
          subst (λ (k : Place). IfSome c.point.result (λ p. p ≡ k)) at c.point.ensures.some;
      in_range =
          subst (λ (k : Place). OnSome c.point.result (is_place k ≡ true)) at
          c.point.ensures.in_range;
      none =
          subst (λ (k : Place). IfNone c.point.result (is_place k ≡ false)) at
          c.point.ensures.none;
    }
