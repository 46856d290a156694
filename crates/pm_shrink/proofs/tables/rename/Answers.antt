use Rattle.std.proofs.Common.{◌<◌, ◌*◌, ℕ, length, ap, ◌∙◌}
use Rattle.std.proofs.lemmas.List.Elements.{All-tail}
use Rattle.pm_links.specs.Lists.{list_of}
use Rattle.pm_links.proofs.Walking.{All-in_range}
use Rattle.pm_shrink.specs.Writes.{with_corners}
use Rattle.pm_shrink.proofs.WriteLaws.{length-with_corner}
use Rattle.pm_shrink.proofs.tables.rename.Goals as goal

pub loop-number-init : goal.loop-number-init
loop-number-init c =
    let items_is =
    c.into_iter-number-iterator.ensures.into_iter_gives ∙ c.items-number-items.ensures.items in
    rw items_is (record {
      left = λ i. with_corners c.args.faces.now.faces (list_of c.args.corners.now c.args.from)
          c.args.to;
      across = λ i. c.args.faces.now.across;
      len = λ i. length c.args.faces.now.faces;
      within = All-in_range c.args.corners.now c.args.from (3 * length c.args.faces.now.faces)
          c.items-number-items.ensures.sound c.requires.corners;
    })

pub loop-number-preserved : goal.loop-number-preserved
loop-number-preserved c =
    let i = c.loop-number.invariant in
    let steps = (c.in-Some.ensures {u = tt}).steps in
    let e : ℕ = c.in-Some.number in
    record {
      left = ap (λ k. with_corners k c.next.new.self c.args.to) c.set_corner.ensures.faces
          ∙ rw steps at i.left;
      across = c.set_corner.ensures.across ∙ i.across;
      len = ap length c.set_corner.ensures.faces
          ∙ length-with_corner c.loop-number.faces.faces e c.args.to ∙ i.len;
      within = All-tail (λ k. k < 3 * length c.args.faces.now.faces) e c.next.new.self
          (rw steps at i.within);
    }
