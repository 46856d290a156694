use Rattle.std.proofs.Common.{◌∙◌, ◌+◌, drop, get_or, refl, ap, arith}
use Rattle.std.proofs.lemmas.Bool.{eq-eqb}
use Rattle.pm_links.specs.Lists.{list_of, first_of, after}
use Rattle.pm_links.proofs.Members.{has_head}
use Rattle.pm_forest.specs.Forest.{s_of}
use Rattle.pm_front.proofs.DealtCorners.{next_of_first, deals_one}
use Rattle.pm_front.proofs.dealing.deal_these.Goals as goal

pub deal_one-requires-clause-corner : goal.deal_one-requires-clause-corner
deal_one-requires-clause-corner c =
    let s = s_of c.args.h.now c.args.k in
    let i = c.loop-corner.invariant in
    let x = get_or c.args.these.now c.loop-corner.corner-index 0 in
    let left = next_of_first c.args.these.now (list_of c.args.corners.now s)
    (list_of c.loop-corner.corners s) c.loop-corner.corner-index c.requires.first
    c.loop-corner-test.true i.rest in
    let low = i.sound.in_range s x
    (rw left (has_head x
    (drop (c.loop-corner.corner-index + 1) (list_of c.args.corners.now s)))) in
    omega (arith, low, i.items, c.requires.items)

pub deal_one-requires-clause-held : goal.deal_one-requires-clause-held
deal_one-requires-clause-held c =
    let s = s_of c.args.h.now c.args.k in
    let x = get_or c.args.these.now c.loop-corner.corner-index 0 in
    let left = next_of_first c.args.these.now (list_of c.args.corners.now s)
    (list_of c.loop-corner.corners s) c.loop-corner.corner-index c.requires.first
    c.loop-corner-test.true c.loop-corner.invariant.rest in
    (s, rw left (has_head x (drop (c.loop-corner.corner-index + 1) (list_of c.args.corners.now s))))

pub loop-corner-preserved : goal.loop-corner-preserved
loop-corner-preserved c =
    let h = c.args.h.now in
    let s = s_of h c.args.k in
    let v = c.loop-corner.corners in
    let i = c.loop-corner.invariant in
    let x = get_or c.args.these.now c.loop-corner.corner-index 0 in
    let left = next_of_first c.args.these.now (list_of c.args.corners.now s) (list_of v s)
    c.loop-corner.corner-index c.requires.first c.loop-corner-test.true i.rest in
    let child = c.children.ensures in
    let d = deals_one h c.invariant.ensures c.args.k c.requires.record v c.deal_one.new.corners
    c.children.result.0.0 c.children.result.1.0 x child.t child.u child.nodes i.sound
    (i.heads ∙ c.requires.heads) (ap first_of left) c.deal_one.ensures.lists in
    record {
      items = d.items ∙ i.items;
      heads = d.heads ∙ i.heads;
      rest = d.rest ∙ ap (after x) left ∙ rw (eq-eqb x x refl) refl;
      dealt = λ g. d.lists g ∙ i.dealt g;
      sound = c.deal_one.ensures.sound;
    }
