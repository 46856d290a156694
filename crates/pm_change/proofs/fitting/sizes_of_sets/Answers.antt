use Rattle.std.proofs.Common.{sym, ◌∙◌, arith}
use Rattle.pm_base.specs.Counts.{set_of}
use Rattle.pm_morph.specs.Laws.{shown_face_at}
use Rattle.pm_change.specs.Shown.{shown_node_at}
use Rattle.pm_change.specs.Gathering.{numbers_in}
use Rattle.pm_change.proofs.Counting.{length-map}
use Rattle.pm_change.proofs.PartLaws.{nodes_most, faces_most}
use Rattle.pm_change.proofs.fitting.sizes_of_sets.Goals as goal

pub size-requires : goal.size-requires
size-requires c =
    let most = faces_most c.args.front.now.h c.invariant.ensures.valid.shape in
    omega (arith, c.requires.gone_faces)

pub size-requires-2 : goal.size-requires-2
size-requires-2 c =
    let most = nodes_most c.args.front.now.h c.invariant.ensures.valid.shape in
    omega (arith, c.requires.gone_nodes)

pub size-requires-3 : goal.size-requires-3
size-requires-3 c =
    let most = nodes_most c.args.front.now.h c.invariant.ensures.valid.shape in
    omega (arith, c.requires.new_nodes)

pub size-requires-4 : goal.size-requires-4
size-requires-4 c =
    let most = faces_most c.args.front.now.h c.invariant.ensures.valid.shape in
    omega (arith, c.requires.put_faces)

pub returns : goal.returns
returns c =
    let h = c.args.front.now.h in
    let G = set_of c.args.front.now.flags in
    let sets = c.args.sets.now in
    let new = c.size-3.ensures ∙ sym (length-map (shown_node_at h) (numbers_in sets.new_nodes)) in
    let put = c.size-4.ensures ∙ sym (length-map (shown_face_at h G) (numbers_in sets.put_faces)) in
    λ i. record {
      gone_faces = c.size.ensures i;
      gone_nodes = c.size-2.ensures i;
      new_nodes = new i;
      put_faces = put i;
    }
