use Rattle.std.proofs.Common.{◌<◌, ◌∙◌, arith}
use Rattle.std.proofs.lemmas.List.{length-set}
use Rattle.pm_forest.specs.Forest.{leaf_count}
use Rattle.pm_forest.specs.Meshes.{leaf_input}
use Rattle.pm_forest.proofs.InputLaws.{some_input, input_most}
use Rattle.pm_forest.proofs.MeshLaws.{numbered_more}
use Rattle.pm_forest.proofs.meshes.leaves_by_input.Goals as goal

pub loop-leaf-preserved : goal.loop-leaf-preserved
loop-leaf-preserved c =
    let h = c.args.h.now in
    let x = c.loop-leaf.leaf in
    let l : x < leaf_count h = omega arith in
    let shape = c.invariant.ensures in
    let table = c.loop-leaf.leaves.items in
    record {
      len = length-set table c.vertex_of.result x ∙ c.loop-leaf.invariant.len;
      each = rw c.vertex_of.ensures.value
          (numbered_more (leaf_input h) x (leaf_count h) table (some_input h shape x l)
          (input_most h shape x l) c.loop-leaf.invariant.len c.loop-leaf.invariant.each);
    }
