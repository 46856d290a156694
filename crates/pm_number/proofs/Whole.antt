-- The hierarchy of a run numbers it.
use Rattle.std.proofs.Common.{arith}
use Rattle.std.proofs.lemmas.Grind.{common_steps}
use Rattle.pm_number.proofs.LeafNumbers.{forest, held, leaf-there, leaf-back}
use Rattle.pm_number.proofs.NodeNumbers.{node-t, node-u, node-once, node-there, root-count, count}
use Rattle.pm_number.proofs.NodeNumbers.{s-of}
use Rattle.pm_number.proofs.NumberedFaces.{face-left, face-right}
use Rattle.pm_number.proofs.FacePositions.{face-there, face-once, face-back, corner}
use Rattle.pm_number.specs.Numbering.{node_number, leaf_number, face_number, hierarchy_of}
use Rattle.pm_number.specs.Shown.{IsNumbered}
use Rattle.pm_number.specs.Stages.{Run, IsMerging}

pub numbered : (r : Run) → IsMerging r
    → IsNumbered r (hierarchy_of r) (node_number r) (leaf_number r) (face_number r)
numbered r run =
    grind (
      arith,
      common_steps,
      corner,
      count,
      face-back,
      face-left,
      face-once,
      face-right,
      face-there,
      forest,
      held,
      leaf-back,
      leaf-there,
      node-once,
      node-t,
      node-there,
      node-u,
      root-count,
      s-of,
    )
