-- The laws of first records, each from the lemmas on its subject.
use Rattle.pm_prefix.proofs.Nodes.{nodes_of_shape}
use Rattle.pm_prefix.proofs.FirstFronts.{keeps_ancestor, front_of-first}
use Rattle.pm_prefix.proofs.FirstFrames.{same_frame}
use Rattle.pm_prefix.proofs.Whole.{of_the_whole}
use Rattle.pm_prefix.proofs.Shape.{first_records_have_shape}
use Rattle.pm_prefix.proofs.theory.first_records_are_sound.Goals as goal

pub returns-clause-shape : goal.returns-clause-shape
returns-clause-shape c = first_records_have_shape

pub returns-clause-frames : goal.returns-clause-frames
returns-clause-frames c =
    λ h shape n l T among front. (
      front_of-first h (nodes_of_shape h shape) n l T among front,
      same_frame h shape n l T among front,
    )

pub returns-clause-ancestors : goal.returns-clause-ancestors
returns-clause-ancestors c =
    λ h shape n l T among x lt. keeps_ancestor h (nodes_of_shape h shape) n l T among x lt

pub returns-clause-whole : goal.returns-clause-whole
returns-clause-whole c = of_the_whole
