-- The steps of a change, added up.
use Rattle.std.proofs.Common.{◌≡◌, ℕ, ◌+◌, ◌*◌, ◌≤◌, Bool, length, filter, sym, ◌∙◌, arith}
use Rattle.pm_base.specs.Counts.{count, numbers_below}
use Rattle.pm_forest.specs.Forest.{Hierarchy, node_count, record_count}
use Rattle.pm_forest.specs.Fronts.{IsFront}
use Rattle.pm_forest.specs.Faces.{face_count}
use Rattle.pm_forest.specs.Rules.{HasShape}
use Rattle.pm_beyond.specs.Plans.{differs}
use Rattle.pm_morph.specs.Laws.{shown_face_at}
use Rattle.pm_change.specs.Shown.{shown_node_at}
use Rattle.pm_change.specs.Changes.{is_gone_face, is_gone_node, is_new_node, is_put, gone_faces}
use Rattle.pm_change.specs.Changes.{gone_nodes, new_nodes}
use Rattle.pm_change.specs.Laws.{new_corners}
use Rattle.pm_change.specs.Costs.{most_steps}
use Rattle.pm_change.specs.Gathering.{AreSetsOf, sizes_of}
use Rattle.pm_change.specs.declared.sets.ChangeSets.{ChangeSets}
use Rattle.pm_change.proofs.Counting.{length-map}
use Rattle.pm_change.proofs.Sizes.{nodes_few, faces_few}
use Rattle.pm_change.proofs.NewLaws.{puts_few}
use Rattle.pm_change.proofs.TellLaws.{just_size}

module _ (h : Hierarchy) (shape : HasShape h) (S G : ℕ → Bool) (before : IsFront h S)
    (now : IsFront h G) (s : ChangeSets) (are : AreSetsOf h S G s) where
  pub sizes_few : sizes_of s ≤ 5 * count (differs S G) (record_count h) + length
      (new_corners h S G)
  sizes_few =
      let a : _ ≡ length (gone_faces h S G) = just_size (is_gone_face h S G) (face_count h)
      s.gone_faces are.gone_faces in
      let b : _ ≡ length (gone_nodes h S G) = just_size (is_gone_node h S G) (node_count h)
      s.gone_nodes are.gone_nodes in
      let c = just_size (is_new_node h S G) (node_count h) s.new_nodes are.new_nodes
      ∙ sym (length-map (shown_node_at h)
      (filter (is_new_node h S G) (numbers_below (node_count h)))) in
      let d = just_size (is_put h S G) (face_count h) s.put_faces are.put_faces
      ∙ sym (length-map (shown_face_at h G)
      (filter (is_put h S G) (numbers_below (face_count h)))) in
      let nodes = nodes_few h S G in
      let faces = faces_few h shape S G before now in
      let puts = puts_few h shape S G before now in
      omega arith

  -- Gathering, telling and clearing come to this.
  pub steps_few : (start gathered told cleared : ℕ)
      → gathered ≤ start + record_count h + 26 * count (differs S G) (record_count h) + length
      (new_nodes h S G) + length (new_corners h S G)
      → told ≤ gathered + sizes_of s → cleared ≤ told + sizes_of s
      → cleared ≤ start + most_steps h S G
  steps_few start gathered told cleared a b c =
      let sizes = sizes_few in
      let nodes = nodes_few h S G in
      omega arith
