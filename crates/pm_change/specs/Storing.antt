-- A change whose numbers stand in sets.
use Rattle.std.specs.Prelude.{ℕ, Bool, map}
use Rattle.pm_forest.specs.Forest.{Hierarchy}
use Rattle.pm_morph.specs.Laws.{shown_face_at}
use Rattle.pm_change.specs.Shown.{shown_node_at}
use Rattle.pm_change.specs.Changes.{Change}
use Rattle.pm_change.specs.Gathering.{numbers_in}
use Rattle.pm_change.specs.declared.sets.ChangeSets.{ChangeSets}

-- The change with the numbers of these sets, as front G shows them.
abbrev pub change_in : Hierarchy → (ℕ → Bool) → ChangeSets → Change
change_in h G sets = record {
  gone_faces = numbers_in sets.gone_faces;
  gone_nodes = numbers_in sets.gone_nodes;
  new_nodes = map (shown_node_at h) (numbers_in sets.new_nodes);
  put_faces = map (shown_face_at h G) (numbers_in sets.put_faces);
}
