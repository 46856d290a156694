use Rattle.std.proofs.Common.{refl, rules}
use Rattle.pm_forest.proofs.GrowingLaws.{started}
use Rattle.pm_forest.proofs.growing.Growing.new.Goals as goal

pub invariant_of-result : goal.invariant_of-result
invariant_of-result c = started _ c.requires (record {
  no_roots = c.in_ok-list_with_room.ensures.items;
  root_room = c.in_ok-list_with_room.ensures.room;
  no_bases = c.in_ok-list_with_room-2.ensures.items;
  base_room = c.in_ok-list_with_room-2.ensures.room;
  no_records = c.in_ok-list_with_room-3.ensures.items;
  record_room = c.in_ok-list_with_room-3.ensures.room;
  no_coming = refl;
  no_owners = c.in_ok-list_with_room-4.ensures.items;
  owner_room = c.in_ok-list_with_room-4.ensures.room;
  no_faces = c.in_ok-list_with_room-5.ensures.items;
  face_room = search rules;
  no_revealed = c.in_ok-list_with_room-6.ensures.items;
  revealed_room = search rules;
  intervals = c.in_ok-no_intervals.ensures;
  splitters = c.in_ok-no_splitters.ensures;
  leaf_nodes = c.in_ok-no_nodes.ensures;
})
