-- A forest that grows goes on being one with each root, base face and record that it takes in.
use Rattle.std.proofs.Common.{◌≡◌, ℕ, ◌+◌, ◌<◌, ◌≤◌, List, [], ◌∷◌, ◌++◌}
use Rattle.std.proofs.Common.{length, sum, get_or, set, replicate, None, Some, Option, is_some, inl}
use Rattle.std.proofs.Common.{inr, refl, ap, ◌∙◌, arith, length-append, length-set}
use Rattle.std.proofs.lemmas.List.{get_or_read, nil_from_length, length_push, length-replicate}
use Rattle.pm_base.specs.Held.{Held}
use Rattle.pm_base.specs.Counts.{one_if}
use Rattle.pm_forest.specs.declared.parts.Root.{Root}
use Rattle.pm_forest.specs.declared.parts.Face.{Face}
use Rattle.pm_forest.specs.declared.parts.Record.{Record}
use Rattle.pm_forest.specs.Forest.{widths_of, root_of, node_count, interval_of, HasForestShape}
use Rattle.pm_forest.specs.Tables.{AreTables, Parts, IsGrowing, owners_from, record_total}
use Rattle.pm_forest.proofs.OwnerLaws.{get_or-owners_from, length-owners_from, owners_from-push}
use Rattle.pm_forest.proofs.SameSplit.{HasForestShape-with_record}
use Rattle.pm_forest.proofs.RootTables.{width_count, widths-push}
use Rattle.pm_forest.proofs.LeafNodes.{interval_of-le, noted, length-noted, Splits}
use Rattle.pm_forest.proofs.GrowingTables.{tables-with_root, tables-with_base, tables-with_record}
use Rattle.pm_forest.proofs.GrowingLaws.{TakesRecord, no_shape, none_coming, seen}

module _ {p : Parts} (s : IsGrowing p) where
  -- a root more
  pub root_added : (roots : Held Root) (owners : Held ℕ) (intervals : List (ℕ × ℕ))
      (leaf_nodes : List ℕ) (r : Root) (node from : ℕ) →
      length p.roots.items < p.counts.roots
      → sum (widths_of p.roots.items) + r.width ≤ p.counts.leaves →
      node ≡ length p.roots.items → from ≡ length p.owners.items →
      roots.items ≡ p.roots.items ++ r ∷ [] → roots.spare + 1 ≡ p.roots.spare →
      owners.items ≡ p.owners.items ++ replicate r.width node
      → owners.spare + r.width ≡ p.owners.spare →
      intervals ≡ set p.intervals node (from, from + r.width)
      → leaf_nodes ≡ noted p.leaf_nodes node from (from + r.width) →
      IsGrowing (record p {
        roots = roots;
        owners = owners;
        intervals = intervals;
        leaf_nodes = leaf_nodes;
      })
  root_added roots owners intervals leaf_nodes r node from lt fits node_is from_is roots_are
      root_spare owners_are owner_spare intervals_are leaf_nodes_are =
      let old = widths_of p.roots.items in
      let all_roots = s.order.roots_first in
      let none : length p.bases.items + record_total p.records.items p.coming ≡ 0 = omega arith in
      let no_coming : p.coming ≡ None = none_coming p.coming (omega arith) in
      let no_records : p.records.items ≡ [] = nil_from_length p.records.items (omega arith) in
      let roots_len = ap length roots_are ∙ length_push p.roots.items r in
      let owners_len =
      ap length owners_are ∙ length-append p.owners.items (replicate r.width node) in
      let more = length-replicate r.width node in
      let at : 0 + length old ≡ node = omega (arith, width_count p.roots.items) in
      let owned : owners.items ≡ owners_from 0 (widths_of roots.items) =
      (rw (
        roots_are,
        widths-push p.roots.items r,
        owners_from-push 0 old r.width,
        at,
        owners_are,
        s.owned,
      ) refl) in
      record {
        leaf_most = s.leaf_most;
        base_most = s.base_most;
        all_leaves = s.all_leaves;
        root_most = omega arith;
        root_room = omega arith;
        base_count = s.base_count;
        base_room = s.base_room;
        record_most = s.record_most;
        record_room = s.record_room;
        order = record { roots_first = inr none; bases_first = inr (omega arith) };
        owned = owned;
        owner_len = ap length owned ∙ length-owners_from 0 (widths_of roots.items);
        owner_most = omega arith;
        owner_room = omega arith;
        interval_len = ap length intervals_are ∙ length-set p.intervals node (from, from + r.width)
            ∙ s.interval_len;
        splitter_len = s.splitter_len;
        leaf_node_len =
            ap length leaf_nodes_are ∙ length-noted p.leaf_nodes node from (from + r.width)
            ∙ s.leaf_node_len;
        face_most = s.face_most;
        face_total = s.face_total;
        face_room = s.face_room;
        revealed_room = s.revealed_room;
        shape = rw (no_coming, no_records) (no_shape roots.items p.bases.items);
        tables =
            rw (no_coming, no_records, roots_are, intervals_are, leaf_nodes_are)
            (tables-with_root p.roots.items p.bases.items r node from node_is
            (omega arith) (omega arith) (omega arith) (no_shape p.roots.items p.bases.items)
            (rw (no_coming, no_records) at s.tables));
      }

  -- a base face more
  pub base_added : (bases faces : Held Face) (revealed : Held (Option ℕ)) (f : Face) →
      length p.roots.items ≡ p.counts.roots → length p.bases.items < p.counts.bases →
      bases.items ≡ p.bases.items ++ f ∷ [] → bases.spare + 1 ≡ p.bases.spare →
      faces.items ≡ p.faces.items ++ f ∷ [] → faces.spare + 1 ≡ p.faces.spare →
      revealed.items ≡ p.revealed.items ++ None ∷ [] → revealed.spare + 1 ≡ p.revealed.spare →
      IsGrowing (record p { bases = bases; faces = faces; revealed = revealed })
  base_added bases faces revealed f all lt bases_are base_spare faces_are face_spare revealed_are
      revealed_spare =
      let all_bases = s.order.bases_first in
      let none : record_total p.records.items p.coming ≡ 0 = omega arith in
      let no_coming : p.coming ≡ None = none_coming p.coming (omega arith) in
      let no_records : p.records.items ≡ [] = nil_from_length p.records.items (omega arith) in
      let bases_len = ap length bases_are ∙ length_push p.bases.items f in
      let faces_len = ap length faces_are ∙ length_push p.faces.items f in
      record {
        leaf_most = s.leaf_most;
        base_most = s.base_most;
        all_leaves = s.all_leaves;
        root_most = s.root_most;
        root_room = s.root_room;
        base_count = omega arith;
        base_room = omega arith;
        record_most = s.record_most;
        record_room = s.record_room;
        order = record { roots_first = inl all; bases_first = inr none };
        owned = s.owned;
        owner_len = s.owner_len;
        owner_most = s.owner_most;
        owner_room = s.owner_room;
        interval_len = s.interval_len;
        splitter_len = s.splitter_len;
        leaf_node_len = s.leaf_node_len;
        face_most = omega arith;
        face_total = omega arith;
        face_room = omega arith;
        revealed_room = omega arith;
        shape = rw (no_coming, no_records) (no_shape p.roots.items bases.items);
        tables =
            rw (no_coming, no_records, bases_are, faces_are, revealed_are)
            (tables-with_base p.roots.items p.bases.items f
            (rw (no_coming, no_records) at s.tables));
      }

  -- the leaves of a node that is to be split, as the table has them
  pub split_leaves : (r : Record) → TakesRecord (seen p) r → (at : ℕ × ℕ)
      → at ≡ get_or p.intervals r.s at →
      (at.0 ≡ (interval_of (seen p).h r.s).from) × (at.1 ≡ (interval_of (seen p).h r.s).until)
  split_leaves r takes at read =
      let tables : AreTables (seen p).h p.intervals p.splitters p.leaf_nodes p.faces.items
      p.revealed.items =
      rw takes.settled at s.tables in
      let within : r.s < length p.intervals = omega arith in
      let is = get_or_read p.intervals r.s at within read (0, 0) in
      let spans = tables.spans r.s takes.node in
      (ap (λ x. x.0) is ∙ spans.0, ap (λ x. x.1) is ∙ spans.1)

  -- they are among all leaves
  pub split_leaves_fit : (r : Record) → TakesRecord (seen p) r → (at : ℕ × ℕ)
      → at ≡ get_or p.intervals r.s at →
      (at.0 + r.width ≤ length p.leaf_nodes) × (at.1 ≤ length p.leaf_nodes)
  split_leaves_fit r takes at read =
      let shape : HasForestShape (seen p).h = rw takes.settled at s.shape in
      let leaves = split_leaves r takes at read in
      let most = interval_of-le (seen p).h shape r.s takes.node in
      (omega arith, omega arith)

  -- a record more, whose faces are still to come: first its child t is noted, and then u
  pub record_added : (r : Record) → TakesRecord (seen p) r →
      (intervals_t intervals_u : List (ℕ × ℕ)) (leaf_nodes_t leaf_nodes_u : List ℕ) (node : ℕ)
      (mark : Option ℕ) (at : ℕ × ℕ) →
      at ≡ get_or p.intervals r.s at → node ≡ node_count (seen p).h
      → mark ≡ Some (length p.records.items) →
      intervals_t ≡ set p.intervals node (at.0, at.0 + r.width) →
      leaf_nodes_t ≡ noted p.leaf_nodes node at.0 (at.0 + r.width) →
      intervals_u ≡ set intervals_t (node + 1) (at.0 + r.width, at.1) →
      leaf_nodes_u ≡ noted leaf_nodes_t (node + 1) (at.0 + r.width) at.1 →
      IsGrowing (record p {
        coming = Some r;
        intervals = intervals_u;
        splitters = set p.splitters r.s mark;
        leaf_nodes = leaf_nodes_u;
      })
  record_added r takes intervals_t intervals_u leaf_nodes_t leaf_nodes_u node mark at read node_is
      mark_is t_interval t_leaf u_interval u_leaf =
      let h = (seen p).h in
      let leaves = split_leaves r takes at read in
      let none : one_if (is_some p.coming) ≡ 0 = ap (λ x. one_if (is_some x)) takes.settled in
      let shape : HasForestShape h = rw takes.settled at s.shape in
      let tables : AreTables h p.intervals p.splitters p.leaf_nodes p.faces.items p.revealed.items =
      rw takes.settled at s.tables in
      let interval_len_t =
      ap length t_interval ∙ length-set p.intervals node (at.0, at.0 + r.width) in
      let interval_len_u =
      ap length u_interval ∙ length-set intervals_t (node + 1) (at.0 + r.width, at.1) in
      let leaf_node_len_t =
      ap length t_leaf ∙ length-noted p.leaf_nodes node at.0 (at.0 + r.width) in
      let leaf_node_len_u =
      ap length u_leaf ∙ length-noted leaf_nodes_t (node + 1) (at.0 + r.width) at.1 in
      let splits : Splits h r p.leaf_nodes = record {
        shape = shape;
        there = takes.node;
        free = takes.unsplit;
        first = takes.first;
        rest = takes.rest;
        room = omega arith;
      } in
      record {
        leaf_most = s.leaf_most;
        base_most = s.base_most;
        all_leaves = s.all_leaves;
        root_most = s.root_most;
        root_room = s.root_room;
        base_count = s.base_count;
        base_room = s.base_room;
        record_most = omega arith;
        record_room = s.record_room;
        order = record { roots_first = inl takes.roots; bases_first = inl takes.bases };
        owned = s.owned;
        owner_len = s.owner_len;
        owner_most = s.owner_most;
        owner_room = s.owner_room;
        interval_len = interval_len_u ∙ interval_len_t ∙ s.interval_len;
        splitter_len = length-set p.splitters r.s mark ∙ s.splitter_len;
        leaf_node_len = leaf_node_len_u ∙ leaf_node_len_t ∙ s.leaf_node_len;
        face_most = s.face_most;
        face_total = omega arith;
        face_room = s.face_room;
        revealed_room = s.revealed_room;
        shape = HasForestShape-with_record h r shape takes.node takes.unsplit takes.first
            takes.rest;
        tables =
            rw (u_interval, t_interval, u_leaf, t_leaf, leaves.0, leaves.1, node_is, mark_is)
            (tables-with_record h r splits takes.faces (omega arith) (omega arith) tables);
      }

-- the owner that is read in the table
pub owner_read : (roots : List Root) (owners : List ℕ) (x y : ℕ)
    → owners ≡ owners_from 0 (widths_of roots) →
    x < sum (widths_of roots) → y ≡ get_or owners x y → y ≡ root_of (widths_of roots) 0 x
owner_read roots owners x y owned l read =
    read ∙ ap (λ l. get_or l x y) owned ∙ get_or-owners_from (widths_of roots) x y l
