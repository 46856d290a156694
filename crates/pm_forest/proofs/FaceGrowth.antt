-- A forest that grows goes on being one with each face that the coming record takes.
use Rattle.std.proofs.Common.{◌≡◌, ℕ, ◌+◌, ◌≤◌, Bool, true, false, cond, [], ◌∷◌, ◌++◌}
use Rattle.std.proofs.Common.{length, Some, Option, is_some, ap, ◌∙◌, arith}
use Rattle.std.proofs.lemmas.List.{length_push}
use Rattle.std.specs.Option.{option_map}
use Rattle.pm_base.specs.Held.{Held}
use Rattle.pm_base.specs.Counts.{one_if}
use Rattle.pm_forest.specs.declared.parts.Face.{Face}
use Rattle.pm_forest.specs.declared.parts.NewFace.{NewFace}
use Rattle.pm_forest.specs.declared.parts.Record.{Record}
use Rattle.pm_forest.specs.Forest.{HasForestShape}
use Rattle.pm_forest.specs.Faces.{no_face, face_count}
use Rattle.pm_forest.specs.Rules.{with_record}
use Rattle.pm_forest.specs.Tables.{AreTables, Parts, IsGrowing, units, units_in, record_total}
use Rattle.pm_forest.specs.Tables.{with_new_face}
use Rattle.pm_forest.proofs.FaceLists.{face_count-le}
use Rattle.pm_forest.proofs.Prefix.{face_count-with_record}
use Rattle.pm_forest.proofs.SameSplit.{HasForestShape-same_split}
use Rattle.pm_forest.proofs.GrowingTables.{adds_face, tables-with_face}
use Rattle.pm_forest.proofs.GrowingLaws.{TakesFace, seen, some_coming}

module _ {p : Parts} (s : IsGrowing p) where
  -- there is room for a face that the coming record takes
  pub face_fits : (left : Bool) → TakesFace (seen p) left
      → (1 ≤ p.faces.spare) × (1 ≤ p.revealed.spare)
  face_fits left takes =
      let h = (seen p).h in
      let (r, is) = some_coming p.coming takes.there in
      let free : is_some (cond left r.left r.right) ≡ false = rw is at takes.free in
      let in_order : left ≡ true → is_some r.right ≡ false = rw is at takes.in_order in
      let adds = adds_face r left no_face free in_order in
      let one : one_if (is_some p.coming) ≡ 1 = ap one_if takes.there in
      let units_with = units p.roots.items p.bases.items p.records.items in
      let count : face_count (units_in p) ≡ face_count h + one_if (is_some r.left) + one_if
      (is_some r.right) =
      ap (λ coming. face_count (units_with coming)) is ∙ face_count-with_record h r in
      let len = s.tables.face_len in
      let before = face_count-le h in
      let few = takes.few in
      (omega arith, omega arith)

  -- a face more in the coming record
  pub face_added : (left : Bool) (n : NewFace) → TakesFace (seen p) left →
      (coming : Option Record) (faces : Held Face) (revealed : Held (Option ℕ)) (number : ℕ) →
      coming ≡ option_map (λ r. with_new_face r left n) p.coming → number ≡ length p.records.items →
      faces.items ≡ p.faces.items ++ n.face ∷ [] → faces.spare + 1 ≡ p.faces.spare →
      revealed.items ≡ p.revealed.items ++ Some number ∷ [] → revealed.spare + 1 ≡ p.revealed.spare
      →
      IsGrowing (record p { coming = coming; faces = faces; revealed = revealed })
  face_added left n takes coming faces revealed number coming_is number_is faces_are face_spare
      revealed_are revealed_spare =
      let h = (seen p).h in
      let (r, is) = some_coming p.coming takes.there in
      let q = with_new_face r left n in
      let free : is_some (cond left r.left r.right) ≡ false = rw is at takes.free in
      let in_order : left ≡ true → is_some r.right ≡ false = rw is at takes.in_order in
      let adds = adds_face r left n free in_order in
      let new_is : coming ≡ Some q = coming_is ∙ ap (option_map (λ r. with_new_face r left n)) is in
      let was_one : one_if (is_some p.coming) ≡ 1 = ap one_if takes.there in
      let one : one_if (is_some coming) ≡ 1 = ap (λ x. one_if (is_some x)) new_is in
      let same : record_total p.records.items coming ≡ record_total p.records.items p.coming =
      omega arith in
      let shape : HasForestShape (with_record h r) = rw is at s.shape in
      let old : AreTables (with_record h r) p.intervals p.splitters p.leaf_nodes p.faces.items
      p.revealed.items = rw is at s.tables in
      let tables = tables-with_face h r q n.face adds old in
      let few = takes.few in
      let len = s.tables.face_len in
      let before = face_count-le h in
      let count = face_count-with_record h q in
      let counted = tables.face_len in
      let pushed = length_push p.faces.items n.face in
      let faces_len = ap length faces_are in
      record {
        leaf_most = s.leaf_most;
        base_most = s.base_most;
        all_leaves = s.all_leaves;
        root_most = s.root_most;
        root_room = s.root_room;
        base_count = s.base_count;
        base_room = s.base_room;
        record_most = omega arith;
        record_room = s.record_room;
        order = rw same s.order;
        owned = s.owned;
        owner_len = s.owner_len;
        owner_most = s.owner_most;
        owner_room = s.owner_room;
        interval_len = s.interval_len;
        splitter_len = s.splitter_len;
        leaf_node_len = s.leaf_node_len;
        face_most = omega arith;
        face_total = omega arith;
        face_room = omega arith;
        revealed_room = omega arith;
        shape = rw new_is (HasForestShape-same_split h r q adds.node adds.width shape);
        tables = rw (new_is, faces_are, revealed_are, number_is) tables;
      }
