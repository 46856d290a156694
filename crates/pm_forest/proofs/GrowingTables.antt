-- The tables of a forest with one unit more.
use Rattle.std.proofs.Common.{◌≡◌, ◌≢◌, ℕ, ◌+◌, ◌<◌, ◌≤◌, eqb, Bool, true, false, cond, List, []}
use Rattle.std.proofs.lemmas.Grind.{common_steps}
use Rattle.std.proofs.Common.{◌∷◌, ◌++◌, length, sum, get_or, set, replicate, None, Some, Option}
use Rattle.std.proofs.Common.{is_some, inl, inr, refl, sym, ap, ◌∙◌, arith, length-set}
use Rattle.std.proofs.lemmas.Bool.{cases_lt, cases_eq, eq-eqb, ne_eqb, le-leb, lt-leb, cond-true}
use Rattle.std.proofs.lemmas.Bool.{cond-false}
use Rattle.std.proofs.lemmas.List.{append-nil, append_assoc, get_or_append_left, get_or_push}
use Rattle.std.proofs.lemmas.List.{get_or-set_same, get_or-set_other, get_or-replicate, length_push}
use Rattle.std.proofs.lemmas.List.{length-replicate}
use Rattle.pm_base.specs.Counts.{one_if}
use Rattle.pm_base.proofs.Counts.{one_if-le}
use Rattle.pm_forest.specs.declared.parts.Root.{Root}
use Rattle.pm_forest.specs.declared.parts.Face.{Face}
use Rattle.pm_forest.specs.declared.parts.NewFace.{NewFace}
use Rattle.pm_forest.specs.declared.parts.Record.{Record}
use Rattle.pm_forest.specs.Forest.{Hierarchy, widths_of, node_count, record_count, t_of, u_of}
use Rattle.pm_forest.specs.Forest.{interval_after, interval_of, splitter_of, HasForestShape}
use Rattle.pm_forest.specs.Fronts.{every, ancestor_after}
use Rattle.pm_forest.specs.Faces.{face_in, faces_in, faces_of, first_face, face_count}
use Rattle.pm_forest.specs.Faces.{revealed_after, revealed_by}
use Rattle.pm_forest.specs.Rules.{with_record}
use Rattle.pm_forest.specs.Tables.{IsSingle, leaf_node_of, AreTables, WithoutFaces, units}
use Rattle.pm_forest.specs.Tables.{with_new_face}
use Rattle.pm_forest.proofs.Ancestors.{ancestor-lt}
use Rattle.pm_forest.proofs.Prefix.{record_count-with_record, interval_of-with_record}
use Rattle.pm_forest.proofs.Prefix.{interval_of-with_record_t, interval_of-with_record_u}
use Rattle.pm_forest.proofs.Prefix.{splitter_of-with_record, face_count-with_record}
use Rattle.pm_forest.proofs.Prefix.{revealed_by-with_record, faces_of-with_record}
use Rattle.pm_forest.proofs.SameSplit.{interval_of-same_split, splitter_of-same_split}
use Rattle.pm_forest.proofs.RootTables.{width_count, widths-push, root_interval-push}
use Rattle.pm_forest.proofs.RootTables.{root_interval-last}
use Rattle.pm_forest.proofs.LeafNodes.{noted, leaf-last, leaf-before, Splits, both_noted}
use Rattle.pm_forest.proofs.LeafNodes.{leaf-with_record, leaf_node-same_split}

-- What a new face does to its record.
pub record AddsFace (r q : Record) (f : Face) : Type 0 where
  pub node : r.s ≡ q.s
  pub width : r.width ≡ q.width
  pub faces : faces_in q ≡ faces_in r ++ f ∷ []
  pub total : one_if (is_some q.left) + one_if (is_some q.right)
      ≡ one_if (is_some r.left) + one_if (is_some r.right) + 1
  pub most : one_if (is_some q.left) + one_if (is_some q.right) ≤ 2

pub faces_none : (n : Option NewFace) → is_some n ≡ false → face_in n ≡ []
faces_none None none = refl
faces_none (Some n) none = absurd cc

pub adds_face : (r : Record) (left : Bool) (n : NewFace) → is_some (cond left r.left r.right)
    ≡ false →
    (left ≡ true → is_some r.right ≡ false) → AddsFace r (with_new_face r left n) n.face
adds_face r true n free in_order = grind (arith, common_steps, faces_none, is_some)
adds_face r false n free in_order =
    grind (arith, common_steps, append-nil, faces_none, is_some, one_if-le)

-- the tables of no unit
pub no_tables : (n m : ℕ)
    → AreTables (units [] [] [] None) (replicate n (0, 0)) (replicate n None) (replicate m 0) [] []
unfolding splitter_of faces_of first_face revealed_after
no_tables n m = grind (arith, common_steps, get_or-replicate, length-replicate)

module _ {intervals : List (ℕ × ℕ)} {splitters : List (Option ℕ)} {leaf_nodes : List ℕ}
    {faces : List Face} {revealed : List (Option ℕ)} where
  -- one root more, before any record
  pub tables-with_root : (roots : List Root) (bases : List Face) (r : Root) (node from : ℕ) →
      node ≡ length roots → from ≡ sum (widths_of roots) → node < length intervals
      → from + r.width ≤ length leaf_nodes →
      HasForestShape (units roots bases [] None) →
      AreTables (units roots bases [] None) intervals splitters leaf_nodes faces revealed →
      AreTables (units (roots ++ r ∷ []) bases [] None)
      (set intervals node (from, from + r.width)) splitters
      (noted leaf_nodes node from (from + r.width)) faces revealed
  unfolding interval_after ancestor_after splitter_of first_face faces_of revealed_after
  tables-with_root roots bases r node from at start room leaf_room shape t =
      let ws = widths_of roots in
      let count = width_count roots in
      let push = widths-push roots r in
      let len = length_push roots r in
      let last = root_interval-last ws r.width 0 in
      let last_node : node ≡ length ws = omega arith in
      record {
        spans = λ v l. elim (cases_eq v node) [
          | inl is ↦
              let read = get_or-set_same intervals node (from, from + r.width) (0, 0) room in
              rw (is, read, push, last_node, last.0, last.1) (omega arith, omega arith)
          | inr other ↦
              let read = get_or-set_other intervals node v (from, from + r.width) (0, 0) other in
              rw (read, push, root_interval-push ws r.width 0 v (omega arith))
              (t.spans v (omega arith))
        ];
        split = t.split;
        leaves = λ x l single. elim (cases_lt x from) [
          | inl below ↦
              let inside : x < sum ws = omega arith in
              let lt = ancestor-lt (units roots bases [] None) shape every 0 x inside in
              leaf-before roots r leaf_nodes node from at start leaf_room x below (omega arith)
              (t.leaves x inside) single
          | inr above ↦ leaf-last roots r leaf_nodes node from at start leaf_room x above l single
        ];
        faces_are = t.faces_are;
        face_len = t.face_len;
        revealed_len = t.revealed_len;
        revealed_are = t.revealed_are;
      }

  -- one base face more, before any record
  pub tables-with_base : (roots : List Root) (bases : List Face) (f : Face) →
      AreTables (units roots bases [] None) intervals splitters leaf_nodes faces revealed →
      AreTables (units roots (bases ++ f ∷ []) [] None) intervals splitters leaf_nodes
      (faces ++ f ∷ []) (revealed ++ None ∷ [])
  unfolding interval_after ancestor_after splitter_of first_face faces_of revealed_after
  tables-with_base roots bases f t =
      let len = length_push bases f in
      let face_len : length faces ≡ length bases = t.face_len in
      let revealed_len : length revealed ≡ length bases = t.revealed_len in
      let revealed_push : length (revealed ++ None ∷ []) ≡ length revealed + 1 =
      length_push revealed None in
      record {
        spans = t.spans;
        split = t.split;
        leaves = t.leaves;
        faces_are = ap (λ (l : List Face). l ++ f ∷ []) (t.faces_are ∙ append-nil bases)
            ∙ sym (append-nil (bases ++ f ∷ []));
        face_len = omega (arith, length_push faces f);
        revealed_len = omega arith;
        revealed_are = λ i l. elim (cases_lt i (length bases)) [
          | inl before ↦ get_or_append_left revealed (None ∷ []) None i (omega arith)
              ∙ t.revealed_are i before
          | inr past ↦ get_or_push revealed None None i (omega arith)
        ];
      }

  -- one record more, whose faces are still to come
  pub tables-with_record : (h : Hierarchy) (r : Record) → Splits h r leaf_nodes → WithoutFaces r →
      node_count h + 1 < length intervals → r.s < length splitters →
      AreTables h intervals splitters leaf_nodes faces revealed →
      let i = interval_of h r.s in
      let cut = i.from + r.width in
      AreTables (with_record h r)
      (set (set intervals (node_count h) (i.from, cut)) (node_count h + 1) (cut, i.until))
      (set splitters r.s (Some (record_count h))) (both_noted h r leaf_nodes) faces revealed
  tables-with_record h r s bare room split_room t =
      let n = record_count h in
      let i = interval_of h r.s in
      let mark : Option ℕ = Some n in
      let t_leaves : ℕ × ℕ = (i.from, i.from + r.width) in
      let u_leaves : ℕ × ℕ = (i.from + r.width, i.until) in
      let noted_t = set intervals (node_count h) t_leaves in
      let len = length-set intervals (node_count h) t_leaves in
      let count = record_count-with_record h r in
      let no_left : one_if (is_some r.left) ≡ 0 = ap one_if bare.0 in
      let no_right : one_if (is_some r.right) ≡ 0 = ap one_if bare.1 in
      let face_total : face_count (with_record h r) ≡ face_count h =
      omega (arith, face_count-with_record h r) in
      let none : faces_in r ≡ [] =
      (rw (faces_none r.left bare.0, faces_none r.right bare.1) refl) in
      record {
        spans = λ v l. elim (cases_eq v (u_of h n)) [
          | inl is_u ↦
              let read = get_or-set_same noted_t (node_count h + 1) u_leaves (0, 0) (omega arith) in
              rw (is_u, read, interval_of-with_record_u h r) (refl, refl)
          | inr not_u ↦
              let read = get_or-set_other noted_t (node_count h + 1) v u_leaves (0, 0) not_u in
              elim (cases_eq v (t_of h n)) [
                | inl is_t ↦ grind (arith, common_steps, get_or-set_same, interval_of-with_record_t)
                | inr not_t ↦
                    let old : v < node_count h = omega arith in
                    let read_old =
                    get_or-set_other intervals (node_count h) v t_leaves (0, 0) not_t in
                    rw (read, read_old, interval_of-with_record h r v old) (t.spans v old)
              ]
        ];
        split = λ v l. elim (cases_eq v r.s) [
          | inl is ↦
              grind (
                arith,
                common_steps,
                cond-true,
                eq-eqb,
                get_or,
                get_or-set_same,
                splitter_of-with_record,
              )
          | inr other ↦
              let differs : r.s ≢ v = λ e. other (sym e) in
              let splitter =
              splitter_of-with_record h r v
              ∙ cond-false (eqb r.s v) mark (splitter_of h v) (ne_eqb r.s v differs) in
              let old = t.split v (omega (arith, length-set splitters r.s mark)) in
              get_or-set_other splitters r.s v mark None other ∙ old ∙ sym splitter
        ];
        leaves = λ x l single. leaf-with_record h r leaf_nodes s x l (t.leaves x l) single;
        faces_are =
            t.faces_are ∙ sym (append-nil (faces_of h))
            ∙ ap (λ (l : List Face). faces_of h ++ l) (sym none)
            ∙ sym (faces_of-with_record h r);
        face_len = t.face_len ∙ sym face_total;
        revealed_len = t.revealed_len ∙ sym face_total;
        revealed_are = λ f l.
            let before : f < face_count h = omega arith in
            let same = revealed_by-with_record h r f
            ∙ cond-false _ mark (revealed_by h f) (lt-leb (face_count h) f before) in
            t.revealed_are f before ∙ sym same;
      }

  -- one face more in the last record
  pub tables-with_face : (h : Hierarchy) (r q : Record) (f : Face) → AddsFace r q f →
      AreTables (with_record h r) intervals splitters leaf_nodes faces revealed →
      AreTables (with_record h q) intervals splitters leaf_nodes (faces ++ f ∷ [])
      (revealed ++ Some (record_count h) ∷ [])
  tables-with_face h r q f adds t =
      let node = adds.node in
      let width = adds.width in
      let before = face_count-with_record h r in
      let after = face_count-with_record h q in
      let nodes : record_count (with_record h r) ≡ record_count (with_record h q) =
      omega (arith, record_count-with_record h r, record_count-with_record h q) in
      let last : Option ℕ = Some (record_count h) in
      let face_len = t.face_len in
      let revealed_len = t.revealed_len in
      record {
        spans = λ v l. rw (← interval_of-same_split h r q node width v) (t.spans v (omega arith));
        split = λ v l. t.split v l ∙ splitter_of-same_split h r q node v;
        leaves = λ x l single.
            let same = leaf_node-same_split h r q node width x in
            let old = leaf_node_of (with_record h r) x in
            let one : IsSingle (interval_of (with_record h r) old) =
            rw (interval_of-same_split h r q node width old, same) single in
            t.leaves x l one ∙ same;
        faces_are =
            ap (λ (l : List Face). l ++ f ∷ []) (t.faces_are ∙ faces_of-with_record h r)
            ∙ append_assoc (faces_of h) (faces_in r) (f ∷ [])
            ∙ ap (λ (l : List Face). faces_of h ++ l) (sym adds.faces)
            ∙ sym (faces_of-with_record h q);
        face_len = omega (arith, length_push faces f);
        revealed_len = omega (arith, length_push revealed last);
        revealed_are = λ i l. elim (cases_lt i (face_count (with_record h r))) [
          | inl old ↦
              get_or_append_left revealed (last ∷ []) None i (omega arith)
              ∙ t.revealed_are i old
              ∙ revealed_by-with_record h r i
              ∙ sym (revealed_by-with_record h q i)
          | inr new ↦
              grind (arith, common_steps, cond-true, get_or_push, le-leb, revealed_by-with_record)
        ];
      }
