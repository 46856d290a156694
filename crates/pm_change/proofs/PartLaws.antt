-- The numbers of a part are few, and each can be told.
use Rattle.std.proofs.Common.{◌≡◌, ℕ, ◌<◌, ◌≤◌, Bool, true, List, refl, sym, ◌∙◌, arith}
use Rattle.pm_base.specs.Counts.{set_of}
use Rattle.pm_sets.proofs.FlagLaws.{in_below}
use Rattle.pm_forest.specs.Forest.{Hierarchy, node_count, record_count}
use Rattle.pm_forest.specs.Faces.{face_count}
use Rattle.pm_forest.specs.Rules.{HasShape}
use Rattle.pm_forest.proofs.FaceLimits.{first_face-most}
use Rattle.pm_forest.proofs.ShapeLaws.{leaf_count-le, record_count-roots}
use Rattle.pm_change.specs.declared.parts.Part.{Part}
use Rattle.pm_change.specs.declared.parts.Part.TheVariants as parts
use Rattle.pm_change.specs.declared.sets.ChangeSets.{ChangeSets}
use Rattle.pm_change.specs.Changes.{is_gone_face, is_gone_node, is_new_node, is_put}
use Rattle.pm_change.specs.Texts.{change_text}
use Rattle.pm_change.specs.Parts.{is_of_part, bound_of_part, text_in}
use Rattle.pm_change.specs.Parts.{CanTell, CanTellAll, CanTellSets}
use Rattle.pm_change.specs.Gathering.{AreJust, AreSetsOf}
use Rattle.pm_change.proofs.ChangeLaws.{put_kept}
use Rattle.pm_change.proofs.TellLaws.{just_numbers}

module _ (h : Hierarchy) where
  pub nodes_most : HasShape h → node_count h ≤ 2097152
  nodes_most shape =
      let a = leaf_count-le h shape in
      let b = record_count-roots h shape in
      omega arith

  pub faces_most : HasShape h → face_count h ≤ 1048576
  faces_most shape = first_face-most h shape (record_count h) (omega arith)

  pub bound_most : HasShape h → (part : Part) → bound_of_part h part ≤ 2097152
  bound_most shape parts.GoneFaces = let m = faces_most shape in omega arith
  bound_most shape parts.GoneNodes = nodes_most shape
  bound_most shape parts.NewNodes = nodes_most shape
  bound_most shape parts.PutFaces = let m = faces_most shape in omega arith

  module _ (S G : ℕ → Bool) where
    can_tell : (flags : List Bool) (part : Part)
        → AreJust (is_of_part h S G part) (bound_of_part h part) flags → CanTellAll h G part flags
    can_tell flags part just = record { len = just.len; each = λ n there. told part n just there }
      where
        below : (passes : ℕ → Bool) (bound n : ℕ) → AreJust passes bound flags
            → set_of flags n ≡ true → n < bound
        below passes bound n just there =
            let low = in_below flags n there in omega (arith, just.len)

        told : (part : Part) (n : ℕ) → AreJust (is_of_part h S G part) (bound_of_part h part) flags
            → set_of flags n ≡ true → CanTell h G part n
        told parts.GoneFaces n just there = tt
        told parts.GoneNodes n just there = tt
        told parts.NewNodes n just there =
            below (is_of_part h S G parts.NewNodes) (node_count h) n just there
        told parts.PutFaces n just there =
            let l = below (is_of_part h S G parts.PutFaces) (face_count h) n just there in
            (l, put_kept h S G n (sym (just.each n l) ∙ there))

    pub can_tell_sets : (s : ChangeSets) → AreSetsOf h S G s → CanTellSets h G s
    can_tell_sets s are = record {
      gone_faces = can_tell s.gone_faces parts.GoneFaces are.gone_faces;
      gone_nodes = can_tell s.gone_nodes parts.GoneNodes are.gone_nodes;
      new_nodes = can_tell s.new_nodes parts.NewNodes are.new_nodes;
      put_faces = can_tell s.put_faces parts.PutFaces are.put_faces;
    }

    -- The text of the sets of a change is that of the change.
    pub text_in-change : (s : ChangeSets) → AreSetsOf h S G s → text_in h G s ≡ change_text h S G
    unfolding text_in change_text
    text_in-change s are =
        let a = just_numbers (is_gone_face h S G) (face_count h) s.gone_faces are.gone_faces in
        let b = just_numbers (is_gone_node h S G) (node_count h) s.gone_nodes are.gone_nodes in
        let c = just_numbers (is_new_node h S G) (node_count h) s.new_nodes are.new_nodes in
        let d = just_numbers (is_put h S G) (face_count h) s.put_faces are.put_faces in
        rw (a, b, c, d) refl
