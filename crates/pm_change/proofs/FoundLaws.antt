-- What is gone or new is found at the records that differ.
use Rattle.std.proofs.Common.{◌≡◌, ℕ, ◌<◌, Bool, true, false, not, List, Some, ◌⊎◌, inl, inr, refl}
use Rattle.std.proofs.Common.{sym, ap, ◌∙◌}
use Rattle.std.proofs.lemmas.Bool.{cases_Bool, or_cases, and_parts, both_ways, not-true}
use Rattle.pm_base.proofs.Search.{option_cases}
use Rattle.pm_forest.specs.Forest.{Hierarchy, node_count, record_count, s_of, maker_of, splitter_of}
use Rattle.pm_forest.specs.Forest.{Makes}
use Rattle.pm_forest.specs.Fronts.{IsFront, is_active, made_in}
use Rattle.pm_forest.specs.Faces.{face_count, revealed_by}
use Rattle.pm_forest.specs.Kept.{is_kept}
use Rattle.pm_forest.specs.Rules.{HasShape}
use Rattle.pm_forest.proofs.Nodes.{maker_of-makes, maker_of-lt, splitter_of-splits}
use Rattle.pm_forest.proofs.FaceNumbers.{revealed-parts}
use Rattle.pm_forest.proofs.ViewLaws.{kept_flag}
use Rattle.pm_beyond.specs.Plans.{differs}
use Rattle.pm_change.specs.Changes.{is_gone_node, is_gone_face, is_new_node}
use Rattle.pm_change.specs.Gathering.{HasFacesOf, HaveSeen, HaveGathered, HaveRoomFor, AreEmptySets}
use Rattle.pm_change.specs.Gathering.{AreJust}
use Rattle.pm_change.specs.declared.sets.ChangeSets.{ChangeSets}
use Rattle.pm_change.proofs.Sizes.{touched, untouched_same, made_by, split_by, in_set}
use Rattle.pm_change.proofs.GatherLaws.{just_those, gathered_on}

-- The record that a node or a face was found at.
pub record IsNearRecord (h : Hierarchy) (S G : ℕ → Bool) (v : ℕ) : Type 0 where
  pub k : ℕ
  pub below : k < record_count h
  pub differs : differs S G k ≡ true
  pub at : (v ≡ s_of h k) ⊎ Makes h k v

module _ (h : Hierarchy) (S G : ℕ → Bool) where
  at_record : (v : ℕ) → v < node_count h → touched h S G v ≡ true → IsNearRecord h S G v
  unfolding touched made_by split_by in_set
  at_record v l e =
      elim (or_cases (made_by h (differs S G) v) (split_by h (differs S G) v) e) [
        | inl made ↦
            elim (option_cases (maker_of h v)) [
              | inl none ↦ absurd (both_ways (made_by h (differs S G) v)
                  (ap (in_set (differs S G)) none) made)
              | inr (k, is) ↦ record {
                k = k;
                below = maker_of-lt h k v l is;
                differs = sym (ap (in_set (differs S G)) is) ∙ made;
                at = inr (maker_of-makes h k v is);
              }
            ]
        | inr split ↦
            elim (option_cases (splitter_of h v)) [
              | inl none ↦ absurd (both_ways (split_by h (differs S G) v)
                  (ap (in_set (differs S G)) none) split)
              | inr (k, is) ↦ (let p = splitter_of-splits h k v is in record {
                k = k;
                below = p.1;
                differs = sym (ap (in_set (differs S G)) is) ∙ split;
                at = inl (sym p.0);
              })
            ]
      ]

  near_record : (v : ℕ) → v < node_count h → (is_active h S v ≡ is_active h G v → ⊥)
      → IsNearRecord h S G v
  near_record v l other =
      elim (cases_Bool (touched h S G v)) [
        | inl e ↦ at_record v l e
        | inr e ↦ absurd (other (untouched_same h S G v e))
      ]

  pub gone_near : (v : ℕ) → v < node_count h → is_gone_node h S G v ≡ true → IsNearRecord h S G v
  gone_near v l e =
      let (was, is_not) = and_parts (is_active h S v) (not (is_active h G v)) e in
      near_record v l (λ same. both_ways (is_active h G v) (not-true (is_active h G v) is_not)
      (sym same ∙ was))

  pub new_near : (v : ℕ) → v < node_count h → is_new_node h S G v ≡ true → IsNearRecord h S G v
  new_near v l e =
      let (is, was_not) = and_parts (is_active h G v) (not (is_active h S v)) e in
      near_record v l (λ same. both_ways (is_active h S v) (not-true (is_active h S v) was_not)
      (same ∙ is))

-- A face is gone only where its record was split and isn't.
module _ (h : Hierarchy) (shape : HasShape h) (S G : ℕ → Bool) (before : IsFront h S)
    (now : IsFront h G) where
  pub gone_with_record : (f k : ℕ) → f < face_count h → revealed_by h f ≡ Some k
      → is_gone_face h S G f ≡ true → (S k ≡ true) × (G k ≡ false)
  gone_with_record f k l is e =
      let (was, is_not) = and_parts (is_kept h S f) (not (is_kept h G f)) e in (
        sym (ap (made_in S) is) ∙ sym (kept_flag h shape S before f l) ∙ was,
        sym (ap (made_in G) is) ∙ sym (kept_flag h shape G now f l)
            ∙ not-true (is_kept h G f) is_not,
      )

  -- So the record of a face that is gone differs.
  pub face_near : (f : ℕ) → f < face_count h → is_gone_face h S G f ≡ true → (k : ℕ)
      × (k < record_count h) × (differs S G k ≡ true) × (revealed_by h f ≡ Some k)
  face_near f l e =
      elim (option_cases (revealed_by h f)) [
        | inl none ↦
            let (was, is_not) = and_parts (is_kept h S f) (not (is_kept h G f)) e in
            absurd (both_ways (is_kept h G f) (not-true (is_kept h G f) is_not)
            (kept_flag h shape G now f l ∙ ap (made_in G) none))
        | inr (k, is) ↦
            let (was, is_not) = gone_with_record f k l is e in
            (k, (revealed-parts h f k l is).0, rw (was, is_not) refl, is)
      ]

  pub no_face_gone : (k : ℕ) (flags : List Bool) → G k ≡ true
      → HasFacesOf h (is_gone_face h S G) k flags
  no_face_gone k flags split f l is e = absurd
      (both_ways (G k) (gone_with_record f k l is e).1 split)

  -- All records that differ have been seen.
  pub all_seen : (old new : ChangeSets) → HaveRoomFor h old → AreEmptySets old
      → HaveGathered h S G old new → ((k : ℕ) → k < record_count h → differs S G k ≡ true
      → HaveSeen h S G k new)
      → AreJust (is_gone_face h S G) (face_count h) new.gone_faces
      × AreJust (is_gone_node h S G) (node_count h) new.gone_nodes
      × AreJust (is_new_node h S G) (node_count h) new.new_nodes
  all_seen old new room empty got seen = (
    just_those (is_gone_face h S G) old.gone_faces new.gone_faces (face_count h) empty.gone_faces
        room.gone_faces got.gone_faces
        (λ f l e. (let (k, below, d, is) = face_near f l e in (seen k below d).gone_faces f l is
        e)),
    just_those (is_gone_node h S G) old.gone_nodes new.gone_nodes (node_count h) empty.gone_nodes
        room.gone_nodes got.gone_nodes
        (λ v l e. (let n = gone_near h S G v l e in (seen n.k n.below n.differs).gone_nodes v n.at
        e)),
    just_those (is_new_node h S G) old.new_nodes new.new_nodes (node_count h) empty.new_nodes
        room.new_nodes got.new_nodes
        (λ v l e. (let n = new_near h S G v l e in (seen n.k n.below n.differs).new_nodes v n.at
        e)),
  )

-- What was seen stays seen.
pub seen_on : (h : Hierarchy) (S G : ℕ → Bool) (k : ℕ) (old new : ChangeSets)
    → HaveGathered h S G old new → HaveSeen h S G k old → HaveSeen h S G k new
seen_on h S G k old new got seen = record {
  gone_faces = λ f l is e. got.gone_faces.stay f (seen.gone_faces f l is e);
  gone_nodes = λ v at e. got.gone_nodes.stay v (seen.gone_nodes v at e);
  new_nodes = λ v at e. got.new_nodes.stay v (seen.new_nodes v at e);
}

pub gathered_all : (h : Hierarchy) (S G : ℕ → Bool) (a b c : ChangeSets) → HaveGathered h S G a b
    → HaveGathered h S G b c → HaveGathered h S G a c
gathered_all h S G a b c x y = record {
  gone_faces = gathered_on (is_gone_face h S G) a.gone_faces b.gone_faces c.gone_faces x.gone_faces
      y.gone_faces;
  gone_nodes = gathered_on (is_gone_node h S G) a.gone_nodes b.gone_nodes c.gone_nodes x.gone_nodes
      y.gone_nodes;
  new_nodes = gathered_on (is_new_node h S G) a.new_nodes b.new_nodes c.new_nodes x.new_nodes
      y.new_nodes;
  put_faces = y.put_faces ∙ x.put_faces;
}
