-- The tables of all nodes' bounds, seen as a list of each kind, while the bounds are found.
use Rattle.std.proofs.Common.{◌≡◌, ℕ, suc, ◌+◌, ◌*◌, ◌<◌, ◌≤◌, ◌-◌, List, length, map, replicate}
use Rattle.std.proofs.lemmas.Grind.{common_steps}
use Rattle.std.proofs.Common.{get_or, set, length-set, Option, None, IfSome, inl, inr, refl, sym}
use Rattle.std.proofs.Common.{ap, subst, ◌∙◌, arith}
use Rattle.std.proofs.lemmas.Bool.{cases_eq}
use Rattle.std.proofs.lemmas.List.{map-set, get_or-map, get_or-replicate, get_or-set_same}
use Rattle.std.proofs.lemmas.List.{get_or-set_other, length-map, length-replicate}
use Rattle.pm_base.specs.Place.{Place, origin}
use Rattle.pm_base.specs.Rounded.{root_up}
use Rattle.pm_forest.specs.Forest.{Hierarchy, record_count, node_count, leaf_count, s_of, t_of}
use Rattle.pm_forest.specs.Forest.{u_of}
use Rattle.pm_forest.specs.Places.{place_of_node}
use Rattle.pm_forest.specs.Rules.{HasShape}
use Rattle.pm_forest.specs.Tables.{leaf_node_of}
use Rattle.pm_forest.proofs.HierarchyLaws.{leaf_node-lt}
use Rattle.pm_bounds.specs.declared.balls.Ball.{Ball}
use Rattle.pm_bounds.specs.declared.leaves.LeafBounds.{LeafBounds}
use Rattle.pm_bounds.specs.declared.normal_box.NormalBox.{NormalBox}
use Rattle.pm_bounds.specs.Boxes.{join, IsSmallBox}
use Rattle.pm_bounds.specs.Bounds.{AreBoundsOf, bare_at, leaf_radius, error_of, radius_of}
use Rattle.pm_bounds.specs.Bounds.{box_under}
use Rattle.pm_bounds.specs.Leaves.{bare_leaf_at, AreSeen}
use Rattle.pm_bounds.specs.Tables.{bound_lists_of, places_of, errors_of, radii_of, ArePlaces}
use Rattle.pm_bounds.specs.Tables.{AreBare, AreAtMost, AreSmallBoxes, AreOfLeaves, IsBounds}
use Rattle.pm_bounds.specs.Tables.{grown_at}
use Rattle.pm_bounds.proofs.GrownLaws.{IsGrown, AreJoined, grown_start, grown_step, joined_start}
use Rattle.pm_bounds.proofs.GrownLaws.{joined_step}
use Rattle.pm_bounds.proofs.Nodes.{few_nodes, split_node, leaf_node-apart, has_leaf}
use Rattle.pm_bounds.proofs.SplitBalls.{AreCopied, copied_start, copied_step, copied_reads}
use Rattle.pm_bounds.proofs.TableLaws.{kept}

-- a ball that is read, and what is known of it
pub read_at : {A : Type 0} (f : Ball → A) (balls : List Ball) (at : ℕ) (b : Ball) (d : A)
    → at < length balls → b ≡ get_or balls at b →
    f b ≡ get_or (map f balls) at d
read_at f balls at b d l is = ap f is ∙ sym (get_or-map f balls at b d l)

-- a ball of a small radius is written, and a small box
pub radii_set : (most : ℕ) (balls : List Ball) (at : ℕ) (b : Ball) → at < length balls
    → AreAtMost most (radii_of balls) → b.radius ≤ most → AreAtMost most (radii_of (set balls at b))
radii_set most balls at b l was small =
    let radius = λ (b : Ball). b.radius in
    subst (AreAtMost most) (sym (map-set radius balls at b))
    (kept 0 (λ (k : ℕ). k ≤ most) (map radius balls) at b.radius
    (omega (arith, length-map balls radius)) was small)

pub boxes_set : (boxes : List (Option NormalBox)) (at : ℕ) (box : Option NormalBox)
    → at < length boxes → AreSmallBoxes boxes → IfSome box IsSmallBox
    → AreSmallBoxes (set boxes at box)
boxes_set boxes at box l was fits =
    kept None (λ (b : Option NormalBox). IfSome b IsSmallBox) boxes at box l was fits

-- a ball at its node's place is written
places_set : (h : Hierarchy) (balls : List Ball) (at : ℕ) (b : Ball) → at < length balls
    → ArePlaces h (places_of balls) → b.place ≡ place_of_node h at
    → ArePlaces h (places_of (set balls at b))
places_set h balls at b l was is v m =
    let place = λ (b : Ball). b.place in
    let all = length-map balls place in
    ap (λ (t : List Place). get_or t v origin) (map-set place balls at b)
    ∙ elim (cases_eq v at) [
      | inl same ↦ grind (arith, common_steps, get_or, get_or-set_same)
      | inr other ↦ get_or-set_other (map place balls) at v b.place origin other ∙ was v m
    ]

-- The tables of nodes when the first n leaves have given theirs.
pub record AreGiven (h : Hierarchy) (n : ℕ) (balls : List Ball) (table : List (Option NormalBox)) :
    Type 0 where
  pub balls_len : length balls ≡ node_count h
  pub boxes_len : length table ≡ node_count h
  pub places : ArePlaces h (places_of balls)
  pub errors : (v : ℕ) → v < node_count h → get_or (errors_of balls) v 0 ≡ 0
  pub radii : (l : ℕ) → l < n → get_or (radii_of balls) (leaf_node_of h l) 0
      ≡ leaf_radius h (leaf_node_of h l)
  pub boxes : (l : ℕ) → l < n → get_or table (leaf_node_of h l) None
      ≡ box_under h (leaf_node_of h l)
  pub small_radii : AreAtMost 113509 (radii_of balls)
  pub small_boxes : AreSmallBoxes table

-- before any leaf
bare_reads : {A : Type 0} (f : Ball → A) (h : Hierarchy) (n : ℕ) (balls : List Ball)
    → AreBare h n balls → (v : ℕ) (d : A) → v < n
    → get_or (map f balls) v d ≡ f (bare_at (place_of_node h v))
bare_reads f h n balls bare v d l =
    get_or-map f balls v (bare_at origin) d (let len = bare.len in omega arith)
    ∙ ap f (bare.each v l)

no_box : (n : ℕ) (boxes : List (Option NormalBox)) → boxes ≡ replicate n None → (v : ℕ) → v < n
    → get_or boxes v None ≡ None
no_box n boxes none v l =
    ap (λ (t : List (Option NormalBox)). get_or t v None) none ∙ get_or-replicate n v None None l

pub given_none : (h : Hierarchy) (balls : List Ball) (boxes : List (Option NormalBox))
    → AreBare h (node_count h) balls → boxes ≡ replicate (node_count h) None
    → AreGiven h 0 balls boxes
given_none h balls boxes bare none =
    let n = node_count h in
    let boxes_len : length boxes ≡ n = ap length none ∙ length-replicate n None in
    let radius = λ (b : Ball). b.radius in
    record {
      balls_len = bare.len;
      boxes_len = boxes_len;
      places = λ v l. bare_reads (λ (b : Ball). b.place) h n balls bare v origin l;
      errors = λ v l. bare_reads (λ (b : Ball). b.error) h n balls bare v 0 l;
      radii = λ l m. absurd (omega arith);
      boxes = λ l m. absurd (omega arith);
      small_radii =
          λ v l. (let len = bare.len in let m : v < n = omega (arith, length-map balls radius) in
          let is = bare_reads radius h n balls bare v 0 m in omega arith);
      small_boxes =
          λ v l. subst (λ (b : Option NormalBox). IfSome b IsSmallBox)
          (sym (no_box n boxes none v (omega arith))) tt;
    }

-- what the nodes of the first leaves have, when the next leaf's node is given its own
given_one : {A : Type 0} (h : Hierarchy) → HasShape h
    → (d : A) (own : ℕ → A) (n : ℕ) (old new : List A) (x : A) → n < leaf_count h
    → length old ≡ node_count h →
    ((l : ℕ) → l < n → get_or old (leaf_node_of h l) d ≡ own (leaf_node_of h l))
    → x ≡ own (leaf_node_of h n) → new ≡ set old (leaf_node_of h n) x →
    (l : ℕ) → l < n + 1 → get_or new (leaf_node_of h l) d ≡ own (leaf_node_of h l)
given_one h shape d own n old new x below len was is set_new l m =
    let at = leaf_node_of h n in
    ap (λ t. get_or t (leaf_node_of h l) d) set_new
    ∙ elim (cases_eq l n) [
      | inl same ↦ grind (arith, common_steps, get_or, get_or-set_same, leaf_node-lt)
      | inr other ↦
          get_or-set_other old at (leaf_node_of h l) x d
          (leaf_node-apart h shape l n (omega arith) below other)
          ∙ was l (omega (arith, other))
    ]

-- one leaf more
pub given_more : (h : Hierarchy) → HasShape h → (leaves : List LeafBounds) → AreSeen h leaves
    → (n : ℕ) → n < leaf_count h →
    (old new : List Ball) (old_boxes new_boxes : List (Option NormalBox))
    → AreGiven h n old old_boxes →
    length new ≡ length old → places_of new ≡ places_of old → errors_of new ≡ errors_of old →
    radii_of new
    ≡ set (radii_of old) (leaf_node_of h n)
    (root_up (get_or leaves n (bare_leaf_at origin)).square) → AreAtMost 113509 (radii_of new) →
    new_boxes ≡ set old_boxes (leaf_node_of h n) (get_or leaves n (bare_leaf_at origin)).normals
    → AreGiven h (n + 1) new new_boxes
given_more h shape leaves seen n l old new old_boxes new_boxes was len places errors radii small
    boxes =
    let at = leaf_node_of h n in
    let node = leaf_node-lt h shape n l in
    let box = (get_or leaves n (bare_leaf_at origin)).normals in
    let boxes_len = was.boxes_len in
    let leaves_len = seen.len in
    record {
      balls_len = len ∙ was.balls_len;
      boxes_len = ap length boxes ∙ length-set old_boxes at box ∙ was.boxes_len;
      places = subst (ArePlaces h) (sym places) was.places;
      errors = λ v m. ap (λ (t : List ℕ). get_or t v 0) errors ∙ was.errors v m;
      radii = given_one h shape 0 (leaf_radius h) n (radii_of old) (radii_of new) _ l
          (length-map old (λ (b : Ball). b.radius) ∙ was.balls_len) was.radii (seen.radii n l)
          radii;
      boxes = given_one h shape None (box_under h) n old_boxes new_boxes box l was.boxes_len
          was.boxes (seen.boxes n l) boxes;
      small_radii = small;
      small_boxes =
          subst AreSmallBoxes (sym boxes)
          (boxes_set old_boxes at box (omega arith) was.small_boxes (seen.small n (omega arith)).1);
    }

-- all leaves
pub given_all : (h : Hierarchy) → HasShape h
    → (n : ℕ) (balls : List Ball) (boxes : List (Option NormalBox)) → n ≡ leaf_count h
    → AreGiven h n balls boxes → AreOfLeaves h balls boxes
given_all h shape n balls boxes all was = grind (arith, common_steps, get_or, has_leaf)

-- The tables once the records from k on have been gone through.
pub record AreGrown (h : Hierarchy) (first balls : List Ball) (table : List (Option NormalBox))
    (splits : List Ball) (k : ℕ) : Type 0 where
  pub len : length balls ≡ node_count h
  pub places : ArePlaces h (places_of balls)
  pub errors : IsGrown h (errors_of first) (errors_of balls) k
  pub radii : IsGrown h (radii_of first) (radii_of balls) k
  pub boxes : AreJoined h table k
  pub copied : AreCopied h balls splits k

module _ (h : Hierarchy) (shape : HasShape h) (first : List Ball)
    (first_boxes : List (Option NormalBox)) (own : AreOfLeaves h first first_boxes) where
  -- before any record
  pub table_start : (splits : List Ball) → length first ≡ node_count h
      → length first_boxes ≡ node_count h → length splits ≡ record_count h →
      AreAtMost 113509 (radii_of first) → AreSmallBoxes first_boxes
      → AreGrown h first first first_boxes splits (record_count h)
  table_start splits len boxes_len splits_len small small_boxes =
      grind (arith, common_steps, copied_start, grown_start, joined_start, length-map)

  -- one record more
  pub table_step : (old : List Ball) (old_boxes new_boxes : List (Option NormalBox))
      (old_splits : List Ball) (k : ℕ) (b : Ball) → k < record_count h
      → AreGrown h first old old_boxes old_splits (suc k) →
      b.place ≡ place_of_node h (s_of h k) →
      b.error ≡ grown_at h (errors_of old) k
      → b.error ≤ 113509 * (1 + (record_count h - suc k)) + 113509 →
      b.radius ≡ grown_at h (radii_of old) k
      → b.radius ≤ 113509 * (1 + (record_count h - suc k)) + 113509 →
      new_boxes ≡ set old_boxes (s_of h k)
      (join (get_or old_boxes (t_of h k) None) (get_or old_boxes (u_of h k) None)) →
      AreGrown h first (set old (s_of h k) b) new_boxes (set old_splits k b) k
  table_step old old_boxes new_boxes old_splits k b l was place error small_error radius
      small_radius boxes =
      let node = split_node h shape k l in
      let len = was.len in
      record {
        len = length-set old (s_of h k) b ∙ len;
        places = places_set h old (s_of h k) b (omega arith) was.places place;
        errors = subst (λ (t : List ℕ). IsGrown h (errors_of first) t k)
            (sym (map-set (λ (b : Ball). b.error) old (s_of h k) b))
            (grown_step h shape (errors_of first) (errors_of old) k b.error l was.errors error
            small_error);
        radii = subst (λ (t : List ℕ). IsGrown h (radii_of first) t k)
            (sym (map-set (λ (b : Ball). b.radius) old (s_of h k) b))
            (grown_step h shape (radii_of first) (radii_of old) k b.radius l was.radii radius
            small_radius);
        boxes = subst (λ (t : List (Option NormalBox)). AreJoined h t k) (sym boxes)
            (joined_step h shape old_boxes k
            (join (get_or old_boxes (t_of h k) None) (get_or old_boxes (u_of h k) None)) l
            was.boxes refl);
        copied = copied_step h shape old old_splits len k b l was.copied;
      }

  -- all records
  module _ (balls : List Ball) (boxes : List (Option NormalBox)) (splits : List Ball)
      (was : AreGrown h first balls boxes splits 0) where
    final_errors : (v : ℕ) → v < node_count h → get_or (errors_of balls) v 0 ≡ error_of h v
    unfolding error_of
    final_errors v l =
        was.errors.each (λ v. 0) (λ v m none. own.errors v m) v l (λ j e. omega arith)

    final_radii : (v : ℕ) → v < node_count h → get_or (radii_of balls) v 0 ≡ radius_of h v
    unfolding radius_of
    final_radii v l = was.radii.each (leaf_radius h) own.radii v l (λ j e. omega arith)

    split_reads : {A : Type 0} (f : Ball → A) (d : A) (k : ℕ) → k < record_count h
        → f (get_or splits k (bare_at origin)) ≡ get_or (map f balls) (s_of h k) d
    split_reads f d k l = copied_reads h shape balls splits was.len f d was.copied k l

    pub table_bounds : AreBoundsOf h (bound_lists_of balls boxes splits)
    table_bounds = record {
      nodes = was.errors.len;
      records = was.copied.len;
      places = was.places;
      errors = final_errors;
      radii = final_radii;
      boxes = λ v l. was.boxes.each v l (λ j e. omega arith);
      splits = λ k l.
          let node = split_node h shape k l in
          record {
            place = split_reads (λ (b : Ball). b.place) origin k l ∙ was.places (s_of h k) node;
            error = split_reads (λ (b : Ball). b.error) 0 k l ∙ final_errors (s_of h k) node;
            radius = split_reads (λ (b : Ball). b.radius) 0 k l ∙ final_radii (s_of h k) node;
          };
    }

    pub table_small : IsBounds (bound_lists_of balls boxes splits)
    table_small =
        let few = few_nodes h shape in
        let errors = was.errors.len in
        let radii = was.radii.len in
        let joined = was.boxes.len in
        let copied = was.copied.len in
        record {
          as_many_radii = radii ∙ sym errors;
          as_many_boxes = joined ∙ sym errors;
          small_errors = λ v l. (let s = was.errors.small v (omega arith) in omega arith);
          small_radii = λ v l. (let s = was.radii.small v (omega arith) in omega arith);
          small_boxes = λ v l. was.boxes.small v (omega arith);
          small_split_errors = λ k l.
              let m : k < record_count h = omega arith in
              let s = was.errors.small (s_of h k) (split_node h shape k m) in
              let is = split_reads (λ (b : Ball). b.error) 0 k m in
              omega arith;
          small_split_radii = λ k l.
              let m : k < record_count h = omega arith in
              let s = was.radii.small (s_of h k) (split_node h shape k m) in
              let is = split_reads (λ (b : Ball). b.radius) 0 k m in
              omega arith;
        }
