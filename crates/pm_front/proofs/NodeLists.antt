-- Lists by node, the corners of a record, and the corner lists of the full front.
use Rattle.std.proofs.Common.{◌≡◌, ◌↔◌, ℕ, ◌+◌, ◌*◌, ◌<◌, ◌≤◌, leb, ltb, Bool, true, List, []}
use Rattle.std.proofs.lemmas.Grind.{common_steps}
use Rattle.std.proofs.Common.{length, sym, ◌∙◌, subst, arith}
use Rattle.std.proofs.lemmas.List.{ext_get_or, get_or_past}
use Rattle.std.proofs.lemmas.List.FromFn.{length-map-range_with_len, get_or-map-range_with_len}
use Rattle.std.proofs.lemmas.Bool.{and_parts, and_from, eqb-true, eq-eqb, le-leb, lt-ltb, leb-true}
use Rattle.std.proofs.lemmas.Bool.{ltb-true, false≢true}
use Rattle.pm_links.specs.Lists.{has, IsOnce}
use Rattle.pm_forest.specs.Forest.{Hierarchy, node_count}
use Rattle.pm_forest.specs.Fronts.{ancestor_of, every}
use Rattle.pm_forest.specs.Faces.{first_face, face_count, from_leaf}
use Rattle.pm_forest.specs.Kept.{is_shown}
use Rattle.pm_base.specs.Counts.{numbers_below}
use Rattle.pm_front.specs.Corners.{listed, by_node, is_under, full_list, full_lists, is_between}
use Rattle.pm_front.specs.Corners.{AreCorners}
use Rattle.pm_front.proofs.ListLaws.{has_filter-parts, has_filter-from, once-filter}

-- ---- lists by node

pub length-by_node : (h : Hierarchy) (f : ℕ → List ℕ) → length (by_node h f) ≡ node_count h
unfolding by_node
length-by_node h f = length-map-range_with_len f 0 (node_count h)

pub listed-by_node : (h : Hierarchy) (f : ℕ → List ℕ) (v : ℕ) → v < node_count h
    → listed (by_node h f) v ≡ f v
unfolding by_node
listed-by_node h f v l = get_or-map-range_with_len f 0 (node_count h) v v [] l (omega arith)

pub listed-past : (h : Hierarchy) (f : ℕ → List ℕ) (v : ℕ) → node_count h ≤ v
    → listed (by_node h f) v ≡ []
listed-past h f v l = get_or_past (by_node h f) v [] (omega (arith, length-by_node h f))

-- lists that are the same at each node are the same
pub by_node-exact : (h : Hierarchy) (f : ℕ → List ℕ) (ls : List (List ℕ)) → length ls ≡ node_count h
    →
    ((v : ℕ) → v < node_count h → listed ls v ≡ f v) → ls ≡ by_node h f
by_node-exact h f ls len each =
    ext_get_or [] ls (by_node h f) (len ∙ sym (length-by_node h f)) (λ v l.
    let low : v < node_count h = omega arith in each v low ∙ sym (listed-by_node h f v low))

-- what each list has, from what the lists of nodes have
pub each_by_node : (h : Hierarchy) (f : ℕ → List ℕ) (P : ℕ → ℕ → Type 0)
    → ((v e : ℕ) → v < node_count h → (has (f v) e ≡ true) ↔ P v e) →
    ((v e : ℕ) → P v e → v < node_count h) → (v e : ℕ) → (has (listed (by_node h f) v) e ≡ true)
    ↔ P v e
each_by_node h f P each low v e =
    grind (arith, common_steps, false≢true, listed-by_node, listed-past)

pub once_by_node : (h : Hierarchy) (f : ℕ → List ℕ) → ((v : ℕ) → v < node_count h → IsOnce (f v))
    → (v : ℕ) → IsOnce (listed (by_node h f) v)
once_by_node h f once v = grind (arith, common_steps, listed-by_node, listed-past)

-- ---- the corners of a record

abbrev pub is_corner_of : Hierarchy → ℕ → ℕ → Bool
is_corner_of h k e = is_between (3 * first_face h k) (3 * first_face h (k + 1)) e

pub corner_of-parts : (h : Hierarchy) (k e : ℕ) → is_corner_of h k e ≡ true
    → (3 * first_face h k ≤ e) × (e < 3 * first_face h (k + 1))
corner_of-parts h k e t =
    let p = and_parts (leb (3 * first_face h k) e) (ltb e (3 * first_face h (k + 1))) t in
    (leb-true (3 * first_face h k) e p.0, ltb-true e (3 * first_face h (k + 1)) p.1)

pub corner_of-from : (h : Hierarchy) (k e : ℕ) → 3 * first_face h k ≤ e
    → e < 3 * first_face h (k + 1) → is_corner_of h k e ≡ true
corner_of-from h k e low high =
    and_from (leb (3 * first_face h k) e) (ltb e (3 * first_face h (k + 1)))
    (le-leb (3 * first_face h k) e low) (lt-ltb e (3 * first_face h (k + 1)) high)

-- ---- the full front

pub full-corners : (h : Hierarchy) → ((e : ℕ) → is_shown h every e ≡ true)
    → ((e : ℕ) → e < 3 * face_count h → ancestor_of h every (from_leaf h e) < node_count h) →
    ((n e : ℕ) → (has (numbers_below n) e ≡ true) ↔ (e < n)) → ((n : ℕ) → IsOnce (numbers_below n))
    → AreCorners h every (full_lists h)
full-corners h shown low member once = record {
  nodes = length-by_node h (full_list h);
  each = each_by_node h (full_list h) (λ v e. (e < 3 * face_count h) × (is_shown h every e ≡ true)
      × (ancestor_of h every (from_leaf h e) ≡ v))
      (λ v e l. (
        λ t. (
            let p =
            has_filter-parts (is_under h every v) (numbers_below (3 * face_count h)) e t in (
              (member (3 * face_count h) e).0 p.1,
              shown e,
              eqb-true (ancestor_of h every (from_leaf h e)) v p.0,
            )
            ),
        λ p. has_filter-from (is_under h every v) (numbers_below (3 * face_count h)) e
            (eq-eqb (ancestor_of h every (from_leaf h e)) v p.2)
            ((member (3 * face_count h) e).1 p.0),
      ))
      (λ v e p. subst (λ n. n < node_count h) p.2 (low e p.0));
  once = once_by_node h (full_list h)
      (λ v l. once-filter (is_under h every v) (numbers_below (3 * face_count h))
      (once (3 * face_count h)));
}
