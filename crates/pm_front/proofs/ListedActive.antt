-- Which nodes are in the list of active ones, just before a move and after it.
use Rattle.std.proofs.Common.{◌≡◌, ℕ, ◌<◌, Bool, true, false, ◌||◌, eqb}
use Rattle.std.proofs.Common.{List, ◌∷◌, inl, inr, refl, sym, ap, ◌∙◌}
use Rattle.std.proofs.Common.{subst, arith}
use Rattle.std.proofs.lemmas.Bool.{cases_eq, both_ways}
use Rattle.std.proofs.lemmas.Bool.{false_from_ne_true}
use Rattle.pm_links.specs.Lists.{has, list_without}
use Rattle.pm_links.proofs.Without.{has-without, has-without_same, was_there}
use Rattle.pm_forest.specs.Forest.{Hierarchy, node_count, record_count, s_of, Makes}
use Rattle.pm_forest.specs.Forest.{HasForestShape}
use Rattle.pm_forest.specs.Fronts.{IsActive, is_active}
use Rattle.pm_forest.proofs.Active.{is_active-true, is_active-from}
use Rattle.pm_forest.proofs.Ancestors.{there-lt}
use Rattle.pm_forest.proofs.Nodes.{makes_once}
use Rattle.pm_beyond.proofs.PlanLists.{same_bools}
use Rattle.pm_front.specs.Active.{AreActive}
use Rattle.pm_front.specs.Members.{AreSameNumbers}

-- a node is active where it is listed
pub listed_active : (h : Hierarchy) (T : ℕ → Bool) (nodes : List ℕ) → AreActive h T nodes → (v : ℕ)
    → v < node_count h → has nodes v ≡ is_active h T v
listed_active h T nodes right v l =
    same_bools (has nodes v) (is_active h T v) (λ there. ((right.each v).0 there).1)
    (λ active. (right.each v).1 (l, active))

-- those just before a move

pub there-active : (h : Hierarchy) → HasForestShape h → (T : ℕ → Bool) (xs : List ℕ)
    → AreActive h T xs → (v : ℕ) → IsActive h T v → has xs v ≡ true
there-active h shape T xs nodes v active =
    (nodes.each v).1 (there-lt h shape T v active.0, is_active-from h shape T v active)

pub absent-child : (h : Hierarchy) → HasForestShape h → (T : ℕ → Bool) (xs : List ℕ)
    → AreActive h T xs → (k v : ℕ) → T k ≡ false → Makes h k v → has xs v ≡ false
absent-child h shape T xs nodes k v unsplit made =
    false_from_ne_true (has xs v) (λ there.
    let q = (nodes.each v).0 there in
    elim (is_active-true h shape T v q.0 q.1).0 [
      | inl root ↦ elim made [ inl a ↦ absurd (omega arith) | inr a ↦ absurd (omega arith) ]
      | inr (j, _, in_T, makes) ↦
          both_ways (T k) unsplit (subst (λ n. T n ≡ true) (makes_once h j k v makes made) in_T)
    ])

pub absent-s : (h : Hierarchy) → HasForestShape h → (T : ℕ → Bool) (xs : List ℕ) → AreActive h T xs
    → (k : ℕ) → k < record_count h → T k ≡ true → has xs (s_of h k) ≡ false
absent-s h shape T xs nodes k l split =
    false_from_ne_true (has xs (s_of h k)) (λ there.
    let q = (nodes.each (s_of h k)).0 there in
    (is_active-true h shape T (s_of h k) q.0 q.1).1 k l split refl)

-- what wasn't there isn't there with a number less
pub absent-less : (x y : ℕ) (xs : List ℕ) → has xs y ≡ false → has (list_without x xs) y ≡ false
absent-less x y xs absent =
    false_from_ne_true (has (list_without x xs) y)
    (λ t. both_ways (has xs y) absent (was_there x xs y t).1)

-- ---- a list after a move, and one that has the same numbers

pub same-active : (h : Hierarchy) (T : ℕ → Bool) (xs ys : List ℕ) → AreSameNumbers xs ys
    → AreActive h T ys → AreActive h T xs
same-active h T xs ys are active = record {
  each = λ v. (
    λ t. (active.each v).0 (sym (are.same v) ∙ t),
    λ q. are.same v
        ∙ (active.each v).1 q,
  );
  once = are.once;
}

pub split-listed : (s t u : ℕ) (xs less_s more_u more_t : List ℕ)
    → AreSameNumbers less_s (list_without s xs) → AreSameNumbers more_u (u ∷ less_s)
    → AreSameNumbers more_t (t ∷ more_u) →
    AreSameNumbers more_t (t ∷ u ∷ list_without s xs)
split-listed s t u xs less_s more_u more_t p q r = record {
  same = λ v. r.same v ∙ ap (λ e. eqb t v || e) (q.same v ∙ ap (λ e. eqb u v || e) (p.same v));
  once = r.once;
}

pub same-without : (u : ℕ) (xs ys : List ℕ) → ((v : ℕ) → has xs v ≡ has ys v) → (v : ℕ)
    → has (list_without u xs) v ≡ has (list_without u ys) v
same-without u xs ys same v =
    elim (cases_eq v u) [
      | inl is ↦
          ap (has (list_without u xs)) is ∙ has-without_same u xs ∙ sym (has-without_same u ys)
          ∙ ap (has (list_without u ys)) (sym is)
      | inr other ↦ has-without u xs v other ∙ same v ∙ sym (has-without u ys v other)
    ]

pub collapse-listed : (s t u : ℕ) (xs less_t less_u more_s : List ℕ)
    → AreSameNumbers less_t (list_without t xs) → AreSameNumbers less_u (list_without u less_t)
    → AreSameNumbers more_s (s ∷ less_u) →
    AreSameNumbers more_s (s ∷ list_without u (list_without t xs))
collapse-listed s t u xs less_t less_u more_s p q r = record {
  same = λ v. r.same v
      ∙ ap (λ e. eqb s v || e) (q.same v ∙ same-without u less_t (list_without t xs) p.same v);
  once = r.once;
}
