-- The corners of the node of a record are dealt to its children, some at a time. What is left to
-- deal ends where dealing all of them does.
use Rattle.std.proofs.Common.{◌≡◌, ℕ, ◌+◌, ◌<◌, Some, true, false, not, eqb, List, [], ◌∷◌}
use Rattle.std.proofs.lemmas.Grind.{common_steps}
use Rattle.std.proofs.Common.{◌++◌, length, reverse, take, drop, get_or, ◌⊎◌, inl, inr, refl, sym}
use Rattle.std.proofs.Common.{ap, ◌∙◌, arith, length-append}
use Rattle.std.specs.Prelude.{cond}
use Rattle.std.specs.List.{filter}
use Rattle.std.proofs.Math.Seq.{take-append_seam, drop-append_seam, drop-cons}
use Rattle.std.proofs.lemmas.List.{append-nil, take-take, drop-take, get_or-take, length-take}
use Rattle.std.proofs.lemmas.Bool.{eq-eqb, ne_eqb, cases_eq, not_from_false}
use Rattle.std.proofs.lemmas.Bool.{not_from_true, cond-true, cond-false}
use Rattle.pm_links.specs.Lists.{Lists, list_of, first_of, with_first, without_item, AreFirst}
use Rattle.pm_links.specs.Lists.{IsSound}
use Rattle.pm_links.specs.Dealt.{dealt}
use Rattle.pm_links.proofs.Dealing.{DealsOne, dealt_turn, dealt_end}
use Rattle.pm_forest.specs.Forest.{Hierarchy, node_count, record_count, s_of, t_of, u_of, holds}
use Rattle.pm_forest.specs.Fronts.{child_of}
use Rattle.pm_forest.specs.Faces.{from_leaf}
use Rattle.pm_forest.specs.Rules.{HasShape}
use Rattle.pm_front.specs.Corners.{goes_to, dealt_list}
use Rattle.pm_front.proofs.CornerTables.{children-differ}
use Rattle.pm_front.proofs.ListLaws.{filter-same}

-- ---- the first ones of a list

-- the one at a place, where the list is what is left after those before it
pub next_of_first : (these xs left : List ℕ) (i : ℕ) → AreFirst these xs → i < length these
    → left ≡ drop i xs → left ≡ get_or these i 0 ∷ drop (i + 1) xs
next_of_first these xs left i first l rest =
    grind (arith, common_steps, drop-cons, get_or, get_or-take, length-take)

-- in two parts
pub front_is_first : (front back xs : List ℕ) → AreFirst (front ++ back) xs → AreFirst front xs
front_is_first front back xs first =
    sym (take-append_seam front back) ∙ ap (take (length front)) first
    ∙ take-take (length front) (length (front ++ back)) xs (omega (arith, length-append front back))

pub back_is_next : (front back xs : List ℕ) → AreFirst (front ++ back) xs
    → AreFirst back (drop (length front) xs)
back_is_next front back xs first =
    sym (drop-append_seam front back) ∙ ap (drop (length front)) first
    ∙ ap (λ n. drop (length front) (take n xs)) (length-append front back)
    ∙ drop-take (length front) (length back) xs

-- ---- one corner

goes : (h : Hierarchy) (k x : ℕ) → (child_of h k x ≡ t_of h k)
    × (eqb (child_of h k x) (t_of h k) ≡ true) ⊎ (child_of h k x ≡ u_of h k)
    × (eqb (child_of h k x) (t_of h k) ≡ false)
goes h k x = grind (arith, common_steps, cond-false, cond-true, eq-eqb, ne_eqb)

pub deals_one : (h : Hierarchy) → HasShape h → (k : ℕ) → k < record_count h
    → (v w : Lists) (t u x : ℕ) → t ≡ t_of h k → u ≡ u_of h k → u < node_count h → IsSound v
    → length v.lists ≡ node_count h →
    first_of (list_of v (s_of h k)) ≡ Some x
    → w ≡ with_first (without_item v x) (cond (holds h t (from_leaf h x)) t u) x →
    DealsOne (goes_to h k (t_of h k)) v w (s_of h k) (t_of h k) (u_of h k) x
deals_one h shape k l v w t u x t_is u_is low sound heads first put =
    let d = children-differ h shape k l in
    let to = ap (λ n. cond (holds h n (from_leaf h x)) n u) t_is
    ∙ ap (λ n. cond (holds h (t_of h k) (from_leaf h x)) (t_of h k) n) u_is in
    dealt_turn (goes_to h k (t_of h k)) v (without_item v x) w (s_of h k) (t_of h k) (u_of h k)
    (child_of h k (from_leaf h x)) x sound
    d.0 d.1 d.2 (omega (arith, u_is, low, heads)) (omega (arith, u_is, low, heads))
    (goes h k (from_leaf h x)) first refl (put ∙ ap (λ n. with_first (without_item v x) n x) to)

-- ---- all of them

to_u : (h : Hierarchy) (k e : ℕ) → not (goes_to h k (t_of h k) e) ≡ goes_to h k (u_of h k) e
to_u h k e = grind (arith, common_steps, eq-eqb, goes, ne_eqb, not_from_false, not_from_true)

dealt-is : (h : Hierarchy) → HasShape h → (k : ℕ) → k < record_count h → (v : Lists)
    → list_of v (t_of h k) ≡ [] → list_of v (u_of h k) ≡ [] → (g : ℕ) →
    dealt (goes_to h k (t_of h k)) v (s_of h k) (t_of h k) (u_of h k) g ≡ dealt_list h k v.lists g
dealt-is h shape k l v t_empty u_empty g =
    let s = s_of h k in
    let t = t_of h k in
    let u = u_of h k in
    let d = children-differ h shape k l in
    let from = list_of v s in
    let goes_t = goes_to h k t in
    elim (cases_eq g s) [
      | inl is ↦ rw (eq-eqb g s is) refl
      | inr not_s ↦
          elim (cases_eq g t) [
            | inl is ↦
                rw (ne_eqb g s not_s, eq-eqb g t is)
                (ap (λ k. reverse (filter goes_t from) ++ k) t_empty
                ∙ append-nil (reverse (filter goes_t from))
                ∙ ap (λ w. reverse (filter (goes_to h k w) from)) (sym is))
            | inr not_t ↦
                elim (cases_eq g u) [
                  | inl is ↦
                      rw (ne_eqb g s not_s, ne_eqb g t not_t, eq-eqb g u is)
                      (ap (λ k. reverse (filter (λ e. not (goes_t e)) from) ++ k) u_empty
                      ∙ append-nil (reverse (filter (λ e. not (goes_t e)) from))
                      ∙ ap reverse
                      (filter-same (λ e. not (goes_t e)) (goes_to h k u) from (to_u h k)
                      ∙ ap (λ w. filter (goes_to h k w) from) (sym is)))
                  | inr not_u ↦
                      rw (ne_eqb g s not_s, ne_eqb g t not_t, ne_eqb g u not_u) refl
                ]
          ]
    ]

-- none is left
pub dealt-all : (h : Hierarchy) → HasShape h → (k : ℕ) → k < record_count h → (v w : Lists)
    → list_of v (t_of h k) ≡ [] → list_of v (u_of h k) ≡ [] → list_of w (s_of h k) ≡ [] → (g : ℕ) →
    dealt (goes_to h k (t_of h k)) w (s_of h k) (t_of h k) (u_of h k) g
    ≡ dealt (goes_to h k (t_of h k)) v (s_of h k) (t_of h k) (u_of h k) g
    → list_of w g ≡ dealt_list h k v.lists g
dealt-all h shape k l v w t_empty u_empty done g same =
    dealt_end (goes_to h k (t_of h k)) w (s_of h k) (t_of h k) (u_of h k) g done ∙ same
    ∙ dealt-is h shape k l v t_empty u_empty g
