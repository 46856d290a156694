-- The lists of a change lead the slots of a buffer from what one front shows to what another does.
use Rattle.std.proofs.Common.{◌≡◌, ◌≢◌, ℕ, suc, zero, ◌<◌, ◌≤◌, ◌&&◌, ◌||◌, not, ◌⊎◌, List, []}
use Rattle.std.proofs.Common.{◌∷◌, length, map, Bool, true, false, inl, inr, refl, sym, ap, subst}
use Rattle.std.proofs.Common.{◌∙◌, arith}
use Rattle.std.specs.List.{All, AllPairs, filter}
use Rattle.std.proofs.lemmas.Bool.{cond_both}
use Rattle.std.proofs.lemmas.List.Elements.{All-filter, filter_passes}
use Rattle.std.proofs.lemmas.List.FromFn.{get_or-range_with_len, length-range_with_len}
use Rattle.std.proofs.lemmas.List.Kept.{AllPairs-filter}
use Rattle.pm_base.specs.Counts.{numbers_below}
use Rattle.pm_forest.specs.Forest.{Hierarchy, node_count}
use Rattle.pm_forest.specs.Fronts.{is_active}
use Rattle.pm_forest.specs.Faces.{face_count}
use Rattle.pm_forest.specs.Kept.{is_kept}
use Rattle.pm_front.specs.Shown.{active_nodes, kept_faces}
use Rattle.pm_morph.specs.Laws.{shown_face_at}
use Rattle.pm_change.specs.Shown.{node_number, face_number, shown_node_at}
use Rattle.pm_change.specs.Changes.{is_gone, is_new_node, is_put, has_moved_corner, gone_nodes}
use Rattle.pm_change.specs.Changes.{gone_faces}
use Rattle.pm_buffers.specs.Buffers.{at, Buffer, IsBuffer}
use Rattle.pm_buffers.specs.Changes.{Has, IsOnce, IsChange, AreChanged}
use Rattle.pm_buffers.specs.declared.tables.TheConstants.{EMPTY}
use Rattle.vdpm_c.specs.Frames.{ShowJust, LeadsTo, SlotsFollowFrames}

-- ---- numbers that pass a test
has_filter : (p : ℕ → Bool) (l : List ℕ) (k : ℕ) → k < length l → p (at l k) ≡ true
    → Has (filter p l) (at l k)
has_filter p [] k low passes = absurd (omega (arith, low))
has_filter p (y ∷ ys) zero low passes =
    cond_both (p y) (y ∷ filter p ys) (filter p ys) (λ (l : List ℕ). Has l y)
    (λ _. (0, omega arith, refl)) (λ fails. absurd (cc (fails, passes)))
has_filter p (y ∷ ys) (suc k) low passes =
    let rest = has_filter p ys k (omega (arith, low)) passes in
    cond_both (p y) (y ∷ filter p ys) (filter p ys) (λ (l : List ℕ). Has l (at ys k))
    (λ _. (suc rest.0, omega (arith, rest.1), rest.2)) (λ _. rest)

module _ (p : ℕ → Bool) (n : ℕ) where
  below : All (λ x. x < n) (numbers_below n)
  below k d low =
      let within : k < n = omega (arith, low, length-range_with_len 0 n) in
      omega (arith, within, get_or-range_with_len 0 n k d within)

  pub from_passing : (x : ℕ) → Has (filter p (numbers_below n)) x → (x < n) × (p x ≡ true)
  from_passing x has = (
    omega (arith, has.2, All-filter p (λ y. y < n) (numbers_below n) below has.0 EMPTY has.1),
    ap p (sym has.2) ∙ filter_passes p (numbers_below n) has.0 EMPTY has.1,
  )

  pub in_passing : (x : ℕ) → x < n → p x ≡ true → Has (filter p (numbers_below n)) x
  in_passing x low passes =
      let is : at (numbers_below n) x ≡ x = omega (arith, get_or-range_with_len 0 n x EMPTY low) in
      subst (Has (filter p (numbers_below n))) is
      (has_filter p (numbers_below n) x (omega (arith, low, length-range_with_len 0 n))
      (ap p is ∙ passes))

  apart : AllPairs (λ x y. x ≢ y) (numbers_below n)
  apart i j d before low e =
      let within : j < n = omega (arith, low, length-range_with_len 0 n) in
      omega (
        arith,
        before,
        e,
        get_or-range_with_len 0 n i d (omega (arith, before, within)),
        get_or-range_with_len 0 n j d within,
      )

  pub once_passing : IsOnce (filter p (numbers_below n))
  once_passing j k before low =
      AllPairs-filter (λ x y. x ≢ y) p (numbers_below n) apart j k EMPTY before low

gone_parts : (a b : Bool) → (a && not b) ≡ true → (a ≡ true) × (b ≡ false)
gone_parts true true e = absurd cc
gone_parts true false e = (refl, refl)
gone_parts false b e = absurd cc

parts_gone : (a b : Bool) → a ≡ true → b ≡ false → (a && not b) ≡ true
parts_gone a b is isnt = rw (is, isnt) refl

not_false : (b : Bool) → ¬ (b ≡ false) → b ≡ true
not_false true isnt = refl
not_false false isnt = absurd (isnt refl)

both_ways : (b : Bool) → (b ≡ true) ⊎ (b ≡ false)
both_ways true = inl refl
both_ways false = inr refl

-- ---- from the numbers that passed before to those that pass now
module _ (n : ℕ) (before now put : ℕ → Bool) (right : (x : ℕ) → put x ≡ true → now x ≡ true)
    (all : (x : ℕ) → now x ≡ true → before x ≡ false → put x ≡ true) (b : Buffer)
    (shows : ShowJust b (filter before (numbers_below n))) (room : n ≤ length b.entries) where
  abbrev gone_list : List ℕ
  gone_list = filter (is_gone before now) (numbers_below n)

  abbrev put_list : List ℕ
  put_list = filter put (numbers_below n)

  gone_of : (x : ℕ) → Has gone_list x → (x < n) × (before x ≡ true) × (now x ≡ false)
  gone_of x has =
      let passes = from_passing (is_gone before now) n x has in
      let parts = gone_parts (before x) (now x) passes.1 in
      (passes.0, parts.0, parts.1)

  put_of : (x : ℕ) → Has put_list x → (x < n) × (now x ≡ true)
  put_of x has =
      let passes = from_passing put n x has in
      (passes.0, right x passes.1)

  never : (x : ℕ) → Has gone_list x → Has put_list x → ⊥
  never x is_gone_too is_put_too =
      absurd (cc ((gone_of x is_gone_too).2, (put_of x is_put_too).1))

  change : IsChange b.entries gone_list put_list
  change = record {
    shown = λ k low.
        let it = gone_of (at gone_list k) (k, low, refl) in
        (shows.shown (at gone_list k)).1 (in_passing before n (at gone_list k) it.0 it.1);
    within = λ k low. omega (arith, room, (put_of (at put_list k) (k, low, refl)).0);
    lists = record {
      gone_once = once_passing (is_gone before now) n;
      put_once = once_passing put n;
      apart = λ j k j_low k_low e. never (at gone_list j) (j, j_low, refl) (k, k_low, sym e);
    };
  }

  there : (c : Buffer) → IsBuffer c → AreChanged b.entries gone_list put_list c.entries
      → ShowJust c (filter now (numbers_below n))
  there c is changed = record {
    shown = λ x. (
      λ shown.
          elim ((changed x).0 shown) [
            | inl has ↦
                let it = put_of x has in
                in_passing now n x it.0 it.1
            | inr stays ↦
                let it = from_passing before n x ((shows.shown x).0 stays.0) in
                in_passing now n x it.0
                (not_false (now x) (λ isnt. stays.1
                (in_passing (is_gone before now) n x it.0
                (parts_gone (before x) (now x) it.1 isnt))))
          ],
      λ has.
          let it = from_passing now n x has in
          (changed x).1 (elim (both_ways (before x)) [
            | inl was ↦ inr (
              (shows.shown x).1 (in_passing before n x it.0 was),
              λ gone. absurd (cc (it.1, (gone_of x gone).2)),
            )
            | inr wasnt ↦ inl (in_passing put n x it.0 (all x it.1 wasnt))
          ]),
    );
    one = λ s t x at_s at_t.
        is.once s t (λ e. at_s.is_item (sym at_s.there ∙ e)) (at_s.there ∙ sym at_t.there);
  }

  pub leads : LeadsTo b gone_list put_list (filter now (numbers_below n))
  leads = record { change = change; there = there }

-- ---- nodes and faces
numbers_of : {A : Type 0} (number : A → ℕ) (it : ℕ → A) → ((x : ℕ) → number (it x) ≡ x)
    → (l : List ℕ) → map number (map it l) ≡ l
numbers_of number it back [] = refl
numbers_of number it back (x ∷ l) = rw (back x, numbers_of number it back l) refl

put_right : (a b c : Bool) → (a && (not b || c)) ≡ true → a ≡ true
put_right true b c e = refl
put_right false b c e = absurd cc

put_all : (a b c : Bool) → a ≡ true → b ≡ false → (a && (not b || c)) ≡ true
put_all a b c is isnt = rw (is, isnt) refl

faces_right : (h : Hierarchy) (S G : ℕ → Bool) (x : ℕ) → is_put h S G x ≡ true
    → is_kept h G x ≡ true
unfolding is_put
faces_right h S G x e = put_right (is_kept h G x) (is_kept h S x) (has_moved_corner h S G x) e

faces_all : (h : Hierarchy) (S G : ℕ → Bool) (x : ℕ) → is_kept h G x ≡ true
    → is_kept h S x ≡ false → is_put h S G x ≡ true
unfolding is_put
faces_all h S G x is isnt =
    put_all (is_kept h G x) (is_kept h S x) (has_moved_corner h S G x) is isnt

pub follow : SlotsFollowFrames
follow h S G b = (
  λ shows room.
      subst (λ (l : List ℕ). LeadsTo b (gone_nodes h S G) l (active_nodes h G))
      (sym (numbers_of node_number (shown_node_at h) (λ x. refl)
      (filter (is_new_node h S G) (numbers_below (node_count h)))))
      (leads (node_count h) (is_active h S) (is_active h G) (is_new_node h S G)
      (λ x e. (gone_parts (is_active h G x) (is_active h S x) e).0)
      (λ x is isnt. parts_gone (is_active h G x) (is_active h S x) is isnt) b shows room),
  λ shows room.
      subst (λ (l : List ℕ). LeadsTo b (gone_faces h S G) l (kept_faces h G))
      (sym (numbers_of face_number (shown_face_at h G) (λ x. refl)
      (filter (is_put h S G) (numbers_below (face_count h)))))
      (leads (face_count h) (is_kept h S) (is_kept h G) (is_put h S G) (faces_right h S G)
      (faces_all h S G) b shows room),
)
