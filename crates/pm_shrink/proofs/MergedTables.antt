-- The other tables after a collapse: what stands across each side, and the places.
use Rattle.std.proofs.Common.{◌≡◌, ℕ, ◌+◌, ◌<◌, ◌≤◌, List, [], ◌∷◌, ◌++◌, length, get_or, set, take}
use Rattle.std.proofs.Common.{Option, Some, None, ◌⊎◌, inl, inr, refl, sym, ap, ◌∙◌, arith}
use Rattle.std.proofs.Common.{get_or-set_other, get_or-set_same}
use Rattle.std.specs.Prelude.{option_map}
use Rattle.std.proofs.lemmas.Grind.{common_steps}
use Rattle.std.proofs.lemmas.List.{length-set, take_more_set}
use Rattle.std.proofs.Math.Seq.{take-set-lt}
use Rattle.std.proofs.lemmas.Bool.{cases_eq}
use Rattle.std.proofs.lemmas.Option.{same_Some, none-some}
use Rattle.pm_base.specs.Place.{Place}
use Rattle.pm_base.specs.declared.ids.Side.{Side}
use Rattle.pm_base.specs.declared.log.Gone.{Gone}
use Rattle.pm_base.specs.Sides.{Net, next, prev, Stands, NoSideTwice, twin_of}
use Rattle.pm_base.proofs.Search.{option_cases}
use Rattle.pm_runs.specs.Surfaces.{merged_places}
use Rattle.pm_runs.specs.Pairs.{Runs, Links}
use Rattle.pm_runs.specs.Steps.{side_from_to, side_id, gone_at, gone_of}
use Rattle.pm_runs.specs.Collapses.{RelinksTwins}
use Rattle.pm_runs.proofs.Found.{found-runs, runs-found}
use Rattle.pm_runs.proofs.Present.{option_eq?}
use Rattle.pm_shrink.specs.Writes.{with_across, relinked, side_number}

-- ---- what stands across

pub length-with_across : (table : List (Option ℕ)) (at to : Option Side)
    → length (with_across table at to) ≡ length table
length-with_across table None to = refl
length-with_across table (Some g) to = length-set table g.0 (side_number to)

pub length-relinked : (table : List (Option ℕ)) (o : Option Gone)
    → length (relinked table o) ≡ length table
length-relinked table None = refl
length-relinked table (Some g) =
    length-with_across (with_across table g.first g.second) g.second g.first
    ∙ length-with_across table g.first g.second

numbered : (t : Option ℕ) → side_number (option_map side_id t) ≡ t
numbered None = refl
numbered (Some k) = refl

-- A write that is right where it is, of a table that is right or is written there.
write_right : (table : List (Option ℕ)) (at to : Option ℕ) (e : ℕ) (x : Option ℕ) → e < length table
    → (at ≡ Some e → to ≡ x) → (get_or table e None ≡ x) ⊎ (at ≡ Some e) →
    get_or (with_across table (option_map side_id at) (option_map side_id to)) e None ≡ x
write_right table None to e x l right way = grind (arith, common_steps, none-some)
write_right table (Some g) to e x l right way =
    grind (
      arith,
      common_steps,
      numbered to,
      cases_eq e g,
      get_or-set_same,
      get_or-set_other,
      same_Some,
    )

-- Both writes of one face that goes.
face_right : {m : Net} → NoSideTwice m → (p q : ℕ) (table : List (Option ℕ)) (e : ℕ)
    (x : Option ℕ) → e < length table →
    ((y : ℕ) → Runs m y p q → (twin_of m (next y) ≡ Some e → twin_of m (prev y) ≡ x)
    × (twin_of m (prev y) ≡ Some e → twin_of m (next y) ≡ x)) →
    (get_or table e None ≡ x)
    ⊎ ((y : ℕ) × Runs m y p q × ((twin_of m (next y) ≡ Some e) ⊎ (twin_of m (prev y) ≡ Some e)))
    → get_or (relinked table (gone_of m p q)) e None ≡ x
face_right {m} once p q table e x l right way =
    elim (option_cases (side_from_to m p q)) [
      | inl none ↦
          ap (λ o. get_or (relinked table (option_map (gone_at m) o)) e None) none
          ∙ elim way [
            | inl k ↦ k
            | inr (y, r, hit) ↦
                absurd (none-some y (sym none ∙ runs-found m p q once y r))
          ]
      | inr (y, is) ↦
          let r = found-runs m p q y is in
          let first = twin_of m (next y) in
          let second = twin_of m (prev y) in
          let one = with_across table (option_map side_id first) (option_map side_id second) in
          let len : length one ≡ length table =
          length-with_across table (option_map side_id first) (option_map side_id second) in
          ap (λ o. get_or (relinked table (option_map (gone_at m) o)) e None) is
          ∙ elim (hit_second way y r) [
            | inr at ↦ write_right one second first e x (omega arith) (right y r).1 (inr at)
            | inl rest ↦ write_right one second first e x (omega arith) (right y r).1
                (inl (write_right table first second e x l (right y r).0 rest))
          ]
    ]
  where
    hit_second : (get_or table e None ≡ x)
        ⊎ ((y : ℕ) × Runs m y p q × ((twin_of m (next y) ≡ Some e) ⊎ (twin_of m (prev y) ≡ Some e)))
        → (y : ℕ) → Runs m y p q →
        ((get_or table e None ≡ x) ⊎ (twin_of m (next y) ≡ Some e)) ⊎ (twin_of m (prev y) ≡ Some e)
    hit_second way y r = grind (arith, common_steps, once)

abbrev Hits : Net → ℕ → ℕ → ℕ → Type 0
Hits m p q e =
    (y : ℕ) × Runs m y p q × ((twin_of m (next y) ≡ Some e) ⊎ (twin_of m (prev y) ≡ Some e))

hits? : (m : Net) → NoSideTwice m → (p q e : ℕ) → Hits m p q e ⊎ (Hits m p q e → ⊥)
hits? m once p q e =
    elim (option_cases (side_from_to m p q)) [
      | inl none ↦ inr (λ (y, r, hit). none-some y (sym none ∙ runs-found m p q once y r))
      | inr (y, is) ↦
          let r = found-runs m p q y is in
          let only : (z : ℕ) → Runs m z p q → z ≡ y =
          λ z w. once z y w.stands r.stands (w.begins ∙ sym r.begins) (w.ends ∙ sym r.ends) in
          let first = option_eq? (twin_of m (next y)) e in
          let second = option_eq? (twin_of m (prev y)) e in
          grind (arith, common_steps)
    ]

module _ {m n : Net} {a b : ℕ} (once : NoSideTwice m) (relinks : RelinksTwins m n a b) where
  -- Each side that stands after the collapse has its new twin.
  pub across-merged : (table : List (Option ℕ)) (e : ℕ) → e < length table → Stands n e
      → get_or table e None ≡ twin_of m e →
      get_or (relinked (relinked table (gone_of m a b)) (gone_of m b a)) e None ≡ twin_of n e
  across-merged table e l st was =
      let right : (y : ℕ) → Links m y a b
      → (twin_of m (next y) ≡ Some e → twin_of m (prev y) ≡ twin_of n e)
      × (twin_of m (prev y) ≡ Some e → twin_of m (next y) ≡ twin_of n e)
      = λ y links.
      ((λ k. sym (relinks.first y e links k).1), (λ k. sym (relinks.second y e links k).1)) in
      let one = relinked table (gone_of m a b) in
      let len : length one ≡ length table = length-relinked table (gone_of m a b) in
      face_right once b a one e (twin_of n e) (omega arith) (λ y r. right y (inr r))
      (elim (hits? m once b a e) [
        | inl hit ↦ inr hit
        | inr off_right ↦
            inl (face_right once a b table e (twin_of n e) l (λ y r. right y (inl r))
            (elim (hits? m once a b e) [
              | inl hit ↦ inr hit
              | inr off_left ↦ inl (was ∙ sym (relinks.others e st (λ x links. (
                (λ k. elim links [
                  | inl r ↦ off_left (x, r, inl k)
                  | inr r ↦
                      off_right (x, r, inl k)
                ]),
                (λ k. elim links [
                  | inl r ↦ off_left (x, r, inr k)
                  | inr r ↦
                      off_right (x, r, inr k)
                ]),
              ))))
            ]))
      ])

-- ---- places

pub places-merged : (places : List (Option Place)) (next a b : ℕ) (place : Place) → a < next
    → b < next → next < length places →
    take (next + 1) (set (set (set places a None) b None) next (Some place))
    ≡ merged_places a b place (take next places)
places-merged places next a b place la lb ln =
    let two : List (Option Place) = set (set places a None) b None in
    let len : length two ≡ length places =
    length-set (set places a None) b None ∙ length-set places a None in
    take_more_set two next (Some place) (omega arith)
    ∙ ap (λ k. k ++ Some place ∷ []) (take-set-lt next (set places a None) b None lb
    ∙ ap (λ k. set k b None) (take-set-lt next places a None la))

pub places-fresh : (places : List (Option Place)) (next a b v : ℕ) (place : Place)
    → (a < next) × (b < next) → next + 1 ≤ v → get_or places v None ≡ None →
    get_or (set (set (set places a None) b None) next (Some place)) v None ≡ None
places-fresh places next a b v place (la, lb) le fresh =
    grind (arith, common_steps, get_or-set_other)
