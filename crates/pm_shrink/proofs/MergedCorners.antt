-- The lists of corners after a collapse.
use Rattle.std.proofs.Common.{◌≡◌, ◌≢◌, ◌↔◌, ℕ, Bool, true, ◌||◌, [], ◌++◌, ◌⊎◌, inl, inr}
use Rattle.std.proofs.Common.{refl, sym, ap, ◌∙◌, subst}
use Rattle.std.proofs.lemmas.Grind.{common_steps}
use Rattle.std.proofs.Common.{arith}
use Rattle.std.proofs.lemmas.Bool.{cases_eq, or_cases, or_left, or_right, false≢true}
use Rattle.pm_base.specs.Sides.{Net, face_of, Stands, NoSideTwice}
use Rattle.pm_links.specs.Lists.{Lists, list_of, has, IsSound}
use Rattle.pm_links.proofs.Members.{has-append}
use Rattle.pm_links.proofs.Calls.{AfterMove}
use Rattle.pm_runs.specs.Surfaces.{merge}
use Rattle.pm_runs.specs.Steps.{gone_of}
use Rattle.pm_runs.specs.Merged.{IsFresh}
use Rattle.pm_runs.specs.Collapses.{DropsFaces}
use Rattle.pm_runs.proofs.Merges.{merge-pair, merge-other}
use Rattle.pm_shrink.specs.Shrinking.{AreCornersAt}
use Rattle.pm_shrink.specs.Writes.{unlisted}
use Rattle.pm_shrink.proofs.GoneLaws.{unlisted-other, unlisted-was, spared-links, links-spared}

-- The faces that hold both a and b of net m go, which leaves net n with k in place of the two; and
-- their corners go from the lists of corners.
pub record AreDropped (m n : Net) (a b k : ℕ) (before mid : Lists) : Type 0 where
  pub once : NoSideTwice m
  pub drops : DropsFaces m n a b k
  pub fresh : IsFresh m k
  pub fan : (v : ℕ) → AreCornersAt m v (list_of before v)
  pub lists : (h : ℕ)
      → list_of mid h ≡ unlisted (gone_of m b a) (unlisted (gone_of m a b) (list_of before h))

-- Two lists are given to a third, one after the other.
pub record AreMerged (a b k : ℕ) (mid one last : Lists) : Type 0 where
  pub differ : a ≢ b
  pub a_not : a ≢ k
  pub b_not : b ≢ k
  pub first : AfterMove mid one a k
  pub second : AfterMove one last b k

-- Both ends become the new vertex.
merge_ends : (a b k : ℕ) → (merge a b k a ≡ k) × (merge a b k b ≡ k)
merge_ends a b k = merge-pair a b k a b (inl (refl, refl))

one_or_none : (a b x : ℕ) → ((x ≡ a) ⊎ (x ≡ b)) ⊎ ((x ≢ a) × (x ≢ b))
one_or_none a b x = grind (arith, common_steps, cases_eq x a, cases_eq x b)

three_ways : (x y z : Bool) → (x || (y || z)) ≡ true
    → (x ≡ true) ⊎ ((y ≡ true) ⊎ (z ≡ true))
three_ways x y z h = grind (arith, common_steps, or_cases)

module _ {m n : Net} {a b k : ℕ} {before mid : Lists} (w : AreDropped m n a b k before mid) where
  -- Between the drops and the renaming: the corners that stay, at their old vertices.
  pub mid_each : (v e : ℕ) → (has (list_of mid v) e ≡ true) ↔ (Stands n e × (m.from e ≡ v))
  mid_each v e = (
    λ h. (
        let (x, spared_right) =
        unlisted-was (gone_of m b a) (unlisted (gone_of m a b) (list_of before v)) e
        (ap (λ k. has k e) (sym (w.lists v)) ∙ h) in
        let (y, spared_left) = unlisted-was (gone_of m a b) (list_of before v) e x in
        let (st, at) = ((w.fan v).each e).0 y in (
          w.drops.stays e st (spared-links m w.once a b (face_of e) spared_left spared_right),
          at,
        )),
    λ (st, at). (
        let (spared_left, spared_right) =
        links-spared m w.once a b (face_of e)
        (λ x links same. w.drops.goes e x links same st) in
        ap (λ k. has k e) (w.lists v)
        ∙ unlisted-other (gone_of m b a) (unlisted (gone_of m a b) (list_of before v)) e
        spared_right
        ∙ unlisted-other (gone_of m a b) (list_of before v) e spared_left
        ∙ ((w.fan v).each e).1 (w.drops.stood e st, at)),
  )

  -- The merge of two lists into a third, which was empty.
  module _ {one last : Lists} (put : AreMerged a b k mid one last) where
    pub second_list : list_of one b ≡ list_of mid b
    second_list = put.first.others b (λ e. put.differ (sym e)) put.b_not

    last_new : list_of last k ≡ list_of mid b
        ++ (list_of mid a ++ list_of mid k)
    last_new = put.second.gained ∙ ap (λ xs. xs ++ list_of one k) second_list
        ∙ ap (λ k. list_of mid b ++ k) put.first.gained

    last_first : list_of last a ≡ []
    last_first = put.second.others a put.differ put.a_not ∙ put.first.emptied

    last_other : (v : ℕ) → v ≢ a → v ≢ b → v ≢ k → list_of last v ≡ list_of mid v
    last_other v x y z = put.second.others v y z ∙ put.first.others v x z

    nothing : (v e : ℕ) → list_of last v ≡ [] → has (list_of last v) e ≡ true → ⊥
    nothing v e none h = false≢true (ap (λ k. has k e) (sym none) ∙ h)

    fresh_mid : (e : ℕ) → Stands n e → m.from e ≢ k
    fresh_mid e st = w.fresh e (w.drops.stood e st)

    -- A corner of one of the two is at the new vertex,
    lands : (e : ℕ) → Stands n e → (m.from e ≡ a) ⊎ (m.from e ≡ b) → n.from e ≡ k
    lands e st (inl at) = w.drops.corners e st ∙ ap (merge a b k) at ∙ (merge_ends a b k).0
    lands e st (inr at) = w.drops.corners e st ∙ ap (merge a b k) at ∙ (merge_ends a b k).1

    -- and each other one stays where it was.
    stays : (e : ℕ) → Stands n e → m.from e ≢ a → m.from e ≢ b → n.from e ≡ m.from e
    stays e st na nb = w.drops.corners e st ∙ merge-other a b k (m.from e) na nb

    was_one : (e : ℕ) → Stands n e → n.from e ≡ k → (m.from e ≡ a) ⊎ (m.from e ≡ b)
    was_one e st at =
        elim (one_or_none a b (m.from e)) [
          | inl way ↦ way
          | inr (na, nb) ↦ absurd (fresh_mid e st (sym (stays e st na nb) ∙ at))
        ]

    at_new : (e : ℕ) → has (list_of last k) e
        ≡ (has (list_of mid b) e || (has (list_of mid a) e || has (list_of mid k) e))
    at_new e = grind (arith, common_steps, last_new, has-append)

    new_to : (e : ℕ) → has (list_of last k) e ≡ true → Stands n e × (n.from e ≡ k)
    new_to e h =
        elim (three_ways (has (list_of mid b) e) (has (list_of mid a) e) (has (list_of mid k) e)
        (sym (at_new e) ∙ h)) [
          | inl x ↦ (let (st, at) = (mid_each b e).0 x in (st, lands e st (inr at)))
          | inr (inl x) ↦ (let (st, at) = (mid_each a e).0 x in (st, lands e st (inl at)))
          | inr (inr x) ↦ (let (st, at) = (mid_each k e).0 x in absurd (fresh_mid e st at))
        ]

    new_from : (e : ℕ) → Stands n e → n.from e ≡ k → has (list_of last k) e ≡ true
    new_from e st at =
        at_new e ∙ elim (was_one e st at) [
          | inl is ↦ or_right (has (list_of mid b) e)
              (has (list_of mid a) e || has (list_of mid k) e)
              (or_left (has (list_of mid a) e) (has (list_of mid k) e) ((mid_each a e).1 (st, is)))
          | inr is ↦ or_left (has (list_of mid b) e)
              (has (list_of mid a) e || has (list_of mid k) e)
              ((mid_each b e).1 (st, is))
        ]

    -- A corner at a vertex that stays.
    other_at : (v e : ℕ) → v ≢ a → v ≢ b → v ≢ k → Stands n e → (n.from e ≡ v) ↔ (m.from e ≡ v)
    other_at v e x y z st =
        elim (one_or_none a b (m.from e)) [
          | inl way ↦ (
            λ at. absurd (z (sym at ∙ lands e st way)),
            λ at. absurd (elim way [ inl is ↦ x (sym at ∙ is) | inr is ↦ y (sym at ∙ is) ]),
          )
          | inr (na, nb) ↦ (λ at. sym (stays e st na nb) ∙ at, λ at. stays e st na nb ∙ at)
        ]

    -- No corner is at one of the two any more.
    none_at : (v e : ℕ) → (v ≡ a) ⊎ (v ≡ b) → Stands n e → n.from e ≡ v → ⊥
    none_at v e which st at =
        elim (one_or_none a b (m.from e)) [
          | inl way ↦
              let new : v ≡ k = sym at ∙ lands e st way in
              elim which [ inl is ↦ put.a_not (sym is ∙ new) | inr is ↦ put.b_not (sym is ∙ new) ]
          | inr (na, nb) ↦
              let same : m.from e ≡ v = sym (stays e st na nb) ∙ at in
              elim which [ inl is ↦ na (same ∙ is) | inr is ↦ nb (same ∙ is) ]
        ]

    last_each : (v e : ℕ) → (has (list_of last v) e ≡ true) ↔ (Stands n e × (n.from e ≡ v))
    last_each v e =
        elim (cases_eq v k) [
          | inl is ↦ subst (λ (w : ℕ). (has (list_of last w) e ≡ true)
              ↔ (Stands n e × (n.from e ≡ w))) (sym is) (new_to e, λ (st, at). new_from e st at)
          | inr vs ↦
              elim (cases_eq v a) [
                | inl is ↦ (
                  λ h. absurd (nothing v e (ap (list_of last) is ∙ last_first) h),
                  λ (st, at). absurd (none_at v e (inl is) st at),
                )
                | inr va ↦
                    elim (cases_eq v b) [
                      | inl is ↦ (
                        λ h. absurd
                            (nothing v e (ap (list_of last) is ∙ put.second.emptied) h),
                        λ (st, at). absurd (none_at v e (inr is) st at),
                      )
                      | inr vb ↦ (
                        λ h. (let (st, at) =
                            (mid_each v e).0 (ap (λ k. has k e) (sym (last_other v va vb vs))
                            ∙ h) in (st, (other_at v e va vb vs st).1 at)),
                        λ (st, at). ap (λ k. has k e) (last_other v va vb vs)
                            ∙ (mid_each v e).1 (st, (other_at v e va vb vs st).0 at),
                      )
                    ]
              ]
        ]

    pub last_fan : IsSound last → (v : ℕ) → AreCornersAt n v (list_of last v)
    last_fan kept v = record { each = last_each v; once = kept.once v }
