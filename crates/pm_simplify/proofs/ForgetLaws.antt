-- Which keys go with the faces that a collapse drops.
use Rattle.std.proofs.Common.{◌≡◌, ◌≢◌, ℕ, ◌+◌, ◌*◌, ◌<◌, ◌≤◌, ◌⊎◌, zero, suc, Option, Some, None}
use Rattle.std.proofs.lemmas.Grind.{common_steps}
use Rattle.std.proofs.Common.{[], ◌∷◌, slice_set, inl, inr, refl, sym, ap, ◌∙◌, subst, arith}
use Rattle.std.specs.Prelude.{option_map, IfSome}
use Rattle.std.proofs.lemmas.List.{get_or-set_other}
use Rattle.std.proofs.lemmas.Option.{none-some, same_Some}
use Rattle.pm_base.specs.declared.ids.Side.{Side}
use Rattle.pm_base.specs.declared.log.Gone.{Gone}
use Rattle.pm_base.specs.Sides.{Net, face_of, next, prev, side_count, NoSideTwice, twin_of}
use Rattle.pm_base.proofs.Search.{option_cases}
use Rattle.pm_queue.specs.Entries.{Entries, key_at}
use Rattle.pm_runs.specs.Pairs.{Runs, Links}
use Rattle.pm_runs.specs.Steps.{side_from_to, side_id, gone_at, gone_of}
use Rattle.pm_runs.proofs.Found.{found-runs}
use Rattle.pm_shrink.proofs.GoneLaws.{if_gone, gone_is}
use Rattle.pm_simplify.specs.Forgetting.{without_key, without_keys_of, forgotten}

-- Each item has the key that it had, or none.
abbrev pub Loses : Entries → Entries → Type 0
Loses old new = (i : ℕ) → (key_at new i ≡ key_at old i) ⊎ (key_at new i ≡ None)

loses_trans : (x y z : Entries) → Loses x y → Loses y z → Loses x z
loses_trans x y z first second i =
    elim (second i) [
      | inr none ↦ inr none
      | inl same ↦ elim (first i) [ inl also ↦ inl (same ∙ also) | inr none ↦ inr (same ∙ none) ]
    ]

loses_none : (x y : Entries) → Loses x y → (i : ℕ) → key_at x i ≡ None → key_at y i ≡ None
loses_none x y loses i is = elim (loses i) [ inl same ↦ same ∙ is | inr none ↦ none ]

set_none_same : (m : Entries) (i : ℕ) → key_at (slice_set m i None) i ≡ None
set_none_same [] i = refl
set_none_same (o ∷ m) zero = refl
set_none_same (o ∷ m) (suc i) = set_none_same m i

set_none_loses : (m : Entries) (j : ℕ) → Loses m (slice_set m j None)
set_none_loses m j i = grind (arith, common_steps, get_or-set_other, set_none_same, slice_set)

side_loses : (m : Entries) (s : Option Side) → Loses m (without_key m s)
side_loses m None i = inl refl
side_loses m (Some s) i = set_none_loses m s.0 i

side_clear : (m : Entries) (s : Option Side) (i : ℕ) → s ≡ Some (side_id i)
    → key_at (without_key m s) i ≡ None
side_clear m s i is =
    subst (λ (t : Option Side). key_at (without_key m t) i ≡ None) (sym is) (set_none_same m i)

side_spares : (m : Entries) (s : Option Side) (i : ℕ) → (s ≡ Some (side_id i) → ⊥)
    → key_at (without_key m s) i ≡ key_at m i
side_spares m None i off = refl
side_spares m (Some s) i off =
    get_or-set_other m s.0 i None None (λ is. off (ap (λ (x : ℕ). Some (side_id x)) (sym is)))

module _ (m : Entries) (f : ℕ) where
  abbrev one : Entries
  one = slice_set m (3 * f) None

  abbrev two : Entries
  two = slice_set (slice_set m (3 * f) None) (3 * f + 1) None

  face_loses : Loses m (without_keys_of m f)
  face_loses = grind (arith, common_steps, loses_trans, set_none_loses)

  face_clear : (i : ℕ) → face_of i ≡ f → key_at (without_keys_of m f) i ≡ None
  face_clear i is =
      grind (
        arith,
        common_steps,
        loses_none two,
        loses_none one two (set_none_loses one (3 * f + 1)) i,
        set_none_loses two (3 * f + 2),
        set_none_loses one (3 * f + 1),
        set_none_same m (3 * f),
        set_none_same one (3 * f + 1),
        set_none_same two (3 * f + 2),
      )

  face_spares : (i : ℕ) → face_of i ≢ f → key_at (without_keys_of m f) i ≡ key_at m i
  face_spares i off = grind (arith, common_steps, get_or-set_other)

forgotten_loses : (m : Entries) (g : Option Gone) → Loses m (forgotten m g)
forgotten_loses m None = λ i. inl refl
forgotten_loses m (Some g) =
    let face : Entries = without_keys_of m g.face.0 in
    let first : Entries = without_key face g.first in
    loses_trans m first (forgotten m (Some g))
    (loses_trans m face first (face_loses m g.face.0) (side_loses face g.first))
    (side_loses first g.second)

-- Side e is in the face of side x, or stands across one of that face's other two sides.
abbrev pub IsBeside : Net → ℕ → ℕ → Type 0
IsBeside n x e =
    (face_of e ≡ face_of x) ⊎ ((twin_of n (next x) ≡ Some e) ⊎ (twin_of n (prev x) ≡ Some e))

side_back : (t : Option ℕ) (e : ℕ) → option_map side_id t ≡ Some (side_id e) → t ≡ Some e
side_back None e is = absurd (none-some (side_id e) is)
side_back (Some k) e is = ap (λ (s : Side). Some s.0) (same_Some (side_id k) (side_id e) is)

module _ (n : Net) (x e : ℕ) (m : Entries) where
  abbrev face : Entries
  face = without_keys_of m (face_of x)

  abbrev first : Entries
  first = without_key (without_keys_of m (face_of x)) (option_map side_id (twin_of n (next x)))

  at_clear : IsBeside n x e → key_at (forgotten m (Some (gone_at n x))) e ≡ None
  at_clear beside =
      grind (
        arith,
        common_steps,
        face_clear m (face_of x) e,
        loses_none first,
        loses_none face first (side_loses face (option_map side_id (twin_of n (next x)))) e,
        side_clear face (option_map side_id (twin_of n (next x))) e,
        side_clear first (option_map side_id (twin_of n (prev x))) e,
        side_loses first (option_map side_id (twin_of n (prev x))),
        side_loses face (option_map side_id (twin_of n (next x))),
      )

  at_spares : (IsBeside n x e → ⊥) → key_at (forgotten m (Some (gone_at n x))) e ≡ key_at m e
  at_spares off =
      side_spares first (option_map side_id (twin_of n (prev x))) e
      (λ is. off (inr (inr (side_back (twin_of n (prev x)) e is))))
      ∙ side_spares face (option_map side_id (twin_of n (next x))) e
      (λ is. off (inr (inl (side_back (twin_of n (next x)) e is))))
      ∙ face_spares m (face_of x) e (λ same. off (inl same))

module _ (n : Net) (p q e : ℕ) (m : Entries) where
  gone_clear : NoSideTwice n → (x : ℕ) → Runs n x p q → IsBeside n x e
      → key_at (forgotten m (gone_of n p q)) e ≡ None
  gone_clear once x r beside =
      ap (λ (g : Option Gone). key_at (forgotten m g) e) (gone_is n once x p q r)
      ∙ at_clear n x e m beside

  gone_spares : ((x : ℕ) → Runs n x p q → IsBeside n x e → ⊥)
      → key_at (forgotten m (gone_of n p q)) e ≡ key_at m e
  gone_spares off =
      elim (option_cases (side_from_to n p q)) [
        | inl none ↦ ap (λ (o : Option ℕ). key_at (forgotten m (option_map (gone_at n) o)) e) none
        | inr (x, is) ↦ ap (λ (o : Option ℕ). key_at (forgotten m (option_map (gone_at n) o)) e) is
            ∙ at_spares n x e m (off x (found-runs n p q x is))
      ]

-- The keys that go with both faces.
abbrev pub without_both : Net → ℕ → ℕ → Entries → Entries
without_both n t u m = forgotten (forgotten m (gone_of n t u)) (gone_of n u t)

module _ (n : Net) (t u : ℕ) (m : Entries) where
  pub both_lose : Loses m (without_both n t u m)
  both_lose = grind (arith, common_steps, forgotten_loses, loses_trans)

  pub both_clear : NoSideTwice n → (x e : ℕ) → Links n x t u → IsBeside n x e
      → key_at (without_both n t u m) e ≡ None
  both_clear once x e l beside =
      let one : Entries = forgotten m (gone_of n t u) in
      elim l [
        | inl r ↦ loses_none one (without_both n t u m) (forgotten_loses one (gone_of n u t)) e
            (gone_clear n t u e m once x r beside)
        | inr r ↦ gone_clear n u t e one once x r beside
      ]

  pub both_spare : (e : ℕ) → ((x : ℕ) → Links n x t u → IsBeside n x e → ⊥)
      → key_at (without_both n t u m) e ≡ key_at m e
  both_spare e off =
      let one : Entries = forgotten m (gone_of n t u) in
      gone_spares n u t e one (λ x r. off x (inr r)) ∙ gone_spares n t u e m (λ x r. off x (inl r))

-- A face that goes is one of the net's.
module _ (n : Net) (p q len : ℕ) (all : len ≡ side_count n) (short : n.faces ≤ 1048576) where
  pub gone_small : IfSome (gone_of n p q) (λ g. g.face.0 < 1048576)
  gone_small =
      if_gone n p q (λ g. g.face.0 < 1048576) (λ e r. (let l = r.stands.is_side in omega arith))

  pub gone_within : IfSome (gone_of n p q) (λ g. 3 * g.face.0 + 2 < len)
  gone_within =
      if_gone n p q (λ g. 3 * g.face.0 + 2 < len) (λ e r. (let l = r.stands.is_side in omega arith))
