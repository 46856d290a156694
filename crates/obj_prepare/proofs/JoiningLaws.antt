-- The first vertices at their places, as one more vertex is looked at.
use Rattle.std.proofs.Common.{◌≡◌, ◌≢◌, ℕ, ◌+◌, ◌*◌, ◌<◌, ◌≤◌, Bool, true, false, inl, inr}
use Rattle.std.proofs.lemmas.Grind.{common_steps}
use Rattle.std.proofs.Common.{refl, sym, ap, ◌∙◌, subst, Option, Some, None, List, [], ◌∷◌, ◌++◌}
use Rattle.std.proofs.Common.{length, get_or, map, take, arith}
use Rattle.std.specs.Prelude.{ℤ, unsigned_abs}
use Rattle.std.specs.Option.{MatchOption, is_some}
use Rattle.std.specs.Ordering.{nat_cmp}
use Rattle.std.specs.BTreeMap.{BTreeMap, get, is_at, Updates}
use Rattle.std.specs.Map.{lookup}
use Rattle.std.proofs.lemmas.Bool.{cases_eq, cond-true, cond-false, eq-eqb, ne_eqb, true≢false}
use Rattle.std.proofs.lemmas.Nat.{div-mul-add}
use Rattle.std.proofs.lemmas.List.{length_push, get_or_push, get_or_append_left, get_or_read}
use Rattle.std.proofs.lemmas.List.{map_more, take_all}
use borrow.Author.Differences.{ints}
use Rattle.pm_base.specs.declared.mesh.Corners.{Corners}
use Rattle.pm_base.specs.Place.{Place, IsPlace, origin}
use Rattle.pm_base.specs.Sides.{no_corners}
use Rattle.pm_fans.proofs.KeyLaws.{equal_is}
use Rattle.obj_prepare.specs.Named.{is_some_corner, named_in}
use Rattle.obj_prepare.specs.Joining.{place_in_list, IsFirstAt, AreJoined, renamed}
use Rattle.obj_prepare.specs.Firsts.{raised, place_key, IsFirstOf, HasNone, AreFirsts}
use Rattle.obj_prepare.proofs.NamedLaws.{named_at, length-named_in}

pub raised_small : (n : ℤ) → unsigned_abs n ≤ 32767 → raised n < 65536
raised_small n l = omega (arith, ints, l)

raised_is : (n m : ℤ) → unsigned_abs n ≤ 32767 → unsigned_abs m ≤ 32767 → raised n ≡ raised m
    → n ≡ m
raised_is n m ln lm e = omega (arith, ints, ln, lm, e)

two_are : (p q r s : ℕ) → q < 65536 → s < 65536 → p * 65536 + q ≡ r * 65536 + s → (p ≡ r) × (q ≡ s)
two_are p q r s ql sl e = grind (arith, common_steps, div-mul-add)

-- A place is known from its key.
place_is : (p q : Place) → IsPlace p → IsPlace q → place_key p ≡ place_key q → p ≡ q
unfolding place_key
place_is p q a b e =
    let (front, z) =
    two_are (raised p.x * 65536 + raised p.y) (raised p.z) (raised q.x * 65536 + raised q.y)
    (raised q.z) (raised_small p.z a.2) (raised_small q.z b.2) e in
    let (x, y) =
    two_are (raised p.x) (raised p.y) (raised q.x) (raised q.y) (raised_small p.y a.1)
    (raised_small q.y b.1) front in
    rw (raised_is p.x q.x a.0 b.0 x, raised_is p.y q.y a.1 b.1 y, raised_is p.z q.z a.2 b.2 z) refl

some_not_none : (v : ℕ) → Some v ≡ None → ⊥
some_not_none v e = true≢false (ap is_some e)

module _ (places : List Place) (faces : List Corners) where
  -- What the map answers of one key.
  abbrev Answers : ℕ → ℕ → Option ℕ → Type 0
  Answers n key r = MatchOption r (HasNone places faces n key) (IsFirstOf places faces n key)

  -- Before any vertex there is none.
  pub none_first : (firsts : BTreeMap ℕ ℕ) → firsts.entries ≡ [] → AreFirsts places faces 0 firsts
  none_first firsts is key =
      subst (Answers 0 key) (sym (ap (lookup (is_at (nat_cmp key))) is))
      (λ w l. absurd (omega arith))

  module _ (n : ℕ) where
    first_on : (key v : ℕ) → IsFirstOf places faces n key v → IsFirstOf places faces (n + 1) key v
    first_on key v f = grind (arith, common_steps)

    none_on : (key : ℕ) → HasNone places faces n key
        → (is_some_corner faces n ≡ true → place_key (place_in_list places n) ≢ key)
        → HasNone places faces (n + 1) key
    none_on key none here w l names = grind (arith, common_steps)

    answers_on : (key : ℕ) (r : Option ℕ) → Answers n key r
        → (r ≡ None → is_some_corner faces n ≡ true → place_key (place_in_list places n) ≢ key)
        → Answers (n + 1) key r
    answers_on key None h here = none_on key h (here refl)
    answers_on key (Some v) h here = first_on key v h

    -- A vertex that no face names.
    pub unnamed_on : (firsts : BTreeMap ℕ ℕ) → AreFirsts places faces n firsts
        → is_some_corner faces n ≡ false → AreFirsts places faces (n + 1) firsts
    unnamed_on firsts h out key =
        answers_on key (get nat_cmp firsts key) (h key)
        (λ none names has. true≢false (sym names ∙ out))

    module _ (named : is_some_corner faces n ≡ true) (firsts : BTreeMap ℕ ℕ)
        (h : AreFirsts places faces n firsts) (key : ℕ) (p : Place) (l : n < length places)
        (read : p ≡ get_or places n p) (of_p : key ≡ place_key p) (in_p : IsPlace p) where
      spot : p ≡ place_in_list places n
      spot = get_or_read places n p l read origin

      is : key ≡ place_key (place_in_list places n)
      is = of_p ∙ ap place_key spot

      here : IsPlace (place_in_list places n)
      here = subst IsPlace spot in_p

      answer : (r : Option ℕ) → get nat_cmp firsts key ≡ r → Answers n key r
      answer r at = subst (Answers n key) at (h key)

      -- A vertex at a place where there is one.
      pub old_is_first : (u : ℕ) → get nat_cmp firsts key ≡ Some u → IsFirstAt places faces n u
      old_is_first u at =
          let f = answer (Some u) at in
          record {
            named = f.named;
            same = place_is (place_in_list places u) (place_in_list places n) f.place here
                (f.has ∙ is);
            least = λ w l names same. f.least w l names (ap place_key same ∙ sym is);
          }

      pub old_on : (u : ℕ) → get nat_cmp firsts key ≡ Some u → AreFirsts places faces (n + 1) firsts
      old_on u at k =
          answers_on k (get nat_cmp firsts k) (h k)
          (λ none names has. some_not_none u (sym at ∙ ap (get nat_cmp firsts) (is ∙ has) ∙ none))

      -- A vertex at a place where there was none.
      pub new_is_first : get nat_cmp firsts key ≡ None → IsFirstAt places faces n n
      new_is_first at = record {
        named = named;
        same = refl;
        least = λ w l names same. answer None at w l names (ap place_key same ∙ sym is);
      }

      new_of : get nat_cmp firsts key ≡ None → IsFirstOf places faces (n + 1) key n
      new_of at = grind (arith, common_steps, here, is, answer None at)

      pub new_on : (more : BTreeMap ℕ ℕ) → get nat_cmp firsts key ≡ None
          → Updates nat_cmp firsts more key (Some n) → AreFirsts places faces (n + 1) more
      new_on more none u k =
          elim (cases_eq key k) [
            | inl same ↦ grind (arith, common_steps, cond-true, eq-eqb, equal_is, new_of)
            | inr ne ↦
                let at : get nat_cmp more k ≡ get nat_cmp firsts k =
                u.0 k ∙ cond-false _ _ _ (equal_is key k ∙ ne_eqb _ _ ne) in
                subst (Answers (n + 1) k) (sym at)
                (answers_on k (get nat_cmp firsts k) (h k) (λ r names has. ne (is ∙ has)))
          ]

  -- The names of the first n vertices.
  pub record AreNames (n : ℕ) (names : List ℕ) : Type 0 where
    pub all : length names ≡ n
    pub each : (v : ℕ) → v < n → is_some_corner faces v ≡ true
        → IsFirstAt places faces v (get_or names v 0)
    pub others : (v : ℕ) → v < n → is_some_corner faces v ≡ false → get_or names v 0 ≡ v

  pub no_names : (names : List ℕ) → names ≡ [] → AreNames 0 names
  no_names names is = grind (arith, common_steps)

  pub names_more : (n u : ℕ) (names more : List ℕ) → AreNames n names → more ≡ names ++ u ∷ []
      → (is_some_corner faces n ≡ true → IsFirstAt places faces n u)
      → (is_some_corner faces n ≡ false → u ≡ n) → AreNames (n + 1) more
  names_more n u names more h is first other =
      let long = h.all in
      let last : get_or more n 0 ≡ u = ap (λ xs. get_or xs n 0) is ∙ get_or_push names u 0 n long in
      record {
        all = ap length is ∙ length_push names u ∙ ap (λ k. k + 1) long;
        each = λ v l names_v. elim (cases_eq v n) [
          | inl same ↦ grind (arith, common_steps, get_or)
          | inr apart ↦
              let low : v < n = omega arith in
              let at : get_or more v 0 ≡ get_or names v 0 =
              ap (λ xs. get_or xs v 0) is
              ∙ get_or_append_left names (u ∷ []) 0 v (omega (arith, long)) in
              subst (IsFirstAt places faces v) (sym at) (h.each v low names_v)
        ];
        others = λ v l out. elim (cases_eq v n) [
          | inl same ↦ ap (λ i. get_or more i 0) same ∙ last
              ∙ other (ap (is_some_corner faces) (sym same) ∙ out) ∙ sym same
          | inr apart ↦
              let low : v < n = omega arith in
              ap (λ xs. get_or xs v 0) is
              ∙ get_or_append_left names (u ∷ []) 0 v (omega (arith, long)) ∙ h.others v low out
        ];
      }

  pub all_joined : (n : ℕ) (names : List ℕ) → n ≡ length places → AreNames n names
      → AreJoined places faces names
  all_joined n names is h = grind (arith, common_steps)

-- What a flag says of its vertex.
pub flag_names : (flags : List Bool) (faces : List Corners) (n v : ℕ) (x b : Bool)
    → flags ≡ named_in faces n → v < n → x ≡ get_or flags v x → x ≡ b → is_some_corner faces v ≡ b
flag_names flags faces n v x b is l read at =
    let in_flags : v < length flags = omega (arith, ap length is, length-named_in faces n) in
    sym (get_or_read flags v x in_flags read false ∙ ap (λ xs. get_or xs v false) is
    ∙ named_at faces n v l) ∙ at

-- The faces over joined vertices, one more and all.
pub renamed_more : (names : List ℕ) (fs done more : List Corners) (i : ℕ) → i < length fs
    → done ≡ map (renamed names) (take i fs) → more ≡ done ++ renamed names (get_or fs i no_corners)
    ∷ [] → more ≡ map (renamed names) (take (i + 1) fs)
renamed_more names fs done more i l is push =
    push ∙ ap (λ xs. xs ++ renamed names (get_or fs i no_corners) ∷ []) is
    ∙ sym (map_more (renamed names) fs i no_corners l)

pub renamed_all : (names : List ℕ) (fs done : List Corners) (i : ℕ) → length fs ≤ i
    → done ≡ map (renamed names) (take i fs) → done ≡ map (renamed names) fs
renamed_all names fs done i l is = is ∙ ap (map (renamed names)) (take_all i fs l)
