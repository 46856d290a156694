-- Turning faces round.
use Rattle.std.proofs.Common.{◌≡◌, ℕ, zero, suc, ◌<◌, ◌≤◌, ◌⊎◌, inl, inr, refl, sym, ap, ◌∙◌, subst}
use Rattle.std.proofs.Common.{List, [], ◌∷◌, length, Bool, true, false, not, ◌&&◌, ◌||◌, arith}
use Rattle.std.proofs.lemmas.Grind.{common_steps}
use Rattle.std.specs.Prelude.{◌==◌}
use Rattle.std.proofs.lemmas.Bool.{cases_Bool, eqb-true, ne_eqb, or_from, true≢false}
use Rattle.pm_base.specs.declared.mesh.Corners.{Corners}
use Rattle.pm_base.specs.Sides.{Net, face_of, net_of, NoSideTwice}
use Rattle.pm_base.specs.Fans.{IsOrientedManifold}
use Rattle.pm_base.proofs.NetLaws.{face_at}
use Rattle.pm_fans.specs.Splits.{AllStand, NoMirroredFaces, IsSplitByFans}
use Rattle.pm_fans.specs.Kept.{is_flat, is_corner, is_alike, kept_of, IsFitList}
use Rattle.pm_turn.specs.Turning.{turned_face, turned_if, turned_by, flag_of, clash, flipped_if}
use Rattle.pm_turn.specs.Turning.{Way, stay, over, AgreeOnceTurned, AreTurns, AllAgree}
use Rattle.pm_fans.proofs.Turned.{not_flat}
use Rattle.pm_turn.proofs.KeptFit.{kept_list_fit}
use Rattle.pm_fans.proofs.KeptLaws.{kept_are_fit}
use Rattle.pm_fans.proofs.Staying.{fit_lists_stay}
use Rattle.pm_fans.proofs.Splitting.{splits_make_manifolds}

-- Faces one by one.
pub turned_length : (flags : List Bool) (fs : List Corners)
    → length (turned_by flags fs) ≡ length fs
turned_length flags [] = refl
turned_length [] (f ∷ fs) = refl
turned_length (flag ∷ flags) (f ∷ fs) = ap suc (turned_length flags fs)

pub turned_at : (flags : List Bool) (fs : List Corners) (i : ℕ) → i < length fs
    → face_at (turned_by flags fs) i ≡ turned_if (flag_of flags i) (face_at fs i)
turned_at flags [] i l = absurd (omega arith)
turned_at [] (f ∷ fs) zero l = refl
turned_at [] (f ∷ fs) (suc i) l = refl
turned_at (flag ∷ flags) (f ∷ fs) zero l = refl
turned_at (flag ∷ flags) (f ∷ fs) (suc i) l = turned_at flags fs i (omega arith)

if_cases : (b : Bool) (f : Corners) → (turned_if b f ≡ f) ⊎ (turned_if b f ≡ turned_face f)
if_cases true f = inr refl
if_cases false f = inl refl

pub each_is_turned_or_not : (flags : List Bool) (fs : List Corners)
    → (length (turned_by flags fs) ≡ length fs)
    × ((i : ℕ) → i < length fs → (face_at (turned_by flags fs) i ≡ face_at fs i)
    ⊎ (face_at (turned_by flags fs) i ≡ turned_face (face_at fs i)))
each_is_turned_or_not flags fs =
    grind (arith, common_steps, face_at, if_cases, turned_at, turned_length)

-- A turned face has the same corners.
or_swap : (p q r : Bool) → (p || r || q) ≡ (p || q || r)
or_swap p q r = grind (arith, common_steps)

and_swap : (p q r : Bool) → (p && r && q) ≡ (p && q && r)
and_swap p q r = grind (arith, common_steps)

corner_turned : (f : Corners) (v : ℕ) → is_corner (turned_face f) v ≡ is_corner f v
corner_turned f v = or_swap (f.a == v) (f.b == v) (f.c == v)

alike_first : (f g : Corners) → is_alike (turned_face f) g ≡ is_alike f g
unfolding is_alike
alike_first f g = grind (arith, common_steps, corner_turned)

alike_second : (f g : Corners) → is_alike f (turned_face g) ≡ is_alike f g
unfolding is_alike
alike_second f g = and_swap (is_corner f g.a) (is_corner f g.b) (is_corner f g.c)

alike_if : (b c : Bool) (f g : Corners) → is_alike (turned_if b f) (turned_if c g) ≡ is_alike f g
alike_if true true f g = alike_first f (turned_face g) ∙ alike_second f g
alike_if true false f g = alike_first f g
alike_if false true f g = alike_second f g
alike_if false false f g = refl

flat_if : (b : Bool) (f : Corners) → is_flat f ≡ false → is_flat (turned_if b f) ≡ false
flat_if false f e = e
flat_if true f e = grind (arith, common_steps, ne_eqb, not_flat, or_from)

turned_fit : (flags : List Bool) (fs : List Corners) → IsFitList fs → IsFitList (turned_by flags fs)
turned_fit flags fs h = record {
  flat = λ i l.
      let l' : i < length fs = subst (λ n. i < n) (turned_length flags fs) l in
      ap is_flat (turned_at flags fs i l') ∙ flat_if (flag_of flags i) (face_at fs i) (h.flat i l');
  apart = λ i j ij l.
      let jl : j < length fs = subst (λ n. j < n) (turned_length flags fs) l in
      let il : i < length fs = omega arith in
      ap (λ g. is_alike g (face_at (turned_by flags fs) i)) (turned_at flags fs j jl)
      ∙ ap (λ g. is_alike (turned_if (flag_of flags j) (face_at fs j)) g) (turned_at flags fs i il)
      ∙ alike_if (flag_of flags j) (flag_of flags i) (face_at fs j) (face_at fs i)
      ∙ h.apart i j ij jl;
}

pub turned_faces_stay : (flags : List Bool) (fs : List Corners)
    → kept_of (turned_by flags (kept_of fs)) ≡ turned_by flags (kept_of fs)
turned_faces_stay flags fs =
    fit_lists_stay (turned_by flags (kept_of fs)) (turned_fit flags (kept_of fs) (kept_list_fit fs))

pub turned_faces_become_manifolds : (fs fs' : List Corners) (flags : List Bool)
    → IsSplitByFans (net_of (turned_by flags (kept_of fs))) (net_of fs')
    → IsOrientedManifold (net_of fs')
turned_faces_become_manifolds fs fs' flags s =
    let (stand, single) = kept_are_fit (turned_by flags (kept_of fs)) in
    let is = turned_faces_stay flags fs in
    splits_make_manifolds _ _ (subst (λ (l : List Corners). AllStand (net_of l)) is stand)
    (subst (λ (l : List Corners). NoMirroredFaces (net_of l)) is single) s

-- Flags along a way.
pub flip_flip : (c p x : Bool) → flipped_if c (flipped_if p x) ≡ flipped_if (flipped_if c p) x
flip_flip c p x = grind (arith, common_steps)

flip_false : (p x : Bool) → flipped_if p x ≡ false → x ≡ p
flip_false p x h = grind (arith, common_steps)

pub own_not : (b : Bool) → b ≡ not b → ⊥
own_not true e = true≢false e
own_not false e = true≢false (sym e)

module _ (m : Net) (flags : List Bool) (t : AgreeOnceTurned m flags) where
  pub along : (f g : ℕ) (p : Bool) → Way m f g p → t.twisted f ≡ false → (t.twisted g ≡ false)
      × (flag_of flags g ≡ flipped_if p (flag_of flags f))
  along f g p stay un = (un, refl)
  along f g q (over {e} {k} {p} w a) un =
      let (n, is) = along f (face_of e) p w un in
      let (n', is') = t.agree e k a n in
      (n', is' ∙ ap (flipped_if (clash m e k)) is ∙ flip_flip (clash m e k) p (flag_of flags f))

  pub not_both : (f : ℕ) → t.twisted f ≡ false → Way m f f true → ⊥
  not_both f un w = own_not (flag_of flags f) (along f f true w un).1

module _ (m : Net) (flags : List Bool) (t : AreTurns m flags) where
  -- The flag of a face whose patch isn't twisted is the parity of a way to the least face of the
  -- patch.
  pub parity_is : (f : ℕ) (p : Bool) → f < m.faces → t.agreeing.twisted f ≡ false
      → Way m f (t.least f) p → flag_of flags f ≡ p
  parity_is f p l un w =
      flip_false p (flag_of flags f) (sym (along m flags t.agreeing f (t.least f) p w un).1
      ∙ t.first f l)

  module _ (all : AllAgree m) where
    even : (f g : ℕ) (p : Bool) → Way m f g p → p ≡ false
    even f g p stay = refl
    even f g q (over {e} {k} {p} w a) = ap (λ (c : Bool). flipped_if c p) (all e k a)
        ∙ even f (face_of e) p w

    none_set : (f : ℕ) → f < m.faces → flag_of flags f ≡ false
    none_set f l =
        elim (cases_Bool (t.agreeing.twisted f)) [
          | inl set ↦ (t.agreeing.odd f l set).1
          | inr un ↦ parity_is f (t.parity f) l un (t.way f l)
              ∙ even f (t.least f) (t.parity f) (t.way f l)
        ]

pub none_turned : (flags : List Bool) (fs : List Corners)
    → ((i : ℕ) → i < length fs → flag_of flags i ≡ false) → turned_by flags fs ≡ fs
none_turned flags [] h = refl
none_turned [] (f ∷ fs) h = refl
none_turned (flag ∷ flags) (f ∷ fs) h =
    ap (λ (b : Bool). turned_if b f ∷ turned_by flags fs) (h 0 (omega arith))
    ∙ ap (λ (l : List Corners). f ∷ l) (none_turned flags fs (λ i l. h (suc i) (omega arith)))

pub agreeing_faces_stay : (fs : List Corners) (flags : List Bool) → AllAgree (net_of fs)
    → AreTurns (net_of fs) flags → turned_by flags fs ≡ fs
agreeing_faces_stay fs flags all t = none_turned flags fs (none_set (net_of fs) flags t all)

pub once_agree : (m : Net) → NoSideTwice m → AllAgree m
once_agree m once e k a =
    elim (cases_Bool (clash m e k)) [
      | inr un ↦ un
      | inl set ↦
          let same : m.from e ≡ m.from k = eqb-true _ _ set in
          elim a.same.ends [
            | inl (b, d) ↦ absurd (a.differ (once e k a.stands a.same.stands (sym b) (sym d)))
            | inr (b, d) ↦ absurd (a.stands.first (same ∙ b))
          ]
    ]

pub manifolds_are_not_turned : (fs : List Corners) (flags : List Bool) → AllStand (net_of fs)
    → IsOrientedManifold (net_of fs) → AreTurns (net_of fs) flags → turned_by flags fs ≡ fs
manifolds_are_not_turned fs flags stand is t =
    agreeing_faces_stay fs flags (once_agree (net_of fs) is.no_side_twice) t

-- One list of flags.
pub same_flags : (xs ys : List Bool) → length xs ≡ length ys
    → ((i : ℕ) → i < length xs → flag_of xs i ≡ flag_of ys i) → xs ≡ ys
same_flags [] [] n h = refl
same_flags [] (y ∷ ys) n h = absurd (omega (arith, n))
same_flags (x ∷ xs) [] n h = absurd (omega (arith, n))
same_flags (x ∷ xs) (y ∷ ys) n h =
    ap (λ (b : Bool). b ∷ xs) (h 0 (omega arith))
    ∙ ap (λ (l : List Bool). y ∷ l)
    (same_flags xs ys (omega (arith, n)) (λ i l. h (suc i) (omega arith)))

module _ (m : Net) (one other : List Bool) (s : AreTurns m one) (t : AreTurns m other) where
  roots : (f : ℕ) → f < m.faces → s.least f ≡ t.least f
  roots f l =
      let a : s.least f ≤ t.least f = s.low f (t.least f) (t.parity f) l (t.way f l) in
      let b : t.least f ≤ s.least f = t.low f (s.least f) (s.parity f) l (s.way f l) in
      omega (arith, a, b)

  flag_same : (f : ℕ) → f < m.faces → flag_of one f ≡ flag_of other f
  flag_same f l =
      elim (cases_Bool (s.agreeing.twisted f)) [
        | inl a ↦
            elim (cases_Bool (t.agreeing.twisted f)) [
              | inl b ↦ (s.agreeing.odd f l a).1 ∙ sym (t.agreeing.odd f l b).1
              | inr b ↦ absurd (not_both m other t.agreeing f b (s.agreeing.odd f l a).0)
            ]
        | inr a ↦
            elim (cases_Bool (t.agreeing.twisted f)) [
              | inl b ↦ absurd (not_both m one s.agreeing f a (t.agreeing.odd f l b).0)
              | inr b ↦
                  let w = s.way f l in
                  parity_is m one s f (s.parity f) l a w
                  ∙ sym (parity_is m other t f (s.parity f) l b
                  (subst (λ r. Way m f r (s.parity f)) (roots f l) w))
            ]
      ]

pub turns_are_one : (m : Net) (one other : List Bool) → AreTurns m one → AreTurns m other
    → one ≡ other
turns_are_one m one other s t =
    same_flags one other (s.agreeing.long ∙ sym t.agreeing.long)
    (λ i l. flag_same m one other s t i (subst (λ n. i < n) s.agreeing.long l))
