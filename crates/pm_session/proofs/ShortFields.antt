-- Fields that spell something are short: those of one or two 32-bit numbers, of a view with six
-- planes, and of a ray.
use Rattle.std.proofs.Common.{◌≡◌, ℕ, zero, suc, ℤ, pos, ◌+◌, ◌-◌, ◌*◌, ◌<◌, ◌≤◌, Bool, true, false}
use Rattle.std.proofs.Common.{cond, eqb, leb, not, ◌&&◌, ◌||◌, List, [], ◌∷◌, Option, Some, None}
use Rattle.std.proofs.Common.{length, inl, inr, refl, sym, ◌∙◌, ap, subst, arith}
use Rattle.std.specs.Prelude.{nat_lt}
use Rattle.std.specs.Option.{option_map, option_and_then}
use Rattle.std.proofs.lemmas.Bool.{cases_Bool, cases_lt, and_parts, leb-true, eqb-false, ne_eqb}
use Rattle.std.proofs.lemmas.Bool.{cond-false}
use Rattle.std.proofs.lemmas.Option.{none-some}
use Rattle.pm_base.specs.Place.{Place}
use Rattle.pm_io.specs.Digits.{value, is_unsigned, are_digits, unsigned_of}
use Rattle.pm_view.specs.declared.plane.Plane.{Plane}
use Rattle.pm_view.specs.Views.{View}
use Rattle.pm_view.specs.declared.fields.ViewKind.{ViewKind}
use Rattle.pm_view.specs.declared.fields.ViewKind.TheVariants as kinds
use Rattle.pm_view.specs.Fields.{spaced_fields, negative, signed_of, eye_of, plane_read}
use Rattle.pm_view.specs.Fields.{first_plane, planes_of, first_sil, view_in}
use Rattle.pm_io.specs.Bytes.{onto}
use Rattle.pm_view.proofs.NumberLaws.{unsigned_small}
use Rattle.pm_pick.specs.Rays.{Ray}
use Rattle.pm_pick.specs.Fields.{three_of, ray_in}
use Rattle.pm_session.proofs.OptionLaws.{came, mapped}
use Rattle.pm_session.specs.Script.{two_in}

-- Numbers

-- The least number that k more digits make after n.
abbrev least : ℕ → ℕ → ℕ
least n zero = n
least n (suc k) = least (10 * n) k

least_grows : (n m k : ℕ) → n ≤ m → least n k ≤ least m k
least_grows n m zero le = le
least_grows n m (suc k) le = least_grows (10 * n) (10 * m) k (omega (arith, le))

least_more : (n j k : ℕ) → j ≤ k → least n j ≤ least n k
least_more n zero zero le = omega arith
least_more n zero (suc k) le = omega (arith, least_more (10 * n) zero k (omega arith))
least_more n (suc j) zero le = absurd (omega (arith, le))
least_more n (suc j) (suc k) le = least_more (10 * n) j k (omega (arith, le))

value_least : (n : ℕ) (text : List ℕ) → least n (length text) ≤ value n text
value_least n [] = omega arith
value_least n (b ∷ bs) =
    omega (
      arith,
      value_least (10 * n + (b - 48)) bs,
      least_grows (10 * n) (10 * n + (b - 48))
          (length bs) (omega arith),
    )

-- A number without leading zeros below 10^13 has at most 13 digits.
digits_few : (most : ℕ) (text : List ℕ) → most < 10000000000000 → is_unsigned text ≡ true
    → value 0 text ≤ most → length text ≤ 13
digits_few most [] lt is le = omega arith
digits_few most (b ∷ bs) lt is le =
    elim (cases_lt (length bs) 13) [
      | inl few ↦ omega (arith, few)
      | inr many ↦
          let parts = and_parts (are_digits (b ∷ bs) && nat_lt 0 (length (b ∷ bs)))
          (eqb (length (b ∷ bs)) 1 || not (eqb b 48)) is in
          let one : eqb (length (b ∷ bs)) 1 ≡ false = ne_eqb _ _ (λ e. omega (arith, e, many)) in
          let first : not (eqb b 48) ≡ true = subst (λ t. t || not (eqb b 48) ≡ true) one parts.1 in
          let digit = leb-true 48 b
          (and_parts (leb 48 b) (leb b 57) (and_parts _ _ (and_parts _ _ parts.0).0).0).0 in
          let other : 1 ≤ b - 48 = elim (cases_Bool (eqb b 48)) [
            | inl e ↦ absurd (cc (e, first))
            | inr e ↦ omega (arith, digit, eqb-false b 48 e)
          ] in
          absurd (omega (
            arith,
            lt,
            le,
            value_least (10 * 0 + (b - 48)) bs,
            least_grows 1 (10 * 0 + (b - 48)) (length bs) (omega (arith, other)),
            least_more 1 13 (length bs) many,
          ))
    ]

pub unsigned_few : (most n : ℕ) (text : List ℕ) → most < 10000000000000
    → unsigned_of most text ≡ Some n
    → length text ≤ 13
unfolding unsigned_of
unsigned_few most n text lt e =
    let v = value 0 text in
    elim (cases_Bool (is_unsigned text && leb v most)) [
      | inl t ↦ let p = and_parts (is_unsigned text) (leb v most) t in
          digits_few most text lt p.0 (leb-true v most p.1)
      | inr t ↦ absurd (none-some n (sym (cond-false _ (Some v) None t) ∙ e))
    ]

signed_few : (most : ℕ) (n : ℤ) (text : List ℕ) → most < 10000000000000
    → signed_of most text ≡ Some n → length text ≤ 14
unfolding signed_of
signed_few most n [] lt e = omega arith
signed_few most n (b ∷ bs) lt e = go (eqb b 45) e
  where
    go : (minus : Bool)
        → cond minus (option_and_then negative (unsigned_of most bs))
        (option_map pos (unsigned_of most (b ∷ bs))) ≡ Some n → length (b ∷ bs) ≤ 14
    go true is = let c = came negative (unsigned_of most bs) n is in
        omega (arith, unsigned_few most c.from bs lt c.is)
    go false is = let m = mapped pos (unsigned_of most (b ∷ bs)) n is in
        omega (arith, unsigned_few most m.from (b ∷ bs) lt m.is)

-- Fields

-- How many bytes fields have, each with a space after it.
abbrev pub width : List (List ℕ) → ℕ
width [] = 0
width (f ∷ fs) = length f + 1 + width fs

onto_width : (b : ℕ) (fs : List (List ℕ)) → width fs + 1 ≤ width (onto b fs)
onto_width b [] = omega arith
onto_width b (f ∷ fs) = omega arith

pub fields_width : (text : List ℕ) → length text + 1 ≤ width (spaced_fields text)
fields_width [] = omega arith
fields_width (b ∷ bs) =
    elim (cases_Bool (eqb b 32)) [
      | inl e ↦ rw e (omega (arith, fields_width bs))
      | inr e ↦ rw e (omega (arith, fields_width bs, onto_width b (spaced_fields bs)))
    ]

eye_few : (x y z : List ℕ) (eye : Place) → eye_of x y z ≡ Some eye
    → length x + length y + length z ≤ 42
unfolding eye_of
eye_few x y z eye e =
    let a = came _ (signed_of 16777215 x) eye e in
    let b = came _ (signed_of 16777215 y) eye a.to in
    let c = came _ (signed_of 16777215 z) eye b.to in
    omega (
      arith,
      signed_few 16777215 a.from x (omega arith) a.is,
      signed_few 16777215 b.from y
          (omega arith) b.is,
      signed_few 16777215 c.from z (omega arith) c.is,
    )

plane_few : (a b c d : List ℕ) (f : Plane) → plane_read a b c d ≡ Some f
    → length a + length b + length c + length d ≤ 56
unfolding plane_read
plane_few a b c d f e =
    let p = came _ (signed_of 32767 a) f e in
    let q = came _ (signed_of 32767 b) f p.to in
    let r = came _ (signed_of 32767 c) f q.to in
    let s = came _ (signed_of 4398046511104 d) f r.to in
    omega (
      arith,
      signed_few 32767 p.from a (omega arith) p.is,
      signed_few 32767 q.from b (omega arith) q.is,
      signed_few 32767 r.from c (omega arith) r.is,
      signed_few 4398046511104 s.from d (omega arith) s.is,
    )

first_few : (fs : List (List ℕ)) (p : Plane × List (List ℕ)) → first_plane fs ≡ Some p
    → width fs ≤ 60 + width p.1
unfolding first_plane
first_few (a ∷ b ∷ c ∷ d ∷ rest) p e = go (plane_read a b c d) refl e
  where
    rest_of : Option (Plane × List (List ℕ)) → List (List ℕ)
    rest_of None = []
    rest_of (Some q) = q.1

    go : (plane : Option Plane) → plane_read a b c d ≡ plane
        → option_map (λ (f : Plane). (f, rest)) plane ≡ Some p
        → width (a ∷ b ∷ c ∷ d ∷ rest) ≤ 60 + width p.1
    go None is to = absurd cc
    go (Some f) is to =
        omega (
          arith,
          plane_few a b c d f is,
          ap (λ (o : Option (Plane × List (List ℕ))). width (rest_of o)) to,
        )
first_few [] p e = absurd cc
first_few (a ∷ []) p e = absurd cc
first_few (a ∷ b ∷ []) p e = absurd cc
first_few (a ∷ b ∷ c ∷ []) p e = absurd cc

planes_few : (n : ℕ) (fs : List (List ℕ)) (planes : List Plane) → planes_of n fs ≡ Some planes
    → width fs ≤ 60 * n
unfolding planes_of
planes_few n [] planes e = omega arith
planes_few zero (x ∷ xs) planes e = absurd cc
planes_few (suc n) (x ∷ xs) planes e =
    let c = came _ (first_plane (x ∷ xs)) planes e in
    let m = mapped _ (planes_of n c.from.1) planes c.to in
    omega (arith, first_few (x ∷ xs) c.from c.is, planes_few n c.from.1 m.from m.is)

sil_few : (kind : ViewKind) (tol : ℕ) (fs : List (List ℕ)) (s : ℕ × List (List ℕ)) → tol ≤ 65535
    → first_sil kind tol fs ≡ Some s → width fs ≤ 14 + width s.1
unfolding first_sil
sil_few kind tol fs s le e = go kind fs e
  where
    rest_of : Option (ℕ × List (List ℕ)) → List (List ℕ)
    rest_of None = []
    rest_of (Some q) = q.1

    few : (sil : List ℕ) (rest : List (List ℕ)) (number : Option ℕ) → unsigned_of tol sil ≡ number
        → option_map (λ (n : ℕ). (n, rest)) number ≡ Some s → width (sil ∷ rest) ≤ 14 + width s.1
    few sil rest None is to = absurd cc
    few sil rest (Some n) is to =
        omega (
          arith,
          unsigned_few tol n sil (omega (arith, le)) is,
          ap (λ (o : Option (ℕ × List (List ℕ))). width (rest_of o)) to,
        )

    go : (kind : ViewKind) (fs : List (List ℕ)) → first_sil kind tol fs ≡ Some s
        → width fs ≤ 14 + width s.1
    go kinds.Plain fs to =
        omega (arith, ap (λ (o : Option (ℕ × List (List ℕ))). width (rest_of o)) to)
    go kinds.Outline [] to = absurd cc
    go kinds.Outline (sil ∷ rest) to = few sil rest (unsigned_of tol sil) refl to

pub view_few : (kind : ViewKind) (fs : List (List ℕ)) (view : View) → view_in kind fs ≡ Some view
    → width fs ≤ 449
unfolding view_in
view_few kind (x ∷ y ∷ z ∷ focal ∷ tol ∷ rest) view e =
    let a = came _ (eye_of x y z) view e in
    let b = came _ (unsigned_of 65535 focal) view a.to in
    let c = came _ (unsigned_of 65535 tol) view b.to in
    let s = came _ (first_sil kind c.from rest) view c.to in
    let m = mapped _ (planes_of 6 s.from.1) view s.to in
    omega (
      arith,
      eye_few x y z a.from a.is,
      unsigned_few 65535 b.from focal (omega arith) b.is,
      unsigned_few 65535 c.from tol (omega arith) c.is,
      sil_few kind c.from rest s.from (unsigned_small 65535 c.from tol (sym c.is)) s.is,
      planes_few 6 s.from.1 m.from m.is,
    )
view_few kind [] view e = absurd cc
view_few kind (x ∷ []) view e = absurd cc
view_few kind (x ∷ y ∷ []) view e = absurd cc
view_few kind (x ∷ y ∷ z ∷ []) view e = absurd cc
view_few kind (x ∷ y ∷ z ∷ focal ∷ []) view e = absurd cc

three_few : (most : ℕ) (x y z : List ℕ) (p : Place) → most < 10000000000000
    → three_of most x y z ≡ Some p → length x + length y + length z ≤ 42
unfolding three_of
three_few most x y z p lt e =
    let a = came _ (signed_of most x) p e in
    let b = came _ (signed_of most y) p a.to in
    let c = came _ (signed_of most z) p b.to in
    omega (
      arith,
      signed_few most a.from x lt a.is,
      signed_few most b.from y lt b.is,
      signed_few most c.from z lt c.is,
    )

pub ray_few : (fs : List (List ℕ)) (ray : Ray) → ray_in fs ≡ Some ray → width fs ≤ 90
unfolding ray_in
ray_few (x ∷ y ∷ z ∷ a ∷ b ∷ c ∷ []) ray e =
    let o = came _ (three_of 16777215 x y z) ray e in
    let d = came _ (three_of 32767 a b c) ray o.to in
    omega (
      arith,
      three_few 16777215 x y z o.from (omega arith) o.is,
      three_few 32767 a b c d.from
          (omega arith) d.is,
    )
ray_few [] ray e = absurd cc
ray_few (x ∷ []) ray e = absurd cc
ray_few (x ∷ y ∷ []) ray e = absurd cc
ray_few (x ∷ y ∷ z ∷ []) ray e = absurd cc
ray_few (x ∷ y ∷ z ∷ a ∷ []) ray e = absurd cc
ray_few (x ∷ y ∷ z ∷ a ∷ b ∷ []) ray e = absurd cc
ray_few (x ∷ y ∷ z ∷ a ∷ b ∷ c ∷ d ∷ rest) ray e = absurd cc

pub two_few : (fs : List (List ℕ)) (two : ℕ × ℕ) → two_in fs ≡ Some two → width fs ≤ 28
unfolding two_in
two_few (a ∷ b ∷ []) two e =
    let p = came _ (unsigned_of 4294967295 a) two e in
    let q = mapped _ (unsigned_of 4294967295 b) two p.to in
    omega (
      arith,
      unsigned_few 4294967295 p.from a (omega arith) p.is,
      unsigned_few 4294967295
          q.from b (omega arith) q.is,
    )
two_few [] two e = absurd cc
two_few (a ∷ []) two e = absurd cc
two_few (a ∷ b ∷ c ∷ rest) two e = absurd cc
