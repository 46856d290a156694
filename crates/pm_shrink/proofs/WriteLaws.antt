-- What the writes of a collapse leave at each number.
use Rattle.std.proofs.Common.{◌≡◌, ◌≢◌, ℕ, ◌+◌, ◌*◌, ◌%◌, ◌<◌, Bool, true, false, ◌||◌, eqb, cond}
use Rattle.std.proofs.lemmas.Grind.{common_steps}
use Rattle.std.proofs.Common.{List, [], ◌∷◌, length, get_or, Option, Some, None, inl, inr}
use Rattle.std.proofs.Common.{refl, sym, ap, ◌∙◌, subst, arith, get_or-set_other, get_or-set_same}
use Rattle.std.specs.Prelude.{option_map}
use Rattle.std.proofs.lemmas.List.{length-set}
use Rattle.std.proofs.lemmas.Bool.{cases_eq, eq-eqb, ne_eqb, or_left, or_right, cond-true}
use Rattle.std.proofs.lemmas.Bool.{cond-false}
use Rattle.pm_base.specs.declared.mesh.Corners.{Corners}
use Rattle.pm_base.specs.Sides.{face_of}
use Rattle.pm_links.specs.Lists.{has}
use Rattle.pm_shrink.specs.Writes.{with_vertex, with_corner, with_corners}

pub length-with_corner : (faces : List (Option Corners)) (e v : ℕ)
    → length (with_corner faces e v) ≡ length faces
length-with_corner faces e v =
    length-set faces (face_of e)
    (option_map (λ k. with_vertex k (e % 3) v) (get_or faces (face_of e) None))

pub length-with_corners : (faces : List (Option Corners)) (es : List ℕ) (v : ℕ)
    → length (with_corners faces es v) ≡ length faces
length-with_corners faces [] v = refl
length-with_corners faces (e ∷ es) v =
    length-with_corners (with_corner faces e v) es v ∙ length-with_corner faces e v

-- A face in which each of the listed corners has the vertex.
abbrev pub renamed : List ℕ → ℕ → ℕ → Corners → Corners
renamed es v f k = record {
  a = cond (has es (3 * f)) v k.a;
  b = cond (has es (3 * f + 1)) v k.b;
  c = cond (has es (3 * f + 2)) v k.c;
}

pub corners_same : (k l : Corners) → k.a ≡ l.a → k.b ≡ l.b → k.c ≡ l.c → k ≡ l
corners_same k l p q r = λ i. record { a = p i; b = q i; c = r i }

-- A corner of another face.
renamed-other : (e : ℕ) (es : List ℕ) (v f : ℕ) (k : Corners) → f ≢ face_of e
    → renamed (e ∷ es) v f k ≡ renamed es v f k
renamed-other e es v f k ne =
    grind (
      arith,
      common_steps,
      corners_same (renamed (e ∷ es) v f k) (renamed es v f k),
      ne_eqb e (3 * f) (λ is. ne (omega (arith, is))),
      ne_eqb e (3 * f + 1) (λ is. ne (omega (arith, is))),
      ne_eqb e (3 * f + 2) (λ is. ne (omega (arith, is))),
    )

-- A corner of this face.
pub cond_twice : (b c : Bool) (v x : ℕ) → cond b v (cond c v x) ≡ cond (c || b) v x
cond_twice true true v x = refl
cond_twice true false v x = refl
cond_twice false true v x = refl
cond_twice false false v x = refl

put_one : (h : Bool) (e n v x y : ℕ) → (e ≡ n → y ≡ v) → (e ≢ n → y ≡ x)
    → cond h v y ≡ cond (eqb e n || h) v x
put_one true e n v x y on off = grind (arith, common_steps, cases_eq e n, eq-eqb, ne_eqb)
put_one false e n v x y on off = grind (arith, common_steps, cases_eq e n, eq-eqb, ne_eqb)

vertex-a : (k : Corners) (i v : ℕ) → (i ≡ 0 → (with_vertex k i v).a ≡ v)
    × (i ≢ 0 → (with_vertex k i v).a ≡ k.a)
vertex-a k i v = grind (arith, common_steps, cond-false, cond-true, eq-eqb, ne_eqb)

vertex-b : (k : Corners) (i v : ℕ) → (i ≡ 1 → (with_vertex k i v).b ≡ v)
    × (i ≢ 1 → (with_vertex k i v).b ≡ k.b)
vertex-b k i v = grind (arith, common_steps, cond-false, cond-true, eq-eqb, ne_eqb)

vertex-c : (k : Corners) (i v : ℕ) → i < 3 → (i ≡ 2 → (with_vertex k i v).c ≡ v)
    × (i ≢ 2 → (with_vertex k i v).c ≡ k.c)
vertex-c k i v l = grind (arith, common_steps, cond-false, cond-true, eq-eqb, ne_eqb)

renamed-same : (e : ℕ) (es : List ℕ) (v f : ℕ) (k : Corners) → f ≡ face_of e
    → renamed es v f (with_vertex k (e % 3) v) ≡ renamed (e ∷ es) v f k
renamed-same e es v f k is =
    grind (arith, common_steps, corners_same, put_one, vertex-a, vertex-b, vertex-c)

map_twice : (g h : Corners → Corners) (o : Option Corners)
    → option_map g (option_map h o) ≡ option_map (λ k. g (h k)) o
map_twice g h None = refl
map_twice g h (Some k) = refl

map_same : (g h : Corners → Corners) (o : Option Corners) → ((k : Corners) → g k ≡ h k)
    → option_map g o ≡ option_map h o
map_same g h None same = refl
map_same g h (Some k) same = ap Some (same k)

-- One write, read at a face.
read_corner : (faces : List (Option Corners)) (e v f : ℕ) → face_of e < length faces
    → get_or (with_corner faces e v) f None
    ≡ cond (eqb f (face_of e)) (option_map (λ k. with_vertex k (e % 3) v) (get_or faces f None))
    (get_or faces f None)
read_corner faces e v f l =
    grind (
      arith,
      common_steps,
      cases_eq f (face_of e),
      cond-true,
      cond-false,
      eq-eqb,
      ne_eqb,
      get_or-set_same,
      get_or-set_other,
    )

-- All writes, read at a face.
pub read_corners : (es : List ℕ) (faces : List (Option Corners)) (v f : ℕ)
    → ((e : ℕ) → has es e ≡ true → face_of e < length faces) →
    get_or (with_corners faces es v) f None ≡ option_map (renamed es v f) (get_or faces f None)
read_corners [] faces v f low = sym (map_id (get_or faces f None))
  where
    map_id : (o : Option Corners) → option_map (λ (k : Corners). k) o ≡ o
    map_id None = refl
    map_id (Some k) = refl
read_corners (e ∷ es) faces v f low =
    let here = low e (or_left (eqb e e) (has es e) (eq-eqb e e refl)) in
    let len = length-with_corner faces e v in
    let rest = read_corners es (with_corner faces e v) v f
    (λ g h. subst (λ (n : ℕ). face_of g < n) (sym len)
    (low g (or_right (eqb e g) (has es g) h))) in
    let one = read_corner faces e v f here in
    elim (cases_eq f (face_of e)) [
      | inl is ↦
          rest ∙ ap (option_map (renamed es v f)) (one ∙ cond-true _ _ _ (eq-eqb f (face_of e) is))
          ∙ map_twice (renamed es v f) (λ k. with_vertex k (e % 3) v) (get_or faces f None)
          ∙ map_same (λ k. renamed es v f (with_vertex k (e % 3) v)) (renamed (e ∷ es) v f)
          (get_or faces f None) (λ k. renamed-same e es v f k is)
      | inr ne ↦
          rest ∙ ap (option_map (renamed es v f)) (one ∙ cond-false _ _ _ (ne_eqb f (face_of e) ne))
          ∙ map_same (renamed es v f) (renamed (e ∷ es) v f) (get_or faces f None)
          (λ k. sym (renamed-other e es v f k ne))
    ]
