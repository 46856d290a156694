-- The numbers of what was done account for each vertex and triangle.
use Rattle.std.proofs.Common.{◌≡◌, ℕ, zero, suc, ◌+◌, ◌*◌, ◌<◌, ◌≤◌, Bool, true, false, not, ◌&&◌}
use Rattle.std.proofs.lemmas.Grind.{common_steps}
use Rattle.std.proofs.Common.{◌||◌, ◌==◌, inl, inr, refl, sym, ap, ◌∙◌, subst, List, [], ◌∷◌}
use Rattle.std.proofs.Common.{length, get_or, arith}
use Rattle.std.specs.List.{All, list_any}
use Rattle.std.proofs.lemmas.Bool.{cases_Bool, cases_order, and_from, or_cases, or_left, or_right}
use Rattle.std.proofs.lemmas.Bool.{or_parts, eq-eqb, eqb-true, false≢true, true≢false}
use Rattle.std.proofs.lemmas.List.{length-map}
use Rattle.std.proofs.lemmas.List.Elements.{All-nil, All-cons, All-head, All-tail}
use Rattle.pm_base.specs.declared.mesh.Corners.{Corners}
use Rattle.pm_base.specs.Place.{Place}
use Rattle.pm_base.specs.Meshes.{Mesh}
use Rattle.pm_base.specs.Sides.{net_of, side_count}
use Rattle.pm_base.specs.Counts.{count}
use Rattle.pm_base.proofs.Counts.{count-true, count-false, count-zero, count_same, count_more}
use Rattle.pm_base.proofs.NetLaws.{face_at, first_side, second_side, third_side}
use Rattle.pm_fans.specs.Kept.{is_corner, kept_after, kept_of}
use Rattle.pm_turn.specs.Turning.{turned_by}
use Rattle.pm_turn.proofs.TurnedFaces.{turned_length}
use Rattle.obj_prepare.specs.declared.notes.Notes.{Notes}
use Rattle.obj_prepare.specs.Named.{is_some_corner, AreVerticesBelow}
use Rattle.obj_prepare.specs.Joining.{place_in_list, renamed, joined_faces}
use Rattle.obj_prepare.specs.Prepared.{staying, IsPrepared, AreNotes, joined_count, flat_count}
use Rattle.obj_prepare.specs.Prepared.{double_count, unnamed_count, split_count, gone_count}
use Rattle.obj_prepare.specs.Laws.{DoAccountsClose, AccountsClose}
use Rattle.pm_base.proofs.Counted.{count_both}
use Rattle.obj_prepare.proofs.KeptCounts.{kept_and_flat}
use Rattle.obj_prepare.proofs.PieceLaws.{named_low, kept_after_all}
use Rattle.obj_prepare.proofs.TurnedLaws.{some_corner_turned}

and_false : (b : Bool) → (b && false) ≡ false
and_false true = refl
and_false false = refl

-- Those that pass, parted by another test.
count_parted : (p q : ℕ → Bool) (n : ℕ)
    → count (λ v. p v && q v) n + count (λ v. p v && not (q v)) n ≡ count p n
count_parted p q zero = grind (arith, common_steps, count-zero)
count_parted p q (suc n) =
    grind (arith, common_steps, and_from, count-false, count-true, count_parted p q n)

-- No more numbers pass than a list has elements, where each of them is one.

count_either : (p q r : ℕ → Bool) (n : ℕ) → ((v : ℕ) → v < n → p v ≡ true → (q v || r v) ≡ true)
    → count p n ≤ count q n + count r n
count_either p q r zero each = omega (arith, count-zero p)
count_either p q r (suc n) each =
    grind (arith, common_steps, count-false, count-true, count_either p q r n)

count_none_of : (x n : ℕ) → n ≤ x → count (λ v. x == v) n ≡ 0
count_none_of x zero most = count-zero (λ v. x == v)
count_none_of x (suc n) most = grind (arith, common_steps, count-false, eqb-true, count_none_of x n)

count_of_one : (x n : ℕ) → count (λ v. x == v) n ≤ 1
count_of_one x zero = omega (arith, count-zero (λ v. x == v))
count_of_one x (suc n) =
    grind (arith, common_steps, count-false, count-true, count_none_of, eqb-true, count_of_one x n)

has : List ℕ → ℕ → Bool
has xs v = list_any (λ x. x == v) xs

none_has : (n : ℕ) → count (has []) n ≡ 0
unfolding has
none_has zero = count-zero (has [])
none_has (suc n) = omega (arith, count-false (has []) n refl, none_has n)

count_has : (xs : List ℕ) (n : ℕ) → count (has xs) n ≤ length xs
unfolding has
count_has [] n = omega (arith, none_has n)
count_has (x ∷ xs) n = omega (
  arith,
  count_either (has (x ∷ xs)) (λ v. x == v) (has xs) n (λ v l is. is),
  count_of_one x n,
  count_has xs n,
)

has_at : (xs : List ℕ) (w v : ℕ) → w < length xs → get_or xs w 0 ≡ v → has xs v ≡ true
unfolding has
has_at [] w v l at = absurd (omega (arith, l))
has_at (x ∷ xs) zero v l at = or_left (x == v) (has xs v) (eq-eqb x v at)
has_at (x ∷ xs) (suc w) v l at = or_right (x == v) (has xs v) (has_at xs w v (omega (arith, l)) at)

-- A corner of a list of faces is where a side begins.
record Begins (fs : List Corners) (v : ℕ) : Type 0 where
  side : ℕ
  low : side < side_count (net_of fs)
  at : (net_of fs).from side ≡ v

corner_side : (fs : List Corners) (i v : ℕ) → i < length fs → is_corner (face_at fs i) v ≡ true
    → Begins fs v
corner_side fs i v l is =
    let f = face_at fs i in
    elim (or_cases (f.a == v || f.b == v) (f.c == v) is) [
      | inl ab ↦
          elim (or_cases (f.a == v) (f.b == v) ab) [
            | inl a ↦ record {
              side = 3 * i;
              low = omega (arith, l);
              at = (first_side fs i).0
                  ∙ eqb-true f.a v a;
            }
            | inr b ↦ record {
              side = 3 * i + 1;
              low = omega (arith, l);
              at = (second_side fs i).0
                  ∙ eqb-true f.b v b;
            }
          ]
      | inr c ↦ record {
        side = 3 * i + 2;
        low = omega (arith, l);
        at = (third_side fs i).0
            ∙ eqb-true f.c v c;
      }
    ]

found_face : (fs : List Corners) (v : ℕ) → is_some_corner fs v ≡ true
    → (i : ℕ) × (i < length fs) × (is_corner (face_at fs i) v ≡ true)
found_face [] v is = absurd (false≢true is)
found_face (f ∷ fs) v is =
    elim (or_cases (is_corner f v) (is_some_corner fs v) is) [
      | inl c ↦ (0, omega arith, c)
      | inr more ↦ (let (i, l, at) = found_face fs v more in (suc i, omega (arith, l), at))
    ]

begins : (fs : List Corners) (v : ℕ) → is_some_corner fs v ≡ true → Begins fs v
begins fs v is = let (i, l, at) = found_face fs v is in corner_side fs i v l at

-- What stays of faces has corners of them.

none_all : (fs : List Corners) (v : ℕ) → is_some_corner fs v ≡ false
    → All (λ (f : Corners). is_corner f v ≡ false) fs
none_all [] v none = All-nil (λ (f : Corners). is_corner f v ≡ false)
none_all (f ∷ fs) v none =
    let parts = or_parts (is_corner f v) (is_some_corner fs v) none in
    All-cons (λ (f : Corners). is_corner f v ≡ false) f fs parts.0 (none_all fs v parts.1)

all_none : (fs : List Corners) (v : ℕ) → All (λ (f : Corners). is_corner f v ≡ false) fs
    → is_some_corner fs v ≡ false
all_none [] v all = refl
all_none (f ∷ fs) v all =
    let P : Corners → Type 0 = λ g. is_corner g v ≡ false in
    rw (All-head P f fs all, all_none fs v (All-tail P f fs all)) refl

kept_corner : (fs : List Corners) (v : ℕ) → is_some_corner (kept_after [] fs) v ≡ true
    → is_some_corner fs v ≡ true
kept_corner fs v is =
    elim (cases_Bool (is_some_corner fs v)) [
      | inl t ↦ t
      | inr f ↦
          let P : Corners → Type 0 = λ g. is_corner g v ≡ false in
          absurd (true≢false (sym is
          ∙ all_none (kept_after [] fs) v
          (kept_after_all P [] fs (All-nil P) (none_all fs v f))))
    ]

module _ (names : List ℕ) where
  abbrev name : ℕ → ℕ
  name v = get_or names v 0

  -- A corner of joined faces is the name of a corner.
  abbrev IsNameOf : List Corners → ℕ → Type 0
  IsNameOf fs v = (w : ℕ) × (is_some_corner fs w ≡ true) × (name w ≡ v)

  corner_from : (f : Corners) (fs : List Corners) (v : ℕ) → is_corner (renamed names f) v ≡ true
      → IsNameOf (f ∷ fs) v
  corner_from f fs v is =
      let here : (w : ℕ) → is_corner f w ≡ true
      → is_some_corner (f ∷ fs) w
      ≡ true = λ w c. or_left (is_corner f w) (is_some_corner fs w) c in
      elim (or_cases (name f.a == v || name f.b == v) (name f.c == v) is) [
        | inl ab ↦
            elim (or_cases (name f.a == v) (name f.b == v) ab) [
              | inl a ↦ (
                f.a,
                here f.a (or_left (f.a == f.a || f.b == f.a) (f.c == f.a)
                    (or_left (f.a == f.a) (f.b == f.a) (eq-eqb f.a f.a refl))),
                eqb-true _ _ a,
              )
              | inr b ↦ (
                f.b,
                here f.b (or_left (f.a == f.b || f.b == f.b) (f.c == f.b)
                    (or_right (f.a == f.b) (f.b == f.b) (eq-eqb f.b f.b refl))),
                eqb-true _ _ b,
              )
            ]
        | inr c ↦ (
          f.c,
          here f.c (or_right (f.a == f.c || f.b == f.c) (f.c == f.c) (eq-eqb f.c f.c refl)),
          eqb-true _ _ c,
        )
      ]

  joined_from : (fs : List Corners) (v : ℕ) → is_some_corner (joined_faces names fs) v ≡ true
      → IsNameOf fs v
  joined_from [] v is = absurd (false≢true is)
  joined_from (f ∷ fs) v is =
      elim (or_cases (is_corner (renamed names f) v)
      (is_some_corner (joined_faces names fs) v) is) [
        | inl c ↦ corner_from f fs v c
        | inr more ↦ (let (w, named, at) = joined_from fs v more in
            (w, or_right (is_corner f w) (is_some_corner fs w) named, at))
      ]

module _ (places : List Place) (faces : List Corners) (m : Mesh)
    (below : All (AreVerticesBelow (length places)) faces) (p : IsPrepared places faces m) where
  abbrev stay : List Corners
  stay = staying p.names faces

  -- A vertex of what stays is one that a face names, and stands for itself.
  stay_is : (v : ℕ) → is_some_corner stay v ≡ true
      → (is_some_corner faces v ≡ true) × (get_or p.names v 0 ≡ v)
  unfolding kept_of
  stay_is v is =
      let (w, named, at) = joined_from p.names faces v
      (kept_corner (joined_faces p.names faces) v is) in
      let low = named_low (length places) faces w below named in
      let a = p.joined.each w low named in
      let own : is_some_corner faces v
      ≡ true = subst (λ u. is_some_corner faces u ≡ true) at a.named in
      let b = p.joined.each v (named_low (length places) faces v below own) own in
      let here : place_in_list places v ≡ place_in_list places w = ap (place_in_list places)
      (sym at) ∙ a.same in (
        own,
        elim (cases_order (get_or p.names v 0) v) [
          | inl same ↦ same
          | inr k ↦ elim k [
            | inl less ↦ absurd
                (a.least (get_or p.names v 0) (omega (arith, less, at)) b.named (b.same ∙ here))
            | inr more ↦ absurd (b.least v more own refl)
          ]
        ],
      )

  pub stay_few : count (is_some_corner stay) (length p.names) ≤ length p.old
  stay_few =
      let n = length p.names in
      omega (
        arith,
        count_has p.old n,
        count_more (is_some_corner stay) (has p.old) n (λ v l is.
            let b = begins (turned_by p.flags stay) v (some_corner_turned p.flags stay v ∙ is) in
            has_at p.old ((net_of m.faces).from b.side) v (p.split.within b.side b.low)
            (p.split.back b.side b.low ∙ b.at)),
      )

  abbrev is_own : ℕ → Bool
  is_own v = get_or p.names v 0 == v

  -- Those that stand for themselves and have a face that stays are those that have one.
  own_stay : count (λ v. (is_some_corner faces v && is_own v) && is_some_corner stay v)
      (length p.names) ≡ count (is_some_corner stay) (length p.names)
  own_stay = grind (arith, common_steps, and_false, and_from, count_same, eq-eqb, stay_is)

  pub close : (notes : Notes) → AreNotes places faces p.names p.flags p.old notes
      → DoAccountsClose (length places) (length faces) m notes
  unfolding flat_count double_count kept_of joined_count unnamed_count gone_count split_count
  close notes a =
      let n = length p.names in
      let joined_long = length-map faces (renamed p.names) in
      let kept = kept_and_flat [] (joined_faces p.names faces) in
      let stay_long = p.split.split.faces ∙ turned_length p.flags stay in
      let named = count_both (is_some_corner faces) n in
      let own = count_parted (is_some_corner faces) is_own n in
      let there = count_parted (λ v. is_some_corner faces v && is_own v) (is_some_corner stay) n in
      let all = ap (count (λ v. not (is_some_corner faces v))) p.joined.all in
      let out : length m.points ≡ length p.old = ap length p.stand
      ∙ length-map p.old (place_in_list places) in
      record {
        triangles_are = omega (arith, a.flat, a.double, kept, joined_long, stay_long);
        split_few = omega (arith, a.split, out);
        vertices_are = omega (
          arith,
          a.unnamed,
          a.joined,
          a.gone,
          a.split,
          named,
          own,
          there,
          own_stay,
          stay_few,
          all,
          out,
          p.joined.all,
        );
      }

pub accounts_close : AccountsClose
accounts_close places faces m notes below (p, a) = close places faces m below p notes a
