-- The lines of a text whose form is right, and texts without a CR.
use Rattle.std.proofs.Common.{◌≡◌, ℕ, suc, ◌+◌, ◌-◌, ◌<◌, ◌≤◌, Bool, true, false, not, ◌==◌, ◌&&◌}
use Rattle.std.proofs.Common.{nat_lt, List, [], ◌∷◌, ◌++◌, length, drop, None, refl, sym, ◌∙◌, ap}
use Rattle.std.proofs.Common.{arith}
use Rattle.std.specs.Prelude.{codes, unsigned_abs}
use Rattle.std.specs.Fmt.{decimal}
use Rattle.std.specs.List.{All, list_all, concat, flat_map}
use Rattle.std.proofs.lemmas.Bool.{and_parts, and_from, ne_eqb, le-leb, lt-ltb}
use Rattle.std.proofs.lemmas.Bool.Decides.{nat_tests}
use Rattle.std.proofs.lemmas.List.{take-append-drop}
use Rattle.std.proofs.lemmas.List.Folds.{list_all-append}
use Rattle.pm_io.specs.Bytes.{onto}
use Rattle.pm_base.specs.Place.{Place, IsPlace}
use Rattle.pm_base.specs.declared.mesh.Corners.{Corners}
use Rattle.pm_base.specs.Meshes.{Mesh, IsWellFormed, IsFace}
use Rattle.pm_base.specs.Canonical.{coordinate_text, point_line, corner_line, canonical_text}
use Rattle.obj_lines.specs.Text.{until, lines, ends_with, without_cr, content}
use Rattle.obj_lines.proofs.TextLaws.{until_split}
use Rattle.obj_lines.proofs.PlainLaws.{lines_joined}
use Rattle.obj_read.proofs.WordLaws.{is_inner, are_inner, IsWord, coordinate_word, decimal_word}
use Rattle.obj_scan.specs.Forms.{has_lone_return, is_marked, is_wide, without_mark, line_content}
use Rattle.obj_scan.specs.Forms.{form_fault}
use Rattle.obj_read.specs.Fields.{fields}
use Rattle.obj_scan.specs.Laws.{IsFormed, begins_garbled, has_clear_word}
use Rattle.obj_scan.proofs.BareLaws.{AreBare, clear_of_bare, canonical_bare}

-- What begins with no mark has no front that does.
mark_front : (a rest : List ℕ) → is_marked (a ++ rest) ≡ false → is_marked a ≡ false
unfolding is_marked
mark_front [] rest is = refl
mark_front (x ∷ []) rest is = refl
mark_front (x ∷ y ∷ []) rest is = refl
mark_front (x ∷ y ∷ z ∷ a) rest is = rw (lt-ltb 2 (length (x ∷ y ∷ z ∷ a)) (omega arith))
    (rw (lt-ltb 2 (length (x ∷ y ∷ z ∷ (a ++ rest))) (omega arith)) at is)

wide_front : (a rest : List ℕ) → is_wide (a ++ rest) ≡ false → is_wide a ≡ false
unfolding is_wide
wide_front [] rest is = refl
wide_front (x ∷ []) rest is = refl
wide_front (x ∷ y ∷ a) rest is = rw (lt-ltb 1 (length (x ∷ y ∷ a)) (omega arith))
    (rw (lt-ltb 1 (length (x ∷ y ∷ (a ++ rest))) (omega arith)) at is)

-- What a text begins with.
record IsFront (a text : List ℕ) : Type 0 where
  rest : List ℕ
  whole : text ≡ a ++ rest

until_is_front : (stop : ℕ) (text : List ℕ) → IsFront (until stop text) text
until_is_front stop text = record {
  rest = drop (length (until stop text)) text;
  whole = until_split stop text;
}

cr_case : (text : List ℕ) (b : Bool) → ends_with 13 text ≡ b → IsFront (without_cr text) text
unfolding without_cr
cr_case text true is = rw is
    (record {
      rest = drop (length text - 1) text;
      whole = sym (take-append-drop (length text - 1) text);
    })
cr_case text false is = rw is (record { rest = []; whole = sym (append_nil text) })
  where
    append_nil : (l : List ℕ) → l ++ [] ≡ l
    append_nil [] = refl
    append_nil (x ∷ l) = ap (λ t. x ∷ t) (append_nil l)

-- No byte order mark begins it.
record IsUnmarked (text : List ℕ) : Type 0 where
  unmarked : is_marked text ≡ false
  narrow : is_wide text ≡ false

front_unmarked : (a text : List ℕ) → IsFront a text → IsUnmarked text → IsUnmarked a
front_unmarked a text front is = record {
  unmarked = mark_front a front.rest (ap is_marked (sym front.whole) ∙ is.unmarked);
  narrow = wide_front a front.rest (ap is_wide (sym front.whole) ∙ is.narrow);
}

content_unmarked : (text : List ℕ) → IsUnmarked text → IsUnmarked (content text)
unfolding content
content_unmarked text is =
    front_unmarked (until 35 (without_cr text)) (without_cr text)
    (until_is_front 35 (without_cr text))
    (front_unmarked (without_cr text) text (cr_case text (ends_with 13 text) refl) is)

-- The form of the line with this number is right, and nothing of it is passed over.
pub record IsPlain (number : ℕ) (line : List ℕ) : Type 0 where
  pub formed : form_fault number (until 10 line) ≡ None
  pub read : line_content number (until 10 line) ≡ content (until 10 line)
  pub clear : begins_garbled (fields (content (until 10 line))) ≡ false

-- So are these, of which the first has this number.
abbrev pub ArePlain : ℕ → List (List ℕ) → Type 0
ArePlain number [] = Unit {0}
ArePlain number (line ∷ more) = IsPlain number line × ArePlain (number + 1) more

-- No CR stands in the line but at its end.
abbrev is_ended : List ℕ → Bool
is_ended line = not (has_lone_return (until 10 line))

not_true : (b : Bool) → not b ≡ true → b ≡ false
not_true false is = refl
not_true true is = cc

later_plain : (number : ℕ) (line : List ℕ) → 1 < number → is_ended line ≡ true
    → has_clear_word line ≡ true → IsPlain number line
unfolding form_fault line_content
later_plain number line later ended clear =
    let n : (number == 1) ≡ false = ne_eqb number 1 (λ e. omega (arith, e, later)) in
    record {
      formed = rw (n, not_true _ ended) refl;
      read = rw n refl;
      clear = not_true _ clear;
    }

later_are_plain : (number : ℕ) (ls : List (List ℕ)) → 1 < number → list_all is_ended ls ≡ true
    → list_all has_clear_word ls ≡ true → ArePlain number ls
later_are_plain number [] later ended clear = tt
later_are_plain number (line ∷ more) later ended clear =
    let parts = and_parts (is_ended line) (list_all is_ended more) ended in
    let words = and_parts (has_clear_word line) (list_all has_clear_word more) clear in (
      later_plain number line later parts.0 words.0,
      later_are_plain (number + 1) more (omega (arith, later)) parts.1 words.1,
    )

first_plain : (line : List ℕ) → is_ended line ≡ true → has_clear_word line ≡ true
    → IsUnmarked (content (until 10 line)) → IsPlain 1 line
unfolding form_fault line_content without_mark
first_plain line ended clear is = record {
  formed = rw (is.narrow, not_true _ ended) refl;
  read = rw is.unmarked refl;
  clear = not_true _ clear;
}

lines_plain : (bytes : List ℕ) (ls : List (List ℕ)) → bytes ≡ concat ls
    → list_all is_ended ls ≡ true → list_all has_clear_word ls ≡ true → IsUnmarked bytes
    → ArePlain 1 ls
lines_plain bytes [] joined ended clear is = tt
lines_plain bytes (line ∷ more) joined ended clear is =
    let parts = and_parts (is_ended line) (list_all is_ended more) ended in
    let words = and_parts (has_clear_word line) (list_all has_clear_word more) clear in
    let first = front_unmarked line bytes (record { rest = concat more; whole = joined }) is in (
      first_plain line parts.0 words.0
          (content_unmarked (until 10 line)
          (front_unmarked (until 10 line) line (until_is_front 10 line) first)),
      later_are_plain 2 more (omega arith) parts.1 words.1,
    )

pub formed_plain : (bytes : List ℕ) → IsFormed bytes → ArePlain 1 (lines bytes)
formed_plain bytes is =
    lines_plain bytes (lines bytes) (sym (lines_joined bytes)) is.ended is.words
    (record { unmarked = is.unmarked; narrow = is.narrow })

-- A text without a CR has none that doesn't end its line.

abbrev is_other : ℕ → Bool
is_other b = not (b == 13)

abbrev lacks_return : List ℕ → Bool
lacks_return bytes = list_all is_other bytes

lacks_lone : (text : List ℕ) → lacks_return text ≡ true → has_lone_return text ≡ false
lacks_lone [] lacks = refl
lacks_lone (b ∷ text) lacks =
    let parts = and_parts (is_other b) (lacks_return text) lacks in
    rw (not_true (b == 13) parts.0, lacks_lone text parts.1) refl

until_case : (b : ℕ) (text : List ℕ) (at : Bool) → (b == 10) ≡ at → is_other b ≡ true
    → lacks_return (until 10 text) ≡ true → lacks_return (until 10 (b ∷ text)) ≡ true
until_case b text true is first rest = rw is refl
until_case b text false is first rest = rw is (and_from _ _ first rest)

until_lacks : (text : List ℕ) → lacks_return text ≡ true → lacks_return (until 10 text) ≡ true
until_lacks [] lacks = refl
until_lacks (b ∷ text) lacks =
    let parts = and_parts (is_other b) (lacks_return text) lacks in
    until_case b text (b == 10) refl parts.0 (until_lacks text parts.1)

onto_lacks : (b : ℕ) (ls : List (List ℕ)) → is_other b ≡ true → list_all lacks_return ls ≡ true
    → list_all lacks_return (onto b ls) ≡ true
onto_lacks b [] first rest = and_from _ _ (and_from _ _ first refl) refl
onto_lacks b (l ∷ ls) first rest =
    let parts = and_parts (lacks_return l) (list_all lacks_return ls) rest in
    and_from _ _ (and_from _ _ first parts.0) parts.1

lines_case : (b : ℕ) (text : List ℕ) (at : Bool) → (b == 10) ≡ at → is_other b ≡ true
    → list_all lacks_return (lines text) ≡ true → list_all lacks_return (lines (b ∷ text)) ≡ true
lines_case b text true is first rest = rw is rest
lines_case b text false is first rest = rw is (onto_lacks b (lines text) first rest)

lines_lack : (text : List ℕ) → lacks_return text ≡ true → list_all lacks_return (lines text) ≡ true
lines_lack [] lacks = refl
lines_lack (b ∷ text) lacks =
    let parts = and_parts (is_other b) (lacks_return text) lacks in
    lines_case b text (b == 10) refl parts.0 (lines_lack text parts.1)

all_ended : (ls : List (List ℕ)) → list_all lacks_return ls ≡ true → list_all is_ended ls ≡ true
all_ended [] lacks = refl
all_ended (l ∷ ls) lacks =
    let parts = and_parts (lacks_return l) (list_all lacks_return ls) lacks in
    and_from _ _ (ap not (lacks_lone (until 10 l) (until_lacks l parts.0))) (all_ended ls parts.1)

-- What is said of a text by `until` is so of each byte.
until_all_case : (b : ℕ) (text : List ℕ) (at : Bool) → (b == 13) ≡ at
    → until 13 (b ∷ text) ≡ b ∷ text → (until 13 text ≡ text → lacks_return text ≡ true)
    → lacks_return (b ∷ text) ≡ true
until_all_case b text true is clean rest = let e : [] ≡ b ∷ text = rw is at clean in cc
until_all_case b text false is clean rest =
    let e : b ∷ until 13 text ≡ b ∷ text = rw is at clean in
    let tail : until 13 text ≡ text = cc in
    rw is (rest tail)

clean_lacks : (text : List ℕ) → until 13 text ≡ text → lacks_return text ≡ true
clean_lacks [] clean = refl
clean_lacks (b ∷ text) clean = until_all_case b text (b == 13) refl clean
    (λ more. clean_lacks text more)

-- The canonical text of a mesh has none.

both_lack : (xs ys : List ℕ) → lacks_return xs ≡ true → lacks_return ys ≡ true
    → lacks_return (xs ++ ys) ≡ true
both_lack xs ys left right = list_all-append is_other xs ys ∙ and_from _ _ left right

inner_other : (b : ℕ) → is_inner b ≡ true → is_other b ≡ true
inner_other b is = grind (arith, nat_tests, is)

word_lacks : (word : List ℕ) → are_inner word ≡ true → lacks_return word ≡ true
word_lacks [] is = refl
word_lacks (b ∷ word) is =
    let parts = and_parts (is_inner b) (are_inner word) is in
    and_from _ _ (inner_other b parts.0) (word_lacks word parts.1)

three_lack : (a x b y c z d : List ℕ) → lacks_return a ≡ true → lacks_return b ≡ true
    → lacks_return c ≡ true → lacks_return d ≡ true → IsWord x → IsWord y → IsWord z
    → lacks_return (a ++ x ++ b ++ y ++ c ++ z ++ d) ≡ true
three_lack a x b y c z d la lb lc ld wx wy wz =
    both_lack (a ++ x ++ b ++ y ++ c ++ z) d
    (both_lack (a ++ x ++ b ++ y ++ c) z
    (both_lack (a ++ x ++ b ++ y) c
    (both_lack (a ++ x ++ b) y
    (both_lack (a ++ x) b (both_lack a x la (word_lacks x wx.inner)) lb) (word_lacks y wy.inner))
    lc) (word_lacks z wz.inner)) ld

point_lacks : (p : Place) → IsPlace p → lacks_return (point_line 0 p) ≡ true
unfolding point_line
point_lacks p (x, y, z) =
    three_lack (codes "v ") (coordinate_text 0 p.x) (codes " ") (coordinate_text 0 p.y)
    (codes " ") (coordinate_text 0 p.z) (codes "\n") refl refl refl refl
    (coordinate_word 0 p.x (omega arith) (le-leb (unsigned_abs p.x) 32767 x))
    (coordinate_word 0 p.y (omega arith) (le-leb (unsigned_abs p.y) 32767 y))
    (coordinate_word 0 p.z (omega arith) (le-leb (unsigned_abs p.z) 32767 z))

points_lack : (ps : List Place) → All IsPlace ps → lacks_return (flat_map (point_line 0) ps) ≡ true
points_lack [] all = refl
points_lack (p ∷ ps) all = both_lack (point_line 0 p) (flat_map (point_line 0) ps)
    (point_lacks p (all 0 p (omega arith)))
    (points_lack ps (λ i d l. all (suc i) d (omega (arith, l))))

corners_lack : (n : ℕ) (f : Corners) → n ≤ 1048576 → IsFace n f
    → lacks_return (corner_line f) ≡ true
unfolding corner_line
corners_lack n f few face =
    three_lack (codes "f ") (decimal (f.a + 1)) (codes " ") (decimal (f.b + 1)) (codes " ")
    (decimal (f.c + 1)) (codes "\n") refl refl refl refl
    (decimal_word (f.a + 1) (omega (arith, few, face.a)))
    (decimal_word (f.b + 1) (omega (arith, few, face.b)))
    (decimal_word (f.c + 1) (omega (arith, few, face.c)))

faces_lack : (n : ℕ) (fs : List Corners) → n ≤ 1048576 → All (IsFace n) fs
    → lacks_return (flat_map corner_line fs) ≡ true
faces_lack n [] few all = refl
faces_lack n (f ∷ fs) few all = both_lack (corner_line f) (flat_map corner_line fs)
    (corners_lack n f few (all 0 f (omega arith)))
    (faces_lack n fs few (λ i d l. all (suc i) d (omega (arith, l))))

canonical_lacks : (m : Mesh) → IsWellFormed m → All IsPlace m.points
    → lacks_return (canonical_text 0 m) ≡ true
unfolding canonical_text
canonical_lacks m formed places = both_lack (flat_map (point_line 0) m.points)
    (flat_map corner_line m.faces) (points_lack m.points places)
    (faces_lack (length m.points) m.faces formed.points formed.corners)

and_false : (b : Bool) → b && false ≡ false
and_false true = refl
and_false false = refl

comment_unmarked : (text : List ℕ) → is_marked (35 ∷ text) ≡ false
unfolding is_marked
comment_unmarked text = rw (and_false (nat_lt 2 (length (35 ∷ text)))) refl

comment_narrow : (text : List ℕ) → is_wide (35 ∷ text) ≡ false
unfolding is_wide
comment_narrow text = and_false (nat_lt 1 (length (35 ∷ text)))

-- Lines of which nothing is passed over begin with no garbled word.
bare_clear : (ls : List (List ℕ)) → AreBare ls → list_all has_clear_word ls ≡ true
bare_clear [] bare = refl
bare_clear (line ∷ more) bare =
    and_from _ _ (ap not (clear_of_bare (fields (content (until 10 line))) bare.0))
    (bare_clear more bare.1)

-- It stands well formed after a comment.
pub commented_formed : (line : List ℕ) (m : Mesh) → until 10 line ≡ line → until 13 line ≡ line
    → IsWellFormed m → All IsPlace m.points
    → IsFormed ((35 ∷ line) ++ 10 ∷ canonical_text 0 m)
commented_formed line m whole clean formed places =
    let text = (35 ∷ line) ++ 10 ∷ canonical_text 0 m in
    let lacks : lacks_return text ≡ true = both_lack (35 ∷ line) (10 ∷ canonical_text 0 m)
    (clean_lacks line clean) (canonical_lacks m formed places) in
    record {
      ended = all_ended (lines text) (lines_lack text lacks);
      words = bare_clear (lines text) (canonical_bare line m whole formed places);
      unmarked = comment_unmarked (line ++ 10 ∷ canonical_text 0 m);
      narrow = comment_narrow (line ++ 10 ∷ canonical_text 0 m);
    }
