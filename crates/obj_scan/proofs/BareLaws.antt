-- Of the lines of a canonical text nothing is passed over.
use Rattle.std.proofs.Common.{◌≡◌, ℕ, suc, ◌+◌, ◌<◌, ◌≤◌, Bool, true, false, List, [], ◌∷◌, ◌++◌}
use Rattle.std.proofs.Common.{Option, Some, None, ◌==◌, ◌||◌, if◌then◌else◌}
use Rattle.std.proofs.Common.{length, refl, sym, ◌∙◌, ap, subst, arith, append_assoc}
use Rattle.std.specs.Prelude.{unsigned_abs}
use Rattle.std.specs.Fmt.{decimal}
use Rattle.std.specs.List.{All, flat_map}
use Rattle.std.proofs.lemmas.Bool.{and_parts, and_from, le-leb, eqb-true}
use Rattle.std.proofs.lemmas.List.{append-nil}
use Rattle.std.proofs.lemmas.List.Folds.{list_all-append}
use Rattle.pm_io.specs.Bytes.{onto}
use Rattle.pm_base.specs.Place.{Place, IsPlace}
use Rattle.pm_base.specs.declared.mesh.Corners.{Corners}
use Rattle.pm_base.specs.Meshes.{Mesh, IsWellFormed, IsFace}
use Rattle.pm_base.specs.Canonical.{coordinate_text, point_line, corner_line, canonical_text}
use Rattle.obj_lines.specs.Text.{until, lines, content}
use Rattle.obj_lines.proofs.TextLaws.{lines_whole}
use Rattle.obj_lines.proofs.CutLaws.{before_end}
use Rattle.obj_lines.proofs.PlainLaws.{is_plain, are_plain, plain_text, comment_read}
use Rattle.obj_read.specs.Fields.{is_blank, begins_blank, fields}
use Rattle.obj_read.proofs.WordLaws.{is_inner, are_inner, IsWord, inner_filled, word_plain}
use Rattle.obj_read.proofs.WordLaws.{coordinate_word, decimal_word}
use Rattle.obj_read.specs.Fields.{is_letter}
use Rattle.obj_scan.specs.declared.passed.Kind.{Kind}
use Rattle.obj_scan.specs.Judged.{after_place}
use Rattle.obj_scan.specs.Passing.{kind_of, is_garbled, is_common}
use Rattle.obj_scan.specs.Laws.{begins_garbled}

-- What is passed over of the fields of a line, where they have no fault.
abbrev pub after_three : List (List ℕ) → Option Kind
after_three (a ∷ b ∷ c ∷ more) = after_place more
after_three _ = None

abbrev pub fields_passed : List (List ℕ) → Option Kind
fields_passed [] = None
fields_passed (keyword ∷ more) =
    if is_letter 118 keyword then after_three more
    else if is_letter 102 keyword then None
    else Some (kind_of keyword)

abbrev pub line_passed : List ℕ → Option Kind
line_passed line = fields_passed (fields (content (until 10 line)))

-- The fields are none, or three after `v` or `f`.
abbrev pub are_bare : List (List ℕ) → Bool
are_bare [] = true
are_bare (keyword ∷ a ∷ b ∷ c ∷ []) = is_letter 118 keyword || is_letter 102 keyword
are_bare _ = false

abbrev pub line_has : List ℕ → Bool
line_has line = are_bare (fields (content (until 10 line)))

-- Lines that are all so.
abbrev pub AreBare : List (List ℕ) → Type 0
AreBare [] = Unit {0}
AreBare (line ∷ more) = (line_has line ≡ true) × AreBare more

-- Nothing of them is passed over, and their first word isn't garbled.

letter_case : (x y z : List ℕ) (keyword : List ℕ) (v f : Bool) → is_letter 118 keyword ≡ v
    → is_letter 102 keyword ≡ f → (v || f) ≡ true
    → fields_passed (keyword ∷ x ∷ y ∷ z ∷ []) ≡ None
unfolding after_place
letter_case x y z keyword true f a b is = rw a refl
letter_case x y z keyword false true a b is = rw (a, b) refl
letter_case x y z keyword false false a b is = cc

pub none_of_bare : (parts : List (List ℕ)) → are_bare parts ≡ true → fields_passed parts ≡ None
none_of_bare [] is = refl
none_of_bare (keyword ∷ []) is = cc
none_of_bare (keyword ∷ x ∷ []) is = cc
none_of_bare (keyword ∷ x ∷ y ∷ []) is = cc
none_of_bare (keyword ∷ x ∷ y ∷ z ∷ []) is = letter_case x y z keyword _ _ refl refl is
none_of_bare (keyword ∷ x ∷ y ∷ z ∷ w ∷ more) is = cc

clear_case : (b : ℕ) (v f : Bool) → (b == 118) ≡ v → (b == 102) ≡ f → (v || f) ≡ true
    → is_garbled (b ∷ []) ≡ false
unfolding is_garbled is_common
clear_case b true f a c is = rw (eqb-true b 118 a) refl
clear_case b false true a c is = rw (eqb-true b 102 c) refl
clear_case b false false a c is = cc

pub clear_of_bare : (parts : List (List ℕ)) → are_bare parts ≡ true → begins_garbled parts ≡ false
clear_of_bare [] is = refl
clear_of_bare (keyword ∷ []) is = cc
clear_of_bare (keyword ∷ x ∷ []) is = cc
clear_of_bare (keyword ∷ x ∷ y ∷ []) is = cc
clear_of_bare ([] ∷ x ∷ y ∷ z ∷ []) is = cc
clear_of_bare ((b ∷ []) ∷ x ∷ y ∷ z ∷ []) is = clear_case b _ _ refl refl is
clear_of_bare ((b ∷ c ∷ bs) ∷ x ∷ y ∷ z ∷ []) is = cc
clear_of_bare (keyword ∷ x ∷ y ∷ z ∷ w ∷ more) is = cc

-- The fields of three words after a letter.

word_first : (word rest : List ℕ) → 0 < length word → are_inner word ≡ true
    → begins_blank rest ≡ true → fields (word ++ rest) ≡ word ∷ fields rest
word_first [] rest some inner ends = absurd (omega (arith, some))
word_first (b ∷ []) rest some inner ends =
    let first = inner_filled b (and_parts (is_inner b) true inner).0 in
    rw (first, ends) refl
word_first (b ∷ c ∷ bs) rest some inner ends =
    let parts = and_parts (is_inner b) (are_inner (c ∷ bs)) inner in
    let first : is_blank b ≡ false = inner_filled b parts.0 in
    let second : is_blank c ≡ false = inner_filled c
    (and_parts (is_inner c) (are_inner bs) parts.1).0 in
    let more = word_first (c ∷ bs) rest (omega arith) parts.1 ends in
    rw first (rw second (ap (onto b) (rw second at more)))

abbrev three : List ℕ → List ℕ → List ℕ → List ℕ
three x y z = x ++ 32 ∷ (y ++ 32 ∷ z)

three_words : (x y z : List ℕ) → IsWord x → IsWord y → IsWord z
    → fields (three x y z) ≡ x ∷ y ∷ z ∷ []
three_words x y z first second third =
    word_first x (32 ∷ (y ++ 32 ∷ z)) first.some first.inner refl
    ∙ ap (λ (l : List (List ℕ)). x ∷ l) (word_first y (32 ∷ z) second.some second.inner refl
    ∙ ap (λ (l : List (List ℕ)). y ∷ l) (ap fields (sym (append-nil z))
    ∙ word_first z [] third.some third.inner refl))

plain_both : (xs ys : List ℕ) → are_plain xs ≡ true → are_plain ys ≡ true
    → are_plain (xs ++ ys) ≡ true
plain_both xs ys left right = list_all-append is_plain xs ys ∙ and_from _ _ left right

plain_three : (x y z : List ℕ) → IsWord x → IsWord y → IsWord z → are_plain (three x y z) ≡ true
plain_three x y z first second third =
    plain_both x (32 ∷ (y ++ 32 ∷ z)) (word_plain x first.inner)
    (plain_both y (32 ∷ z) (word_plain y second.inner) (word_plain z third.inner))

-- A line and those after it.
bare_more : (line rest : List ℕ) → until 10 line ≡ line → line_has (line ++ 10 ∷ []) ≡ true
    → AreBare (lines rest) → AreBare (lines ((line ++ 10 ∷ []) ++ rest))
bare_more line rest clean first bare =
    subst AreBare (sym (ap lines (append_assoc line (10 ∷ []) rest) ∙ lines_whole line rest clean))
    (first, bare)

three_bare : (letter : ℕ) (x y z rest : List ℕ) → is_plain letter ≡ true → is_blank letter ≡ false
    → (letter == 118 || letter == 102) ≡ true → IsWord x → IsWord y → IsWord z
    → AreBare (lines rest) → AreBare (lines (((letter ∷ 32 ∷ three x y z) ++ 10 ∷ []) ++ rest))
three_bare letter x y z rest plain filled known first second third bare =
    let line = letter ∷ 32 ∷ three x y z in
    let whole = plain_text line (omega arith)
    (and_from _ _ plain (plain_three x y z first second third)) in
    let words : fields line ≡ (letter ∷ []) ∷ x ∷ y ∷ z ∷ [] = rw filled
    (ap (λ (l : List (List ℕ)). (letter ∷ []) ∷ l) (three_words x y z first second third)) in
    bare_more line rest whole.clean
    (ap (λ t. are_bare (fields (content t))) (before_end line whole.clean)
    ∙ ap (λ t. are_bare (fields t)) whole.read ∙ ap are_bare words ∙ known) bare

-- The words of a line from the left, and from the right.
joined : (x y z : List ℕ)
    → ((((x ++ 32 ∷ []) ++ y) ++ 32 ∷ []) ++ z) ++ 10 ∷ [] ≡ three x y z ++ 10 ∷ []
joined x y z = ap (λ (l : List ℕ). l ++ 10 ∷ [])
    (append_assoc ((x ++ 32 ∷ []) ++ y) (32 ∷ []) z ∙ append_assoc (x ++ 32 ∷ []) y (32 ∷ z)
    ∙ append_assoc x (32 ∷ []) (y ++ 32 ∷ z))

point_bare : (p : Place) (rest : List ℕ) → IsPlace p → AreBare (lines rest)
    → AreBare (lines (point_line 0 p ++ rest))
unfolding point_line
point_bare p rest (in_x, in_y, in_z) bare =
    let x = coordinate_text 0 p.x in
    let y = coordinate_text 0 p.y in
    let z = coordinate_text 0 p.z in
    subst (λ l. AreBare (lines (l ++ rest)))
    (sym (ap (λ (l : List ℕ). 118 ∷ 32 ∷ l) (joined x y z)))
    (three_bare 118 x y z rest refl refl refl
    (coordinate_word 0 p.x (omega arith) (le-leb (unsigned_abs p.x) 32767 in_x))
    (coordinate_word 0 p.y (omega arith) (le-leb (unsigned_abs p.y) 32767 in_y))
    (coordinate_word 0 p.z (omega arith) (le-leb (unsigned_abs p.z) 32767 in_z)) bare)

points_bare : (ps : List Place) (rest : List ℕ) → All IsPlace ps → AreBare (lines rest)
    → AreBare (lines (flat_map (point_line 0) ps ++ rest))
points_bare [] rest all bare = bare
points_bare (p ∷ ps) rest all bare =
    subst (λ l. AreBare (lines l)) (sym (append_assoc (point_line 0 p)
    (flat_map (point_line 0) ps) rest))
    (point_bare p (flat_map (point_line 0) ps ++ rest) (all 0 p (omega arith))
    (points_bare ps rest (λ i d l. all (suc i) d (omega (arith, l))) bare))

face_bare : (n : ℕ) (f : Corners) (rest : List ℕ) → n ≤ 1048576 → IsFace n f → AreBare (lines rest)
    → AreBare (lines (corner_line f ++ rest))
unfolding corner_line
face_bare n f rest few is bare =
    let x = decimal (f.a + 1) in
    let y = decimal (f.b + 1) in
    let z = decimal (f.c + 1) in
    subst (λ l. AreBare (lines (l ++ rest)))
    (sym (ap (λ (l : List ℕ). 102 ∷ 32 ∷ l) (joined x y z)))
    (three_bare 102 x y z rest refl refl refl
    (decimal_word (f.a + 1) (omega (arith, few, is.a)))
    (decimal_word (f.b + 1) (omega (arith, few, is.b)))
    (decimal_word (f.c + 1) (omega (arith, few, is.c))) bare)

faces_bare : (n : ℕ) (fs : List Corners) → n ≤ 1048576 → All (IsFace n) fs
    → AreBare (lines (flat_map corner_line fs))
faces_bare n [] few all = tt
faces_bare n (f ∷ fs) few all =
    face_bare n f (flat_map corner_line fs) few (all 0 f (omega arith))
    (faces_bare n fs few (λ i d l. all (suc i) d (omega (arith, l))))

-- So are they after a comment.
pub canonical_bare : (line : List ℕ) (m : Mesh) → until 10 line ≡ line → IsWellFormed m
    → All IsPlace m.points → AreBare (lines ((35 ∷ line) ++ 10 ∷ canonical_text 0 m))
unfolding canonical_text
canonical_bare line m clean formed places =
    let comment = 35 ∷ line in
    let comment_clean : until 10 comment ≡ comment = ap (λ (l : List ℕ). 35 ∷ l) clean in
    let nothing : line_has (comment ++ 10 ∷ []) ≡ true =
    ap (λ t. are_bare (fields (content t))) (before_end comment comment_clean)
    ∙ ap (λ t. are_bare (fields t)) (comment_read line) in
    let text = flat_map (point_line 0) m.points ++ flat_map corner_line m.faces in
    subst (λ l. AreBare (lines l)) (append_assoc comment (10 ∷ []) text)
    (bare_more comment text comment_clean nothing
    (points_bare m.points (flat_map corner_line m.faces) places
    (faces_bare (length m.points) m.faces formed.points formed.corners)))
