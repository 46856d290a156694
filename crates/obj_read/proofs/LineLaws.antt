-- What is read of a line that is written: a letter, and three words after blanks.
use Rattle.std.proofs.Common.{◌≡◌, ℕ, ◌+◌, ◌<◌, ◌≤◌, true, false, List, [], ◌∷◌, ◌++◌, length, Ok}
use Rattle.std.proofs.Common.{refl, sym, ◌∙◌, ap, arith, append_assoc, length-append}
use Rattle.std.specs.Fmt.{decimal}
use Rattle.std.proofs.lemmas.Bool.{and_parts, and_from, le-leb, lt-leb, ne_eqb}
use Rattle.std.proofs.lemmas.List.{append-nil}
use Rattle.std.proofs.lemmas.List.Folds.{list_all-append}
use Rattle.pm_base.specs.Place.{Place, IsPlace}
use Rattle.pm_base.specs.declared.mesh.Corners.{Corners}
use Rattle.pm_base.specs.Meshes.{IsFace}
use Rattle.pm_base.specs.Canonical.{coordinate_text, point_line, corner_line}
use Rattle.obj_lines.specs.Text.{until, content}
use Rattle.obj_lines.proofs.PlainLaws.{is_plain, are_plain, IsReadWhole, plain_text}
use Rattle.obj_read.specs.declared.found.Found.{Found}
use Rattle.obj_read.specs.declared.found.Found.TheVariants as found
use Rattle.obj_read.specs.Fields.{is_blank, begins_blank, fields}
use Rattle.pm_io.specs.Bytes.{onto}
use Rattle.obj_read.specs.Judged.{vertex_of, face_read, fields_found, line_found}
use Rattle.obj_read.proofs.WordLaws.{is_inner, are_inner, IsWord, inner_filled, word_plain}
use Rattle.obj_read.proofs.WordLaws.{coordinate_word, decimal_word, written_index}
use Rattle.obj_read.proofs.WrittenLaws.{written_is_read}

-- A word is the first field, where a blank or the end follows.
fields_first : (word rest : List ℕ) → 0 < length word → are_inner word ≡ true
    → begins_blank rest ≡ true → fields (word ++ rest) ≡ word ∷ fields rest
fields_first [] rest some inner ends = absurd (omega (arith, some))
fields_first (b ∷ []) rest some inner ends =
    let first = inner_filled b (and_parts (is_inner b) true inner).0 in
    rw (first, ends) refl
fields_first (b ∷ c ∷ bs) rest some inner ends =
    let parts = and_parts (is_inner b) (are_inner (c ∷ bs)) inner in
    let first : is_blank b ≡ false = inner_filled b parts.0 in
    let second : is_blank c ≡ false =
    inner_filled c (and_parts (is_inner c) (are_inner bs) parts.1).0 in
    let more = fields_first (c ∷ bs) rest (omega arith) parts.1 ends in
    rw first (rw second (ap (onto b) (rw second at more)))

-- Three words with a space between them.
abbrev three : List ℕ → List ℕ → List ℕ → List ℕ
three x y z = x ++ 32 ∷ (y ++ 32 ∷ z)

fields_three : (x y z : List ℕ) → IsWord x → IsWord y → IsWord z
    → fields (three x y z) ≡ x ∷ y ∷ z ∷ []
fields_three x y z first second third =
    fields_first x (32 ∷ (y ++ 32 ∷ z)) first.some first.inner refl
    ∙ ap (λ (l : List (List ℕ)). x ∷ l) (fields_first y (32 ∷ z) second.some second.inner refl
    ∙ ap (λ (l : List (List ℕ)). y ∷ l) (ap fields (sym (append-nil z))
    ∙ fields_first z [] third.some third.inner refl))

plain_both : (xs ys : List ℕ) → are_plain xs ≡ true → are_plain ys ≡ true
    → are_plain (xs ++ ys) ≡ true
plain_both xs ys left right = list_all-append is_plain xs ys ∙ and_from _ _ left right

plain_three : (x y z : List ℕ) → IsWord x → IsWord y → IsWord z → are_plain (three x y z) ≡ true
plain_three x y z first second third =
    plain_both x (32 ∷ (y ++ 32 ∷ z)) (word_plain x first.inner)
    (plain_both y (32 ∷ z) (word_plain y second.inner) (word_plain z third.inner))

length_three : (x y z : List ℕ) → IsWord x → IsWord y → IsWord z → length (three x y z) ≤ 35
length_three x y z first second third =
    omega (
      arith,
      length-append x (32 ∷ (y ++ 32 ∷ z)),
      length-append y (32 ∷ z),
      first.few,
      second.few,
      third.few,
    )

-- A written line without its LF: it has so few bytes, is read whole, and has these fields.
record IsLine (line : List ℕ) (parts : List (List ℕ)) : Type 0 where
  whole : IsReadWhole line
  words : fields line ≡ parts
  few : length line ≤ 37

letter_line : (letter : ℕ) (x y z : List ℕ) → is_plain letter ≡ true → is_blank letter ≡ false
    → IsWord x → IsWord y → IsWord z
    → IsLine (letter ∷ 32 ∷ three x y z) ((letter ∷ []) ∷ x ∷ y ∷ z ∷ [])
letter_line letter x y z plain filled first second third = record {
  whole = plain_text (letter ∷ 32 ∷ three x y z) (omega arith)
      (and_from _ _ plain (plain_three x y z first second third));
  words = rw filled
      (ap (λ (l : List (List ℕ)). (letter ∷ []) ∷ l) (fields_three x y z first second third));
  few = omega (arith, length_three x y z first second third);
}

line_of_fields : (d n k : ℕ) (line : List ℕ) (parts : List (List ℕ)) → IsLine line parts
    → line_found d n k line ≡ fields_found d n k parts
unfolding line_found
line_of_fields d n k line parts is = rw is.whole.ended (ap (fields_found d n k) is.words)

-- A line that is written has its LF, no other one, and few bytes, and gives this.
pub record IsWritten (d n k : ℕ) (text : List ℕ) (f : Found) : Type 0 where
  pub line : List ℕ
  pub is : text ≡ line ++ 10 ∷ []
  pub clean : until 10 line ≡ line
  pub few : length line ≤ 37
  pub gives : line_found d n k (content line) ≡ Ok f

written : (d n k : ℕ) (text line : List ℕ) (parts : List (List ℕ)) (f : Found)
    → text ≡ line ++ 10 ∷ [] → IsLine line parts → fields_found d n k parts ≡ Ok f
    → IsWritten d n k text f
written d n k text line parts f same is gives = record {
  line = line;
  is = same;
  clean = is.whole.clean;
  few = is.few;
  gives = ap (line_found d n k) is.whole.read ∙ line_of_fields d n k line parts is ∙ gives;
}

-- The words of a line from the left, and from the right.
joined : (x y z : List ℕ) → ((((x ++ 32 ∷ []) ++ y) ++ 32 ∷ []) ++ z) ++ 10 ∷ [] ≡ three x y z
    ++ 10 ∷ []
joined x y z = ap (λ (l : List ℕ). l ++ 10 ∷ [])
    (append_assoc ((x ++ 32 ∷ []) ++ y) (32 ∷ []) z ∙ append_assoc (x ++ 32 ∷ []) y (32 ∷ z)
    ∙ append_assoc x (32 ∷ []) (y ++ 32 ∷ z))

pub point_written : (d n k : ℕ) (p : Place) → d ≤ 4 → n < 1048576 → IsPlace p
    → IsWritten d n k (point_line d p) (found.Vertex p)
unfolding point_line vertex_of
point_written d n k p few room place =
    let x = coordinate_text d p.x in
    let y = coordinate_text d p.y in
    let z = coordinate_text d p.z in
    let in_x = le-leb _ _ place.0 in
    let in_y = le-leb _ _ place.1 in
    let in_z = le-leb _ _ place.2 in
    let line = letter_line 118 x y z refl refl (coordinate_word d p.x few in_x)
    (coordinate_word d p.y few in_y) (coordinate_word d p.z few in_z) in
    written d n k (point_line d p) (118 ∷ 32 ∷ three x y z) ((118 ∷ []) ∷ x ∷ y ∷ z ∷ [])
    (found.Vertex p)
    (ap (λ (l : List ℕ). 118 ∷ 32 ∷ l) (joined x y z)) line
    (rw (
      written_is_read d p.x few in_x,
      written_is_read d p.y few in_y,
      written_is_read d p.z few
          in_z,
      lt-leb 1048576 n room,
    ) refl)

pub face_written : (d n k : ℕ) (f : Corners) → n ≤ 1048576 → k < 1048576 → IsFace n f
    → IsWritten d n k (corner_line f) (found.Face f)
unfolding corner_line face_read
face_written d n k f most room is =
    let x = decimal (f.a + 1) in
    let y = decimal (f.b + 1) in
    let z = decimal (f.c + 1) in
    let line = letter_line 102 x y z refl refl
    (decimal_word (f.a + 1) (omega (arith, is.a, most)))
    (decimal_word (f.b + 1) (omega (arith, is.b, most)))
    (decimal_word (f.c + 1) (omega (arith, is.c, most))) in
    written d n k (corner_line f) (102 ∷ 32 ∷ three x y z) ((102 ∷ []) ∷ x ∷ y ∷ z ∷ [])
    (found.Face f)
    (ap (λ (l : List ℕ). 102 ∷ 32 ∷ l) (joined x y z)) line
    (rw (
      written_index n f.a is.a most,
      written_index n f.b is.b most,
      written_index n f.c is.c
          most,
      ne_eqb f.a f.b is.ab,
      ne_eqb f.b f.c is.bc,
      ne_eqb f.c f.a is.ca,
      lt-leb 1048576 k room,
    ) refl)
