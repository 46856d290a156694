-- The rules of shape. Each unit of a hierarchy is judged by those before it: its fault is the first
-- rule that it breaks.
use Rattle.std.specs.Prelude.{◌≡◌, ℕ, ◌+◌, ◌-◌, ◌*◌, List, [], ◌∷◌, ◌++◌, length, map, sum, Bool}
use Rattle.std.specs.Prelude.{true, false, not, ◌&&◌, ◌||◌, nat_lt, nat_le, ◌==◌, is_some, Option}
use Rattle.std.specs.Prelude.{Some, None, if◌then◌else◌}
use Rattle.std.specs.List.{flat_map}
use Rattle.pm_base.specs.declared.limits.TheConstants.{MOST_FACES, MOST_VERTICES}
use Rattle.pm_base.specs.Place.{is_place, place_of}
use Rattle.pm_base.specs.declared.ids.Side.{Side}
use Rattle.pm_base.specs.Counts.{one_if}
use Rattle.pm_forest.specs.declared.parts.Counts.{Counts}
use Rattle.pm_forest.specs.declared.parts.Root.{Root}
use Rattle.pm_forest.specs.declared.parts.Face.{Face}
use Rattle.pm_forest.specs.declared.parts.Head.{Head}
use Rattle.pm_forest.specs.declared.parts.NewFace.{NewFace}
use Rattle.pm_forest.specs.declared.parts.Record.{Record}
use Rattle.pm_forest.specs.declared.parts.Shape.{Shape}
use Rattle.pm_forest.specs.declared.parts.Shape.TheVariants.{BadRoot, BadFace, BadRecord, BadInput}
use Rattle.pm_forest.specs.Marks.{is_used}
use Rattle.pm_forest.specs.Forest.{Hierarchy, Interval, within, widths_of, root_of, leaf_count}
use Rattle.pm_forest.specs.Forest.{node_count, record_count, s_of, t_of, u_of, interval_of}
use Rattle.pm_forest.specs.Forest.{splitter_of}
use Rattle.pm_forest.specs.Faces.{faces_of, first_face, face_count, revealed_by}

-- No more leaves and base faces than a mesh can have vertices and faces; roots are among the
-- leaves, and there is one if there is a leaf; each record adds one node without children, so there
-- are as many as leaves that aren't roots.
unfoldable pub counts_are_bad : Counts → Bool
counts_are_bad c =
    nat_lt MOST_VERTICES c.leaves || nat_lt MOST_FACES c.bases || nat_lt c.leaves c.roots ||
    (c.roots == 0 && not (c.leaves == 0)) || not (c.records == c.leaves - c.roots)

-- The input numbers of the nodes and of the faces so far, in stream order.
abbrev pub root_inputs : List Root → List ℕ
root_inputs rs = map (λ r. r.input) rs

abbrev pub child_inputs : Record → List ℕ
child_inputs r = r.t.input ∷ r.u.input ∷ []

abbrev pub node_inputs : Hierarchy → List ℕ
node_inputs h = root_inputs h.roots ++ flat_map child_inputs h.records

abbrev pub face_inputs : List Face → List ℕ
face_inputs fs = map (λ f. f.input) fs

-- A node of width 1 has the number of an input vertex that no earlier node has; another node has
-- none.
unfoldable pub vertex_input_is_bad : ℕ → List ℕ → ℕ → ℕ → Bool
vertex_input_is_bad leaves used width input =
    if width == 1 then (input == 0 || nat_lt leaves input || is_used used input)
    else not (input == 0)

-- A face has a number that no earlier face has.
unfoldable pub face_input_is_bad : List ℕ → ℕ → Bool
face_input_is_bad used input = input == 0 || nat_lt MOST_FACES input || is_used used input

-- A root's width, where `taken` leaves are those of the `before` roots before it. It is at least 1
-- and leaves as much to each root that is still to come, and the last root takes all that is left.
unfoldable pub width_is_bad : Counts → ℕ → ℕ → ℕ → Bool
width_is_bad c taken before width =
    width == 0 || nat_lt c.leaves (taken + width + (c.roots - 1 - before)) ||
    (before + 1 == c.roots && not (taken + width == c.leaves))

-- What is wrong with the next root.
unfoldable pub root_fault : Counts → List Root → Root → Option Shape
root_fault c before r =
    if not (is_place r.place) then Some (BadRoot (length before))
    else if width_is_bad c (sum (widths_of before)) (length before) r.width then
    Some (BadRoot (length before))
    else if vertex_input_is_bad c.leaves (root_inputs before) r.width r.input then
    Some (BadInput (length before))
    else None

-- A base face has its corners under three different roots.
unfoldable pub base_is_bad : List Root → Face → Bool
base_is_bad roots f =
    let leaves = sum (widths_of roots) in
    let root = root_of (widths_of roots) 0 in
    nat_le leaves f.a || nat_le leaves f.b || nat_le leaves f.c || root f.a ==
    root f.b || root f.b == root f.c || root f.a == root f.c

-- What is wrong with the next base face.
unfoldable pub base_fault : List Root → List Face → Face → Option Shape
base_fault roots before f =
    if base_is_bad roots f then Some (BadFace (length before))
    else if face_input_is_bad (face_inputs before) f.input then
    Some (BadInput (length roots + length before))
    else None

-- How many input fields come before the head of the next record: one a root, one a face and two a
-- record.
abbrev pub fields_before : Hierarchy → ℕ
fields_before h = length h.roots + 2 * record_count h + face_count h

-- A record splits a node that is there, that no earlier record splits and that has at least two
-- leaves; its first child takes some of them, and not all.
unfoldable pub split_is_bad : Hierarchy → ℕ → ℕ → Bool
split_is_bad h s width =
    let leaves = interval_of h s in
    nat_le (node_count h) s || is_some (splitter_of h s) || nat_lt (leaves.until - leaves.from) 2 ||
    width == 0 || nat_le (leaves.until - leaves.from) width

-- A record has a left face, a right face, or both.
abbrev pub presence_is_bad : ℕ → Bool
presence_is_bad p = p == 0 || nat_lt 3 p

-- Both children are at places in range.
unfoldable pub head_is_bad : Hierarchy → Head → Bool
head_is_bad h d =
    split_is_bad h d.s d.width || presence_is_bad d.presence || not
    (is_place (place_of d.t) && is_place (place_of d.u))

-- What is wrong with the input numbers of the next record's children.
unfoldable pub children_fault : Hierarchy → Head → Option Shape
children_fault h d =
    let leaves = interval_of h d.s in
    if vertex_input_is_bad (leaf_count h) (node_inputs h) d.width d.t_input then
    Some (BadInput (fields_before h))
    else if vertex_input_is_bad (leaf_count h) (node_inputs h ++ d.t_input ∷ [])
    (leaves.until - leaves.from - d.width) d.u_input then Some (BadInput (fields_before h + 1))
    else None

-- What is wrong with the head of the next record.
unfoldable pub head_fault : Hierarchy → Head → Option Shape
head_fault h d = if head_is_bad h d then Some (BadRecord (record_count h)) else children_fault h d

-- One corner is under p, the next under q, and the one after it outside s.
abbrev pub runs_from : Interval → Interval → Interval → ℕ → ℕ → ℕ → Bool
runs_from p q s a b c = within p a && within q b && not (within s c)

-- The same in the face's cyclic order.
unfoldable pub runs : Interval → Interval → Interval → Face → Bool
runs p q s f =
    runs_from p q s f.a f.b f.c || runs_from p q s f.b f.c f.a || runs_from p q s f.c f.a f.b

-- A new face of the last record of h, the left one or the right one. It has one corner under t, one
-- under u and one outside s, a left face running from t to u and a right face from u to t; the
-- neighbours that its words name are sides of faces before the record; and there are no more faces
-- than a mesh can have.
unfoldable pub new_face_is_bad : Hierarchy → Bool → Face → ℕ → ℕ → Bool
new_face_is_bad h left f first second =
    let k = record_count h - 1 in
    let s = interval_of h (s_of h k) in
    let t = interval_of h (t_of h k) in
    let u = interval_of h (u_of h k) in
    nat_le (leaf_count h) f.a || nat_le (leaf_count h) f.b || nat_le (leaf_count h) f.c
    || not (if left then runs t u s f else runs u t s f)
    || nat_lt (3 * first_face h k) first || nat_lt (3 * first_face h k) second
    || nat_le MOST_FACES (face_count h)

-- What is wrong with the next face of the last record of h, which has the faces that came before.
unfoldable pub new_face_fault : Hierarchy → Bool → Face → ℕ → ℕ → Option Shape
new_face_fault h left f first second =
    if new_face_is_bad h left f first second then Some (BadRecord (record_count h - 1))
    else if face_input_is_bad (face_inputs (faces_of h)) f.input then
    Some (BadInput (fields_before h))
    else None

-- The record as its head gives it: with no face; and with its left face alone.
abbrev pub bare : Record → Record
bare r = record r { left = None; right = None }

abbrev pub left_only : Record → Record
left_only r = record r { right = None }

abbrev pub with_record : Hierarchy → Record → Hierarchy
with_record h r = record h { records = h.records ++ r ∷ [] }

-- The word by which a stream names a neighbour: 0 for none.
abbrev pub word_of : Option Side → ℕ
word_of None = 0
word_of (Some e) = e.0 + 1

-- The head of a record in a stream, where it has the left and the right face as told.
abbrev pub head_with : Record → Bool → Bool → Head
head_with r left right = record {
  s = r.s;
  width = r.width;
  t = r.t.place.x ∷ r.t.place.y ∷ r.t.place.z ∷ [];
  t_input = r.t.input;
  u = r.u.place.x ∷ r.u.place.y ∷ r.u.place.z ∷ [];
  u_input = r.u.input;
  presence = one_if left + 2 * one_if right;
}

abbrev pub head_of : Record → Head
head_of r = head_with r (is_some r.left) (is_some r.right)

abbrev pub face_fault : Hierarchy → Bool → Option NewFace → Option Shape
face_fault h left None = None
face_fault h left (Some n) = new_face_fault h left n.face (word_of n.first) (word_of n.second)

abbrev pub first_fault_of : Option Shape → Option Shape → Option Shape
first_fault_of None later = later
first_fault_of (Some e) later = Some e

-- What is wrong with the next record: with its head, else with its left face, else with its right
-- face.
unfoldable pub record_fault : Hierarchy → Record → Option Shape
record_fault h r =
    first_fault_of (head_fault h (head_of r))
    (first_fault_of (face_fault (with_record h (bare r)) true r.left)
    (face_fault (with_record h (left_only r)) false r.right))

-- The input field of face f: those of the roots and of the faces before it come first, and of the
-- heads before it.
abbrev pub heads_before : Option ℕ → ℕ
heads_before None = 0
heads_before (Some k) = k + 1

abbrev pub field_of : Hierarchy → ℕ → ℕ
field_of h f = length h.roots + f + 2 * heads_before (revealed_by h f)

-- The first of these faces, which have the numbers from f on, whose input number passes the number
-- of faces.
abbrev pub past_from : Hierarchy → ℕ → List Face → Option Shape
past_from h f [] = None
past_from h f (x ∷ xs) = if nat_lt (face_count h) x.input then Some (BadInput (field_of h f))
    else past_from h (f + 1) xs

-- What is wrong once all units are there.
unfoldable pub past_fault : Hierarchy → Option Shape
past_fault h = past_from h 0 (faces_of h)

-- No unit has a fault, each judged by those before it.
abbrev pub AllFit : {X : Type 0} → (List X → X → Option Shape) → List X → List X → Type 0
AllFit fault before [] = Unit {0}
AllFit fault before (x ∷ xs) = (fault before x ≡ None) × AllFit fault (before ++ x ∷ []) xs

abbrev pub counts_of : Hierarchy → Counts
counts_of h = record {
  leaves = leaf_count h;
  roots = length h.roots;
  bases = length h.bases;
  records = record_count h;
}

abbrev pub record_fault_after : List Root → List Face → List Record → Record → Option Shape
record_fault_after roots bases before r = record_fault
    (record { roots = roots; bases = bases; records = before }) r

-- The right shape: no unit has a fault.
pub record HasShape (h : Hierarchy) : Type 0 where
  pub counts : counts_are_bad (counts_of h) ≡ false
  pub roots : AllFit (root_fault (counts_of h)) [] h.roots
  pub bases : AllFit (base_fault h.roots) [] h.bases
  pub records : AllFit (record_fault_after h.roots h.bases) [] h.records
  pub inputs : past_fault h ≡ None
