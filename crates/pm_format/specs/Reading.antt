-- Reading a hierarchy from words, unit by unit: what was read and the words after it, or why
-- reading stops there. Each unit is judged by those before it, as soon as all its words are there.
use Rattle.std.specs.Prelude.{ℕ, ℤ, zero, suc, ◌==◌, ◌||◌, nat_lt, List, [], ◌∷◌, ◌++◌, Option}
use Rattle.std.specs.Prelude.{Some, None, Result, Ok, Err, Bool, if◌then◌else◌}
use Rattle.std.specs.Int.{w32, cast_signed}
use Rattle.pm_forest.specs.declared.parts.Counts.{Counts}
use Rattle.pm_forest.specs.declared.parts.Root.{Root}
use Rattle.pm_forest.specs.declared.parts.Face.{Face}
use Rattle.pm_forest.specs.declared.parts.Head.{Head}
use Rattle.pm_forest.specs.declared.parts.Record.{Record}
use Rattle.pm_forest.specs.declared.parts.Shape.{Shape}
use Rattle.pm_forest.specs.declared.parts.Shape.TheVariants as shapes
use Rattle.pm_forest.specs.declared.parts.Unfinished.{Unfinished}
use Rattle.pm_forest.specs.Forest.{Hierarchy}
use Rattle.pm_forest.specs.Rules.{counts_are_bad, root_fault, base_fault, head_fault}
use Rattle.pm_forest.specs.Rules.{new_face_fault, past_fault, with_record}
use Rattle.pm_forest.specs.Shaping.{Shaping, next_root, started, with_face, next_face, settled}
use Rattle.pm_format.specs.declared.stop.Stop.{Stop}
use Rattle.pm_format.specs.declared.stop.Stop.TheVariants as stops

-- What is read next, where nothing has stopped the reading.
abbrev pub then_read : {A B : Type 0} → (A → Result B Stop) → Result A Stop → Result B Stop
then_read next (Ok x) = next x
then_read next (Err stop) = Err stop

-- What is made of what was read.
abbrev pub read_map : {A B : Type 0} → (A → B) → Result A Stop → Result B Stop
read_map make r = then_read (λ x. Ok (make x)) r

-- All words of a unit, or the words end.
abbrev pub whole : {A : Type 0} → Option A → Result A Stop
whole None = Err stops.End
whole (Some x) = Ok x

-- What has no fault.
abbrev pub judged : {A : Type 0} → Option Shape → A → Result A Stop
judged None x = Ok x
judged (Some fault) x = Err (stops.Fault fault)

-- What was read, where it has no fault.
abbrev pub fitting : {X : Type 0} → (X → Option Shape) → Option (X × List ℕ)
    → Result (X × List ℕ) Stop
fitting fault o = then_read (λ u. judged (fault u.0) u) (whole o)

-- Coordinates as signed numbers.
abbrev pub signed_place : ℕ → ℕ → ℕ → List ℤ
signed_place x y z = cast_signed w32 x ∷ cast_signed w32 y ∷ cast_signed w32 z ∷ []

abbrev pub root_at : List ℕ → Option (Root × List ℕ)
root_at (x ∷ y ∷ z ∷ width ∷ input ∷ ws) = Some (next_root (signed_place x y z) width input, ws)
root_at _ = None

abbrev pub base_at : List ℕ → Option (Face × List ℕ)
base_at (a ∷ b ∷ c ∷ input ∷ ws) = Some (record { a = a; b = b; c = c; input = input }, ws)
base_at _ = None

abbrev pub head_at : List ℕ → Option (Head × List ℕ)
head_at (s ∷ width ∷ tx ∷ ty ∷ tz ∷ t_input ∷ ux ∷ uy ∷ uz ∷ u_input ∷ presence ∷ ws) =
    Some (
      record {
        s = s;
        width = width;
        t = signed_place tx ty tz;
        t_input = t_input;
        u = signed_place ux uy uz;
        u_input = u_input;
        presence = presence;
      },
      ws,
    )
head_at _ = None

-- A new face with the two words that name its neighbours.
pub record FaceUnit : Type 0 where
  pub face : Face
  pub first : ℕ
  pub second : ℕ

abbrev pub new_face_at : List ℕ → Option (FaceUnit × List ℕ)
new_face_at (a ∷ b ∷ c ∷ input ∷ first ∷ second ∷ ws) = Some (
  record {
    face = record { a = a; b = b; c = c; input = input };
    first = first;
    second =
        second;
  },
  ws,
)
new_face_at _ = None

-- As many units as counted, each judged by those before it.
unfoldable pub units_at : {X : Type 0} → (List X → List ℕ → Result (X × List ℕ) Stop) → ℕ → List X
    → List ℕ → Result (List X × List ℕ) Stop
units_at read zero before ws = Ok (before, ws)
units_at read (suc n) before ws =
    then_read (λ u. units_at read n (before ++ u.0 ∷ []) u.1) (read before ws)

abbrev pub root_after : Counts → List Root → List ℕ → Result (Root × List ℕ) Stop
root_after c before ws = fitting (root_fault c before) (root_at ws)

abbrev pub base_after : List Root → List Face → List ℕ → Result (Face × List ℕ) Stop
base_after roots before ws = fitting (base_fault roots before) (base_at ws)

-- The face that is due of an unfinished record after h.
unfoldable pub face_after : Hierarchy → Unfinished → List ℕ → Result (Unfinished × List ℕ) Stop
face_after h p ws =
    read_map (λ f. (with_face p (next_face f.0.face f.0.first f.0.second), f.1))
    (fitting (λ f. new_face_fault (with_record h p.split) p.left_due f.face f.first f.second)
    (new_face_at ws))

abbrev pub face_if : Bool → Hierarchy → Unfinished → List ℕ → Result (Unfinished × List ℕ) Stop
face_if due h p ws = if due then face_after h p ws else Ok (p, ws)

-- The left face and then the right face, each where it is due.
unfoldable pub faces_after : Hierarchy → Unfinished → List ℕ → Result (Unfinished × List ℕ) Stop
faces_after h p ws = then_read (λ q. face_if q.0.right_due h q.0 q.1) (face_if p.left_due h p ws)

-- The next record after h: its head, and then its faces.
unfoldable pub record_after : Hierarchy → List ℕ → Result (Record × List ℕ) Stop
record_after h ws =
    then_read (λ d. read_map (λ p. (p.0.split, p.1)) (faces_after h (started d.0) d.1))
    (fitting (head_fault h) (head_at ws))

abbrev pub record_after_all : List Root → List Face → List Record → List ℕ
    → Result (Record × List ℕ) Stop
record_after_all roots bases before ws = record_after
    (record { roots = roots; bases = bases; records = before }) ws

-- The counts of a header.
abbrev pub counts_at : List ℕ → Option (Counts × List ℕ)
counts_at (l ∷ r ∷ b ∷ n ∷ ws) = Some (record { leaves = l; roots = r; bases = b; records = n }, ws)
counts_at _ = None

-- The word of version 2 that tells how many decimals coordinates have, from 1 to 4.
abbrev pub told_digits : List ℕ → Result (ℕ × List ℕ) Stop
told_digits (d ∷ ws) = if d == 0 || nat_lt 4 d then Err (stops.Digits d) else Ok (d, ws)
told_digits [] = Err stops.End

-- How many decimals coordinates have. The first word is the magic, which is judged by its bytes.
unfoldable pub digits_at : List ℕ → Result (ℕ × List ℕ) Stop
digits_at (magic ∷ version ∷ ws) = if version == 1 then Ok (0, ws) else if version == 2 then
    told_digits ws else Err (stops.Version version)
digits_at _ = Err stops.End

-- The version, and in version 2 the number of decimals, is judged before the counts.
unfoldable pub header_at : List ℕ → Result (Counts × List ℕ) Stop
header_at ws = then_read (λ d. whole (counts_at d.1)) (digits_at ws)

-- The number of decimals that a text tells, where it tells one.
abbrev pub digits_in : Result (ℕ × List ℕ) Stop → ℕ
digits_in (Ok d) = d.0
digits_in (Err stop) = 0

-- All the units after a header.
unfoldable pub rest_at : Counts → List ℕ → Result (Hierarchy × List ℕ) Stop
rest_at c ws =
    then_read (λ r. then_read (λ b. then_read (λ n.
    let h : Hierarchy = record { roots = r.0; bases = b.0; records = n.0 } in
    judged (past_fault h) (h, n.1))
    (units_at (record_after_all r.0 b.0) c.records [] b.1))
    (units_at (base_after r.0) c.bases [] r.1)) (units_at (root_after c) c.roots [] ws)

unfoldable pub forest_at : List ℕ → Result (Hierarchy × List ℕ) Stop
forest_at ws =
    then_read (λ c. if counts_are_bad c.0 then Err (stops.Fault shapes.BadCount)
    else rest_at c.0 c.1) (header_at ws)

-- A shaper, and the words that are left, once it took in what was read.
abbrev pub took_root : Shaping → Root × List ℕ → Shaping × List ℕ
took_root s u = (record s { h = record s.h { roots = s.h.roots ++ u.0 ∷ [] } }, u.1)

abbrev pub took_base : Shaping → Face × List ℕ → Shaping × List ℕ
took_base s u = (record s { h = record s.h { bases = s.h.bases ++ u.0 ∷ [] } }, u.1)

abbrev pub took_face : Shaping → Unfinished × List ℕ → Shaping × List ℕ
took_face s u = (settled s.counts s.h u.0, u.1)
