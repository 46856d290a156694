-- What is made of bytes.
use Rattle.std.proofs.Common.{◌≡◌, ℕ, List, Some, None, Ok, Err, refl, sym, ◌∙◌}
use Rattle.pm_forest.specs.Forest.{Hierarchy, leaf_count}
use Rattle.pm_forest.specs.Faces.{face_count}
use Rattle.pm_format.specs.declared.fault.FormatError.{FormatError}
use Rattle.pm_format.specs.Faults.{stream_fault}
use Rattle.paint.specs.declared.refused.Refused.{Refused}
use Rattle.paint.specs.declared.coat.CoatFail.{CoatFail}
use Rattle.paint.specs.declared.coat.CoatFail.TheVariants as coat_fails
use Rattle.paint.specs.declared.fault.Fault.{Fault}
use Rattle.paint.specs.declared.fault.Fault.TheVariants as faults
use Rattle.pm_program.specs.declared.making.MakeFail.{MakeFail}
use Rattle.pm_program.specs.declared.making.MakeFail.TheVariants as fails
use Rattle.paint.specs.Coat.{IsFail, coat_fault, coat_of, coat_with, sizes_of}
use Rattle.paint.specs.Lines.{lines_of}
use Rattle.paint.specs.Streams.{BeginsWith, IsUnread}
use Rattle.pm_program.specs.Making.{FailsBy}
use Rattle.paint.specs.Making.{IsPainted, IsMade, HasBadCoat, Refuses, coat_fail}
use Rattle.paint.proofs.StreamLaws.{one_beginning, begun_fine}

-- A coat without a fault is told, and a fault of one.
pub coat_told : (vertices faces : ℕ) (bytes : List ℕ) → coat_fault vertices faces bytes ≡ None
    → coat_of vertices faces bytes ≡ Ok (coat_with (sizes_of vertices faces bytes) bytes)
unfolding coat_of
coat_told vertices faces bytes none = rw none refl

fault_told : (vertices faces : ℕ) (bytes : List ℕ) (e : Refused)
    → coat_fault vertices faces bytes ≡ Some e → coat_of vertices faces bytes ≡ Err e
unfolding coat_of
fault_told vertices faces bytes e is = rw is refl

-- The lines of bytes are told by them.
one_painted : (h g : Hierarchy) (rest more a b : List ℕ) → h ≡ g → rest ≡ more
    → IsPainted h rest a → IsPainted g more b → a ≡ b
one_painted h g rest more a b same alike p q =
    let coats : Ok p.coat ≡ Ok q.coat =
    sym p.is ∙ rw (same, alike) q.is in
    let coat : p.coat ≡ q.coat = cc in
    p.are ∙ (rw (same, coat) (sym q.are))

pub one_made : (bytes a b : List ℕ) → IsMade bytes a → IsMade bytes b → a ≡ b
one_made bytes a b p q =
    let (same, alike) = one_beginning bytes p.h q.h p.rest q.rest p.begins q.begins in
    one_painted p.h q.h p.rest q.rest a b same alike p.painted q.painted

-- Bytes with a fault of streams have no lines,
unread_none : (bytes : List ℕ) (e : FormatError) → stream_fault bytes ≡ Some e
    → (lines : List ℕ) → ¬ IsMade bytes lines
unread_none bytes e is lines made =
    let both : None ≡ Some e = sym (begun_fine bytes made.h made.rest made.begins) ∙ is in
    absurd cc

pub unread_fails : (bytes : List ℕ) (e : MakeFail Fault) → IsUnread bytes e
    → FailsBy Refuses bytes e
unread_fails bytes (fails.Faulty (faults.Stream e)) is =
    record { faulty = is; none = unread_none bytes e is }
unread_fails bytes (fails.Faulty (faults.Coat e)) is = absurd is
unread_fails bytes fails.OutOfMemory is = tt

-- and bytes with a fault of coats.
bad_none : (bytes : List ℕ) (e : Refused) → HasBadCoat bytes e → (lines : List ℕ)
    → ¬ IsMade bytes lines
bad_none bytes e bad lines made =
    let (same, alike) =
    one_beginning bytes bad.h made.h bad.rest made.rest bad.begins made.begins in
    let both : Err e ≡ Ok made.painted.coat =
    sym bad.is ∙ rw (same, alike) made.painted.is in
    absurd cc

pub bad_fails : (bytes : List ℕ) (h : Hierarchy) (rest : List ℕ) (e : CoatFail)
    → BeginsWith bytes h rest → IsFail (coat_fault (leaf_count h) (face_count h) rest) e
    → FailsBy Refuses bytes (coat_fail e)
bad_fails bytes h rest (coat_fails.Refused e) begins is =
    let bad : HasBadCoat bytes e = record {
      h = h;
      rest = rest;
      begins = begins;
      is = fault_told (leaf_count h) (face_count h) rest e is;
    } in
    record { faulty = bad; none = bad_none bytes e bad }
bad_fails bytes h rest coat_fails.OutOfMemory begins is = tt

-- The lines of a coat that was read.
pub painted : (h : Hierarchy) (rest lines : List ℕ)
    → coat_fault (leaf_count h) (face_count h) rest ≡ None
    → lines ≡ lines_of h (coat_with (sizes_of (leaf_count h) (face_count h) rest) rest)
    → IsPainted h rest lines
painted h rest lines none are = record {
  coat = coat_with (sizes_of (leaf_count h) (face_count h) rest) rest;
  is = coat_told (leaf_count h) (face_count h) rest none;
  are = are;
}

pub made : (bytes : List ℕ) (h : Hierarchy) (rest lines : List ℕ) → BeginsWith bytes h rest
    → IsPainted h rest lines → IsMade bytes lines
made bytes h rest lines begins painted =
    record { h = h; rest = rest; begins = begins; painted = painted }

-- Of bytes with a fault nothing is made.
pub nothing_made : (bytes : List ℕ) (f : Fault) → Refuses bytes f → (lines : List ℕ)
    → IsMade bytes lines → ⊥
nothing_made bytes f refuses lines is = refuses.none lines is
