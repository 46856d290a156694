-- Laws of what files of each format give.
use Rattle.std.proofs.Common.{◌≡◌, ℕ, ◌<◌, ◌≤◌, Bool, true, false, nat_lt}
use Rattle.std.proofs.Common.{List, [], ◌++◌, length, take, Option, Some, None, IfSome, refl}
use Rattle.std.proofs.Common.{sym, ◌∙◌, ap, subst, arith, Result, Ok, Err}
use Rattle.std.specs.Io.KnownBytes.{prepend_known}
use Rattle.std.proofs.lemmas.Bool.{lt-ltb, le-ltb, cond-true, cond-false, cond_both}
use Rattle.std.proofs.lemmas.Option.{IfSome_then}
use Rattle.pm_io.specs.Bytes.{AtEnd}
use Rattle.obj_scan.specs.declared.fault.ScanFault.{ScanFault}
use Rattle.obj_scan.specs.declared.fault.ScanFail.{ScanFail}
use Rattle.obj_scan.specs.declared.fault.ScanFail.TheVariants as text_fails
use Rattle.obj_scan.specs.Fails.{ExplainsScan}
use Rattle.obj_scan.specs.Judged.{Scanned}
use Rattle.obj_scan.specs.Meaning.{scan_meaning_of}
use Rattle.obj_scan.specs.Refusals.{Refused as TextRefused, IsRefusal, FaultNotReached}
use Rattle.stl_read.specs.declared.fault.Refused.{Refused as StlRefused}
use Rattle.stl_read.specs.Vertices.{Triangles as StlTriangles}
use Rattle.stl_read.specs.Stl.{stl_meaning_of}
use Rattle.ply_read.specs.declared.fault.Refused.{Refused as PlyRefused}
use Rattle.ply_read.specs.Ply.{ply_meaning_of, Triangles as PlyTriangles}
use Rattle.mesh_scan.specs.declared.fault.MeshFail.{MeshFail}
use Rattle.mesh_scan.specs.declared.fault.MeshFail.TheVariants as fails
use Rattle.mesh_scan.specs.declared.fault.MeshFault.{MeshFault}
use Rattle.mesh_scan.specs.declared.fault.MeshFault.TheVariants as faults
use Rattle.mesh_scan.specs.declared.format.Format.{Format}
use Rattle.mesh_scan.specs.declared.format.Format.TheVariants as formats
use Rattle.mesh_scan.specs.Formats.{format_by}
use Rattle.mesh_scan.specs.Meaning.{Refused, not_before_format, of_obj, of_stl, of_ply, if_short}
use Rattle.mesh_scan.specs.Meaning.{meaning_as, mesh_meaning_of}
use Rattle.mesh_scan.specs.Fails.{IsRefused, IsNotReached, Explains, Tells, Holds}
use Rattle.mesh_scan.specs.Fails.{StopsRest, of_text}
use Rattle.mesh_scan.proofs.SourceLaws.{none_before, if_some_all, whole_is, first_is}

-- An OBJ text.

refusal_obj : (fault : ScanFault) (line : ℕ) (r : Result Scanned TextRefused)
    → IsRefusal fault line r → IsRefused (faults.Obj fault line) (of_obj r)
refusal_obj fault line (Ok s) is = absurd is
refusal_obj fault line (Err r) is =
    ap (λ (e : ScanFault). faults.Obj e r.line) is.0 ∙ ap (λ (n : ℕ). faults.Obj fault n) is.1

-- What isn't reached by so many bytes isn't reached later.
place_later : (taken : ℕ) (place : Option ℕ) → IfSome place (λ p. taken < p)
    → IfSome (not_before_format place) (λ p. taken < p)
place_later taken None before = tt
place_later taken (Some p) before = omega (arith, before)

obj_unreached : (taken : ℕ) (r : Result Scanned TextRefused) → FaultNotReached taken r
    → IsNotReached taken (of_obj r)
obj_unreached taken (Ok s) before = tt
obj_unreached taken (Err r) before = place_later taken r.place before

pub obj_explains : (e : ScanFail) (whole left : Option (List ℕ)) → ExplainsScan e whole left
    → Explains (meaning_as formats.Obj) (of_text e) whole left
obj_explains (text_fails.Fault fault line) whole left is =
    IfSome_then whole is (λ bytes refusal. refusal_obj fault line (scan_meaning_of bytes) refusal)
obj_explains text_fails.Read whole left is = record {
  taken = is.taken;
  took = is.took;
  before = IfSome_then whole is.before
      (λ bytes before. obj_unreached (length is.taken) (scan_meaning_of bytes) before);
}
obj_explains text_fails.OutOfMemory whole left is = tt

pub obj_gives : (whole : Option (List ℕ)) (s : Scanned)
    → IfSome whole (λ bytes. scan_meaning_of bytes ≡ Ok s)
    → IfSome whole (λ bytes. meaning_as formats.Obj bytes ≡ Ok s)
obj_gives whole s is = IfSome_then whole is (λ bytes e. ap of_obj e)

-- A file that is read whole.

pub short_is : (bytes : List ℕ) (r : Result Scanned Refused) → length bytes ≤ 1073741824
    → if_short bytes r ≡ r
short_is bytes r few = cond-false _ _ _ (le-ltb _ _ few)

abbrev too_long : Result Scanned Refused
too_long = Err (record { fault = faults.TooLong; place = Some 1073741825 })

long_refused : (bytes : List ℕ) (r : Result Scanned Refused) → 1073741824 < length bytes
    → IsRefused faults.TooLong (if_short bytes r)
long_refused bytes r many =
    let e : if_short bytes r ≡ too_long = cond-true _ _ _ (lt-ltb _ _ many) in
    subst (IsRefused faults.TooLong) (sym e) refl

short_unreached : (taken : ℕ) (bytes : List ℕ) (r : Result Scanned Refused)
    → taken ≤ 1073741824 → IsNotReached taken r → IsNotReached taken (if_short bytes r)
short_unreached taken bytes r few before =
    cond_both (nat_lt 1073741824 (length bytes)) too_long r (IsNotReached taken)
    (λ long. omega (arith, few)) (λ short. before)

stl_late : (taken : ℕ) (bytes : List ℕ) (r : Result StlTriangles StlRefused)
    → IsNotReached taken (of_stl bytes r)
stl_late taken bytes (Ok t) = tt
stl_late taken bytes (Err r) = tt

ply_late : (taken : ℕ) (r : Result PlyTriangles PlyRefused) → IsNotReached taken (of_ply r)
ply_late taken (Ok t) = tt
ply_late taken (Err r) = tt

-- By what the bytes mean that are read whole.
module _ (m : List ℕ → Result Scanned Refused)
    (late : (taken : ℕ) (bytes : List ℕ) → IsNotReached taken (m bytes))
    (whole left : Option (List ℕ)) where
  stops : (e : MeshFail) → StopsRest e whole left
      → Explains (λ bytes. if_short bytes (m bytes)) e whole left
  stops (fails.Fault fault) is =
      let long : IfSome whole (λ bytes. IsRefused faults.TooLong (if_short bytes (m bytes))) =
      IfSome_then whole is.1 (λ bytes many. long_refused bytes (m bytes) many) in
      subst (λ (f : MeshFault). IfSome whole (λ bytes. IsRefused f (if_short bytes (m bytes))))
      (sym is.0) long
  stops fails.Read is = record {
    taken = is.0;
    took = is.2;
    before = if_some_all whole (λ bytes. IsNotReached (length is.0) (if_short bytes (m bytes)))
        (λ bytes. short_unreached (length is.0) bytes (m bytes) is.1 (late (length is.0) bytes));
  }
  stops fails.OutOfMemory is = tt

  -- All bytes are these, and not too many.
  module _ (bytes : List ℕ) (is : whole ≡ prepend_known bytes left) (end : AtEnd left)
      (few : length bytes ≤ 1073741824) where
    gives : (s : Scanned) → m bytes ≡ Ok s
        → IfSome whole (λ b. if_short b (m b) ≡ Ok s)
    gives s e =
        whole_is (λ b. if_short b (m b) ≡ Ok s) whole left bytes is end
        (short_is bytes (m bytes) few ∙ e)

    tells : (e : MeshFail) → Tells e (m bytes)
        → Explains (λ b. if_short b (m b)) e whole left
    tells (fails.Fault fault) told =
        whole_is (λ b. IsRefused fault (if_short b (m b))) whole left bytes is end
        (subst (IsRefused fault) (sym (short_is bytes (m bytes) few)) told)
    tells fails.Read told = absurd told
    tells fails.OutOfMemory told = tt

-- As an STL file and as a PLY file.
pub stl_stops : (e : MeshFail) (whole left : Option (List ℕ)) → StopsRest e whole left
    → Explains (meaning_as formats.Stl) e whole left
stl_stops e whole left is =
    stops (λ bytes. of_stl bytes (stl_meaning_of bytes))
    (λ taken bytes. stl_late taken bytes (stl_meaning_of bytes)) whole left e is

pub stl_gives : (whole left : Option (List ℕ)) (bytes : List ℕ) (s : Scanned)
    → whole ≡ prepend_known bytes left → AtEnd left → length bytes ≤ 1073741824
    → of_stl bytes (stl_meaning_of bytes) ≡ Ok s
    → IfSome whole (λ b. meaning_as formats.Stl b ≡ Ok s)
stl_gives whole left bytes s is end few e =
    gives (λ bytes. of_stl bytes (stl_meaning_of bytes))
    (λ taken bytes. stl_late taken bytes (stl_meaning_of bytes)) whole left bytes is end few s e

pub stl_tells : (whole left : Option (List ℕ)) (bytes : List ℕ) (e : MeshFail)
    → whole ≡ prepend_known bytes left → AtEnd left → length bytes ≤ 1073741824
    → Tells e (of_stl bytes (stl_meaning_of bytes))
    → Explains (meaning_as formats.Stl) e whole left
stl_tells whole left bytes e is end few told =
    tells (λ bytes. of_stl bytes (stl_meaning_of bytes))
    (λ taken bytes. stl_late taken bytes (stl_meaning_of bytes)) whole left bytes is end few e told

pub ply_stops : (e : MeshFail) (whole left : Option (List ℕ)) → StopsRest e whole left
    → Explains (meaning_as formats.Ply) e whole left
ply_stops e whole left is =
    stops (λ bytes. of_ply (ply_meaning_of bytes))
    (λ taken bytes. ply_late taken (ply_meaning_of bytes)) whole left e is

pub ply_gives : (whole left : Option (List ℕ)) (bytes : List ℕ) (s : Scanned)
    → whole ≡ prepend_known bytes left → AtEnd left → length bytes ≤ 1073741824
    → of_ply (ply_meaning_of bytes) ≡ Ok s
    → IfSome whole (λ b. meaning_as formats.Ply b ≡ Ok s)
ply_gives whole left bytes s is end few e =
    gives (λ bytes. of_ply (ply_meaning_of bytes))
    (λ taken bytes. ply_late taken (ply_meaning_of bytes)) whole left bytes is end few s e

pub ply_tells : (whole left : Option (List ℕ)) (bytes : List ℕ) (e : MeshFail)
    → whole ≡ prepend_known bytes left → AtEnd left → length bytes ≤ 1073741824
    → Tells e (of_ply (ply_meaning_of bytes))
    → Explains (meaning_as formats.Ply) e whole left
ply_tells whole left bytes e is end few told =
    tells (λ bytes. of_ply (ply_meaning_of bytes))
    (λ taken bytes. ply_late taken (ply_meaning_of bytes)) whole left bytes is end few e told

-- A file of any format.

place_early : (taken : ℕ) (place : Option ℕ) → taken < 84
    → IfSome (not_before_format place) (λ p. taken < p)
place_early taken None few = tt
place_early taken (Some p) few = omega (arith, few)

obj_early : (taken : ℕ) (r : Result Scanned TextRefused) → taken < 84
    → IsNotReached taken (of_obj r)
obj_early taken (Ok s) few = tt
obj_early taken (Err r) few = place_early taken r.place few

early : (format : Format) (taken : ℕ) (bytes : List ℕ) → taken < 84
    → IsNotReached taken (meaning_as format bytes)
early formats.Obj taken bytes few = obj_early taken (scan_meaning_of bytes) few
early formats.Stl taken bytes few =
    short_unreached taken bytes (of_stl bytes (stl_meaning_of bytes)) (omega (arith, few))
    (stl_late taken bytes (stl_meaning_of bytes))
early formats.Ply taken bytes few =
    short_unreached taken bytes (of_ply (ply_meaning_of bytes)) (omega (arith, few))
    (ply_late taken (ply_meaning_of bytes))
early (formats.Foreign kind) taken bytes few = few

mesh_early : (taken : ℕ) (bytes : List ℕ) → taken < 84
    → IsNotReached taken (mesh_meaning_of bytes)
unfolding mesh_meaning_of
mesh_early taken bytes few = early (format_by (take 84 bytes)) taken bytes few

-- The first bytes couldn't be taken.
pub first_fails : (e : MeshFail) (bytes : List ℕ) (old now : Option (List ℕ))
    → Holds e 84 bytes (prepend_known [] old) now → Explains mesh_meaning_of e old now
first_fails (fails.Fault fault) bytes old now is = absurd is
first_fails fails.Read bytes old now is = record {
  taken = bytes;
  took = sym (none_before old) ∙ is.1;
  before = if_some_all old (λ b. IsNotReached (length bytes) (mesh_meaning_of b))
      (λ b. mesh_early (length bytes) b is.0);
}
first_fails fails.OutOfMemory bytes old now is = tt

-- The first bytes were taken, and tell the format of all.
module _ (ended : Bool) (bytes : List ℕ) (old left : Option (List ℕ))
    (few : ended ≡ true → length bytes < 84) (full : ended ≡ false → length bytes ≡ 84) where
  meant : (P : Result Scanned Refused → Type 0) (rest : Option (List ℕ))
      → (ended ≡ true → AtEnd rest)
      → IfSome (prepend_known bytes rest) (λ b. P (meaning_as (format_by bytes) b))
      → IfSome (prepend_known bytes rest) (λ b. P (mesh_meaning_of b))
  unfolding mesh_meaning_of
  meant P None end is = tt
  meant P (Some more) end is =
      let e : take 84 (bytes ++ more) ≡ bytes = first_is ended bytes more end few full in
      subst (λ (f : List ℕ). P (meaning_as (format_by f) (bytes ++ more))) (sym e) is

  -- What was left at first.
  were : prepend_known [] old ≡ prepend_known bytes left → prepend_known bytes left ≡ old
  were same = sym same ∙ none_before old

  pub mesh_gives : (s : Scanned) → prepend_known [] old ≡ prepend_known bytes left
      → (ended ≡ true → AtEnd left)
      → IfSome (prepend_known bytes left) (λ b. meaning_as (format_by bytes) b ≡ Ok s)
      → IfSome old (λ b. mesh_meaning_of b ≡ Ok s)
  mesh_gives s same end is =
      subst (λ (o : Option (List ℕ)). IfSome o (λ b. mesh_meaning_of b ≡ Ok s)) (were same)
      (meant (λ r. r ≡ Ok s) left end is)

  pub mesh_explains : (e : MeshFail) (now : Option (List ℕ))
      → prepend_known [] old ≡ prepend_known bytes left → (ended ≡ true → AtEnd left)
      → Explains (meaning_as (format_by bytes)) e (prepend_known bytes left) now
      → Explains mesh_meaning_of e old now
  mesh_explains (fails.Fault fault) now same end is =
      subst (λ (o : Option (List ℕ)). IfSome o (λ b. IsRefused fault (mesh_meaning_of b)))
      (were same) (meant (IsRefused fault) left end is)
  mesh_explains fails.Read now same end is = record {
    taken = is.taken;
    took = sym (were same) ∙ is.took;
    before = subst (λ (o : Option (List ℕ)). IfSome o
        (λ b. IsNotReached (length is.taken) (mesh_meaning_of b))) (were same)
        (meant (IsNotReached (length is.taken)) left end is.before);
  }
  mesh_explains fails.OutOfMemory now same end is = tt
