-- Laws of bytes that were taken, and of those that are left.
use Rattle.std.proofs.Common.{◌≡◌, ℕ, ◌<◌, Bool, true, false, List, []}
use Rattle.std.proofs.Common.{◌++◌, length, take, Option, Some, None, IfSome, refl, ◌∙◌}
use Rattle.std.proofs.Common.{ap, arith}
use Rattle.std.specs.Io.KnownBytes.{prepend_known}
use Rattle.std.proofs.lemmas.List.{append-nil, take-append-le, take_all}
use Rattle.pm_io.specs.Bytes.{AtEnd}
use Rattle.obj_scan.specs.declared.fault.ScanFail.{ScanFail}
use Rattle.obj_scan.specs.declared.fault.ScanFail.TheVariants as text_fails
use Rattle.obj_scan.specs.Fails.{ExplainsScan}
use Rattle.obj_scan.specs.Meaning.{scan_meaning_of}
use Rattle.obj_scan.specs.Refusals.{IsRefusal}
use Rattle.mesh_scan.specs.Fails.{TellsText}

pub none_before : (left : Option (List ℕ)) → prepend_known [] left ≡ left
none_before None = refl
none_before (Some bytes) = refl

-- For all bytes, where the source tells them.
pub if_some_all : (left : Option (List ℕ)) (P : List ℕ → Type 0) → ((bytes : List ℕ) → P bytes)
    → IfSome left P
if_some_all None P all = tt
if_some_all (Some bytes) P all = all bytes

-- The source has no more than these bytes.
pub whole_is : (P : List ℕ → Type 0) (whole left : Option (List ℕ)) (bytes : List ℕ)
    → whole ≡ prepend_known bytes left → AtEnd left → P bytes → IfSome whole P
whole_is P whole None bytes is end here = rw is tt
whole_is P whole (Some more) bytes is end here =
    let e : whole ≡ Some bytes = is ∙ ap (λ (l : List ℕ). Some (bytes ++ l)) end
    ∙ ap (λ (l : List ℕ). Some l) (append-nil bytes) in
    rw e here

-- The first bytes of the whole are those that were taken first, which may be all.
pub first_is : (ended : Bool) (bytes more : List ℕ) → (ended ≡ true → AtEnd (Some more))
    → (ended ≡ true → length bytes < 84) → (ended ≡ false → length bytes ≡ 84)
    → take 84 (bytes ++ more) ≡ bytes
first_is true bytes more end few full =
    let none : more ≡ [] = end refl in
    ap (λ (l : List ℕ). take 84 (bytes ++ l)) none
    ∙ ap (take 84) (append-nil bytes)
    ∙ take_all 84 bytes (omega (arith, few refl))
first_is false bytes more end few full =
    take-append-le 84 bytes more (omega (arith, full refl))
    ∙ take_all 84 bytes (omega (arith, full refl))

-- A source in memory never fails.
pub sure_tells : (e : ScanFail) (bytes : List ℕ) (left : Option (List ℕ))
    → ExplainsScan e (Some bytes) left → (e ≡ text_fails.Read → ⊥)
    → TellsText e (scan_meaning_of bytes)
sure_tells (text_fails.Fault fault line) bytes left is sure = is
sure_tells text_fails.Read bytes left is sure = sure refl
sure_tells text_fails.OutOfMemory bytes left is sure = tt

pub text_ended : (e : ScanFail) (first : List ℕ) (left now : Option (List ℕ)) → AtEnd left
    → TellsText e (scan_meaning_of first) → ExplainsScan e (prepend_known first left) now
text_ended (text_fails.Fault fault line) first left now end is =
    whole_is (λ bytes. IsRefusal fault line (scan_meaning_of bytes)) (prepend_known first left)
    left first refl end is
text_ended text_fails.Read first left now end is = absurd is
text_ended text_fails.OutOfMemory first left now end is = tt
