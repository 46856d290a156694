-- Reading the first bytes of an input.
use Rattle.std.proofs.Common.{◌≡◌, ◌⊎◌, inl, inr, ℕ, ◌≤◌, List, [], ◌++◌, length, take, Option}
use Rattle.std.proofs.Common.{Some, None, IfSome, sym, ◌∙◌, ap, subst, arith}
use Rattle.std.proofs.lemmas.List.{append-nil, take_all, take-append-le, length-take}
use Rattle.pm_io.specs.Bytes.{Loses, AtEnd}
use Rattle.pm_io.proofs.Known.{loses_both}
use Rattle.pm_program.specs.Input.{Took, HoldsFront}

-- After one more piece.
pub took_on : (left mid now : Option (List ℕ)) (old new : List ℕ) → Loses left mid old
    → Took mid now old new → Loses left now new
took_on left mid now old new lost t =
    rw t.is (loses_both left mid now old t.added lost t.lost)

-- The input ended.
pub front_all : (most : ℕ) (left mid now : Option (List ℕ)) (old new : List ℕ)
    → Loses left mid old → Took mid now old new → length new ≤ most → AtEnd now
    → HoldsFront most left now new
front_all most left mid now old new lost t few end = record {
  reads = record { taken = new; lost = took_on left mid now old new lost t; enough = inl end };
  is = sym (take_all most new few);
}

-- There are enough.
pub front_cut : (most : ℕ) (left now : Option (List ℕ)) (taken bytes : List ℕ)
    → Loses left now taken → most ≤ length taken → bytes ≡ take most taken
    → HoldsFront most left now bytes
front_cut most left now taken bytes lost enough is =
    record { reads = record { taken = taken; lost = lost; enough = inr enough }; is = is }

-- What was taken is a front of what was left.
front_of : (most : ℕ) (all taken rest bytes : List ℕ) → all ≡ taken ++ rest
    → bytes ≡ take most taken → (rest ≡ []) ⊎ (most ≤ length taken) → bytes ≡ take most all
front_of most all taken rest bytes whole is enough =
    elim enough [
      | inl none ↦
          let same : all ≡ taken = whole ∙ (ap (λ (l : List ℕ). taken ++ l) none
          ∙ append-nil taken) in
          rw same is
      | inr many ↦ rw whole (is ∙ sym (take-append-le most taken rest many))
    ]

pub front_is : (most : ℕ) (all : List ℕ) (now : Option (List ℕ)) (bytes : List ℕ)
    → HoldsFront most (Some all) now bytes → bytes ≡ take most all
front_is most all None bytes f =
    let lost : Some all ≡ None = f.reads.lost in
    absurd cc
front_is most all (Some rest) bytes f =
    let lost : Some all ≡ Some (f.reads.taken ++ rest) = f.reads.lost in
    front_of most all f.reads.taken rest bytes (cc) f.is f.reads.enough

-- What is so of the bytes is so of the first ones that were left.
pub on_front : (P : List ℕ → Type 0) (most : ℕ) (left now : Option (List ℕ)) (bytes : List ℕ)
    → HoldsFront most left now bytes → P bytes → IfSome left (λ all. P (take most all))
on_front P most None now bytes f is = tt
on_front P most (Some all) now bytes f is = subst P (front_is most all now bytes f) is

-- There are no more than asked for.
pub front_few : (most : ℕ) (left now : Option (List ℕ)) (bytes : List ℕ)
    → HoldsFront most left now bytes → length bytes ≤ most
front_few most left now bytes f =
    let len = length-take most f.reads.taken in rw f.is (omega (arith, len))
