-- What bytes give that should begin with a stream text.
use Rattle.std.proofs.Common.{◌≡◌, inl, inr, ℕ, ◌+◌, ◌≤◌, List, ◌++◌, length, take, drop, Option}
use Rattle.std.proofs.Common.{Some, None, Result, Ok, Err, refl, sym, ◌∙◌, ap, subst, arith}
use Rattle.std.proofs.lemmas.Bool.{cases_lt}
use Rattle.std.proofs.lemmas.List.{append_cancel_left, take-append-drop}
use Rattle.pm_base.specs.Sides.{net_of}
use Rattle.pm_forest.specs.Forest.{Hierarchy}
use Rattle.pm_forest.specs.Rules.{HasShape}
use Rattle.pm_forest.specs.Meshes.{leaf_mesh_of}
use Rattle.pm_forest.proofs.MeshLaws.{leaf_mesh_formed}
use Rattle.pm_beyond.specs.Valid.{IsValid}
use Rattle.pm_beyond.proofs.Opening.{one_fails}
use Rattle.pm_load.proofs.LeafMesh.{repeats_twice}
use Rattle.pm_format.specs.declared.fault.FormatError.{FormatError}
use Rattle.pm_format.specs.declared.fault.FormatError.TheVariants as format
use Rattle.pm_format.specs.Stream.{stream}
use Rattle.pm_format.specs.Faults.{stream_fault}
use Rattle.pm_format.specs.Places.{is_truncated, IsDecidedAt}
use Rattle.pm_format.proofs.WholeLaws.{one_text, whole_text}
use Rattle.pm_format.proofs.PlaceLaws.{decided_stays}
use Rattle.pm_commands.specs.declared.fault.Fault.{Fault}
use Rattle.pm_commands.specs.declared.fault.Fault.TheVariants as faults
use Rattle.pm_commands.specs.Beginning.{Beginning, IsBeginning, bad_unit, cut_off, begins}
use Rattle.pm_commands.specs.Beginning.{IsHierarchyFault, leaf_side_twice, wrong_neighbour}
use Rattle.pm_commands.specs.Beginning.{IsValidBeginning, no_stream, invalid, valid}
use Rattle.pm_commands.specs.Beginning.{IsHierarchyText, no_hierarchy, bytes_after}
use Rattle.pm_commands.specs.Beginning.{whole_text as all_text}
use Rattle.pm_commands.proofs.SurfaceLaws.{first_repeating_one}

-- One place decides.

one_place : (bytes : List ℕ) (n m : ℕ) → IsDecidedAt bytes n → IsDecidedAt bytes m → n ≡ m
one_place bytes n m at other =
    elim (cases_lt n m) [
      | inl l ↦ absurd (cc (other.first n l, at.decided))
      | inr l ↦ elim (cases_lt m n) [
        | inl k ↦ absurd (cc (at.first m k, other.decided))
        | inr k ↦
            omega arith
      ]
    ]

-- Bytes that are cut off have no place that decides.
cut_or_decided : (bytes : List ℕ) (n k : ℕ) → stream_fault bytes ≡ Some (format.Truncated k)
    → IsDecidedAt bytes n → ⊥
cut_or_decided bytes n k cut at =
    let stays : stream_fault bytes ≡ stream_fault (take n bytes) =
    ap stream_fault (sym (take-append-drop n bytes))
    ∙ decided_stays (take n bytes) (drop n bytes) at.decided in
    absurd (cc (ap is_truncated cut, ap is_truncated stays, at.decided))

-- Bytes have one beginning, or are refused for one fault.

fault_or_text : (bytes : List ℕ) (e : FormatError) (d : ℕ) (h : Hierarchy) (rest : List ℕ)
    → stream_fault bytes ≡ Some e → d ≤ 4 → HasShape h → bytes ≡ stream d h ++ rest → ⊥
fault_or_text bytes e d h rest fault few shape is =
    let none : stream_fault bytes ≡ None = ap stream_fault is ∙ whole_text d h rest few shape in
    absurd (cc)

pub one_beginning : (bytes : List ℕ) {a b : Result Beginning Fault} {i j : Option ℕ}
    → IsBeginning bytes a i → IsBeginning bytes b j → (a ≡ b) × (i ≡ j)
one_beginning bytes (bad_unit e n fault at) (bad_unit o m other stands) =
    let same : e ≡ o = cc in (
      ap (λ (x : FormatError). Err (faults.Stream x)) same,
      ap (λ (k : ℕ). Some k) (one_place bytes n m at stands),
    )
one_beginning bytes (bad_unit e n fault at) (cut_off cut) =
    absurd (cut_or_decided bytes n (length bytes) cut at)
one_beginning bytes (bad_unit e n fault at) (begins d h rest few shape is) =
    absurd (fault_or_text bytes e d h rest fault few shape is)
one_beginning bytes (cut_off cut) (bad_unit e n fault at) =
    absurd (cut_or_decided bytes n (length bytes) cut at)
one_beginning bytes (cut_off cut) (cut_off other) = (refl, refl)
one_beginning bytes (cut_off cut) (begins d h rest few shape is) =
    absurd (fault_or_text bytes (format.Truncated (length bytes)) d h rest cut few shape is)
one_beginning bytes (begins d h rest few shape is) (bad_unit e n fault at) =
    absurd (fault_or_text bytes e d h rest fault few shape is)
one_beginning bytes (begins d h rest few shape is) (cut_off cut) =
    absurd (fault_or_text bytes (format.Truncated (length bytes)) d h rest cut few shape is)
one_beginning bytes (begins d h rest few shape is) (begins e g more small fits are) =
    let one = one_text d e h g rest more few small shape fits (sym is ∙ are) in
    let same : h ≡ g = one.0 in
    let told : d ≡ e = one.1 in
    let both : stream d h ++ rest ≡ stream d h ++ more =
    sym is ∙ are ∙ (λ j. stream (sym told j) (sym same j) ++ more) in
    let tail : rest ≡ more = append_cancel_left (stream d h) rest more both in (
      λ j. Ok (record { digits = told j; h = same j; rest = tail j }),
      λ j. Some (length (stream (told j) (same j))),
    )

-- A beginning has a hierarchy of the right shape, and the last byte of its text decides it.
pub beginning_shape : (bytes : List ℕ) (r : Result Beginning Fault) (place : Option ℕ)
    (o : Beginning) → r ≡ Ok o → IsBeginning bytes r place → HasShape o.h
beginning_shape bytes r place o is (bad_unit e n fault at) = absurd (cc)
beginning_shape bytes r place o is (cut_off cut) = absurd (cc)
beginning_shape bytes r place o is (begins d h rest few shape text) =
    let same : record { digits = d; h = h; rest = rest } ≡ o = cc in
    subst (λ (x : Beginning). HasShape x.h) same shape

pub beginning_place : (bytes : List ℕ) (r : Result Beginning Fault) (place : Option ℕ)
    (o : Beginning) → r ≡ Ok o → IsBeginning bytes r place
    → place ≡ Some (length (stream o.digits o.h))
beginning_place bytes r place o is (bad_unit e n fault at) = absurd (cc)
beginning_place bytes r place o is (cut_off cut) = absurd (cc)
beginning_place bytes r place o is (begins d h rest few shape text) =
    let same : record { digits = d; h = h; rest = rest } ≡ o = cc in
    ap (λ (x : Beginning). Some (length (stream x.digits x.h))) same

pub valid_place : (bytes : List ℕ) (r : Result Beginning Fault) (place : Option ℕ) (o : Beginning)
    → r ≡ Ok o → IsValidBeginning bytes r place → place ≡ Some (length (stream o.digits o.h))
valid_place bytes r place o is (no_stream f i fault) = absurd (cc)
valid_place bytes r place o is (invalid q f i beginning fault) = absurd (cc)
valid_place bytes r place o is (valid q i beginning good) =
    let same : q ≡ o = cc in
    beginning_place bytes (Ok q) i q refl beginning
    ∙ ap (λ (x : Beginning). Some (length (stream x.digits x.h))) same

-- A hierarchy that is opened has one fault, or none.

valid_or_fault : (h : Hierarchy) → HasShape h → {f : Fault} → IsHierarchyFault h f → IsValid h → ⊥
valid_or_fault h shape (leaf_side_twice f is) good =
    repeats_twice h (leaf_mesh_formed h shape) f is good.no_side_twice
valid_or_fault h shape (wrong_neighbour k once last) good =
    ((one_fails h shape once).1 k k last).0 good

one_hierarchy_fault : (h : Hierarchy) → HasShape h → {f g : Fault} → IsHierarchyFault h f
    → IsHierarchyFault h g → f ≡ g
one_hierarchy_fault h shape (leaf_side_twice f is) (leaf_side_twice g are) =
    ap (λ (k : ℕ). faults.LeafEdgeTwice k)
    (first_repeating_one (net_of (leaf_mesh_of h).faces) f g is are)
one_hierarchy_fault h shape (leaf_side_twice f is) (wrong_neighbour k once last) =
    absurd (repeats_twice h (leaf_mesh_formed h shape) f is once)
one_hierarchy_fault h shape (wrong_neighbour k once last) (leaf_side_twice f is) =
    absurd (repeats_twice h (leaf_mesh_formed h shape) f is once)
one_hierarchy_fault h shape (wrong_neighbour j once last) (wrong_neighbour k other least) =
    ap (λ (i : ℕ). faults.BadNeighbour i) (((one_fails h shape once).1 j k last).1 least)

same_beginning : (bytes : List ℕ) (o q : Beginning) {i j : Option ℕ} → IsBeginning bytes (Ok o) i
    → IsBeginning bytes (Ok q) j → q ≡ o
same_beginning bytes o q is are =
    let same : Ok o ≡ Ok q = (one_beginning bytes is are).0 in
    cc

no_beginning : (bytes : List ℕ) (o : Beginning) (f : Fault) {i j : Option ℕ}
    → IsBeginning bytes (Ok o) i → IsBeginning bytes (Err f) j → ⊥
no_beginning bytes o f is are =
    let same : Ok o ≡ Err f = (one_beginning bytes is are).0 in
    absurd (cc)

never_both : (bytes : List ℕ) (o q : Beginning) {i j : Option ℕ} → IsBeginning bytes (Ok o) i
    → IsBeginning bytes (Ok q) j → {f : Fault} → IsHierarchyFault o.h f → IsValid q.h → ⊥
never_both bytes o q {i = i} is are fault good =
    valid_or_fault o.h (beginning_shape bytes (Ok o) i o refl is) fault
    (subst (λ (x : Beginning). IsValid x.h) (same_beginning bytes o q is are) good)

-- Bytes give one beginning of a valid hierarchy, or are refused for one fault,

pub one_valid : (bytes : List ℕ) {a b : Result Beginning Fault} {i j : Option ℕ}
    → IsValidBeginning bytes a i → IsValidBeginning bytes b j → (a ≡ b) × (i ≡ j)
one_valid bytes (no_stream f i is) (no_stream g j are) =
    let same : Err f ≡ Err g = (one_beginning bytes is are).0 in
    let one : f ≡ g = cc in
    (ap (λ (x : Fault). Err x) one, (one_beginning bytes is are).1)
one_valid bytes (no_stream f i is) (invalid q g j are other) =
    absurd (no_beginning bytes q f are is)
one_valid bytes (no_stream f i is) (valid q j are good) = absurd (no_beginning bytes q f are is)
one_valid bytes (invalid o f i is fault) (no_stream g j are) =
    absurd (no_beginning bytes o g is are)
one_valid bytes (invalid o f i is fault) (invalid q g j are other) = (
  ap (λ (x : Fault). Err x)
      (one_hierarchy_fault o.h (beginning_shape bytes (Ok o) i o refl is) fault
      (subst (λ (x : Beginning). IsHierarchyFault x.h g) (same_beginning bytes o q is are) other)),
  (one_beginning bytes is are).1,
)
one_valid bytes (invalid o f i is fault) (valid q j are good) =
    absurd (never_both bytes o q is are fault good)
one_valid bytes (valid o i is fine) (no_stream g j are) = absurd (no_beginning bytes o g is are)
one_valid bytes (valid o i is fine) (invalid q g j are other) =
    absurd (never_both bytes q o are is other fine)
one_valid bytes (valid o i is fine) (valid q j are good) = (
  ap (λ (x : Beginning). Ok x) (sym (same_beginning bytes o q is are)),
  (one_beginning bytes is are).1,
)

pub same_valid : (bytes : List ℕ) (o q : Beginning) {i j : Option ℕ}
    → IsValidBeginning bytes (Ok o) i → IsValidBeginning bytes (Ok q) j → q ≡ o
same_valid bytes o q is are =
    let same : Ok o ≡ Ok q = (one_valid bytes is are).0 in
    cc

pub no_valid : (bytes : List ℕ) (o : Beginning) (f : Fault) {i j : Option ℕ}
    → IsValidBeginning bytes (Ok o) i → IsValidBeginning bytes (Err f) j → ⊥
no_valid bytes o f is are =
    let same : Ok o ≡ Err f = (one_valid bytes is are).0 in
    absurd (cc)

-- and so it is where nothing may follow.
pub one_hierarchy : (bytes : List ℕ) {a b : Result Beginning Fault} {i j : Option ℕ}
    → IsHierarchyText bytes a i → IsHierarchyText bytes b j → (a ≡ b) × (i ≡ j)
one_hierarchy bytes (no_hierarchy f i is) (no_hierarchy g j are) =
    let same : Err f ≡ Err g = (one_valid bytes is are).0 in
    let one : f ≡ g = cc in
    (ap (λ (x : Fault). Err x) one, (one_valid bytes is are).1)
one_hierarchy bytes (no_hierarchy f i is) (bytes_after q j are some) =
    absurd (no_valid bytes q f are is)
one_hierarchy bytes (no_hierarchy f i is) (all_text q j are none) =
    absurd (no_valid bytes q f are is)
one_hierarchy bytes (bytes_after o i is more) (no_hierarchy g j are) =
    absurd (no_valid bytes o g is are)
one_hierarchy bytes (bytes_after o i is more) (bytes_after q j are some) = (
  refl,
  ap (λ (x : Beginning). Some (length (stream x.digits x.h) + 1))
      (sym (same_valid bytes o q is are)),
)
one_hierarchy bytes (bytes_after o i is more) (all_text q j are none) =
    absurd (more (sym (ap (λ (x : Beginning). x.rest) (same_valid bytes o q is are)) ∙ none))
one_hierarchy bytes (all_text o i is end) (no_hierarchy g j are) =
    absurd (no_valid bytes o g is are)
one_hierarchy bytes (all_text o i is end) (bytes_after q j are some) =
    absurd (some (ap (λ (x : Beginning). x.rest) (same_valid bytes o q is are) ∙ end))
one_hierarchy bytes (all_text o i is end) (all_text q j are none) =
    (ap (λ (x : Beginning). Ok x) (sym (same_valid bytes o q is are)), refl)
