-- Each input has an outcome.
use Rattle.std.proofs.Common.{◌≡◌, ℕ, ◌+◌, List, [], ◌∷◌, length, Option, Some, None, Result, Ok}
use Rattle.std.proofs.Common.{Err, IfOk, inl, inr, refl}
use Rattle.pm_base.specs.Meshes.{Mesh}
use Rattle.pm_base.specs.Canonical.{canonical_text}
use Rattle.pm_base.specs.Sides.{net_of}
use Rattle.pm_forest.specs.Rules.{HasShape}
use Rattle.pm_forest.specs.Meshes.{leaf_mesh_of, input_mesh_of}
use Rattle.pm_forest.proofs.MeshLaws.{leaf_mesh_formed}
use Rattle.pm_beyond.specs.Walks.{leaf_net}
use Rattle.pm_beyond.proofs.Opening.{one_fails}
use Rattle.pm_load.proofs.LeafMesh.{leaf_same}
use Rattle.pm_load.proofs.SameNet.{once_same}
use Rattle.pm_runs.specs.Runs.{IsStartOfRun}
use Rattle.pm_forest.specs.Forest.{Hierarchy}
use Rattle.pm_format.specs.declared.fault.FormatError.{FormatError}
use Rattle.pm_format.specs.Words.{IsBytes}
use Rattle.pm_format.specs.Stream.{stream}
use Rattle.pm_format.specs.Faults.{stream_fault}
use Rattle.pm_format.specs.Places.{is_truncated}
use Rattle.pm_format.proofs.WholeLaws.{what_is_whole}
use Rattle.pm_session.specs.declared.grammar.Grammar.{Grammar}
use Rattle.pm_session.specs.declared.grammar.Grammar.TheVariants as grammars
use Rattle.pm_session.specs.Script.{at_first}
use Rattle.pm_session.specs.Serving.{played}
use Rattle.pm_demo.proofs.SummaryLaws.{some_summary}
use Rattle.obj_read.specs.Meaning.{Refused, meaning_of}
use Rattle.obj_read.proofs.FormedLaws.{meaning_formed}
use Rattle.pm_commands.specs.declared.fault.Fault.{Fault}
use Rattle.pm_commands.specs.declared.fault.Fault.TheVariants as faults
use Rattle.pm_commands.specs.declared.asked.Asked.TheVariants as asked
use Rattle.pm_commands.specs.Surface.{IsSurfaceRead, bad_line, no_manifold, manifold}
use Rattle.pm_commands.specs.Surface.{mesh_given, IsSurfaceGiven}
use Rattle.pm_commands.specs.Build.{IsSimplified, IsMadeOf, no_surface, made, IsBuilt}
use Rattle.pm_commands.specs.Simplified.{IsSimplifiedWith, IsSimplifiedText}
use Rattle.pm_commands.specs.Beginning.{Beginning, IsBeginning, begins, leaf_side_twice}
use Rattle.pm_commands.specs.Beginning.{wrong_neighbour, IsValidBeginning, invalid, valid}
use Rattle.pm_commands.specs.Beginning.{IsHierarchyText, no_hierarchy, bytes_after, whole_text}
use Rattle.pm_commands.specs.Ran.{Ran, whole_output, unread, of_script}
use Rattle.pm_commands.specs.Outcome.{done_with, Follows, counts_line, PlaysScript, SomeOutcome}
use Rattle.pm_commands.proofs.JudgedLaws.{once_or_repeats, judged}
use Rattle.pm_commands.proofs.StreamLaws.{bad_text}
use Rattle.pm_commands.proofs.SimplifiedLaws.{some_simplified, some_simplified_with}
use Rattle.pm_commands.proofs.GivenLaws.{given_starts}

-- What the bytes give, and by which place.
abbrev Given : {X : Type 0} → (Result X Fault → Option ℕ → Type 0) → Type 0
Given {X = X} IsRead = (r : Result X Fault) × (place : Option ℕ) × IsRead r place

some_surface : (digits : ℕ) (bytes : List ℕ) → Given (IsSurfaceRead digits bytes)
some_surface digits bytes = go (meaning_of digits bytes) refl
  where
    go : (r : Result Mesh Refused) → meaning_of digits bytes ≡ r
        → Given (IsSurfaceRead digits bytes)
    go (Err e) is = (Err (faults.Obj e.fault e.line), e.place, bad_line e is)
    go (Ok m) is =
        elim (judged m (meaning_formed digits bytes m is)) [
          | inl whole ↦ (Ok m, None, manifold m is whole)
          | inr (f, fault) ↦ (Err f, None, no_manifold m f is fault)
        ]

pub surface_starts : (digits : ℕ) (bytes : List ℕ) (r : Result Mesh Fault) (place : Option ℕ)
    → IsSurfaceRead digits bytes r place → IfOk r IsStartOfRun
surface_starts digits bytes r place (bad_line e is) = tt
surface_starts digits bytes r place (no_manifold m f is fault) = tt
surface_starts digits bytes r place (manifold m is whole) =
    record { formed = meaning_formed digits bytes m is; manifold = whole }

-- The same of a text that shall have a mesh.
some_given : (digits : ℕ) (bytes : List ℕ) → Given (IsSurfaceGiven digits bytes)
some_given digits bytes =
    let (read, place, is) = some_surface digits bytes in
    (mesh_given bytes read, place, record { read = read; is = is; given = refl })

-- What is made of a mesh.
some_made : (IsRead : List ℕ → Result Mesh Fault → Option ℕ → Type 0)
    (Makes : Mesh → Hierarchy → Type 0) (bytes : List ℕ) → Given (IsRead bytes)
    → ((r : Result Mesh Fault) (place : Option ℕ) → IsRead bytes r place → IfOk r IsStartOfRun)
    → ((m : Mesh) → IsStartOfRun m → (h : Hierarchy) × Makes m h)
    → Given (IsMadeOf IsRead Makes bytes)
some_made IsRead Makes bytes s starts some = go s.0 s.1 s.2 (starts s.0 s.1 s.2)
  where
    go : (r : Result Mesh Fault) (place : Option ℕ) → IsRead bytes r place
        → IfOk r IsStartOfRun → Given (IsMadeOf IsRead Makes bytes)
    go (Err f) place is start = (Err f, place, no_surface f place is)
    go (Ok m) place is start =
        let (h, makes) = some m start in
        (Ok h, place, made m h place is makes)

-- A beginning is judged.
judged_beginning : (bytes : List ℕ) (o : Beginning) (place : Option ℕ) → HasShape o.h
    → IsBeginning bytes (Ok o) place → Given (IsValidBeginning bytes)
judged_beginning bytes o place shape is =
    elim (once_or_repeats (leaf_mesh_of o.h) (leaf_mesh_formed o.h shape)) [
      | inr (f, first) ↦ (
        Err (faults.LeafEdgeTwice f),
        place,
        invalid o (faults.LeafEdgeTwice f) place is
            (leaf_side_twice f first),
      )
      | inl apart ↦
          let once = once_same (net_of (leaf_mesh_of o.h).faces) (leaf_net o.h)
          (leaf_same o.h (leaf_mesh_of o.h).faces refl) apart in
          elim (one_fails o.h shape once).0 [
            | inl good ↦ (Ok o, place, valid o place is good)
            | inr (k, last) ↦ (
              Err (faults.BadNeighbour k),
              place,
              invalid o (faults.BadNeighbour k) place is
                  (wrong_neighbour k once last),
            )
          ]
    ]

some_valid : (bytes : List ℕ) → IsBytes bytes → Given (IsValidBeginning bytes)
some_valid bytes are = go (stream_fault bytes) refl
  where
    go : (fault : Option FormatError) → stream_fault bytes ≡ fault → Given (IsValidBeginning bytes)
    go (Some e) is = let bad = bad_text bytes e (is_truncated (Some e)) refl is in
        (Err (faults.Stream e), bad.place, bad.is)
    go None is =
        let b = what_is_whole bytes are is in
        let o : Beginning = record { digits = b.digits; h = b.h; rest = b.rest } in
        judged_beginning bytes o (Some (length (stream b.digits b.h))) b.shape
        (begins b.digits b.h b.rest b.few b.shape b.text)

some_text : (bytes : List ℕ) → IsBytes bytes → Given (IsHierarchyText bytes)
some_text bytes are = let s = some_valid bytes are in go s.0 s.1 s.2
  where
    by_rest : (o : Beginning) (place : Option ℕ) (rest : List ℕ) → o.rest ≡ rest
        → IsValidBeginning bytes (Ok o) place → Given (IsHierarchyText bytes)
    by_rest o place [] none is = (Ok o, None, whole_text o place is none)
    by_rest o place (b ∷ more) some is = (
      Err faults.Trailing,
      Some (length (stream o.digits o.h) + 1),
      bytes_after o place is (λ none. absurd (cc (some, none))),
    )

    go : (r : Result Beginning Fault) (place : Option ℕ) → IsValidBeginning bytes r place
        → Given (IsHierarchyText bytes)
    go (Err f) place is = (Err f, place, no_hierarchy f place is)
    go (Ok o) place is = by_rest o place o.rest refl is

follows : {X : Type 0} (IsRead : Result X Fault → Option ℕ → Type 0) (does : X → Ran) → Given IsRead
    → (all : Ran) × Follows IsRead does all
follows IsRead does given = (
  done_with does given.0 given.1,
  record {
    read = given.0;
    place = given.1;
    is = given.2;
    done = refl;
  },
)

some_script : (grammar : Grammar) (budget : ℕ) (bytes : List ℕ) → IsBytes bytes
    → (all : Ran) × PlaysScript grammar budget bytes all
some_script grammar budget bytes are =
    follows (IsValidBeginning bytes)
    (λ o. of_script (length (stream o.digits o.h))
    (played o.h grammar (at_first budget) o.rest)) (some_valid bytes are)

pub some_outcome : SomeOutcome
some_outcome (asked.Canon digits) size bytes are =
    follows (IsSurfaceRead digits bytes) (λ m. whole_output (canonical_text digits m))
    (some_surface digits bytes)
some_outcome (asked.Build target digits) size bytes are =
    follows (IsBuilt target digits bytes) (λ h. whole_output (stream digits h))
    (some_made (IsSurfaceRead digits) (λ m h. IsSimplified m target h) bytes
    (some_surface digits bytes) (surface_starts digits bytes)
    (λ m start. some_simplified m start target))
some_outcome (asked.Simplify target digits border) size bytes are =
    follows (IsSimplifiedText border target digits bytes) (λ h. whole_output (stream digits h))
    (some_made (IsSurfaceGiven digits) (λ m h. IsSimplifiedWith border m target h) bytes
    (some_given digits bytes) (given_starts digits bytes (surface_starts digits bytes))
    (λ m start. some_simplified_with border m start target))
some_outcome asked.Expand size bytes are =
    follows (IsHierarchyText bytes)
    (λ o. whole_output (canonical_text o.digits (input_mesh_of o.h))) (some_text bytes are)
some_outcome asked.Check size bytes are =
    follows (IsHierarchyText bytes) (λ o. whole_output (counts_line o.h)) (some_text bytes are)
some_outcome (asked.View budget) size bytes are = some_script grammars.View budget bytes are
some_outcome (asked.Live budget) size bytes are = some_script grammars.Live budget bytes are
some_outcome (asked.Demo n) size bytes are =
    let s = some_summary n size.0 size.1 in
    (unread s.0, record { text = s.0; summary = s.1; done = refl })
