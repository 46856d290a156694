-- What is made of an OBJ text is the only thing, and its stream text expands to the mesh of the
-- text.
use Rattle.std.proofs.Common.{◌≡◌, ℕ, List, [], ◌<◌, ◌≤◌, length, Option, Some, None, Result, Ok}
use Rattle.std.proofs.Common.{Err, IfOk, IfSome, refl, sym, ◌∙◌, ap, subst}
use Rattle.std.proofs.lemmas.List.{append-nil}
use Rattle.pm_base.specs.declared.log.Collapse.{Collapse}
use Rattle.pm_base.specs.Meshes.{Mesh}
use Rattle.pm_base.specs.Canonical.{canonical_text}
use Rattle.pm_io.specs.Bytes.{Gains}
use Rattle.pm_forest.specs.Forest.{Hierarchy}
use Rattle.pm_forest.specs.Meshes.{input_mesh_of}
use Rattle.pm_beyond.specs.Valid.{IsValid}
use Rattle.pm_format.specs.Stream.{stream}
use Rattle.pm_runs.specs.Runs.{IsRunTo}
use Rattle.pm_runs.proofs.LeastRuns.{one_run}
use Rattle.pm_number.specs.Numbering.{hierarchy_of_run}
use Rattle.pm_commands.specs.declared.fault.Fault.{Fault}
use Rattle.pm_commands.specs.declared.fault.InputFail.{InputFail}
use Rattle.pm_commands.specs.declared.fault.InputFail.TheVariants as input
use Rattle.pm_commands.specs.declared.asked.Asked.{Asked}
use Rattle.pm_commands.specs.declared.asked.Asked.TheVariants as asked
use Rattle.pm_commands.specs.Asked.{digits_asked}
use Rattle.pm_commands.specs.Input.{Unreached, Stops}
use Rattle.pm_commands.specs.Ran.{Ran, whole_output}
use Rattle.pm_commands.specs.Surface.{IsSurfaceRead}
use Rattle.pm_commands.specs.Beginning.{Beginning, begins, valid, whole_text}
use Rattle.pm_commands.specs.Build.{IsSimplified, IsMadeOf, no_surface, made}
use Rattle.pm_commands.specs.Outcome.{IsOutcome, done_with, GivesMeshBack}
use Rattle.pm_commands.proofs.SurfaceLaws.{one_surface}

-- There is one such result, and one such place.
abbrev pub GivesOne : {X : Type 0} → (Result X Fault → Option ℕ → Type 0) → Type 0
GivesOne {X = X} IsRead =
    (p q : Result X Fault) (i j : Option ℕ) → IsRead p i → IsRead q j → (p ≡ q) × (i ≡ j)

-- The log of a run to a target is the only one, and so its hierarchy.
pub one_simplified : (m : Mesh) (target : ℕ) (h g : Hierarchy) → IsSimplified m target h
    → IsSimplified m target g → h ≡ g
one_simplified m target h g is are =
    is.made ∙ ap (λ (l : List Collapse). hierarchy_of_run m l)
    (one_run m target is.log are.log is.run are.run) ∙ sym are.made

-- The hierarchy of the run of an equal mesh.
pub run_simplifies : {E : Type 0} (n m : Mesh) (target : ℕ) (log : List Collapse)
    (r : Result Hierarchy E) → n ≡ m → IsRunTo m target log
    → IfOk r (λ h. h ≡ hierarchy_of_run n log) → IfOk r (IsSimplified m target)
run_simplifies n m target log (Ok h) same run is = record {
  log = log;
  run = run;
  made = is ∙ ap (λ (k : Mesh). hierarchy_of_run k log) same;
}
run_simplifies n m target log (Err e) same run is = tt

-- What is made of a mesh that is read.
module _ (IsRead : List ℕ → Result Mesh Fault → Option ℕ → Type 0)
    (Makes : Mesh → Hierarchy → Type 0) where
  -- Bytes give one thing, where they give one mesh and a mesh gives one thing.
  pub one_made : (bytes : List ℕ) → GivesOne (IsRead bytes)
      → ((m : Mesh) (h g : Hierarchy) → Makes m h → Makes m g → h ≡ g)
      → GivesOne (IsMadeOf IsRead Makes bytes)
  one_made bytes read one a b k l (no_surface f i is) (no_surface g j are) =
      let same : Err f ≡ Err g = (read (Err f) (Err g) i j is are).0 in
      let fault : f ≡ g = cc in
      (ap (λ (x : Fault). Err x) fault, (read (Err f) (Err g) i j is are).1)
  one_made bytes read one a b k l (no_surface f i is) (made n g j are makes) =
      let same : Err f ≡ Ok n = (read (Err f) (Ok n) i j is are).0 in
      absurd (cc)
  one_made bytes read one a b k l (made m h i is makes) (no_surface g j are) =
      let same : Ok m ≡ Err g = (read (Ok m) (Err g) i j is are).0 in
      absurd (cc)
  one_made bytes read one a b k l (made m h i is makes) (made n g j are other) =
      let same : Ok m ≡ Ok n = (read (Ok m) (Ok n) i j is are).0 in
      let mesh : n ≡ m = cc in (
        ap (λ (x : Hierarchy). Ok x)
            (one m h g makes (subst (λ (x : Mesh). Makes x g) mesh other)),
        (read (Ok m) (Ok n) i j is are).1,
      )

  -- How making ends.

  made_before : (bytes : List ℕ) (taken : ℕ)
      → ((r : Result Mesh Fault) (place : Option ℕ) → IsRead bytes r place
      → IfSome place (λ n. taken < n))
      → (r : Result Hierarchy Fault) (place : Option ℕ) → IsMadeOf IsRead Makes bytes r place
      → IfSome place (λ n. taken < n)
  made_before bytes taken before r place (no_surface f i is) = before (Err f) i is
  made_before bytes taken before r place (made m h i is makes) = before (Ok m) i is

  made_unreached : (left now : Option (List ℕ)) → Unreached IsRead left now
      → Unreached (IsMadeOf IsRead Makes) left now
  made_unreached left now fails = record {
    taken = fails.taken;
    took = fails.took;
    before = before left fails.before;
  }
    where
      before : (left : Option (List ℕ))
          → IfSome left (λ bytes. (r : Result Mesh Fault) (place : Option ℕ)
          → IsRead bytes r place → IfSome place (λ n. length fails.taken < n))
          → IfSome left (λ bytes. (r : Result Hierarchy Fault) (place : Option ℕ)
          → IsMadeOf IsRead Makes bytes r place → IfSome place (λ n. length fails.taken < n))
      before None is = tt
      before (Some bytes) is = made_before bytes (length fails.taken) is

  pub made_refused : (e : InputFail) (left now : Option (List ℕ)) (in_old in_new : ℕ)
      → Stops IsRead e left now in_old in_new
      → Stops (IsMadeOf IsRead Makes) e left now in_old in_new
  made_refused (input.Faulty f) None now in_old in_new stops = (tt, stops.1)
  made_refused (input.Faulty f) (Some bytes) now in_old in_new
      stops = (
        record { place = stops.0.place; is = no_surface f stops.0.place stops.0.is },
        stops.1,
      )
  made_refused input.Read left now in_old in_new stops = (made_unreached left now stops.0, stops.1)
  made_refused input.OutOfMemory left now in_old in_new stops = stops

  pub made_stands : (left : Option (List ℕ)) (m : Mesh) (h : Hierarchy)
      → IfSome left (λ bytes. IsRead bytes (Ok m) None) → Makes m h
      → IfSome left (λ bytes. IsMadeOf IsRead Makes bytes (Ok h) None)
  made_stands None m h is makes = tt
  made_stands (Some bytes) m h is makes = made m h None is makes

-- The text of a valid hierarchy expands to its input mesh.

stream_expands : (digits : ℕ) (bytes : List ℕ) (h : Hierarchy) → digits ≤ 4
    → IsSurfaceRead digits bytes (Ok (input_mesh_of h)) None → IsValid h → (all : Ran)
    → IsOutcome (asked.Canon digits) bytes all → IsOutcome asked.Expand (stream digits h) all
stream_expands digits bytes h few is sound all canon = record {
  read = Ok (record { digits = digits; h = h; rest = [] });
  place = None;
  is = let o : Beginning = record { digits = digits; h = h; rest = [] } in
      whole_text o (Some (length (stream digits h)))
      (valid o (Some (length (stream digits h)))
      (begins digits h [] few sound.shape (sym (append-nil (stream digits h)))) sound) refl;
  done = canon.done
      ∙ ap (λ (r : Result Mesh Fault). done_with (λ m. whole_output (canonical_text digits m)) r
      canon.place) (one_surface digits bytes canon.is is).0;
}

pub gives_back : (asks : Asked) (left old new : Option (List ℕ)) (h : Hierarchy)
    → digits_asked asks ≤ 4
    → IfSome left (λ bytes. IsOutcome asks bytes (whole_output (stream (digits_asked asks) h)))
    → IfSome left (λ bytes. IsSurfaceRead (digits_asked asks) bytes (Ok (input_mesh_of h)) None)
    → IsValid h → Gains old new (stream (digits_asked asks) h)
    → IfSome left (λ bytes. GivesMeshBack asks bytes old new)
gives_back asks None old new h few outcome is sound gained = tt
gives_back asks (Some bytes) old new h few outcome is sound gained = record {
  replied = record {
    all = whole_output (stream (digits_asked asks) h);
    outcome = outcome;
    fault_is = refl;
    gained = gained;
  };
  expands = stream_expands (digits_asked asks) bytes h few is sound;
}
