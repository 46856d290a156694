-- What a text gives that shall have a mesh, and what `simplify` makes of it.
use Rattle.std.proofs.Common.{◌≡◌, ℕ, ◌<◌, Bool, true, false, ◌==◌, ◌&&◌, List, length, Option}
use Rattle.std.proofs.Common.{Some, None, IfSome, Result, Ok, Err, IfOk, if◌then◌else◌, refl, sym}
use Rattle.std.proofs.Common.{◌∙◌, ap, subst}
use Rattle.std.proofs.lemmas.Bool.{ne_eqb}
use Rattle.pm_base.specs.Meshes.{Mesh}
use Rattle.pm_runs.specs.Runs.{IsStartOfRun}
use Rattle.obj_read.specs.Worded.{holds_words}
use Rattle.pm_commands.specs.declared.asked.Border.{Border}
use Rattle.pm_commands.specs.declared.fault.Fault.{Fault}
use Rattle.pm_commands.specs.declared.fault.Fault.TheVariants as faults
use Rattle.pm_commands.specs.declared.fault.InputFail.{InputFail}
use Rattle.pm_commands.specs.declared.fault.InputFail.TheVariants as input
use Rattle.pm_commands.specs.Input.{Unreached, IsFaulty, Stops}
use Rattle.pm_commands.specs.Surface.{IsSurfaceRead, lacks_mesh, mesh_given, IsSurfaceGiven}
use Rattle.pm_commands.specs.Simplified.{IsSimplifiedWith, IsSimplifiedText}
use Rattle.pm_commands.proofs.SurfaceLaws.{one_surface}
use Rattle.pm_commands.proofs.BuildLaws.{GivesOne, one_made}
use Rattle.pm_commands.proofs.SimplifiedLaws.{one_simplified_with}

-- A mesh that is given was read.
mesh_read : (bytes : List ℕ) (m : Mesh) (r : Result Mesh Fault) → Ok m ≡ mesh_given bytes r
    → r ≡ Ok m
mesh_read bytes m (Err f) is = absurd (cc)
mesh_read bytes m (Ok n) is = ap (λ (x : Mesh). Ok x) (go (lacks_mesh bytes n) refl)
  where
    go : (lacks : Bool) → lacks_mesh bytes n ≡ lacks → n ≡ m
    go true lacks = absurd (cc (rw lacks at is))
    go false has = cc (rw has at is)

-- What holds of what is read holds of what is given.
given_too : (P : Mesh → Type 0) (bytes : List ℕ) (r : Result Mesh Fault) → IfOk r P
    → IfOk (mesh_given bytes r) P
given_too P bytes (Err f) is = tt
given_too P bytes (Ok m) is = go (lacks_mesh bytes m)
  where
    go : (lacks : Bool) → IfOk (if lacks then Err faults.NoMesh else Ok m) P
    go true = tt
    go false = is

-- A text that lacks words or whose mesh has points.
has_some : (words : Bool) (points : ℕ) → (words ≡ true → points ≡ 0 → ⊥)
    → (words && points == 0) ≡ false
has_some false points has = refl
has_some true points has = ne_eqb points 0 (λ none. has refl none)

-- With so many decimals a coordinate
module _ (digits : ℕ) where
  -- A text gives one thing.
  pub one_given : (bytes : List ℕ) → GivesOne (IsSurfaceGiven digits bytes)
  one_given bytes p q i j one other =
      let same = one_surface digits bytes one.is other.is in (
        one.given ∙ ap (λ (r : Result Mesh Fault). mesh_given bytes r) same.0 ∙ sym other.given,
        same.1,
      )

  pub given_starts : (bytes : List ℕ)
      → ((r : Result Mesh Fault) (place : Option ℕ) → IsSurfaceRead digits bytes r place
      → IfOk r IsStartOfRun)
      → (r : Result Mesh Fault) (place : Option ℕ) → IsSurfaceGiven digits bytes r place
      → IfOk r IsStartOfRun
  given_starts bytes starts r place given =
      subst (λ (x : Result Mesh Fault). IfOk x IsStartOfRun) (sym given.given)
      (given_too IsStartOfRun bytes given.read (starts given.read place given.is))

  pub surface_given : (bytes : List ℕ) (m : Mesh) (place : Option ℕ)
      → IsSurfaceGiven digits bytes (Ok m) place → IsSurfaceRead digits bytes (Ok m) place
  surface_given bytes m place given =
      subst (λ (r : Result Mesh Fault). IsSurfaceRead digits bytes r place)
      (mesh_read bytes m given.read given.given) given.is

  -- What follows where the source tells its bytes.

  pub given_was_read : (left : Option (List ℕ)) (m n : Mesh) → n ≡ m
      → IfSome left (λ bytes. IsSurfaceGiven digits bytes (Ok m) None)
      → IfSome left (λ bytes. IsSurfaceRead digits bytes (Ok n) None)
  given_was_read None m n same given = tt
  given_was_read (Some bytes) m n same given =
      subst (λ (x : Mesh). IsSurfaceRead digits bytes (Ok x) None) (sym same)
      (surface_given bytes m None given)

  pub is_given : (left : Option (List ℕ)) (m : Mesh) (words : Bool)
      → IfSome left (λ bytes. IsSurfaceRead digits bytes (Ok m) None)
      → IfSome left (λ bytes. words ≡ holds_words bytes)
      → (words ≡ true → length m.points ≡ 0 → ⊥)
      → IfSome left (λ bytes. IsSurfaceGiven digits bytes (Ok m) None)
  is_given None m words is same has = tt
  is_given (Some bytes) m words is same has =
      let lacks : lacks_mesh bytes m ≡ false =
      subst (λ (w : Bool). (w && length m.points == 0) ≡ false) same
      (has_some words (length m.points) has) in record {
        read = Ok m;
        is = is;
        given = rw lacks refl;
      }

  pub none_given : (left : Option (List ℕ)) (m : Mesh) (words : Bool)
      → IfSome left (λ bytes. IsSurfaceRead digits bytes (Ok m) None)
      → IfSome left (λ bytes. words ≡ holds_words bytes) → words ≡ true → length m.points ≡ 0
      → IfSome left (λ bytes. IsFaulty (IsSurfaceGiven digits) bytes faults.NoMesh)
  none_given None m words is same true_is none = tt
  none_given (Some bytes) m words is same true_is none =
      let lacks : lacks_mesh bytes m ≡ true = rw (sym same ∙ true_is, none) refl in record {
        place = None;
        is = record { read = Ok m; is = is; given = rw lacks refl };
      }

  given_unreached : (left now : Option (List ℕ)) → Unreached (IsSurfaceRead digits) left now
      → Unreached (IsSurfaceGiven digits) left now
  given_unreached left now fails = record {
    taken = fails.taken;
    took = fails.took;
    before = before left fails.before;
  }
    where
      before : (left : Option (List ℕ))
          → IfSome left (λ bytes. (r : Result Mesh Fault) (place : Option ℕ)
          → IsSurfaceRead digits bytes r place → IfSome place (λ n. length fails.taken < n))
          → IfSome left (λ bytes. (r : Result Mesh Fault) (place : Option ℕ)
          → IsSurfaceGiven digits bytes r place → IfSome place (λ n. length fails.taken < n))
      before None is = tt
      before (Some bytes) is = λ r place given. is given.read place given.is

  pub given_stops : (e : InputFail) (left now : Option (List ℕ)) (in_old in_new : ℕ)
      → Stops (IsSurfaceRead digits) e left now in_old in_new
      → Stops (IsSurfaceGiven digits) e left now in_old in_new
  given_stops (input.Faulty f) None now in_old in_new stops = (tt, stops.1)
  given_stops (input.Faulty f) (Some bytes) now in_old in_new stops = (
    record {
      place = stops.0.place;
      is = record { read = Err f; is = stops.0.is; given = refl };
    },
    stops.1,
  )
  given_stops input.Read left now in_old in_new stops = (given_unreached left now stops.0, stops.1)
  given_stops input.OutOfMemory left now in_old in_new stops = stops

-- One hierarchy is made of a text, or it has one fault.
pub one_simplified_text : (border : Border) (target digits : ℕ) (bytes : List ℕ)
    → GivesOne (IsSimplifiedText border target digits bytes)
one_simplified_text border target digits bytes =
    one_made (IsSurfaceGiven digits) (λ m h. IsSimplifiedWith border m target h) bytes
    (one_given digits bytes) (λ m h g. one_simplified_with border m target h g)
