-- Bytes give one surface, or are refused for one fault.
use Rattle.std.proofs.Common.{◌≡◌, ℕ, ◌+◌, ◌<◌, List, length, Option, Some, None, IfSome, Result}
use Rattle.std.proofs.Common.{Ok, Err, IfOk, IfErr, OnOk, inl, inr, refl, sym, ◌∙◌, ap, subst}
use Rattle.std.proofs.Common.{arith}
use Rattle.std.proofs.lemmas.Bool.{cases_lt}
use Rattle.pm_base.specs.Meshes.{Mesh, IsWellFormed}
use Rattle.pm_base.specs.Sides.{Net, net_of}
use Rattle.pm_base.specs.Fans.{IsOrientedManifold}
use Rattle.pm_io.specs.Causes.{HasCause}
use Rattle.pm_runs.specs.Runs.{IsStartOfRun}
use Rattle.pm_twins.specs.Faults.{IsFirstRepeating, IsFirstBroken}
use Rattle.pm_twins.proofs.Faultless.{repeats_none}
use Rattle.obj_read.specs.declared.fault.ObjFault.{ObjFault}
use Rattle.obj_read.specs.declared.fault.ObjFail.{ObjFail}
use Rattle.obj_read.specs.declared.fault.ObjFail.TheVariants as fails
use Rattle.obj_read.specs.Fails.{IsRefusal, FaultNotReached, FailsBefore, Explains, of_source}
use Rattle.obj_read.specs.Meaning.{Refused, meaning_of}
use Rattle.obj_read.proofs.FormedLaws.{meaning_formed}
use Rattle.pm_commands.specs.declared.fault.Fault.{Fault}
use Rattle.pm_commands.specs.declared.fault.Fault.TheVariants as faults
use Rattle.pm_commands.specs.declared.fault.InputFail.{InputFail}
use Rattle.pm_commands.specs.declared.fault.InputFail.TheVariants as input
use Rattle.pm_commands.specs.Input.{Unreached, IsFaulty, Stops}
use Rattle.pm_commands.specs.Surface.{obj_fail, IsMeshFault, side_twice, no_fan, IsNoSurface}
use Rattle.pm_commands.specs.Surface.{IsSurfaceRead, bad_line, no_manifold, manifold}

pub first_repeating_one : (m : Net) (f g : ℕ) → IsFirstRepeating m f → IsFirstRepeating m g → f ≡ g
first_repeating_one m f g is are =
    elim (cases_lt f g) [
      | inl l ↦ absurd (are.least f l is.repeats)
      | inr l ↦ elim (cases_lt g f) [
        | inl k ↦ absurd (is.least g k are.repeats)
        | inr k ↦
            omega arith
      ]
    ]

first_broken_one : (m : Net) (v w : ℕ) → IsFirstBroken m v → IsFirstBroken m w → v ≡ w
first_broken_one m v w is are =
    elim (cases_lt v w) [
      | inl l ↦ absurd (is.broken.no_fan (are.fans_below v l))
      | inr l ↦ elim (cases_lt w v) [
        | inl k ↦ absurd (are.broken.no_fan (is.fans_below w k))
        | inr k ↦ omega arith
      ]
    ]

one_surface_fault : (m : Mesh) → IsWellFormed m → {f g : Fault} → IsMeshFault (net_of m.faces) f
    → IsMeshFault (net_of m.faces) g → f ≡ g
one_surface_fault m formed (side_twice f is) (side_twice g are) =
    ap (λ (k : ℕ). faults.EdgeTwice (k + 1)) (first_repeating_one (net_of m.faces) f g is are)
one_surface_fault m formed (side_twice f is) (no_fan v once are) =
    absurd (repeats_none m formed once f is)
one_surface_fault m formed (no_fan v once is) (side_twice g are) =
    absurd (repeats_none m formed once g are)
one_surface_fault m formed (no_fan v once is) (no_fan w other are) =
    ap (λ (k : ℕ). faults.NotFan (k + 1)) (first_broken_one (net_of m.faces) v w is are)

fault_or_manifold : (m : Mesh) → IsWellFormed m → {f : Fault} → IsMeshFault (net_of m.faces) f
    → IsOrientedManifold (net_of m.faces) → ⊥
fault_or_manifold m formed (side_twice f is) whole = repeats_none m formed whole.no_side_twice f is
fault_or_manifold m formed (no_fan v once is) whole = is.broken.no_fan (whole.fans v is.broken.used)

-- With so many decimals a coordinate
module _ (digits : ℕ) where
  -- A text spells one mesh.
  one_mesh : (bytes : List ℕ) (m n : Mesh) → meaning_of digits bytes ≡ Ok m
      → meaning_of digits bytes ≡ Ok n → n ≡ m
  one_mesh bytes m n is are = cc

  pub one_surface : (bytes : List ℕ) {a b : Result Mesh Fault} {i j : Option ℕ}
      → IsSurfaceRead digits bytes a i → IsSurfaceRead digits bytes b j → (a ≡ b) × (i ≡ j)
  one_surface bytes (bad_line r is) (bad_line q are) =
      let same : r ≡ q = cc in (
        ap (λ (x : Refused). Err (faults.Obj x.fault x.line)) same,
        ap (λ (x : Refused). x.place)
            same,
      )
  one_surface bytes (bad_line r is) (no_manifold m f are fault) = absurd (cc)
  one_surface bytes (bad_line r is) (manifold m are whole) = absurd (cc)
  one_surface bytes (no_manifold m f is fault) (bad_line r are) = absurd (cc)
  one_surface bytes (no_manifold m f is fault) (no_manifold n g are other) = (
    ap (λ (x : Fault). Err x)
        (one_surface_fault m (meaning_formed digits bytes m is) fault
        (subst (λ (x : Mesh). IsMeshFault (net_of x.faces) g) (one_mesh bytes m n is are)
        other)),
    refl,
  )
  one_surface bytes (no_manifold m f is fault) (manifold n are whole) =
      absurd (fault_or_manifold m (meaning_formed digits bytes m is) fault
      (subst (λ (x : Mesh). IsOrientedManifold (net_of x.faces)) (one_mesh bytes m n is are)
      whole))
  one_surface bytes (manifold m is whole) (bad_line r are) = absurd (cc)
  one_surface bytes (manifold m is whole) (no_manifold n f are fault) =
      absurd (fault_or_manifold m (meaning_formed digits bytes m is)
      (subst (λ (x : Mesh). IsMeshFault (net_of x.faces) f) (one_mesh bytes m n is are) fault)
      whole)
  one_surface bytes (manifold m is whole) (manifold n are other) =
      (ap (λ (x : Mesh). Ok x) (sym (one_mesh bytes m n is are)), refl)

  -- What follows where the source tells its bytes.

  refuses_line : (bytes : List ℕ) (fault : ObjFault) (line : ℕ) (r : Result Mesh Refused)
      → meaning_of digits bytes ≡ r → IsRefusal fault line r
      → IsFaulty (IsSurfaceRead digits) bytes (faults.Obj fault line)
  refuses_line bytes fault line (Ok m) is refusal = absurd refusal
  refuses_line bytes fault line (Err r) is refusal = record {
    place = r.place;
    is = subst (λ (f : Fault). IsSurfaceRead digits bytes (Err f) r.place)
        (ap (λ (e : ObjFault). faults.Obj e r.line) refusal.0
        ∙ ap (λ (n : ℕ). faults.Obj fault n) refusal.1) (bad_line r is);
  }

  line_refuses : (left : Option (List ℕ)) (fault : ObjFault) (line : ℕ)
      → IfSome left (λ bytes. IsRefusal fault line (meaning_of digits bytes))
      → IfSome left (λ bytes. IsFaulty (IsSurfaceRead digits) bytes (faults.Obj fault line))
  line_refuses None fault line is = tt
  line_refuses (Some bytes) fault line is =
      refuses_line bytes fault line (meaning_of digits bytes) refl is

  -- Bytes that don't reach the first fault's place decide nothing.
  surface_before : (bytes : List ℕ) (taken : ℕ) → FaultNotReached taken (meaning_of digits bytes)
      → (r : Result Mesh Fault) (place : Option ℕ) → IsSurfaceRead digits bytes r place
      → IfSome place (λ n. taken < n)
  surface_before bytes taken before found place (bad_line r is) =
      subst (λ (m : Result Mesh Refused). FaultNotReached taken m) is before
  surface_before bytes taken before found place (no_manifold m f is fault) = tt
  surface_before bytes taken before found place (manifold m is whole) = tt

  surface_unreached : (left now : Option (List ℕ)) → FailsBefore digits left now
      → Unreached (IsSurfaceRead digits) left now
  surface_unreached left now fails = record {
    taken = fails.taken;
    took = fails.took;
    before = before left fails.before;
  }
    where
      before : (left : Option (List ℕ))
          → IfSome left (λ bytes. FaultNotReached (length fails.taken) (meaning_of digits bytes))
          → IfSome left (λ bytes. (r : Result Mesh Fault) (place : Option ℕ)
          → IsSurfaceRead digits bytes r place → IfSome place (λ n. length fails.taken < n))
      before None is = tt
      before (Some bytes) is = surface_before bytes (length fails.taken) is

  mesh_refuses : (left : Option (List ℕ)) (m : Mesh) (f : Fault)
      → IfSome left (λ bytes. meaning_of digits bytes ≡ Ok m) → IsMeshFault (net_of m.faces) f
      → IfSome left (λ bytes. IsFaulty (IsSurfaceRead digits) bytes f)
  mesh_refuses None m f is fault = tt
  mesh_refuses (Some bytes) m f is fault = record { place = None; is = no_manifold m f is fault }

  pub mesh_stands : (left : Option (List ℕ)) (m s : Mesh) → s ≡ m
      → IfSome left (λ bytes. meaning_of digits bytes ≡ Ok m) → IsOrientedManifold (net_of m.faces)
      → IfSome left (λ bytes. IsSurfaceRead digits bytes (Ok s) None)
  mesh_stands None m s same is whole = tt
  mesh_stands (Some bytes) m s same is whole =
      subst (λ (x : Mesh). IsSurfaceRead digits bytes (Ok x) None) (sym same) (manifold m is whole)

  -- How reading ends.

  pub obj_stops : (T : Type 0) (e : ObjFail) (left now : Option (List ℕ)) (in_old in_new : ℕ)
      → Explains digits e left now → HasCause in_old in_new (of_source {T = T} (Err e))
      → Stops (IsSurfaceRead digits) (obj_fail e) left now in_old in_new
  obj_stops T (fails.Fault fault line) left now in_old in_new is cause =
      (line_refuses left fault line is, cause.same)
  obj_stops T fails.Read left now in_old in_new is cause =
      (surface_unreached left now is, cause.failed)
  obj_stops T fails.OutOfMemory left now in_old in_new is cause = cause.same

  pub mesh_stops : (e : InputFail) (left now : Option (List ℕ)) (m : Mesh) (in_old in_new : ℕ)
      → IfSome left (λ bytes. meaning_of digits bytes ≡ Ok m) → IsNoSurface m e → in_new ≡ in_old
      → Stops (IsSurfaceRead digits) e left now in_old in_new
  mesh_stops (input.Faulty f) left now m in_old in_new is fault same =
      (mesh_refuses left m f is fault, same)
  mesh_stops input.Read left now m in_old in_new is fault same = absurd fault
  mesh_stops input.OutOfMemory left now m in_old in_new is fault same = same

  -- The surface of a mesh, as far as there is one.

  pub all_stand : {E : Type 0} (left : Option (List ℕ)) (m : Mesh) (r : Result Mesh E)
      → IfSome left (λ bytes. meaning_of digits bytes ≡ Ok m) → IfOk r (λ s. s ≡ m)
      → OnOk r (IsStartOfRun m)
      → IfOk r (λ s. IfSome left (λ bytes. IsSurfaceRead digits bytes (Ok s) None))
  all_stand left m (Ok s) is same start = mesh_stands left m s same is start.manifold
  all_stand left m (Err e) is same start = tt

  pub all_stop : (left now : Option (List ℕ)) (m : Mesh) (r : Result Mesh InputFail)
      (in_old in_new : ℕ) → IfSome left (λ bytes. meaning_of digits bytes ≡ Ok m)
      → IfErr r (IsNoSurface m) → in_new ≡ in_old
      → IfErr r (λ e. Stops (IsSurfaceRead digits) e left now in_old in_new)
  all_stop left now m (Ok s) in_old in_new is fault same = tt
  all_stop left now m (Err e) in_old in_new is fault same =
      mesh_stops e left now m in_old in_new is fault same
