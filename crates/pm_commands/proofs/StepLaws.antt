-- What the steps of `simplify` come to.
use Rattle.std.proofs.Common.{◌≡◌, ℕ, ◌≤◌, Bool, false, List, [], Option, Some, None, Ok, IfSome}
use Rattle.std.proofs.Common.{Result, Err, IfOk, refl, sym, ◌∙◌, ap, subst}
use Rattle.pm_base.specs.declared.log.Collapse.{Collapse}
use Rattle.pm_base.specs.Meshes.{Mesh}
use Rattle.pm_io.specs.Bytes.{Gains}
use Rattle.pm_forest.specs.Forest.{Hierarchy}
use Rattle.pm_forest.specs.Meshes.{input_mesh_of}
use Rattle.pm_firm.specs.Firm.{IsFirm}
use Rattle.pm_keeping.specs.Keeping.{kept_in}
use Rattle.pm_policies.specs.PolicyRuns.{IsRunBy}
use Rattle.pm_format.specs.Stream.{stream}
use Rattle.pm_fine_costs.specs.Steps.{Stepwise, policy_of}
use Rattle.pm_number.specs.Numbering.{hierarchy_of_run}
use Rattle.pm_commands.specs.declared.asked.Border.{Border}
use Rattle.pm_commands.specs.declared.asked.Border.TheVariants as borders
use Rattle.pm_commands.specs.declared.asked.Asked.TheVariants as asked
use Rattle.pm_commands.specs.Ran.{whole_output}
use Rattle.pm_commands.specs.Surface.{IsSurfaceGiven}
use Rattle.pm_commands.specs.Build.{made}
use Rattle.pm_commands.specs.Simplified.{IsKeptWith, IsSimplifiedText}
use Rattle.pm_commands.specs.Stepwise.{SteppedRun, IsRunOf, IsBegun, SimplifiesText}
use Rattle.pm_commands.specs.Outcome.{GivesMeshBack}
use Rattle.pm_commands.specs.Frames.{ShowsSurfacesOf}
use Rattle.pm_commands.specs.Borders.{FramesShowBorder}
use Rattle.pm_commands.proofs.BuildLaws.{gives_back}
use Rattle.pm_commands.proofs.BorderLaws.{shows_border}
use Rattle.pm_commands.proofs.FrameLaws.{shows_surfaces}
use Rattle.pm_commands.proofs.GivenLaws.{given_was_read}
use Rattle.pm_commands.proofs.OutcomeLaws.{follows_done}

-- The run of a mesh before its first collapse.
abbrev pub first_run : Mesh → List Bool → ℕ → Stepwise
first_run m flags target = record {
  mesh = m;
  kept = flags;
  target = target;
  log = [];
  ended = false;
}

-- With so many decimals a coordinate.
abbrev pub stepped : Stepwise → ℕ → SteppedRun
stepped run digits = record { run = run; digits = digits }

pub begun :
    (border : Border) (target digits : ℕ) (left : Option (List ℕ)) (m : Mesh) (flags : List Bool)
    (run : Stepwise) → run ≡ first_run m flags target
    → IfSome left (λ bytes. IsSurfaceGiven digits bytes (Ok m) None)
    → IsKeptWith border m (kept_in flags)
    → IfSome left (λ bytes. IsBegun border target digits bytes (stepped run digits))
begun border target digits None m flags run is given keeps = tt
begun border target digits (Some bytes) m flags run is given keeps =
    subst (λ (r : Stepwise). IsBegun border target digits bytes (stepped r digits)) (sym is)
    (record {
      of_text = record { given = given; keeps = keeps };
      target = refl;
      digits = refl;
      fresh = refl;
      going = refl;
    })

-- The hierarchy of the whole run.
pub simplifies : {E : Type 0} (s : SteppedRun) (n : Mesh) (log : List Collapse)
    (r : Result Hierarchy E) → n ≡ s.run.mesh
    → IsRunBy (policy_of s.run) s.run.mesh s.run.target log
    → IfOk r (λ h. h ≡ hierarchy_of_run n log) → IfOk r IsFirm
    → IfOk r (λ h. input_mesh_of h ≡ n) → IfOk r (SimplifiesText s)
simplifies s n log (Err e) same run is firm mesh = tt
simplifies s n log (Ok h) same run is firm mesh = record {
  made = λ border keeps. record {
    kept = kept_in s.run.kept;
    keeps = keeps;
    log = log;
    run = run;
    made = is ∙ ap (λ (k : Mesh). hierarchy_of_run k log) same;
  };
  firm = firm;
  mesh = mesh ∙ same;
}

-- What its stream text is to the text that the mesh was read from.
module _ (border : Border) (bytes : List ℕ) (s : SteppedRun) (h : Hierarchy)
    (few : s.digits ≤ 4) (of : IsRunOf border bytes s) (it : SimplifiesText s h)
    (old new : Option (List ℕ)) (gained : Gains old new (stream s.digits h)) where
  made_text : IsSimplifiedText border s.run.target s.digits bytes (Ok h) None
  made_text = made s.run.mesh h None of.given (it.made border of.keeps)

  pub leads_back : GivesMeshBack (asked.Simplify s.run.target s.digits border) bytes old new
  leads_back =
      gives_back (asked.Simplify s.run.target s.digits border) (Some bytes) old new h few
      (follows_done (IsSimplifiedText border s.run.target s.digits)
      (λ g. whole_output (stream s.digits g)) (Some bytes) h None made_text)
      (given_was_read s.digits (Some bytes) s.run.mesh (input_mesh_of h) it.mesh of.given)
      it.firm.valid gained

  pub shown : ShowsSurfacesOf (IsSimplifiedText border s.run.target s.digits) s.digits bytes old new
  shown =
      shows_surfaces (IsSimplifiedText border s.run.target s.digits) s.digits (Some bytes) old new h
      made_text few it.firm gained

module _ (bytes : List ℕ) (s : SteppedRun) (h : Hierarchy)
    (few : s.digits ≤ 4) (of : IsRunOf borders.Kept bytes s) (it : SimplifiesText s h)
    (old new : Option (List ℕ)) (gained : Gains old new (stream s.digits h)) where
  pub border_shown : FramesShowBorder s.run.target s.digits bytes old new
  border_shown =
      shows_border s.run.target s.digits (Some bytes) old new h
      (made s.run.mesh h None of.given (it.made borders.Kept of.keeps)) few it.firm gained
