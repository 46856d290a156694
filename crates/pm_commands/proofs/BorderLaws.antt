-- The flags of a border keep exactly its vertices, no flags keep none, and a border that was kept
-- is shown by every frame.
use Rattle.std.proofs.Common.{◌≡◌, ◌↔◌, ℕ, ◌≤◌, Bool, true, false, List, [], length, slice_index_or}
use Rattle.std.proofs.Common.{Option, Some, None, IfSome}
use Rattle.std.proofs.Common.{Result, Ok, inl, inr, refl, sym, ◌∙◌, ap, subst, arith}
use Rattle.std.proofs.lemmas.Bool.{cases_lt, both_ways}
use Rattle.std.proofs.lemmas.List.{get_or_past}
use Rattle.pm_base.specs.Meshes.{Mesh, IsWellFormed}
use Rattle.pm_base.specs.Sides.{net_of, IsBorder}
use Rattle.pm_io.specs.Bytes.{Gains}
use Rattle.pm_twins.specs.Table.{IsBorderOf}
use Rattle.pm_forest.specs.Forest.{Hierarchy}
use Rattle.pm_forest.specs.Rules.{HasShape}
use Rattle.pm_beyond.specs.Moves.{IsClosed}
use Rattle.pm_firm.specs.Firm.{IsFirm}
use Rattle.pm_runs.specs.Runs.{IsStartOfRun}
use Rattle.pm_keeping.specs.Keeping.{kept_in}
use Rattle.pm_policies.proofs.OneRun.{one_run_by_a_policy}
use Rattle.pm_fine_costs.specs.FinePolicy.{fine_keeping}
use Rattle.pm_number.specs.Numbering.{hierarchy_of_run}
use Rattle.pm_session.specs.Script.{at_first}
use Rattle.pm_session.specs.Serving.{played}
use Rattle.pm_format.specs.Stream.{stream}
use Rattle.pm_tiles.specs.Borders.{ShowsBorder}
use Rattle.pm_tiles.specs.RunLaws.{SparesBorder}
use Rattle.pm_tiles.proofs.Flags.{keeps_border}
use Rattle.pm_tiles.proofs.ShownBorders.{spared_shown}
use Rattle.pm_commands.specs.declared.asked.Border.{Border}
use Rattle.pm_commands.specs.declared.asked.Border.TheVariants as borders
use Rattle.pm_commands.specs.declared.fault.Fault.{Fault}
use Rattle.pm_commands.specs.Surface.{IsSurfaceRead, IsSurfaceGiven}
use Rattle.pm_commands.specs.Build.{IsMadeOf, no_surface, made}
use Rattle.pm_commands.specs.Simplified.{IsKeptWith, IsSimplifiedWith, IsSimplifiedText}
use Rattle.pm_commands.specs.Frames.{ShowsSurfacesOf}
use Rattle.pm_commands.specs.Borders.{FramesShowBorder}
use Rattle.pm_commands.proofs.GivenLaws.{surface_given, one_simplified_text}
use Rattle.pm_commands.proofs.SomeOutcomes.{surface_starts}
use Rattle.pm_commands.proofs.FrameLaws.{scripts_closed, none_closed, shows_surfaces}

-- No flag, no vertex.
pub free_keeps :
    (border : Border) (m : Mesh) (flags : List Bool) → border ≡ borders.Free → flags ≡ [] →
    IsKeptWith border m (kept_in flags)
unfolding kept_in
free_keeps borders.Free m flags is none = λ v.
    ap (λ (l : List Bool). slice_index_or l v false) none ∙ get_or_past [] v false (omega arith)
free_keeps borders.Kept m flags is none = absurd (cc is)

-- A flag is set of border vertices alone, since those past the list aren't kept.
flags_keep :
    (m : Mesh) (flags : List Bool) → IsWellFormed m →
    IsBorderOf (net_of m.faces) (length m.points) flags →
    (v : ℕ) → (kept_in flags v ≡ true) ↔ IsBorder (net_of m.faces) v
unfolding kept_in
flags_keep m flags formed is v = (
  λ set.
      elim (cases_lt v (length m.points)) [
        | inl l ↦ (is.each v l).0 set
        | inr past ↦
            let unset : slice_index_or flags v false ≡ false =
            get_or_past flags v false (omega (arith, past, is.vertices)) in
            absurd (both_ways _ unset set)
      ],
  λ on. keeps_border m flags formed is v on,
)

pub kept_keeps :
    (border : Border) (m : Mesh) (flags : List Bool) → border ≡ borders.Kept → IsWellFormed m →
    IsBorderOf (net_of m.faces) (length m.points) flags → IsKeptWith border m (kept_in flags)
kept_keeps borders.Free m flags kept formed is = absurd (cc kept)
kept_keeps borders.Kept m flags kept formed is = flags_keep m flags formed is

border_made :
    (m : Mesh) → IsStartOfRun m → (target : ℕ) (h : Hierarchy) →
    IsSimplifiedWith borders.Kept m target h → IsFirm h → (T : ℕ → Bool) → IsClosed h T →
    ShowsBorder h T m
border_made m start target h is firm T closed =
    let shape : HasShape (hierarchy_of_run m is.log) = subst HasShape is.made firm.valid.shape in
    let same : IsClosed (hierarchy_of_run m is.log) T =
    subst (λ (g : Hierarchy). IsClosed g T) is.made closed in
    let known = one_run_by_a_policy (fine_keeping is.kept) m target is.log is.run in
    let spares : SparesBorder m is.log = λ v on. known.spared v ((is.keeps v).1 on) in
    subst (λ (g : Hierarchy). ShowsBorder g T m) (sym is.made)
    (spared_shown m start is.log known.run spares shape T same)

-- A hierarchy that is made of a text that shall have a mesh is made of its mesh.
pub made_of :
    (Makes : Mesh → Hierarchy → Type 0) (digits : ℕ) (bytes : List ℕ) (h : Hierarchy)
    (r : Result Hierarchy Fault) (place : Option ℕ) → r ≡ Ok h → place ≡ None →
    IsMadeOf (IsSurfaceGiven digits) Makes bytes r place
    → (m : Mesh) × IsSurfaceRead digits bytes (Ok m) None × Makes m h
made_of Makes digits bytes h r place is nowhere (no_surface f i read) = absurd (cc)
made_of Makes digits bytes h r place is nowhere (made m g i read makes) =
    let same : g ≡ h = cc in (
      m,
      subst (λ (p : Option ℕ). IsSurfaceRead digits bytes (Ok m) p) nowhere
          (surface_given digits bytes m i read),
      subst (λ (x : Hierarchy). Makes m x) same makes,
    )

border_shown :
    (target digits : ℕ) (bytes : List ℕ) (old new : Option (List ℕ)) (h : Hierarchy) →
    IsSimplifiedText borders.Kept target digits bytes (Ok h) None → IsFirm h →
    ShowsSurfacesOf (IsSimplifiedText borders.Kept target digits) digits bytes old new →
    FramesShowBorder target digits bytes old new
border_shown target digits bytes old new h is firm shown =
    let both : Ok h ≡ Ok shown.h =
    (one_simplified_text borders.Kept target digits bytes (Ok h) (Ok shown.h) None None is
    shown.built).0 in
    let same : h ≡ shown.h = cc in
    let whole : IsFirm shown.h = subst IsFirm same firm in
    let (m, read, makes) = made_of (λ m h. IsSimplifiedWith borders.Kept m target h) digits bytes
    shown.h (Ok shown.h) None refl refl shown.built in
    let start : IsStartOfRun m = surface_starts digits bytes (Ok m) None read in
    record {
      shown = shown;
      firm = whole;
      m = m;
      read = read;
      frames = λ grammar budget front.
          border_made m start target shown.h makes whole
          (played shown.h grammar (at_first budget) front).state.split
          (scripts_closed shown.h whole.valid grammar (at_first budget) (none_closed shown.h)
          front).0;
      fronts = λ T closed. border_made m start target shown.h makes whole T closed;
    }

pub shows_border :
    (target digits : ℕ) (left old new : Option (List ℕ)) (h : Hierarchy) →
    IfSome left (λ bytes. IsSimplifiedText borders.Kept target digits bytes (Ok h) None)
    → digits ≤ 4 →
    IsFirm h → Gains old new (stream digits h)
    → IfSome left (λ bytes. FramesShowBorder target digits bytes old new)
shows_border target digits None old new h is few firm gained = tt
shows_border target digits (Some bytes) old new h is few firm gained =
    border_shown target digits bytes old new h is firm
    (shows_surfaces (IsSimplifiedText borders.Kept target digits) digits (Some bytes) old new h is
    few firm gained)
