-- The hierarchy of a log, whole.
use Rattle.std.proofs.Common.{◌≡◌, ℕ, ◌∙◌, true, Some, Result, Ok, Err, List, length, refl, sym}
use Rattle.std.proofs.Common.{ap, arith}
use Rattle.std.proofs.lemmas.Grind.{common_steps}
use Rattle.std.proofs.lemmas.Bool.{le-ltb, false≢true}
use Rattle.std.proofs.lemmas.List.{length-take-le, take_all}
use Rattle.std.proofs.lemmas.Option.{none-some}
use Rattle.std.specs.Prelude.{IfOk}
use Rattle.pm_base.specs.declared.log.Collapse.{Collapse}
use Rattle.pm_base.specs.Meshes.{Mesh}
use Rattle.pm_forest.specs.declared.parts.Counts.{Counts}
use Rattle.pm_forest.specs.declared.parts.UnitKind.TheVariants as kinds
use Rattle.pm_forest.specs.declared.parts.Shape.{Shape}
use Rattle.pm_forest.specs.Forest.{Hierarchy}
use Rattle.pm_forest.specs.Meshes.{input_mesh_of}
use Rattle.pm_forest.specs.Rules.{counts_of, counts_are_bad, past_fault, HasShape}
use Rattle.pm_forest.specs.Shaping.{Shaping, expects}
use Rattle.pm_runs.specs.Runs.{IsStartOfRun, IsRun}
use Rattle.pm_beyond.specs.Valid.{IsValid}
use Rattle.pm_firm.specs.Firm.{IsFirm}
use Rattle.pm_number.specs.declared.tables.Numbers.{Numbers}
use Rattle.pm_number.specs.Stages.{Run, run_of, steps}
use Rattle.pm_number.specs.Numbering.{hierarchy_of, hierarchy_of_run}
use Rattle.pm_number.specs.Tables.{run_by, hierarchy_by, IsSmallRun, AreNumbers, took_records}
use Rattle.pm_number.proofs.FaceFitting.{past_fits}
use Rattle.pm_number.proofs.FeedLaws.{root_len, base_len}
use Rattle.pm_number.proofs.FirmRuns.{are_firm}
use Rattle.pm_number.proofs.Fitting.{counts_fit}
use Rattle.pm_number.proofs.LawsProved.{keep_meshes, are_valid}
use Rattle.pm_number.proofs.Merging.{merging}
use Rattle.pm_number.proofs.NodeNumbers.{count}
use Rattle.pm_number.proofs.RunCounts.{node-count, leaf-number-count}

pub small_run : (m : Mesh) (log : List Collapse) → IsStartOfRun m → IsRun m log
    → IsSmallRun (run_of m log)
small_run m log start run =
    grind (arith, common_steps, merging m log start run, node-count (run_of m log))

-- The counts

pub counts_are : {n : Numbers} {leaves roots bases records : ℕ} → AreNumbers n
    → leaves ≡ length n.run.mesh.now.points.items → roots ≡ length n.left.items
    → bases ≡ length n.bases.items → records ≡ length n.run.log.now →
    ◌≡◌ {A = Counts} (record {
      leaves = leaves;
      roots = roots;
      bases = bases;
      records = records;
    }) (counts_of (hierarchy_by n))
counts_are {n} {leaves} {roots} {bases} {records} own leaves_are roots_are bases_are records_are =
    rw (
      leaves_are ∙ leaf-number-count (run_by n) own.run.merging,
      roots_are ∙ root_len own,
      bases_are ∙ base_len own,
      records_are ∙ sym (count (run_by n)),
    ) refl

pub not_bad : {n : Numbers} {c : Counts} → AreNumbers n → c ≡ counts_of (hierarchy_by n)
    → counts_are_bad c ≡ true → ⊥
not_bad {n} own is bad =
    let small = own.run in
    let fits = counts_fit (run_by n) small.merging small.few_vertices small.few_faces in
    false≢true (sym fits ∙ rw is at bad)

-- A shaper that took in all records

pub whole_is : (r : Run) {s : Shaping} → s ≡ took_records (hierarchy_of r) (steps r)
    → s.h ≡ hierarchy_of r
whole_is r {s} is =
    ap (λ (t : Shaping). t.h) is
    ∙ ap (λ rs. record (hierarchy_of r) { records = rs })
    (take_all (steps r) (hierarchy_of r).records (omega (arith, count r)))

pub expects_nothing : (r : Run) {s : Shaping} → s ≡ took_records (hierarchy_of r) (steps r)
    → expects s ≡ kinds.Nothing
expects_nothing r {s} is =
    let all = count r in
    grind (arith, common_steps, le-ltb, length-take-le)

pub not_past : {r : Run} {s : Shaping} {e : Shape} → IsSmallRun r
    → s ≡ took_records (hierarchy_of r) (steps r) → past_fault s.h ≡ Some e → ⊥
not_past {r} {s} {e} small is fault =
    none-some e (sym (rw (whole_is r is) (past_fits r small.merging small.few_faces)) ∙ fault)

-- What is made of a log.
pub record IsMade {E : Type 0} (m : Mesh) (log : List Collapse) (made : Result Hierarchy E) : Type 0
  where
    pub hierarchy : IfOk made (λ h. h ≡ hierarchy_of_run m log)
    pub valid : IfOk made IsValid
    pub firm : IfOk made IsFirm
    pub mesh : IfOk made (λ h. input_mesh_of h ≡ m)

pub is_made : {E : Type 0} (m : Mesh) (log : List Collapse) (result : Result Hierarchy E)
    → IsStartOfRun m → IsRun m log → IfOk result (λ h. h ≡ hierarchy_of_run m log)
    → IfOk result HasShape → IsMade m log result
is_made m log (Err e) start run is shape = record {
  hierarchy = tt;
  valid = tt;
  firm = tt;
  mesh = tt;
}
is_made m log (Ok h) start run is shape =
    grind (arith, common_steps, are_firm, are_valid, keep_meshes)

-- the slice of a log is the log
pub of_slice : {E : Type 0} (m : Mesh) {log slice : List Collapse} {r : Run}
    (result : Result Hierarchy E) → slice ≡ log → r ≡ run_of m slice
    → IfOk result (λ h. h ≡ hierarchy_of r) → IfOk result (λ h. h ≡ hierarchy_of_run m log)
unfolding hierarchy_of_run
of_slice m (Err e) same run is = tt
of_slice m (Ok h) same run is = is ∙ ap hierarchy_of run ∙ ap (λ l. hierarchy_of (run_of m l)) same
