-- What the hierarchy of a run shows of a border that the run spares.
use Rattle.std.proofs.Common.{subst}
use Rattle.pm_base.specs.Meshes.{Mesh}
use Rattle.pm_number.specs.Numbering.{hierarchy_of_run}
use Rattle.pm_number.proofs.FirmRuns.{are_firm}
use Rattle.pm_number.proofs.LawsProved.{keep_meshes}
use Rattle.pm_tiles.specs.Borders.{ShowsBorder}
use Rattle.pm_tiles.specs.RunLaws as law
use Rattle.pm_tiles.proofs.InputBorders.{borders_are_shown}
use Rattle.pm_tiles.proofs.SparedBorders.{borders_fixed}

pub spared_shown : law.SparedBordersAreShown
spared_shown m start log run spares shape T closed =
    let h = hierarchy_of_run m log in
    subst (λ (n : Mesh). ShowsBorder h T n) (keep_meshes m start log run).mesh
    (borders_are_shown h (are_firm m start log run shape) (borders_fixed m start log run spares)
    T closed)
