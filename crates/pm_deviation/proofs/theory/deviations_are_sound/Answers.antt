use Rattle.std.proofs.Common.{refl}
use Rattle.pm_deviation.proofs.GrowingLaws.{below_errors, grow}
use Rattle.pm_deviation.proofs.NearLaws.{planes_near, triangle_near}
use Rattle.pm_deviation.proofs.LineLaws.{lines_near}
use Rattle.pm_deviation.proofs.NearLines as border
use Rattle.pm_deviation.proofs.OrderLaws.{above_distances}
use Rattle.pm_deviation.proofs.theory.deviations_are_sound.Goals as goal

pub returns : goal.returns
returns c = record {
  axes = refl;
  below = below_errors;
  grow = grow;
  planes = λ h shape v e l side held. planes_near h shape e side v l held;
  triangles = λ h shape f u v w i j k show. triangle_near h shape f show.face u v w i j k show;
  lines = lines_near;
  border_lines = λ h shape v e l side under. border.lines_near h shape e side v l under;
  above = above_distances;
}
