use Rattle.obj_scan.proofs.PolygonLaws.{fans_lead_back}
use Rattle.obj_scan.proofs.ReadLaws.{read_scanned, canonical_scanned}
use Rattle.obj_scan.proofs.theory.scans_are_sound.Goals as goal

pub returns : goal.returns
returns c = record {
  fans = fans_lead_back;
  read = read_scanned;
  commented = canonical_scanned;
}
