use Rattle.vdpm_c.proofs.FrameLaws.{follow}
use Rattle.vdpm_c.proofs.laws.slots_follow_frames.Goals as goal

pub returns : goal.returns
returns c h S G b = follow h S G b
