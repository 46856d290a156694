use Rattle.std.proofs.Common.{refl, codes, ◌∙◌}
use Rattle.obj_read.specs.Numbers.{fault_number}
use Rattle.pm_commands.specs.declared.fault.Fault.TheVariants as faults
use Rattle.pm_commands.specs.FaultText.{fault_text}
use Rattle.pm_viewer.proofs.CauseLaws.{tells_placed}
use Rattle.pm_making.proofs.fail.text_cause_of.Goals as goal

pub returns-in-Obj-clause-told : goal.returns-in-Obj-clause-told
unfolding fault_text
returns-in-Obj-clause-told c =
    tells_placed _ (faults.Obj c.in-Obj.fault c.in-Obj.line) _ _ (fault_number c.in-Obj.fault) _ _
    (codes "line") c.in-Obj.is (c.placed.ensures.number ∙ c.number.ensures) c.placed.ensures.place
    refl refl

pub returns-in-EdgeTwice-clause-told : goal.returns-in-EdgeTwice-clause-told
unfolding fault_text
returns-in-EdgeTwice-clause-told c =
    tells_placed _ (faults.EdgeTwice c.in-EdgeTwice.face) _ _ 11 _ _ (codes "face")
    c.in-EdgeTwice.is c.placed-in-EdgeTwice.ensures.number c.placed-in-EdgeTwice.ensures.place
    refl refl

pub returns-in-NotFan-clause-told : goal.returns-in-NotFan-clause-told
unfolding fault_text
returns-in-NotFan-clause-told c =
    tells_placed _ (faults.NotFan c.in-NotFan.vertex) _ _ 12 _ _ (codes "vertex")
    c.in-NotFan.is c.placed-in-NotFan.ensures.number c.placed-in-NotFan.ensures.place refl refl
