use Rattle.std.proofs.Common.{refl, ap, codes}
use Rattle.pm_format.specs.declared.fault.FormatError.TheVariants as format
use Rattle.pm_commands.specs.declared.fault.Fault.TheVariants as faults
use Rattle.pm_commands.specs.FaultText.{fault_text}
use Rattle.pm_viewer.proofs.CauseLaws.{tells_placed}
use Rattle.pm_viewer.proofs.fail.cause_of_stream.Goals as goal

pub returns-in-BadVersion-clause-told : goal.returns-in-BadVersion-clause-told
unfolding fault_text
returns-in-BadVersion-clause-told c =
    tells_placed _ (faults.Stream (format.BadVersion c.in-BadVersion.version)) _ _ 21 _ _
    (codes "version")
    (ap faults.Stream c.in-BadVersion.is) c.placed.ensures.number c.placed.ensures.place
    c.from.ensures refl

pub returns-in-BadDigits-clause-told : goal.returns-in-BadDigits-clause-told
unfolding fault_text
returns-in-BadDigits-clause-told c =
    tells_placed _ (faults.Stream (format.BadDigits c.in-BadDigits.digits)) _ _ 33 _ _
    (codes "digits")
    (ap faults.Stream c.in-BadDigits.is) c.placed-in-BadDigits.ensures.number
    c.placed-in-BadDigits.ensures.place c.from-in-BadDigits.ensures refl

pub returns-in-Truncated-clause-told : goal.returns-in-Truncated-clause-told
unfolding fault_text
returns-in-Truncated-clause-told c =
    tells_placed _ (faults.Stream (format.Truncated c.in-Truncated.bytes)) _ _ 22 _ _ (codes "byte")
    (ap faults.Stream c.in-Truncated.is) c.placed-in-Truncated.ensures.number
    c.placed-in-Truncated.ensures.place c.from-in-Truncated.ensures refl

pub returns-in-BadRoot-clause-told : goal.returns-in-BadRoot-clause-told
unfolding fault_text
returns-in-BadRoot-clause-told c =
    tells_placed _ (faults.Stream (format.BadRoot c.in-BadRoot.root)) _ _ 24 _ _ (codes "root")
    (ap faults.Stream c.in-BadRoot.is) c.placed-in-BadRoot.ensures.number
    c.placed-in-BadRoot.ensures.place c.from-in-BadRoot.ensures refl

pub returns-in-BadFace-clause-told : goal.returns-in-BadFace-clause-told
unfolding fault_text
returns-in-BadFace-clause-told c =
    tells_placed _ (faults.Stream (format.BadFace c.in-BadFace.face)) _ _ 25 _ _ (codes "face")
    (ap faults.Stream c.in-BadFace.is) c.placed-in-BadFace.ensures.number
    c.placed-in-BadFace.ensures.place c.from-in-BadFace.ensures refl

pub returns-in-BadRecord-clause-told : goal.returns-in-BadRecord-clause-told
unfolding fault_text
returns-in-BadRecord-clause-told c =
    tells_placed _ (faults.Stream (format.BadRecord c.in-BadRecord.record)) _ _ 26 _ _
    (codes "record")
    (ap faults.Stream c.in-BadRecord.is) c.placed-in-BadRecord.ensures.number
    c.placed-in-BadRecord.ensures.place c.from-in-BadRecord.ensures refl

pub returns-in-BadInput-clause-told : goal.returns-in-BadInput-clause-told
unfolding fault_text
returns-in-BadInput-clause-told c =
    tells_placed _ (faults.Stream (format.BadInput c.in-BadInput.field)) _ _ 27 _ _ (codes "input")
    (ap faults.Stream c.in-BadInput.is) c.placed-in-BadInput.ensures.number
    c.placed-in-BadInput.ensures.place c.from-in-BadInput.ensures refl
