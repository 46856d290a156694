use Rattle.pm_view.proofs.NumberLaws.{unsigned_small}
use Rattle.pm_view.proofs.fields.read_sil.Goals as goal

pub returns-in_ok-read_unsigned-in-Outline-clause-small :
    goal.returns-in_ok-read_unsigned-in-Outline-clause-small
returns-in_ok-read_unsigned-in-Outline-clause-small c =
    unsigned_small c.args.tol c.in_ok-read_unsigned-in-Outline.field-0 _
    c.in_ok-read_unsigned-in-Outline.ensures
