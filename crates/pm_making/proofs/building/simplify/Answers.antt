use Rattle.std.proofs.Common.{[], ap, refl}
use Rattle.pm_commands.specs.declared.asked.Border.{Border}
use Rattle.pm_commands.specs.declared.asked.Asked.TheVariants as asked
use Rattle.pm_making.specs.Making.{MadeText}
use Rattle.pm_making.proofs.EndLaws.{border_of}
use Rattle.pm_making.proofs.building.simplify.Goals as goal

pub returns-in-Ok-clause-meets : goal.returns-in-Ok-clause-meets
returns-in-Ok-clause-meets c is =
    border_of c.args.target c.args.digits c.args.text.now c.args.text.now [] c.of.result.bytes
    c.in-Ok.bytes.items refl refl (ap (λ (m : MadeText). m.bytes) c.of.ensures)
    (c.in-Ok.ensures.meets c.args.target c.args.digits
    (ap (λ (b : Border). asked.Simplify c.args.target c.args.digits b) is))
