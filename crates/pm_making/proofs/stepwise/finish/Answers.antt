use Rattle.std.proofs.Common.{◌∙◌, ap}
use Rattle.pm_viewer.specs.Viewing.{Replied}
use Rattle.pm_commands.specs.declared.asked.Asked.TheVariants as asked
use Rattle.pm_commands.specs.Simplified.{IsSimplifiedText}
use Rattle.pm_commands.specs.Outcome.{GivesMeshBack}
use Rattle.pm_commands.specs.Frames.{ShowsSurfacesOf}
use Rattle.pm_commands.specs.Borders.{FramesShowBorder}
use Rattle.pm_making.specs.Making.{MadeText}
use Rattle.pm_making.proofs.EndLaws.{stream_of, of_bytes, unscaled}
use Rattle.pm_making.proofs.stepwise.finish.Goals as goal

pub returns-in-Ok-clause-made : goal.returns-in-Ok-clause-made
returns-in-Ok-clause-made c border text of =
    let none = ap (λ (r : Replied). r.got) c.new-gathered.ensures in
    let asks = asked.Simplify c.args.it.run.target c.args.it.digits border in
    let IsMade = IsSimplifiedText border c.args.it.run.target c.args.it.digits in
    let made = c.into_bytes.result.items in
    stream_of IsMade asks c.args.it.digits text made c.of.result
    (c.of.ensures ∙ ap (unscaled made) c.new.ensures.items)
    (of_bytes (ShowsSurfacesOf IsMade c.args.it.digits text) _ _ made none c.into_bytes.ensures
    (c.in-Ok.ensures.surfaces border text of))
    (of_bytes (GivesMeshBack asks text) _ _ made none c.into_bytes.ensures
    (c.in-Ok.ensures.gives_back border text of))

pub returns-in-Ok-clause-surfaces : goal.returns-in-Ok-clause-surfaces
returns-in-Ok-clause-surfaces c border text of =
    let none = ap (λ (r : Replied). r.got) c.new-gathered.ensures in
    let IsMade = IsSimplifiedText border c.args.it.run.target c.args.it.digits in
    of_bytes (ShowsSurfacesOf IsMade c.args.it.digits text) _ _ c.of.result.bytes none
    (ap (λ (m : MadeText). m.bytes) c.of.ensures ∙ c.into_bytes.ensures)
    (c.in-Ok.ensures.surfaces border text of)

pub returns-in-Ok-clause-meets : goal.returns-in-Ok-clause-meets
returns-in-Ok-clause-meets c text of =
    let none = ap (λ (r : Replied). r.got) c.new-gathered.ensures in
    of_bytes (FramesShowBorder c.args.it.run.target c.args.it.digits text) _ _ c.of.result.bytes
    none (ap (λ (m : MadeText). m.bytes) c.of.ensures ∙ c.into_bytes.ensures)
    (c.in-Ok.ensures.meets text of)
