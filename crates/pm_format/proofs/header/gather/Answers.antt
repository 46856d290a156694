use Rattle.std.proofs.Common.{◌∙◌, ap}
use Rattle.std.proofs.lemmas.List.{take_rest}
use Rattle.pm_format.specs.Standing.{header_bytes}
use Rattle.pm_format.proofs.HeaderSizes.{gathered}
use Rattle.pm_format.proofs.header.gather.Goals as goal

pub returns : goal.returns
returns c =
    let g = gathered c.args.held.now.items c.args.piece.now _ c.fill-version.new.held.items
    c.fill.new.held.items c.fill-version.result c.fill.result c.header_size-size.result
    c.fill-version.ensures.used c.fill-version.ensures.held (c.header_size-size.ensures.value
    ∙ ap header_bytes c.as_slice.ensures.value)
    (take_rest c.args.piece.now c.fill-version.result)
    c.fill.ensures.used c.fill.ensures.held c.requires.short in
    record {
      within = g.within;
      held = g.joined;
      short = g.short;
      all = g.all;
    }
