use Rattle.pm_deviation.specs.Lines.{line_spread_of, line_cosine_of}
use Rattle.pm_deviation.proofs.deviations.from_lines.Goals as goal

pub cosines-requires-clause-space : goal.cosines-requires-clause-space
cosines-requires-clause-space c = c.in_ok-spreads.ensures

pub line_deviations-requires : goal.line_deviations-requires
line_deviations-requires c =
    c.in_ok-spreads.ensures (line_spread_of c.args.h.now) c.requires.spreads

pub returns-clause-cosines : goal.returns-clause-cosines
unfolding line_cosine_of
returns-clause-cosines c =
    c.in_ok-cosines.ensures (line_spread_of c.args.h.now) c.requires.spreads
