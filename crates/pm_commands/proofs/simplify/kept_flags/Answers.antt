use Rattle.pm_simplify.proofs.PlainRuns.{if_ok_more}
use Rattle.pm_commands.proofs.BorderLaws.{free_keeps, kept_keeps}
use Rattle.pm_commands.proofs.simplify.kept_flags.Goals as goal

pub returns-in-Free : goal.returns-in-Free
returns-in-Free c = record {
  keeps =
      free_keeps c.args.border c.args.surface.now c.new.result.items c.in-Free.is
      c.new.ensures.items;
}

pub returns-in-Kept : goal.returns-in-Kept
returns-in-Kept c =
    let m = c.args.surface.now in
    let formed = c.invariant.ensures.formed in record {
      keeps =
          if_ok_more c.border_flags.result c.border_flags.ensures.border
          (λ flags border. kept_keeps c.args.border m flags.items c.in-Kept.is formed border);
    }
