use Rattle.std.proofs.Common.{length, false, ap, ◌∙◌}
use Rattle.std.proofs.lemmas.List.{length-replicate}
use Rattle.pm_turn.proofs.Flags.{own_elders_begin}
use Rattle.pm_turn.proofs.turning.own_patches.Goals as goal

pub returns-clause-tables : goal.returns-clause-tables
returns-clause-tables c = record {
  elders_long = c.in_ok-elders.ensures.long;
  parities_long = ap length c.in_ok-parities.ensures ∙ length-replicate c.args.faces false;
  odd_long = ap length c.in_ok-odd.ensures ∙ length-replicate c.args.faces false;
}

pub returns-clause-begun : goal.returns-clause-begun
returns-clause-begun c m is =
    own_elders_begin m c.args.faces c.in_ok-elders.elders.items c.in_ok-parities.parities.items
    c.in_ok-odd.odd.items is
    c.in_ok-elders.ensures.long c.in_ok-elders.ensures.each c.in_ok-parities.ensures
    c.in_ok-odd.ensures
