use Rattle.std.proofs.Common.{not, sym, ◌∙◌, arith}
use Rattle.std.proofs.lemmas.Bool.{and_parts}
use Rattle.pm_base.specs.Counts.{set_of}
use Rattle.pm_sets.proofs.FlagLaws.{in_below}
use Rattle.pm_forest.specs.Fronts.{is_active}
use Rattle.pm_beyond.proofs.Standing.{closed-front}
use Rattle.pm_change.proofs.sets.ChangeSets.gather.Goals as goal

pub gather_puts-requires-clause-active : goal.gather_puts-requires-clause-active
gather_puts-requires-clause-active g c v there =
    let new = c.gather_gone_and_new.ensures.new_nodes in
    let low = in_below c.gather_gone_and_new.new.sets.new_nodes v there in
    let len = new.len in
    (and_parts (is_active c.args.front.now.h (set_of c.args.front.now.flags) v)
    (not (is_active c.args.front.now.h (set_of c.args.marks.now) v))
    (sym (new.each v (omega arith)) ∙ there)).0

pub returns-clause-sets : goal.returns-clause-sets
returns-clause-sets g c =
    let S = set_of c.args.marks.now in
    let done = c.gather_gone_and_new.ensures in
    record {
      gone_faces = done.gone_faces;
      gone_nodes = done.gone_nodes;
      new_nodes = done.new_nodes;
      put_faces = c.gather_puts.ensures.put S (record {
        before = closed-front c.args.front.now.h S c.requires.marks.closed;
        just = done.new_nodes;
      });
    }

pub returns-clause-cost : goal.returns-clause-cost
returns-clause-cost g c =
    let S = set_of c.args.marks.now in
    let done = c.gather_gone_and_new.ensures in
    let cost = done.cost in
    let more = c.gather_puts.ensures.cost S (record {
      before = closed-front c.args.front.now.h S c.requires.marks.closed;
      just = done.new_nodes;
    }) in
    omega arith
