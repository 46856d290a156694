use Rattle.std.proofs.Common.{◌<◌, ◌∙◌, length, arith}
use Rattle.pm_links.proofs.Calls.{after_push}
use Rattle.pm_shrink.proofs.CornerTables.{listed-more}
use Rattle.pm_shrink.proofs.setup.corner_lists.Goals as goal

pub loop-number-preserved : goal.loop-number-preserved
loop-number-preserved c =
    let i = c.loop-number.invariant in
    let low : c.from.result < length c.loop-number.lists.lists =
    omega (arith, c.from.ensures, i.heads, c.requires.within c.loop-number.number (omega arith))
    in
    let pushed =
    after_push c.loop-number.lists c.push_front.new.self c.from.result c.loop-number.number low
    c.push_front.ensures.lists in
    record {
      items = pushed.items ∙ i.items;
      heads = pushed.heads ∙ i.heads;
      sound = c.push_front.ensures.sound;
      each = listed-more c.args.faces.now.faces c.loop-number.number c.from.result
          c.loop-number.lists c.push_front.new.self c.from.ensures low c.push_front.ensures.lists
          i.each;
    }
