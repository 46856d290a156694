use Rattle.std.proofs.Common.{◌∙◌, rules}
use Rattle.paint.proofs.PartLaws.{colours_same}
use Rattle.paint.proofs.parts.add_node_colours.Goals as goal

pub returns : goal.returns
returns c =
    let same = colours_same c.means_are_sound.ensures.channels c.args.h.now c.args.colours.now
    c.in_ok-means.means.items (c.in_ok-means.ensures.means ∙ search rules) in
    rw (c.deref.ensures.value, c.nodes.ensures.value, same) at c.add_means.ensures
