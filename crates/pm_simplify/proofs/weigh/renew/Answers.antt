use Rattle.std.proofs.Common.{arith}
use Rattle.pm_simplify.proofs.Weighing.{weighed_right, weighed_renews}
use Rattle.pm_simplify.proofs.weigh.renew.Goals as goal

pub returns-clause-right : goal.returns-clause-right
returns-clause-right g c =
    let within = c.item_of.ensures.within in
    let room = c.requires.room in
    λ p m log on. weighed_right p m log c.args.shrink.now on.after
    c.args.side.0 c.requires.stands c.args.queue.now c.put_key.new.queue c.item_of.result
    c.free_key_of-key.result
    c.item_of.ensures.value (omega arith) (c.free_key_of-key.ensures p m log on) c.put_key.ensures

pub returns-clause-renews : goal.returns-clause-renews
returns-clause-renews g c =
    let within = c.item_of.ensures.within in
    let room = c.requires.room in
    λ p m log on. weighed_renews p m log c.args.shrink.now on.after
    c.args.side.0 c.requires.stands c.args.queue.now c.put_key.new.queue c.item_of.result
    c.free_key_of-key.result
    c.item_of.ensures.value (omega arith) (c.free_key_of-key.ensures p m log on) c.put_key.ensures
