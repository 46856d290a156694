use Rattle.pm_links.proofs.Calls.{after_unlink, free-unlink_same}
use Rattle.pm_front.proofs.dealing.deal_one.Goals as goal

pub push_front-requires-clause-free : goal.push_front-requires-clause-free
push_front-requires-clause-free c =
    free-unlink_same
    (after_unlink c.args.corners.now c.unlink.new.self c.args.corner c.unlink.ensures.lists)
