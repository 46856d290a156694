use Rattle.std.proofs.Common.{Ok, Err, not, sym, subst}
use Rattle.pm_pack.specs.Unpacking.{Feeds}
use Rattle.pm_pack.proofs.FeedLaws.{named-feeds, ok-feeds}
use Rattle.pm_pack.proofs.reading.feed_word.Goals as goal

pub returns-in-Err-clause-fed : goal.returns-in-Err-clause-fed
returns-in-Err-clause-fed c = λ after.
    let old = c.args.text.now.items in
    let feeds = named-feeds old c.word_bytes-bytes.result c.extend_from_slice.new.self.items
    c.feed.new.self c.in-Err.fault (c.in-Err.ensures.says old after) in
    subst (λ p. Feeds old p c.extend_from_slice.new.self.items c.feed.new.self
    (Err c.named.result)) c.word_bytes-bytes.ensures
    (subst (λ r. Feeds old c.word_bytes-bytes.result c.extend_from_slice.new.self.items
    c.feed.new.self (Err r)) (sym c.named.ensures) feeds)

pub returns-in-Ok-feed-clause-fed : goal.returns-in-Ok-feed-clause-fed
returns-in-Ok-feed-clause-fed c = λ after.
    let old = c.args.text.now.items in
    let feeds = ok-feeds old c.word_bytes-bytes.result c.extend_from_slice.new.self.items
    c.feed.new.self c.in-Ok-feed.fed c.in-Ok.ensures.items c.in-Ok-feed.ensures.within
    c.in-Ok-feed.ensures.all (c.in-Ok-feed.ensures.stands old after)
    c.in-Ok-feed.ensures.tells (c.in-Ok-feed.ensures.says old after) in
    subst (λ p. Feeds old p c.extend_from_slice.new.self.items c.feed.new.self
    (Ok (not c.in-Ok-feed.fed.whole))) c.word_bytes-bytes.ensures feeds
