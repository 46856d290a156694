use Rattle.pm_format.proofs.decoder.advance.Goals as goal

pub returns : goal.returns
returns c = rw c.replace-was.ensures.value at c.feed_stage-fed.ensures
