use Rattle.std.proofs.Common.{List, ℕ, subst}
use Rattle.pm_program.specs.Making.{EndsOn}
use Rattle.pm_program.proofs.MakingLaws.{ends_of}
use Rattle.pack.specs.Making.{IsMade, Refuses}
use Rattle.pack.proofs.obeying.obey.Goals as goal

pub returns-in-Ok-clause-ends : goal.returns-in-Ok-clause-ends
returns-in-Ok-clause-ends g c =
    ends_of (IsMade c.args.asked) (Refuses c.args.asked) c.put_made.result _ _ _ _
    c.in-Ok.bytes.items c.in-Ok.ensures.ok
    (subst (λ (l : List ℕ).
    EndsOn (IsMade c.args.asked) (Refuses c.args.asked) c.put_made.result l
    (g.K.Sink.got c.args.out.now) (g.K.Sink.got c.put_made.new.out))
    c.as_slice.ensures.value c.put_made.ensures.ends)
