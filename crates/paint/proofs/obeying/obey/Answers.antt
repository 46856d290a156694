use Rattle.std.proofs.Common.{List, ℕ, subst}
use Rattle.pm_program.specs.declared.making.TheConstants.{MOST}
use Rattle.pm_program.specs.Making.{EndsOn}
use Rattle.pm_program.proofs.InputLaws.{front_few}
use Rattle.pm_program.proofs.MakingLaws.{ends_of}
use Rattle.paint.specs.Making.{IsMade, Refuses}
use Rattle.paint.proofs.obeying.obey.Goals as goal

pub put_made-requires : goal.put_made-requires
put_made-requires g c =
    rw c.as_slice.ensures.value (front_few MOST _ _ c.in-Ok.bytes.items c.in-Ok.ensures.ok)

pub returns-in-Ok-clause-ends : goal.returns-in-Ok-clause-ends
returns-in-Ok-clause-ends g c =
    ends_of IsMade Refuses c.put_made.result _ _ _ _ c.in-Ok.bytes.items c.in-Ok.ensures.ok
    (subst (λ (l : List ℕ). EndsOn IsMade Refuses c.put_made.result l
    (g.K.Sink.got c.args.out.now) (g.K.Sink.got c.put_made.new.out))
    c.as_slice.ensures.value c.put_made.ensures.ends)
