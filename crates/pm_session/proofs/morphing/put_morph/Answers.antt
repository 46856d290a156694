use Rattle.pm_session.proofs.MorphLaws.{fraction_parts}
use Rattle.pm_session.proofs.morphing.put_morph.Goals as goal

pub write_morph-requires-clause-some : goal.write_morph-requires-clause-some
write_morph-requires-clause-some g c = (fraction_parts c.args.a c.args.b c.requires.fraction).some

pub write_morph-requires-clause-most : goal.write_morph-requires-clause-most
write_morph-requires-clause-most g c = (fraction_parts c.args.a c.args.b c.requires.fraction).most

pub write_morph-requires-clause-within : goal.write_morph-requires-clause-within
write_morph-requires-clause-within g c =
    (fraction_parts c.args.a c.args.b c.requires.fraction).within
