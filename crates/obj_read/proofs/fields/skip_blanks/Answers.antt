use Rattle.std.proofs.Common.{◌∙◌, ap, arith}
use Rattle.std.proofs.lemmas.List.{take_rest}
use Rattle.obj_read.specs.Fields.{fields}
use Rattle.obj_read.proofs.FieldLaws.{fields_skip}
use Rattle.obj_read.proofs.fields.skip_blanks.Goals as goal

pub returns-then-not-is_blank-clause-fields : goal.returns-then-not-is_blank-clause-fields
returns-then-not-is_blank-clause-fields c =
    ap fields (take_rest c.args.bytes.now c.loop-i.i)
    ∙ fields_skip c.args.bytes.now c.loop-i.i (omega arith) c.loop-i.invariant
