use Rattle.std.proofs.Common.{◌-◌, length, take, drop, sym, ◌∙◌, arith, length-take}
use Rattle.std.proofs.lemmas.List.{take_rest}
use Rattle.obj_read.proofs.FieldLaws.{fields_cut, fields_uncut}
use Rattle.obj_read.proofs.fields.split_field.Goals as goal

pub returns-then-is_blank : goal.returns-then-is_blank
returns-then-is_blank c =
    fields_cut c.args.bytes.now c.loop-i.i _ c.requires.field c.loop-i-test.true c.loop-i.invariant
    (sym c.is_blank.ensures ∙ c.if-is_blank.true) (take_rest c.args.bytes.now c.loop-i.i)

pub returns : goal.returns
returns c =
    let bytes = c.args.bytes.now in
    fields_uncut bytes (take (length bytes - length bytes) (drop (length bytes) bytes))
    c.requires.some (λ k below. c.loop-i.invariant k (omega arith))
    (omega (arith, length-take (length bytes - length bytes) (drop (length bytes) bytes)))
