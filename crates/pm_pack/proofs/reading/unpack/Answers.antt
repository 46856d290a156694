use Rattle.std.proofs.Common.{inr}
use Rattle.pm_coder.proofs.UniformLaws.{if_ok, if_err}
use Rattle.pm_pack.proofs.EndLaws.{says-packed}
use Rattle.pm_pack.proofs.JudgeLaws.{packed-of_one, fail-no_packed}
use Rattle.pm_pack.proofs.reading.unpack.Goals as goal

pub returns-in-Some-clause-back : goal.returns-in-Some-clause-back
returns-in-Some-clause-back c = λ text of.
    if_ok c.unpack_code.result
    (λ unpacked said. packed-of_one c.args.packed.now unpacked.items text
    (says-packed c.args.packed.now c.in-Some.code.now unpacked.items c.in-Some.ensures said) of)
    c.unpack_code.ensures.ok

pub returns-in-Some-clause-none : goal.returns-in-Some-clause-none
returns-in-Some-clause-none c =
    if_err c.unpack_code.result
    (λ e why other text. fail-no_packed c.args.packed.now text e
    (inr (c.in-Some.code.now, c.in-Some.ensures, why)) other)
    c.unpack_code.ensures.fail
