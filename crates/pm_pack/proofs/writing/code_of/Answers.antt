use Rattle.pm_coder.proofs.UniformLaws.{if_ok}
use Rattle.pm_format.specs.Words.{words_of}
use Rattle.pm_pack.specs.Packed.{slots, at_first}
use Rattle.pm_pack.proofs.PackLaws.{code-says}
use Rattle.pm_pack.proofs.writing.code_of.Goals as goal

pub returns-in-Ok : goal.returns-in-Ok
returns-in-Ok c =
    let made = rw (c.new-coder.ensures, c.in_ok-known.ensures) at c.in-Ok.ensures in
    if_ok c.finish.result
    (λ code e. code-says slots at_first code.items (words_of c.args.text.now) _ made e)
    c.finish.ensures
