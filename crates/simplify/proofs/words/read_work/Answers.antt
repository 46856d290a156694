use Rattle.std.proofs.Common.{◌≡◌, true, false, nat_eq, sym, ◌∙◌}
use Rattle.std.specs.Prelude.{codes}
use Rattle.std.specs.String.{string_bytes}
use Rattle.std.specs.Cmp.Lexicographic.{pointwise}
use Rattle.simplify.proofs.WordsLaws.{last_kept, last_free}
use Rattle.simplify.proofs.words.read_work.Goals as goal

pub returns-then-eq-clause-asked : goal.returns-then-eq-clause-asked
returns-then-eq-clause-asked c =
    let flag : pointwise nat_eq (string_bytes c.in-Some.last.now) (codes "--keep-border") ≡ true =
    cc (c.as_str.ensures.value, c.eq.ensures, c.if-eq.true) in
    c.with_border-then-eq.ensures.asked
    ∙ sym (last_kept c.args.words.now c.in-Some.before.now c.in-Some.last.now
    c.in-Some.ensures.cases.0 flag)

pub returns-else-eq-clause-asked : goal.returns-else-eq-clause-asked
returns-else-eq-clause-asked c =
    let other : pointwise nat_eq (string_bytes c.in-Some.last.now) (codes "--keep-border") ≡ false =
    cc (c.as_str.ensures.value, c.eq.ensures, c.if-eq.false) in
    c.with_border-else-eq.ensures.asked
    ∙ sym (last_free c.args.words.now c.in-Some.before.now c.in-Some.last.now
    c.in-Some.ensures.cases.0 other)
