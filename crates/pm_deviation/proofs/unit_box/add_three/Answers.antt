use Rattle.std.proofs.Common.{w64, to_z, of_z, lit<, lit≤}
use Rattle.std.specs.Prelude.{ℤ, ◌+ℤ◌}
use Rattle.pm_base.proofs.ReadBack.{Computes, computed_small, read_is, sum_computes}
use Rattle.pm_deviation.proofs.unit_box.add_three.Goals as goal

abbrev read : ℤ → ℤ
read z = to_z w64 (of_z w64 z)

two_are : (c : goal.Start)
    → Computes w64 (read c.args.a +ℤ read c.args.b) (c.args.a +ℤ c.args.b) 6442254336
two_are c =
    sum_computes w64 _ _ c.args.a c.args.b 3221127168 3221127168 6442254336
    (read_is w64 c.args.a 3221127168 c.requires.a_small (lit< tt))
    (read_is w64 c.args.b 3221127168 c.requires.b_small (lit< tt))
    c.requires.a_small c.requires.b_small (lit≤ tt) (lit< tt)

three_are : (c : goal.Start)
    → Computes w64 (read (read c.args.a +ℤ read c.args.b) +ℤ read c.args.c)
    (c.args.a +ℤ c.args.b +ℤ c.args.c) 9663381504
three_are c =
    sum_computes w64 _ _ (c.args.a +ℤ c.args.b) c.args.c 6442254336 3221127168 9663381504
    (two_are c).value (read_is w64 c.args.c 3221127168 c.requires.c_small (lit< tt))
    (two_are c).small c.requires.c_small (lit≤ tt) (lit< tt)

pub overflow_add-result : goal.overflow_add-result
overflow_add-result c = (two_are c).fits

pub overflow_add-result-2 : goal.overflow_add-result-2
overflow_add-result-2 c = (three_are c).fits

pub returns-clause-value : goal.returns-clause-value
returns-clause-value c = (three_are c).value

pub returns-clause-small : goal.returns-clause-small
returns-clause-small c = computed_small _ _ _ _ (three_are c)
