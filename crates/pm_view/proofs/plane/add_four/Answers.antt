use Rattle.std.proofs.Common.{◌^◌, w64, to_z, of_z, lit<, lit≤}
use Rattle.std.specs.Prelude.{ℤ, ◌+ℤ◌}
use Rattle.pm_base.proofs.ReadBack.{Computes, computed_small, read_is, sum_computes}
use Rattle.pm_view.proofs.plane.add_four.Goals as goal

abbrev read : ℤ → ℤ
read z = to_z w64 (of_z w64 z)

two_are : (c : goal.Start)
    → Computes w64 (read c.args.a +ℤ read c.args.b) (c.args.a +ℤ c.args.b) (2 ^ 32)
two_are c =
    sum_computes w64 (read c.args.a) (read c.args.b) c.args.a c.args.b (2 ^ 31) (2 ^ 31) (2 ^ 32)
    (read_is w64 c.args.a (2 ^ 31) c.requires.a_small (lit< tt))
    (read_is w64 c.args.b (2 ^ 31) c.requires.b_small (lit< tt))
    c.requires.a_small c.requires.b_small (lit≤ tt) (lit< tt)

three_are : (c : goal.Start)
    → Computes w64 (read (read c.args.a +ℤ read c.args.b) +ℤ read c.args.c)
    (c.args.a +ℤ c.args.b +ℤ c.args.c) (2 ^ 33)
three_are c =
    sum_computes w64 (read (read c.args.a +ℤ read c.args.b)) (read c.args.c)
    (c.args.a +ℤ c.args.b) c.args.c (2 ^ 32) (2 ^ 31) (2 ^ 33) (two_are c).value
    (read_is w64 c.args.c (2 ^ 31) c.requires.c_small (lit< tt))
    (two_are c).small c.requires.c_small (lit≤ tt) (lit< tt)

four_are : (c : goal.Start)
    → Computes w64
    (read (read (read c.args.a +ℤ read c.args.b) +ℤ read c.args.c) +ℤ read c.args.d)
    (c.args.a +ℤ c.args.b +ℤ c.args.c +ℤ c.args.d) (2 ^ 43)
four_are c =
    sum_computes w64 (read (read (read c.args.a +ℤ read c.args.b) +ℤ read c.args.c))
    (read c.args.d) (c.args.a +ℤ c.args.b +ℤ c.args.c) c.args.d (2 ^ 33) (2 ^ 42) (2 ^ 43)
    (three_are c).value (read_is w64 c.args.d (2 ^ 42) c.requires.d_small (lit< tt))
    (three_are c).small c.requires.d_small (lit≤ tt) (lit< tt)

pub overflow_add-result : goal.overflow_add-result
overflow_add-result c = (two_are c).fits

pub overflow_add-result-2 : goal.overflow_add-result-2
overflow_add-result-2 c = (three_are c).fits

pub overflow_add-result-3 : goal.overflow_add-result-3
overflow_add-result-3 c = (four_are c).fits

pub returns-clause-value : goal.returns-clause-value
returns-clause-value c = (four_are c).value

pub returns-clause-small : goal.returns-clause-small
returns-clause-small c = computed_small _ _ _ _ (four_are c)
