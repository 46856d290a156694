use Rattle.std.proofs.Common.{◌≡◌, ◌+◌, ◌≤◌, length, take, sym, ◌∙◌, ap, refl, arith}
use Rattle.std.proofs.Common.{length-take-le}
use Rattle.std.proofs.lemmas.Bool.Decides.{nat_tests}
use Rattle.std.proofs.lemmas.Result.{err_from_is_err_and}
use Rattle.obj_lines.specs.Feeding.{is_line}
use Rattle.obj_lines.proofs.FedLaws.{whole}
use Rattle.obj_lines.proofs.StepLaws.{past, long, partial_between, partial_stands}
use Rattle.obj_lines.proofs.StepLaws.{whole_between, whole_stands, line_refused}
use Rattle.obj_lines.proofs.piece.take_piece.Goals as goal

pub returns-then-room-eq0-clause-err : goal.returns-then-room-eq0-clause-err
returns-then-room-eq0-clause-err g c = λ h all left now stands.
    past all _ left c.args.piece.now _ _ _ stands refl c.requires.between.clean
    c.requires.between.short (grind (arith, nat_tests)) c.requires.some c.too_many.ensures

pub take_line-requires-clause-line : goal.take_line-requires-clause-line
take_line-requires-clause-line g c = ap (λ x. is_line x.state) c.feed-fed.ensures.value
    ∙ (whole _ _ _ c.feed-fed.ensures.state c.in-Whole.is).line

pub returns-in_err-take_line-in-Whole-clause-err : goal.returns-in_err-take_line-in-Whole-clause-err
returns-in_err-take_line-in-Whole-clause-err g c =
    let p = err_from_is_err_and c.from_residual.result c.from_residual.ensures.1 in
    let le : c.min.result ≤ length c.args.piece.now = omega (arith, c.min.ensures) in
    let most : c.args.progress.now.taken + c.min.result ≤ 1073741824 =
    omega (arith, c.min.ensures, c.requires.between.room) in
    rw (p.1, p.2) (λ h all left now stands. line_refused all _ left now c.args.piece.now
    c.min.result _ _ c.args.progress.now _ _ _ c.in_err-take_line-in-Whole.field-0.0 stands refl
    c.feed-fed.ensures.state c.in-Whole.is c.feed-fed.ensures.value c.feed-fed.ensures.used le
    c.requires.between.clean c.requires.between.at most
    c.in_err-take_line-in-Whole.ensures.fault)

pub returns-in-Partial-clause-between : goal.returns-in-Partial-clause-between
returns-in-Partial-clause-between g c =
    let le : c.min.result ≤ length c.args.piece.now = omega (arith, c.min.ensures) in
    let most : c.args.progress.now.taken + c.min.result ≤ 1073741824 =
    omega (arith, c.min.ensures, c.requires.between.room) in
    let all : length (take c.min.result c.args.piece.now) ≡ c.min.result =
    length-take-le c.min.result c.args.piece.now le in
    partial_between c.args.lines.now _ (take c.min.result c.args.piece.now) c.args.progress.now _ _
    c.requires.between (sym c.feed-fed.ensures.state ∙ c.in-Partial.is)
    c.feed-fed.ensures.value c.feed-fed.ensures.used (omega (arith, all, most)) refl refl refl

pub returns-in-Partial-clause-reads_on : goal.returns-in-Partial-clause-reads_on
returns-in-Partial-clause-reads_on g c = λ h all left stands.
    let le : c.min.result ≤ length c.args.piece.now = omega (arith, c.min.ensures) in
    partial_stands all _ left c.args.piece.now _ _ c.min.result _ _ c.args.lines.now _ stands
    refl (sym c.feed-fed.ensures.state ∙ c.in-Partial.is)
    c.feed-fed.ensures.value c.feed-fed.ensures.used le refl refl

pub returns-in-TooLong-clause-err : goal.returns-in-TooLong-clause-err
returns-in-TooLong-clause-err g c = λ h all left now stands.
    let le : c.min.result ≤ length c.args.piece.now = omega (arith, c.min.ensures) in
    let most : c.args.progress.now.taken + c.min.result ≤ 1073741824 =
    omega (arith, c.min.ensures, c.requires.between.room) in
    long all _ left c.args.piece.now c.min.result _ c.args.lines.now _ stands refl
    (sym c.feed-fed.ensures.state ∙ c.in-TooLong.is) c.requires.between.clean le
    (omega (arith, most, c.requires.between.at)) c.too_long.ensures

pub returns-in_ok-take_line-in-Whole-clause-between :
    goal.returns-in_ok-take_line-in-Whole-clause-between
returns-in_ok-take_line-in-Whole-clause-between g c =
    let le : c.min.result ≤ length c.args.piece.now = omega (arith, c.min.ensures) in
    let most : c.args.progress.now.taken + c.min.result ≤ 1073741824 =
    omega (arith, c.min.ensures, c.requires.between.room) in
    let all : length (take c.min.result c.args.piece.now) ≡ c.min.result =
    length-take-le c.min.result c.args.piece.now le in
    whole_between c.args.lines.now _ (take c.min.result c.args.piece.now) _ c.args.progress.now _ _
    c.requires.between c.feed-fed.ensures.state c.in-Whole.is
    c.feed-fed.ensures.value c.feed-fed.ensures.used (omega (arith, all, most)) refl refl refl

pub returns-in_ok-take_line-in-Whole-clause-reads_on :
    goal.returns-in_ok-take_line-in-Whole-clause-reads_on
returns-in_ok-take_line-in-Whole-clause-reads_on g c = λ h all left stands.
    let le : c.min.result ≤ length c.args.piece.now = omega (arith, c.min.ensures) in
    let most : c.args.progress.now.taken + c.min.result ≤ 1073741824 =
    omega (arith, c.min.ensures, c.requires.between.room) in
    whole_stands all _ left c.args.piece.now _ _ c.min.result _ _ _ c.args.progress.now _ _
    c.args.lines.now _ _ stands refl c.feed-fed.ensures.state c.in-Whole.is
    c.feed-fed.ensures.value c.feed-fed.ensures.used le refl refl
    c.requires.between.clean c.requires.between.at most
    c.in_ok-take_line-in-Whole.ensures.ok refl refl
