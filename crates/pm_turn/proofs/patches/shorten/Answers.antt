use Rattle.std.proofs.Common.{◌≡◌, ◌≢◌, ℕ, ◌<◌, Bool, List, false, length, sym, ap, ◌∙◌, subst}
use Rattle.std.proofs.Common.{arith}
use Rattle.std.proofs.lemmas.List.{get_or_read}
use Rattle.pm_turn.specs.Turning.{flipped_if}
use Rattle.pm_turn.specs.Unions.{AreShorter, elders_of}
use Rattle.pm_turn.proofs.Shortening.{halved_shorter, tables_halved}
use Rattle.pm_turn.proofs.patches.shorten.Goals as goal

pub returns-then-next-elder-clause-shorter : goal.returns-then-next-elder-clause-shorter
returns-then-next-elder-clause-shorter c =
    let es : List ℕ = c.args.p.now.elders.items in
    let ps : List Bool = c.args.p.now.parities.items in
    let os : List Bool = c.args.p.now.odd.items in
    let t = elders_of es ps os in
    let f : ℕ = c.args.face in
    let low = c.requires.below f in
    let fl : f < length es = c.requires.in_range in
    let pl : f < length ps = subst (λ n. f < n) (sym c.requires.tables.parities_long) fl in
    let elder : c.index-elder.result.now ≡ t.elder f =
    get_or_read es f c.index-elder.result.now fl c.index-elder.ensures 0 in
    let el : c.index-elder.result.now < length es = omega (arith, elder, low, fl) in
    let pel : c.index-elder.result.now < length ps =
    subst (λ n. c.index-elder.result.now < n) (sym c.requires.tables.parities_long) el in
    let next : c.index-next.result.now ≡ t.elder (t.elder f) =
    get_or_read es c.index-elder.result.now c.index-next.result.now el c.index-next.ensures 0
    ∙ ap t.elder elder in
    let one : c.index.result.now ≡ t.parity (t.elder f) =
    get_or_read ps c.index-elder.result.now c.index.result.now pel c.index.ensures false
    ∙ ap t.parity elder in
    let two : c.index-then-next-elder.result.now ≡ t.parity f =
    get_or_read ps f c.index-then-next-elder.result.now pl c.index-then-next-elder.ensures
    false in
    let odd : c.flipped_if-parity.result ≡ flipped_if (t.parity (t.elder f)) (t.parity f) =
    c.flipped_if-parity.ensures ∙ ap (λ (b : Bool). flipped_if b c.index-then-next-elder.result.now)
    one ∙ ap (flipped_if (t.parity (t.elder f))) two in
    let far : t.elder (t.elder f) ≢ t.elder f =
    λ is. c.if-next-elder.true (next ∙ is ∙ sym elder) in
    subst (AreShorter t)
    (sym (tables_halved es ps os f c.index-next.result.now c.flipped_if-parity.result fl pl next
    odd))
    (halved_shorter t f c.requires.apart far c.requires.below)
