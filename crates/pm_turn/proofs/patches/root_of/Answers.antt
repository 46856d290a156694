use Rattle.std.proofs.Common.{◌≡◌, ◌≢◌, ℕ, ◌<◌, Bool, List, false, length, sym, ap, ◌∙◌, subst}
use Rattle.std.proofs.Common.{arith}
use Rattle.std.proofs.lemmas.List.{get_or_read}
use Rattle.pm_turn.specs.Turning.{flipped_if}
use Rattle.pm_turn.specs.Unions.{top, AreTables, elders_of}
use Rattle.pm_turn.proofs.Shortening.{shorter_on, rise_on}
use Rattle.pm_turn.proofs.patches.root_of.Goals as goal

pub loop-at-preserved : goal.loop-at-preserved
loop-at-preserved c =
    let o = elders_of c.args.p.now.elders.items c.args.p.now.parities.items
    c.args.p.now.odd.items in
    let s = elders_of c.loop-at.p.elders.items c.loop-at.p.parities.items c.loop-at.p.odd.items in
    let es : List ℕ = c.shorten.new.p.elders.items in
    let ps : List Bool = c.shorten.new.p.parities.items in
    let os : List Bool = c.shorten.new.p.odd.items in
    let t = elders_of es ps os in
    let at : ℕ = c.loop-at.at in
    let inv = c.loop-at.invariant in
    let in_range = inv.in_range in
    let same : length c.loop-at.p.elders.items ≡ length c.args.p.now.elders.items =
    inv.tables.elders_long in
    let after = c.shorten.ensures.tables in
    let sl : at < length c.loop-at.p.elders.items = omega (arith, same, in_range) in
    let el : at < length es = subst (λ n. at < n) (sym after.elders_long) sl in
    let pl : at < length ps = subst (λ n. at < n) (sym after.parities_long) sl in
    let test : c.index.result.now ≡ s.elder at =
    get_or_read c.loop-at.p.elders.items at c.index.result.now sl c.index.ensures 0 in
    let apart : s.elder at ≢ at = λ is. c.loop-at-test.true (test ∙ is) in
    let next : c.index-at.result.now ≡ t.elder at =
    get_or_read es at c.index-at.result.now el c.index-at.ensures 0 in
    let par : c.index-in-loop-at.result.now ≡ t.parity at =
    get_or_read ps at c.index-in-loop-at.result.now pl c.index-in-loop-at.ensures false in
    let more : c.flipped_if-parity.result ≡ flipped_if (t.parity at) c.loop-at.parity =
    c.flipped_if-parity.ensures ∙ ap (λ (b : Bool). flipped_if b c.loop-at.parity) par in
    let below = c.shorten.ensures.shorter.low inv.below in
    let down = below at in
    record {
      in_range = omega (arith, next, down, in_range);
      tables = subst (λ n. AreTables n es ps os) same after;
      shorter = shorter_on o s t inv.shorter c.shorten.ensures.shorter;
      below = below;
      rise = rise_on s t c.args.face at c.index-at.result.now c.loop-at.parity
          c.flipped_if-parity.result c.shorten.ensures.shorter apart inv.rise next more;
    }

pub returns-clause-root : goal.returns-clause-root
returns-clause-root c =
    let s = elders_of c.loop-at.p.elders.items c.loop-at.p.parities.items c.loop-at.p.odd.items in
    let at : ℕ = c.loop-at.at in
    let inv = c.loop-at.invariant in
    let in_range = inv.in_range in
    let same : length c.loop-at.p.elders.items ≡ length c.args.p.now.elders.items =
    inv.tables.elders_long in
    let sl : at < length c.loop-at.p.elders.items = omega (arith, same, in_range) in
    let test : c.index.result.now ≡ s.elder at =
    get_or_read c.loop-at.p.elders.items at c.index.result.now sl c.index.ensures 0 in
    inv.rise at false (top (sym test ∙ c.loop-at-test.false))
