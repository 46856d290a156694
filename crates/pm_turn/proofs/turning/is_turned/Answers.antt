use Rattle.std.proofs.Common.{◌<◌, Bool, false, length, sym, ap, ◌∙◌, subst}
use Rattle.std.proofs.lemmas.List.{get_or_read}
use Rattle.pm_turn.specs.Turning.{flag_with}
use Rattle.pm_turn.proofs.turning.is_turned.Goals as goal

pub returns-clause-flag : goal.returns-clause-flag
returns-clause-flag c =
    let root = c.root_of-root.result in
    let p = c.root_of-root.new.p in
    let low : root.face < length p.odd.items =
    subst (λ n. root.face < n) (sym c.root_of-root.ensures.tables.odd_long)
    c.root_of-root.ensures.low in
    record {
      root = root.face;
      parity = root.parity;
      way = c.root_of-root.ensures.root;
      is = c.flag.ensures
          ∙ ap (λ (b : Bool). flag_with b root.parity)
          (get_or_read p.odd.items root.face c.index.result.now low c.index.ensures false);
    }
