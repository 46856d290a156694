use Rattle.std.proofs.Common.{◌≡◌, ◌<◌, ℕ, List, [], length, get_or, Option, ap, ◌∙◌, arith}
use Rattle.std.proofs.lemmas.List.{get_or_read}
use Rattle.pm_candidates.proofs.NeedRows.{five_are}
use Rattle.pm_candidates.proofs.needs.NeedTable.of.Goals as goal

pub returns : goal.returns
returns c =
    let rows : List (List (Option ℕ)) = c.self.inside.rows.items in
    let row : List (Option ℕ) = c.index-row.result.now in
    let five : length row ≡ 5 = omega arith in
    let low : c.args.k < length rows = omega (arith, c.requires, ap length c.self.view_is) in
    five_are row _ _ _ _ _ _ _ _ _ _ five c.get.ensures c.get-2.ensures c.get-3.ensures
    c.get-4.ensures c.get-5.ensures
    ∙ get_or_read rows c.args.k row low c.index-row.ensures []
    ∙ ap (λ (t : List (List (Option ℕ))). get_or t c.args.k []) c.self.view_is
