use Rattle.std.proofs.Common.{◌≡◌, ℕ, None, sym, ap, ◌∙◌, subst}
use Rattle.std.specs.Option.{MatchOption, option_map}
use Rattle.pm_base.specs.declared.ids.Side.{Side}
use Rattle.pm_base.specs.Sides.{Net, net_of, beside_side}
use Rattle.pm_turn.specs.Turning.{AreMates}
use Rattle.pm_turn.specs.Unions.{elders_of}
use Rattle.pm_turn.proofs.JoinedSides.{none_more}
use Rattle.pm_turn.proofs.patches.join_side.Goals as goal

pub returns-in-None-clause-one_more : goal.returns-in-None-clause-one_more
returns-in-None-clause-one_more c =
    let m : Net = net_of c.args.faces.now in
    let p = c.args.p.now in
    let e : ℕ = c.args.side.0 in
    let bare : beside_side c.args.mates.now e ≡ None =
    sym c.get.ensures ∙ ap (option_map (λ (s : Side). s.0)) c.in-None.is in
    none_more m e (elders_of p.elders.items p.parities.items p.odd.items) c.requires.so_far
    (subst (λ o. MatchOption o ((k : ℕ) → AreMates m e k → ⊥) (λ k. AreMates m e k)) bare
    (c.requires.mated.each e c.requires.in_range))
