use Rattle.std.proofs.Common.{rules, ◌≡◌, ℕ, Some, true, List, ◌∷◌, sym, ap, ◌∙◌}
use Rattle.pm_links.specs.Lists.{list_of, has, first_of, after, rest_of_walk}
use Rattle.pm_links.proofs.Walking.{rest_next, held_next}
use Rattle.pm_links.proofs.items.ItemsIterator.next.Goals as goal

-- the list that is left, one item on
step : (c : goal.After-self-1) → (c.next-self-inside.result ≡ first_of
    (after c.in_ok-item.item (list_of c.self.inside.links.now c.self.inside.head)))
    × (c.args.self.now ≡ c.in_ok-item.item ∷ rest_of_walk c.next-self-inside.result
    (list_of c.self.inside.links.now c.self.inside.head))
step c =
    let l : List ℕ = list_of c.self.inside.links.now c.self.inside.head in
    let was : c.self.inside.cursor ≡ Some c.in_ok-item.item = c.in_ok-item.was {u = tt} in
    let held : has l c.in_ok-item.item ≡ true = rw was at c.self.invariant in
    let next_is = c.next-self-inside.ensures.value c.self.inside.head held in
    let left : rest_of_walk c.next-self-inside.result l ≡ after c.in_ok-item.item l
    = ap (λ k. rest_of_walk k l) next_is ∙ rest_next l c.in_ok-item.item
    (c.next-self-inside.ensures.sound.once c.self.inside.head) held in (
      next_is,
      sym c.self.view_is ∙ ap (λ k. rest_of_walk k l) was
          ∙ ap (λ k. c.in_ok-item.item ∷ k) (sym left),
    )

pub invariant_of-self : goal.invariant_of-self
invariant_of-self c = rw (step c).0 (held_next c.in_ok-item.item
    (list_of c.self.inside.links.now c.self.inside.head))

pub returns-clause-steps : goal.returns-clause-steps
returns-clause-steps c = (step c).1

pub returns-clause-goes : goal.returns-clause-goes
returns-clause-goes c = rw (step c).1 (search rules)
