use Rattle.std.proofs.Common.{◌≡◌, ℕ, ◌+◌, ◌<◌, true, [], length, get_or, arith, sym, ◌∙◌}
use Rattle.pm_links.specs.Arena.{lists_of}
use Rattle.pm_links.specs.Lists.{has}
use Rattle.pm_links.proofs.Outside.{head_out}
use Rattle.pm_links.proofs.Walks.{sound, walk_ring}
use Rattle.pm_links.proofs.links.Links.gather.Goals as goal

pub copy_ends-requires : goal.copy_ends-requires
copy_ends-requires c =
    let a = c.self.invariant in
    let h : ℕ = c.args.head in
    let low : h < c.self.inside.heads = rw (← c.self.view_is, a.heads) at c.requires in
    let lists = lists_of c.self.inside.items c.self.inside.heads c.self.inside.next.items in
    let nodes = a.prev_len ∙ sym a.next_len in
    let node_in : c.self.inside.items + h < length c.self.inside.next.items =
    omega (arith, a.next_len, low) in
    let items_in : (x : ℕ) → has (get_or lists h []) x ≡ true
    → x < length c.self.inside.next.items =
    λ x i. omega (arith, a.in_range h x low i, a.next_len) in
    rw (c.deref.ensures.value, c.deref-2.ensures.value, walk_ring a h low)
    (nodes, (node_in, (a.linked h low, (a.once h low, (head_out a h low, items_in)))))

pub returns : goal.returns
returns c =
    let a = c.self.invariant in
    let low : c.args.head < c.self.inside.heads = rw (← c.self.view_is, a.heads) at c.requires in
    let copied = rw (c.deref.ensures.value, walk_ring a c.args.head low) at c.copy_ends.ensures in
    rw (← c.self.view_is) (record {
      len = copied.len;
      front = copied.front;
      back = copied.back;
      first = copied.first;
      all = copied.all;
      more = copied.more;
      sound = sound a;
    })
