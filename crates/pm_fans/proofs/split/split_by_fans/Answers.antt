use Rattle.std.proofs.Common.{◌≡◌, ◌<◌, ◌∙◌, ℕ, List, Option, length, slice_index, ap, subst, arith}
use Rattle.pm_base.specs.declared.mesh.Corners.{Corners}
use Rattle.pm_base.specs.Sides.{Net, net_of}
use Rattle.pm_fans.specs.HeadKeys.{side_of_key, AreKeyPlaces, AreRenamed}
use Rattle.pm_fans.proofs.ChainLaws.{in_table}
use Rattle.pm_fans.proofs.SplitLaws.{are_paired, heads_split}
use Rattle.pm_fans.proofs.split.split_by_fans.Goals as goal

pub chain_heads-requires : goal.chain_heads-requires
chain_heads-requires c =
    are_paired (net_of c.args.faces.now) c.in_ok-glued.glued c.requires c.in_ok-glued.ensures

pub new_faces-requires-clause-in_range : goal.new_faces-requires-clause-in_range
new_faces-requires-clause-in_range c e h is =
    let heads : List (Option ℕ) = c.in_ok-heads.heads in
    let low : h < length heads = in_table heads h h (c.in_ok-heads.ensures.headed.own e h is) in
    omega (
      arith,
      low,
      c.len.ensures.value,
      c.in_ok-places.ensures.long,
      ap length c.deref-3.ensures.value,
    )

pub returns : goal.returns
returns c =
    let m : Net = net_of c.args.faces.now in
    let glued : List (Option ℕ) = c.in_ok-glued.glued in
    let heads : List (Option ℕ) = c.in_ok-heads.heads in
    let keys : List ℕ = c.in_ok-keys.keys.items in
    let places : List ℕ = c.in_ok-places.places.items in
    let old : List ℕ = c.in_ok-old.old.items in
    let faces : List Corners = c.in_ok-faces.faces.items in
    let placed : AreKeyPlaces keys places (length heads) (length keys) =
    subst (λ n. AreKeyPlaces keys places n (length keys)) c.len.ensures.value
    (subst (λ (xs : List ℕ). AreKeyPlaces xs places c.len.result (length xs))
    c.deref.ensures.value c.in_ok-places.ensures) in
    let renamed : AreRenamed heads places m.faces faces =
    subst (λ (ps : List ℕ). AreRenamed heads ps m.faces faces) c.deref-3.ensures.value
    c.in_ok-faces.ensures in
    let long : length old ≡ length keys =
    c.in_ok-old.ensures.sides ∙ ap length c.deref-2.ensures.value in
    let backs : (i : ℕ) → i < length keys
    → slice_index old i ≡ m.from (side_of_key (slice_index keys i)) =
    subst (λ (xs : List ℕ). (i : ℕ) → i < length xs
    → slice_index old i ≡ m.from (side_of_key (slice_index xs i))) c.deref-2.ensures.value
    c.in_ok-old.ensures.each in
    heads_split m glued heads keys places faces c.requires c.in_ok-glued.ensures
    c.in_ok-heads.ensures c.in_ok-keys.ensures placed renamed old long backs
