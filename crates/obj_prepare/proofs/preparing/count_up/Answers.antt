use Rattle.std.proofs.Common.{◌≡◌, length, sym, ◌∙◌, ap, arith}
use Rattle.pm_base.specs.Counts.{count}
use Rattle.pm_base.proofs.Counts.{count_le}
use Rattle.obj_prepare.specs.Named.{is_some_corner, named_in}
use Rattle.obj_prepare.proofs.PiecesMade.{pieces_names, pieces_stay, pieces_told, pieces_cuttable}
use Rattle.obj_prepare.proofs.PiecesMade.{pieces_few}
use Rattle.obj_prepare.proofs.NamedLaws.{length-named_in}
use Rattle.obj_prepare.proofs.CountLaws.{counted_joined, counted_flat, counted_double, counted_cut}
use Rattle.obj_prepare.proofs.CountLaws.{counted_split, counted_unnamed, counted_gone}
use Rattle.obj_prepare.proofs.CountLaws.{counted_set, flat_and_staying}
use Rattle.obj_prepare.proofs.preparing.count_up.Goals as goal

pub named-requires-2 : goal.named-requires-2
named-requires-2 c = rw c.deref.ensures.value (pieces_stay c.requires.within c.requires.pieces)

pub overflow_sub-result : goal.overflow_sub-result
overflow_sub-result c =
    let p = c.requires.pieces in
    let flat = counted_flat _ _ _ _ _ p.renamed_is c.deref-2.ensures.value c.count_flat-flat.ensures
    in
    omega (arith, flat, flat_and_staying c.args.p.now.names.items c.args.faces.now)

pub overflow_cast-result-2 : goal.overflow_cast-result-2
overflow_cast-result-2 c = omega
    (arith, c.len.ensures, (pieces_stay c.requires.within c.requires.pieces).faces_few)

pub overflow_sub-result-2 : goal.overflow_sub-result-2
overflow_sub-result-2 c =
    let p = c.requires.pieces in
    let flat = counted_flat _ _ _ _ _ p.renamed_is c.deref-2.ensures.value c.count_flat-flat.ensures
    in
    omega (
      arith,
      flat,
      ap length p.stay_is,
      c.len.ensures,
      flat_and_staying c.args.p.now.names.items c.args.faces.now,
    )

pub overflow_sub-result-3 : goal.overflow_sub-result-3
overflow_sub-result-3 c =
    let after = c.in_ok-after.ensures
    ∙ ap (λ fs. named_in fs (length c.args.places.now)) c.deref.ensures.value in
    let set : c.count_set.result
    ≡ count (is_some_corner c.args.p.now.stay.items) (length c.args.places.now) =
    counted_set _ _ _ _ _ after c.deref-6.ensures.value c.count_set.ensures in
    omega (arith, c.len-2.ensures, set, pieces_few c.requires.within c.requires.pieces)

pub overflow_sub-result-4 : goal.overflow_sub-result-4
overflow_sub-result-4 c =
    let named = is_some_corner c.args.faces.now in
    let vertices = length c.args.places.now in
    let set : c.count_set-2.result ≡ count named vertices =
    counted_set _ _ _ _ _ c.in_ok-before.ensures c.deref-7.ensures.value c.count_set-2.ensures in
    omega (arith, set, count_le named vertices)

pub count_joined-requires-clause-both : goal.count_joined-requires-clause-both
count_joined-requires-clause-both c =
    let flags = ap length (c.deref-3.ensures.value ∙ c.in_ok-before.ensures)
    ∙ length-named_in c.args.faces.now (length c.args.places.now) in
    flags ∙ sym (ap length c.deref-4.ensures.value
    ∙ pieces_names c.requires.within c.requires.pieces)

pub count_set-requires : goal.count_set-requires
count_set-requires c =
    let flags = ap length (c.deref-6.ensures.value ∙ c.in_ok-after.ensures)
    ∙ length-named_in c.deref.result.now (length c.args.places.now) in
    omega (arith, flags, c.requires.within.vertices_few)

pub count_set-requires-2 : goal.count_set-requires-2
count_set-requires-2 c =
    let flags = ap length (c.deref-7.ensures.value ∙ c.in_ok-before.ensures)
    ∙ length-named_in c.args.faces.now (length c.args.places.now) in
    omega (arith, flags, c.requires.within.vertices_few)

pub count_gone-requires-clause-both : goal.count_gone-requires-clause-both
count_gone-requires-clause-both c =
    let flags = ap length (c.deref-8.ensures.value ∙ c.in_ok-before.ensures)
    ∙ length-named_in c.args.faces.now (length c.args.places.now) in
    flags ∙ sym (ap length c.deref-9.ensures.value
    ∙ pieces_names c.requires.within c.requires.pieces)

pub count_gone-requires-clause-as_many : goal.count_gone-requires-clause-as_many
count_gone-requires-clause-as_many c =
    let flags = ap length (c.deref-10.ensures.value ∙ c.in_ok-after.ensures)
    ∙ length-named_in c.deref.result.now (length c.args.places.now) in
    flags ∙ sym (ap length c.deref-9.ensures.value
    ∙ pieces_names c.requires.within c.requires.pieces)

pub cut_sides-requires : goal.cut_sides-requires
cut_sides-requires c = rw c.deref-5.ensures.value
    (pieces_cuttable c.requires.within c.requires.pieces)

pub returns : goal.returns
returns c =
    let p = c.requires.pieces in
    let len = pieces_names c.requires.within p in
    let flat = counted_flat _ _ _ _ _ p.renamed_is c.deref-2.ensures.value c.count_flat-flat.ensures
    in
    let after = c.in_ok-after.ensures
    ∙ ap (λ fs. named_in fs (length c.args.places.now)) c.deref.ensures.value in
    record {
      joined = counted_joined _ _ _ _ _ _ _ len c.in_ok-before.ensures c.deref-3.ensures.value
          c.deref-4.ensures.value c.count_joined.ensures;
      flat = flat;
      double = counted_double _ _ _ _ _ flat p.stay_is
          (omega (arith, c.len.ensures));
      turns = pieces_told c.requires.within p;
      cut = counted_cut _ _ _ _ _ _ _ p.stay_is p.turned_is c.deref-5.ensures.value
          c.in_ok-cut_sides.ensures;
      split = counted_split _ _ _ _ _ _ _ _ _ len p.stay_is after c.deref-6.ensures.value
          c.count_set.ensures (omega (arith, c.len-2.ensures));
      unnamed = counted_unnamed _ _ _ _ _ _ c.in_ok-before.ensures c.deref-7.ensures.value
          c.count_set-2.ensures (omega arith);
      gone = counted_gone _ _ _ _ _ _ _ _ _ _ len p.stay_is c.in_ok-before.ensures after
          c.deref-8.ensures.value c.deref-9.ensures.value c.deref-10.ensures.value
          c.count_gone.ensures;
    }
