use Rattle.std.proofs.Common.{◌∙◌, sym, ap, length}
use Rattle.obj_prepare.proofs.PiecesMade.{joined_cuttable, joined_placed, joined_turned_cuttable}
use Rattle.obj_prepare.proofs.preparing.cut_up.Goals as goal

pub chosen_turns-requires-clause-cuttable : goal.chosen_turns-requires-clause-cuttable
chosen_turns-requires-clause-cuttable c =
    rw c.deref-3.ensures.value
    (joined_cuttable c.args.places.now c.args.faces.now c.in_ok-names.names.items c.deref.result.now
    c.in_ok-renamed.renamed.items c.deref-2.result.now c.in_ok-stay.stay.items c.requires
    c.in_ok-names.ensures c.deref.ensures.value c.in_ok-renamed.ensures c.deref-2.ensures.value
    c.in_ok-stay.ensures)

pub chosen_turns-requires-clause-placed : goal.chosen_turns-requires-clause-placed
chosen_turns-requires-clause-placed c =
    rw c.deref-3.ensures.value
    (joined_placed c.args.places.now c.args.faces.now c.in_ok-names.names.items c.deref.result.now
    c.in_ok-renamed.renamed.items c.deref-2.result.now c.in_ok-stay.stay.items c.requires
    c.in_ok-names.ensures c.deref.ensures.value c.in_ok-renamed.ensures c.deref-2.ensures.value
    c.in_ok-stay.ensures)

pub turned-requires : goal.turned-requires
turned-requires c =
    ap length c.deref-5.ensures.value ∙ c.in_ok-turns.ensures.flags.agreeing.long
    ∙ ap length (c.deref-3.ensures.value ∙ sym c.deref-4.ensures.value)

pub split_by_fans-requires : goal.split_by_fans-requires
split_by_fans-requires c =
    rw c.deref-6.ensures.value
    (joined_turned_cuttable c.args.places.now c.args.faces.now c.in_ok-names.names.items
    c.deref.result.now c.in_ok-renamed.renamed.items c.deref-2.result.now
    c.in_ok-stay.stay.items c.deref-4.result.now c.deref-5.result.now
    c.in_ok-turned.turned.items c.requires c.in_ok-names.ensures c.deref.ensures.value
    c.in_ok-renamed.ensures c.deref-2.ensures.value c.in_ok-stay.ensures c.deref-4.ensures.value
    c.in_ok-turned.ensures)
