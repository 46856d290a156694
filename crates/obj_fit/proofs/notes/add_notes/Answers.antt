use Rattle.obj_fit.specs.Texts.{account_line, face_notes, turn_notes, vertex_notes, thin_note}
use Rattle.obj_fit.specs.Texts.{last_note, warning_line, notes_text}
use Rattle.obj_fit.proofs.TextLaws.{added_seven}
use Rattle.obj_fit.proofs.notes.add_notes.Goals as goal

pub returns : goal.returns
unfolding notes_text
returns c =
    added_seven c.args.text.now.items c.add_account.new.text.items c.add_face_notes.new.text.items
    c.add_turn_notes.new.text.items c.add_vertex_notes.new.text.items c.add_thin.new.text.items
    c.add_last.new.text.items c.add_warning.new.text.items
    (account_line c.args.counts) (face_notes c.args.counts c.args.notes.now c.args.rounded)
    (turn_notes c.args.notes.now.turns) (vertex_notes c.args.notes.now)
    (thin_note c.args.counts.thin) (last_note c.args.fit.now)
    (warning_line c.args.warning)
    c.in_ok-add_account.ensures c.in_ok-add_face_notes.ensures c.in_ok-add_turn_notes.ensures
    c.in_ok-add_vertex_notes.ensures c.in_ok-add_thin.ensures c.in_ok-add_last.ensures
    c.in_ok-add_warning.ensures
