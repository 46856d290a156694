use Rattle.std.specs.Prelude.{codes}
use Rattle.obj_fit.specs.Texts.{in_out_text, account_text}
use Rattle.obj_fit.proofs.TextLaws.{added_three}
use Rattle.obj_fit.proofs.account.add_account_text.Goals as goal

pub returns : goal.returns
unfolding account_text
returns c =
    added_three c.args.text.now.items c.add_in_out.new.text.items c.add_in_out-2.new.text.items
    c.extend_from_slice.new.self.items
    (in_out_text (codes "prepare: vertices ") c.args.counts.vertices_in
    c.args.counts.vertices_out)
    (in_out_text (codes "; triangles ") c.args.counts.triangles_in
    c.args.counts.triangles_out) (codes "\n")
    c.in_ok-add_in_out.ensures c.in_ok-add_in_out-2.ensures c.in_ok-extend_from_slice.ensures.items
