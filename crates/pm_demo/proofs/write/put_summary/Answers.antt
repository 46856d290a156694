use Rattle.std.proofs.Common.{◌++◌, ap}
use Rattle.pm_io.proofs.Known.{gains_both, part_more, part_after}
use Rattle.pm_demo.specs.Summary.{sizes_text, views_text}
use Rattle.pm_demo.proofs.SummaryLaws.{summary_is, gains_same, part_same}
use Rattle.pm_demo.proofs.write.put_summary.Goals as goal

pub returns-in-Err-clause-ends : goal.returns-in-Err-clause-ends
returns-in-Err-clause-ends g c =
    let h = c.args.scene.now.h in
    let n = c.args.n in
    record {
      text = sizes_text n h ++ views_text n h;
      summary = summary_is n h c.requires.of_grid;
      part = part_more _ _ _ (views_text n h)
          (part_same _ _ _ _ (ap (sizes_text n) c.hierarchy.ensures) c.in-Err.ensures.err);
    }

pub returns-in-Ok-clause-ends : goal.returns-in-Ok-clause-ends
returns-in-Ok-clause-ends g c =
    let h = c.args.scene.now.h in
    let n = c.args.n in
    record {
      text = sizes_text n h ++ views_text n h;
      summary = summary_is n h c.requires.of_grid;
      gained = gains_both _ _ _ _ _
          (gains_same _ _ _ _ (ap (sizes_text n) c.hierarchy.ensures) c.in_default.ensures.ok)
          c.in-Ok.ensures.ok;
    }

pub returns-in-Err-put_views-clause-ends : goal.returns-in-Err-put_views-clause-ends
returns-in-Err-put_views-clause-ends g c =
    let h = c.args.scene.now.h in
    let n = c.args.n in
    record {
      text = sizes_text n h ++ views_text n h;
      summary = summary_is n h c.requires.of_grid;
      part = part_after _ _ _ _ _
          (gains_same _ _ _ _ (ap (sizes_text n) c.hierarchy.ensures) c.in_default.ensures.ok)
          c.in-Err-put_views.ensures.err;
    }
