use Rattle.std.proofs.Common.{◌∙◌}
use Rattle.std.proofs.lemmas.Result.{err_from_is_err_and}
use Rattle.pm_io.proofs.PutLaws.{puts_then, puts_stops, puts_same}
use Rattle.pm_demo.specs.Summary.{sizes_text, hierarchy_line}
use Rattle.pm_demo.proofs.SummaryLaws.{grid_line_is}
use Rattle.pm_demo.proofs.write.put_sizes.Goals as goal

pub returns-in_err-put_all : goal.returns-in_err-put_all
unfolding sizes_text
returns-in_err-put_all g c =
    let p = err_from_is_err_and c.from_residual.result c.from_residual.ensures.1 in
    let grid = c.as_slice.ensures ∙ c.put_grid.ensures
    ∙ grid_line_is c.grids_are_sound.ensures.counted c.args.n in
    rw (p.1, p.2)
    (puts_stops g.K.Sink _ _ _ (hierarchy_line c.args.h.now) _
    (puts_same g.K.Sink _ _ _ _ _ grid c.in_err-put_all.ensures))

pub returns : goal.returns
unfolding sizes_text
returns g c =
    let grid = c.as_slice.ensures ∙ c.put_grid.ensures
    ∙ grid_line_is c.grids_are_sound.ensures.counted c.args.n in
    puts_then g.K.Sink _ _ _ _ (hierarchy_line c.args.h.now) _ c.put_all-2.result
    (puts_same g.K.Sink _ _ _ _ _ grid c.in_ok-put_all.ensures)
    (puts_same g.K.Sink _ _ _ _ c.put_all-2.result (c.as_slice-2.ensures ∙ c.put_hierarchy.ensures)
    c.put_all-2.ensures)
