use Rattle.std.proofs.Common.{refl, ◌∙◌, ap}
use Rattle.std.proofs.lemmas.Result.{err_from_is_err_and}
use Rattle.pm_forest.specs.Fronts.{no_records}
use Rattle.pm_refine.specs.Adapting.{view_target}
use Rattle.pm_io.proofs.PutLaws.{puts_then, puts_stops, puts_same}
use Rattle.pm_demo.specs.Views.{middle_view, corner_view}
use Rattle.pm_demo.specs.Summary.{view_line, views_text}
use Rattle.pm_demo.proofs.SummaryLaws.{view_line_is, target_is}
use Rattle.pm_demo.proofs.write.put_views.Goals as goal

pub returns-in_err-show : goal.returns-in_err-show
unfolding views_text
returns-in_err-show g c =
    let p = err_from_is_err_and c.from_residual.result c.from_residual.ensures.1 in
    let h = c.args.scene.now.h in
    let n = c.args.n in
    let first = view_line_is h h _ no_records 0 _ (middle_view n) refl c.requires.base
    c.middle_view-middle.ensures in
    rw (p.1, p.2)
    (puts_stops g.K.Sink _ _ _ (view_line h (view_target h (corner_view n)) 2 (middle_view n)) _
    (puts_stops g.K.Sink _ _ _ (view_line h (view_target h (middle_view n)) 1 (corner_view n)) _
    (puts_same g.K.Sink _ _ _ _ _ first c.in_err-show.ensures.puts)))

pub returns-in_err-show-2 : goal.returns-in_err-show-2
unfolding views_text
returns-in_err-show-2 g c =
    let p = err_from_is_err_and c.from_residual-in_err-show-2.result
    c.from_residual-in_err-show-2.ensures.1 in
    let h = c.args.scene.now.h in
    let n = c.args.n in
    let first = view_line_is h h _ no_records 0 _ (middle_view n) refl c.requires.base
    c.middle_view-middle.ensures in
    let second =
    view_line_is _ h _ (view_target h (middle_view n)) 1 _ (corner_view n) c.show.ensures.hierarchy
    (c.show.ensures.after ∙ ap (view_target h) c.middle_view-middle.ensures)
    c.corner_view-corner.ensures in
    rw (p.1, p.2)
    (puts_stops g.K.Sink _ _ _ (view_line h (view_target h (corner_view n)) 2 (middle_view n)) _
    (puts_then g.K.Sink _ _ _ _ _ _ _ (puts_same g.K.Sink _ _ _ _ _ first c.in_ok-show.ensures.puts)
    (puts_same g.K.Sink _ _ _ _ _ second c.in_err-show-2.ensures.puts)))

pub returns : goal.returns
unfolding views_text
returns g c =
    let h = c.args.scene.now.h in
    let n = c.args.n in
    let first = view_line_is h h _ no_records 0 _ (middle_view n) refl c.requires.base
    c.middle_view-middle.ensures in
    let second =
    view_line_is _ h _ (view_target h (middle_view n)) 1 _ (corner_view n) c.show.ensures.hierarchy
    (c.show.ensures.after ∙ ap (view_target h) c.middle_view-middle.ensures)
    c.corner_view-corner.ensures in
    let third =
    view_line_is _ h _ (view_target h (corner_view n)) 2 _ (middle_view n)
    (c.show-2.ensures.hierarchy ∙ c.show.ensures.hierarchy)
    (c.show-2.ensures.after
    ∙ target_is _ h _ (corner_view n) c.show.ensures.hierarchy c.corner_view-corner.ensures)
    c.middle_view-middle.ensures in
    let two = puts_then g.K.Sink _ _ _ _ _ _ _
    (puts_same g.K.Sink _ _ _ _ _ first c.in_ok-show.ensures.puts)
    (puts_same g.K.Sink _ _ _ _ _ second c.in_ok-show-2.ensures.puts) in
    puts_then g.K.Sink _ _ _ _ (view_line h (view_target h (corner_view n)) 2 (middle_view n)) _
    c.show-3.result two (puts_same g.K.Sink _ _ _ _ c.show-3.result third c.show-3.ensures.puts)
