use Rattle.std.proofs.Common.{◌≡◌, OnOk, IfSome, refl, sym, ◌∙◌, subst}
use Rattle.pm_commands.specs.declared.asked.Border.TheVariants as borders
use Rattle.pm_commands.specs.declared.asked.Asked.TheVariants as asked
use Rattle.pm_commands.specs.Simplified.{IsSimplifiedText}
use Rattle.pm_commands.specs.Outcome.{GivesMeshBack}
use Rattle.pm_commands.specs.Frames.{ShowsSurfacesOf}
use Rattle.pm_commands.specs.Borders.{FramesShowBorder}
use Rattle.pm_commands.proofs.SimplifiedLaws.{same_simplify}
use Rattle.pm_commands.specs.Ending.{ReadToPlace}
use Rattle.pm_commands.proofs.OutcomeLaws.{canon_to_place, build_to_place, simplify_to_place}
use Rattle.pm_commands.proofs.OutcomeLaws.{expand_to_place, check_to_place, demo_to_place}
use Rattle.pm_commands.proofs.dispatch.obey.Goals as goal

pub returns-in-Canon-clause-read_to_place : goal.returns-in-Canon-clause-read_to_place
returns-in-Canon-clause-read_to_place g c =
    subst (λ a. OnOk c.canon.result
    (ReadToPlace a (g.S.Source.left c.args.input.now) (g.S.Source.left c.canon.new.input)))
    (sym c.in-Canon.is)
    (canon_to_place c.in-Canon.digits c.canon.result _ _ _ _ c.canon.ensures.ends)

pub returns-in-Build-clause-read_to_place : goal.returns-in-Build-clause-read_to_place
returns-in-Build-clause-read_to_place g c =
    subst (λ a. OnOk c.build.result
    (ReadToPlace a (g.S.Source.left c.args.input.now) (g.S.Source.left c.build.new.input)))
    (sym c.in-Build.is)
    (build_to_place c.in-Build.target c.in-Build.digits c.build.result _ _ _ _ c.build.ensures.ends)

pub returns-in-Expand-clause-read_to_place : goal.returns-in-Expand-clause-read_to_place
returns-in-Expand-clause-read_to_place g c =
    subst (λ a. OnOk c.expand.result
    (ReadToPlace a (g.S.Source.left c.args.input.now) (g.S.Source.left c.expand.new.input)))
    (sym c.in-Expand.is)
    (expand_to_place c.expand.result _ _ _ _ c.expand.ensures.ends)

pub returns-in-Check-clause-read_to_place : goal.returns-in-Check-clause-read_to_place
returns-in-Check-clause-read_to_place g c =
    subst (λ a. OnOk c.check.result
    (ReadToPlace a (g.S.Source.left c.args.input.now) (g.S.Source.left c.check.new.input)))
    (sym c.in-Check.is)
    (check_to_place c.check.result _ _ _ _ c.check.ensures.ends)

pub returns-in-Demo-clause-read_to_place : goal.returns-in-Demo-clause-read_to_place
returns-in-Demo-clause-read_to_place g c =
    subst (λ a. OnOk c.summarize.result
    (ReadToPlace a (g.S.Source.left c.args.input.now) (g.S.Source.left c.args.input.now)))
    (sym c.in-Demo.is)
    (demo_to_place c.in-Demo.n c.summarize.result (g.S.Source.left c.args.input.now))

pub returns-in-Simplify-clause-read_to_place : goal.returns-in-Simplify-clause-read_to_place
returns-in-Simplify-clause-read_to_place g c =
    subst (λ a. OnOk c.simplify.result
    (ReadToPlace a (g.S.Source.left c.args.input.now) (g.S.Source.left c.simplify.new.input)))
    (sym c.in-Simplify.is)
    (simplify_to_place c.in-Simplify.target c.in-Simplify.digits c.in-Simplify.border
    c.simplify.result _ _ _ _ c.simplify.ensures.ends)

pub returns-in-Simplify-clause-simplified_back : goal.returns-in-Simplify-clause-simplified_back
returns-in-Simplify-clause-simplified_back g c = λ target digits border is.
    same_simplify
    (λ b t d. OnOk c.simplify.result
    (IfSome (g.S.Source.left c.args.input.now)
    (λ bytes. GivesMeshBack (asked.Simplify t d b) bytes (g.K.Sink.got c.args.out.now)
    (g.K.Sink.got c.simplify.new.out))))
    c.in-Simplify.border border c.in-Simplify.target target c.in-Simplify.digits digits
    (sym c.in-Simplify.is ∙ is) c.simplify.ensures.gives_back

pub returns-in-Simplify-clause-simplified_surfaces :
    goal.returns-in-Simplify-clause-simplified_surfaces
returns-in-Simplify-clause-simplified_surfaces g c = λ target digits border is.
    same_simplify
    (λ b t d. OnOk c.simplify.result
    (IfSome (g.S.Source.left c.args.input.now)
    (λ bytes. ShowsSurfacesOf (IsSimplifiedText b t d) d bytes (g.K.Sink.got c.args.out.now)
    (g.K.Sink.got c.simplify.new.out))))
    c.in-Simplify.border border c.in-Simplify.target target c.in-Simplify.digits digits
    (sym c.in-Simplify.is ∙ is) c.simplify.ensures.surfaces

pub returns-in-Simplify-clause-meets : goal.returns-in-Simplify-clause-meets
returns-in-Simplify-clause-meets g c = λ target digits is.
    same_simplify (λ b t d. b ≡ borders.Kept
    → OnOk c.simplify.result
    (IfSome (g.S.Source.left c.args.input.now)
    (λ bytes. FramesShowBorder t d bytes (g.K.Sink.got c.args.out.now)
    (g.K.Sink.got c.simplify.new.out))))
    c.in-Simplify.border borders.Kept c.in-Simplify.target target c.in-Simplify.digits digits
    (sym c.in-Simplify.is ∙ is) c.simplify.ensures.meets refl
