use Rattle.std.proofs.Common.{◌∙◌, arith}
use Rattle.obj_scan.proofs.ScanLaws.{without_last}
use Rattle.obj_scan.proofs.scanner.join_continued.Goals as goal

pub returns : goal.returns
returns c =
    c.in_ok-push.ensures.items
    ∙ without_last c.args.begun.now.items c.args.text.now c.extend_from_slice.new.self.items
    c.saturating_sub-most.result c.requires.continued
    (omega (arith, c.saturating_sub-most.ensures)) c.in_ok-extend_from_slice.ensures.items
