use Rattle.std.proofs.Common.{◌∙◌, Bool, List, ◌++◌, ap, sym, subst, arith}
use Rattle.pm_base.specs.Held.{Held}
use Rattle.pm_base.specs.declared.log.Collapse.{Collapse}
use Rattle.pm_keeping.specs.Keeping.{kept_in}
use Rattle.pm_policies.specs.PolicyRuns.{IsEndBy, IsRunBy}
use Rattle.pm_simplify.proofs.Running.{ended_run, all_done}
use Rattle.pm_simplify.proofs.run.simplify_by.Goals as goal

pub returns : goal.returns
returns g c = record {
  run = λ p goes kept.
      let all : List Bool = c.args.kept.now in
      let empty = ap (λ (l : List Bool). l ++ all) c.new-flags.ensures.items in
      let flags = ap kept_in (sym (c.in_ok-extend_from_slice.ensures.items ∙ empty)) in
      let m = c.args.surface in
      let begun = c.in_ok-run.ensures.begun p goes (kept ∙ flags) in
      let going = c.go_on.ensures.goes_on p m begun in
      let by = going.under_way in
      let ended = all_done m by.on.after.start 4294967295 c.go_on.result _ _ by.on.after.run
      c.go_on.ensures.adds (omega arith) in
      let end = (c.go_on.ensures.end p m begun).0 ended in
      let run = ended_run p m _ _ by.begun
      (subst (λ n. IsEndBy p m n c.go_on.new.self.log.items) (sym c.go_on.ensures.target) end) in
      let target = c.go_on.ensures.target ∙ c.in_ok-run.ensures.target in
      subst (λ n. IsRunBy p m n c.into_log.result.items) target
      (subst (λ (l : Held Collapse). IsRunBy p m c.go_on.new.self.target_faces l.items)
      (sym c.into_log.ensures) run);
}
