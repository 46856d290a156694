use Rattle.std.proofs.Common.{◌∙◌, sym, arith, subst}
use Rattle.pm_format.specs.Words.{IsBytes}
use Rattle.pm_format.specs.Standing.{JudgesHeader, HasFaultAlready}
use Rattle.pm_format.proofs.MemoryLaws.{header_no_memory}
use Rattle.pm_format.proofs.StandLaws.{magic_refused}
use Rattle.pm_format.proofs.HeaderSizes.{header_long}
use Rattle.pm_format.proofs.HeaderLaws.{stopped_header, units_header, counts_refused}
use Rattle.pm_format.proofs.header.judge_header.Goals as goal

pub returns-then-is_magic_bad : goal.returns-then-is_magic_bad
returns-then-is_magic_bad c =
    record {
      judged =
          magic_refused c.args.bytes.now (sym c.is_magic_bad.ensures ∙ c.if-is_magic_bad.true);
      memory =
          λ is. absurd cc;
    }

pub returns-in-Ok-new : goal.returns-in-Ok-new
returns-in-Ok-new c =
    let are_bytes : IsBytes c.args.bytes.now = λ i. omega (arith, c.type_inv.bytes i) in
    record {
      judged = units_header c.args.bytes.now c.new-words.result c.take_header.new.words
          c.in-Ok.header.digits c.in-Ok.header.counts c.in-Ok-new.shaper are_bytes c.requires.short
          c.new-words.ensures
          (sym c.is_magic_bad.ensures ∙ c.if-is_magic_bad.false) c.in-Ok.ensures.header
          c.in-Ok.ensures.digits c.in-Ok.ensures.few c.in-Ok-new.ensures.ok;
      memory = λ is. absurd cc;
    }

pub returns-in-Err : goal.returns-in-Err
returns-in-Err c =
    record {
      judged = subst (λ stage. JudgesHeader c.args.bytes.now stage) (sym c.stopped.ensures)
          (stopped_header c.args.bytes.now c.new-words.result c.in-Err.stop c.new-words.ensures
          (sym c.is_magic_bad.ensures ∙ c.if-is_magic_bad.false) c.in-Err.ensures.header);
      memory = λ is. absurd
          (header_no_memory c.new-words.result c.in-Err.stop c.in-Err.ensures.header
          (sym c.stopped.ensures ∙ is));
    }

pub returns-in-Err-new : goal.returns-in-Err-new
returns-in-Err-new c =
    record {
      judged = subst (λ e. HasFaultAlready c.args.bytes.now e) (sym c.named.ensures)
          (counts_refused c.args.bytes.now c.new-words.result c.take_header.new.words
          c.in-Ok.header.counts c.in-Err-new.fault c.new-words.ensures
          (sym c.is_magic_bad.ensures ∙ c.if-is_magic_bad.false)
          c.in-Ok.ensures.header c.in-Err-new.ensures.err);
      memory = λ is. header_long c.args.bytes.now c.new-words.result c.take_header.new.words
          c.in-Ok.header.counts c.new-words.ensures c.in-Ok.ensures.header;
    }
