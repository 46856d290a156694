use Rattle.std.proofs.Common.{◌≡◌, take}
use Rattle.std.specs.List.{flat_map}
use Rattle.pm_io.specs.Bytes.{GainsThrough}
use Rattle.pm_format.specs.Words.{spelled}
use Rattle.pm_format.specs.Stream.{record_words}
use Rattle.pm_format.proofs.write.put_records.Given as goal

abbrev pub invariant-loop-k : goal.invariant-loop-k
invariant-loop-k g l = record {
  text : GainsThrough (g.K.Sink.got l.fn.out) (g.K.Sink.got l.out) l.fn.page l.page
      (flat_map (λ x. spelled (record_words x)) (take l.k l.h.records));
  count : g.K.Sink.faults l.out ≡ g.K.Sink.faults l.fn.out;
}
