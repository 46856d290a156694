-- What words ask for, the arguments do.
use Rattle.std.proofs.Common.{ℕ}
use Rattle.pm_io.specs.declared.device.Source as source
use Rattle.pm_io.specs.declared.device.Sink as sink
use Rattle.pm_commands.specs.declared.asked.Asked.{Asked}
use Rattle.pm_commands.specs.declared.asked.Asked.TheVariants as asked
use Rattle.vdpm.specs.Endings.{Obeys}

pub obeys_of : {S K E : Type 0} (s : source.Ghosts S) (k : sink.Ghosts K) (e : sink.Ghosts E)
    (mine other : Asked → Type 0) (status : ℕ) (input input_now : S) (out out_now : K)
    (err err_now : E) → ((a : Asked) → other a → mine a)
    → Obeys s k e mine status input input_now out out_now err err_now
    → Obeys s k e other status input input_now out out_now err err_now
obeys_of s k e mine other status input input_now out out_now err err_now to o = record {
  whole = λ a asks. o.whole a (to a asks);
  read_to = λ a asks. o.read_to a (to a asks);
  expands = λ target digits asks. o.expands target digits (to (asked.Build target digits) asks);
  surfaces = λ target digits asks. o.surfaces target digits (to (asked.Build target digits) asks);
  demo_unread = λ n asks. o.demo_unread n (to (asked.Demo n) asks);
  faulty = λ a asks. o.faulty a (to a asks);
  unreached = λ a asks. o.unreached a (to a asks);
  write = λ a asks. o.write a (to a asks);
  memory = o.memory;
  complete = λ a bytes all asks. o.complete a bytes all (to a asks);
}
