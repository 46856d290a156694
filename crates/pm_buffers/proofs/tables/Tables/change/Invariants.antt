use Rattle.std.proofs.Common.{◌≡◌, ◌+◌, ◌≤◌, length, max, take, drop}
use Rattle.pm_buffers.specs.Buffers.{IsBuffer, shown_count}
use Rattle.pm_buffers.specs.Changes.{staying}
use Rattle.pm_buffers.specs.Steps.{AreWrittenSoFar}
use Rattle.pm_buffers.proofs.tables.Tables.change.Given as goal

abbrev pub invariant-loop-place : goal.invariant-loop-place
invariant-loop-place l = record {
  written : AreWrittenSoFar l.fn.self.entries l.gone l.put l.self.entries l.writes l.place l.next;
  stays : l.next + length (staying l.fn.self.entries (take l.place l.put)) ≡ l.place;
  room : length l.writes ≡ length l.fn.writes;
  behind : drop l.count l.writes ≡ drop l.count l.fn.writes;
  same : length l.self.entries ≡ length l.fn.self.entries;
  sound : IsBuffer l.self;
  len : l.next ≤ length l.gone → l.self.len ≡ l.fn.self.len;
  grows : l.self.len ≡ max l.fn.self.len (shown_count l.self.entries);
}
