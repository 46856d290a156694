use Rattle.std.proofs.Common.{◌≡◌, ◌+◌, ◌<◌, ℕ, length, inl, inr, ap, subst}
use Rattle.std.proofs.Common.{◌∙◌, arith, length-set}
use Rattle.std.proofs.lemmas.Bool.{cases_lt}
use Rattle.std.proofs.lemmas.List.{drop-set-lt}
use Rattle.pm_buffers.specs.Buffers.{at, Shows}
use Rattle.pm_buffers.specs.Steps.{AreWrittenSoFar}
use Rattle.pm_buffers.proofs.TableLaws.{within_of}
use Rattle.pm_buffers.proofs.ChangeLaws.{stay_step, come_step, shown_before, shown_still, all_left}
use Rattle.pm_buffers.proofs.CountLaws.{shown_yes, hidden_no, more_staying, same_staying}
use Rattle.pm_buffers.proofs.CountLaws.{all_staying, cases_either}
use Rattle.pm_buffers.proofs.tables.Tables.change.Goals as goal
use Rattle.pm_buffers.proofs.tables.Tables.change.Goals.{in-Some, in_default}

pub loop-place-preserved : goal.loop-place-preserved
loop-place-preserved c =
    let old = c.args.self.now.entries in
    let gone = c.args.gone.now in
    let put = c.args.put.now in
    let k = c.loop-place.place in
    let slots = c.loop-place.writes in
    let done = c.loop-place.invariant in
    let so = done.written in
    let change = c.requires.change in
    let few = c.requires.sound.few in
    let room : k < length slots =
    omega (arith, c.loop-place-test.true, c.requires.room, done.room) in
    let low : k < c.args.count = c.loop-place-test.true in
    elim c.match-slot_at.branch [
      | in-Some w ↦
          let r = w.in-Some.slot in
          let stands = w.in-Some.ensures.some in
          let in_put : k < length put = within_of put k stands.is_item in
          let was = shown_before old gone put change few c.loop-place.self.entries slots k
          c.loop-place.next so in_put (r, stands) in
          let more = more_staying old put k in_put (shown_yes old (at put k) was) in
          record {
            written = rw (w.self-is, w.writes-is, w.next-is)
                (stay_step old gone put change few c.loop-place.self.entries slots k
                c.loop-place.next so r stands room done.sound.once);
            stays = omega (arith, w.next-is, more, done.stays);
            room = rw w.writes-is (length-set slots k r ∙ done.room);
            behind = rw w.writes-is (drop-set-lt c.args.count slots k r low ∙ done.behind);
            same = rw w.self-is done.same;
            sound = rw w.self-is done.sound;
            len = rw (w.self-is, w.next-is) done.len;
            grows = rw w.self-is done.grows;
          }
      | in_default w ↦
          let r = w.change_at.result in
          let hidden = w.in_default.ensures.none in
          let either = cases_either old gone put k c.loop-place.next c.args.count done.stays
          c.requires.count low in
          record {
            written = rw (w.self-is, w.change_at.ensures.entries, w.writes-is, w.next-is)
                (come_step old gone put change few c.loop-place.self.entries slots k
                c.loop-place.next so r w.change_at.ensures.within w.change_at.ensures.slot either
                room done.sound.once);
            stays = elim (cases_lt k (length put)) [
              | inl in_put ↦
                  let still : ¬ Shows old (at put k) =
                  λ shown. hidden (shown_still old gone put change few c.loop-place.self.entries
                  slots k c.loop-place.next so in_put shown) in
                  omega (
                    arith,
                    w.next-is,
                    done.stays,
                    same_staying old put k in_put (hidden_no old (at put k) still),
                  )
              | inr past ↦ omega (
                arith,
                w.next-is,
                done.stays,
                all_staying old put k past,
                all_staying old put (k + 1) (omega (arith, past)),
              )
            ];
            room = rw w.writes-is (length-set slots k r ∙ done.room);
            behind = rw w.writes-is (drop-set-lt c.args.count slots k r low ∙ done.behind);
            same = rw w.self-is
                (ap length w.change_at.ensures.entries
                ∙ (length-set c.loop-place.self.entries r (at put k) ∙ done.same));
            sound = rw w.self-is w.change_at.ensures.sound;
            len = rw (w.self-is, w.next-is)
                (λ past. w.change_at.ensures.len (omega (arith, past))
                ∙ done.len (omega (arith, past)));
            grows = rw w.self-is (elim (cases_lt c.loop-place.next (length gone)) [
              | inl before ↦ omega (
                arith,
                done.len (omega (arith, before)),
                w.change_at.ensures.grows,
              )
              | inr past ↦ omega (
                arith,
                w.change_at.ensures.count past,
                w.change_at.ensures.grows,
                done.grows,
              )
            ]);
          }
    ]

pub returns-clause-written : goal.returns-clause-written
returns-clause-written c =
    let old = c.args.self.now.entries in
    let gone = c.args.gone.now in
    let put = c.args.put.now in
    let done = c.loop-place.invariant in
    let end : c.loop-place.place ≡ c.args.count =
    omega (arith, c.loop-place-test.false, c.loop-place.auto.place-end) in
    let so = subst (λ (n : ℕ). AreWrittenSoFar old gone put c.loop-place.self.entries
    c.loop-place.writes n c.loop-place.next) end done.written in
    let all = all_staying old put c.loop-place.place
    (omega (arith, end, c.requires.count)) in
    all_left old gone put c.loop-place.self.entries c.loop-place.writes c.args.count
    c.loop-place.next so (omega (arith, done.stays, all, end, c.requires.count))
