use Rattle.pm_costs.proofs.PlainLaws.{merged_in, merged_fits, goes_more}
use Rattle.pm_costs.proofs.quadrics.QuadricTableCosts.merged.Goals as goal

pub merge-requires-clause-a_in : goal.merge-requires-clause-a_in
merge-requires-clause-a_in c =
    let (p, m, log, after, goes) = c.requires.known in
    (merged_in p m log c.args.entry.now c.args.shrink.now c.args.self.now after goes).0

pub merge-requires-clause-b_in : goal.merge-requires-clause-b_in
merge-requires-clause-b_in c =
    let (p, m, log, after, goes) = c.requires.known in
    (merged_in p m log c.args.entry.now c.args.shrink.now c.args.self.now after goes).1.0

pub merge-requires-clause-s_in : goal.merge-requires-clause-s_in
merge-requires-clause-s_in c =
    let (p, m, log, after, goes) = c.requires.known in
    (merged_in p m log c.args.entry.now c.args.shrink.now c.args.self.now after goes).1.1

pub merge-requires-clause-few : goal.merge-requires-clause-few
merge-requires-clause-few c =
    let (p, m, log, after, goes) = c.requires.known in
    merged_fits p m log c.args.entry.now c.args.shrink.now c.args.self.now after goes

pub returns : goal.returns
returns c = record {
  goes_on = λ p m log after goes.
      goes_more p m log c.args.entry.now c.args.shrink.now c.args.self.now after goes
      c.merge.new.self (record {
        slotted = c.merge.ensures.slots;
        sum = c.merge.ensures.sum;
        others = c.merge.ensures.others;
      });
}
