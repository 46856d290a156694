use Rattle.std.proofs.Common.{◌∙◌, ap, slice_index_or, None}
use Rattle.pm_twins.specs.Table.{Table}
use Rattle.pm_twins.proofs.Readers.{entry_means}
use Rattle.pm_twins.proofs.twins.Twins.twin.Goals as goal

pub returns : goal.returns
returns c =
    let value = c.get.ensures ∙ ap (λ (t : Table). slice_index_or t.twins c.args.side.0 None)
    c.self.view_is in
    record {
      value = value;
      twin =
          λ m n table. entry_means m n c.args.side.0 c.args.self.now c.get.result table c.requires
          value;
    }
