-- `sheet_fills::skips::rows_of` meets its contract: the three columns hold the rows (proofs/Laying.antt). Assumes nothing.
use mathlib.Core.Path.{◌∙◌}
use Prim.Native.Nat.{ℕ}
use lib.ListN.{length-replicate}
use Rattle.sheet_fills.proofs.Laying.{rows_same}
use Rattle.sheet_fills.proofs.skips.rows_of.Goals as goal

pub returns : goal.returns
returns c =
    let n = c.put_names in
    let v = c.put_verdicts in
    let k = c.put_costs in
    record {
      good = record {
        few = c.requires.1;
        names_long = n.array_long;
        verdicts_long = v.auto.verdicts ∙ length-replicate {A = ℕ} 64 0;
        costs_long = k.auto.costs ∙ length-replicate {A = ℕ} 64 0;
      };
      same = rows_same c.args.cells.now (record { count = c.args.n; names = n.new.names; verdicts = v.new.verdicts; costs = k.new.costs }) n.ensures v.ensures k.ensures;
    }
