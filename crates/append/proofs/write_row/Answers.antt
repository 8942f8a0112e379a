-- `append::write_row` meets its contract, column by column. Assumes nothing.
use mathlib.Core.Path.{refl, ap}
use lib.ListN.{set}
use Rattle.append.proofs.write_row.Goals as goal

pub returns : goal.returns
returns c =
    let a = c.args in
    record {
      owner = refl;
      kind = refl;
      form = ap (set a.form.now a.n) c.form_byte.ensures;
      time = refl;
      address = c.put_row.ensures;
      hash = c.put_row-2.ensures;
    }
