-- `input_table::lines_table` meets its contract: what the table call tells.
use native.Mathlib.Omega.{arith}
use Rattle.drawing.specs.RedrawCall.{table_lent}
use Rattle.input_table.proofs.ToldLaws.{table-told}
use Rattle.input_table.proofs.lines_table.Goals as goal

pub returns : goal.returns
returns c =
    table-told c.args.lengths.now c.args.text.now c.requires.agreeing.0 c.requires.agreeing.1
    (table_lent c.args.cols.now c.args.sections.now c.args.cells.now c.args.kept_lengths.now c.args.kept_text.now)
    (record {
      columns = omega (arith, c.requires.shape);
      sections = omega (arith, c.requires.shape);
      cells = omega (arith, c.requires.shape);
      lengths = omega (arith, c.requires.lines);
      text = omega (arith, c.requires.lines);
    }) c.table.result _ c.table.ensures.0 c.table.ensures.1
