-- `positions::checks::check_placed` meets its contract: each return by its tests.
use Rattle.std.proofs.Common.{sym, ◌∙◌, arith}
use Rattle.std.proofs.lemmas.Bool.Decides.{nat_tests}
use Rattle.representation.specs.Lent.{drawing_of}
use Rattle.grid.specs.Limits.{max_register}
use Rattle.grid.specs.LayoutCall.{LayoutSpace}
use Rattle.reading.proofs.limits.LimitLaws.{over-listed}
use Rattle.positions.proofs.checks.CheckLaws.{numbers_too_large-told, contradicts-told}
use Rattle.positions.proofs.checks.check_placed.Goals as goal

pub returns-then-contradicts : goal.returns-then-contradicts
returns-then-contradicts c =
    let w : LayoutSpace = record { glyphs = c.args.glyphs; offsets = c.args.offsets; down = c.args.down; right = c.args.right; rects = c.args.rects } in
    grind (arith, nat_tests, contradicts-told w c.args.starts (drawing_of c.args.drawing) c.args.numbers.now c.args.table_bytes.now)

pub returns-then-any_over : goal.returns-then-any_over
returns-then-any_over c =
    let w : LayoutSpace = record { glyphs = c.args.glyphs; offsets = c.args.offsets; down = c.args.down; right = c.args.right; rects = c.args.rects } in
    let told = numbers_too_large-told (drawing_of c.args.drawing) c.args.numbers.now c.args.table_bytes.now
    (sym c.contradicts.ensures ∙ c.if-contradicts.false) c.if-numbers-lines.false c.if-table_bytes-lines.false in
    grind (arith, nat_tests, told, contradicts-told w c.args.starts (drawing_of c.args.drawing) c.args.numbers.now c.args.table_bytes.now, over-listed max_register c.args.numbers.now, over-listed max_register c.args.table_bytes.now)

pub returns : goal.returns
returns c =
    let w : LayoutSpace = record { glyphs = c.args.glyphs; offsets = c.args.offsets; down = c.args.down; right = c.args.right; rects = c.args.rects } in
    let told = numbers_too_large-told (drawing_of c.args.drawing) c.args.numbers.now c.args.table_bytes.now
    (sym c.contradicts.ensures ∙ c.if-contradicts.false) c.if-numbers-lines.false c.if-table_bytes-lines.false in
    grind (arith, nat_tests, told, contradicts-told w c.args.starts (drawing_of c.args.drawing) c.args.numbers.now c.args.table_bytes.now, over-listed max_register c.args.numbers.now, over-listed max_register c.args.table_bytes.now)
