-- `layout::finish` meets its contract: what filling and tracing left gives each callee what it asks.
use native.Mathlib.Omega.{arith}
use borrow.Author.Rules.{rules}
use mathlib.Core.Path.{sym, ◌∙◌}
use Rattle.reading.proofs.SheetLaws.{traced-some, traced-room, traced-edges, traced-inside}
use Rattle.layout.specs.Call.{layout_lent}
use Rattle.layout.proofs.FoundLaws.{parts-head-line}
use Rattle.layout.proofs.FinishNeeds.{finish-refused, finish-writable, finish-written}
use Rattle.layout.proofs.finish.Goals as goal

pub invariant_of-rects : goal.invariant_of-rects
invariant_of-rects c =
    let t = c.args.traced.traced in
    record { few = t.through.few; room = traced-room _ _ t; low = traced-edges _ _ t }

pub measure-measured-requires : goal.measure-measured-requires
measure-measured-requires c =
    let t = c.args.traced.traced in
    record { size = (t.sheet.few_lines, t.roomy.width_fits); inside = traced-inside _ _ t }

pub returns-then-measured : goal.returns-then-measured
returns-then-measured c = finish-refused c.args.traced.traced _ (sym c.measure-measured.ensures.short_told ∙ c.if-measured.true)

pub find_parts-parts-requires : goal.find_parts-parts-requires
find_parts-parts-requires c = search (rules, traced-some)

pub trimmed_line-requires : goal.trimmed_line-requires
trimmed_line-requires c =
    (c.args.traced.traced.sheet.bytes_agree, parts-head-line c.args.traced.traced _ (c.find_parts-parts.ensures.head, c.find_parts-parts.ensures.foot))

pub invariant_of-line : goal.invariant_of-line
invariant_of-line c =
    let t = c.args.traced.traced in
    let head = parts-head-line t _ (c.find_parts-parts.ensures.head, c.find_parts-parts.ensures.foot) in
    record { glyph_room = t.roomy.glyph_room; offset_room = t.roomy.offset_room; low = omega (arith, head, t.sheet.few_lines) }

pub write_layout-requires : goal.write_layout-requires
write_layout-requires c =
    rw c.numbering.ensures
    (finish-writable c.args.traced.traced (layout_lent c.args.cols.now c.args.rows.now c.args.cells.now c.args.ranges.now) c.measure-measured.ensures.told (sym c.measure-measured.ensures.short_told ∙ c.if-measured.false) _
    (c.find_parts-parts.ensures.head, c.find_parts-parts.ensures.foot))

pub returns : goal.returns
returns c =
    finish-written c.args.traced.traced (layout_lent c.args.cols.now c.args.rows.now c.args.cells.now c.args.ranges.now) c.measure-measured.ensures.told (sym c.measure-measured.ensures.short_told ∙ c.if-measured.false) _
    (c.find_parts-parts.ensures.head, c.find_parts-parts.ensures.foot) c.trimmed_line.ensures
    c.write_layout.ensures.columns (rw c.numbering.ensures at c.write_layout.ensures.rows) (rw c.numbering.ensures at c.write_layout.ensures.cells) c.write_layout.ensures.ranges
