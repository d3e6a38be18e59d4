-- `layout::alignments::AlignmentLine::alignment` meets its contract: from its calls.
use Rattle.layout.proofs.alignments.AlignmentLaws.{to_plus-length, alignment_from-no-plus, alignment_from-past-end, alignment_from-found}
use Rattle.std.proofs.Common.{◌+◌, ◌<◌, length, arith}
use borrow.Author.Rules.{rules}
use Rattle.layout.proofs.alignments.AlignmentLine.alignment.Goals as goal

pub returns-then-self-x-ne-PLUS : goal.returns-then-self-x-ne-PLUS
returns-then-self-x-ne-PLUS c = search alignment_from-no-plus

pub slice_bounds-segment_alignment-end : goal.slice_bounds-segment_alignment-end
slice_bounds-segment_alignment-end c = search to_plus-length

pub returns-in-None : goal.returns-in-None
returns-in-None c =
    let past : length c.args.self.now.text.now < c.byte_at-from.result.0 + 1 = omega (arith, c.in-None.ensures.lookup.0) in
    search (rules, alignment_from-past-end)

pub returns-in-Some : goal.returns-in-Some
returns-in-Some c =
    alignment_from-found c.args.self.now.glyphs.now c.args.self.now.offsets.now c.args.self.now.text.now c.args.self.now.line c.args.x.0 _ _ c.in-Some.rest.now _ c.if-self-x-ne-PLUS.false c.byte_at-from.ensures.0 c.in-Some.ensures.lookup.0.2
    c.segment_end.ensures c.segment_alignment.ensures
