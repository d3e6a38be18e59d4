-- `layout::bounds::edges` meets its contract. The invariant: the edges of the first k rectangles are marked.
use Rattle.representation.specs.Edges.{edge_list}
use Rattle.layout.specs.Marked.{EdgesMarked}
use Rattle.layout.proofs.bounds.edges.Given as goal

abbrev pub invariant-loop-k : goal.invariant-loop-k
invariant-loop-k l = EdgesMarked (edge_list l.k l.from l.rects.array.now) l.marks
