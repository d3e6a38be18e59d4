use mathlib.Core.Path.{◌≡◌, refl}
use borrow.Author.Rules.{rules}
use Rattle.cm.proofs.split.HitLinesLaws.{hits-none, hits_next, line-short, line-well, line-ends}
use Rattle.cm.proofs.split.hit_lines.Goals as goal

pub loop-i-init : goal.loop-i-init
loop-i-init c = (refl, hits-none c.args.lettering)

pub line-line-requires : goal.line-line-requires
line-line-requires c = let (bs, L, u, _) = c.requires.lettered in (bs, L, u, search rules)

pub hit_line-hits-requires-clause-column_bound : goal.hit_line-hits-requires-clause-column_bound
hit_line-hits-requires-clause-column_bound c = (
  c.requires.near.0,
  line-short c.args.lettering c.loop-i.invariant.1 _ c.line-line.ensures c.requires.lettered,
  line-well c.args.lettering c.loop-i.invariant.1 _ c.line-line.ensures c.requires.lettered,
  search rules,
  c.loop-i.invariant.0,
)

pub hit_line-hits-requires-clause-line_bound : goal.hit_line-hits-requires-clause-line_bound
hit_line-hits-requires-clause-line_bound c = line-ends c.args.lettering c.loop-i.invariant.1 _ c.line-line.ensures c.requires.lettered

pub loop-i-preserved : goal.loop-i-preserved
loop-i-preserved c = (c.hit_line-hits.ensures.room, hits_next c.args.lettering c.loop-i.invariant.1 _ c.line-line.ensures _ c.hit_line-hits.ensures)

pub returns : goal.returns
returns c = let e : c.loop-i.i ≡ c.args.count = search rules in rw e at c.loop-i.invariant.1
