-- `cm::lettering::Lettering::line` meets its contract: the line stands between its start and its end.
use mathlib.Core.Path.{refl}
use borrow.Author.Rules.{rules}
use Rattle.cm.proofs.lettering.LetteredLaws.{start-room}
use Rattle.cm.proofs.lettering.Lettering.line.Goals as goal

pub bounds-self-j : goal.bounds-self-j
bounds-self-j c = let (bs, L, u, _) = c.requires in start-room L _ c.args.i u _ refl (search rules) _ refl
