-- `gridtable::pages::grid_share` meets its contract: the share as a reply.
use mathlib.Core.Path.{ap, ◌∙◌}
use Rattle.replies.specs.PageReply.{share_reply_of}
use Rattle.gridtable.proofs.pages.grid_share.Goals as goal

pub returns : goal.returns
returns c = c.share_reply.ensures ∙ ap share_reply_of c.share_of.ensures
