-- `gridtable::pages::grid_page` meets its contract: the reply to what the call answers.
use Rattle.replies.proofs.PageReplyLaws.{page-reply-numbered}
use borrow.Author.Rules.{rules}
use Rattle.gridtable.proofs.pages.grid_page.Goals as goal

pub returns : goal.returns
returns c = search (rules, page-reply-numbered)
