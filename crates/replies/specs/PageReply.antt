-- The answer of the page call and a share as structs.
use Rattle.std.specs.Prelude.{ℕ}
use Rattle.grid.specs.Answer.{Answer, accept, refuse}
use Rattle.html.specs.declared.Share.{Share}
use Rattle.replies.specs.declared.pages.PageReply.{PageReply}
use Rattle.replies.specs.declared.pages.ShareReply.{ShareReply}

abbrev pub page_reply_of : Answer ℕ → PageReply
page_reply_of (accept bytes) = record { number = 0; place = 0; bytes = bytes }
page_reply_of (refuse number place) = record { number = number; place = place; bytes = 0 }

abbrev pub share_reply_of : Share → ShareReply
share_reply_of s = record { hundredths = s.hundredths; percent = s.percent }
