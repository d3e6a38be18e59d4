-- Laws of specs/PageReply.antt: the reply to an answer.
use Prim.Native.Nat.{ℕ}
use mathlib.Core.Path.{◌≡◌, refl, ap, ◌∙◌}
use Rattle.grid.specs.Answer.{Answer}
use Rattle.refusals.specs.Refusal.{number_of, place_of, answer_from}
use Rattle.refusals.specs.declared.Refusal.{Refusal}
use Rattle.std.specs.Prelude.{Result, Ok, Err}
use Rattle.html_page.specs.Call.{answer_of}
use Rattle.replies.specs.Refused.{answer_told}
use Rattle.replies.specs.declared.pages.PageReply.{PageReply}
use Rattle.replies.specs.PageReply.{page_reply_of}

-- what is told of a call's answer is what its contract says of it
pub answer_told-from : {A B : Type 0} (value : A → B) (a : Result A Refusal) → answer_told number_of place_of value a ≡ answer_from value a
answer_told-from value (Ok a) = refl
answer_told-from value (Err refusal) = refl

pub page-reply-told : (a : Result ℕ Refusal) (x : Answer ℕ) (r : PageReply) → r ≡ page_reply_of (answer_of a) → answer_of a ≡ x → r ≡ page_reply_of x
page-reply-told a x r e f = e ∙ ap page_reply_of f

-- the same of a reply by the refusal's number and place
pub page-reply-numbered : (a : Result ℕ Refusal) (x : Answer ℕ) (r : PageReply)
    → r ≡ page_reply_of (answer_told number_of place_of (λ bytes. bytes) a) → answer_of a ≡ x → r ≡ page_reply_of x
page-reply-numbered a x r e f = page-reply-told a x r (e ∙ ap page_reply_of (answer_told-from (λ bytes. bytes) a)) f
