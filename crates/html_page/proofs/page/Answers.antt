-- `html_page::page` meets its contract: a refusal of the checks, or what `write_page` does.
use Rattle.std.proofs.lemmas.Result.{err_from_is_err_and}
use Rattle.html_page.proofs.PageLaws.{page-refused, page-done}
use Rattle.html_page.proofs.page.Goals as goal

pub returns-in_err-check_page-clause-answer : goal.returns-in_err-check_page-clause-answer
returns-in_err-check_page-clause-answer c =
    let (_, is, same) = err_from_is_err_and c.from_residual.result c.from_residual.ensures.1 in
    rw (is, same) (page-refused _ _ _ _ c.in_err-check_page.ensures.answer).0

pub returns-in_err-check_page-clause-after : goal.returns-in_err-check_page-clause-after
returns-in_err-check_page-clause-after c = (page-refused _ _ _ _ c.in_err-check_page.ensures.answer).1

pub returns : goal.returns
returns c =
    let (answer, after) = page-done _ _ _ _ c.in_ok-check_page.ensures.answer c.in_ok-check_page.ensures.paged c.write_page.ensures.answer c.write_page.ensures.after in
    record { answer = answer; after = after }
