-- A share's percent is no NaN.
use Rattle.replay_beside.proofs.pages.ShareLaws.{percent-is-number}
use Rattle.replay_beside.proofs.pages.answer_share.Goals as goal

pub float_to_bits-bits : goal.float_to_bits-bits
float_to_bits-bits g c = percent-is-number c.share_of-share.result _ _ c.share_of-share.ensures
