-- The columns in use, those under the rectangle raised.
use mathlib.Core.Path.{refl}
use native.Mathlib.Omega.{arith}
use borrow.Author.Rules.{rules}
use Rattle.trace.proofs.skyline.SkyLaws.{put-raised}
use Rattle.trace.proofs.skyline.Skyline.raised.Goals as goal

pub returns : goal.returns
returns c =
    let s = c.args.self in
    (refl, put-raised s.bottoms s.used c.args.left c.args.right c.args.bottom _ c.requires.0 c.requires.1 (omega (arith, s.room, s.few)) (c.fill.ensures.after (λ y e. search rules)))
