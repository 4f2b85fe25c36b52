use Rattle.std.proofs.Common.{refl, sym}
use Rattle.rolling_driver.proofs.status.has.Goals as goal

pub returns-then-are_alike : goal.returns-then-are_alike
returns-then-are_alike g c = (
  λ is. (
    c.loop-reader.reader-index,
    c.reader-item.result,
    c.loop-reader-test.true,
    sym c.reader-item.is,
    c.if-are_alike.ensures.0 refl,
  ),
  λ any. refl,
)
