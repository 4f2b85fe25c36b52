-- What a look at the fixings that stand leaves of the editions.
use Rattle.std.specs.Prelude.{◌≡◌}
use Rattle.std.specs.Borrow.{MutBor, Fml}
use Rattle.std.specs.Io.BufRead.{Rests}
use Rattle.fixing_editions.specs.declared.editions.Editions.{Editions}
use Rattle.fixing_editions.specs.contracts.editions.Editions.{the_row}

-- they are as before once the look is over
abbrev pub RestsAs : MutBor Editions → Fml
RestsAs editions = Rests the_row editions (λ after. after ≡ editions.now)
