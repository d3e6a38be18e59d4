-- One name that opens every definition of this crate, for what is proved by computing.
use mathlib.Core.List.{flat_map}
use Rattle.seq.specs.Lists.{range, sum, largest, all, any, select, find, last_or, neighbours, first_some, smallest, first_at}
use Rattle.seq.specs.Ascii.{ascii}
use Rattle.seq.specs.Decimal.{digits_onto}

unfoldable pub lists : Unit {0}
unfolding flat_map range sum largest all any select find last_or neighbours first_some smallest first_at ascii digits_onto
lists = tt
