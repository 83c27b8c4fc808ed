-- What a table says of a number.
use Rattle.std.specs.Prelude.{ℕ, Bool, ◌&&◌, ◌==◌, nat_lt, slice_index}
use Rattle.stamps.specs.declared.table.Stamps.{Stamps}

-- whether c has the stamp of the last turn
abbrev pub near : Stamps → ℕ → Bool
near s c = nat_lt c 1024 && slice_index s.table c == s.turn
