-- A row of two lists.
use Rattle.std.specs.Prelude.{ℕ, ◌+◌, ◌-◌, List, take, drop, slice_index}

-- what stands from offset c up to offset c + 1
abbrev pub row_of : List ℕ → List ℕ → ℕ → List ℕ
row_of os ns c = take (slice_index os (c + 1) - slice_index os c) (drop (slice_index os c) ns)
