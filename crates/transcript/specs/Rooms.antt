-- How many bytes what is printed takes at most, whatever the numbers in it.
use Rattle.std.specs.Prelude.{ℕ, ◌+◌, ◌*◌}
use Rattle.entry.specs.Hex.{entry_digits}
use Rattle.messages.specs.Longest.{longest_line}

-- What was decided, and a tab.
abbrev pub decided_room : ℕ
decided_room = entry_digits + 1

-- The line of a message, of any numbers that its fields hold.
abbrev pub line_room : ℕ
line_room = entry_digits + 87

-- Two decimals, a signed one, and these.
abbrev pub event_line_room : ℕ
event_line_room = 64 + decided_room + line_room

-- A row of a request that goes out, and 64 of them.
abbrev pub row_room : ℕ
row_room = longest_line + 1

abbrev pub rows_room : ℕ
rows_room = 64 * row_room
