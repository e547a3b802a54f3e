-- A byte from 80 to FF hex is a status byte, one below it a data byte.
-- A status byte from 80 to EF begins a kind of event on one of 16 channels. Its data bytes form
-- groups: of one byte for C0 to DF, of two for the others.
-- The status in force behind some bytes is the last from 80 to EF, where none from F0 to F7 came
-- later. Those from F8 on are real-time bytes: they may stand anywhere, and change nothing.
-- "MIDI" in docs/formats.md.
use Rattle.std.specs.Prelude.{ℕ, ◌%◌, Bool, ◌||◌, ◌&&◌, ◌==◌, nat_lt, nat_le, if◌then◌else◌, List, [], ◌∷◌, length, Option, Some, None}

-- a byte of data
abbrev pub is_data : ℕ → Bool
is_data byte = nat_lt byte 128

-- a byte that may stand anywhere and changes nothing
abbrev pub is_real_time : ℕ → Bool
is_real_time byte = nat_le 248 byte

-- a status byte that data bytes follow
abbrev pub is_channel_status : ℕ → Bool
is_channel_status byte = nat_le 128 byte && nat_lt byte 240

-- the status in force before this byte is so behind it
abbrev pub keeps_status : ℕ → Bool
keeps_status byte = is_data byte || is_real_time byte

-- the status in force behind these bytes, the latest first
abbrev pub status_behind : List ℕ → Option ℕ
status_behind [] = None
status_behind (byte ∷ before) = if keeps_status byte then status_behind before else
    if is_channel_status byte then Some byte else None

-- the data bytes since the last status byte, real-time bytes left out; the latest first
abbrev pub data_behind : List ℕ → List ℕ
data_behind [] = []
data_behind (byte ∷ before) = if is_data byte then byte ∷ data_behind before else
    if is_real_time byte then data_behind before else []

-- how many data bytes form a group under a status
abbrev pub group_length : ℕ → ℕ
group_length status = if nat_le 192 status && nat_lt status 224 then 1 else 2

-- the data bytes are whole groups
abbrev pub are_whole_groups : ℕ → List ℕ → Bool
are_whole_groups status bytes = length bytes % group_length status == 0
