-- A reader keeps the status in force and the first byte of a group of two that isn't whole.
-- It has been fed some bytes where it keeps what these leave.
-- "MIDI" in docs/formats.md.
use Rattle.std.specs.Prelude.{◌≡◌, ◌≤◌, ◌<◌, ℕ, IfSome, if◌then◌else◌, List, [], ◌∷◌, reverse, Option, Some, None}
use Rattle.midi_reader.specs.Bytes.{status_behind, data_behind, are_whole_groups}

-- what a reader keeps
pub record Kept : Type 0 where
  pub status : Option ℕ
  pub first : Option ℕ

-- the latest byte
abbrev pub latest_of : List ℕ → Option ℕ
latest_of [] = None
latest_of (byte ∷ before) = Some byte

-- the first byte of a group that isn't whole, under a status and behind its data, the latest first
abbrev pub first_byte : Option ℕ → List ℕ → Option ℕ
first_byte None bytes = None
first_byte (Some status) bytes = if are_whole_groups status bytes then None else latest_of bytes

-- what bytes leave, the latest first
abbrev pub kept_behind : List ℕ → Kept
kept_behind bytes =
    record {
      status = status_behind bytes;
      first =
          first_byte (status_behind bytes) (data_behind bytes);
    }

-- a reader has been fed exactly these bytes, in order, as far as it can tell
abbrev pub HasBeenFed : Kept → List ℕ → Type 0
HasBeenFed reader fed = reader ≡ kept_behind (reverse fed)

-- a status lies from 80 to EF hex, and a data byte below 80
pub record IsKept (kept : Kept) : Type 0 where
  pub status : IfSome kept.status (λ status. (128 ≤ status) × (status < 240))
  pub first : IfSome kept.first (λ first. first < 128)
