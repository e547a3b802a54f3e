-- In the writing modes, which are Recording, Overdubbing, Multiplying, Inserting, Replacing and
-- Substituting, a frame of the input is written at each frame. Nine verbs have a mode of their own:
-- the six writing ones, and those of Muted, Paused and OneShot.
-- "The loop" and "Verbs" in docs/rules.md.
use Rattle.std.specs.Prelude.{Bool, true, false}
use Rattle.sl_commands.specs.declared.verb.Verb.{Verb}
use Rattle.sl_commands.specs.declared.verb.Verb.TheVariants.{Rec, Overdub, Multiply, Insert, Replace, Substitute, Mute, OneShot, Pause}
use Rattle.sl_commands.specs.declared.mode.Mode.{Mode}
use Rattle.sl_commands.specs.declared.mode.Mode.TheVariants.{Recording, Overdubbing, Multiplying, Inserting, Replacing, Substituting, Muted, OneShot as PlayingOnce, Paused}

-- whether a frame of the input is written in this mode
abbrev pub is_writing : Mode → Bool
is_writing Recording = true
is_writing Overdubbing = true
is_writing Multiplying = true
is_writing Inserting = true
is_writing Replacing = true
is_writing Substituting = true
is_writing _ = false

-- whether a mode is the one of a verb, where the verb has one
abbrev pub is_mode_of : Verb → Mode → Bool
is_mode_of Rec Recording = true
is_mode_of Overdub Overdubbing = true
is_mode_of Multiply Multiplying = true
is_mode_of Insert Inserting = true
is_mode_of Replace Replacing = true
is_mode_of Substitute Substituting = true
is_mode_of Mute Muted = true
is_mode_of Pause Paused = true
is_mode_of OneShot PlayingOnce = true
is_mode_of _ _ = false
