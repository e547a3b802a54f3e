-- A number makes steps. Its states follow one another, modulo 2 to the 64th, and each state behind
-- the first makes a step, by its upper 31 bits. Of 18 steps, 4 put a command of OSC and 1 one of
-- MIDI, 3 take one of OSC and 1 one of MIDI, 1 takes an outcome, 3 play 1 to 64 frames, and 1 each
-- takes a reply, puts a block, takes a block, puts the held reply and puts an outcome.
-- The commands are for one of 4 loops. Of MIDI they are hits. Of OSC 17 of 24 are hits, and the
-- others read, set, save, press and let go.
-- "The drill" in docs/rules.md.
use Rattle.std.specs.Prelude.{ℕ, zero, suc, ◌+◌, ◌*◌, ◌/◌, ◌%◌, ◌^◌, ◌==◌, nat_lt, pos, if◌then◌else◌, List, [], ◌∷◌, get_or, codes}
use Rattle.sl_commands.specs.declared.Verb.{Verb}
use Rattle.sl_commands.specs.declared.Verb.TheVariants.{Rec}
use Rattle.sl_commands.specs.Verbs.{verbs}
use Rattle.sl_commands.specs.declared.Control.TheVariants.{Feedback, LoopLen, LoopPos, FreeTime}
use Rattle.sl_commands.specs.declared.Target.{Target}
use Rattle.sl_commands.specs.declared.Target.TheVariants.{One}
use Rattle.sl_commands.specs.declared.Command.{Command}
use Rattle.sl_commands.specs.declared.Command.TheVariants.{Down, Up, Hit, Set, Get, SaveLoop}
use Rattle.ring_world.specs.declared.step.Step.{Step}
use Rattle.ring_world.specs.declared.step.Step.TheVariants.{PutOsc, PutMidi, TakeOsc, TakeMidi, TakeSaver, Period, ReplyTake, BlockPut, BlockTake, ReplyPut, PutSaver}

-- the state behind this one
abbrev pub next_state : ℕ → ℕ
next_state state = (state * 6364136223846793005 + 1442695040888963407) % 2 ^ 64

-- the verb of this number, modulo 17
abbrev pub verb_at : ℕ → Verb
verb_at number = get_or verbs (number % 17) Rec

-- a loop
abbrev pub loop_at : ℕ → Target
loop_at w = One (w % 4)

-- a command of OSC for this loop, by one of 24 numbers; a value for the one that sets
abbrev pub osc_command_by : ℕ → ℕ → Target → Command
osc_command_by kind value target =
    if nat_lt kind 17 then Hit target (verb_at kind)
    else if kind == 17 then Get target LoopLen
    else if kind == 18 then Get target LoopPos
    else if kind == 19 then Set target Feedback (pos (value % 1001))
    else if kind == 20 then SaveLoop target (codes "drill.wav")
    else if kind == 21 then Get target FreeTime
    else if kind == 22 then Down target Rec
    else Up target Rec

abbrev pub osc_command : ℕ → Command
osc_command w = osc_command_by (w / 4 % 24) (w / 96) (loop_at w)

-- a command of MIDI
abbrev pub midi_command : ℕ → Command
midi_command w = Hit (loop_at w) (verb_at (w / 4))

-- a step, by one of 18 numbers
abbrev pub step_by : ℕ → ℕ → Step
step_by kind w =
    if nat_lt kind 4 then PutOsc (osc_command w)
    else if kind == 4 then PutMidi (midi_command w)
    else if nat_lt kind 8 then TakeOsc
    else if kind == 8 then TakeMidi
    else if kind == 9 then TakeSaver
    else if nat_lt kind 13 then Period (1 + w % 64)
    else if kind == 13 then ReplyTake
    else if kind == 14 then BlockPut
    else if kind == 15 then BlockTake
    else if kind == 16 then ReplyPut
    else PutSaver

-- the step that a state makes
abbrev pub step_at : ℕ → Step
step_at state = let v = state / 2 ^ 33 in step_by (v % 18) (v / 18)

-- so many steps behind a state
abbrev pub steps_from : ℕ → ℕ → List Step
steps_from state zero = []
steps_from state (suc more) =
    let next = next_state state in step_at next ∷ steps_from next more

-- the steps that a number makes
abbrev pub steps_of : ℕ → ℕ → List Step
steps_of number count = steps_from number count
