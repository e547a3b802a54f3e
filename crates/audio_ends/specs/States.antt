-- How the audio stands behind a turn. A failed read comes first, then a failed write, then the end
-- of the input within a frame and behind one, then a quit that was taken, then that all frames of a
-- session are done.
-- "The turn of audio" in docs/rules.md.
use Rattle.std.specs.Prelude.{◌≡◌, ◌≤◌, ◌<◌, ℕ, zero, suc, Bool, true, false, [], length}
use Rattle.sl_base.specs.Limits.{max_session_frames}
use Rattle.sl_base.specs.Counting.{Rose}
use Rattle.sl_ports.specs.declared.SinkAnswer.{SinkAnswer}
use Rattle.sl_ports.specs.declared.SinkAnswer.TheVariants.{Done, Failed as Unwritten}
use Rattle.audio_ends.specs.declared.fill.Halt.{Halt}
use Rattle.audio_ends.specs.declared.fill.Halt.TheVariants.{Whole, Idle, End, Failed}
use Rattle.audio_ends.specs.declared.state.AudioState.{AudioState}
use Rattle.audio_ends.specs.declared.state.AudioState.TheVariants.{ReadFault, WriteFault, Torn, EndOfInput, Quit, LongInput, More}
use Rattle.audio_ends.specs.Ends.{passed, has_quit}
use Rattle.audio_ends.specs.Did.{AudioAt}

-- at the end of the input, by the bytes of a frame that isn't whole
abbrev pub ended_state : ℕ → AudioState
ended_state zero = EndOfInput
ended_state (suc kept) = Torn

-- while the input goes on
abbrev pub going_state : Bool → Bool → AudioState
going_state true all_done = Quit
going_state false true = LongInput
going_state false false = More

-- by what stopped reading, what came of the write, the bytes kept, a quit, and the frames done
abbrev pub state_of : Halt → SinkAnswer → ℕ → Bool → Bool → AudioState
state_of Failed answer kept quit all_done = ReadFault
state_of Whole Unwritten kept quit all_done = WriteFault
state_of Idle Unwritten kept quit all_done = WriteFault
state_of End Unwritten kept quit all_done = WriteFault
state_of Whole Done kept quit all_done = going_state quit all_done
state_of Idle Done kept quit all_done = going_state quit all_done
state_of End Done kept quit all_done = ended_state kept

-- why the audio stands so, by what stood before and behind
abbrev pub StateCause : AudioAt → AudioAt → AudioState → Type 0
StateCause x y ReadFault = Rose x.source.faults y.source.faults
StateCause x y WriteFault = Rose x.sink.faults y.sink.faults
StateCause x y Torn = (y.source.ended ≡ true) × (1 ≤ length y.ends.rest.items)
StateCause x y EndOfInput = (y.source.ended ≡ true) × (y.ends.rest.items ≡ [])
StateCause x y Quit = has_quit (passed y.ends.rings) ≡ true
StateCause x y LongInput = max_session_frames ≤ y.engine.frames
StateCause x y More = (y.source.faults ≡ x.source.faults) × (y.sink.faults ≡ x.sink.faults)
    × (has_quit (passed y.ends.rings) ≡ false) × (y.engine.frames < max_session_frames)
