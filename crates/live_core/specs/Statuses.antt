-- A session that used its devices ends with a status. Several may hold at once, and the first in
-- this order is given: there was no memory, a read of audio or MIDI failed, a write of audio
-- failed, the input ended within a frame, all frames of a session were played, a receive failed.
-- Else the session is done.
-- "How a session ends" in docs/rules.md.
use Rattle.std.specs.Prelude.{ℕ, Bool, true, false}
use Rattle.audio_ends.specs.declared.state.AudioState.{AudioState}
use Rattle.audio_ends.specs.declared.state.AudioState.TheVariants.{ReadFault as Unread, WriteFault as Unwritten, Torn as TornInput, EndOfInput, Quit, LongInput as AllPlayed, More}
use Rattle.live_core.specs.declared.status.LiveStatus.{LiveStatus}
use Rattle.live_core.specs.declared.status.LiveStatus.TheVariants.{Done, ReadFault, WriteFault, Torn, LinkFault, Memory, LongInput}

-- behind an end without a fault of audio
abbrev pub last_status : Bool → Bool → LiveStatus
last_status true link_failed = LongInput
last_status false true = LinkFault
last_status false false = Done

-- by how the audio ended
abbrev pub audio_status : AudioState → Bool → Bool → LiveStatus
audio_status Unread all_played link_failed = ReadFault
audio_status Unwritten all_played link_failed = WriteFault
audio_status TornInput all_played link_failed = Torn
audio_status EndOfInput all_played link_failed = last_status all_played link_failed
audio_status Quit all_played link_failed = last_status all_played link_failed
audio_status AllPlayed all_played link_failed = last_status all_played link_failed
audio_status More all_played link_failed = last_status all_played link_failed

-- the status, in the order of the rules
abbrev pub status_of : Bool → Bool → AudioState → Bool → Bool → LiveStatus
status_of true midi_failed state all_played link_failed = Memory
status_of false true state all_played link_failed = ReadFault
status_of false false state all_played link_failed = audio_status state all_played link_failed

-- the table of statuses as numbers
abbrev pub number_of : LiveStatus → ℕ
number_of Done = 0
number_of ReadFault = 4
number_of WriteFault = 5
number_of Torn = 6
number_of LinkFault = 7
number_of Memory = 8
number_of LongInput = 10
