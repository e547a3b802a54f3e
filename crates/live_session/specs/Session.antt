-- The four activities of a session run over five rings, each from what it was given to what it
-- gives back. No promise of one speaks of another. Once all have returned, the two ends of each
-- ring meet: what was sent is what was taken, followed by what is left.
-- "The activities of a session" in docs/rules.md.
use Rattle.std.specs.Prelude.{◌≡◌, ℕ, ◌*◌, Bool, false, List, [], ◌++◌, length, None, option_to_list}
use Rattle.sl_commands.specs.declared.Reply.{Reply}
use Rattle.sl_ports.specs.declared.keepers.Keeper.{Ghosts as Keeper}
use Rattle.looper_rules.specs.Reached.{IsBeginning}
use Rattle.midi_bindings.specs.declared.binding.Binding.{Binding}
use Rattle.midi_bindings.specs.Texts.{AreBindings}
use Rattle.event_rings.specs.Ends.{IsNew, max_limit}
use Rattle.senders.specs.Tallies.{empty_tally}
use Rattle.senders.specs.Senders.{IsOscSender, IsMidiSender, IsNewMidi}
use Rattle.engine_steps.specs.Engines.{Beginning, first_engine}
use Rattle.audio_ends.specs.declared.state.AudioState.{AudioState}
use Rattle.audio_ends.specs.Did.{AudioAt}
use Rattle.saver_serving.specs.Serving.{ServingOf, MayServe, SaverDid}
use Rattle.live_rings.specs.declared.meeting.MetRings.{MetRings}
use Rattle.live_rings.specs.Meeting.{MetBy, any_follows, outcome_follows, block_follows}
use Rattle.live_session.specs.Audio.{AudioRan}
use Rattle.live_session.specs.Osc.{OscAt, OscRan}
use Rattle.live_session.specs.Midi.{MidiAt, MidiRan}
use Rattle.settling.specs.Settled.{UnsettledOf, LeftOf, unsettled}

-- what the four activities own
pub record SessionOf (P : Type 0) : Type 0 where
  pub audio : AudioAt
  pub osc : OscAt
  pub midi : MidiAt
  pub saver : ServingOf P

-- it was made: an engine before all frames and entries, new rings with the numbers of a session,
-- empty accounts, and nothing taken, kept, held or saved
pub record IsMade {P : Type 0} (b : Beginning) (bindings : List Binding)
    (s : SessionOf P) : Type 0 where
  pub begins : IsBeginning b.settings b.chunks b.initial
  pub bound : AreBindings (length b.settings.strips) bindings
  pub engine : s.audio.engine ≡ first_engine b
  pub osc_ring : IsNew 256 b.quota 0 s.osc.sender.ring s.audio.ends.rings.osc
  pub midi_ring : IsNew 256 b.quota 0 s.midi.sender.ring s.audio.ends.rings.midi
  pub releases : IsNew 256 (2 * b.quota) 0 s.saver.releases s.audio.ends.rings.saver
  pub replies : IsNew 256 max_limit 0 s.audio.ends.rings.replies s.osc.replies
  pub blocks : IsNew 64 max_limit (2 * b.quota) s.audio.ends.rings.blocks s.saver.blocks
  pub no_rest : s.audio.ends.rest.items ≡ []
  pub no_reply : s.audio.ends.rings.held ≡ None
  pub no_quit : s.audio.ends.rings.quit ≡ false
  pub osc : s.osc.sender.account ≡ record { tally = empty_tally b.quota; unsent = 0 }
  pub loops : s.osc.sender.loops ≡ length b.settings.strips
  pub midi : IsNewMidi b.quota bindings s.midi.sender.ring s.midi.sender
  pub no_saving : s.saver.saving ≡ None
  pub no_outcome : s.saver.held ≡ None

-- what the activity of the saver did, and that it may go on
pub record SaverRan {P : Type 0} (k : Keeper P) (rate : ℕ) (s t : ServingOf P) : Type 0 where
  pub did : SaverDid k rate s t
  pub may : MayServe t

-- the four activities ran from what was made, and audio ended in this state; what always holds of a
-- sender holds of those that were given back
pub record HaveRun {P : Type 0} (k : Keeper P) (b : Beginning) (bindings : List Binding)
    (s t : SessionOf P) (state : AudioState) (memory : Bool) : Type 0 where
  pub made : IsMade b bindings s
  pub audio : AudioRan s.audio t.audio state
  pub osc : OscRan s.osc t.osc memory
  pub osc_keeps : IsOscSender t.osc.sender
  pub midi : MidiRan s.midi t.midi
  pub midi_keeps : IsMidiSender t.midi.sender
  pub saver : SaverRan k b.settings.rate s.saver t.saver

-- the two ends of each ring are of one ring
pub record SameRings {P : Type 0} (s : SessionOf P) : Type 0 where
  pub osc : s.osc.sender.ring.name ≡ s.audio.ends.rings.osc.name
  pub midi : s.midi.sender.ring.name ≡ s.audio.ends.rings.midi.name
  pub releases : s.saver.releases.name ≡ s.audio.ends.rings.saver.name
  pub replies : s.audio.ends.rings.replies.name ≡ s.osc.replies.name
  pub blocks : s.audio.ends.rings.blocks.name ≡ s.saver.blocks.name

-- and have met
pub record AreMet {P : Type 0} (s : SessionOf P) (m : MetRings) : Type 0 where
  pub osc : MetBy any_follows s.osc.sender.ring s.audio.ends.rings.osc m.osc
  pub midi : MetBy any_follows s.midi.sender.ring s.audio.ends.rings.midi m.midi
  pub releases : MetBy outcome_follows s.saver.releases s.audio.ends.rings.saver m.saver
  pub replies : MetBy any_follows s.audio.ends.rings.replies s.osc.replies m.replies
  pub blocks : MetBy block_follows s.audio.ends.rings.blocks s.saver.blocks m.blocks

-- what is settled then, where these replies were told before
abbrev pub unsettled_of : {P : Type 0} → SessionOf P → List Reply → UnsettledOf P
unsettled_of s told =
    unsettled s.audio.engine s.audio.ends.rings.held s.saver.saving s.saver.keeper s.saver.held told

-- the replies that settling tells: those left in their ring, the one that audio held, and those
-- that come of what is settled
abbrev pub told_behind : {P : Type 0} → SessionOf P → LeftOf → List Reply → List Reply
told_behind s rings replies =
    rings.replies ++ (option_to_list s.audio.ends.rings.held ++ replies)
