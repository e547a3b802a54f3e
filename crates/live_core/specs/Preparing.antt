-- A session is prepared: an engine before all frames and entries, new rings, empty accounts, and
-- nothing kept, held or saved. Its rings may be served.
-- "The activities of a session" in docs/rules.md.
use Rattle.std.specs.Prelude.{◌≡◌, ◌≤◌, ℕ, false, List, [], length, None}
use Rattle.sl_base.specs.Limits.{max_quota}
use Rattle.sl_base.specs.Sounds.{Sound}
use Rattle.sl_commands.specs.declared.Command.{Command}
use Rattle.sl_commands.specs.declared.Reply.{Reply}
use Rattle.sl_commands.specs.declared.Block.{Block}
use Rattle.looper_rules.specs.Reached.{IsBeginning}
use Rattle.midi_bindings.specs.declared.binding.Binding.{Binding}
use Rattle.midi_bindings.specs.Texts.{AreBindings}
use Rattle.event_rings.specs.Ends.{PutEnd, TakeEnd}
use Rattle.senders.specs.Tallies.{empty_tally}
use Rattle.senders.specs.Senders.{IsNewMidi}
use Rattle.engine_steps.specs.Engines.{EngineOf, first_engine}
use Rattle.looper_engine.specs.declared.setup.Setup.{Setup}
use Rattle.looper_engine.specs.Beginnings.{beginning_of}
use Rattle.audio_ends.specs.declared.audio.AudioEnds.{AudioEnds}
use Rattle.audio_ends.specs.Did.{IsReady}
use Rattle.live_rings.specs.declared.rings.Rings.{Rings}
use Rattle.live_rings.specs.declared.rings.OverRings.{OverRings}
use Rattle.live_rings.specs.Rings.{AreNew, AreNewOvers}
use Rattle.live_core.specs.declared.preparing.Prepared.{Prepared}

-- the ends of audio are these, with nothing kept or held
pub record AreEnds (osc midi : TakeEnd Command) (saver : TakeEnd ℕ) (replies : PutEnd Reply)
    (blocks : PutEnd Block) (a : AudioEnds) : Type 0 where
  pub osc_is : a.rings.osc ≡ osc
  pub midi_is : a.rings.midi ≡ midi
  pub saver_is : a.rings.saver ≡ saver
  pub replies_are : a.rings.replies ≡ replies
  pub blocks_are : a.rings.blocks ≡ blocks
  pub no_reply : a.rings.held ≡ None
  pub no_quit : a.rings.quit ≡ false
  pub no_rest : a.rest.items ≡ []

-- what the activities own over this engine and these new rings: each end is where it belongs, the
-- accounts are empty, and nothing is saved
pub record IsArranged (s : Setup) (bindings : List Binding) (channels : ℕ) (engine : EngineOf)
    (rings : Rings) (overs : OverRings) (p : Prepared) : Type 0 where
  pub engine_is : p.engine ≡ engine
  pub ends : AreEnds rings.osc.taker rings.midi.taker rings.saver.taker rings.replies.putter
      rings.blocks.putter p.ends
  pub channels_are : p.ends.channels ≡ channels
  pub ready : IsReady p.ends
  pub osc : p.osc ≡ record {
    account = record { tally = empty_tally s.quota; unsent = 0 };
    loops = length s.settings.strips;
    ring = rings.osc.putter;
  }
  pub midi : IsNewMidi s.quota bindings rings.midi.putter p.midi
  pub saver : p.saver ≡ record { rate = s.settings.rate; saving = None }
  pub replies : p.replies ≡ rings.replies.taker
  pub blocks : p.blocks ≡ rings.blocks.taker
  pub releases : p.releases ≡ rings.saver.putter
  pub osc_over : p.overs.osc ≡ overs.osc.putter
  pub midi_over : p.overs.midi ≡ overs.midi.putter
  pub saver_over : p.overs.saver ≡ overs.saver.putter

-- all is prepared for a session with this setup and these lists
pub record IsPrepared (s : Setup) (initial : List (List Sound)) (bindings : List Binding)
    (channels : ℕ) (p : Prepared) : Type 0 where
  pub begins : IsBeginning s.settings s.chunks initial
  pub quota : s.quota ≤ max_quota
  pub bound : AreBindings (length s.settings.strips) bindings
  pub rings : Rings
  pub overs : OverRings
  pub new : AreNew s.quota rings
  pub new_overs : AreNewOvers overs
  pub arranged : IsArranged s bindings channels (first_engine (beginning_of s initial)) rings overs
      p
