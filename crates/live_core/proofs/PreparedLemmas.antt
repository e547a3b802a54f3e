-- What is prepared may be run, and is a session as it is made.
use Rattle.std.proofs.Common.{◌≡◌, ◌≤◌, ◌+◌, ◌*◌, ℕ, false, List, [], ◌∷◌, ◌++◌, length, Option, Some, None, refl, sym, ap, ◌∙◌, subst, arith}
use Rattle.std.specs.Prelude.{option_to_list, IsTrue}
use Rattle.sl_base.specs.Limits.{max_quota}
use Rattle.sl_base.specs.Sounds.{Sound}
use Rattle.sl_commands.specs.declared.Block.{Block}
use Rattle.sl_commands.specs.declared.Command.{Command}
use Rattle.sl_commands.specs.declared.Reply.{Reply}
use Rattle.sl_commands.specs.Blocks.{place_of}
use Rattle.sl_commands.specs.Commands.{is_outcome}
use Rattle.sl_ports.specs.declared.keepers.Keeper.{Ghosts as Keeper}
use Rattle.loop_saver.specs.Savers.{SavingOf, underway_in, SaverOf}
use Rattle.midi_bindings.specs.declared.binding.Binding.{Binding}
use Rattle.event_rings.specs.Ends.{PutEnd, TakeEnd, IsNew, max_limit}
use Rattle.senders.specs.Senders.{OscSenderOf, IsNewMidi}
use Rattle.live_ports.specs.Links.{LinkSeen}
use Rattle.live_ports.specs.Sources.{SourceSeen}
use Rattle.engine_steps.specs.Engines.{EngineOf, Beginning, first_engine}
use Rattle.looper_engine.specs.declared.setup.Setup.{Setup}
use Rattle.looper_engine.specs.Beginnings.{beginning_of}
use Rattle.live_steps.specs.Passed.{Passed, none_passed}
use Rattle.audio_ends.specs.Ends.{passed, HasLimits, MayTurn}
use Rattle.audio_ends.specs.Did.{MayGoOn}
use Rattle.audio_ends.proofs.DidLemmas.{may_begin}
use Rattle.saver_serving.specs.Serving.{MayServe}
use Rattle.live_session.specs.Session.{IsMade}
use Rattle.live_joining.specs.Running.{MayTell}
use Rattle.live_joining.specs.Parts.{audio_at, osc_at, midi_at, serving}
use Rattle.live_core.specs.declared.preparing.Prepared.{Prepared}
use Rattle.live_core.specs.Preparing.{IsArranged, IsPrepared}

-- ends that are those of a new ring
new_ring : {T : Type 0} (capacity limit bound : ℕ) (x x' : PutEnd T) (y y' : TakeEnd T) →
    IsNew capacity limit bound x y → x' ≡ x → y' ≡ y → IsNew capacity limit bound x' y'
new_ring capacity limit bound x x' y y' new put take =
    subst (λ (u : PutEnd _). IsNew capacity limit bound u y') (sym put)
    (subst (IsNew capacity limit bound x) (sym take) new)

module _ (s : Setup) (initial : List (List Sound)) (bindings : List Binding) (channels : ℕ)
    (p : Prepared) (h : IsPrepared s initial bindings channels p) where
  abbrev b : Beginning
  b = beginning_of s initial

  osc_new : IsNew 256 s.quota 0 p.osc.ring p.ends.rings.osc
  osc_new =
      new_ring 256 s.quota 0 h.rings.osc.putter p.osc.ring h.rings.osc.taker p.ends.rings.osc
      h.new.osc (ap (λ (x : OscSenderOf). x.ring) h.arranged.osc) h.arranged.ends.osc_is

  midi_new : IsNew 256 s.quota 0 p.midi.ring p.ends.rings.midi
  midi_new =
      new_ring 256 s.quota 0 h.rings.midi.putter p.midi.ring h.rings.midi.taker
      p.ends.rings.midi h.new.midi h.arranged.midi.ring_is h.arranged.ends.midi_is

  releases_new : IsNew 256 (2 * s.quota) 0 p.releases p.ends.rings.saver
  releases_new =
      new_ring 256 (2 * s.quota) 0 h.rings.saver.putter p.releases h.rings.saver.taker
      p.ends.rings.saver h.new.saver h.arranged.releases h.arranged.ends.saver_is

  replies_new : IsNew 256 max_limit 0 p.ends.rings.replies p.replies
  replies_new =
      new_ring 256 max_limit 0 h.rings.replies.putter p.ends.rings.replies
      h.rings.replies.taker p.replies h.new.replies h.arranged.ends.replies_are
      h.arranged.replies

  blocks_new : IsNew 64 max_limit (2 * s.quota) p.ends.rings.blocks p.blocks
  blocks_new =
      new_ring 64 max_limit (2 * s.quota) h.rings.blocks.putter p.ends.rings.blocks
      h.rings.blocks.taker p.blocks h.new.blocks h.arranged.ends.blocks_are h.arranged.blocks

  none_before : passed p.ends.rings ≡ none_passed
  none_before =
      λ i. record {
        osc = osc_new.taken i;
        midi = midi_new.taken i;
        saver = releases_new.taken i;
        replies = replies_new.sent i;
        held = h.arranged.ends.no_reply i;
        blocks = blocks_new.sent i;
      }

  has_limits : HasLimits s.quota p.ends.rings
  has_limits =
      let few = h.quota in
      record {
        osc = (let l = osc_new.take_limit in omega arith);
        midi = (let l = midi_new.take_limit in omega arith);
        replies = (let l = replies_new.put_limit in omega arith);
        blocks = (let l = blocks_new.put_limit in omega arith);
        bound = (let l = blocks_new.put_bound in omega arith);
      }

  pub may_go_on : (source : SourceSeen) (faults : ℕ) (held : Option (List ℕ)) →
      MayGoOn (audio_at p.engine p.ends source faults held)
  may_go_on source faults held =
      record {
        turn = subst (λ (e : EngineOf). MayTurn e p.ends.rings) (sym h.arranged.engine_is)
            (may_begin b p.ends.rings h.begins none_before h.arranged.ends.no_quit has_limits);
        ready = h.arranged.ready;
      }

  may_tell : (x : PutEnd ℕ) (y : PutEnd ℕ) (z : TakeEnd ℕ) → x ≡ y → IsNew 1 1 0 y z → MayTell x
  may_tell x y z is new =
      subst MayTell (sym is)
      (record { unsent = new.sent; room = (let l = new.put_limit in omega arith) })

  pub osc_tells : MayTell p.overs.osc
  osc_tells = may_tell p.overs.osc h.overs.osc.putter h.overs.osc.taker h.arranged.osc_over
      h.new_overs.osc

  pub midi_tells : MayTell p.overs.midi
  midi_tells = may_tell p.overs.midi h.overs.midi.putter h.overs.midi.taker h.arranged.midi_over
      h.new_overs.midi

  pub saver_tells : MayTell p.overs.saver
  saver_tells = may_tell p.overs.saver h.overs.saver.putter h.overs.saver.taker
      h.arranged.saver_over h.new_overs.saver

  no_saving : p.saver.saving ≡ None
  no_saving = ap (λ (x : SaverOf). x.saving) h.arranged.saver

  pub may_serve : {P : Type 0} (keeper : P) →
      MayServe (serving p.saver.saving keeper p.blocks p.releases None)
  may_serve keeper =
      record {
        saves = 0;
        come = record {
          place = ap place_of blocks_new.taken
              ∙ ap (λ (o : Option SavingOf). Some (record { saves = 0; underway = underway_in o }))
              (sym no_saving);
        };
        each = ap (λ (l : List ℕ). length l + 0) releases_new.sent;
        within = omega arith;
        limit = (let x = blocks_new.take_bound in let y = releases_new.put_limit in omega arith);
        outcome = λ o is. absurd (cc);
      }

  pub is_made : {P : Type 0} (keeper : P) (source : SourceSeen) (faults : ℕ)
      (held : Option (List ℕ)) (link : LinkSeen) (bytes : SourceSeen) →
      IsMade b bindings (record {
        audio = audio_at p.engine p.ends source faults held;
        osc = osc_at link p.osc p.replies;
        midi = midi_at bytes p.midi;
        saver = serving p.saver.saving keeper p.blocks p.releases None;
      })
  is_made keeper source faults held link bytes =
      record {
        begins = h.begins;
        bound = h.bound;
        engine = h.arranged.engine_is;
        osc_ring = osc_new;
        midi_ring = midi_new;
        releases = releases_new;
        replies = replies_new;
        blocks = blocks_new;
        no_rest = h.arranged.ends.no_rest;
        no_reply = h.arranged.ends.no_reply;
        no_quit = h.arranged.ends.no_quit;
        osc = ap (λ (x : OscSenderOf). x.account) h.arranged.osc;
        loops = ap (λ (x : OscSenderOf). x.loops) h.arranged.osc;
        midi = subst (λ (r : PutEnd Command). IsNewMidi s.quota bindings r p.midi)
            (sym h.arranged.midi.ring_is) h.arranged.midi;
        no_saving = no_saving;
        no_outcome = refl;
      }
