-- A turn, from its parts.
use Rattle.std.proofs.Common.{◌≡◌, ◌⊎◌, inl, inr, ⊎_elim, ◌≤◌, ◌<◌, ◌+◌, ◌++◌, ℕ, Bool, List, length, refl, sym, ap, ◌∙◌, subst, arith}
use Rattle.std.specs.Prelude.{nat_le}
use Rattle.sl_base.specs.Limits.{max_session_frames, max_period}
use Rattle.sl_base.specs.Sounds.{Sound}
use Rattle.frame_stamp.specs.Journals.{JournalOf}
use Rattle.engine_steps.specs.Engines.{EngineOf, went_on, put_out}
use Rattle.live_steps.specs.InStep.{GoOnInStep, AreInStep}
use Rattle.live_steps.proofs.StepLemmas.{frames_step}
use Rattle.audio_ends.specs.declared.RingEnds.{RingEnds}
use Rattle.audio_ends.specs.declared.AudioEnds.{AudioEnds}
use Rattle.audio_ends.specs.declared.AudioState.{AudioState}
use Rattle.audio_ends.specs.declared.Stop.{Stop}
use Rattle.audio_ends.specs.declared.Stops.{Stops}
use Rattle.audio_ends.specs.declared.Turn.{Turn}
use Rattle.wav_pcm.specs.WavText.{IsFormat, frame_size}
use Rattle.live_ports.specs.Sources.{SourceSeen}
use Rattle.audio_ends.specs.Ends.{passed, GoOn, MayTurn}
use Rattle.audio_ends.specs.Turns.{Stays, EntersNow, Takes, Cause, Causes, BlockCause}
use Rattle.audio_ends.specs.Did.{IsReady, SinkSeen, AudioAt}
use Rattle.audio_ends.specs.States.{state_of}
use Rattle.audio_ends.specs.Turned.{Turned}
use Rattle.audio_ends.proofs.TurnLemmas.{on_then, cause_stays, block_cause_since}
use Rattle.live_audio.specs.declared.play.Played.{Played}
use Rattle.live_audio.specs.Plays.{Plays}

went_may : (xs : List Sound) (m : EngineOf) (a : RingEnds) → MayTurn m a → MayTurn (went_on xs m) a
went_may xs m a may =
    let h = may.step
    in record {
      step = (h.0, h.1 ++ xs, h.2 ++ put_out xs m, frames_step xs m (passed a) h.0 h.1 h.2 h.3);
      limits = may.limits;
      osc = may.osc;
      midi = may.midi;
      quit = may.quit;
    }

pub may_put_blocks : (xs : List Sound) (m n : EngineOf) (a b : RingEnds) → MayTurn m a →
    n ≡ went_on xs m → b ≡ a → MayTurn n b
may_put_blocks xs m n a b may is same =
    subst (MayTurn n) (sym same) (subst (λ f. MayTurn f a) (sym is) (went_may xs m a may))

-- what was entered before the frames is all
entered_before : (e m next : EngineOf) → next.journal ≡ m.journal → EntersNow e m →
    EntersNow e next
entered_before e m next same h =
    record {
      more = h.more;
      entries = ap (λ (j : JournalOf). j.entries) same ∙ h.entries;
      now = h.now;
    }

-- all parts of a turn: what was taken, the period, and the blocks
pub turned : (e m k next : EngineOf) (old last : AudioEnds) (b : RingEnds) (s t : SourceSeen)
    (o u : SinkSeen) (taken : Stops) (blocks : Stop) (p : Played) (done : Bool)
    (state : AudioState) → MayTurn e old.rings → IsReady old → Takes e m old.rings b → Causes e
    old.rings b taken →
    Plays old.channels old.most m k s t o u old.rest.items last.rest.items p →
    last.channels ≡ old.channels → last.most ≡ old.most → Stays k next b last.rings → next.journal ≡
    k.journal →
    BlockCause next b last.rings blocks → done ≡ nat_le max_session_frames next.frames →
    state ≡ state_of p.halt p.answer (length last.rest.items) last.rings.quit done →
    Turned (record { engine = e; ends = old; source = s; sink = o })
    (record { engine = next; ends = last; source = t; sink = u })
    (record {
      frames = p.frames;
      osc = taken.osc;
      midi = taken.midi;
      saver = taken.saver;
      blocks = blocks;
      state = state;
    })
turned e m k next old last b s t o u taken blocks p done state may ready takes causes plays same
    size stays
    journal cause all is =
    let xs = plays.input
    in let out = plays.output
    in let d = last.rings
    in let played : GoOnInStep xs out m (passed b) k (passed b) =
    subst (λ (y : List Sound × EngineOf). GoOnInStep xs y.0 m (passed b) y.1 (passed b))
    (λ i. (sym plays.heard i, sym plays.engine i)) (frames_step xs m (passed b))
    in let step : GoOnInStep xs out e (passed old.rings) next (passed d) =
    λ begin input output h.
    stays.step begin (input ++ xs) (output ++ out)
    (played begin input output (takes.stays.step begin input output h))
    in let there = may.step
    in let frames_k = ap (λ (f : EngineOf). f.frames) plays.engine
    in let journal_m : next.journal ≡ m.journal =
    journal ∙ ap (λ (f : EngineOf). f.journal) plays.engine
    in let channels = sym same
    in record {
      input = xs;
      output = out;
      halt = p.halt;
      answer = p.answer;
      did = record {
        step = step;
        rings = on_then old.rings b d takes.stays.on stays.on;
        may = record {
          turn = stays.may;
          ready = record {
            format = subst (λ c. IsFormat c 16) channels ready.format;
            some = subst (λ n. 1 ≤ n) (sym size) ready.some;
            within = subst (λ n. n ≤ max_period) (sym size) ready.within;
            few = subst (λ c. length last.rest.items < frame_size c 16) channels plays.few;
          };
        };
        frames = stays.frames ∙ frames_k ∙ ap (λ n. n + length xs) takes.stays.frames;
        quota = (step there.0 there.1 there.2 there.3).engine.quota ∙ sym there.3.engine.quota;
        channels = same;
        most = size;
        read = plays.read;
        halts = plays.halts;
        wrote = plays.wrote;
        counts = plays.counts;
      };
      frames = plays.frames;
      within = plays.within;
      whole = λ read_all.
          ⊎_elim (λ (full : length xs ≡ old.most). inl full)
          (λ (done : max_session_frames ≤ k.frames).
          inr (let more = stays.frames in omega (arith, done))) (plays.whole read_all);
      now = entered_before e m next journal_m takes.now;
      osc = cause_stays 0 e old.rings b d taken.osc stays.on causes.osc;
      midi = cause_stays 1 e old.rings b d taken.midi stays.on causes.midi;
      saver = cause_stays 2 e old.rings b d taken.saver stays.on causes.saver;
      blocks = block_cause_since next old.rings b d blocks takes.stays.on cause;
      state = is ∙ ap (λ all_done. state_of p.halt p.answer (length last.rest.items) d.quit
          all_done)
          all;
    }

-- where the period left the rings as they were
pub turned_over : (e m k next : EngineOf) (old last : AudioEnds) (b now : RingEnds)
    (s t : SourceSeen) (o u : SinkSeen) (taken : Stops) (blocks : Stop) (p : Played)
    (done : Bool) (state : AudioState) → MayTurn e old.rings → IsReady old → Takes e m old.rings b →
    Causes e old.rings b taken →
    Plays old.channels old.most m k s t o u old.rest.items last.rest.items p →
    last.channels ≡ old.channels → last.most ≡ old.most → now ≡ b →
    Stays k next now last.rings → next.journal ≡ k.journal → BlockCause next now last.rings blocks →
    done ≡ nat_le max_session_frames next.frames →
    state ≡ state_of p.halt p.answer (length last.rest.items) last.rings.quit done →
    Turned (record { engine = e; ends = old; source = s; sink = o })
    (record { engine = next; ends = last; source = t; sink = u })
    (record {
      frames = p.frames;
      osc = taken.osc;
      midi = taken.midi;
      saver = taken.saver;
      blocks = blocks;
      state = state;
    })
turned_over e m k next old last b now s t o u taken blocks p done state may ready takes causes plays
    same
    size rings stays journal cause all is =
    turned e m k next old last b s t o u taken blocks p done state may ready takes causes plays same
    size
    (subst (λ r. Stays k next r last.rings) rings stays) journal
    (subst (λ r. BlockCause next r last.rings blocks) rings cause) all is
