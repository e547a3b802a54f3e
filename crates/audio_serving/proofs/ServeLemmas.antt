-- Turns, one behind another, until the audio is at its end.
use Rattle.std.proofs.Common.{◌≡◌, ◌≢◌, ◌≤◌, ◌+◌, ◌*◌, ℕ, zero, suc, Bool, true, false, List, [], ◌++◌, length, nat_le, Option, Some, None, refl, sym, ap, ◌∙◌, subst, arith, append-nil}
use Rattle.std.specs.Io.KnownBytes.{Appends}
use Rattle.sl_base.specs.Limits.{max_session_frames}
use Rattle.sl_base.specs.Sounds.{Sound}
use Rattle.sl_ports.specs.declared.SinkAnswer.{SinkAnswer}
use Rattle.sl_ports.specs.declared.SinkAnswer.TheVariants.{Done, Failed as Unwritten}
use Rattle.wav_pcm.specs.WavText.{frame_size}
use Rattle.live_ports.specs.Sources.{SourceSeen, Consumes}
use Rattle.live_steps.specs.InStep.{AreInStep}
use Rattle.audio_ends.specs.declared.Halt.{Halt}
use Rattle.audio_ends.specs.declared.Halt.TheVariants.{Whole, Idle, End, Failed}
use Rattle.audio_ends.specs.declared.AudioState.{AudioState}
use Rattle.audio_ends.specs.declared.AudioState.TheVariants.{ReadFault, WriteFault, Torn, EndOfInput, Quit, LongInput, More}
use Rattle.audio_ends.specs.declared.Turn.{Turn}
use Rattle.audio_ends.specs.Ends.{passed}
use Rattle.audio_ends.specs.Did.{AudioAt, MayGoOn, AudioDid, HasMore}
use Rattle.audio_ends.specs.States.{state_of, ended_state, going_state}
use Rattle.audio_ends.specs.Turned.{Turned}
use Rattle.audio_ends.proofs.TurnLemmas.{on_none}
use Rattle.audio_ends.proofs.FillLemmas.{or-false}
use Rattle.audio_ends.proofs.DidLemmas.{did_then}
use Rattle.audio_serving.specs.Serving.{Served}

consumes_none : (left : Option (List ℕ)) → Consumes left [] left
consumes_none None = tt
consumes_none (Some bytes) = refl

appends_none : (held : Option (List ℕ)) → Appends held held []
appends_none None = tt
appends_none (Some bytes) = sym (append-nil bytes)

-- no turn
nothing_did : (x : AudioAt) → MayGoOn x → AudioDid [] [] Whole Done x x
nothing_did x may =
    record {
      step = λ b input output is.
          subst (λ (l : List Sound × List Sound). AreInStep b l.0 l.1 x.engine (passed
          x.ends.rings))
          (λ i. (sym (append-nil input) i, sym (append-nil output) i)) is;
      rings = on_none x.ends.rings;
      may = may;
      frames = omega arith;
      quota = refl;
      channels = refl;
      most = refl;
      read = record {
        got = [];
        whole = [];
        consumes = consumes_none x.source.left;
        cut = append-nil x.ends.rest.items;
        size = (let none : 0 * frame_size x.ends.channels 16 ≡ 0 = omega arith in sym none);
        are = refl;
      };
      halts = record {
        cause = refl;
        ended = sym (or-false x.source.ended);
        faults = omega arith;
        idles = omega arith;
      };
      wrote = appends_none x.sink.held;
      counts = record { later = omega arith; rose = λ is. absurd (cc); stayed = λ is. refl };
    }

-- turns went on so far: none failed to read or to write, or came to the end
pub record GoneOn (x y : AudioAt) : Type 0 where
  pub input : List Sound
  pub output : List Sound
  pub halt : Halt
  pub fine : HasMore halt
  pub did : AudioDid input output halt Done x y

pub gone_nowhere : (x : AudioAt) → MayGoOn x → GoneOn x x
gone_nowhere x may =
    record { input = []; output = []; halt = Whole; fine = tt; did = nothing_did x may }

-- the audio goes on only where neither failed, and more may come
went_fine : (halt : Halt) (answer : SinkAnswer) (kept : ℕ) (quit done : Bool) →
    state_of halt answer kept quit done ≡ More → HasMore halt × (answer ≡ Done)
went_fine Failed answer kept quit done is = absurd (cc)
went_fine Whole Unwritten kept quit done is = absurd (cc)
went_fine Idle Unwritten kept quit done is = absurd (cc)
went_fine End Unwritten kept quit done is = absurd (cc)
went_fine Whole Done kept quit done is = (tt, refl)
went_fine Idle Done kept quit done is = (tt, refl)
went_fine End Done zero quit done is = absurd (cc)
went_fine End Done (suc kept) quit done is = absurd (cc)

-- one turn more
pub gone_further : (x y z : AudioAt) (t : Turn) → GoneOn x y → Turned y z t → t.state ≡ More →
    GoneOn x z
gone_further x y z t h k more =
    let fine = went_fine k.halt k.answer (length z.ends.rest.items) z.ends.rings.quit
    (nat_le max_session_frames z.engine.frames) (sym k.state ∙ more)
    in record {
      input = h.input ++ k.input;
      output = h.output ++ k.output;
      halt = k.halt;
      fine = fine.0;
      did = did_then h.input h.output k.input k.output h.halt k.halt Done x y z h.fine h.did
          (subst (λ a. AudioDid k.input k.output k.halt a y z) fine.1 k.did);
    }

-- and the last one
pub served_all : (x y z : AudioAt) (t : Turn) → GoneOn x y → Turned y z t → t.state ≢ More →
    Served x z t.state
served_all x y z t h k over =
    record {
      input = h.input ++ k.input;
      output = h.output ++ k.output;
      halt = k.halt;
      answer = k.answer;
      did = did_then h.input h.output k.input k.output h.halt k.halt k.answer x y z h.fine h.did
          k.did;
      state = k.state;
      over = over;
    }
