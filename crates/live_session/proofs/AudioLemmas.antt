-- Why the audio ended, and what was written.
use Rattle.std.proofs.Common.{◌≡◌, ◌≢◌, ◌≤◌, ℕ, Bool, true, false, ◌||◌, ◌==◌, List, [], ◌∷◌, ◌++◌, length, inl, inr, Option, refl, sym, ap, ◌∙◌, subst, arith}
use Rattle.std.specs.List.{list_any}
use Rattle.std.proofs.lemmas.List.Folds.{list_any-append}
use Rattle.sl_base.specs.Limits.{max_session_frames}
use Rattle.sl_base.specs.Counting.{Counts}
use Rattle.sl_commands.specs.declared.Command.{Command}
use Rattle.sl_commands.specs.declared.Entry.{Entry}
use Rattle.sl_commands.specs.Entries.{commands_of}
use Rattle.sl_ports.specs.declared.SinkAnswer.{SinkAnswer}
use Rattle.sl_ports.specs.declared.SinkAnswer.TheVariants.{Done, Failed as Unwritten}
use Rattle.sl_ports.specs.Texts.{is_failed, Writes, Tells}
use Rattle.live_ports.specs.Sources.{SourceSeen}
use Rattle.audio_ends.specs.declared.fill.Halt.{Halt}
use Rattle.audio_ends.specs.declared.fill.Halt.TheVariants.{Whole, Idle, End, Failed}
use Rattle.audio_ends.specs.declared.state.AudioState.TheVariants.{More}
use Rattle.audio_ends.specs.Ends.{is_quit}
use Rattle.audio_ends.specs.Fills.{Halts}
use Rattle.audio_ends.specs.Did.{SinkSeen}
use Rattle.audio_ends.specs.States.{state_of, going_state}
use Rattle.audio_ends.proofs.FillLemmas.{or-false}
use Rattle.live_session.specs.Whole.{HadNoFault, WhyEnded, has_quit}
use Rattle.live_session.proofs.JournalLemmas.{with_one, commands_of-cons}

pub tells_of : (old new : Option (List ℕ)) (before now : ℕ) (bytes : List ℕ)
    (answer : SinkAnswer) → Writes old new bytes answer → Counts before now (is_failed answer) →
    Tells before now old new bytes
tells_of old new before now bytes Done wrote counts = inl wrote
tells_of old new before now bytes Unwritten wrote counts = inr (counts.rose refl, wrote)

module _ (source source' : SourceSeen) (sink sink' : SinkSeen) (journal : List Entry)
    (frames : ℕ) where
  -- the audio went on, without a fault, to a quit or to the last frame
  why_going : (rest : List ℕ) (quit done : Bool) → HadNoFault source source' sink sink' →
      source'.ended ≡ source.ended →
      (quit ≡ true → has_quit journal ≡ true) → (done ≡ true → max_session_frames ≤ frames) →
      going_state quit done ≢ More →
      WhyEnded (going_state quit done) source source' sink sink' rest journal frames
  why_going rest true done fine same quits ends over = (fine, quits refl, same)
  why_going rest false true fine same quits ends over = (fine, ends refl, same)
  why_going rest false false fine same quits ends over = absurd (over refl)

  pub why_ended : (halt : Halt) (answer : SinkAnswer) (rest : List ℕ) (quit done : Bool) →
      Halts source source' halt → Counts sink.faults sink'.faults (is_failed answer) →
      (quit ≡ true → has_quit journal ≡ true) → (done ≡ true → max_session_frames ≤ frames) →
      state_of halt answer (length rest) quit done ≢ More →
      WhyEnded (state_of halt answer (length rest) quit done) source source' sink sink' rest
      journal frames
  why_ended Failed answer rest quit done halts counts quits ends over = halts.cause
  why_ended Whole Unwritten rest quit done halts counts quits ends over =
      (halts.cause, counts.rose refl)
  why_ended Idle Unwritten rest quit done halts counts quits ends over =
      (halts.cause.1, counts.rose refl)
  why_ended End Unwritten rest quit done halts counts quits ends over =
      (halts.cause.1, counts.rose refl)
  why_ended Whole Done rest quit done halts counts quits ends over =
      why_going rest quit done
      (record { reads = halts.cause; writes = counts.stayed refl })
      (halts.ended ∙ or-false source.ended) quits ends over
  why_ended Idle Done rest quit done halts counts quits ends over =
      why_going rest quit done
      (record { reads = halts.cause.1; writes = counts.stayed refl })
      (halts.ended ∙ or-false source.ended) quits ends over
  why_ended End Done [] quit done halts counts quits ends over =
      (record { reads = halts.cause.1; writes = counts.stayed refl }, halts.cause.0, refl)
  why_ended End Done (x ∷ rest) quit done halts counts quits ends over =
      (record { reads = halts.cause.1; writes = counts.stayed refl }, halts.cause.0, omega arith)

-- a quit among a sender's commands stands in the journal
quit_first : (b q : Bool) (c : Command) (cs : List Command) (rest : Bool) → is_quit c ≡ q →
    list_any is_quit (with_one b c cs) ≡ true → (list_any is_quit cs ≡ true → rest ≡ true) →
    (q || rest) ≡ true
quit_first true true c cs rest is any others = refl
quit_first true false c cs rest is any others =
    others (sym (ap (λ (x : Bool). x || list_any is_quit cs) is) ∙ any)
quit_first false true c cs rest is any others = refl
quit_first false false c cs rest is any others = others any

pub quit_entered : (sender : ℕ) (es : List Entry) →
    list_any is_quit (commands_of sender es) ≡ true → has_quit es ≡ true
quit_entered sender [] any = any
quit_entered sender (e ∷ es) any =
    quit_first (e.sender == sender) (is_quit e.command) e.command (commands_of sender es)
    (has_quit es) refl
    (subst (λ (cs : List Command). list_any is_quit cs ≡ true) (commands_of-cons sender e es) any)
    (quit_entered sender es)

either : (x y z : Bool) → (x || y) ≡ true → (x ≡ true → z ≡ true) → (y ≡ true → z ≡ true) → z ≡ true
either true y z is first second = first refl
either false y z is first second = second is

-- so does one that was taken of either ring
pub quit_taken : (es : List Entry) (osc midi osc_left midi_left : List Command) →
    commands_of 0 es ≡ osc ++ osc_left → commands_of 1 es ≡ midi ++ midi_left →
    (list_any is_quit osc || list_any is_quit midi) ≡ true → has_quit es ≡ true
quit_taken es osc midi osc_left midi_left osc_are midi_are any =
    either (list_any is_quit osc) (list_any is_quit midi) (has_quit es) any
    (λ is. quit_entered 0 es (among osc osc_left 0 osc_are is))
    (λ is. quit_entered 1 es (among midi midi_left 1 midi_are is))
  where
    front : (xs ys : List Command) → list_any is_quit xs ≡ true →
        list_any is_quit (xs ++ ys) ≡ true
    front xs ys is = list_any-append is_quit xs ys ∙ ap (λ (x : Bool). x || list_any is_quit ys) is

    among : (xs ys : List Command) (sender : ℕ) → commands_of sender es ≡ xs ++ ys →
        list_any is_quit xs ≡ true → list_any is_quit (commands_of sender es) ≡ true
    among xs ys sender are is = ap (list_any is_quit) are ∙ front xs ys is
