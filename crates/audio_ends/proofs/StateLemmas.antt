-- Why the audio stands as it does, and why a turn is short.
use Rattle.std.proofs.Common.{◌≡◌, ◌≢◌, ◌⊎◌, inl, inr, ℕ, zero, suc, ◌≤◌, ◌<◌, Bool, true, false, List, [], ◌∷◌, length, nat_le, refl, sym, ap, ◌∙◌, subst, arith}
use Rattle.std.proofs.lemmas.Bool.{leb-true, leb-false}
use Rattle.sl_base.specs.Limits.{max_session_frames}
use Rattle.sl_base.specs.Counting.{Rose, Counts}
use Rattle.sl_ports.specs.declared.SinkAnswer.{SinkAnswer}
use Rattle.sl_ports.specs.declared.SinkAnswer.TheVariants.{Done, Failed as Unwritten}
use Rattle.sl_ports.specs.Texts.{is_failed}
use Rattle.audio_ends.specs.declared.fill.Halt.{Halt}
use Rattle.audio_ends.specs.declared.fill.Halt.TheVariants.{Whole, Idle, End, Failed}
use Rattle.audio_ends.specs.declared.state.AudioState.{AudioState}
use Rattle.audio_ends.specs.declared.state.Turn.{Turn}
use Rattle.audio_ends.specs.Ends.{passed, has_quit}
use Rattle.audio_ends.specs.Fills.{HaltCause}
use Rattle.audio_ends.specs.Did.{AudioAt}
use Rattle.audio_ends.specs.States.{ended_state, going_state, state_of, StateCause}
use Rattle.audio_ends.specs.Turned.{IsWhole, Turned}

module _ (x y : AudioAt) where
  -- while the input goes on
  going : (quit all_done : Bool) → has_quit (passed y.ends.rings) ≡ quit →
      nat_le max_session_frames y.engine.frames ≡ all_done →
      y.source.faults ≡ x.source.faults → y.sink.faults ≡ x.sink.faults →
      StateCause x y (going_state quit all_done)
  going true all_done quits done read written = quits
  going false true quits done read written = leb-true max_session_frames y.engine.frames done
  going false false quits done read written =
      (read, written, quits, leb-false max_session_frames y.engine.frames done)

  -- at its end
  ended : (kept : List ℕ) → y.ends.rest.items ≡ kept → y.source.ended ≡ true →
      StateCause x y (ended_state (length kept))
  ended [] is end = (end, is)
  ended (b ∷ bs) is end = (end, (let size = ap length is in omega arith))

  -- by what stopped reading and what came of the write
  pub stands_so : (halt : Halt) (answer : SinkAnswer) (quit : Bool) →
      HaltCause x.source y.source halt → Counts x.sink.faults y.sink.faults (is_failed answer) →
      quit ≡ has_quit (passed y.ends.rings) →
      StateCause x y (state_of halt answer (length y.ends.rest.items) quit
      (nat_le max_session_frames y.engine.frames))
  stands_so Failed answer quit cause counts quits = cause
  stands_so Whole Unwritten quit cause counts quits = counts.rose refl
  stands_so Idle Unwritten quit cause counts quits = counts.rose refl
  stands_so End Unwritten quit cause counts quits = counts.rose refl
  stands_so Whole Done quit cause counts quits =
      going quit (nat_le max_session_frames y.engine.frames) (sym quits) refl cause
      (counts.stayed refl)
  stands_so Idle Done quit cause counts quits =
      going quit (nat_le max_session_frames y.engine.frames) (sym quits) refl cause.1
      (counts.stayed refl)
  stands_so End Done quit cause counts quits = ended y.ends.rest.items refl cause.0

  -- a short turn
  pub short_so : (halt : Halt) (count : ℕ) → HaltCause x.source y.source halt →
      IsWhole halt count x y → count < x.ends.most →
      Rose x.source.idles y.source.idles ⊎ (y.source.ended ≡ true)
      ⊎ Rose x.source.faults y.source.faults ⊎ (max_session_frames ≤ y.engine.frames)
  short_so Whole count cause whole short = by_whole (whole refl)
    where
      by_whole : (count ≡ x.ends.most) ⊎ (max_session_frames ≤ y.engine.frames) →
          Rose x.source.idles y.source.idles ⊎ (y.source.ended ≡ true)
          ⊎ Rose x.source.faults y.source.faults ⊎ (max_session_frames ≤ y.engine.frames)
      by_whole (inl is) = absurd (omega arith)
      by_whole (inr all) = inr (inr (inr all))
  short_so Idle count cause whole short = inl cause.0
  short_so End count cause whole short = inr (inl cause.0)
  short_so Failed count cause whole short = inr (inr (inl cause))

pub state_has_cause : (x y : AudioAt) (t : Turn) → Turned x y t → StateCause x y t.state
state_has_cause x y t h =
    subst (StateCause x y) (sym h.state)
    (stands_so x y h.halt h.answer y.ends.rings.quit h.did.halts.cause h.did.counts
    h.did.may.turn.quit)

pub short_has_cause : (x y : AudioAt) (t : Turn) → Turned x y t → t.frames < x.ends.most →
    Rose x.source.idles y.source.idles ⊎ (y.source.ended ≡ true)
    ⊎ Rose x.source.faults y.source.faults ⊎ (max_session_frames ≤ y.engine.frames)
short_has_cause x y t h short =
    short_so x y h.halt (length h.input) h.did.halts.cause h.whole
    (let is = h.frames in omega arith)
