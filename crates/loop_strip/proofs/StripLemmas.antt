-- What is read of a strip is read of its loop of frames.
use Rattle.std.proofs.Common.{◌≡◌, ℕ, ◌≤◌, [], length, sym, ap, ap₂, ◌∙◌, pos, arith}
use Rattle.std.proofs.lemmas.List.{length-map}
use Rattle.sl_base.specs.Sounds.{Sound}
use Rattle.sl_commands.specs.declared.Control.{Control}
use Rattle.sl_commands.specs.declared.Face.{Face}
use Rattle.sl_commands.specs.declared.StripSettings.{StripSettings}
use Rattle.looper_rules.specs.Stack.{Stack, pinned_list}
use Rattle.looper_rules.specs.Loop.{Controls, face_of}
use Rattle.looper_rules.specs.Values.{loop_value, reply_value}
use Rattle.looper_rules.specs.Saves.{saved_cycle, strip_of as settings_of}
use Rattle.looper_rules.specs.Run.{first_loop}
use Rattle.loop_tape.specs.Pools.{PoolOf}
use Rattle.loop_tape.specs.Tapes.{at}
use Rattle.layer_memory.specs.Seen.{seen as seen_layers}
use Rattle.loop_strip.specs.Strips.{StripOf, seen, free_in}
use Rattle.loop_strip.specs.declared.parts.Parts.{Parts}
use Rattle.loop_strip.specs.Parts.{loop_of, strip_of}
use Rattle.layer_memory.proofs.SeenLemmas.{pinned_list-mapped}
use Rattle.loop_strip.proofs.DidLemmas.{seen_face, seen_controls}
use Rattle.loop_strip.proofs.FrameLemmas.{seen_stack}

-- the face, as contracts see it
pub face_at : (s : Parts) (t : StripOf) (p : PoolOf) → strip_of s ≡ t →
    face_of (loop_of s) ≡ face_of (seen t p)
face_at s t p is = sym (seen_face (strip_of s) p) ∙ ap (λ (u : StripOf). face_of (seen u p)) is

-- the controls
pub controls_at : (s : Parts) (t : StripOf) (p : PoolOf) → strip_of s ≡ t →
    (loop_of s).controls ≡ (seen t p).controls
controls_at s t p is =
    sym (seen_controls (strip_of s) p) ∙ ap (λ (u : StripOf). (seen u p).controls) is

-- the pinned list
pub pinned_at : (s : Parts) (t : StripOf) (p : PoolOf) → strip_of s ≡ t →
    pinned_list (seen_layers s.layers p).pin ≡ pinned_list (seen t p).stack.pin
pinned_at s t p is = ap (λ (u : Stack Sound). pinned_list u.pin)
    (sym (seen_stack s p)) ∙ ap (λ (u : StripOf). pinned_list (seen u p).stack.pin) is

-- a value
pub told_at : (control : Control) (free : ℕ) (s : Parts) (t : StripOf) (p : PoolOf) →
    strip_of s ≡ t → free ≡ free_in p →
    reply_value (pos (loop_value control free (loop_of s).controls (face_of (loop_of s))))
    ≡ reply_value (pos (loop_value control (free_in p) (seen t p).controls (face_of (seen t p))))
told_at control free s t p is free_is =
    ap (λ n. reply_value (pos (loop_value control n (loop_of s).controls (face_of (loop_of s)))))
    free_is
    ∙ ap₂ (λ (c : Controls) (f : Face). reply_value (pos (loop_value control (free_in p) c f)))
    (controls_at s t p is) (face_at s t p is)

-- a new strip
pub seen_new : (settings : StripSettings) (chunks : ℕ) (t : StripOf) (p : PoolOf) →
    t ≡ record {
      loop = first_loop [] settings;
      tape =
          record { chunks = []; len = 0; room = chunks };
    } → seen t p ≡ first_loop [] settings
unfolding seen
seen_new settings chunks t p is = ap (λ (u : StripOf). seen u p) is

-- a save tells what the face and the controls tell
abbrev settings_by : Face → Controls → StripSettings
settings_by f c = record {
  length = f.length;
  cycle = saved_cycle f.mode f.length f.cycle;
  feedback = c.feedback;
  wet = c.wet;
  round = c.round;
  quantize = c.quantize;
  rec_thresh =
      c.rec_thresh;
}

-- the settings
pub settings_at : (s : Parts) (t : StripOf) (p : PoolOf) → strip_of s ≡ t →
    settings_of (loop_of s) ≡ settings_of (seen t p)
settings_at s t p is = ap₂ settings_by (face_at s t p is) (controls_at s t p is)

-- the pinned list of addresses is as long as that of frames
pub pinned_length : (s : Parts) (t : StripOf) (p : PoolOf) → strip_of s ≡ t →
    length (pinned_list s.layers.stack.pin) ≡ length (pinned_list (seen t p).stack.pin)
pinned_length s t p is =
    sym (length-map (pinned_list s.layers.stack.pin) (at s.layers.tape p))
    ∙ ap length (sym (pinned_list-mapped (at s.layers.tape p) s.layers.stack.pin))
    ∙ ap length (pinned_at s t p is)

-- places of the pinned list
pub saved_within : (k : ℕ) (s : Parts) (t : StripOf) (p : PoolOf) → strip_of s ≡ t →
    k ≤ length (pinned_list (seen t p).stack.pin) → k ≤ length (pinned_list s.layers.stack.pin)
saved_within k s t p is within = let e = pinned_length s t p is in omega arith

pub ruleset pinned_reads = (saved_within)
