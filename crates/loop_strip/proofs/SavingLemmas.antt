-- New strips, controls and pins.
use Rattle.std.proofs.Common.{◌≡◌, ℕ, Bool, true, false, ◌&&◌, [], is_some, refl, sym, ap, subst, ◌∙◌, arith, IsTrue, pos, nat_le}
use Rattle.std.specs.Prelude.{unsigned_abs, ℤ, negsuc}
use Rattle.sl_commands.specs.declared.Control.{Control}
use Rattle.sl_commands.specs.declared.Control.TheVariants.{Feedback, Wet, Round, Quantize, RecThresh}
use Rattle.sl_commands.specs.declared.Mode.TheVariants.{Off}
use Rattle.sl_commands.specs.Controls.{is_in_range}
use Rattle.sl_commands.specs.declared.StripSettings.{StripSettings}
use Rattle.sl_commands.specs.Settings.{is_strip, is_cycle_of}
use Rattle.sl_base.specs.Limits.{max_list_frames}
use Rattle.looper_rules.specs.Room.{chunks_of}
use Rattle.looper_rules.specs.Stack.{Stack, empty_stack}
use Rattle.looper_rules.specs.Loop.{Loop, Controls, is_writing, with_stack}
use Rattle.looper_rules.specs.Values.{AreControls, with_control}
use Rattle.looper_rules.specs.Saves.{pinned, unpinned}
use Rattle.looper_rules.specs.Entries.{sets}
use Rattle.looper_rules.specs.Run.{first_loop, controls_of as set_by}
use Rattle.looper_rules.specs.States.{IsLoop}
use Rattle.looper_rules.specs.Reached.{Keeps}
use Rattle.looper_laws.proofs.Kept.Saves.{pinned_keeps, unpinned_keeps}
use Rattle.layer_memory.specs.Seen.{Held}
use Rattle.layer_memory.specs.Sharing.{IsShared}
use Rattle.loop_strip.specs.Strips.{loop_map, reach_in, DidAlone}
use Rattle.loop_strip.specs.declared.parts.Parts.{Parts}
use Rattle.loop_strip.specs.declared.deck.Deck.{Deck}
use Rattle.loop_strip.specs.declared.deck.Controls.{Controls as ControlsIn}
use Rattle.loop_strip.specs.Parts.{loop_of, strip_of, controls_of, IsWhole}
use Rattle.layer_memory.proofs.SeenLemmas.{pinned-mapped}
use Rattle.loop_strip.proofs.Whole.{own, own_keeps}
use Rattle.loop_strip.proofs.DidLemmas.{did_as}

-- pins
whole_pin : (b : Bool) (s s' : Parts) → IsWhole s →
    Keeps (record (own (chunks_of s.layers.stack.tape) s) { pinned = b }) (loop_of s') →
    s'.pinned ≡ b → s'.layers.writing ≡ s.layers.writing → s'.deck ≡ s.deck →
    s'.controls ≡ s.controls → IsWhole s'
whole_pin b s s' w k pinned writing deck controls = record {
  loop = k.loop;
  writing = writing ∙ w.writing ∙ ap (λ (d : Deck). is_writing d.mode) (sym deck);
  pinned = k.pinned ∙ sym pinned;
  controls = subst (λ (c : ControlsIn). AreControls (controls_of c)) (sym controls) w.controls;
}

-- a pin keeps the parts whole
pub whole_pinned : (s : Parts) (h : Held) → IsWhole s → h.stack ≡ pinned s.layers.stack →
    h.writing ≡ s.layers.writing → IsWhole (record s { pinned = true; layers = h })
whole_pinned s h w stack writing =
    whole_pin true s (record s { pinned = true; layers = h }) w
    (subst (λ (t : Stack ℕ).
    Keeps (record (own (chunks_of s.layers.stack.tape) s) { pinned = true })
    (with_stack t (loop_of s))) (sym stack) (pinned_keeps (own_keeps s w))) refl writing refl refl

-- so does its release
pub whole_unpinned : (s : Parts) (h : Held) → IsWhole s → h.stack ≡ unpinned s.layers.stack →
    h.writing ≡ s.layers.writing → IsWhole (record s { pinned = false; layers = h })
whole_unpinned s h w stack writing =
    whole_pin false s (record s { pinned = false; layers = h }) w
    (subst (λ (t : Stack ℕ).
    Keeps (record (own (chunks_of s.layers.stack.tape) s) { pinned = false })
    (with_stack t (loop_of s))) (sym stack) (unpinned_keeps (own_keeps s w))) refl writing refl
    refl

-- a pin is what the rules say
pub did_pinned : (s : Parts) (h : Held) (b : Bool) → h.stack ≡ pinned s.layers.stack →
    h.tape ≡ s.layers.tape → IsShared h → DidAlone (λ reach l. with_stack (pinned l.stack) l)
    (strip_of s) (strip_of (record s { pinned = b; layers = h }))
did_pinned s h b stack tape shared = λ p o.
    did_as (λ reach l. with_stack (pinned l.stack) l) (λ reach l. with_stack (pinned l.stack) l) s
    (record s { pinned = b; layers = h }) p o tape shared
    (λ f reach l. ap (λ t. with_stack t (loop_map f l)) (pinned-mapped f l.stack))
    (ap (λ t. with_stack t (loop_of s)) stack)

-- and so is its release
pub did_unpinned : (s : Parts) (h : Held) (b : Bool) → h.stack ≡ unpinned s.layers.stack →
    h.tape ≡ s.layers.tape → IsShared h → DidAlone (λ reach l. with_stack (unpinned l.stack) l)
    (strip_of s) (strip_of (record s { pinned = b; layers = h }))
did_unpinned s h b stack tape shared = λ p o.
    did_as (λ reach l. with_stack (unpinned l.stack) l) (λ reach l. with_stack (unpinned l.stack) l)
    s (record s { pinned = b; layers = h }) p o tape shared
    (λ f reach l. refl) (ap (λ t. with_stack t (loop_of s)) stack)

-- settings in their ranges give controls in their ranges
and_parts : (a b : Bool) → (a && b) ≡ true → (a ≡ true) × (b ≡ true)
and_parts true b h = (refl, h)
and_parts false b h = let off : ⊥ = cc in absurd off

last_five : (a b c d e f g : Bool) → (a && b && c && d && e && f && g) ≡ true → (c ≡ true)
    × (d ≡ true) × (e ≡ true) × (f ≡ true) × (g ≡ true)
last_five a b c d e f g h =
    let one = and_parts (a && b && c && d && e && f) g h
    in let two = and_parts (a && b && c && d && e) f one.0
    in let three = and_parts (a && b && c && d) e two.0
    in let four = and_parts (a && b && c) d three.0
    in let five = and_parts (a && b) c four.0
    in (five.1, four.1, three.1, two.1, one.1)

new_controls : (s : StripSettings) → is_strip s ≡ true → AreControls (set_by s)
new_controls s is =
    let h = last_five (nat_le s.length max_list_frames) (is_cycle_of s.length s.cycle)
    (is_in_range Feedback (pos s.feedback) 0) (is_in_range Wet (pos s.wet) 0)
    (is_in_range Round (pos s.round) 0) (is_in_range Quantize (pos s.quantize) 0)
    (is_in_range RecThresh (pos s.rec_thresh) 0) is
    in record { feedback = h.0; wet = h.1; round = h.2; quantize = h.3; rec_thresh = h.4 }

-- a new loop is whole
pub new_whole : (settings : StripSettings) (s : Parts) (chunks : ℕ) → is_strip settings ≡ true →
    loop_of s ≡ first_loop [] settings → s.layers.writing ≡ false → s.deck.mode ≡ Off →
    s.pinned ≡ false → s.layers.stack ≡ empty_stack → IsWhole s
new_whole settings s chunks is loop_is writing off unpinned stack = record {
  loop = subst (λ (l : Loop ℕ). IsLoop l) (sym loop_is) (record {
    in_mode = ((refl, refl), tt);
    streak = refl;
    stack = record {
      layers_within = tt;
      redo_within = tt;
      pin_within = omega arith;
      count =
          omega arith;
      seams = omega arith;
      order = tt;
      redo_order = tt;
    };
    refused = omega arith;
  });
  writing = writing ∙ sym (ap is_writing off);
  pinned = ap (λ (t : Stack ℕ). is_some t.pin) stack ∙ sym unpinned;
  controls = subst AreControls (sym (ap (λ (l : Loop ℕ). l.controls) loop_is))
      (new_controls settings is);
}

pub ruleset pinning = (whole_pinned, whole_unpinned, did_pinned, did_unpinned)

-- controls set
pub whole_set : (s : Parts) (h : ControlsIn) → IsWhole s → AreControls (controls_of h) →
    IsWhole (record s { controls = h })
whole_set s h w in_range = record {
  loop = record {
    in_mode = w.loop.in_mode;
    streak = w.loop.streak;
    stack = w.loop.stack;
    refused =
        w.loop.refused;
  };
  writing = w.writing;
  pinned = w.pinned;
  controls = in_range;
}

-- a control stays in its range
pub set_in_range : (control : Control) (value : ℤ) (c : Controls) →
    IsTrue (is_in_range control value 0) → AreControls c →
    AreControls (with_control control (unsigned_abs value) c)
set_in_range Feedback (pos n) c is h =
    record {
      feedback = is;
      wet = h.wet;
      round = h.round;
      quantize = h.quantize;
      rec_thresh =
          h.rec_thresh;
    }
set_in_range Wet (pos n) c is h =
    record {
      feedback = h.feedback;
      wet = is;
      round = h.round;
      quantize = h.quantize;
      rec_thresh =
          h.rec_thresh;
    }
set_in_range Round (pos n) c is h =
    record {
      feedback = h.feedback;
      wet = h.wet;
      round = is;
      quantize = h.quantize;
      rec_thresh =
          h.rec_thresh;
    }
set_in_range Quantize (pos n) c is h =
    record {
      feedback = h.feedback;
      wet = h.wet;
      round = h.round;
      quantize = is;
      rec_thresh =
          h.rec_thresh;
    }
set_in_range RecThresh (pos n) c is h =
    record {
      feedback = h.feedback;
      wet = h.wet;
      round = h.round;
      quantize =
          h.quantize;
      rec_thresh = is;
    }
set_in_range Feedback (negsuc n) c is h = let off : ⊥ = cc in absurd off
set_in_range Wet (negsuc n) c is h = let off : ⊥ = cc in absurd off
set_in_range Round (negsuc n) c is h = let off : ⊥ = cc in absurd off
set_in_range Quantize (negsuc n) c is h = let off : ⊥ = cc in absurd off
set_in_range RecThresh (negsuc n) c is h = let off : ⊥ = cc in absurd off
set_in_range _ value c is h = h

-- a control set is what the rules say
pub did_set : (control : Control) (value : ℤ) (s s' : Parts) → s'.layers ≡ s.layers →
    IsShared s'.layers → ((reach : ℕ) → loop_of s' ≡ sets control value reach (loop_of s)) →
    DidAlone (sets control value) (strip_of s) (strip_of s')
did_set control value s s' layers shared is = λ p o.
    did_as (sets control value) (sets control value) s s' p o (ap (λ (h : Held). h.tape) layers)
    shared (λ f reach l. refl) (is (reach_in (strip_of s) p))

pub ruleset setting = (whole_set, set_in_range, did_set)
