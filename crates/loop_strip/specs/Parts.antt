-- What a strip's parts are seen as, and what always holds of them: the loop is one that a run may
-- reach, the layers are open exactly in a writing mode, and the strip knows whether a pin stands.
-- "States: what always holds" in docs/rules.md.
use Rattle.std.specs.Prelude.{◌≡◌, ℕ, is_some}
use Rattle.looper_rules.specs.Loop.{Deck as DeckOf, Controls as ControlsOf, Loop, is_writing}
use Rattle.looper_rules.specs.Values.{AreControls}
use Rattle.looper_rules.specs.States.{IsLoop}
use Rattle.loop_strip.specs.Strips.{StripOf}
use Rattle.loop_strip.specs.declared.deck.Deck.{Deck}
use Rattle.loop_strip.specs.declared.deck.Controls.{Controls}
use Rattle.loop_strip.specs.declared.parts.Parts.{Parts}

abbrev pub deck_of : Deck → DeckOf
deck_of d = record {
  mode = d.mode;
  rounding = d.rounding;
  pos = d.pos;
  backward =
      d.backward;
  waiting = d.waiting;
  press = d.press;
}

abbrev pub controls_of : Controls → ControlsOf
controls_of c = record {
  feedback = c.feedback;
  wet = c.wet;
  round = c.round;
  quantize =
      c.quantize;
  rec_thresh = c.rec_thresh;
}

-- the loop over addresses
abbrev pub loop_of : Parts → Loop ℕ
loop_of s = record {
  deck = deck_of s.deck;
  controls = controls_of s.controls;
  refused =
      s.refused;
  stack = s.layers.stack;
}

-- the strip of these parts
abbrev pub strip_of : Parts → StripOf
strip_of s = record { loop = loop_of s; tape = s.layers.tape }

-- what always holds of a strip's parts
pub record IsWhole (s : Parts) : Type 0 where
  pub loop : IsLoop (loop_of s)
  pub writing : s.layers.writing ≡ is_writing s.deck.mode
  pub pinned : is_some s.layers.stack.pin ≡ s.pinned
  pub controls : AreControls (controls_of s.controls)
