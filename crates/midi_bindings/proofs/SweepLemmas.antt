-- What a binding gives at an event may be played: a sweep's value lies between its ends.
use Rattle.std.proofs.Common.{arith, ℕ, zero, suc, ◌+◌, ◌-◌, ◌*◌, ◌/◌, ◌≤◌, ◌<◌, ◌≡◌, Bool, true, false, List, [], ◌∷◌, refl, sym, ap, ap₂, ◌∙◌, subst, Some, None, Option}
use Rattle.std.specs.Prelude.{ℤ, pos, negsuc, neg_ℤ, ◌==◌, ◌*ℤ◌, ◌-ℤ◌, int_div, IsTrue, nat_le, ◌&&◌, if◌then◌else◌}
use Rattle.std.proofs.Math.Nat.{div-le_of_le-mul, mul-le-mul_left}
use Rattle.std.proofs.lemmas.Int.{ints}
use Rattle.std.proofs.lemmas.Bool.{and_parts, leb-true, leb-false, le-leb}
use Rattle.std.specs.List.{AllByRecursion}
use Rattle.sl_commands.specs.declared.command.Command.{Command}
use Rattle.sl_commands.specs.declared.command.Command.TheVariants as commands
use Rattle.sl_commands.specs.declared.control.Control.{Control}
use Rattle.sl_commands.specs.declared.control.Control.TheVariants as controls
use Rattle.sl_commands.specs.declared.control.Range.TheVariants.{Between}
use Rattle.sl_commands.specs.Controls.{is_of_loop, is_in_range, is_within}
use Rattle.midi_reader.specs.declared.event.MidiEvent.{MidiEvent}
use Rattle.midi_reader.specs.declared.event.MidiEvent.TheVariants as events
use Rattle.midi_reader.specs.Events.{IsEvent}
use Rattle.midi_bindings.specs.declared.binding.Binding.{Binding}
use Rattle.midi_bindings.specs.declared.binding.Binding.TheVariants.{Give, Sweep}
use Rattle.text_lines.specs.Presses.{is_press}
use Rattle.midi_bindings.specs.Lines.{is_binding}
use Rattle.midi_bindings.specs.Lookups.{is_event_of, swept, given, first_of, looked_up}
use Rattle.midi_bindings.specs.Played.{MayBePlayed}
use Rattle.midi_bindings.proofs.BindingLemmas.{give_parts, sweep_parts}

-- a part of a span is no more than the span
part_within : (span value : ℕ) → value < 128 → span * value / 127 ≤ span
part_within span value small =
    let most : span * value ≤ span * 127 = mul-le-mul_left span (omega (arith, small)) in
    div-le_of_le-mul 127 (omega (arith, most))

-- the span from the low end up, and down
span_up : (low span : ℕ) → pos (low + span) -ℤ pos low ≡ pos span
span_up low span = omega (arith, ints)

span_down : (high span : ℕ) → pos high -ℤ pos (high + suc span) ≡ negsuc span
span_down high span = omega (arith, ints)

swept_up : (low span value : ℕ) →
    swept (pos low) (pos (low + span)) value ≡ pos (low + span * value / 127)
swept_up low span value = rw (span_up low span) refl

-- a range has what lies between two numbers that it has
in_between : (least greatest first loops a b k : ℕ) →
    IsTrue (is_within (Between least greatest first) loops (pos a)) →
    IsTrue (is_within (Between least greatest first) loops (pos b)) → a ≤ k → k ≤ b →
    IsTrue (is_within (Between least greatest first) loops (pos k))
in_between least greatest first loops a b k low high from to =
    let l = and_parts (nat_le least a) (nat_le a greatest) low in
    let h = and_parts (nat_le least b) (nat_le b greatest) high in
    let least_a = leb-true least a l.0 in
    let b_greatest = leb-true b greatest h.1 in
    ap₂ (λ x y. x && y) (le-leb least k (omega (arith, least_a, from)))
    (le-leb k greatest (omega (arith, b_greatest, to)))

-- the quotient of a number that isn't above 0
quotient_down : (n : ℕ) → int_div (neg_ℤ (pos n)) (pos 127) ≡ neg_ℤ (pos (n / 127))
quotient_down zero = refl
quotient_down (suc n) = refl

-- the span from the high end down, times a value
product_down : (high span value : ℕ) →
    (pos high -ℤ pos (high + span)) *ℤ pos value ≡ neg_ℤ (pos (span * value))
product_down high zero value =
    let none : pos high -ℤ pos (high + zero) ≡ pos 0 = omega (arith, ints) in
    let no_part : zero * value ≡ 0 = omega arith in
    rw none (ap pos no_part ∙ sym (ap (λ n. neg_ℤ (pos n)) no_part))
product_down high (suc span) value = rw (span_down high span) refl

swept_down : (high span value : ℕ) → span * value / 127 ≤ span →
    swept (pos (high + span)) (pos high) value ≡ pos (high + span - span * value / 127)
swept_down high span value few =
    rw (product_down high span value) (rw (quotient_down (span * value)) (omega (arith, ints, few)))

-- a value of a sweep between numbers is in a range that has both
swept_between : (least greatest first loops l h value : ℕ) (up : Bool) → nat_le l h ≡ up →
    value < 128 → IsTrue (is_within (Between least greatest first) loops (pos l)) →
    IsTrue (is_within (Between least greatest first) loops (pos h)) →
    IsTrue (is_within (Between least greatest first) loops (swept (pos l) (pos h) value))
swept_between least greatest first loops l h value true e small low high =
    let span = h - l in
    let is_high : h ≡ l + span = omega (arith, leb-true l h e) in
    let part = part_within span value small in
    rw (ap (λ x. swept (pos l) (pos x) value) is_high ∙ swept_up l span value)
    (in_between least greatest first loops l h (l + span * value / 127) low high (omega arith)
    (omega (arith, is_high, part)))
swept_between least greatest first loops l h value false e small low high =
    let span = l - h in
    let is_low : l ≡ h + span = omega (arith, leb-false l h e) in
    let part = part_within span value small in
    rw (ap (λ x. swept (pos x) (pos h) value) is_low ∙ swept_down h span value part)
    (in_between least greatest first loops h l (h + span - span * value / 127) high low
    (omega (arith, part)) (omega (arith, is_low, part)))

-- a value of a sweep is in a range that has both its ends
swept_in : (least greatest first loops : ℕ) (low high : ℤ) (value : ℕ) → value < 128 →
    IsTrue (is_within (Between least greatest first) loops low) →
    IsTrue (is_within (Between least greatest first) loops high) →
    IsTrue (is_within (Between least greatest first) loops (swept low high value))
swept_in least greatest first loops (negsuc l) high value small low_in high_in = absurd (cc)
swept_in least greatest first loops (pos l) (negsuc h) value small low_in high_in = absurd (cc)
swept_in least greatest first loops (pos l) (pos h) value small low_in high_in =
    swept_between least greatest first loops l h value (nat_le l h) refl small low_in high_in

-- so a control of a loop is in range
swept_in_range : (control : Control) (loops : ℕ) (low high : ℤ) (value : ℕ) →
    is_of_loop control ≡ true → value < 128 → IsTrue (is_in_range control low loops) →
    IsTrue (is_in_range control high loops) →
    IsTrue (is_in_range control (swept low high value) loops)
swept_in_range controls.Feedback loops low high value is small from to =
    swept_in 0 1000 1000 loops low high value small from to
swept_in_range controls.Wet loops low high value is small from to =
    swept_in 0 1000 1000 loops low high value small from to
swept_in_range controls.Round loops low high value is small from to =
    swept_in 0 1 0 loops low high value small from to
swept_in_range controls.Quantize loops low high value is small from to =
    swept_in 0 3 0 loops low high value small from to
swept_in_range controls.RecThresh loops low high value is small from to =
    swept_in 0 8388607 0 loops low high value small from to
swept_in_range controls.State loops low high value is small from to = absurd (cc)
swept_in_range controls.LoopLen loops low high value is small from to = absurd (cc)
swept_in_range controls.LoopPos loops low high value is small from to = absurd (cc)
swept_in_range controls.CycleLen loops low high value is small from to = absurd (cc)
swept_in_range controls.Waiting loops low high value is small from to = absurd (cc)
swept_in_range controls.Layers loops low high value is small from to = absurd (cc)
swept_in_range controls.RedoLayers loops low high value is small from to = absurd (cc)
swept_in_range controls.Refused loops low high value is small from to = absurd (cc)
swept_in_range controls.Reversed loops low high value is small from to = absurd (cc)
swept_in_range controls.FreeTime loops low high value is small from to = absurd (cc)
swept_in_range controls.Dry loops low high value is small from to = absurd (cc)
swept_in_range controls.SyncSource loops low high value is small from to = absurd (cc)
swept_in_range controls.SelectedLoopNum loops low high value is small from to = absurd (cc)
swept_in_range controls.FadeStep loops low high value is small from to = absurd (cc)
swept_in_range controls.LongPress loops low high value is small from to = absurd (cc)
swept_in_range controls.Pulse loops low high value is small from to = absurd (cc)

-- a press may be played
press_may : (loops : ℕ) (command : Command) → IsTrue (is_press loops command) →
    MayBePlayed loops command
press_may loops (commands.Down target verb) is = record { played = refl; allowed = is }
press_may loops (commands.Up target verb) is = record { played = refl; allowed = is }
press_may loops (commands.Hit target verb) is = record { played = refl; allowed = is }
press_may loops (commands.Set target control value) is = absurd (cc)
press_may loops (commands.SetGlobal control value) is = absurd (cc)
press_may loops (commands.Get target control) is = absurd (cc)
press_may loops (commands.GetGlobal control) is = absurd (cc)
press_may loops (commands.SaveLoop target name) is = absurd (cc)
press_may loops (commands.SaveSession name) is = absurd (cc)
press_may loops (commands.Release target outcome) is = absurd (cc)
press_may loops commands.Quit is = absurd (cc)

-- a choice that gave something gave this
chosen : (test : Bool) (c d : Command) → (if test then Some c else None) ≡ Some d → c ≡ d
chosen true c d e = cc
chosen false c d e = absurd (cc)

-- what a binding gives at an event may be played
given_may : (loops : ℕ) (binding : Binding) (event : MidiEvent) (command : Command) →
    IsTrue (is_binding loops binding) → IsEvent event → given binding event ≡ Some command →
    MayBePlayed loops command
given_may loops (Give kind channel number press) event command is event_is e =
    subst (MayBePlayed loops)
    (chosen (is_event_of kind channel number event) press command e)
    (press_may loops press (give_parts loops kind channel number press is).press)
given_may loops (Sweep channel number target control low high) (events.ControlChange c n value)
    command is event_is e =
    let parts = sweep_parts loops channel number target control low high is in
    subst (MayBePlayed loops)
    (chosen (c == channel && n == number) (commands.Set target control (swept low high value))
    command e)
    (record {
      played = refl;
      allowed = ap₂ (λ x y. x && y)
          (ap₂ (λ x y. x && y) parts.has_target parts.of_loop)
          (swept_in_range control loops low high value parts.of_loop event_is.2 parts.from_low
          parts.to_high);
    })
given_may loops (Sweep channel number target control low high) (events.NoteOff c n)
    command is event_is e = absurd (cc)
given_may loops (Sweep channel number target control low high) (events.NoteOn c n v)
    command is event_is e = absurd (cc)
given_may loops (Sweep channel number target control low high) (events.PolyPressure c n a)
    command is event_is e = absurd (cc)
given_may loops (Sweep channel number target control low high) (events.ProgramChange c n)
    command is event_is e = absurd (cc)
given_may loops (Sweep channel number target control low high) (events.Pressure c a)
    command is event_is e = absurd (cc)
given_may loops (Sweep channel number target control low high) (events.PitchBend c a)
    command is event_is e = absurd (cc)
given_may loops (Sweep channel number target control low high) (events.Real b)
    command is event_is e = absurd (cc)

-- the first that gives something, or one of the others
first_may : (loops : ℕ) (binding : Binding) (event : MidiEvent) (command : Command)
    (gives others : Option Command) → given binding event ≡ gives →
    IsTrue (is_binding loops binding) → IsEvent event →
    (others ≡ Some command → MayBePlayed loops command) →
    first_of gives others ≡ Some command → MayBePlayed loops command
first_may loops binding event command (Some c) others gives is event_is rest e =
    given_may loops binding event command is event_is (gives ∙ e)
first_may loops binding event command None others gives is event_is rest e = rest e

-- what is looked up is what one of the lines gives
pub looked_up_may : (loops : ℕ) (bindings : List Binding) (event : MidiEvent) (command : Command) →
    AllByRecursion (λ binding. IsTrue (is_binding loops binding)) bindings → IsEvent event →
    looked_up bindings event ≡ Some command → MayBePlayed loops command
looked_up_may loops [] event command are event_is e = absurd (cc)
looked_up_may loops (binding ∷ bindings) event command are event_is e =
    first_may loops binding event command (given binding event) (looked_up bindings event) refl
    are.0 event_is (looked_up_may loops bindings event command are.1 event_is) e
